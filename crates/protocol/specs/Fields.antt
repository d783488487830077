-- The fields of a format: what each carries, how it is spelled in bytes, and how it is read at a place.
use Rattle.std.specs.Prelude.{ℕ, zero, suc, ◌+◌, ◌*◌, ◌/◌, ◌%◌, ◌<◌, Bool, true, false, List, [], ◌∷◌, ◌++◌, length, drop, ℤ, pos, ◌+ℤ◌, ◌-ℤ◌, Ok, Err, Result, ◌==◌, int_lt, nat_lt, slice_index, unsigned_abs}
use Rattle.model.specs.Basics.{pick}

-- a row of bytes
abbrev pub Bytes : List ℕ → Type 0
Bytes xs = (i : ℕ) → slice_index xs i < 256

-- Numbers in bytes, the low byte first.

-- the number in the first w bytes of a row
unfoldable pub number : ℕ → List ℕ → ℕ
number zero xs = 0
number (suc w) [] = 0
number (suc w) (x ∷ xs) = x + 256 * number w xs

-- a number as w bytes
abbrev pub digits : ℕ → ℕ → List ℕ
digits zero v = []
digits (suc w) v = v % 256 ∷ digits w (v / 256)

-- n numbers of w bytes each, one after another
unfoldable pub numbers : ℕ → ℕ → List ℕ → List ℕ
numbers w zero xs = []
numbers w (suc n) xs = number w xs ∷ numbers w n (drop w xs)

unfoldable pub all_digits : ℕ → List ℕ → List ℕ
all_digits w [] = []
all_digits w (v ∷ vs) = digits w v ++ all_digits w vs

-- a number below twice h as one with sign, from −h up to h − 1: the upper half stands for those below 0
unfoldable pub signed : ℕ → ℕ → ℤ
signed h n = pick (nat_lt n h) (pos n) (pos n -ℤ pos (h + h))

unfoldable pub unsigned : ℕ → ℤ → ℕ
unsigned h z = unsigned_abs (pick (int_lt z (pos 0)) (z +ℤ pos (h + h)) z)

-- A mark is the byte 0 or 1.
abbrev pub marked : Bool → ℕ
marked false = 0
marked true = 1

-- The kinds of fields.
pub data Field : Type 0 where
  -- one byte, below the number of programs
  program : Field
  -- one byte
  byte : Field
  -- so many bytes, without sign
  plain : ℕ → Field
  -- two bytes with sign
  near : Field
  -- four bytes with sign
  far : Field
  -- one byte, 0 or 1
  mark : Field
  -- this one byte, which says nothing
  only : ℕ → Field
  -- how many there are, in two bytes, and then so many numbers of this width
  row : ℕ → Field

-- what a field says
abbrev pub Says : Field → Type 0
Says program = ℕ
Says byte = ℕ
Says (plain w) = ℕ
Says near = ℤ
Says far = ℤ
Says mark = Bool
Says (only b) = Unit {0}
Says (row w) = List ℕ

-- its bytes
abbrev pub spell : (f : Field) → Says f → List ℕ
spell program v = v ∷ []
spell byte v = v ∷ []
spell (plain w) v = digits w v
spell near v = digits 2 (unsigned 32768 v)
spell far v = digits 4 (unsigned 2147483648 v)
spell mark v = marked v ∷ []
spell (only b) v = b ∷ []
spell (row w) v = digits 2 (length v) ++ all_digits w v

-- A field at the byte k + o of a row, where what it is a part of begins at k: what it says, and how far from k it ends; or the first byte in fault.
-- Of the numbers of programs there are p. A byte that is missing is in fault at the row's length.
abbrev pub Found : Type 0 → Type 0
Found A = Result (A × ℕ) ℕ

-- the next w bytes have to be there
abbrev pub there : {A : Type 0} → List ℕ → ℕ → Found A → Found A
there bs to r = pick (nat_lt (length bs) to) (Err (length bs)) r

abbrev pub field : (f : Field) → ℕ → List ℕ → ℕ → ℕ → Found (Says f)
field program p bs k o = there bs (k + (o + 1)) (pick (nat_lt (slice_index bs (k + o)) p) (Ok (slice_index bs (k + o), o + 1)) (Err (k + o)))
field byte p bs k o = there bs (k + (o + 1)) (Ok (slice_index bs (k + o), o + 1))
field (plain w) p bs k o = there bs (k + (o + w)) (Ok (number w (drop (k + o) bs), o + w))
field near p bs k o = there bs (k + (o + 2)) (Ok (signed 32768 (number 2 (drop (k + o) bs)), o + 2))
field far p bs k o = there bs (k + (o + 4)) (Ok (signed 2147483648 (number 4 (drop (k + o) bs)), o + 4))
field mark p bs k o =
    there bs (k + (o + 1)) (pick (slice_index bs (k + o) == 0) (Ok (false, o + 1)) (pick (slice_index bs (k + o) == 1) (Ok (true, o + 1)) (Err (k + o))))
field (only b) p bs k o = there bs (k + (o + 1)) (pick (slice_index bs (k + o) == b) (Ok (tt, o + 1)) (Err (k + o)))
field (row w) p bs k o =
    there bs (k + (o + 2)) (there bs (k + (o + 2 + w * number 2 (drop (k + o) bs)))
    (Ok (numbers w (number 2 (drop (k + o) bs)) (drop (k + (o + 2)) bs), o + 2 + w * number 2 (drop (k + o) bs))))

-- Several fields, one after another.

-- what is made of what the fields say, one by one
abbrev pub From : List Field → Type 0 → Type 0
From [] A = A
From (f ∷ fs) A = Says f → From fs A

abbrev pub then : {A B : Type 0} → Found A → (A → ℕ → Found B) → Found B
then (Ok r) g = g r.0 r.1
then (Err e) g = Err e

-- fields from the byte k + o on, and what is made of them
abbrev pub decode : {A : Type 0} (fs : List Field) → From fs A → ℕ → List ℕ → ℕ → ℕ → Found A
decode [] m p bs k o = Ok (m, k + o)
decode (f ∷ fs) m p bs k o = then (field f p bs k o) (λ v to. decode fs (m v) p bs k to)

-- their bytes, behind what `before` puts in front
abbrev pub spelled : (fs : List Field) → (List ℕ → List ℕ) → From fs (List ℕ)
spelled [] before = before []
spelled (f ∷ fs) before = λ v. spelled fs (λ rest. before (spell f v ++ rest))
