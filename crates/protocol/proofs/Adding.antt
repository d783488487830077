-- One byte added, and one row of bytes after another.
use Rattle.std.proofs.Common.{◌≡◌, ℕ, ◌+◌, ◌≤◌, Bool, true, false, leb, List, [], ◌++◌, length, take, drop, Some, None, sym, refl, ap, ◌∙◌, subst, arith}
use Rattle.std.proofs.lemmas.List.{append_assoc, append-nil, length-append, drop-drop}
use Rattle.std.proofs.lemmas.Slice.{take-put_mid, drop-put_mid}
use borrow.Rule.Slice.PartMut.{put_mid}
use Rattle.std.proofs.lemmas.Bool.{and_from, and_left, and_right}
use Rattle.protocol.specs.Added.{Added, Wrote}

pub added_then : (at mid to : ℕ) (bs cs x y z : List ℕ) → Added at mid bs x y → Added mid to cs y z → Added at to (bs ++ cs) x z
added_then at mid to bs cs x y z p q =
    record {
      ends = simp length-append (omega (arith, p.ends, q.ends));
      front = q.front ∙ ap (λ t. t ++ cs) p.front ∙ append_assoc (take at x) bs cs;
      rest = q.rest ∙ further;
    }
  where
    further : drop to y ≡ drop to x
    further = rw q.ends (sym (drop-drop (length cs) mid y) ∙ ap (drop (length cs)) p.rest ∙ drop-drop (length cs) mid x)

pub added-last : (at to : ℕ) (bs x y : List ℕ) → Added at to bs x y → Added at to (bs ++ []) x y
added-last at to bs x y p = let P : List ℕ → Type 0 = λ t. Added at to t x y in subst P (sym (append-nil bs)) p

-- the same bytes, written another way
pub added-as : (at to : ℕ) (bs cs x y : List ℕ) → bs ≡ cs → Added at to bs x y → Added at to cs x y
added-as at to bs cs x y e p = let P : List ℕ → Type 0 = λ t. Added at to t x y in subst P e p

-- a part of the row is written whole: zs is what it holds then
pub added-part : (at size n : ℕ) (old ys zs : List ℕ) → n ≡ size → length ys ≡ size → at + size ≤ length old → zs ≡ ys → Added at (at + size) ys old (put_mid at n old zs)
added-part at size n old ys zs e l h z =
    let P : List ℕ → Type 0 = λ t. Added at (at + size) ys old (put_mid at n old t) in
    subst P (sym z)
    (record {
      ends = omega arith;
      front = take-put_mid at n old ys (at + size) (omega arith) (omega arith);
      rest = drop-put_mid at n old ys (at + size) (omega arith) (omega arith) (omega arith);
    })

-- all is written
pub wrote-row : (had : Bool) (at to n : ℕ) (bs x y : List ℕ) → had ≡ true → leb (at + n) (length x) ≡ true → n ≡ length bs → Added at to bs x y →
    Wrote had at bs x y (Some n)
wrote-row had at to n bs x y h r e p =
    let t : to ≡ at + n = p.ends ∙ ap (λ m. at + m) (sym e) in
    let P : ℕ → Type 0 = λ m. Added at m bs x y in
    (and_from had (leb (at + length bs) (length x)) h (ap (λ m. leb (at + m) (length x)) (sym e) ∙ r), e, subst P t p)

pub wrote : (at to n : ℕ) (bs x y : List ℕ) → leb (at + n) (length x) ≡ true → n ≡ length bs → Added at to bs x y → Wrote true at bs x y (Some n)
wrote at to n bs x y r e p = wrote-row true at to n bs x y refl r e p

-- nothing is written, for want of room, or of what was to be written
pub no_room : (had : Bool) (at n : ℕ) (bs x : List ℕ) → leb (at + n) (length x) ≡ false → n ≡ length bs → Wrote had at bs x x None
no_room had at n bs x r e = (and_right had (leb (at + length bs) (length x)) (ap (λ m. leb (at + m) (length x)) (sym e) ∙ r), refl)

pub not-had : (had : Bool) (at : ℕ) (bs x : List ℕ) → had ≡ false → Wrote had at bs x x None
not-had had at bs x h = (and_left had (leb (at + length bs) (length x)) h, refl)
