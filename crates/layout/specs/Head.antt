-- The head of the lent work: the first 2048 of its words of 32 bits, which hold the sizes and the state.
-- A word with two numbers has the first in its lower half; a place on the desk is stored 32768 more than it is; bytes stand four in a word, lowest first.
--   0 to 5         the six sizes
--   6              the pointer: x and y
--   7              the windows that have the keys and the pointer: their numbers + 1, or 0
--   8              how many bytes the clipboard has, and the program that offered them + 1, or 0
--   9              how many windows stand in the order
--   10 to 73       the order, from the back to the front, as bytes
--   74 to 1097     the clipboard's bytes
--   1098 to 1862   three words for each of 255 windows
--   1863 to 2047   spare
use Rattle.std.specs.Prelude.{ℕ, zero, suc, ◌+◌, ◌-◌, ◌*◌, ◌/◌, ◌%◌, Bool, true, false, ◌&&◌, ◌||◌, List, [], ◌∷◌, map, length, ℤ, pos, ◌-ℤ◌, is_some, Some, None, Option, ◌==◌, nat_eq, nat_le, nat_lt, slice_index, slice_index_or}
use Rattle.std.specs.List.{range_with_len}
use Rattle.model.specs.Basics.{pick, bit}
use Rattle.model.specs.Desk as desk
use Rattle.model.specs.Desk.{Desk, area}
use Rattle.model.specs.Promise.{times}
use Rattle.stack.specs.declared.state.Window.{Window}
use Rattle.stack.specs.View.{view, packed}
use Rattle.layout.specs.Sizes.{built}
use Rattle.layout.specs.Budget.{start_refusal}

-- where the parts of the head begin, and where it ends
abbrev pub order_at : ℕ
order_at = 10

abbrev pub clip_at : ℕ
clip_at = 74

abbrev pub table_at : ℕ
table_at = 1098

abbrev pub spare_at : ℕ
spare_at = 1863

abbrev pub head_end : ℕ
head_end = 2048

abbrev pub word : List ℕ → ℕ → ℕ
word work k = slice_index work k

-- the halves of a word
abbrev pub low : ℕ → ℕ
low w = w % 65536

abbrev pub high : ℕ → ℕ
high w = w / 65536

-- a place on the desk, as it is stored
abbrev pub place : ℕ → ℤ
place v = pos v -ℤ pos 32768

-- the byte j of a word
abbrev pub byte_of : ℕ → ℕ → ℕ
byte_of w zero = w % 256
byte_of w (suc zero) = w / 256 % 256
byte_of w (suc (suc zero)) = w / 65536 % 256
byte_of w (suc (suc (suc j))) = w / 16777216 % 256

-- the byte i from a word on, and the first n of them
abbrev pub byte_in : List ℕ → ℕ → ℕ → ℕ
byte_in work at i = byte_of (word work (at + i / 4)) (i % 4)

abbrev pub bytes_in : List ℕ → ℕ → ℕ → List ℕ
bytes_in work at n = map (byte_in work at) (range_with_len 0 n)

-- the three words of a window: its owner, 256 where it is shown and 65536 where it is there; its place; its sides. Its picture lies behind those of the
-- windows with lower numbers, so where it begins is not stored
abbrev pub entry : ℕ → ℕ → ℕ → Option Window
entry a b c =
    pick (high a == 0) None
    (Some (record { owner = a % 256; shown = (a / 256 % 256 == 1); x = place (low b); y = place (high b); wide = low c; high = high c; at = 0 }))

-- the flags of an entry: one that is there has a 0 or a 1 for each
abbrev pub flagged : ℕ → Bool
flagged a = high a == 0 || (high a == 1 && nat_le (a / 256 % 256) 1)

-- the window n of a table that begins at a word
abbrev pub entry_at : List ℕ → ℕ → ℕ → Option Window
entry_at work at n = entry (word work (at + 3 * n)) (word work (at + 3 * n + 1)) (word work (at + 3 * n + 2))

-- a window that is there belongs to a program that there is, and has sides that the sizes allow
abbrev pub shaped : desk.Sizes → Option Window → Bool
shaped z None = true
shaped z (Some w) = nat_lt w.owner z.programs && ((nat_le 1 w.wide && nat_le w.wide z.side) && (nat_le 1 w.high && nat_le w.high z.side))

-- a test holds of each number below n
abbrev pub each : (ℕ → Bool) → ℕ → Bool
each f zero = true
each f (suc n) = f n && each f n

-- a test holds of each number of a list
abbrev pub all_of : (ℕ → Bool) → List ℕ → Bool
all_of f [] = true
all_of f (x ∷ xs) = f x && all_of f xs

-- each window that is there stands in the order once, and no other
abbrev pub orderly : List (Option Window) → List ℕ → Bool
orderly os o = each (λ n. nat_eq (times n o) (bit (is_some (slice_index_or os n None)))) (length os) && all_of (λ n. nat_lt n (length os)) o

-- a window's number + 1, or 0: if it is one, the window is there
abbrev pub handed : List (Option Window) → ℕ → Bool
handed os k = k == 0 || is_some (slice_index_or os (k - 1) None)

unfoldable pub sizes_in : List ℕ → desk.Sizes
sizes_in work =
    record { wide = word work 0; high = word work 1; windows = word work 2; programs = word work 3; side = word work 4; dots = word work 5; built = built }

-- the windows that can be made, with their pictures one after another
abbrev pub table_in : List ℕ → List (Option Window)
table_in work = packed 0 (map (entry_at work table_at) (range_with_len 0 (word work 2)))

abbrev pub order_in : List ℕ → List ℕ
order_in work = bytes_in work order_at (word work 9)

-- the desk that a work holds, with what the lent pictures hold
unfoldable pub desk_in : List ℕ → List ℕ → Desk
desk_in work p =
    record {
      windows = map (view p) (table_in work);
      order = order_in work;
      px = place (low (word work 6));
      py = place (high (word work 6));
      keys = low (word work 7);
      held = high (word work 7);
      clip_of = high (word work 8);
      clip = bytes_in work clip_at (low (word work 8));
    }

-- the entries, as words and as windows
abbrev pub entries_sound : List ℕ → Bool
entries_sound work = each (λ n. flagged (word work (table_at + 3 * n)) && shaped (sizes_in work) (entry_at work table_at n)) (word work 2)

abbrev pub stack_sound : List ℕ → Bool
stack_sound work =
    (nat_le (word work 9) 255 && entries_sound work) && (orderly (table_in work) (order_in work) && nat_le (area (map (view []) (table_in work))) (word work 5))

abbrev pub hands_sound : List ℕ → Bool
hands_sound work = handed (table_in work) (low (word work 7)) && handed (table_in work) (high (word work 7))

-- a clipboard that fits, and a program's number that fits a byte
abbrev pub clipped : ℕ → Bool
clipped w = nat_le (low w) 4096 && nat_le (high w) 256

abbrev pub clip_sound : List ℕ → Bool
clip_sound work = clipped (word work 8)

-- the sizes are in their ranges, and pictures of so many dots and the work itself have room for what they want
abbrev pub room_sound : List ℕ → ℕ → Bool
room_sound work size = pick (is_some (start_refusal (sizes_in work) size (length work))) false true

-- a work that a start and events have made, for pictures of so many dots
unfoldable pub sound_in : List ℕ → ℕ → Bool
sound_in work size = room_sound work size && (stack_sound work && (clip_sound work && hands_sound work))
