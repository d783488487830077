-- The screen's side: words read as boxes, and what boxes make of a screen.
use Rattle.std.specs.Prelude.{◌≡◌, ℕ, zero, suc, ◌+◌, ◌*◌, ◌/◌, ◌%◌, ◌<◌, ◌≤◌, Bool, true, ◌&&◌, ◌⊎◌, List, [], ◌∷◌, ◌++◌, length, take, drop, Some, None, Option, nat_le, slice_index}
use Rattle.model.specs.Basics.{pick}
use Rattle.model.specs.Promise.{Box, with_boxes}
use Rattle.model.specs.System.{Formed}
use Rattle.damage.specs.Encode.{encode}
use Rattle.damage.specs.declared.head.Head.{Head}
use Rattle.damage.specs.declared.head.Size.{Size}

-- the dot i, j of a screen by rows
abbrev pub screen_at : ℕ → List ℕ → ℕ → ℕ → ℕ
screen_at wide s i j = slice_index s (j * wide + i)

-- what stands before a box's dots: two words, each with its first number in the lower half
abbrev pub head_of : ℕ → ℕ → Head
head_of p q = record { x = p % 65536; y = p / 65536; wide = q % 65536; high = q / 65536 }

-- the box with this head, whose dots are the next words
abbrev pub box_of : Head → List ℕ → Box
box_of h ws = record { x = h.x; y = h.y; wide = h.wide; high = h.high; dots = take (h.wide * h.high) ws }

-- a box with this head has dots and lies on the screen
abbrev pub lies_on : ℕ → ℕ → Head → Bool
lies_on wide high h = (nat_le 1 h.wide && nat_le 1 h.high) && (nat_le (h.x + h.wide) wide && nat_le (h.y + h.high) high)

-- and `left` words are enough for its dots
abbrev pub stands_on : ℕ → ℕ → ℕ → Head → Bool
stands_on wide high left h = lies_on wide high h && nat_le (h.wide * h.high) left

-- a box before those that follow, if they are boxes
abbrev pub before : Box → Option (List Box) → Option (List Box)
before b None = None
before b (Some bs) = Some (b ∷ bs)

-- at most n boxes, the words taken as `encode` writes them: two for the head, then the dots, then the other boxes
unfoldable pub up_to : ℕ → ℕ → ℕ → List ℕ → Option (List Box)
up_to n wide high [] = Some []
up_to n wide high (p ∷ []) = None
up_to zero wide high (p ∷ q ∷ ws) = None
up_to (suc n) wide high (p ∷ q ∷ ws) =
    let h = head_of p q in
    pick (stands_on wide high (length ws) h) (before (box_of h ws) (up_to n wide high (drop (h.wide * h.high) ws))) None

-- THE BOXES IN A ROW OF WORDS, no more of them than words: None where the words are no row of boxes that have dots and lie on the screen
abbrev pub boxes_in : ℕ → ℕ → List ℕ → Option (List Box)
boxes_in wide high ws = up_to (length ws) wide high ws

-- every box lies on the screen
abbrev pub OnScreen : ℕ → ℕ → List Box → Type 0
OnScreen wide high [] = Unit {0}
OnScreen wide high (b ∷ bs) = (b.x + b.wide ≤ wide) × (b.y + b.high ≤ high) × OnScreen wide high bs

-- how many dots the boxes have
abbrev pub areas : List Box → ℕ
areas [] = 0
areas (b ∷ bs) = b.wide * b.high + areas bs

-- the boxes are put onto a screen, and what lies behind the screen is as it was
pub record Shown (wide high : ℕ) (bs : List Box) (old new : List ℕ) : Type 0 where
  pub dots : (i j : ℕ) → i < wide → j < high → screen_at wide new i j ≡ with_boxes (screen_at wide old) bs i j
  pub behind : (k : ℕ) → wide * high ≤ k → slice_index new k ≡ slice_index old k
  pub len : length new ≡ length old

-- the words begin with a box on the screen that has this head and these dots, whatever follows it, and what follows it is the rest
pub record First (z : Size) (ws : List ℕ) (y : Size) (h : Head) (dots rest : List ℕ) : Type 0 where
  pub screen : y ≡ z
  pub is : h ≡ head_of (slice_index ws 0) (slice_index ws 1)
  pub on : lies_on z.wide z.high h ≡ true
  pub dots_are : dots ≡ take (h.wide * h.high) (drop 2 ws)
  pub rest_is : rest ≡ drop (h.wide * h.high) (drop 2 ws)
  pub read : boxes_in z.wide z.high ws ≡ before (box_of h dots) (boxes_in z.wide z.high rest)
  pub size : length dots ≡ h.wide * h.high
  pub ends : length ws ≡ 2 + (length dots + length rest)

-- so many boxes with so many dots stand in the words
pub record Counted (wide high : ℕ) (ws : List ℕ) (boxes dots : ℕ) : Type 0 where
  pub all : List Box
  pub read : boxes_in wide high ws ≡ Some all
  pub boxes_are : boxes ≡ length all
  pub dots_are : dots ≡ areas all

-- the boxes that stand in the words are counted and put onto the screen
pub record Put (wide high : ℕ) (ws old new : List ℕ) (boxes dots : ℕ) : Type 0 where
  pub room : wide * high ≤ length old
  pub counted : Counted wide high ws boxes dots
  pub shown : Shown wide high counted.all old new

-- the words are no row of boxes, or the slice is too short for the screen; nothing changes
pub record Refused (wide high : ℕ) (ws old new : List ℕ) : Type 0 where
  pub reason : (boxes_in wide high ws ≡ None) ⊎ (length old < wide * high)
  pub same : new ≡ old

-- what is read is what was written
unfoldable pub ReadIsWritten : Type 0
ReadIsWritten =
    (wide high : ℕ) (ws : List ℕ) (bs : List Box) → boxes_in wide high ws ≡ Some bs → (encode bs ≡ ws) × Formed bs × OnScreen wide high bs

-- what is written is read
unfoldable pub WrittenIsRead : Type 0
WrittenIsRead =
    (wide high : ℕ) (bs : List Box) → wide ≤ 65535 → high ≤ 65535 → Formed bs → OnScreen wide high bs → boxes_in wide high (encode bs) ≡ Some bs

-- two rows of words, one after the other, are the boxes of both
unfoldable pub RowsJoin : Type 0
RowsJoin =
    (wide high : ℕ) (ws vs : List ℕ) (bs cs : List Box) → boxes_in wide high ws ≡ Some bs → boxes_in wide high vs ≡ Some cs → boxes_in wide high (ws ++ vs) ≡ Some (bs ++ cs)

-- and to put both at once is to put one and then the other
unfoldable pub PutsJoin : Type 0
PutsJoin = (f : ℕ → ℕ → ℕ) (bs cs : List Box) (i j : ℕ) → with_boxes f (bs ++ cs) i j ≡ with_boxes (with_boxes f bs) cs i j
