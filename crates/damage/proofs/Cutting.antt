-- The words of cells, one by one and row by row.
use Rattle.std.proofs.Common.{◌≡◌, ℕ, ◌+◌, ◌-◌, ◌*◌, ◌<◌, ◌≤◌, Bool, true, false, ◌&&◌, ltb, List, [], ◌∷◌, ◌++◌, length, get_or, drop, sym, refl, ap, ◌∙◌, subst, arith, le-ltb, lt-ltb}
use Rattle.std.proofs.lemmas.Bool.Decides.{nat_tests}
use Rattle.std.proofs.lemmas.Bool.{and_left, and_right}
use Rattle.std.proofs.lemmas.List.{append-nil, append_assoc, drop_more, drop_all}
use Rattle.model.specs.Desk.{dot}
use Rattle.model.specs.System as system
use Rattle.model.specs.System.{coloured}
use Rattle.model.specs.Grid.{sides, cell, row_cells, cells}
use Rattle.model.proofs.Picks.{pick_true, pick-false}
use Rattle.layout.specs.State.{desk_of}
use Rattle.layout.specs.declared.state.State.{State}
use Rattle.geometry.specs.declared.Rect.{Rect}
use Rattle.geometry.specs.Boxes.{Empty}
use Rattle.damage.specs.Encode.{encode}
use Rattle.damage.specs.Cells.{dot_rows, words_of, row_of, cells_of, Even, Low}
use Rattle.damage.proofs.Left.{Left, left_by}
use Rattle.damage.proofs.Dots.{coloured-rows, rows-length}

-- one box
pub box-words : (s : State) (p : List ℕ) (a b c d : ℕ) → a < b →
    (a + 65536 * c) ∷ (b - a + 65536 * (d - c)) ∷ dot_rows (dot (desk_of s p)) a (b - a) c (d - c) ≡ words_of s p (sides a b c d ∷ [])
unfolding encode coloured
box-words s p a b c d h =
    ap (λ t. (a + 65536 * c) ∷ (b - a + 65536 * (d - c)) ∷ t)
    (sym (append-nil (coloured (dot (desk_of s p)) (sides a b c d)).dots ∙ coloured-rows (dot (desk_of s p)) (sides a b c d) (omega arith)))

pub box-length : (s : State) (p : List ℕ) (a b c d : ℕ) → a < b → length (words_of s p (sides a b c d ∷ [])) ≡ 2 + (d - c) * (b - a)
box-length s p a b c d h = sym (ap length (box-words s p a b c d h)) ∙ rw (rows-length (dot (desk_of s p)) a (b - a) c (d - c)) (omega arith)

-- one after another
pub words_append : (s : State) (p : List ℕ) (rs qs : List system.Rect) → words_of s p (rs ++ qs) ≡ words_of s p rs ++ words_of s p qs
unfolding encode
words_append s p [] qs = refl
words_append s p (r ∷ rs) qs =
    let b = coloured (dot (desk_of s p)) r in
    ap (λ t. (b.x + 65536 * b.y) ∷ (b.wide + 65536 * b.high) ∷ t) (ap (λ t. b.dots ++ t) (words_append s p rs qs) ∙ sym (append_assoc b.dots (words_of s p rs) (words_of s p qs)))

-- a cell that is not sent, and one that is
pub cell-none : (f : ℕ → ℕ → Bool) (a b c d : ℕ) → ((ltb a b && ltb c d) && f a c) ≡ false → cell f a b c d ≡ []
cell-none f a b c d e = pick-false _ _ _ e

pub cell-one : (f : ℕ → ℕ → Bool) (a b c d : ℕ) → a < b → c < d → f a c ≡ true → cell f a b c d ≡ sides a b c d ∷ []
cell-one f a b c d h k e = pick_true ((ltb a b && ltb c d) && f a c) _ _ (rw (lt-ltb a b h, lt-ltb c d k, e))

words-none : (s : State) (p : List ℕ) → words_of s p [] ≡ []
unfolding encode
words-none s p = refl

pub cell-words-none : (s : State) (p : List ℕ) (f : ℕ → ℕ → Bool) (a b c d : ℕ) → ((ltb a b && ltb c d) && f a c) ≡ false → [] ≡ words_of s p (cell f a b c d)
cell-words-none s p f a b c d e = sym (ap (words_of s p) (cell-none f a b c d e) ∙ words-none s p)

pub rect-empty : (r : Rect) (b : Bool) → Empty true r → ((ltb r.left r.right && ltb r.top r.below) && b) ≡ false
rect-empty r b e = let h = e r.left r.top in grind (arith, nat_tests)

pub rect-full : (r : Rect) → Empty false r → (r.left < r.right) × (r.top < r.below)
rect-full r e = (grind (arith, nat_tests), grind (arith, nat_tests))

-- the next line
pub row_more : (s : State) (p : List ℕ) (f : ℕ → ℕ → Bool) (c d a k : ℕ) (xs : List ℕ) (b : ℕ) → k < length xs → b ≡ get_or xs k 0 →
    words_of s p (row_of f c d a (drop k xs)) ≡ words_of s p (cell f a b c d) ++ words_of s p (row_of f c d b (drop (k + 1) xs))
unfolding row_of
row_more s p f c d a k xs b h e = ap (λ t. words_of s p (row_of f c d a t)) (drop_more xs k 0 h) ∙ rw (← e) (words_append s p (cell f a b c d) (row_of f c d b (drop (k + 1) xs)))

-- and of what is left: its cell, or its row of cells, and then what is left behind it
pub row-left : (s : State) (p : List ℕ) (f : ℕ → ℕ → Bool) (c d a k : ℕ) (xs : List ℕ) (at₀ at : ℕ) (all old new : List ℕ) → k < length xs → Left at₀ at all (words_of s p (row_of f c d a (drop k xs))) old new →
    Left at₀ at all (words_of s p (cell f a (get_or xs k 0) c d) ++ words_of s p (row_of f c d (get_or xs k 0) (drop (k + 1) xs))) old new
row-left s p f c d a k xs at₀ at all old new h l =
    left_by at₀ at all (words_of s p (row_of f c d a (drop k xs))) _ old new (row_more s p f c d a k xs (get_or xs k 0) h refl) l

pub row-end : (s : State) (p : List ℕ) (f : ℕ → ℕ → Bool) (c d a k : ℕ) (xs : List ℕ) → length xs ≤ k → words_of s p (row_of f c d a (drop k xs)) ≡ []
unfolding row_of
row-end s p f c d a k xs h = ap (λ t. words_of s p (row_of f c d a t)) (drop_all k xs h) ∙ words-none s p

pub cells-more : (s : State) (p : List ℕ) (f : ℕ → ℕ → Bool) (xs : List ℕ) (c k : ℕ) (ys : List ℕ) (d : ℕ) → k < length ys → d ≡ get_or ys k 0 →
    words_of s p (cells_of f xs c (drop k ys)) ≡ words_of s p (row_of f c d 0 xs) ++ words_of s p (cells_of f xs d (drop (k + 1) ys))
unfolding cells_of
cells-more s p f xs c k ys d h e = ap (λ t. words_of s p (cells_of f xs c t)) (drop_more ys k 0 h) ∙ rw (← e) (words_append s p (row_of f c d 0 xs) (cells_of f xs d (drop (k + 1) ys)))

pub cells-left : (s : State) (p : List ℕ) (f : ℕ → ℕ → Bool) (xs : List ℕ) (c k : ℕ) (ys : List ℕ) (at₀ at : ℕ) (all old new : List ℕ) → k < length ys → Left at₀ at all (words_of s p (cells_of f xs c (drop k ys))) old new →
    Left at₀ at all (words_of s p (row_of f c (get_or ys k 0) 0 xs) ++ words_of s p (cells_of f xs (get_or ys k 0) (drop (k + 1) ys))) old new
cells-left s p f xs c k ys at₀ at all old new h l =
    left_by at₀ at all (words_of s p (cells_of f xs c (drop k ys))) _ old new (cells-more s p f xs c k ys (get_or ys k 0) h refl) l

pub cells-end : (s : State) (p : List ℕ) (f : ℕ → ℕ → Bool) (xs : List ℕ) (c k : ℕ) (ys : List ℕ) → length ys ≤ k → words_of s p (cells_of f xs c (drop k ys)) ≡ []
unfolding cells_of
cells-end s p f xs c k ys h = ap (λ t. words_of s p (cells_of f xs c t)) (drop_all k ys h) ∙ words-none s p

-- a row without dots
row-flat : (f : ℕ → ℕ → Bool) (c d a : ℕ) (xs : List ℕ) → d ≤ c → row_of f c d a xs ≡ []
unfolding row_of
row-flat f c d a [] h = refl
row-flat f c d a (b ∷ xs) h = ap (λ t. t ++ row_of f c d b xs) (cell-none f a b c d (and_left _ _ (and_right _ _ (le-ltb c d h)))) ∙ row-flat f c d b xs h

pub row-words-flat : (s : State) (p : List ℕ) (f : ℕ → ℕ → Bool) (c d a : ℕ) (xs : List ℕ) → d ≤ c → [] ≡ words_of s p (row_of f c d a xs)
row-words-flat s p f c d a xs h = sym (ap (words_of s p) (row-flat f c d a xs h) ∙ words-none s p)

-- the cells by their lines, of which the last is the end of the screen
rows-lines : (f : ℕ → ℕ → Bool) (w c d a : ℕ) (xs : List ℕ) → row_cells f w c d a xs ≡ row_of f c d a (xs ++ w ∷ [])
unfolding row_cells row_of
rows-lines f w c d a [] = sym (append-nil _)
rows-lines f w c d a (b ∷ xs) = ap (λ t. cell f a b c d ++ t) (rows-lines f w c d b xs)

pub cells-lines : (f : ℕ → ℕ → Bool) (w h : ℕ) (xs : List ℕ) (c : ℕ) (ys : List ℕ) → cells f w h xs c ys ≡ cells_of f (xs ++ w ∷ []) c (ys ++ h ∷ [])
unfolding cells cells_of
cells-lines f w h xs c [] = rows-lines f w c h 0 xs ∙ sym (append-nil _)
cells-lines f w h xs c (d ∷ ys) = ap (λ t. t ++ cells f w h xs d ys) (rows-lines f w c d 0 xs) ∙ ap (λ t. row_of f c d 0 (xs ++ w ∷ []) ++ t) (cells-lines f w h xs d ys)

-- what holds up to the next line, and behind it
pub even-more : (f : ℕ → ℕ) (a k : ℕ) (xs : List ℕ) → k < length xs → Even f a (drop k xs) → ((u : ℕ) → a ≤ u → u < get_or xs k 0 → f u ≡ f a) × Even f (get_or xs k 0) (drop (k + 1) xs)
even-more f a k xs h t = subst (Even f a) (drop_more xs k 0 h) t

pub low-more : (k : ℕ) (xs : List ℕ) → k < length xs → Low (drop k xs) → (get_or xs k 0 ≤ 32768) × Low (drop (k + 1) xs)
low-more k xs h t = subst Low (drop_more xs k 0 h) t
