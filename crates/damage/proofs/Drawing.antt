-- A box that is put onto a screen row by row.
use Rattle.std.proofs.Common.{◌≡◌, ℕ, ◌+◌, ◌-◌, ◌*◌, ◌<◌, ◌≤◌, true, ◌&&◌, List, [], ◌∷◌, get_or, take, sym, ◌∙◌, inl, inr, arith}
use Rattle.std.proofs.lemmas.List.{get_or-take}
use Rattle.std.proofs.lemmas.Bool.{and_parts, cases_Bool}
use Rattle.std.proofs.lemmas.Nat.{mul-add-lt}
use Rattle.model.specs.Basics.{pick, in_run, in_box}
use Rattle.model.specs.Promise.{with_box, with_boxes}
use Rattle.pixels.specs.Runs.{Changed}
use Rattle.pixels.specs.Pictures.{place}
use Rattle.pixels.proofs.Runs.{row-after, run-next, in_run-parts}
use Rattle.pixels.proofs.Rows.{Rows, rows_more}
use Rattle.damage.specs.Screen.{lies_on, box_of, screen_at, Shown}
use Rattle.damage.specs.declared.head.Head.{Head}
use Rattle.damage.proofs.Decoding.{lies-parts}

-- row r of a box ends before the screen does, and its dots before those of the box
pub row_room : (wide high : ℕ) (h : Head) (r : ℕ) → lies_on wide high h ≡ true → r < h.high →
    ((h.y + r) * wide + h.x + h.wide ≤ wide * high) × (r * h.wide + h.wide ≤ h.wide * h.high)
row_room wide high h r e l =
    let p = lies-parts wide high h e in
    (omega (arith, row-after (h.y + r) high wide (omega (arith, p.3)), p.2), omega (arith, row-after r h.high h.wide l))

-- the dot i, j of a box with these dots
abbrev pub dot-in : List ℕ → Head → ℕ → ℕ → ℕ
dot-in ds h i j = get_or ds ((j - h.y) * h.wide + (i - h.x)) 0

-- the first r rows of the box are on the screen
abbrev pub Drawn : ℕ → ℕ → Head → ℕ → List ℕ → List ℕ → List ℕ → Type 0
Drawn wide high h r ds old new = Rows 0 wide high h.x h.wide h.y r (dot-in ds h) old new

pub drawn-more : (wide high : ℕ) (h : Head) (r : ℕ) (ds old new new' : List ℕ) → lies_on wide high h ≡ true → r < h.high → Drawn wide high h r ds old new →
    Changed ((h.y + r) * wide + h.x) h.wide (λ k. get_or ds (r * h.wide + (k - ((h.y + r) * wide + h.x))) 0) new new' → Drawn wide high h (r + 1) ds old new'
drawn-more wide high h r ds old new new' e l p q =
    let s = lies-parts wide high h e in
    let z : 0 + (h.y + r) * wide + h.x ≡ (h.y + r) * wide + h.x = omega arith in
    rows_more 0 wide high h.x h.wide h.y r h.y (r + 1) (h.y + r) (dot-in ds h) (λ k. get_or ds (r * h.wide + (k - ((h.y + r) * wide + h.x))) 0) old new new'
    s.2 (omega (arith, s.3)) (run-next h.y r) p (rw z q) came
  where
    came : (i : ℕ) → h.x ≤ i → i < h.x + h.wide →
        get_or ds (r * h.wide + (place 0 wide i (h.y + r) - ((h.y + r) * wide + h.x))) 0 ≡ get_or ds (((h.y + r) - h.y) * h.wide + (i - h.x)) 0
    came i a b =
        let z : place 0 wide i (h.y + r) - ((h.y + r) * wide + h.x) ≡ i - h.x = omega arith in
        let y : (h.y + r) - h.y ≡ r = omega arith in
        rw (z, y)

-- all rows are: that is the box
pub drawn-all : (wide high : ℕ) (h : Head) (ds old new : List ℕ) → Drawn wide high h h.high ds old new → Shown wide high (box_of h ds ∷ []) old new
unfolding with_boxes with_box in_box
drawn-all wide high h ds old new p =
    record {
      dots = λ i j a b.
          let z : 0 + j * wide + i ≡ j * wide + i = omega arith in
          rw z at (p.dots i j a) ∙ colour i j;
      behind = λ k o. p.others k (inr (omega arith));
      len = p.len;
    }
  where
    colour : (i j : ℕ) → pick (in_run h.x h.wide i && in_run h.y h.high j) (dot-in ds h i j) (screen_at wide old i j) ≡
        pick (in_run h.x h.wide i && in_run h.y h.high j) (get_or (take (h.wide * h.high) ds) ((j - h.y) * h.wide + (i - h.x)) 0) (screen_at wide old i j)
    colour i j =
        elim (cases_Bool (in_run h.x h.wide i && in_run h.y h.high j)) [
          | inl b ↦
              let c = and_parts (in_run h.x h.wide i) (in_run h.y h.high j) b in
              let a = in_run-parts h.x h.wide i c.0 in
              let d = in_run-parts h.y h.high j c.1 in
              rw b (sym (get_or-take (h.wide * h.high) ds ((j - h.y) * h.wide + (i - h.x)) 0 (mul-add-lt (j - h.y) h.wide (i - h.x) h.high (omega (arith, d)) (omega (arith, a)))))
          | inr b ↦ rw b
        ]
