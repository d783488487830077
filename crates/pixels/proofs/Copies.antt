-- A box that is copied within its picture, row by row, in either order of the rows.
use Rattle.std.proofs.Common.{◌≡◌, ℕ, ◌+◌, ◌-◌, ◌<◌, ◌≤◌, Bool, true, false, ◌||◌, eqb, leb, List, get_or, sym, ◌∙◌, arith}
use Rattle.std.proofs.lemmas.Bool.{and_right}
use Rattle.std.proofs.lemmas.Bool.Decides.{nat_tests}
use Rattle.model.specs.Basics.{pick, in_run}
use Rattle.pixels.specs.declared.Picture.{Picture}
use Rattle.pixels.specs.declared.Area.{Area}
use Rattle.pixels.specs.Runs.{Changed}
use Rattle.pixels.specs.Pictures.{place, dots_of, Painted, copied}
use Rattle.pixels.proofs.Laws.{dot-inside}
use Rattle.pixels.proofs.Rows.{Rows, rows_more, rows_all}

-- what the dot i, j of the box at a, b is to become
abbrev pub source : ℕ → ℕ → ℕ → ℕ → ℕ → ℕ → List ℕ → ℕ → ℕ → ℕ
source at s x y a b old i j = get_or old (place at s (x + (i - a)) (y + (j - b))) 0

-- the row that is copied after k of the h rows: the first first where the box goes up, and else the last first
abbrev pub next : Bool → ℕ → ℕ → ℕ
next up h k = pick up k (h - 1 - k)

-- where the k rows begin that are copied
abbrev pub from_row : Bool → ℕ → ℕ → ℕ → ℕ
from_row up b h k = pick up b (b + (h - k))

-- the rows that are copied are one more
pub next-more : (up : Bool) (b h k j : ℕ) → k < h → in_run (from_row up b h (k + 1)) (k + 1) j ≡ (eqb j (b + next up h k) || in_run (from_row up b h k) k j)
next-more true b h k j l = grind (arith, nat_tests)
next-more false b h k j l = grind (arith, nat_tests)

-- and the next was not written yet
pub next-unwritten : (y b h k : ℕ) → k < h → in_run (from_row (leb b y) b h k) k (y + next (leb b y) h k) ≡ false
next-unwritten y b h k l = grind (arith, nat_tests, pick)

pub next-below : (up : Bool) (h k : ℕ) → k < h → next up h k < h
next-below true h k l = l
next-below false h k l = omega arith

-- row t is copied, and the row that it comes from was not written yet
pub copied_more : (at s high x y a b w lo n lo' n' t : ℕ) (old new new' : List ℕ) → x + w ≤ s → a + w ≤ s → b + t < high →
    in_run lo n (y + t) ≡ false → ((j : ℕ) → in_run lo' n' j ≡ (eqb j (b + t) || in_run lo n j)) →
    Rows at s high a w lo n (source at s x y a b old) old new →
    Changed (place at s a (b + t)) w (λ k. get_or new (place at s x (y + t) + (k - place at s a (b + t))) 0) new new' →
    Rows at s high a w lo' n' (source at s x y a b old) old new'
copied_more at s high x y a b w lo n lo' n' t old new new' u v l f g p q =
    rows_more at s high a w lo n lo' n' (b + t) (source at s x y a b old) (λ k. get_or new (place at s x (y + t) + (k - place at s a (b + t))) 0) old new new' v l g p q came
  where
    came : (i : ℕ) → a ≤ i → i < a + w →
        get_or new (place at s x (y + t) + (place at s i (b + t) - place at s a (b + t))) 0 ≡ get_or old (place at s (x + (i - a)) (y + ((b + t) - b))) 0
    came i h k =
        let e : place at s x (y + t) + (place at s i (b + t) - place at s a (b + t)) ≡ place at s (x + (i - a)) (y + t) = omega arith in
        let z : (b + t) - b ≡ t = omega arith in
        rw (e, z) (p.dots (x + (i - a)) (y + t) (omega arith) ∙ rw (and_right (in_run a w (x + (i - a))) (in_run lo n (y + t)) f))

-- all rows are copied
pub copied_all : (p : Picture) (s : Area) (a b : ℕ) (old new : List ℕ) → s.x + s.wide ≤ p.wide → s.y + s.high ≤ p.high → a + s.wide ≤ p.wide → b + s.high ≤ p.high →
    Rows p.at p.wide p.high a s.wide b s.high (source p.at p.wide s.x s.y a b old) old new → Painted p (copied s a b) old new
copied_all p s a b old new u u' v v' r =
    record {
      dots = rows_all p.at p.wide p.high a b s.wide s.high (source p.at p.wide s.x s.y a b old) (λ i j. dots_of old p.at p.wide p.high (s.x + (i - a)) (s.y + (j - b))) old new v v' r inner;
      others = r.others;
      len = r.len;
    }
  where
    inner : (i j : ℕ) → a ≤ i → i < a + s.wide → b ≤ j → j < b + s.high →
        source p.at p.wide s.x s.y a b old i j ≡ dots_of old p.at p.wide p.high (s.x + (i - a)) (s.y + (j - b))
    inner i j c d e f = sym (dot-inside old p.at p.wide p.high (s.x + (i - a)) (s.y + (j - b)) (omega arith) (omega arith))
