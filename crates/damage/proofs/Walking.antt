-- Boxes that are read one after the other.
use Rattle.std.proofs.Common.{◌≡◌, ℕ, ◌+◌, ◌-◌, ◌*◌, ◌<◌, ◌≤◌, Bool, true, false, ◌⊎◌, List, [], ◌∷◌, ◌++◌, length, get_or, take, drop, Some, None, Option, sym, refl, ap, ◌∙◌, inl, inr, arith, length-drop}
use Rattle.std.proofs.lemmas.List.{take_all, length-take-le, length-append}
use Rattle.std.proofs.lemmas.Bool.{and_from, and_left, and_right, le-leb, lt-leb}
use Rattle.model.specs.Basics.{pick}
use Rattle.model.specs.Promise.{Box}
use Rattle.std.specs.List.{IsSplitAt}
use Rattle.damage.specs.Screen.{head_of, box_of, lies_on, stands_on, before, up_to, boxes_in, areas, First, Counted}
use Rattle.damage.specs.declared.head.Head.{Head}
use Rattle.damage.specs.declared.head.Size.{Size}
use Rattle.damage.proofs.Decoding.{in-more}

-- words that begin with two, and the others
abbrev pub others : List ℕ → List ℕ
others ws = take (length ws - 2) (drop 2 ws)

two-first : (ws : List ℕ) → 2 ≤ length ws → ws ≡ get_or ws 0 0 ∷ get_or ws 1 0 ∷ others ws
two-first [] h = absurd (omega arith)
two-first (p ∷ []) h = absurd (omega arith)
two-first (p ∷ q ∷ ws) h = ap (λ t. p ∷ q ∷ t) (sym (take_all (length (p ∷ q ∷ ws) - 2) ws (omega arith)))

-- no box stands in fewer words
pub none-short : (wide high : ℕ) (ws : List ℕ) → length ws < 2 → 0 < length ws → boxes_in wide high ws ≡ None
unfolding up_to
none-short wide high [] h k = absurd (omega arith)
none-short wide high (p ∷ []) h k = refl
none-short wide high (p ∷ q ∷ ws) h k = absurd (omega arith)

-- what is read of a head and what follows
at_head : (wide high : ℕ) (g h : Head) (vs : List ℕ) (b : Bool) → h ≡ g → stands_on wide high (length vs) h ≡ b →
    pick (stands_on wide high (length vs) g) (before (box_of g vs) (boxes_in wide high (drop (g.wide * g.high) vs))) None ≡ pick b (before (box_of h vs) (boxes_in wide high (drop (h.wide * h.high) vs))) None
at_head wide high g h vs b e s = rw (← e, s)

from-head : (wide high : ℕ) (ws : List ℕ) (h : Head) (b : Bool) → 2 ≤ length ws → h ≡ head_of (get_or ws 0 0) (get_or ws 1 0) → stands_on wide high (length (others ws)) h ≡ b →
    boxes_in wide high ws ≡ pick b (before (box_of h (others ws)) (boxes_in wide high (drop (h.wide * h.high) (others ws)))) None
from-head wide high ws h b l e s =
    ap (boxes_in wide high) (two-first ws l) ∙ in-more wide high (get_or ws 0 0) (get_or ws 1 0) (others ws) ∙ at_head wide high (head_of (get_or ws 0 0) (get_or ws 1 0)) h (others ws) b e s

-- no box stands behind a head that is off the screen, or where its dots are cut off
pub none-off : (wide high : ℕ) (ws : List ℕ) (h : Head) → 2 ≤ length ws → h ≡ head_of (get_or ws 0 0) (get_or ws 1 0) → (lies_on wide high h ≡ false) ⊎ (length (others ws) < h.wide * h.high) → boxes_in wide high ws ≡ None
none-off wide high ws h l e (inl o) = from-head wide high ws h false l e (and_left _ _ o)
none-off wide high ws h l e (inr o) = from-head wide high ws h false l e (and_right (lies_on wide high h) _ (lt-leb _ _ o))

-- a box that stands there is read first
pub first-there : (z : Size) (ws dots behind : List ℕ) (h : Head) → 2 ≤ length ws → h ≡ head_of (get_or ws 0 0) (get_or ws 1 0) → lies_on z.wide z.high h ≡ true →
    IsSplitAt (others ws) (h.wide * h.high) dots behind → First z ws z h dots behind
first-there z ws dots behind h l e o s =
    record {
      screen = refl;
      is = e;
      on = o;
      dots_are = s.1 ∙ ap (take (h.wide * h.high)) behind-two;
      rest_is = s.2 ∙ ap (drop (h.wide * h.high)) behind-two;
      read = from-head z.wide z.high ws h true l e (and_from _ _ o (le-leb _ _ s.0)) ∙
          ap (λ t. before (box_of h (others ws)) (boxes_in z.wide z.high t)) (sym s.2) ∙ ap (λ t. before t (boxes_in z.wide z.high behind)) same;
      size = s.3;
      ends = let n = length-take-le (length ws - 2) (drop 2 ws) (omega (arith, length-drop 2 ws)) in omega (arith, n, s.3, s.4, l);
    }
  where
    behind-two : others ws ≡ drop 2 ws
    behind-two = take_all (length ws - 2) (drop 2 ws) (omega (arith, length-drop 2 ws))

    same : box_of h (others ws) ≡ box_of h dots
    same = ap (λ (t : List ℕ). record { x = h.x; y = h.y; wide = h.wide; high = h.high; dots = t }) (sym (take_all (h.wide * h.high) dots (omega (arith, s.3)) ∙ s.1))

pub not_none : (o : Option (List Box)) (bs : List Box) → o ≡ None → o ≡ Some bs → ⊥
not_none o bs h k = let z : ◌≡◌ {A = ℕ} 0 1 = cc in omega arith

-- the boxes that were read so far, before what is read of the rest
abbrev after : List Box → Option (List Box) → Option (List Box)
after [] o = o
after (b ∷ bs) o = before b (after bs o)

after_more : (bs : List Box) (b : Box) (o : Option (List Box)) → after (bs ++ b ∷ []) o ≡ after bs (before b o)
after_more [] b o = refl
after_more (c ∷ bs) b o = ap (before c) (after_more bs b o)

after_none : (bs : List Box) → after bs None ≡ None
after_none [] = refl
after_none (b ∷ bs) = ap (before b) (after_none bs)

after-all : (bs : List Box) → after bs (Some []) ≡ Some bs
after-all [] = refl
after-all (b ∷ bs) = ap (before b) (after-all bs)

areas-more : (bs : List Box) (b : Box) → areas (bs ++ b ∷ []) ≡ areas bs + b.wide * b.high
areas-more [] b = omega arith
areas-more (c ∷ bs) b = omega (arith, areas-more bs b)

-- so many boxes and dots were passed, and what is left of the words
pub record Passed (wide high : ℕ) (ws rest : List ℕ) (boxes dots : ℕ) : Type 0 where
  pub passed : List Box
  pub read : boxes_in wide high ws ≡ after passed (boxes_in wide high rest)
  pub boxes_are : boxes ≡ length passed
  pub dots_are : dots ≡ areas passed
  pub ends : length ws ≡ 2 * boxes + dots + length rest

pub passed_none : (wide high : ℕ) (ws : List ℕ) → Passed wide high ws ws 0 0
passed_none wide high ws = record { passed = []; read = refl; boxes_are = refl; dots_are = refl; ends = omega arith }

pub passed-more : (z : Size) (ws rest behind dots : List ℕ) (n m : ℕ) (y : Size) (h : Head) → Passed z.wide z.high ws rest n m → First z rest y h dots behind →
    Passed z.wide z.high ws behind (n + 1) (m + length dots)
passed-more z ws rest behind dots n m y h p f =
    record {
      passed = p.passed ++ box_of h dots ∷ [];
      read = p.read ∙ ap (after p.passed) f.read ∙ sym (after_more p.passed (box_of h dots) _);
      boxes_are = omega (arith, p.boxes_are, length-append p.passed (box_of h dots ∷ []));
      dots_are = omega (arith, p.dots_are, areas-more p.passed (box_of h dots), f.size);
      ends = omega (arith, p.ends, f.ends);
    }

pub passed-all : (wide high : ℕ) (ws rest : List ℕ) (boxes dots : ℕ) → Passed wide high ws rest boxes dots → length rest ≡ 0 → Counted wide high ws boxes dots
unfolding up_to
passed-all wide high ws [] boxes dots p h = record { all = p.passed; read = p.read ∙ after-all p.passed; boxes_are = p.boxes_are; dots_are = p.dots_are }
passed-all wide high ws (w ∷ rest) boxes dots p h = absurd (omega arith)

pub passed-bad : (wide high : ℕ) (ws rest : List ℕ) (boxes dots : ℕ) → Passed wide high ws rest boxes dots → boxes_in wide high rest ≡ None → boxes_in wide high ws ≡ None
passed-bad wide high ws rest boxes dots p e = p.read ∙ ap (after p.passed) e ∙ after_none p.passed
