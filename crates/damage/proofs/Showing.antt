-- Boxes that are put onto a screen one after the other.
use Rattle.std.proofs.Common.{◌≡◌, ℕ, ◌-◌, ◌+◌, ◌*◌, ◌<◌, ◌≤◌, true, List, [], ◌∷◌, length, get_or, is_some, Some, None, Option, sym, refl, ap, ◌∙◌, arith}
use Rattle.std.proofs.lemmas.Bool.{false≢true}
use Rattle.model.specs.Basics.{pick, in_box}
use Rattle.model.specs.Promise.{Box, with_box, with_boxes}
use Rattle.damage.specs.Screen.{box_of, up_to, boxes_in, screen_at, First, Shown}
use Rattle.damage.specs.declared.head.Head.{Head}
use Rattle.damage.specs.declared.head.Size.{Size}
use Rattle.damage.proofs.Decoding.{before-some}
use Rattle.damage.proofs.Walking.{not_none}

-- boxes look at one dot of the screen below
pub same-below : (bs : List Box) (f g : ℕ → ℕ → ℕ) (i j : ℕ) → f i j ≡ g i j → with_boxes f bs i j ≡ with_boxes g bs i j
unfolding with_boxes with_box
same-below [] f g i j e = e
same-below (b ∷ bs) f g i j e =
    same-below bs (with_box f b) (with_box g b) i j
    (ap (pick (in_box b.x b.y b.wide b.high i j) (get_or b.dots ((j - b.y) * b.wide + (i - b.x)) 0)) e)

-- the boxes before what is left of the words are on the screen: with those that are left it shows all
pub record Going (wide high : ℕ) (ws rest old new : List ℕ) : Type 0 where
  pub all : List Box
  pub whole : boxes_in wide high ws ≡ Some all
  pub left : List Box
  pub read : boxes_in wide high rest ≡ Some left
  pub dots : (i j : ℕ) → i < wide → j < high → with_boxes (screen_at wide new) left i j ≡ with_boxes (screen_at wide old) all i j
  pub behind : (k : ℕ) → wide * high ≤ k → get_or new k 0 ≡ get_or old k 0
  pub len : length new ≡ length old

there : (o : Option (List Box)) → is_some o ≡ true → (bs : List Box) × (o ≡ Some bs)
there None e = absurd (false≢true e)
there (Some bs) e = (bs, refl)

pub going-none : (wide high : ℕ) (ws old : List ℕ) → is_some (boxes_in wide high ws) ≡ true → Going wide high ws ws old old
going-none wide high ws old e =
    let t = there (boxes_in wide high ws) e in
    record { all = t.0; whole = t.1; left = t.0; read = t.1; dots = λ i j a b. refl; behind = λ k o. refl; len = refl }

pub going_more : (z : Size) (ws rest behind dots : List ℕ) (y : Size) (h : Head) (old new new' : List ℕ) → Going z.wide z.high ws rest old new → First z rest y h dots behind →
    Shown z.wide z.high (box_of h dots ∷ []) new new' → Going z.wide z.high ws behind old new'
unfolding with_boxes
going_more z ws rest behind dots y h old new new' g f s =
    let n = before-some (box_of h dots) (boxes_in z.wide z.high behind) g.left (sym f.read ∙ g.read) in
    record {
      all = g.all;
      whole = g.whole;
      left = n.0;
      read = n.1;
      dots = λ i j a b. same-below n.0 (screen_at z.wide new') (with_box (screen_at z.wide new) (box_of h dots)) i j (s.dots i j a b) ∙ rw n.2 at (g.dots i j a b);
      behind = λ k o. s.behind k o ∙ g.behind k o;
      len = s.len ∙ g.len;
    }

same-boxes : (o : Option (List Box)) (bs cs : List Box) → o ≡ Some bs → o ≡ Some cs → bs ≡ cs
same-boxes o bs cs h k = cc

-- nothing is left where no box begins
pub going-all : (wide high : ℕ) (ws rest old new : List ℕ) → Going wide high ws rest old new → (0 < length rest → boxes_in wide high rest ≡ None) → (bs : List Box) → boxes_in wide high ws ≡ Some bs → Shown wide high bs old new
unfolding up_to with_boxes
going-all wide high ws [] old new g l bs e =
    let n = same-boxes (boxes_in wide high []) g.left [] g.read refl in
    let z = same-boxes (boxes_in wide high ws) g.all bs g.whole e in
    record {
      dots = λ i j a b. rw (n, z) at (g.dots i j a b);
      behind = g.behind;
      len = g.len;
    }
going-all wide high ws (p ∷ rest) old new g l bs e = absurd (not_none (boxes_in wide high (p ∷ rest)) g.left (l (omega arith)) g.read)
