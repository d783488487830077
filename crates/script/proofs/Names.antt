-- Names and kinds.
use Rattle.std.proofs.Common.{◌≡◌, ℕ, Bool, true, false, List, Some, None, Option, sym, refl, ◌∙◌, subst}
use Rattle.std.specs.Str.{bytes_eq}
use Rattle.std.proofs.lemmas.Slice.Eq.{bytes_eq-Decides}
use Rattle.model.specs.Basics.{pick}
use Rattle.script.specs.declared.kinds.Kind.{Kind}
use Rattle.script.specs.declared.kinds.Kind.TheVariants.{Make, Close, Move, Raise, Show, Fill, Put, Copy, Offer, Point, Press, Key, Paste}
use Rattle.script.specs.Kinds.{name_of, or_else, kind_of}

kind_of-name : (k : Kind) → Some k ≡ kind_of (name_of k)
unfolding kind_of
kind_of-name Make = refl
kind_of-name Close = refl
kind_of-name Move = refl
kind_of-name Raise = refl
kind_of-name Show = refl
kind_of-name Fill = refl
kind_of-name Put = refl
kind_of-name Copy = refl
kind_of-name Offer = refl
kind_of-name Point = refl
kind_of-name Press = refl
kind_of-name Key = refl
kind_of-name Paste = refl

pub named-is : (k : Kind) (w : List ℕ) → w ≡ name_of k → Some k ≡ kind_of w
named-is k w e = subst (λ x. Some k ≡ kind_of x) (sym e) (kind_of-name k)

or-else-no : (k : Kind) (w : List ℕ) (o : Option Kind) → (w ≡ name_of k → ⊥) → or_else k w o ≡ o
or-else-no k w o wrong = by (bytes_eq w (name_of k)) refl
  where
    by : (b : Bool) → bytes_eq w (name_of k) ≡ b → pick b (Some k) o ≡ o
    by true e = absurd (wrong ((bytes_eq-Decides w (name_of k)).0 e))
    by false e = refl

pub named_none : (w : List ℕ) → ((k : Kind) → w ≡ name_of k → ⊥) → None ≡ kind_of w
unfolding kind_of
named_none w f = sym (or-else-no Make w _ (f Make) ∙ (or-else-no Close w _ (f Close) ∙ (or-else-no Move w _ (f Move) ∙ (or-else-no Raise w _ (f Raise) ∙ (or-else-no Show w _ (f Show) ∙ (or-else-no Fill w _ (f Fill) ∙ (or-else-no Put w _ (f Put) ∙ (or-else-no Copy w _ (f Copy) ∙ (or-else-no Offer w _ (f Offer) ∙ (or-else-no Point w _ (f Point) ∙ (or-else-no Press w _ (f Press) ∙ (or-else-no Key w _ (f Key) ∙ (or-else-no Paste w _ (f Paste))))))))))))))
