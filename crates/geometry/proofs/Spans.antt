-- What the boxes are in the words of the desk, and two pairs of tests in the other order.
use Rattle.std.proofs.Common.{◌≡◌, ℕ, ◌+◌, ◌-◌, ◌<◌, ◌≤◌, Bool, true, false, ◌&&◌, ltb, leb, sym, refl, ap, ◌∙◌, ap₂, inl, inr, arith}
use Rattle.std.proofs.lemmas.Bool.{true≢false}
use Rattle.std.proofs.lemmas.Bool.Decides.{nat_tests}
use Rattle.model.specs.Basics.{in_box}
use Rattle.model.specs.Desk.{in_window}
use Rattle.geometry.specs.declared.Rect.{Rect}
use Rattle.geometry.specs.Boxes.{in_rect}
use Rattle.geometry.specs.Meaning.{IsBox, IsWindow, SameRect}

pub and-four : (p q r s : Bool) → ((p && q) && (r && s)) ≡ ((p && r) && (q && s))
and-four true true r s = refl
and-four true false true s = refl
and-four true false false s = refl
and-four false q r s = refl

-- the statements of `meaning`
pub is-box : IsBox
unfolding in_box
is-box r i j = ap₂ (λ y z. y && z) (side r.left r.right i) (side r.top r.below j)
  where
    side : (a b k : ℕ) → (leb a k && ltb k b) ≡ (leb a k && ltb k (a + (b - a)))
    side a b k = grind (arith, nat_tests)

pub is-window : IsWindow
unfolding in_window
is-window w i j = refl

at-corner : (r : Rect) → r.left < r.right → r.top < r.below → in_rect r r.left r.top ≡ true
at-corner r h k = grind (arith, nat_tests)

at-end : (r : Rect) → r.left < r.right → r.top < r.below → in_rect r (r.right - 1) (r.below - 1) ≡ true
at-end r h k = grind (arith, nat_tests)

holds_of : (r : Rect) (i j : ℕ) → in_rect r i j ≡ true → (r.left ≤ i) × (i < r.right) × (r.top ≤ j) × (j < r.below)
holds_of r i j h = (grind (arith, nat_tests), grind (arith, nat_tests), grind (arith, nat_tests), grind (arith, nat_tests))

abbrev by-corners : ℕ → ℕ → ℕ → ℕ → Rect
by-corners a b c d = record { left = a; top = b; right = c; below = d }

by-sides : (a b c d e f g h : ℕ) → a ≡ e → b ≡ f → c ≡ g → d ≡ h → by-corners a b c d ≡ by-corners e f g h
by-sides a b c d e f g h p q r s = ap₂ (λ y z. by-corners y z c d) p q ∙ ap₂ (λ y z. by-corners e f y z) r s

pub same-rect : SameRect
same-rect a b r s (inl e) (inl f) h = e ∙ sym f
same-rect a b r s (inl e) (inr q) h =
    absurd (true≢false (sym (at-corner s q.wide q.high) ∙ (sym (h s.left s.top) ∙ (ap (λ (z : Rect). in_rect z s.left s.top) e ∙ grind (arith, nat_tests)))))
same-rect a b r s (inr p) (inl f) h =
    absurd (true≢false (sym (at-corner r p.wide p.high) ∙ (h r.left r.top ∙ (ap (λ (z : Rect). in_rect z r.left r.top) f ∙ grind (arith, nat_tests)))))
same-rect a b r s (inr p) (inr q) h =
    let A = holds_of s r.left r.top (sym (h r.left r.top) ∙ at-corner r p.wide p.high) in
    let B = holds_of s (r.right - 1) (r.below - 1) (sym (h (r.right - 1) (r.below - 1)) ∙ at-end r p.wide p.high) in
    let C = holds_of r s.left s.top (h s.left s.top ∙ at-corner s q.wide q.high) in
    let D = holds_of r (s.right - 1) (s.below - 1) (h (s.right - 1) (s.below - 1) ∙ at-end s q.wide q.high) in
    let pw = p.wide in
    let ph = p.high in
    let qw = q.wide in
    let qh = q.high in
    let e₁ : r.left ≡ s.left = omega arith in
    let e₂ : r.top ≡ s.top = omega arith in
    let e₃ : r.right ≡ s.right = omega arith in
    let e₄ : r.below ≡ s.below = omega arith in
    by-sides r.left r.top r.right r.below s.left s.top s.right s.below e₁ e₂ e₃ e₄
