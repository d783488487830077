-- What is seen of a window as its picture, or where the picture lies, changes.
use Rattle.std.proofs.Common.{◌≡◌, ℕ, ◌+◌, ◌*◌, ◌<◌, ◌≤◌, true, ◌&&◌, ltb, ◌⊎◌, List, get_or, Some, ap, inl, inr}
use mathlib.Core.Path.{fun_ext}
use Rattle.std.proofs.lemmas.Bool.{cases_lt, lt-ltb, le-ltb}
use Rattle.model.specs.Basics.{pick}
use Rattle.model.specs.Desk as desk
use Rattle.model.specs.Desk.{painted}
use Rattle.stack.specs.declared.state.Window.{Window}
use Rattle.stack.specs.View.{view, dots_of, begun}

with-dots : Window → (ℕ → ℕ → ℕ) → desk.Window
with-dots w f =
    record { there = true; owner = w.owner; shown = w.shown; x = w.x; y = w.y; wide = w.wide; high = w.high; dots = f }

-- w and h by which side of the picture's edges i, j lies
dots-by : (wide high i j a b : ℕ) → (i < wide → j < high → a ≡ b) → ((wide ≤ i) ⊎ (high ≤ j) → 0 ≡ b) → pick (ltb i wide && ltb j high) a 0 ≡ b
dots-by wide high i j a b f g =
    elim (cases_lt i wide) [
      | inr h ↦ rw (le-ltb i wide h) (g (inl h))
      | inl h ↦ elim (cases_lt j high) [
        | inr k ↦ rw (lt-ltb i wide h, le-ltb j high k) (g (inr k))
        | inl k ↦ rw (lt-ltb i wide h, lt-ltb j high k) (f h k)
      ]
    ]

-- its dots become f, which is 0 outside the picture
pub view-painted : (p q : List ℕ) (w : Window) (f : ℕ → ℕ → ℕ) →
    ((i j : ℕ) → i < w.wide → j < w.high → get_or q (w.at + j * w.wide + i) 0 ≡ f i j) → ((i j : ℕ) → (w.wide ≤ i) ⊎ (w.high ≤ j) → 0 ≡ f i j) →
    view q (Some w) ≡ painted (view p (Some w)) f
unfolding with-dots painted
view-painted p q w f e z = ap (with-dots w) (fun_ext (λ i. fun_ext (λ j. dots-by w.wide w.high i j _ (f i j) (e i j) (z i j))))

-- outside the picture its dots are 0
pub dots-out : (p : List ℕ) (w : Window) (i j : ℕ) → (w.wide ≤ i) ⊎ (w.high ≤ j) → 0 ≡ dots_of p w i j
dots-out p w i j (inl h) = rw (le-ltb i w.wide h)
dots-out p w i j (inr k) = elim (cases_lt i w.wide) [ inl h ↦ rw (lt-ltb i w.wide h, le-ltb j w.high k) | inr h ↦ rw (le-ltb i w.wide h) ]

-- inside they are the picture's
pub dots_in : (p : List ℕ) (w : Window) (i j : ℕ) → i < w.wide → j < w.high → dots_of p w i j ≡ get_or p (w.at + j * w.wide + i) 0
dots_in p w i j h k = rw (lt-ltb i w.wide h, lt-ltb j w.high k)

-- the picture lies elsewhere
pub view-begun : (p q : List ℕ) (at : ℕ) (w : Window) →
    ((i j : ℕ) → i < w.wide → j < w.high → get_or q (at + j * w.wide + i) 0 ≡ get_or p (w.at + j * w.wide + i) 0) →
    view q (begun at (Some w)) ≡ view p (Some w)
unfolding with-dots
view-begun p q at w e =
    ap (with-dots w) (fun_ext (λ i. fun_ext (λ j. dots-by w.wide w.high i j _ (dots_of p w i j) (λ h k. rw (dots_in p w i j h k) (e i j h k)) (dots-out p w i j))))
