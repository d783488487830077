-- What is seen at a dot, by the window in front there.
use Rattle.std.proofs.Common.{◌≡◌, ℕ, suc, true, List, ℤ, pos, ◌-ℤ◌, Some, sym, ap, ◌∙◌, arith}
use lib.Signed.{le_z, mag}
use Rattle.model.specs.Desk as desk
use Rattle.model.specs.Desk.{Desk, window, front, dot, dot_of, in_window}
use Rattle.pixels.specs.Pictures as pixels
use Rattle.pixels.specs.declared.Picture.{Picture}
use Rattle.stack.specs.View.{view, order_of, picture_of}
use Rattle.stack.specs.declared.state.Window.{Window}
use Rattle.layout.specs.State.{desk_of}
use Rattle.layout.specs.declared.state.State.{State}

pub left-of : (p : List ℕ) (w : Window) (x y : ℤ) → in_window (view p (Some w)) x y ≡ true → le_z w.x x ≡ true
unfolding in_window
left-of p w x y e = grind arith

pub top_of : (p : List ℕ) (w : Window) (x y : ℤ) → in_window (view p (Some w)) x y ≡ true → le_z w.y y ≡ true
unfolding in_window
top_of p w x y e = grind arith

pub dot-none : (s : State) (p : List ℕ) (i j : ℕ) → front (desk_of s p) (order_of s.stack) (pos i) (pos j) ≡ 0 → ◌≡◌ {A = ℕ} 0 (dot (desk_of s p) i j)
unfolding dot dot_of
dot-none s p i j e = sym (ap (dot_of (desk_of s p) i j) e)

pub dot-some : (s : State) (p : List ℕ) (i j n : ℕ) (w : Window) (pic : Picture) (a b r : ℕ) → front (desk_of s p) (order_of s.stack) (pos i) (pos j) ≡ suc n → window (desk_of s p) n ≡ view p (Some w) → pic ≡ picture_of w →
    a ≡ mag (pos i -ℤ w.x) → b ≡ mag (pos j -ℤ w.y) → r ≡ pixels.dots_of p pic.at pic.wide pic.high a b → r ≡ dot (desk_of s p) i j
unfolding dot dot_of pixels.dots_of
dot-some s p i j n w pic a b r e v q ea eb d =
    d ∙ rw (q, ea, eb) (sym (ap (λ (u : desk.Window). u.dots (mag (pos i -ℤ u.x)) (mag (pos j -ℤ u.y))) v)) ∙ sym (ap (dot_of (desk_of s p) i j) e)
