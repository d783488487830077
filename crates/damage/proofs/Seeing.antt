-- What the window in front shows over a box.
use Rattle.std.proofs.Common.{◌≡◌, ℕ, suc, ◌+◌, ◌-◌, ◌<◌, ◌≤◌, true, List, length, get_or, ℤ, pos, ◌+ℤ◌, ◌-ℤ◌, Some, None, Option, sym, refl, ap, ◌∙◌, subst, arith}
use lib.Signed.{lt_z, le_z, mag}
use Rattle.std.proofs.lemmas.Bool.Decides.{nat_tests}
use Rattle.std.proofs.lemmas.Int.{ints}
use Rattle.geometry.specs.declared.Rect.{Rect}
use Rattle.model.specs.Desk as desk
use Rattle.model.specs.Desk.{Desk, dot, window, front, in_window}
use Rattle.model.specs.System.{front_at}
use Rattle.model.proofs.Boxes.{tabled-at}
use Rattle.model.proofs.Fronts.{front-in}
use Rattle.model.proofs.Places.{from-left}
use Rattle.pixels.specs.Pictures as pixels
use Rattle.pixels.specs.Pictures.{out_fits}
use Rattle.pixels.specs.Runs.{Changed}
use Rattle.pixels.specs.declared.Picture.{Picture}
use Rattle.pixels.specs.declared.Span.{Span}
use Rattle.pixels.proofs.Laws.{out_fits-yes}
use Rattle.stack.specs.View.{view, slots_of}
use Rattle.stack.specs.declared.state.Window.{Window}
use Rattle.stack.proofs.Slots.{window-at}
use Rattle.stack.proofs.Fronts.{Lies, lies, dot-back, dot-front}
use Rattle.layout.specs.State.{desk_of}
use Rattle.layout.specs.declared.state.State.{State}
use Rattle.damage.specs.Encode.{Sent}
use Rattle.damage.specs.Cells.{seen, Over, OverIf, dot_row, OneFront, Fronting, Lent}
use Rattle.damage.proofs.Left.{sent-run}
use Rattle.damage.proofs.Dots.{row-length}

-- places within a side
mag-more : (x : ℤ) (i k : ℕ) → le_z x (pos i) ≡ true → mag (pos (i + k) -ℤ x) ≡ mag (pos i -ℤ x) + k
mag-more x i k h =
    let a = from-left x i h in
    let m : le_z x (pos (i + k)) ≡ true = grind (arith, ints, nat_tests) in
    let b = from-left x (i + k) m in
    omega (arith, ints, a, b)

mag-within : (x : ℤ) (i e w : ℕ) → le_z x (pos i) ≡ true → le_z (pos e) (x +ℤ pos w) ≡ true → i ≤ e → mag (pos i -ℤ x) + (e - i) ≤ w
mag-within x i e w h k l =
    let a = from-left x i h in
    grind (arith, ints, nat_tests)

place_after : (x : ℤ) (i j : ℕ) → le_z x (pos i) ≡ true → i ≤ j → le_z x (pos j) ≡ true
place_after x i j h k = grind (arith, ints, nat_tests)

end_after : (y : ℤ) (i : ℕ) → 0 < i → lt_z (pos (i - 1)) y ≡ true → le_z (pos i) y ≡ true
end_after y i h k = grind (arith, ints, nat_tests)

pub line-top : (w : Window) (r : Rect) (j size : ℕ) → Over size w r → r.top ≤ j → le_z w.y (pos j) ≡ true
line-top w r j size o h = place_after w.y r.top j o.top h

-- a row that was copied out of the window's picture
module _ (p : List ℕ) (w : Window) (r : Rect) (j at : ℕ) (pic : Picture) (s : Span) (old new : List ℕ) (size : ℕ) (over : Over size w r) (wide : r.left < r.right) (top : r.top ≤ j) (below : j < r.below)
    (fits : pic ≡ record { at = w.at; wide = w.wide; high = w.high }) (sx : s.x ≡ mag (pos r.left -ℤ w.x)) (sy : s.y ≡ mag (pos j -ℤ w.y)) (sw : s.wide ≡ r.right - r.left) (room : at + (r.right - r.left) ≤ length old) where
  down : le_z w.y (pos j) ≡ true
  down = place_after w.y r.top j over.top top

  pub line-fits : out_fits pic s size at (length old) ≡ true
  line-fits =
      let a = mag-within w.x r.left r.right w.wide over.left over.right (omega arith) in
      let b = mag-within w.y j r.below w.high down over.below (omega arith) in
      let l = over.lent in
      rw fits (out_fits-yes _ s size at (length old) l (omega (arith, a, sx, sw)) (omega (arith, b, sy)) (omega (arith, sw)))

  pub line-copied : Changed at s.wide (λ k. pixels.dots_of p pic.at pic.wide pic.high (s.x + (k - at)) s.y) old new →
      Sent at (at + (r.right - r.left)) (dot_row (seen p (Some w)) r.left (r.right - r.left) j) old new
  unfolding pixels.dots_of
  line-copied c =
      sent-run at (r.right - r.left) (λ k. pixels.dots_of p pic.at pic.wide pic.high (s.x + (k - at)) s.y) old new (dot_row (seen p (Some w)) r.left (r.right - r.left) j) room (row-length (seen p (Some w)) r.left (r.right - r.left) j)
      (λ k h.
      let e : at + k - at ≡ k = omega arith in
      tabled-at (r.right - r.left) (λ n. seen p (Some w) (r.left + n) j) k h ∙ rw (fits, e, sx, sy, mag-more w.x r.left k over.left))
      (subst (λ n. Changed at n (λ k. pixels.dots_of p pic.at pic.wide pic.high (s.x + (k - at)) s.y) old new) sw c)

pub line-blank : (p : List ℕ) (x n j at : ℕ) (old new : List ℕ) → at + n ≤ length old → Changed at n (λ _. 0) old new → Sent at (at + n) (dot_row (seen p None) x n j) old new
line-blank p x n j at old new room c = sent-run at n (λ _. 0) old new (dot_row (seen p None) x n j) room (row-length (seen p None) x n j) (λ k h. tabled-at n (λ _. 0) k h) c

-- one window is in front over the box
window-is : (s : State) (p : List ℕ) (n : ℕ) (w : Window) → get_or (slots_of s.stack) n None ≡ Some w → window (desk_of s p) n ≡ view p (Some w)
window-is s p n w e = window-at s.stack (desk_of s p) p n refl ∙ ap (view p) e

lies-there : (s : State) (p : List ℕ) (n : ℕ) (w : Window) (i j : ℕ) → get_or (slots_of s.stack) n None ≡ Some w → front_at (desk_of s p) i j ≡ suc n → Lies (view p (Some w)) (pos i) (pos j)
lies-there s p n w i j e f = lies (view p (Some w)) (pos i) (pos j) (subst (λ (v : desk.Window). in_window v (pos i) (pos j) ≡ true) (window-is s p n w e) (front-in (desk_of s p) (desk_of s p).order (pos i) (pos j) n f))

pub front-over : (s : State) (p : List ℕ) (size : ℕ) (r : Rect) (o : Option Window) → Fronting s r.left r.top o → OneFront s p r → r.left < r.right → r.top < r.below → Lent s size → OverIf size o r
front-over s p size r None f e a b l = tt
front-over s p size r (Some w) f e a b l =
    let n = f.0 in
    let u = lies-there s p n w r.left r.top f.1 (f.2 p) in
    let v = lies-there s p n w (r.right - 1) (r.below - 1) f.1 (e (r.right - 1) (r.below - 1) (omega arith) (omega arith) (omega arith) (omega arith) ∙ f.2 p) in
    record {
      left = u.left;
      right = end_after (w.x +ℤ pos w.wide) r.right (omega arith) v.right;
      top = u.top;
      below = end_after (w.y +ℤ pos w.high) r.below (omega arith) v.low;
      lent = l n w f.1;
    }

pub front-seen : (s : State) (p : List ℕ) (r : Rect) (o : Option Window) (i j : ℕ) → Fronting s r.left r.top o → OneFront s p r → r.left ≤ i → i < r.right → r.top ≤ j → j < r.below → seen p o i j ≡ dot (desk_of s p) i j
front-seen s p r None i j f e a b c d = sym (dot-back (desk_of s p) i j (e i j a b c d ∙ f p))
front-seen s p r (Some w) i j f e a b c d =
    sym (dot-front (desk_of s p) i j f.0 (e i j a b c d ∙ f.2 p) ∙ ap (λ (v : desk.Window). v.dots (mag (pos i -ℤ v.x)) (mag (pos j -ℤ v.y))) (window-is s p f.0 w f.1))
