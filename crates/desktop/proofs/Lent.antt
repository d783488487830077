-- The order and the pictures in memory, from what holds of the desk.
use Rattle.std.proofs.Common.{◌≡◌, ℕ, List, [], get_or, is_some, Some, None, Option, sym, refl, ap, ◌∙◌}
use Rattle.model.specs.Basics.{pick}
use Rattle.model.specs.Desk as desk
use Rattle.model.specs.Desk.{Desk, window, after}
use Rattle.model.proofs.Pictures.{after-dots}
use Rattle.stack.specs.View.{view, slots_of}
use Rattle.stack.specs.declared.state.Window.{Window}
use Rattle.stack.proofs.Slots.{window-at}
use Rattle.layout.specs.State.{desk_of}
use Rattle.desktop.specs.Lent.{OrderKept, PicturesKept}

there-is : (p : List ℕ) (o : Option Window) → (view p o).there ≡ is_some o
there-is p None = refl
there-is p (Some w) = refl

pub order-kept : OrderKept
unfolding OrderKept
order-kept z s size n g =
    (g.sound []).once n ∙ ap (λ (w : desk.Window). pick w.there 1 0) (window-at s.stack (desk_of s []) [] n refl) ∙ ap (λ b. pick b 1 0) (there-is [] (get_or (slots_of s.stack) n None))

pub pictures-kept : PicturesKept
unfolding PicturesKept
pictures-kept z e s s' p p' r n i j w w' c a b o =
    let v : window (desk_of s p) n ≡ view p (Some w) = window-at s.stack (desk_of s p) p n refl ∙ ap (view p) a in
    let u : window (desk_of s' p') n ≡ view p' (Some w') = window-at s'.stack (desk_of s' p') p' n refl ∙ ap (view p') b in
    let t : window (after z (desk_of s p) e).0 n ≡ view p' (Some w') = ap (λ d. window d n) (sym c.desk) ∙ u in
    let k = after-dots z (desk_of s p) e n i j (ap (λ (x : desk.Window). x.there) v) (λ q h. o q (sym (ap (λ (x : desk.Window). x.owner) v) ∙ h)) (ap (λ (x : desk.Window). x.there) t) in
    sym (ap (λ (x : desk.Window). x.dots i j) t) ∙ k ∙ ap (λ (x : desk.Window). x.dots i j) v
