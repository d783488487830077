-- The dots of all pictures: what one window more or less does to them, and the steps of a sum.
use Rattle.std.proofs.Common.{◌≡◌, ℕ, zero, suc, ◌+◌, ◌<◌, ◌≤◌, List, [], ◌∷◌, map, length, get_or, drop, set, None, Option, refl, ◌∙◌, arith}
use Rattle.std.proofs.lemmas.List.{at_drop_more, at_drop_all}
use Rattle.model.specs.Desk as desk
use Rattle.model.specs.Desk.{nothing, area}
use Rattle.stack.specs.declared.state.Window.{Window}
use Rattle.stack.specs.View.{view, dots_used}

pub area-more : (w : desk.Window) (ws : List desk.Window) → area (w ∷ ws) ≡ dots_used w + area ws
unfolding area
area-more w ws = refl

-- another window at the number n
pub area_set : (ws : List desk.Window) (n : ℕ) (w : desk.Window) → n < length ws → area (set ws n w) + dots_used (get_or ws n nothing) ≡ area ws + dots_used w
area_set [] n w h = absurd (omega arith)
area_set (u ∷ ws) zero w h = omega (arith, area-more u ws, area-more w ws)
area_set (u ∷ ws) (suc n) w h = omega (arith, area-more u ws, area-more u (set ws n w), area_set ws n w (omega arith))

-- one window's dots are among all
pub area-one : (ws : List desk.Window) (n : ℕ) → n < length ws → dots_used (get_or ws n nothing) ≤ area ws
area-one [] n h = absurd (omega arith)
area-one (u ∷ ws) zero h = omega (arith, area-more u ws)
area-one (u ∷ ws) (suc n) h = omega (arith, area-more u ws, area-one ws n (omega arith))

-- a sum from the number i on
pub area-step : (p : List ℕ) (ws : List (Option Window)) (i : ℕ) (o : Option Window) → i < length ws → o ≡ get_or ws i None →
    area (map (view p) (drop i ws)) ≡ dots_used (view p o) + area (map (view p) (drop (i + 1) ws))
area-step p ws i o h e =
    at_drop_more (λ us. area (map (view p) us)) ws i None h ∙ area-more _ _ ∙ rw e

pub area-end : (p : List ℕ) (ws : List (Option Window)) (i : ℕ) → length ws ≤ i → area (map (view p) (drop i ws)) ≡ 0
unfolding area
area-end p ws i h = at_drop_all (λ us. area (map (view p) us)) ws i h
