-- The lowest free number: what it says of a list of windows.
use Rattle.std.proofs.Common.{◌≡◌, ℕ, zero, suc, ◌+◌, ◌<◌, ◌≤◌, Bool, true, false, List, [], ◌∷◌, map, length, get_or, is_some, Some, None, Option, sym, refl, ap, ◌∙◌, ◌⊎◌, inl, inr, not, cond, ltb, arith}
use Rattle.std.specs.List.{position, position_or_len}
use Rattle.std.specs.Option.{unwrap_or}
use Rattle.std.proofs.lemmas.List.{length-map}
use Rattle.std.proofs.lemmas.List.Recursion.{is_position_or_len}
use Rattle.std.proofs.lemmas.Bool.{cases_lt, lt-ltb, le-ltb}
use Rattle.model.specs.Basics.{pick}
use Rattle.model.specs.Desk as desk
use Rattle.model.specs.Desk.{nothing, free}
use Rattle.stack.specs.declared.state.Window.{Window}
use Rattle.stack.specs.View.{view}

-- it is one of the numbers, or how many there are
pub free-most : (ws : List desk.Window) → free ws ≤ length ws
unfolding free
free-most [] = omega arith
free-most (w ∷ ws) = go w.there (free-most ws)
  where
    go : (b : Bool) → free ws ≤ length ws → pick b (suc (free ws)) 0 ≤ suc (length ws)
    go true h = omega arith
    go false h = omega arith

-- no window has it
pub free-there : (ws : List desk.Window) → (get_or ws (free ws) nothing).there ≡ false
unfolding free
free-there [] = refl
free-there (w ∷ ws) = go w.there refl (free-there ws)
  where
    go : (b : Bool) → w.there ≡ b → (get_or ws (free ws) nothing).there ≡ false → (get_or (w ∷ ws) (pick b (suc (free ws)) 0) nothing).there ≡ false
    go true e h = h
    go false e h = e

-- every lower number has a window
pub free-below : (ws : List desk.Window) (n : ℕ) → n < free ws → (get_or ws n nothing).there ≡ true
unfolding free
free-below [] n h = absurd (omega arith)
free-below (w ∷ ws) n h = go w.there refl n h (free-below ws)
  where
    go : (b : Bool) → w.there ≡ b → (n : ℕ) → n < pick b (suc (free ws)) 0 → ((m : ℕ) → m < free ws → (get_or ws m nothing).there ≡ true) → (get_or (w ∷ ws) n nothing).there ≡ true
    go true e zero l f = e
    go true e (suc m) l f = f m (omega arith)
    go false e n l f = absurd (omega arith)

pub none-by : {X : Type 0} (o : Option X) (b : Bool) → is_some o ≡ not b → b ≡ not (is_some o)
none-by o true e = ap not (sym e)
none-by o false e = ap not (sym e)

free-first : (p : List ℕ) (ws : List (Option Window)) → free (map (view p) ws) ≡ position_or_len (λ o. not (is_some o)) ws
unfolding free
free-first p ws = is_position_or_len (λ us. free (map (view p) us)) (λ o. not (is_some o)) refl next ws
  where
    next : (o : Option Window) (us : List (Option Window)) → free (map (view p) (o ∷ us)) ≡ cond (not (is_some o)) 0 (1 + free (map (view p) us))
    next None us = refl
    next (Some w) us = omega arith

-- the first place without a window, or how many places there are
pub free-position : (p : List ℕ) (ws : List (Option Window)) (o : Option ℕ) (limit : ℕ) → o ≡ position (λ o. not (is_some o)) ws → length ws ≡ limit → unwrap_or o limit ≡ free (map (view p) ws)
free-position p ws o limit e l = ap (λ q. unwrap_or q limit) e ∙ go (cases_lt f (length ws)) ∙ sym (free-first p ws)
  where
    f : ℕ
    f = position_or_len (λ o. not (is_some o)) ws

    most : f ≤ length ws
    most = let m = simp length-map at (free-most (map (view p) ws)) in omega (arith, free-first p ws)

    go : ((f < length ws) ⊎ (length ws ≤ f)) → unwrap_or (cond (ltb f (length ws)) (Some f) None) limit ≡ f
    go (inl h) = rw (lt-ltb f (length ws) h) refl
    go (inr h) = rw (le-ltb f (length ws) h) (omega (arith, l, most))
