-- The state that a start makes.
use Rattle.std.proofs.Common.{◌≡◌, ℕ, zero, suc, ◌+◌, ◌≤◌, List, [], replicate, pos, None, Option, sym, ap, ◌∙◌, subst}
use Rattle.model.specs.Desk.{Desk, Sizes, Window, empty, nothing}
use Rattle.model.specs.Promise.{FitsSizes}
use Rattle.model.specs.Sound.{Sound}
use Rattle.model.proofs.Sound.{empty-sound}
use Rattle.stack.specs.View.{slots_of}
use Rattle.stack.specs.Packed.{Packed}
use Rattle.stack.specs.declared.state.Window as slot
use Rattle.layout.specs.declared.state.State.{State}
use Rattle.layout.specs.State.{desk_of, Good}

pub bare-desk : (z : Sizes) (n : ℕ) (ws : List Window) (o bs : List ℕ) → z.windows ≡ n → ws ≡ replicate n nothing → o ≡ [] → bs ≡ [] →
    ◌≡◌ {A = Desk} (record { windows = ws; order = o; px = pos 0; py = pos 0; keys = 0; held = 0; clip_of = 0; clip = bs }) (empty z)
unfolding empty
bare-desk z n ws o bs e w q c = λ i. record {
  windows = (w ∙ ap (λ m. replicate m nothing) (sym e)) i;
  order = q i;
  px = pos 0;
  py = pos 0;
  keys = 0;
  held = 0;
  clip_of = 0;
  clip = c i;
}

packed_none : (at n : ℕ) → Packed at (replicate n None)
packed_none at zero = tt
packed_none at (suc n) = (tt, packed_none (at + 0) n)

pub fresh-packed : (n : ℕ) (os : List (Option slot.Window)) → os ≡ replicate n None → Packed 0 os
fresh-packed n os e = subst (Packed 0) (sym e) (packed_none 0 n)

-- a state that is packed and has the limit and the empty desk of sizes that fit is good for them
pub fresh-good : (z : Sizes) (s : State) (size : ℕ) → FitsSizes z → z.dots ≤ size → s.stack.limit ≡ z.windows → Packed 0 (slots_of s.stack) →
    ((p : List ℕ) → desk_of s p ≡ empty z) → Good z s size
fresh-good z s size f r l k d = record { sizes = f; limit = l; packed = k; room = r; sound = λ p. subst (Sound z) (sym (d p)) (empty-sound z) }
