-- Pictures that are packed one window at a time: the first n windows are.
use Rattle.std.proofs.Common.{◌≡◌, ℕ, zero, suc, ◌+◌, List, [], ◌∷◌, get_or, take, set, None, Option, sym, refl, ap, add-zero}
use Rattle.stack.specs.declared.state.Window.{Window}
use Rattle.stack.specs.View.{begun, size_of, packed}

abbrev pub packing : ℕ → ℕ → List (Option Window) → List (Option Window)
packing zero at os = os
packing (suc n) at [] = []
packing (suc n) at (o ∷ os) = begun at o ∷ packing n (at + size_of o) os

-- where the pictures of the first n windows end
abbrev pub ending : ℕ → ℕ → List (Option Window) → ℕ
ending zero at os = at
ending (suc n) at [] = at
ending (suc n) at (o ∷ os) = ending n (at + size_of o) os

pub packing-at : (n at : ℕ) (os : List (Option Window)) → get_or (packing n at os) n None ≡ get_or os n None
packing-at zero at os = refl
packing-at (suc n) at [] = refl
packing-at (suc n) at (o ∷ os) = packing-at n (at + size_of o) os

pub packing-more : (n at : ℕ) (os : List (Option Window)) → packing (suc n) at os ≡ set (packing n at os) n (begun (ending n at os) (get_or os n None))
packing-more zero at [] = refl
packing-more zero at (o ∷ os) = refl
packing-more (suc n) at [] = refl
packing-more (suc n) at (o ∷ os) = ap (λ l. begun at o ∷ l) (packing-more n (at + size_of o) os)

pub ending-more : (n at : ℕ) (os : List (Option Window)) → ending (suc n) at os ≡ ending n at os + size_of (get_or os n None)
ending-more zero at [] = sym (add-zero at)
ending-more zero at (o ∷ os) = refl
ending-more (suc n) at [] = sym (add-zero at)
ending-more (suc n) at (o ∷ os) = ending-more n (at + size_of o) os

pub packing-all : (n at : ℕ) (os : List (Option Window)) → take n (packing n at os) ≡ packed at (take n os)
packing-all zero at os = refl
packing-all (suc n) at [] = refl
packing-all (suc n) at (o ∷ os) = ap (λ l. begun at o ∷ l) (packing-all n (at + size_of o) os)
