-- Laws of `pick` and of what it counts.
use Rattle.std.proofs.Common.{◌≡◌, ◌<◌, ◌≤◌, Bool, true, false, ◌&&◌, refl, arith}
use Rattle.std.proofs.lemmas.Bool.{both_ways}
use Rattle.model.specs.Basics.{pick, bit}

-- cases of `pick`, keeping what the test said
pub by-pick {ℓ} : {A : Type 0} (b : Bool) (x y : A) (P : A → Type ℓ) → (b ≡ true → P x) → (b ≡ false → P y) → P (pick b x y)
by-pick true x y P f g = f refl
by-pick false x y P f g = g refl

pub pick_true : {A : Type 0} (b : Bool) (x y : A) → b ≡ true → pick b x y ≡ x
pick_true b x y e = rw e

pub pick-false : {A : Type 0} (b : Bool) (x y : A) → b ≡ false → pick b x y ≡ y
pick-false b x y e = rw e

-- what a count of 0 or 1 tells of its test
pub bit-small : (b : Bool) → bit b ≤ 1
bit-small true = omega arith
bit-small false = omega arith

pub bit-some : (o b : Bool) → 0 < bit (o && b) → b ≡ true
bit-some true true h = refl
bit-some true false h = absurd (omega arith)
bit-some false b h = absurd (omega arith)

pub bit-none : (o b : Bool) → o ≡ true → bit (o && b) ≡ 0 → b ≡ false
bit-none true true e h = absurd (omega arith)
bit-none true false e h = refl
bit-none false b e h = absurd (both_ways false refl e)
