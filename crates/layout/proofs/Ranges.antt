-- Sizes in their ranges are those that are not refused.
use Rattle.std.proofs.Common.{◌≡◌, ℕ, ◌≤◌, Bool, true, false, leb, is_some, Some, None, Option, refl, ap, arith, le-leb, leb-true}
use Rattle.std.proofs.lemmas.Bool.{and_parts, and_from, both_ways}
use Rattle.model.specs.Basics.{pick}
use Rattle.model.specs.Promise.{FitsSizes}
use Rattle.layout.specs.Sizes.{in_range}
use Rattle.layout.specs.Ranges.{Ranges}

-- a test that was passed, and what comes after it
passed : (b : Bool) (x : Option (ℕ × ℕ)) (v : ℕ × ℕ) → pick b x (Some v) ≡ None → (b ≡ true) × (x ≡ None)
passed true x v e = (refl, e)
passed false x v e = absurd (both_ways true (ap is_some e) refl)

ranged : (low high n : ℕ) → in_range low high n ≡ true → (low ≤ n) × (n ≤ high)
ranged low high n e = let p = and_parts (leb low n) (leb n high) e in (leb-true low n p.0, leb-true n high p.1)

in-it : (low high n : ℕ) → low ≤ n → n ≤ high → in_range low high n ≡ true
in-it low high n p q = and_from (leb low n) (leb n high) (le-leb low n p) (le-leb n high q)

pub ranges : Ranges
unfolding Ranges FitsSizes
ranges z = (
  λ e.
      let a = passed (in_range 1 4096 z.wide) _ _ e in
      let b = passed (in_range 1 4096 z.high) _ _ a.1 in
      let c = passed (in_range 0 255 z.windows) _ _ b.1 in
      let d = passed (in_range 1 64 z.programs) _ _ c.1 in
      let f = passed (in_range 0 4096 z.side) _ _ d.1 in
      let g = passed (in_range 0 16777216 z.dots) _ _ f.1 in
      let p = ranged 1 4096 z.wide a.0 in
      let q = ranged 1 4096 z.high b.0 in
      let r = ranged 1 64 z.programs d.0 in
      (p.0, p.1, q.0, q.1, (ranged 0 255 z.windows c.0).1, r.0, r.1, (ranged 0 4096 z.side f.0).1, (ranged 0 16777216 z.dots g.0).1),
  λ f.
      rw (
        in-it 1 4096 z.wide f.0 f.1,
        in-it 1 4096 z.high f.2 f.3,
        in-it 0 255 z.windows (omega arith) f.4,
        in-it 1 64 z.programs f.5 f.6,
        in-it 0 4096 z.side (omega arith) f.7,
        in-it 0 16777216 z.dots (omega arith) f.8,
      ),
)
