-- Bytes added for what words say.
use Rattle.std.specs.Prelude.{◌≡◌, ℕ, List, ◌++◌, Some, None, Ok, Err, Option, Result}
use Rattle.std.specs.Option.{option_map}
use Rattle.protocol.specs.Fields.{digits, unsigned}
use Rattle.script.specs.declared.problem.Problem.{Problem}
use Rattle.script.specs.declared.problem.Problem.TheVariants.{Unknown, Fields, Number, Long, Memory}
use Rattle.script.specs.Numerals.{signed_number}

-- a problem of the text says P of it; that no memory is left says nothing of the text
abbrev pub Blames : Problem → Type 0 → Type 0
Blames (Unknown w) P = P
Blames (Fields k) P = P
Blames (Number w low high) P = P
Blames (Long k) P = P
Blames Memory P = Unit {0}

-- what was said is added at the end; or nothing was said
abbrev pub Puts : Option (List ℕ) → List ℕ → List ℕ → Result (Unit {0}) Problem → Type 0
Puts said old new (Ok _) = (bs : List ℕ) × (said ≡ Some bs) × (new ≡ old ++ bs)
Puts said old new (Err p) = Blames p (said ≡ None)

-- the two bytes of a number with sign
unfoldable pub near_bytes : List ℕ → Option (List ℕ)
near_bytes w = option_map (λ z. digits 2 (unsigned 32768 z)) (signed_number w)
