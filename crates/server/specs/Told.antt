-- What programs are told, in bytes: one word after another, each with the program that it goes to.
use Rattle.std.specs.Prelude.{ℕ, List, [], ◌∷◌, ◌++◌}
use Rattle.model.specs.Desk.{Word}
use Rattle.protocol.specs.Formats.{encode_word}
use Rattle.protocol.specs.Laws.{Told}

unfoldable pub told_bytes : List (ℕ × Word) → List ℕ
told_bytes [] = []
told_bytes (m ∷ ms) = encode_word m.0 m.1 ++ told_bytes ms

-- words that bytes carry, each to a program that a byte can name
unfoldable pub AllCarried : List (ℕ × Word) → Type 0
AllCarried [] = Unit {0}
AllCarried (m ∷ ms) = Told m × AllCarried ms
