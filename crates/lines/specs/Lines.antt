-- A word as a line of text.
use Rattle.std.specs.Prelude.{ℕ, Bool, true, false, List, ◌++◌, codes, take, drop, flat_map, decimal}
use Rattle.std.specs.Fmt.{signed_decimal}
use Rattle.protocol.specs.declared.types.Word.{Word}
use Rattle.protocol.specs.declared.types.Word.TheVariants.{No, Done, Made, At, Pressed, Typed, Pasted}

-- a mark as a digit
abbrev pub digit : Bool → ℕ
digit true = 1
digit false = 0

-- a byte behind a space
abbrev pub spaced : ℕ → List ℕ
spaced b = codes " " ++ decimal b

-- what the program p is told, where the source has these bytes
abbrev pub text : ℕ → List ℕ → Word → List ℕ
text p bs No = decimal p ++ codes " no"
text p bs Done = decimal p ++ codes " done"
text p bs (Made n) = decimal p ++ (codes " made " ++ decimal n)
text p bs (At n x y) = decimal p ++ (codes " at " ++ (decimal n ++ (codes " " ++ (signed_decimal x ++ (codes " " ++ signed_decimal y)))))
text p bs (Pressed n b) = decimal p ++ (codes " pressed " ++ (decimal n ++ (codes " " ++ decimal (digit b))))
text p bs (Typed n k) = decimal p ++ (codes " typed " ++ (decimal n ++ (codes " " ++ decimal k)))
text p bs (Pasted n l) = decimal p ++ (codes " pasted " ++ (decimal n ++ flat_map spaced (take l.count (drop l.from bs))))
