-- What a text says: an event a line, without comments.
use Rattle.std.specs.Prelude.{◌≡◌, ℕ, ◌+◌, ◌<◌, List, [], ◌∷◌, ◌++◌, length, Some, None, Ok, Err, Option, Result, ◌==◌}
use Rattle.std.specs.Str.Lines.{IsFirstLine}
use Rattle.std.specs.Option.{option_map}
use Rattle.std.specs.Char.{is_whitespace, is_not_whitespace}
use Rattle.std.specs.Str.{NoCharPasses, EmptyOrStartsWithPassing}
use Rattle.model.specs.Basics.{pick}
use Rattle.model.specs.Desk.{Event}
use Rattle.protocol.specs.Formats.{encode}
use Rattle.script.specs.declared.problem.Problem.{Problem}
use Rattle.script.specs.Kinds.{kind_of}
use Rattle.script.specs.Putting.{Blames}
use Rattle.script.specs.Sentences.{and_then, kind_says}
use Rattle.script.specs.Tables.{number_of}

-- a line without its comment, which begins with #
abbrev pub code_of : List ℕ → List ℕ
code_of [] = []
code_of (c ∷ cs) = pick (c == 35) [] (c ∷ code_of cs)

-- bs is white space, the word w, and rest, which is empty or begins with white space
pub record FirstWord (bs w rest : List ℕ) : Type 0 where
  pub gap : List ℕ
  pub cut : bs ≡ gap ++ (w ++ rest)
  pub some : 0 < length w
  pub blank : NoCharPasses is_not_whitespace gap
  pub solid : NoCharPasses is_whitespace w
  pub ends : (more : List ℕ) × EmptyOrStartsWithPassing is_whitespace rest more

-- ws are the words of bs
abbrev pub Words : List ℕ → List (List ℕ) → Type 0
Words bs [] = NoCharPasses is_not_whitespace bs
Words bs (w ∷ ws) = (rest : List ℕ) × FirstWord bs w rest × Words rest ws

-- what the words of a line say: no event, or one
abbrev pub sentence : List (List ℕ) → Option (List Event)
sentence [] = Some []
sentence (w ∷ ws) = and_then (kind_of w) (λ k. option_map (λ e. e ∷ []) (kind_says (number_of k) ws))

abbrev pub LineSays : List ℕ → Option (List Event) → Type 0
LineSays line said = (ws : List (List ℕ)) × Words (code_of line) ws × (sentence ws ≡ said)

-- events in bytes, one after another
abbrev pub encode_all : List Event → List ℕ
encode_all [] = []
encode_all (e ∷ es) = encode e ++ encode_all es

-- what a line says is added; or it says nothing
abbrev pub PutsLine : List ℕ → List ℕ → List ℕ → Result (Unit {0}) Problem → Type 0
PutsLine line old new (Ok _) = (es : List Event) × LineSays line (Some es) × (new ≡ old ++ encode_all es)
PutsLine line old new (Err p) = Blames p (LineSays line None)

-- what each line of a text says
abbrev pub TextSays : List ℕ → List (List Event) → Type 0
TextSays bs [] = length bs ≡ 0
TextSays bs (es ∷ ess) = (line : List ℕ) × (rest : List ℕ) × (0 < length bs) × IsFirstLine bs line rest × LineSays line (Some es) × TextSays rest ess

-- a text whose first lines say this, and the next is wrong
abbrev pub WrongAfter : List ℕ → List (List Event) → Type 0
WrongAfter bs [] = (line : List ℕ) × (rest : List ℕ) × (0 < length bs) × IsFirstLine bs line rest × LineSays line None
WrongAfter bs (es ∷ ess) = (line : List ℕ) × (rest : List ℕ) × (0 < length bs) × IsFirstLine bs line rest × LineSays line (Some es) × WrongAfter rest ess

-- the line of this number, counted from 1, is the first that is wrong
abbrev pub WrongAt : List ℕ → ℕ → Type 0
WrongAt bs n = (ess : List (List Event)) × WrongAfter bs ess × (n ≡ length ess + 1)

-- the events of all lines
abbrev pub all_events : List (List Event) → List Event
all_events [] = []
all_events (es ∷ ess) = es ++ all_events ess
