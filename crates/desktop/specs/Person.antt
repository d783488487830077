-- Windows that have the keys or the pointer, and the clipboard.
use Rattle.std.specs.Prelude.{◌≡◌, ℕ, Bool, true, false, List, ℤ, Some, None, Option, slice_index_or}
use Rattle.few.specs.Held.{held}
use Rattle.protocol.specs.Meaning.{part}
use Rattle.protocol.specs.declared.types.Part.{Part}
use Rattle.stack.specs.View.{slots_of}
use Rattle.stack.specs.Found.{Found}
use Rattle.stack.specs.declared.state.Window.{Window}
use Rattle.layout.specs.declared.state.State.{State}
use Rattle.layout.specs.declared.state.Clipboard.{Clipboard}

-- the window of a number in the table
abbrev pub AtNumber : Option Window → ℕ → Option (ℕ × Window) → Type 0
AtNumber slot n None = slot ≡ None
AtNumber slot n (Some f) = (f.0 ≡ n) × (slot ≡ Some f.1)

-- the same of a number that may not be there
abbrev pub Known : State → Option ℕ → Option (ℕ × Window) → Type 0
Known s None r = r ≡ None
Known s (Some n) r = AtNumber (slice_index_or (slots_of s.stack) n None) n r

-- the window that holds the pointer, or else the one in front
abbrev pub HeardBy : State → Option ℕ → ℤ → ℤ → Option (ℕ × Window) → Type 0
HeardBy s None x y r = Found s.stack x y r
HeardBy s (Some n) x y r = Known s (Some n) r

abbrev pub Heard : State → ℤ → ℤ → Option (ℕ × Window) → Type 0
Heard s x y r = HeardBy s s.held x y r

-- a clipboard that a program offered, with a part of some bytes
abbrev pub Copied : List ℕ → ℕ → Part → Option Clipboard → Type 0
Copied bs c q None = ⊥
Copied bs c q (Some k) = (k.owner ≡ Some c) × (held k.bytes ≡ part 1 bs q)

-- the clipboard that an offer of c with these bytes makes, where the desk takes the offer
abbrev pub NextClip : Bool → ℕ → List ℕ → Option Clipboard → Type 0
NextClip taken c l None = taken ≡ false
NextClip taken c l (Some k) = (taken ≡ true) × ((k.owner ≡ Some c) × (held k.bytes ≡ l))
