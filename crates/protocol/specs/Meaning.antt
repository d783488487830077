-- What the values of the code mean: events and words of the desk, and what a reader found.
use Rattle.std.specs.Prelude.{◌≡◌, ℕ, ◌+◌, ◌*◌, ◌<◌, ◌≤◌, Bool, true, false, List, length, drop, Ok, Err, Result, nat_le, slice_index_or}
use Rattle.model.specs.Desk as desk
use Rattle.protocol.specs.Fields.{Found, numbers}
use Rattle.protocol.specs.declared.types.Part.{Part}
use Rattle.protocol.specs.declared.types.Fault.{Fault}
use Rattle.protocol.specs.declared.types.Kinds.{Kinds}
use Rattle.protocol.specs.declared.types.Event.{Event}
use Rattle.protocol.specs.declared.types.Event.TheVariants.{Make, Close, Move, Raise, Show, Fill, Put, Copy, Offer, Point, Press, Key, Paste}
use Rattle.protocol.specs.declared.types.Word.{Word}
use Rattle.protocol.specs.declared.types.Word.TheVariants.{No, Done, Made, At, Pressed, Typed, Pasted}

-- the numbers of w bytes each that a part points to
abbrev pub part : ℕ → List ℕ → Part → List ℕ
part w bs q = numbers w q.count (drop q.from bs)

-- an event whose parts point into the bytes bs
abbrev pub meaning : List ℕ → Event → desk.Event
meaning bs (Make c x y w h) = desk.make c x y w h
meaning bs (Close c n) = desk.close c n
meaning bs (Move c n x y) = desk.move c n x y
meaning bs (Raise c n) = desk.raise c n
meaning bs (Show c n b) = desk.show c n b
meaning bs (Fill c n q k) = desk.fill c n q.x q.y q.wide q.high k
meaning bs (Put c n x y l) = desk.put c n x y (part 4 bs l)
meaning bs (Copy c n q a b) = desk.copy c n q.x q.y q.wide q.high a b
meaning bs (Offer c l) = desk.offer c (part 1 bs l)
meaning bs (Point x y) = desk.point x y
meaning bs (Press b) = desk.press b
meaning bs (Key k) = desk.key k
meaning bs Paste = desk.paste

-- a word whose part points into the bytes bs
abbrev pub word_meaning : List ℕ → Word → desk.Word
word_meaning bs No = desk.no
word_meaning bs Done = desk.done
word_meaning bs (Made n) = desk.made n
word_meaning bs (At n x y) = desk.at n x y
word_meaning bs (Pressed n b) = desk.pressed n b
word_meaning bs (Typed n k) = desk.typed n k
word_meaning bs (Pasted n l) = desk.pasted n (part 1 bs l)

-- which kinds of events are built
abbrev pub built_of : Kinds → ℕ → Bool
built_of k q = slice_index_or k.built q false

-- what a reader of the bytes bs answers
abbrev pub said : List ℕ → Result (Event × ℕ) Fault → Found desk.Event
said bs (Ok r) = Ok (meaning bs r.0, r.1)
said bs (Err e) = Err e.place

abbrev pub word_said : List ℕ → Result (Word × ℕ) Fault → Found desk.Word
word_said bs (Ok r) = Ok (word_meaning bs r.0, r.1)
word_said bs (Err e) = Err e.place

-- and with the program that is told
abbrev pub told_said : List ℕ → Result ((ℕ × Word) × ℕ) Fault → Found (ℕ × desk.Word)
told_said bs (Ok r) = Ok ((r.0.0, word_meaning bs r.0.1), r.1)
told_said bs (Err e) = Err e.place

-- what was read at the byte k ends behind it and within the bytes; a fault is within them, and fits 32 bits
abbrev pub Ends : {A : Type 0} → List ℕ → ℕ → Result (A × ℕ) Fault → Type 0
Ends bs k (Ok r) = (k < r.1) × (r.1 ≤ length bs)
Ends bs k (Err e) = (e.place ≤ length bs) × (e.place < 4294967296)

-- a part of elements of w bytes each lies in the bytes bs
abbrev pub lies : ℕ → List ℕ → Part → Bool
lies w bs q = nat_le (q.from + w * q.count) (length bs)

-- whether all that an event or a word points to lies in the bytes bs
abbrev pub had : List ℕ → Event → Bool
had bs (Make c x y w h) = true
had bs (Close c n) = true
had bs (Move c n x y) = true
had bs (Raise c n) = true
had bs (Show c n b) = true
had bs (Fill c n q k) = true
had bs (Put c n x y l) = lies 4 bs l
had bs (Copy c n q a b) = true
had bs (Offer c l) = lies 1 bs l
had bs (Point x y) = true
had bs (Press b) = true
had bs (Key k) = true
had bs Paste = true

-- the same of an event that was read
abbrev pub Had : List ℕ → Result (Event × ℕ) Fault → Type 0
Had bs (Ok r) = had bs r.0 ≡ true
Had bs (Err e) = Unit {0}

abbrev pub word_had : List ℕ → Word → Bool
word_had bs No = true
word_had bs Done = true
word_had bs (Made n) = true
word_had bs (At n x y) = true
word_had bs (Pressed n b) = true
word_had bs (Typed n k) = true
word_had bs (Pasted n l) = lies 1 bs l
