-- The number of each kind, which stands in the bytes.
use Rattle.std.specs.Prelude.{ℕ}
use Rattle.protocol.specs.declared.kinds.Kind.{Kind}
use Rattle.protocol.specs.declared.kinds.Kind.TheVariants.{Make, Close, Move, Raise, Show, Fill, Put, Copy, Offer, Point, Press, Key, Paste}
use Rattle.protocol.specs.declared.kinds.WordKind.{WordKind}
use Rattle.protocol.specs.declared.kinds.WordKind.TheVariants.{No, Done, Made, At, Pressed, Typed, Pasted}

abbrev pub kind_number : Kind → ℕ
kind_number Make = 0
kind_number Close = 1
kind_number Move = 2
kind_number Raise = 3
kind_number Show = 4
kind_number Fill = 5
kind_number Put = 6
kind_number Copy = 7
kind_number Offer = 8
kind_number Point = 9
kind_number Press = 10
kind_number Key = 11
kind_number Paste = 12

abbrev pub word_number : WordKind → ℕ
word_number No = 0
word_number Done = 1
word_number Made = 2
word_number At = 3
word_number Pressed = 4
word_number Typed = 5
word_number Pasted = 6
