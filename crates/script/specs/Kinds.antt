-- The names of the kinds of events.
use Rattle.std.specs.Prelude.{ℕ, List, Some, None, codes, Option}
use Rattle.std.specs.Str.{bytes_eq}
use Rattle.model.specs.Basics.{pick}
use Rattle.script.specs.declared.kinds.Kind.{Kind}
use Rattle.script.specs.declared.kinds.Kind.TheVariants.{Make, Close, Move, Raise, Show, Fill, Put, Copy, Offer, Point, Press, Key, Paste}

abbrev pub name_of : Kind → List ℕ
name_of Make = codes "make"
name_of Close = codes "close"
name_of Move = codes "move"
name_of Raise = codes "raise"
name_of Show = codes "show"
name_of Fill = codes "fill"
name_of Put = codes "put"
name_of Copy = codes "copy"
name_of Offer = codes "offer"
name_of Point = codes "point"
name_of Press = codes "press"
name_of Key = codes "key"
name_of Paste = codes "paste"

-- what a message says of its fields
abbrev pub wants_of : Kind → List ℕ
wants_of Make = codes "5 fields: program x y wide high"
wants_of Close = codes "2 fields: program window"
wants_of Move = codes "4 fields: program window x y"
wants_of Raise = codes "2 fields: program window"
wants_of Show = codes "3 fields: program window mark"
wants_of Fill = codes "7 fields: program window x y wide high colour"
wants_of Put = codes "4 fields or more: program window x y colours.."
wants_of Copy = codes "8 fields: program window x y wide high to-x to-y"
wants_of Offer = codes "1 field or more: program bytes.."
wants_of Point = codes "2 fields: x y"
wants_of Press = codes "1 field: mark"
wants_of Key = codes "1 field: key"
wants_of Paste = codes "no fields"

-- k if w is its name, else the other answer
abbrev pub or_else : Kind → List ℕ → Option Kind → Option Kind
or_else k w other = pick (bytes_eq w (name_of k)) (Some k) other

-- the kind that a word names
unfoldable pub kind_of : List ℕ → Option Kind
kind_of w =
    or_else Make w (or_else Close w (or_else Move w (or_else Raise w (or_else Show w (or_else Fill w (or_else Put w
    (or_else Copy w (or_else Offer w (or_else Point w (or_else Press w (or_else Key w (or_else Paste w None))))))))))))
