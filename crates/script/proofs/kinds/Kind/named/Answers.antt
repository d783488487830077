use Rattle.std.proofs.Common.{◌≡◌}
use Rattle.script.specs.declared.kinds.Kind.{Kind}
use Rattle.script.specs.declared.kinds.Kind.TheVariants.{Make, Close, Move, Raise, Show, Fill, Put, Copy, Offer, Point, Press, Key, Paste}
use Rattle.script.specs.Kinds.{name_of}
use Rattle.script.proofs.Names.{named-is, named_none}
use Rattle.script.proofs.kinds.Kind.named.Goals as goal

pub returns-in-make : goal.returns-in-make
returns-in-make c = named-is Make _ c.in-make.is

pub returns-in-close : goal.returns-in-close
returns-in-close c = named-is Close _ c.in-close.is

pub returns-in-move : goal.returns-in-move
returns-in-move c = named-is Move _ c.in-move.is

pub returns-in-raise : goal.returns-in-raise
returns-in-raise c = named-is Raise _ c.in-raise.is

pub returns-in-show : goal.returns-in-show
returns-in-show c = named-is Show _ c.in-show.is

pub returns-in-fill : goal.returns-in-fill
returns-in-fill c = named-is Fill _ c.in-fill.is

pub returns-in-put : goal.returns-in-put
returns-in-put c = named-is Put _ c.in-put.is

pub returns-in-copy : goal.returns-in-copy
returns-in-copy c = named-is Copy _ c.in-copy.is

pub returns-in-offer : goal.returns-in-offer
returns-in-offer c = named-is Offer _ c.in-offer.is

pub returns-in-point : goal.returns-in-point
returns-in-point c = named-is Point _ c.in-point.is

pub returns-in-press : goal.returns-in-press
returns-in-press c = named-is Press _ c.in-press.is

pub returns-in-key : goal.returns-in-key
returns-in-key c = named-is Key _ c.in-key.is

pub returns-in-paste : goal.returns-in-paste
returns-in-paste c = named-is Paste _ c.in-paste.is

not_named : (c : goal.In_default) (k : Kind) → c.args.word.now ≡ name_of k → ⊥
not_named c Make = c.in_default.not-make
not_named c Close = c.in_default.not-close
not_named c Move = c.in_default.not-move
not_named c Raise = c.in_default.not-raise
not_named c Show = c.in_default.not-show
not_named c Fill = c.in_default.not-fill
not_named c Put = c.in_default.not-put
not_named c Copy = c.in_default.not-copy
not_named c Offer = c.in_default.not-offer
not_named c Point = c.in_default.not-point
not_named c Press = c.in_default.not-press
not_named c Key = c.in_default.not-key
not_named c Paste = c.in_default.not-paste

pub returns-in_default : goal.returns-in_default
returns-in_default c = named_none _ (not_named c)
