use Rattle.protocol.proofs.told.read_word_kind.Goals as goal

pub returns-in-No : goal.returns-in-No
returns-in-No c = rw c.in-No.is c.read_no.ensures

pub returns-in-Done : goal.returns-in-Done
returns-in-Done c = rw c.in-Done.is c.read_done.ensures

pub returns-in-Made : goal.returns-in-Made
returns-in-Made c = rw c.in-Made.is c.read_made.ensures

pub returns-in-At : goal.returns-in-At
returns-in-At c = rw c.in-At.is c.read_at.ensures

pub returns-in-Pressed : goal.returns-in-Pressed
returns-in-Pressed c = rw c.in-Pressed.is c.read_pressed.ensures

pub returns-in-Typed : goal.returns-in-Typed
returns-in-Typed c = rw c.in-Typed.is c.read_typed.ensures

pub returns-in-Pasted : goal.returns-in-Pasted
returns-in-Pasted c = rw c.in-Pasted.is c.read_pasted.ensures
