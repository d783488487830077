use Rattle.server.proofs.Opening.{not-sized, called}
use Rattle.server.proofs.call.event.Goals as goal

pub returns-in_default-budget : goal.returns-in_default-budget
returns-in_default-budget c = absurd (not-sized _ _ c.in-Some.ensures.good.sizes c.in_default-budget.ensures)

pub returns : goal.returns
returns c =
    called c.args.call.now c.args.pictures.now c.args.work.now c.args.sent.now c.args.words.now c.events-r.new.pictures c.store.new.work c.events-r.new.sent c.events-r.new.words
    c.events-r.result c.in-Some.z c.in-Some.loaded c.events-r.new.s c.in-Some.ensures c.store.result c.events-r.ensures.good c.events-r.ensures.ran c.store.ensures
