use Rattle.std.proofs.Common.{◌≡◌, ◌+◌, refl, arith}
use Rattle.model.specs.Promise.{FitsSizes}
use Rattle.layout.specs.Budget.{sent_room, words_room}
use Rattle.layout.specs.Sizes.{sizes_of}
use Rattle.layout.proofs.Checked.{goes_on}
use Rattle.server.proofs.Going.{going_start, going_more, going-stopped, going-over, used-as}
use Rattle.server.proofs.call.events.Goals as goal

pub events-init : goal.events-init
events-init c = (going_start _ _ _ _ _ _ _ refl, c.requires.good, omega arith, omega arith, omega arith, omega arith, omega arith, omega arith)

pub next_event-requires : goal.next_event-requires
unfolding FitsSizes
next_event-requires c = c.events.invariant.1.sizes.6

pub step-out-requires : goal.step-out-requires
step-out-requires c =
    let i = c.events.invariant in
    let r = c.in-Ok.ensures in
    let g = goes_on (sizes_of c.args.z) c.args.lent c.events.used r.room in
    record {
      good = i.1;
      had = r.had;
      sent = omega (arith, g.sent, i.4, c.requires.sent, c.events.auto.sent);
      words = omega (arith, g.words, i.5, c.requires.words, c.events.auto.words);
    }

pub events-preserved : goal.events-preserved
events-preserved c =
    let i = c.events.invariant in
    let r = c.in-Ok.ensures in
    let g = goes_on (sizes_of c.args.z) c.args.lent c.events.used r.room in
    let s = c.step-out.ensures in
    let u = c.one_more-used.ensures in
    let us : c.one_more-used.result.sent ≡ c.events.used.sent + sent_room (sizes_of c.args.z) = omega (arith, u.sent, c.requires.budget.sent) in
    let uw : c.one_more-used.result.words ≡ c.events.used.words + words_room = omega (arith, u.words, c.requires.budget.words) in (
      going_more _ _ _ _ _ _ _ _ _ _ _ _ _ _ i.0 _ _ _ _ _ _ _ _ (omega arith) r.room r.onward r.value
          s.desk s.sent_is s.words_are s.told (omega (arith, c.step-out.auto.sent)) (omega (arith, c.step-out.auto.words)) (used-as (sizes_of c.args.z) c.events.used c.one_more-used.result us uw),
      s.good,
      r.within,
      omega (arith, r.onward, i.3),
      omega (arith, s.sent_low, us, i.4),
      omega (arith, s.words_low, uw, i.5),
      omega (arith, us, g.sent, c.requires.sent),
      omega (arith, uw, g.words, c.requires.words),
    )

pub returns-in-Err : goal.returns-in-Err
returns-in-Err c =
    let i = c.events.invariant in
    let o = c.outcome.ensures in
    record { good = i.1; ran = rw o (going-stopped _ _ _ _ _ _ _ _ _ _ _ _ _ _ i.0 _ _ (omega arith) c.in-Err.ensures refl refl refl refl refl) }

pub returns : goal.returns
returns c =
    let i = c.events.invariant in
    record { good = i.1; ran = rw c.outcome-2.ensures (going-over _ _ _ _ _ _ _ _ _ _ _ _ _ _ i.0 _ (omega arith) refl refl refl refl refl) }
