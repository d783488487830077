use Rattle.std.proofs.Common.{drop, Some, None, sym, subst, arith}
use Rattle.model.specs.Desk.{offer}
use Rattle.model.specs.System.{taken}
use Rattle.layout.specs.Sizes.{sizes_of}
use Rattle.layout.specs.State.{desk_of}
use Rattle.protocol.specs.Meaning.{part}
use Rattle.protocol.proofs.Rows.{length-numbers}
use Rattle.stack.specs.View.{numbered}
use Rattle.desktop.specs.Person.{NextClip}
use Rattle.desktop.proofs.Hearing.{known-listens, offer-keyless, offer-other, offer-long, offer-yes, next-clip}
use Rattle.desktop.proofs.person.next_clip.Goals.{then-w-program-via-then-w-program, then-w-program-via-else-w-program+then-bytes-gt4096}
use Rattle.desktop.proofs.person.next_clip.Goals as goal

pub returns-in_err-w : goal.returns-in_err-w
unfolding taken
returns-in_err-w c _ z p g =
    let s = c.args.s.now in
    let l = part 1 c.args.call.now c.args.bytes in
    let k = known-listens s p s.keys None (g.sound p).keys_there c.in_err-w.ensures in
    subst (NextClip (taken (sizes_of z) (desk_of s p) (offer c.args.program l)) c.args.program l) (sym c.from_residual.ensures) (offer-keyless (desk_of s p) c.args.program (numbered s.keys) l k)

pub returns-then-w-program : goal.returns-then-w-program
unfolding taken
returns-then-w-program c _ z p g =
    let s = c.args.s.now in
    let l = part 1 c.args.call.now c.args.bytes in
    let n = length-numbers 1 c.args.bytes.count (drop c.args.bytes.from c.args.call.now) in
    let k = known-listens s p s.keys (Some (c.in_ok-w.field-0-0, c.in_ok-w.w)) (g.sound p).keys_there c.in_ok-w.ensures in
    elim c.then-w-program.branch [
      | then-w-program-via-then-w-program w ↦ offer-other p (desk_of s p) c.args.program (numbered s.keys) c.in_ok-w.field-0-0 c.in_ok-w.w l k.0 k.1 w.if-w-program.true
      | then-w-program-via-else-w-program+then-bytes-gt4096 w ↦ offer-long (desk_of s p) c.args.program (numbered s.keys) l (let m = w.if-bytes-gt4096.true in omega (arith, n, m))
    ]

pub returns : goal.returns
unfolding taken
returns c h z p g =
    let s = c.args.s.now in
    let l = part 1 c.args.call.now c.args.bytes in
    let n = length-numbers 1 c.args.bytes.count (drop c.args.bytes.from c.args.call.now) in
    let k = known-listens s p s.keys (Some (c.in_ok-w.field-0-0, c.in_ok-w.w)) (g.sound p).keys_there c.in_ok-w.ensures in
    let o = c.offered.ensures h c.if-bytes-gt4096.false in
    next-clip c.args.call.now c.args.bytes _ c.args.program c.offered.result (offer-yes p (desk_of s p) c.args.program (numbered s.keys) c.in_ok-w.field-0-0 c.in_ok-w.w l k.0 k.1 c.if-w-program.false (omega (arith, n, c.if-bytes-gt4096.false))) o
