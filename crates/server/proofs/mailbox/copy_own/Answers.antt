use Rattle.std.proofs.Common.{sym, arith}
use Rattle.protocol.specs.Fields.{Bytes}
use Rattle.std.proofs.lemmas.Bool.{eq-eqb, ne_eqb}
use Rattle.server.proofs.Taking.{copied-start, copied-mine, copied-other, copied-room, copied-no-fault, copied-end}
use Rattle.server.proofs.mailbox.copy_own.Goals as goal

pub copy-init : goal.copy-init
copy-init c = copied-start c.args.program c.args.words.now c.args.row.now

pub copy_part-used-requires : goal.copy_part-used-requires
copy_part-used-requires c =
    let b : Bytes c.args.words.now = λ i. omega (arith, c.type_inv.words i) in
    let e = c.in-Ok.ensures in
    let q = eq-eqb c.in-Ok.to c.args.program (omega arith) in
    let room = copied-room _ _ _ _ _ _ _ _ _ c.copy.invariant c.requires.size b (omega arith) (sym e.value) q in
    record { order = omega (arith, e.ends.0); within = e.ends.1; room = omega (arith, room, c.requires.fits) }

pub copy-preserved-then-to-program : goal.copy-preserved-then-to-program
copy-preserved-then-to-program c =
    let b : Bytes c.args.words.now = λ i. omega (arith, c.type_inv.words i) in
    let q = eq-eqb c.in-Ok.to c.args.program (omega arith) in
    copied-mine _ _ _ _ _ _ _ _ _ _ c.copy.invariant b (omega arith) (sym c.in-Ok.ensures.value) q c.copy_part-used.ensures

pub copy-preserved : goal.copy-preserved
copy-preserved c =
    let b : Bytes c.args.words.now = λ i. omega (arith, c.type_inv.words i) in
    copied-other _ _ _ _ _ _ _ _ c.copy.invariant b (omega arith) (sym c.in-Ok.ensures.value) (ne_eqb c.in-Ok.to c.args.program (omega arith))

pub returns-after-copy : goal.returns-after-copy
returns-after-copy c = copied-end _ _ _ _ _ _ c.copy.invariant (omega arith)

pub returns-in_default : goal.returns-in_default
returns-in_default c = absurd (copied-no-fault _ _ _ _ _ _ _ _ c.copy.invariant c.requires.size (omega arith) (sym c.in_default.ensures.value))
