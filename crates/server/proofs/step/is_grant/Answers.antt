use Rattle.std.proofs.Common.{◌<◌, drop, refl, arith, w32, SFits, rules}
use Rattle.std.proofs.lemmas.Int.{ints}
use Rattle.protocol.specs.Laws.{CarriedWord, Far, Row}
use Rattle.protocol.proofs.Rows.{length-numbers, numbers-small, bytes_drop}
use Rattle.server.proofs.step.is_grant.Goals as goal

pub returns-in-No : goal.returns-in-No
unfolding CarriedWord
returns-in-No c = rw c.in-No.is (record { value = refl; fits = λ bs b. tt })

pub returns-in-Done : goal.returns-in-Done
unfolding CarriedWord
returns-in-Done c = rw c.in-Done.is (record { value = refl; fits = λ bs b. tt })

pub returns-in-Made : goal.returns-in-Made
unfolding CarriedWord
returns-in-Made c =
    let n : c.in-Made.window < 256 = search rules in
    rw c.in-Made.is (record { value = refl; fits = λ bs b. n })

pub returns-in-At : goal.returns-in-At
unfolding CarriedWord Far
returns-in-At c =
    let n : c.in-At.window < 256 = search rules in
    let x : SFits w32 c.in-At.x = search rules in
    let y : SFits w32 c.in-At.y = search rules in
    rw c.in-At.is (record { value = refl; fits = λ bs b. (n, (omega (arith, ints), omega (arith, ints)), (omega (arith, ints), omega (arith, ints))) })

pub returns-in-Pressed : goal.returns-in-Pressed
unfolding CarriedWord
returns-in-Pressed c =
    let n : c.in-Pressed.window < 256 = search rules in
    rw c.in-Pressed.is (record { value = refl; fits = λ bs b. n })

pub returns-in-Typed : goal.returns-in-Typed
unfolding CarriedWord
returns-in-Typed c =
    let n : c.in-Typed.window < 256 = search rules in
    let k : c.in-Typed.key < 4294967296 = search rules in
    rw c.in-Typed.is (record { value = refl; fits = λ bs b. (n, k) })

pub returns-in-Pasted : goal.returns-in-Pasted
unfolding CarriedWord Row
returns-in-Pasted c =
    let n : c.in-Pasted.window < 256 = search rules in
    let l : c.in-Pasted.bytes.count < 65536 = search rules in
    let q = c.in-Pasted.bytes in
    rw c.in-Pasted.is (record {
      value = refl;
      fits = λ bs b. (n, (omega (arith, length-numbers 1 q.count (drop q.from bs)), numbers-small 1 q.count (drop q.from bs) (bytes_drop q.from bs b)));
    })
