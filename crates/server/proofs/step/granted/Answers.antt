use Rattle.std.proofs.Common.{◌<◌, refl, rules}
use Rattle.server.specs.Told.{AllCarried}
use Rattle.server.proofs.step.granted.Goals as goal

pub returns-in-Some : goal.returns-in-Some
unfolding AllCarried
returns-in-Some c =
    let n : c.in-Some.t.program < 256 = search rules in
    rw c.in-Some.is (record { value = c.is_grant.ensures.value; fits = λ bs b. ((n, c.is_grant.ensures.fits bs b), tt) })

pub returns-in-None : goal.returns-in-None
unfolding AllCarried
returns-in-None c = rw c.in-None.is (record { value = refl; fits = λ bs b. tt })
