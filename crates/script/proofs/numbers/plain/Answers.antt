use Rattle.std.proofs.Common.{◌∙◌}
use Rattle.script.proofs.Digits.{plain-hex, plain-decimal}
use Rattle.script.proofs.numbers.plain.Goals as goal

pub returns-in-Some-clause-value : goal.returns-in-Some-clause-value
returns-in-Some-clause-value c = let p = c.in-Some.ensures.cases in c.in_radix.ensures.value ∙ plain-hex _ _ _ p.0 p.1.0 p.1.1 p.2

pub returns-in-None-clause-value : goal.returns-in-None-clause-value
returns-in-None-clause-value c = c.in_radix-in-None.ensures.value ∙ plain-decimal _ _ c.in-None.ensures.cases
