use Rattle.std.proofs.Common.{◌≡◌, leb, None, sym, ◌∙◌, rules, arith, lit<}
use Rattle.std.specs.Bool.{then_some}
use Rattle.std.specs.Option.{MatchOption}
use Rattle.std.proofs.lemmas.Str.Parse.{without_leading_plus_none}
use Rattle.std.proofs.lemmas.Bool.{eqb-true}
use Rattle.std.proofs.lemmas.Bool.Decides.{nat_tests}
use Rattle.script.proofs.Digits.{in_base-plus, in_base-kept}
use Rattle.script.proofs.numbers.in_radix.Goals as goal

pub returns-then-starts_with-clause-value : goal.returns-then-starts_with-clause-value
returns-then-starts_with-clause-value c =
    let d = c.starts_with.ensures.byte (lit< tt) (lit< tt) (λ w o h. h) in
    in_base-plus _ _ _ (eqb-true _ _ (sym d ∙ c.if-starts_with.true)) (omega arith)

pub returns-clause-value : goal.returns-clause-value
returns-clause-value c =
    let d = c.starts_with.ensures.byte (lit< tt) (lit< tt) (λ w o h. h) in
    let e = without_leading_plus_none c.args.digits.now (λ h. grind (arith, nat_tests)) in
    let kept : MatchOption c.ok.result (c.filter.result ≡ None) (λ x. c.filter.result ≡ then_some (leb x c.args.most) x) = search rules in
    in_base-kept _ _ _ c.from_str_radix.result c.ok.result _ (omega arith) e c.from_str_radix.ensures.value c.ok.ensures.value kept
