use Rattle.std.proofs.Common.{◌≡◌, pos, neg_ℤ, Some, None, ap, ◌∙◌, lit<, rules}
use Rattle.std.specs.Option.{option_map}
use Rattle.std.proofs.lemmas.Str.Pattern.{strip_prefix_char}
use Rattle.script.proofs.Digits.{signed-minus, signed-plain}
use Rattle.script.proofs.numbers.signed.Goals as goal

pub returns-in-Some : goal.returns-in-Some
returns-in-Some c =
    let cut = strip_prefix_char 45 c.args.word.now (Some c.in-Some.rest) c.in-Some.ensures.cases (lit< tt) in
    let turned : c.map.result ≡ option_map (λ n. neg_ℤ (pos n)) c.plain.result = search rules in
    turned ∙ (ap (option_map (λ n. neg_ℤ (pos n))) c.plain.ensures.value ∙ signed-minus _ _ cut)

pub returns-in-None : goal.returns-in-None
returns-in-None c =
    let uncut = strip_prefix_char 45 c.args.word.now None c.in-None.ensures.cases (lit< tt) in
    let kept : c.map-in-None.result ≡ option_map (λ n. pos n) c.plain-in-None.result = search rules in
    kept ∙ (ap (option_map (λ n. pos n)) c.plain-in-None.ensures.value ∙ signed-plain _ uncut)
