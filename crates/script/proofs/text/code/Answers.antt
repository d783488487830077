use Rattle.std.proofs.Common.{◌≡◌, lit<, rules}
use Rattle.std.specs.Option.{MatchOption}
use Rattle.std.proofs.lemmas.Str.Pattern.{split_parts}
use Rattle.script.proofs.Reading.{code-found}
use Rattle.script.proofs.text.code.Goals as goal

pub returns : goal.returns
returns c =
    let line = c.args.line.now in
    let front : MatchOption c.split_once.result (c.map_or.result.now ≡ line) (λ x. c.map_or.result.now ≡ x.0.now) = search rules in
    code-found line c.split_once.result _ (split_parts 35 line c.split_once.result c.split_once.ensures.cases (lit< tt)) front
