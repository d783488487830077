use Rattle.std.proofs.Common.{sym, ◌∙◌, inl, inr, subst, arith}
use Rattle.std.specs.List.{IsSplitAt}
use Rattle.damage.proofs.Walking.{others, none-short, none-off, first-there}
use Rattle.damage.proofs.head.Size.first_box.Goals as goal

pub returns-in_default : goal.returns-in_default
returns-in_default c h = none-short c.args.self.wide c.args.self.high c.args.words.now c.in_default.len_below h

pub returns-then-not-lies_on : goal.returns-then-not-lies_on
returns-then-not-lies_on c h =
    none-off c.args.self.wide c.args.self.high c.args.words.now c.from_words-head.result c.in-len2-up.len_at_least c.from_words-head.ensures (inl (sym c.lies_on.ensures ∙ c.if-not-lies_on.true))

pub returns-in_err-dots : goal.returns-in_err-dots
returns-in_err-dots c =
    rw c.from_residual.ensures
    (λ h. none-off c.args.self.wide c.args.self.high c.args.words.now c.from_words-head.result c.in-len2-up.len_at_least c.from_words-head.ensures (inr (omega (arith, c.in_err-dots.ensures.cases, c.dots.ensures))))

pub returns : goal.returns
returns c =
    first-there c.args.self c.args.words.now c.in_ok-dots.dots.now c.in_ok-dots.behind.now c.from_words-head.result c.in-len2-up.len_at_least c.from_words-head.ensures (sym c.lies_on.ensures ∙ c.if-not-lies_on.false)
    (subst (λ n. IsSplitAt (others c.args.words.now) n c.in_ok-dots.dots.now c.in_ok-dots.behind.now) c.dots.ensures c.in_ok-dots.ensures.cases)
