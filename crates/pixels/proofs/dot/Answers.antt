use Rattle.std.proofs.Common.{◌≡◌, ◌^◌, ◌≤◌, length, get_or, rules, sym, ◌∙◌, inl, inr, arith}
use Rattle.std.proofs.lemmas.List.{get_or_past}
use Rattle.std.proofs.lemmas.Bool.{cases_lt}
use Rattle.pixels.specs.Pictures.{place}
use Rattle.pixels.proofs.Laws.{dot-inside, dot-outside}
use Rattle.pixels.proofs.dot.Goals as goal

pub returns-then-i-picture : goal.returns-then-i-picture
returns-then-i-picture c =
    sym (dot-outside c.args.pictures.now c.args.picture.at c.args.picture.wide c.args.picture.high c.args.i c.args.j
    (elim c.then-i-picture.either [ inl h ↦ inl (omega arith) | inr h ↦ inr (omega arith) ]))

-- no slice has so many dots
pub returns-in_default : goal.returns-in_default
returns-in_default c =
    let h : length c.args.pictures.now ≤ place c.args.picture.at c.args.picture.wide c.args.i c.args.j =
    elim (cases_lt (place c.args.picture.at c.args.picture.wide c.args.i c.args.j) (2 ^ 64)) [ inl l ↦ absurd (c.in_default.ensures l) | inr l ↦ omega arith ] in
    sym (dot-inside c.args.pictures.now c.args.picture.at c.args.picture.wide c.args.picture.high c.args.i c.args.j (omega arith) (omega arith)
    ∙ get_or_past c.args.pictures.now (place c.args.picture.at c.args.picture.wide c.args.i c.args.j) 0 h)

pub returns : goal.returns
returns c =
    let p = c.args.picture in
    let e : c.unwrap_or.result ≡ get_or c.args.pictures.now (place p.at p.wide c.args.i c.args.j) 0 = search rules in
    e ∙ sym (dot-inside c.args.pictures.now p.at p.wide p.high c.args.i c.args.j (omega arith) (omega arith))
