use Rattle.std.proofs.Common.{◌≡◌, ◌+◌, ◌<◌, ◌++◌, true, false, [], ◌∷◌, length, get_or, sym, refl, ap, ◌∙◌, arith, of_calls}
use Rattle.std.specs.Fn.{CalledAt}
use Rattle.std.proofs.lemmas.Fn.{called_at}
use Rattle.std.specs.List.{items_where_true}
use Rattle.std.proofs.lemmas.Bool.{lt-ltb}
use Rattle.std.proofs.lemmas.List.{length-append, length-take-le, take_more_set}
use Rattle.std.proofs.Retain.{picked_push_true, picked_push_false, answers_push}
use Rattle.few.specs.Held.{held, pick}
use Rattle.few.proofs.list.Few.retain.Goals as goal
use Rattle.few.proofs.list.Few.retain.Goals.{then-f, else-f}

pub loop-x-init : goal.loop-x-init
loop-x-init g c = (search of_calls, omega arith, ([], refl, refl, refl))

pub loop-x-preserved : goal.loop-x-preserved
loop-x-preserved g c =
    let v = c.loop-x.invariant.2 in
    let bs = v.0 in
    let e = c.as_slice-x-items.ensures in
    let old = held c.args.self.now in
    let x = c.x-item.result in
    let m = ap length e in
    let h : length bs < length old = omega (arith, v.1) in
    let at : x ≡ get_or old (length bs) x = c.x-item.is ∙ ap (λ l. get_or l c.loop-x.x-index x) e ∙ ap (λ k. get_or old k x) (sym v.1) in
    let short : c.loop-x.kept < length c.loop-x.self.items = omega (arith, v.1, c.loop-x.invariant.1, c.loop-x.self.whole, length-take-le c.args.self.now.len c.args.self.now.items (omega arith)) in
    elim c.if-f.branch [
      | then-f w ↦ (
        search of_calls,
        omega (arith, c.loop-x.invariant.1),
        (
          bs ++ true ∷ [],
          length-append bs (true ∷ []) ∙ ap (λ k. k + 1) v.1,
          answers_push (CalledAt g.F.FnMut) _ _ _ bs old x true h at v.2 (called_at g.F.FnMut c.f.ensures w.if-f.true),
          rw (w.self-is, w.kept-is) (take_more_set c.loop-x.self.items c.loop-x.kept x short ∙ ap (λ l. l ++ x ∷ []) v.3 ∙ ap (λ y. items_where_true bs old ++ y ∷ []) at ∙ sym (picked_push_true bs old x h)),
        ),
      )
      | else-f w ↦ (
        search of_calls,
        omega (arith, c.loop-x.invariant.1),
        (
          bs ++ false ∷ [],
          length-append bs (false ∷ []) ∙ ap (λ k. k + 1) v.1,
          answers_push (CalledAt g.F.FnMut) _ _ _ bs old x false h at v.2 (called_at g.F.FnMut c.f.ensures w.if-f.false),
          rw (w.self-is, w.kept-is) (v.3 ∙ sym (picked_push_false bs old)),
        ),
      )
    ]

pub returns : goal.returns
returns g c =
    let v = c.loop-x.invariant.2 in
    let m = ap length c.as_slice-x-items.ensures in
    (v.0, c.loop-x.f, omega (arith, v.1), v.2, v.3)
