use Rattle.std.proofs.Common.{◌≡◌, false, ltb, [], ◌∷◌, ◌++◌, length, sym, refl, ap, ◌∙◌, subst, w16}
use Rattle.std.proofs.lemmas.Int.{to_z-of_z}
use Rattle.model.specs.Basics.{pick}
use Rattle.layout.specs.Sizes.{sizes_of}
use Rattle.model.specs.Desk.{sender, area}
use Rattle.model.specs.System.{taken}
use Rattle.stack.specs.View.{packed, windows_of}
use Rattle.desktop.specs.Windows.{makeable}
use Rattle.desktop.proofs.Carrying.{refusal}
use Rattle.desktop.proofs.Making.{made-carried}
use Rattle.desktop.proofs.windows.make.Goals as goal

pub returns-then-not-may_make : goal.returns-then-not-may_make
unfolding taken sender
returns-then-not-may_make c g =
    let p = c.args.pictures.now in
    let n = c.lowest_free-n.ensures.value p in
    let u = c.area_used-used.ensures.value p in
    refusal c.args.z c.args.program c.answer.ensures g
    (subst (λ i. makeable (sizes_of c.args.z) c.args.program i c.args.wide c.args.high (area (windows_of c.args.s.now.stack p)) ≡ false) n
    (subst (λ i. makeable (sizes_of c.args.z) c.args.program c.lowest_free-n.result c.args.wide c.args.high i ≡ false) u (sym c.if-not-may_make.ensures))) refl

pub returns : goal.returns
returns c g =
    let p = c.args.pictures.now in
    let a = c.set_window.ensures in
    let b = c.pack.ensures in
    let d = c.append.ensures in
    made-carried c.args.z c.args.s.now c.append.new.self p c.open_gap.new.pictures c.args.program c.lowest_free-n.result c.args.wide c.args.high c.area_used-used.result
    c.picture_start-at.result c.dots.result c.args.x c.args.y _ _ c.append.result (to_z-of_z w16 c.args.x c.ranges.x) (to_z-of_z w16 c.args.y c.ranges.y) g
    (c.lowest_free-n.ensures.value p) c.lowest_free-n.ensures.none (c.area_used-used.ensures.value p) (sym c.if-not-may_make.ensures)
    (d.slots ∙ b.slots ∙ ap (packed 0) a.slots) (d.limit ∙ b.limit ∙ a.limit)
    (d.answer ∙ ap (λ o. ltb (length o) 255) (b.order ∙ a.order)) (d.order ∙ ap (λ o. pick c.append.result (o ++ c.lowest_free-n.result ∷ []) o) (b.order ∙ a.order))
    c.picture_start-at.ensures c.dots.ensures.value c.open_gap.ensures
