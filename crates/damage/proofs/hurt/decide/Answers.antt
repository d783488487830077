use Rattle.std.proofs.Common.{◌≡◌, ℕ, Bool, List, true, false, ◌&&◌, sym, refl, ap, ◌∙◌, subst, w16, SFits, rules}
use Rattle.std.proofs.lemmas.Int.{to_z-of_z}
use Rattle.model.specs.Desk as desk
use Rattle.model.specs.Desk.{Desk, window}
use Rattle.model.specs.Promise.{subject}
use Rattle.model.specs.System.{taken, damage, same_place}
use Rattle.protocol.specs.Meaning.{meaning}
use Rattle.protocol.specs.declared.types.Event.{Event}
use Rattle.protocol.specs.declared.types.Patch.{Patch}
use Rattle.stack.specs.View.{view}
use Rattle.layout.specs.Sizes.{sizes_of}
use Rattle.layout.specs.State.{desk_of}
use Rattle.layout.specs.declared.sizes.Sizes.{Sizes}
use Rattle.damage.specs.declared.types.Hurt.{Hurt}
use Rattle.damage.specs.Hurts.{Decided, Placing}
use Rattle.damage.proofs.Deciding.{none-refused, none-about, none-moved, close-decided, raise-decided, show-decided, move-decided, fill-decided, put-decided, copy-decided, unseen-make, unseen-offer, unseen-point, unseen-press, unseen-key, unseen-paste}
use Rattle.damage.proofs.hurt.decide.Goals as goal

pub returns-then-not-taken : goal.returns-then-not-taken
returns-then-not-taken c z bs p t = none-refused z (desk_of c.args.before.now p) (meaning bs c.args.e) (sym t ∙ c.if-not-taken.true)

-- the event is one of its kind, which was carried out, or is about no window
carried : (z : Sizes) (bs : List ℕ) (d : Desk) (e e' : Event) (took : Bool) (h : Hurt) → e ≡ e' → took ≡ true → took ≡ taken (sizes_of z) d (meaning bs e) →
    (taken (sizes_of z) d (meaning bs e') ≡ true → Decided (sizes_of z) d (meaning bs e') h) → Decided (sizes_of z) d (meaning bs e) h
carried z bs d e e' took h i y t f = subst (λ (e : Event). took ≡ taken (sizes_of z) d (meaning bs e) → Decided (sizes_of z) d (meaning bs e) h) (sym i) (λ t. f (sym t ∙ y)) t

unseen : (z : Sizes) (bs : List ℕ) (d : Desk) (e e' : Event) → e ≡ e' → subject (meaning bs e') ≡ 0 → (i j : ℕ) → damage (sizes_of z) d (meaning bs e) i j ≡ false
unseen z bs d e e' i n = none-about z d (meaning bs e) (ap (λ (e : Event). subject (meaning bs e)) i ∙ n)

pub returns-then-lies_at : goal.returns-then-lies_at
returns-then-lies_at c z bs p t =
    let d = desk_of c.args.before.now p in
    let m = c.in-Move in
    let fx : SFits w16 c.in-Move.x = search rules in
    let fy : SFits w16 c.in-Move.y = search rules in
    let e : true ≡ (same_place (view p c.window.result).x m.x && same_place (view p c.window.result).y m.y) = simp to_z-of_z at (c.if-lies_at.ensures p) in
    subst (λ (e : Event). (i j : ℕ) → damage (sizes_of z) d (meaning bs e) i j ≡ false) (sym m.is)
    (none-moved z d m.program m.window m.x m.y (sym (e ∙ ap (λ (w : desk.Window). same_place w.x m.x && same_place w.y m.y) (c.window.ensures.value d p refl))))

pub returns-in-Close : goal.returns-in-Close
returns-in-Close c z bs p t =
    let d = desk_of c.args.before.now p in
    let m = c.in-Close in
    let a = c.about in
    carried z bs d c.args.e _ c.args.taken a.result m.is c.if-not-taken.false t
    (λ k. close-decided z d m.program m.window a.result a.ensures.window k a.ensures.how (a.ensures.area p))

pub returns-in-Raise : goal.returns-in-Raise
returns-in-Raise c z bs p t =
    let d = desk_of c.args.before.now p in
    let m = c.in-Raise in
    let a = c.about-in-Raise in
    carried z bs d c.args.e _ c.args.taken a.result m.is c.if-not-taken.false t
    (λ k. raise-decided z d m.program m.window a.result a.ensures.window k a.ensures.how (a.ensures.area p))

pub returns-in-Show : goal.returns-in-Show
returns-in-Show c z bs p t =
    let d = desk_of c.args.before.now p in
    let m = c.in-Show in
    let a = c.about-in-Show in
    carried z bs d c.args.e _ c.args.taken a.result m.is c.if-not-taken.false t
    (λ k. show-decided z d m.program m.window a.result a.ensures.window m.on k a.ensures.how (a.ensures.area p))

pub returns-else-lies_at : goal.returns-else-lies_at
returns-else-lies_at c z bs p t =
    let d = desk_of c.args.before.now p in
    let m = c.in-Move in
    let a = c.about-in-Move in
    let fx : SFits w16 c.in-Move.x = search rules in
    let fy : SFits w16 c.in-Move.y = search rules in
    let e : false ≡ (same_place (view p c.window.result).x m.x && same_place (view p c.window.result).y m.y) = simp to_z-of_z at (c.if-lies_at.ensures p) in
    carried z bs d c.args.e _ c.args.taken a.result m.is c.if-not-taken.false t
    (λ k. move-decided z d m.program m.window a.result a.ensures.window m.x m.y k
    (sym (e ∙ ap (λ (w : desk.Window). same_place w.x m.x && same_place w.y m.y) (c.window.ensures.value d p refl))) a.ensures.how (a.ensures.area p))

pub returns-in-Fill : goal.returns-in-Fill
returns-in-Fill c z bs p t =
    let d = desk_of c.args.before.now p in
    let m = c.in-Fill in
    let a = c.about-in-Fill in
    carried z bs d c.args.e _ c.args.taken a.result m.is c.if-not-taken.false t
    (λ k. fill-decided z d m.program m.window a.result a.ensures.window m.patch.x m.patch.y m.patch.wide m.patch.high m.colour k a.ensures.how (a.ensures.area p))

pub returns-in-Put : goal.returns-in-Put
returns-in-Put c z bs p t =
    let d = desk_of c.args.before.now p in
    let m = c.in-Put in
    let a = c.about-in-Put in
    carried z bs d c.args.e _ c.args.taken a.result m.is c.if-not-taken.false t
    (λ k. put-decided z d m.program m.window a.result a.ensures.window m.x m.y bs m.colours k a.ensures.how (a.ensures.area p))

pub returns-in-Copy : goal.returns-in-Copy
returns-in-Copy c z bs p t =
    let d = desk_of c.args.before.now p in
    let m = c.in-Copy in
    let a = c.about-in-Copy in
    let k = m.patch in
    let w = c.moved_to.ensures in
    carried z bs d c.args.e _ c.args.taken a.result m.is c.if-not-taken.false t
    (λ t. copy-decided z d m.program m.window a.result a.ensures.window k.x k.y k.wide k.high m.to_x m.to_y t a.ensures.how
    (subst (λ (q : Patch). Placing (window d m.window) q.x q.y q.wide q.high a.result.area) w (a.ensures.area p)))

pub returns-in-Make : goal.returns-in-Make
returns-in-Make c z bs p t = unseen z bs (desk_of c.args.before.now p) c.args.e _ c.in-Make.is (unseen-make _ _ _ _ _)

pub returns-in-Offer : goal.returns-in-Offer
returns-in-Offer c z bs p t = unseen z bs (desk_of c.args.before.now p) c.args.e _ c.in-Offer.is (unseen-offer _ _)

pub returns-in-Point : goal.returns-in-Point
returns-in-Point c z bs p t = unseen z bs (desk_of c.args.before.now p) c.args.e _ c.in-Point.is (unseen-point _ _)

pub returns-in-Press : goal.returns-in-Press
returns-in-Press c z bs p t = unseen z bs (desk_of c.args.before.now p) c.args.e _ c.in-Press.is (unseen-press _)

pub returns-in-Key : goal.returns-in-Key
returns-in-Key c z bs p t = unseen z bs (desk_of c.args.before.now p) c.args.e _ c.in-Key.is (unseen-key _)

pub returns-in-Paste : goal.returns-in-Paste
returns-in-Paste c z bs p t = unseen z bs (desk_of c.args.before.now p) c.args.e _ c.in-Paste.is (unseen-paste)
