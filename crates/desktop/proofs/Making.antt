-- Windows that are made and closed, and the room for their pictures.
use Rattle.std.proofs.Common.{◌≡◌, ℕ, zero, suc, ◌+◌, ◌*◌, ◌<◌, ◌≤◌, Bool, true, false, ◌&&◌, eqb, ltb, leb, List, [], ◌∷◌, ◌++◌, map, length, get_or, set, ℤ, Some, None, Option, sym, refl, ap, ◌∙◌, subst, zero-add, arith, ltb-true, lt-ltb, leb-true}
use Rattle.std.proofs.lemmas.Bool.{and_parts, both_ways}
use Rattle.model.specs.Basics.{pick}
use Rattle.model.specs.Desk.{nothing, free, area, with_window, with_order, with_hands, mine, without, does, make, close}
use Rattle.model.specs.System.{taken}
use Rattle.stack.specs.View.{view, slots_of, windows_of, order_of, numbered, packed, size_of}
use Rattle.stack.specs.Packed.{Packed, fresh}
use Rattle.stack.specs.declared.state.Window.{Window}
use Rattle.stack.specs.declared.state.Stack.{Stack}
use Rattle.stack.proofs.Slots.{length-slots}
use Rattle.stack.proofs.Packing.{ending}
use Rattle.stack.proofs.Packed.{packed-is, packed-same, begins-at, ending-up, ending-next, ending-area, made-views, closed-views}
use Rattle.layout.specs.Sizes.{sizes_of}
use Rattle.layout.specs.State.{desk_of, Good}
use Rattle.layout.specs.declared.sizes.Sizes.{Sizes}
use Rattle.layout.specs.declared.state.State.{State}
use Rattle.protocol.specs.declared.types.Word.TheVariants.{Made}
use Rattle.desktop.specs.declared.told.Told.{Told}
use Rattle.desktop.specs.Does.{CarriedOut, answered}
use Rattle.desktop.specs.Gaps.{Opened, Closed}
use Rattle.desktop.specs.Windows.{makeable, start_of}
use Rattle.desktop.proofs.Carrying.{carried-to}
use Rattle.desktop.proofs.Arranging.{with-stack, make-room}

-- the picture of a window that is made begins where those of lower numbers end
made-start : (n at : ℕ) (os : List (Option Window)) (w : Window) → n < length os → start_of (get_or (packed at (set os n (Some w))) n None) ≡ ending n at os
made-start n at [] w h = absurd (omega arith)
made-start zero at (o ∷ os) w h = refl
made-start (suc n) at (o ∷ os) w h = made-start n (at + size_of o) os w (omega arith)

-- where the pictures end: as many dots as they have
used-is : (s : State) (p : List ℕ) → ending (length (slots_of s.stack)) 0 (slots_of s.stack) ≡ area (windows_of s.stack p)
used-is s p = ending-area p 0 (slots_of s.stack) ∙ zero-add _

pub made_at : (z : Sizes) (s : State) (t : Stack) (n : ℕ) (w : Window) → n < s.stack.limit → slots_of t ≡ packed 0 (set (slots_of s.stack) n (Some w)) →
    start_of (get_or (slots_of t) n None) ≡ ending n 0 (slots_of s.stack)
made_at z s t n w l e = ap (λ os. start_of (get_or os n None)) e ∙ made-start n 0 (slots_of s.stack) w (let k = length-slots s.stack in omega arith)

-- what making a window asks, by parts
pub record Allowed (z : Sizes) (c n wide high used : ℕ) : Type 0 where
  pub number : n < z.windows
  pub room : used + wide * high ≤ z.dots

pub allowed : (z : Sizes) (c n wide high used : ℕ) → makeable (sizes_of z) c n wide high used ≡ true → Allowed z c n wide high used
allowed z c n wide high used t =
    let p = and_parts (ltb c z.programs && ltb n z.windows) ((leb 1 wide && leb wide z.side) && ((leb 1 high && leb high z.side) && leb (used + wide * high) z.dots)) t in
    let q = and_parts (leb 1 wide && leb wide z.side) ((leb 1 high && leb high z.side) && leb (used + wide * high) z.dots) p.1 in
    record { number = ltb-true _ _ (and_parts (ltb c z.programs) (ltb n z.windows) p.0).1; room = leb-true _ _ (and_parts (leb 1 high && leb high z.side) (leb (used + wide * high) z.dots) q.1).1 }

-- a new window
abbrev pub blank : ℕ → ℤ → ℤ → ℕ → ℕ → Window
blank c x y wide high = record { owner = c; shown = false; x = x; y = y; wide = wide; high = high; at = 0 }

abbrev pub told-made : ℕ → ℕ → Option Told
told-made c n = Some (record { program = c; word = Made n })

pub made-carried : (z : Sizes) (s : State) (t : Stack) (p q : List ℕ) (c n wide high used at size : ℕ) (x y x' y' : ℤ) (b : Bool) → x' ≡ x → y' ≡ y → Good (sizes_of z) s (length p) →
    n ≡ free (windows_of s.stack p) → get_or (slots_of s.stack) n None ≡ None → used ≡ area (windows_of s.stack p) → makeable (sizes_of z) c n wide high used ≡ true →
    slots_of t ≡ packed 0 (set (slots_of s.stack) n (Some (blank c x' y' wide high))) → t.limit ≡ s.stack.limit →
    b ≡ ltb (length (order_of s.stack)) 255 → order_of t ≡ pick b (order_of s.stack ++ n ∷ []) (order_of s.stack) →
    at ≡ start_of (get_or (slots_of t) n None) → size ≡ wide * high → (at ≤ used → used + size ≤ length p → Opened at size used p q) →
    CarriedOut (sizes_of z) (make c x y wide high) s p (with-stack s t) q (told-made c n)
unfolding does with_order with_window taken
made-carried z s t p q c n wide high used at size x y x' y' b ex ey g f e u m k' l a o v sz w =
    let k : slots_of t ≡ packed 0 (set (slots_of s.stack) n (Some (blank c x y wide high))) = k' ∙ ap (λ i. packed 0 (set (slots_of s.stack) n (Some (blank c i y' wide high)))) ex ∙ ap (λ i. packed 0 (set (slots_of s.stack) n (Some (blank c x i wide high)))) ey in
    let al = allowed z c n wide high used m in
    let lim = g.limit in
    let ln = length-slots s.stack in
    let nl : n < s.stack.limit = omega (arith, al.number, lim) in
    let st : at ≡ ending n 0 (slots_of s.stack) = v ∙ made_at z s t n (blank c x y wide high) nl k in
    let us : ending (length (slots_of s.stack)) 0 (slots_of s.stack) ≡ used = used-is s p ∙ sym u in
    let up = ending-up n 0 (slots_of s.stack) in
    let rm = g.room in
    let op = subst (λ i. Opened at i used p q) sz (w (omega (arith, st, us, up)) (omega (arith, al.room, rm, sz))) in
    let full : b ≡ true = a ∙ lt-ltb _ _ (make-room z s p n g nl e) in
    let vs : windows_of t q ≡ set (windows_of s.stack p) n (fresh (blank c x y wide high)) =
    ap (map (view q)) k ∙
    made-views p q n 0 (slots_of s.stack) (blank c x y wide high) e (omega (arith, nl, ln))
    (λ i h. op.below i (omega (arith, st, h)))
    (λ i h. ap (λ j. get_or q (j + i) 0) (sym st) ∙ op.within i h)
    (λ i h. ap (λ j. get_or q (j + wide * high + i) 0) (sym st) ∙ op.behind i (omega (arith, st, us, h)) ∙ ap (λ j. get_or p (j + i) 0) st) ∙
    ap (λ os. set (map (view p) os) n (fresh (blank c x y wide high))) (packed-same 0 (slots_of s.stack) g.packed) in
    let tk : makeable (sizes_of z) c (free (windows_of s.stack p)) wide high (area (windows_of s.stack p)) ≡ true = subst (λ i. makeable (sizes_of z) c i wide high (area (windows_of s.stack p)) ≡ true) f (subst (λ i. makeable (sizes_of z) c n wide high i ≡ true) u m) in
    carried-to z (make c x y wide high) s (with-stack s t) p q (told-made c n) refl g op.len l (subst (Packed 0) (sym k) (packed-is 0 _))
    (rw (tk, ← f, vs, o, full)) (rw (tk, ← f)) (λ h. absurd (both_ways _ h tk))

pub closed-carried : {r : Option Told} (z : Sizes) (s : State) (t : Stack) (p q : List ℕ) (c n used size : ℕ) (w : Window) (keys held : Option ℕ) → r ≡ answered c true → Good (sizes_of z) s (length p) →
    get_or (slots_of s.stack) n None ≡ Some w → mine (desk_of s p) c n ≡ true → used ≡ area (windows_of s.stack p) →
    slots_of t ≡ packed 0 (set (slots_of s.stack) n None) → t.limit ≡ s.stack.limit → order_of t ≡ without n (order_of s.stack) →
    numbered keys ≡ pick (eqb (numbered s.keys) (suc n)) 0 (numbered s.keys) → numbered held ≡ pick (eqb (numbered s.held) (suc n)) 0 (numbered s.held) →
    size ≡ w.wide * w.high → (w.at + size ≤ used → used ≤ length p → Closed w.at size used p q) →
    CarriedOut (sizes_of z) (close c n) s p (record { stack = t; x = s.x; y = s.y; keys = keys; held = held; clip = s.clip }) q r
unfolding does with_hands with_order with_window taken
closed-carried z s t p q c n used size w keys held a g e m u k l o ks hs es h =
    let st : w.at ≡ ending n 0 (slots_of s.stack) = begins-at 0 n (slots_of s.stack) w g.packed e in
    let us : ending (length (slots_of s.stack)) 0 (slots_of s.stack) ≡ used = used-is s p ∙ sym u in
    let nx = ending-next n 0 (slots_of s.stack) in
    let sz : size_of (get_or (slots_of s.stack) n None) ≡ w.wide * w.high = ap size_of e in
    let fw = (g.sound p).few in
    let rm = g.room in
    let cl = subst (λ i. Closed w.at i used p q) es (h (omega (arith, st, us, nx, sz, es)) (omega (arith, u, fw, rm))) in
    let vs : windows_of t q ≡ set (windows_of s.stack p) n nothing =
    ap (map (view q)) k ∙
    closed-views p q n 0 (slots_of s.stack) (λ i a. cl.below i (omega (arith, st, a)))
    (λ i a.
    ap (λ j. get_or q (j + i) 0) (sym st) ∙ cl.behind i (omega (arith, st, us, sz, a)) ∙ ap (λ j. get_or p (j + w.wide * w.high + i) 0) st ∙
    ap (λ j. get_or p (ending n 0 (slots_of s.stack) + j + i) 0) (sym sz)) ∙
    ap (λ os. set (map (view p) os) n nothing) (packed-same 0 (slots_of s.stack) g.packed) in
    subst (CarriedOut (sizes_of z) (close c n) s p _ q) (sym a)
    (carried-to z (close c n) s _ p q (answered c true) refl g cl.len l (subst (Packed 0) (sym k) (packed-is 0 _)) (rw (m, vs, o, ks, hs)) (rw m) (λ h. absurd (both_ways _ h m)))
