-- Whole histories of calls: what each promises, put together.
use Rattle.std.proofs.Common.{◌≡◌, ℕ, zero, suc, ◌+◌, ◌-◌, ◌<◌, ◌≤◌, Bool, true, false, ◌&&◌, eqb, ltb, leb, List, [], ◌∷◌, ◌++◌, map, length, Some, None, Ok, Err, Option, sym, refl, ap, ◌∙◌, subst, arith}
use Rattle.std.proofs.lemmas.Bool.{le-leb, lt-ltb, ltb-true, and_parts}
use Rattle.std.proofs.lemmas.List.{append_assoc}
use Rattle.model.specs.Basics.{pick, bit, in_box}
use Rattle.model.specs.Desk.{Desk, Sizes, Event, Word, after, run, empty, dot, told, words_to}
use Rattle.model.specs.Promise.{Box, FitsSizes, AllFit, screen, with_boxes, SameScreen}
use Rattle.model.specs.System.{System, Rect, Exact, Solid, Formed, in_rect, coloured, covered, damage, on, start, happens, sends, tells}
use Rattle.model.specs.Kept.{EveryCover}
use Rattle.model.proofs.Picks.{by-pick}
use Rattle.model.proofs.Covers.{every-cover}
use Rattle.model.proofs.Grid.{grid-exact}
use Rattle.model.proofs.Boxes.{coloured-formed, covered-cons}
use Rattle.protocol.specs.Fields.{Bytes}
use Rattle.protocol.specs.Formats.{read_event}
use Rattle.protocol.specs.Fitting.{FitsCarried}
use Rattle.protocol.proofs.EventLaws.{read-was}
use Rattle.protocol.proofs.Fitting.{fits-carried}
use Rattle.layout.specs.Budget.{event_refusal}
use Rattle.layout.specs.declared.budget.Lent.{Lent}
use Rattle.layout.specs.declared.budget.Used.{Used}
use Rattle.damage.specs.Cover.{cover, sends_at}
use Rattle.damage.specs.Encode.{encode}
use Rattle.damage.specs.Screen.{boxes_in, OnScreen}
use Rattle.damage.proofs.Decoding.{coded, formed-whole, puts-join}
use Rattle.server.specs.Course.{Reading, reading, next, unless, one_more, holding, sent_by, told_by}
use Rattle.server.proofs.Going.{sent-any, told-cons}

-- Events that are read fit.

pub all-fit-append : (z : Sizes) (es fs : List Event) → AllFit z es → AllFit z fs → AllFit z (es ++ fs)
unfolding AllFit
all-fit-append z [] fs a b = b
all-fit-append z (e ∷ es) fs a b = (a.0, a.1, all-fit-append z es fs a.2 b)

next_fits : (z : Sizes) (bs : List ℕ) (k : ℕ) (g : ℕ → Reading) → Bytes bs → ((m : ℕ) → AllFit z (g m).events) → AllFit z (next k g (read_event z.built z.programs bs k)).events
unfolding AllFit FitsCarried
next_fits z bs k g b h = by_read (read_event z.built z.programs bs k) refl
  where
    by_read : (r : _) → read_event z.built z.programs bs k ≡ r → AllFit z (next k g r).events
    by_read (Ok p) e = let w = read-was z.built z.programs bs k b p e in ((fits-carried z p.0).0 w.sent.0, w.sent.1, h p.1)
    by_read (Err m) e = tt

unless-fits : (z : Sizes) (k : ℕ) (o : Option (ℕ × ℕ)) (r : Reading) → AllFit z r.events → AllFit z (unless k o r).events
unfolding AllFit
unless-fits z k (Some w) r h = tt
unless-fits z k None r h = h

pub reading-fits : (f : ℕ) (z : Sizes) (bs : List ℕ) (l : Lent) (k : ℕ) (u : Used) → Bytes bs → AllFit z (reading f z bs l k u).events
unfolding reading AllFit
reading-fits zero z bs l k u b = tt
reading-fits (suc f) z bs l k u b =
    by-pick (ltb k (length bs)) _ _ (λ (r : Reading). AllFit z r.events)
    (λ _. unless-fits z k (event_refusal z l u) _ (next_fits z bs k _ b (λ m. reading-fits f z bs l m (one_more z u) b))) (λ _. tt)

-- Events of several calls.

pub run-append : (z : Sizes) (d : Desk) (es fs : List Event) → run z d (es ++ fs) ≡ run z (run z d es) fs
unfolding run
run-append z d [] fs = refl
run-append z d (e ∷ es) fs = run-append z (after z d e).0 es fs

pub sent-append : (z : Sizes) (d : Desk) (es fs : List Event) → sent_by z (holding d) (es ++ fs) ≡ sent_by z (holding d) es ++ sent_by z (holding (run z d es)) fs
unfolding run sent_by happens
sent-append z d [] fs = refl
sent-append z d (e ∷ es) fs =
    ap (λ l. sends_at z d e ++ l) (sent-any z (happens cover z (holding d) e) (es ++ fs) ∙ sent-append z (after z d e).0 es fs ∙ ap (λ l. l ++ sent_by z (holding (run z (after z d e).0 es)) fs) (sym (sent-any z (happens cover z (holding d) e) es)))
    ∙ sym (append_assoc (sends_at z d e) (sent_by z (happens cover z (holding d) e) es) (sent_by z (holding (run z (after z d e).0 es)) fs))

words_append : (c : ℕ) (ms ns : List (ℕ × Word)) → words_to c (ms ++ ns) ≡ words_to c ms ++ words_to c ns
unfolding words_to
words_append c [] ns = refl
words_append c (m ∷ ms) ns = by-test (eqb m.0 c) (words_append c ms ns)
  where
    by-test : (b : Bool) → words_to c (ms ++ ns) ≡ words_to c ms ++ words_to c ns →
        pick b (m.1 ∷ words_to c (ms ++ ns)) (words_to c (ms ++ ns)) ≡ pick b (m.1 ∷ words_to c ms) (words_to c ms) ++ words_to c ns
    by-test true e = ap (λ l. m.1 ∷ l) e
    by-test false e = e

-- what the system tells a program is what the desk tells it
pub words-told : (z : Sizes) (c : ℕ) (es : List Event) (d : Desk) → words_to c (told_by z (holding d) es) ≡ told z d c es
unfolding told told_by words_to
words-told z c [] d = refl
words-told z c (e ∷ es) d =
    ap (words_to c) (told-cons z d e es) ∙ words_append c (after z d e).1 (told_by z (holding (after z d e).0) es) ∙ ap (λ l. words_to c (after z d e).1 ++ l) (words-told z c es (after z d e).0)

pub told-append : (z : Sizes) (c : ℕ) (d : Desk) (es fs : List Event) → told z d c (es ++ fs) ≡ told z d c es ++ told z (run z d es) c fs
unfolding told run
told-append z c d [] fs = refl
told-append z c d (e ∷ es) fs =
    ap (λ l. words_to c (after z d e).1 ++ l) (told-append z c (after z d e).0 es fs) ∙ sym (append_assoc (words_to c (after z d e).1) (told z (after z d e).0 c es) (told z (run z (after z d e).0 es) c fs))

-- What is sent are boxes on the screen.

exact : Exact cover
exact = grid-exact

formed-append : (bs cs : List Box) → Formed bs → Formed cs → Formed (bs ++ cs)
formed-append [] cs h k = k
formed-append (b ∷ bs) cs h k = (h.0, h.1, h.2, formed-append bs cs h.3 k)

on-append : (wide high : ℕ) (bs cs : List Box) → OnScreen wide high bs → OnScreen wide high cs → OnScreen wide high (bs ++ cs)
on-append wide high [] cs h k = k
on-append wide high (b ∷ bs) cs h k = (h.0, h.1, on-append wide high bs cs h.2 k)

last-in : (x n : ℕ) → 1 ≤ n → (leb x (x + n - 1) && ltb (x + n - 1) (x + n)) ≡ true
last-in x n h = rw (le-leb x (x + n - 1) (omega arith), lt-ltb (x + n - 1) (x + n) (omega arith))

rects-on : (f : ℕ → ℕ → ℕ) (wide high : ℕ) (rs : List Rect) → Solid rs → ((i j : ℕ) → 0 < covered rs i j → (i < wide) × (j < high)) → OnScreen wide high (map (coloured f) rs)
unfolding coloured in_box
rects-on f wide high [] s h = tt
rects-on f wide high (r ∷ rs) s h =
    let i = r.x + r.wide - 1 in
    let j = r.y + r.high - 1 in
    let e : in_rect r i j ≡ true = rw (last-in r.x r.wide s.0, last-in r.y r.high s.1) in
    let k = h i j (omega (arith, covered-cons r rs i j, ap bit e)) in
    (omega (arith, k.0, s.0), omega (arith, k.1, s.1), rects-on f wide high rs s.2 (λ a b l. h a b (omega (arith, covered-cons r rs a b, l))))

on-true : (z : Sizes) (i j : ℕ) (b : Bool) → 0 < bit (on z i j && b) → (i < z.wide) × (j < z.high)
on-true z i j b h = by-on (on z i j) refl h
  where
    by-on : (o : Bool) → on z i j ≡ o → 0 < bit (o && b) → (i < z.wide) × (j < z.high)
    by-on true e k = let a = and_parts (ltb i z.wide) (ltb j z.high) e in (ltb-true i z.wide a.0, ltb-true j z.high a.1)
    by-on false e k = absurd (omega (arith, k))

sends-on : (z : Sizes) (d : Desk) (e : Event) → OnScreen z.wide z.high (sends_at z d e)
sends-on z d e =
    rects-on (dot (after z d e).0) z.wide z.high (cover z d e) (exact.solid z d e) (λ i j h. on-true z i j (damage z d e i j) (subst (λ n. 0 < n) (exact.counts z d e i j) h))

sends-formed : (z : Sizes) (d : Desk) (e : Event) → Formed (sends_at z d e)
sends-formed z d e = coloured-formed (dot (after z d e).0) (cover z d e) (exact.solid z d e)

sent-on : (z : Sizes) (d : Desk) (es : List Event) → OnScreen z.wide z.high (sent_by z (holding d) es)
unfolding sent_by happens
sent-on z d [] = tt
sent-on z d (e ∷ es) =
    on-append z.wide z.high (sends_at z d e) _ (sends-on z d e) (subst (OnScreen z.wide z.high) (sym (sent-any z (happens cover z (holding d) e) es)) (sent-on z (after z d e).0 es))

sent-formed : (z : Sizes) (d : Desk) (es : List Event) → Formed (sent_by z (holding d) es)
unfolding sent_by happens
sent-formed z d [] = tt
sent-formed z d (e ∷ es) = formed-append (sends_at z d e) _ (sends-formed z d e) (subst Formed (sym (sent-any z (happens cover z (holding d) e) es)) (sent-formed z (after z d e).0 es))

pub sent-read : (z : Sizes) (d : Desk) (es : List Event) → FitsSizes z → boxes_in z.wide z.high (encode (sent_by z (holding d) es)) ≡ Some (sent_by z (holding d) es)
unfolding FitsSizes
sent-read z d es f =
    coded z.wide z.high (sent_by z (holding d) es)
    (formed-whole z.wide z.high (sent_by z (holding d) es) (omega (arith, f.1)) (omega (arith, f.3)) (sent-formed z d es) (sent-on z d es))

-- the screen of the system, all at once
pub screen-is : (z : Sizes) (s : System) (f : ℕ → ℕ → ℕ) (es : List Event) (i j : ℕ) → screen System start (happens cover) sends tells z s f es i j ≡ with_boxes f (sent_by z s es) i j
unfolding screen sent_by with_boxes
screen-is z s f [] i j = refl
screen-is z s f (e ∷ es) i j =
    screen-is z (happens cover z s e) (with_boxes f (sends (happens cover z s e))) es i j ∙ sym (puts-join f (sends (happens cover z s e)) (sent_by z (happens cover z s e) es) i j)

pub screen-right : (z : Sizes) (es : List Event) (i j : ℕ) → FitsSizes z → AllFit z es → i < z.wide → j < z.high → with_boxes (λ a b. 0) (sent_by z (holding (empty z)) es) i j ≡ dot (run z (empty z) es) i j
unfolding EveryCover SameScreen start
screen-right z es i j f a h k = sym (screen-is z (start z) (λ a b. 0) es i j) ∙ (every-cover cover exact).screen z es i j f a h k
