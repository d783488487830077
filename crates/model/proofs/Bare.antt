-- A desk with its pictures left out: what an event does to all but pictures, and what is told, don't depend on pictures.
use Rattle.std.proofs.Common.{◌≡◌, ℕ, zero, suc, ◌+◌, ◌-◌, ◌*◌, Bool, true, false, not, ◌&&◌, eqb, ltb, leb, List, [], ◌∷◌, ◌++◌, map, length, set, ℤ, sym, refl, ap, ◌∙◌}
use lib.ListN.{get_or-map}
use lib.Seq.{map-set}
use Rattle.model.specs.Basics.{pick}
use Rattle.model.specs.Desk.{Desk, Sizes, Event, Window, Word, nothing, after, does, window, with_window, with_order, with_pointer, with_hands, with_clip, front, in_window, free, area, mine, painted, box_fits, kind, sender, clamp, told_place, told_key, told_clip, press_down, press_up, make, close, move, raise, show, fill, put, copy, offer, point, press, key, paste, made}

abbrev pub erased : Window → Window
erased w =
    record { there = w.there; owner = w.owner; shown = w.shown; x = w.x; y = w.y; wide = w.wide; high = w.high; dots = λ i j. 0 }

abbrev pub with-list : Desk → List Window → Desk
with-list d l =
    record { windows = l; order = d.order; px = d.px; py = d.py; keys = d.keys; held = d.held; clip_of = d.clip_of; clip = d.clip }

abbrev pub bare : Desk → Desk
bare d = with-list d (map erased d.windows)

abbrev pub look : Desk × List (ℕ × Word) → Desk × List (ℕ × Word)
look r = (bare r.0, r.1)

pub bare-window : (d : Desk) (n : ℕ) → window (bare d) n ≡ erased (window d n)
unfolding window
bare-window d n = get_or-map erased d.windows n nothing

twice : (ws : List Window) → map erased (map erased ws) ≡ map erased ws
twice [] = refl
twice (w ∷ ws) = ap (λ l. erased w ∷ l) (twice ws)

pub bare-bare : (d : Desk) → bare (bare d) ≡ bare d
bare-bare d = ap (with-list d) (twice d.windows)

pub bare-free : (ws : List Window) → free (map erased ws) ≡ free ws
unfolding free
bare-free [] = refl
bare-free (w ∷ ws) = ap (λ k. pick w.there (suc k) 0) (bare-free ws)

pub bare-area : (ws : List Window) → area (map erased ws) ≡ area ws
unfolding area
bare-area [] = refl
bare-area (w ∷ ws) = ap (λ k. pick w.there (w.wide * w.high) 0 + k) (bare-area ws)

pub bare-mine : (d : Desk) (c n : ℕ) → mine (bare d) c n ≡ mine d c n
unfolding mine
bare-mine d c n = ap (λ (w : Window). w.there && eqb w.owner c) (bare-window d n)

pub bare-fits : (d : Desk) (n x y a b : ℕ) → box_fits (window (bare d) n) x y a b ≡ box_fits (window d n) x y a b
unfolding box_fits
bare-fits d n x y a b = ap (λ (w : Window). box_fits w x y a b) (bare-window d n)

pub bare-front : (d : Desk) (ns : List ℕ) (x y : ℤ) → front (bare d) ns x y ≡ front d ns x y
unfolding front in_window
bare-front d [] x y = refl
bare-front d (n ∷ ns) x y = rw (bare-front d ns x y, bare-window d n)

-- both ways of a test
look-pick : (b b' : Bool) (r r' s s' : Desk × List (ℕ × Word)) → b ≡ b' → look r ≡ look r' → look s ≡ look s' → look (pick b r s) ≡ look (pick b' r' s')
look-pick true b' r r' s s' e p q = p ∙ ap (λ t. look (pick t r' s')) e
look-pick false b' r r' s s' e p q = q ∙ ap (λ t. look (pick t r' s')) e

same-no : (d : Desk) (w : List (ℕ × Word)) → look (bare d, w) ≡ look (d, w)
same-no d w = ap {B = Desk × List (ℕ × Word)} (λ b. (b, w)) (bare-bare d)

set-bare : (ws : List Window) (n : ℕ) (w w' : Window) → erased w ≡ erased w' → map erased (set (map erased ws) n w) ≡ map erased (set ws n w')
set-bare ws n w w' e = map-set erased (map erased ws) n w ∙ ap (λ l. set l n (erased w)) (twice ws) ∙ ap (set (map erased ws) n) e ∙ sym (map-set erased ws n w')

same_write : (d : Desk) (n : ℕ) (w w' : Window) (ms : List (ℕ × Word)) → erased w ≡ erased w' → look (with_window (bare d) n w, ms) ≡ look (with_window d n w', ms)
unfolding with_window
same_write d n w w' ms e = ap {B = Desk × List (ℕ × Word)} (λ l. (with-list d l, ms)) (set-bare d.windows n w w' e)

same-make : (d : Desk) (n : ℕ) (w : Window) (o : List ℕ) (ms : List (ℕ × Word)) → look (with_order (with_window (bare d) n w) o, ms) ≡ look (with_order (with_window d n w) o, ms)
unfolding with_window with_order
same-make d n w o ms = ap {B = Desk × List (ℕ × Word)} (λ l. (with-list (with_order d o) l, ms)) (set-bare d.windows n w w refl)

same-close : (d : Desk) (n k h : ℕ) (o : List ℕ) (ms : List (ℕ × Word)) → look (with_hands (with_order (with_window (bare d) n nothing) o) k h, ms) ≡ look (with_hands (with_order (with_window d n nothing) o) k h, ms)
unfolding with_window with_order with_hands
same-close d n k h o ms = ap {B = Desk × List (ℕ × Word)} (λ l. (with-list (with_hands (with_order d o) k h) l, ms)) (set-bare d.windows n nothing nothing refl)

same-order : (d : Desk) (o : List ℕ) (ms : List (ℕ × Word)) → look (with_order (bare d) o, ms) ≡ look (with_order d o, ms)
unfolding with_order
same-order d o ms = ap {B = Desk × List (ℕ × Word)} (λ l. (with-list (with_order d o) l, ms)) (twice d.windows)

same-hands : (d : Desk) (k h : ℕ) (ms ms' : List (ℕ × Word)) → ms ≡ ms' → look (with_hands (bare d) k h, ms) ≡ look (with_hands d k h, ms')
unfolding with_hands
same-hands d k h ms ms' e = rw (e, twice d.windows)

same-clip : (d : Desk) (c : ℕ) (b : List ℕ) (ms : List (ℕ × Word)) → look (with_clip (bare d) c b, ms) ≡ look (with_clip d c b, ms)
unfolding with_clip
same-clip d c b ms = ap {B = Desk × List (ℕ × Word)} (λ l. (with-list (with_clip d c b) l, ms)) (twice d.windows)

same-pointer : (d : Desk) (x y : ℤ) (ms ms' : List (ℕ × Word)) → ms ≡ ms' → look (with_pointer (bare d) x y, ms) ≡ look (with_pointer d x y, ms')
unfolding with_pointer
same-pointer d x y ms ms' e = rw (e, twice d.windows)

same-paint : (d : Desk) (n : ℕ) (f f' : ℕ → ℕ → ℕ) (ms : List (ℕ × Word)) → look (with_window (bare d) n (painted (window (bare d) n) f), ms) ≡ look (with_window d n (painted (window d n) f'), ms)
unfolding painted
same-paint d n f f' ms = same_write d n _ _ ms (ap erased (bare-window d n))

bare-told-at : (d : Desk) (x y : ℤ) (k : ℕ) → told_place (bare d) x y k ≡ told_place d x y k
unfolding told_place
bare-told-at d x y zero = refl
bare-told-at d x y (suc n) = rw (bare-window d n)

bare-key : (d : Desk) (q k : ℕ) → told_key (bare d) q k ≡ told_key d q k
unfolding told_key
bare-key d q zero = refl
bare-key d q (suc n) = rw (bare-window d n)

bare-paste : (d : Desk) (k : ℕ) → told_clip (bare d) k ≡ told_clip d k
unfolding told_clip
bare-paste d zero = refl
bare-paste d (suc n) = rw (bare-window d n)

bare-down : (d : Desk) (k : ℕ) → look (press_down (bare d) k) ≡ look (press_down d k)
unfolding press_down
bare-down d zero = same-hands d 0 0 [] [] refl
bare-down d (suc n) = same-hands d (suc n) (suc n) _ _ (rw (bare-window d n))

bare-up : (d : Desk) (k : ℕ) → look (press_up (bare d) k) ≡ look (press_up d k)
unfolding press_up
bare-up d zero = same-no d []
bare-up d (suc n) = same-hands d d.keys 0 _ _ (rw (bare-window d n))

-- an event does to a bare desk what it does to the desk, and tells the same
pub bare-does : (z : Sizes) (d : Desk) (e : Event) → look (does z (bare d) e) ≡ look (does z d e)
unfolding does
bare-does z d (make c x y w h) =
    look-pick ((ltb c z.programs && ltb (free (map erased d.windows)) z.windows) && ((leb 1 w && leb w z.side) && ((leb 1 h && leb h z.side) && leb (area (map erased d.windows) + w * h) z.dots)))
    ((ltb c z.programs && ltb (free d.windows) z.windows) && ((leb 1 w && leb w z.side) && ((leb 1 h && leb h z.side) && leb (area d.windows + w * h) z.dots))) _ _ _ _
    (rw (bare-free d.windows, bare-area d.windows))
    (ap (λ k. look (with_order (with_window (bare d) k (record { there = true; owner = c; shown = false; x = x; y = y; wide = w; high = h; dots = λ i j. 0 })) (d.order ++ k ∷ []), (c, made k) ∷ [])) (bare-free d.windows)
    ∙ same-make d (free d.windows) _ _ _)
    (same-no d _)
bare-does z d (close c n) = look-pick _ _ _ _ _ _ (bare-mine d c n) (same-close d n _ _ _ _) (same-no d _)
bare-does z d (move c n x y) =
    look-pick _ _ _ _ _ _ (bare-mine d c n) (same_write d n _ _ _ (ap (λ (v : Window). erased (record { there = true; owner = c; shown = v.shown; x = x; y = y; wide = v.wide; high = v.high; dots = v.dots })) (bare-window d n))) (same-no d _)
bare-does z d (raise c n) = look-pick _ _ _ _ _ _ (bare-mine d c n) (same-order d _ _) (same-no d _)
bare-does z d (show c n b) =
    look-pick _ _ _ _ _ _ (bare-mine d c n) (same_write d n _ _ _ (ap (λ (v : Window). erased (record { there = true; owner = c; shown = b; x = v.x; y = v.y; wide = v.wide; high = v.high; dots = v.dots })) (bare-window d n))) (same-no d _)
bare-does z d (fill c n x y w h q) = look-pick (mine (bare d) c n && box_fits (window (bare d) n) x y w h) (mine d c n && box_fits (window d n) x y w h) _ _ _ _ (rw (bare-mine d c n, bare-fits d n x y w h)) (same-paint d n _ _ _) (same-no d _)
bare-does z d (put c n x y l) = look-pick (mine (bare d) c n && box_fits (window (bare d) n) x y (length l) 1) (mine d c n && box_fits (window d n) x y (length l) 1) _ _ _ _ (rw (bare-mine d c n, bare-fits d n x y (length l) 1)) (same-paint d n _ _ _) (same-no d _)
bare-does z d (copy c n x y w h a b) =
    look-pick (mine (bare d) c n && (box_fits (window (bare d) n) x y w h && box_fits (window (bare d) n) a b w h)) (mine d c n && (box_fits (window d n) x y w h && box_fits (window d n) a b w h)) _ _ _ _
    (rw (bare-mine d c n, bare-fits d n x y w h, bare-fits d n a b w h)) (same-paint d n _ _ _) (same-no d _)
bare-does z d (offer c l) =
    look-pick ((not (eqb d.keys 0) && eqb (window (bare d) (d.keys - 1)).owner c) && leb (length l) 4096) ((not (eqb d.keys 0) && eqb (window d (d.keys - 1)).owner c) && leb (length l) 4096) _ _ _ _
    (rw (bare-window d (d.keys - 1))) (same-clip d _ _ _) (same-no d _)
bare-does z d (point x y) =
    same-pointer d _ _ _ _
    (ap (λ k. told_place (bare d) (clamp x z.wide) (clamp y z.high) (pick (eqb d.held 0) k d.held)) (bare-front d d.order (clamp x z.wide) (clamp y z.high))
    ∙ bare-told-at d (clamp x z.wide) (clamp y z.high) (pick (eqb d.held 0) (front d d.order (clamp x z.wide) (clamp y z.high)) d.held))
bare-does z d (press true) = ap (λ k. look (press_down (bare d) k)) (bare-front d d.order d.px d.py) ∙ bare-down d (front d d.order d.px d.py)
bare-does z d (press false) = bare-up d d.held
bare-does z d (key k) = ap {B = Desk × List (ℕ × Word)} (λ b. (b, told_key (bare d) k d.keys)) (bare-bare d) ∙ ap {B = Desk × List (ℕ × Word)} (λ ms. (bare d, ms)) (bare-key d k d.keys)
bare-does z d paste = ap {B = Desk × List (ℕ × Word)} (λ b. (b, told_clip (bare d) d.keys)) (bare-bare d) ∙ ap {B = Desk × List (ℕ × Word)} (λ ms. (bare d, ms)) (bare-paste d d.keys)

pub bare-after : (z : Sizes) (d : Desk) (e : Event) → look (after z (bare d) e) ≡ look (after z d e)
unfolding after
bare-after z d e = look-pick (z.built (kind e)) (z.built (kind e)) (does z (bare d) e) (does z d e) (bare d, sender e) (d, sender e) refl (bare-does z d e) (same-no d (sender e))

-- so two desks that differ in pictures alone stay so, and tell the same
pub alike-after : (z : Sizes) (d d' : Desk) (e : Event) → bare d ≡ bare d' → look (after z d e) ≡ look (after z d' e)
alike-after z d d' e p = sym (bare-after z d e) ∙ ap (λ b. look (after z b e)) p ∙ bare-after z d' e
