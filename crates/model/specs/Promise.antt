-- What a window system promises: each is a statement, a type whose proof is owed by a function of this crate.
use Rattle.std.specs.Prelude.{◌≡◌, ℕ, zero, suc, ◌+◌, ◌-◌, ◌*◌, ◌<◌, ◌≤◌, Bool, true, false, ◌&&◌, ◌≢◌, ◌⊎◌, List, [], ◌∷◌, ◌++◌, length, ℤ, pos, ◌-ℤ◌, neg_ℤ, ◌≤ℤ◌, slice_index, slice_index_or}
use Rattle.std.specs.Int.Signed.{mag}
use Rattle.model.specs.Basics.{pick, in_box}
use Rattle.model.specs.Desk.{Desk, Sizes, Event, Word, after, run, told, empty, dot, window, words_to, make, close, move, raise, show, fill, put, copy, offer, point, press, key, paste, front, kind}

-- what is sent to the screen: a box of dots, rows from above. The screen changes in no other way
pub record Box : Type 0 where
  pub x : ℕ
  pub y : ℕ
  pub wide : ℕ
  pub high : ℕ
  pub dots : List ℕ

-- a screen after one box, and after several, the first one first
unfoldable pub with_box : (ℕ → ℕ → ℕ) → Box → ℕ → ℕ → ℕ
with_box f b i j = pick (in_box b.x b.y b.wide b.high i j) (slice_index b.dots ((j - b.y) * b.wide + (i - b.x))) (f i j)

unfoldable pub with_boxes : (ℕ → ℕ → ℕ) → List Box → ℕ → ℕ → ℕ
with_boxes f [] i j = f i j
with_boxes f (b ∷ bs) i j = with_boxes (with_box f b) bs i j

-- how many of the boxes a dot lies in
unfoldable pub in_boxes : List Box → ℕ → ℕ → ℕ
in_boxes [] i j = 0
in_boxes (b ∷ bs) i j = pick (in_box b.x b.y b.wide b.high i j) (suc (in_boxes bs i j)) (in_boxes bs i j)

-- sizes in their ranges
unfoldable pub FitsSizes : Sizes → Type 0
FitsSizes z =
    (1 ≤ z.wide) × (z.wide ≤ 4096) × (1 ≤ z.high) × (z.high ≤ 4096) × (z.windows ≤ 255) × (1 ≤ z.programs) × (z.programs ≤ 64) × (z.side ≤ 4096) × (z.dots ≤ 16777216)

-- a place that two bytes with sign can carry
unfoldable pub Near : ℤ → Type 0
Near a = (neg_ℤ (pos 32768) ≤ℤ a) × (a ≤ℤ pos 32767)

-- a row of at most so many numbers, each below a limit
unfoldable pub Colours : List ℕ → ℕ → ℕ → Type 0
Colours l most n = (length l ≤ most) × ((k : ℕ) → slice_index l k < n)

-- events whose fields bytes can carry, from programs that there are
unfoldable pub Fits : Sizes → Event → Type 0
Fits z (make c x y w h) = (c < z.programs) × Near x × Near y × (w < 65536) × (h < 65536)
Fits z (close c n) = (c < z.programs) × (n < 256)
Fits z (move c n x y) = (c < z.programs) × (n < 256) × Near x × Near y
Fits z (raise c n) = (c < z.programs) × (n < 256)
Fits z (show c n b) = (c < z.programs) × (n < 256)
Fits z (fill c n x y w h q) = (c < z.programs) × (n < 256) × (x < 65536) × (y < 65536) × (w < 65536) × (h < 65536) × (q < 4294967296)
Fits z (put c n x y l) = (c < z.programs) × (n < 256) × (x < 65536) × (y < 65536) × Colours l 65535 4294967296
Fits z (copy c n x y w h a b) = (c < z.programs) × (n < 256) × (x < 65536) × (y < 65536) × (w < 65536) × (h < 65536) × (a < 65536) × (b < 65536)
Fits z (offer c l) = (c < z.programs) × Colours l 65535 256
Fits z (point x y) = Near x × Near y
Fits z (press b) = Unit {0}
Fits z (key k) = k < 4294967296
Fits z paste = Unit {0}

-- a row of such events, of kinds that are built
unfoldable pub AllFit : Sizes → List Event → Type 0
AllFit z [] = Unit {0}
AllFit z (e ∷ es) = Fits z e × (z.built (kind e) ≡ true) × AllFit z es

-- the window that an event is about: its number + 1, or 0 for none
unfoldable pub subject : Event → ℕ
subject (make c x y w h) = 0
subject (close c n) = suc n
subject (move c n x y) = suc n
subject (raise c n) = suc n
subject (show c n b) = suc n
subject (fill c n x y w h q) = suc n
subject (put c n x y l) = suc n
subject (copy c n x y w h a b) = suc n
subject (offer c l) = 0
subject (point x y) = 0
subject (press b) = 0
subject (key k) = 0
subject paste = 0

abbrev pub equal : ℕ → ℕ → Bool
equal zero zero = true
equal zero (suc b) = false
equal (suc a) zero = false
equal (suc a) (suc b) = equal a b

-- two windows by number + 1; none is like no other
abbrev pub same_number : ℕ → ℕ → Bool
same_number zero n = false
same_number (suc m) zero = false
same_number (suc m) (suc n) = equal m n

-- at paint, the dots of the screen that lie in the box that is written; else all
unfoldable pub within : Desk → Event → ℕ → ℕ → Bool
within d (make c x y w h) i j = true
within d (close c n) i j = true
within d (move c n x y) i j = true
within d (raise c n) i j = true
within d (show c n b) i j = true
within d (fill c n x y w h q) i j = in_box x y w h (mag (pos i -ℤ (window d n).x)) (mag (pos j -ℤ (window d n).y))
within d (put c n x y l) i j = in_box x y (length l) 1 (mag (pos i -ℤ (window d n).x)) (mag (pos j -ℤ (window d n).y))
within d (copy c n x y w h a b) i j = in_box a b w h (mag (pos i -ℤ (window d n).x)) (mag (pos j -ℤ (window d n).y))
within d (offer c l) i j = true
within d (point x y) i j = true
within d (press b) i j = true
within d (key k) i j = true
within d paste i j = true

-- the window that an event is about lies in front at the dot, before or after it, and paint writes the dot
unfoldable pub touched : Sizes → Desk → Event → ℕ → ℕ → Bool
touched z d e i j =
    within d e i j && pick (same_number (subject e) (front d d.order (pos i) (pos j))) true
    (same_number (subject e) (front (after z d e).0 (after z d e).0.order (pos i) (pos j)))

-- A system is given by its start, what an event does, and what it has then sent and told
module _ (System : Type 0) (start : Sizes → System) (happens : Sizes → System → Event → System) (sends : System → List Box) (tells : System → List (ℕ × Word)) where
  -- a screen that is given all that is sent, event by event
  unfoldable pub screen : Sizes → System → (ℕ → ℕ → ℕ) → List Event → ℕ → ℕ → ℕ
  screen z s f [] i j = f i j
  screen z s f (e ∷ es) i j = screen z (happens z s e) (with_boxes f (sends (happens z s e))) es i j

  -- all that a program is told
  unfoldable pub all_told : Sizes → System → ℕ → List Event → List Word
  all_told z s c [] = []
  all_told z s c (e ∷ es) = words_to c (tells (happens z s e)) ++ all_told z (happens z s e) c es

  -- the system after some events
  unfoldable pub goes : Sizes → System → List Event → System
  goes z s [] = s
  goes z s (e ∷ es) = goes z (happens z s e) es

  -- THE SCREEN: after every row of events it shows at every dot what the desk has there
  unfoldable pub SameScreen : Type 0
  SameScreen =
      (z : Sizes) (es : List Event) (i j : ℕ) → FitsSizes z → AllFit z es → i < z.wide → j < z.high → screen z (start z) (λ a b. 0) es i j ≡ dot (run z (empty z) es) i j

  -- THE WORDS: every program is told what the desk tells it
  unfoldable pub SameTold : Type 0
  SameTold = (z : Sizes) (es : List Event) (c : ℕ) → FitsSizes z → AllFit z es → all_told z (start z) c es ≡ told z (empty z) c es

  -- a dot is in at most one box of an event, and boxes lie on the screen
  unfoldable pub Once : Type 0
  Once =
      (z : Sizes) (es : List Event) (i j : ℕ) → FitsSizes z → AllFit z es →
      (in_boxes (sends (goes z (start z) es)) i j ≤ 1) × ((z.wide ≤ i) ⊎ (z.high ≤ j) → in_boxes (sends (goes z (start z) es)) i j ≡ 0)

  -- nothing is sent of a dot at which the window that the event is about is in front neither before nor after, nor outside the box that is painted
  unfoldable pub OnlyChanged : Type 0
  OnlyChanged =
      (z : Sizes) (es : List Event) (e : Event) (k i j : ℕ) (b : Box) → FitsSizes z → AllFit z (es ++ e ∷ []) → slice_index_or (sends (goes z (start z) (es ++ e ∷ []))) k b ≡ b → k < length (sends (goes z (start z) (es ++ e ∷ []))) →
      in_box b.x b.y b.wide b.high i j ≡ true → i < z.wide → j < z.high →
      touched z (run z (empty z) es) e i j ≡ true

-- paint: fill, put and copy
unfoldable pub is_paint : Event → Bool
is_paint (make c x y w h) = false
is_paint (close c n) = false
is_paint (move c n x y) = false
is_paint (raise c n) = false
is_paint (show c n b) = false
is_paint (fill c n x y w h q) = true
is_paint (put c n x y l) = true
is_paint (copy c n x y w h a b) = true
is_paint (offer c l) = false
is_paint (point x y) = false
is_paint (press b) = false
is_paint (key k) = false
is_paint paste = false

-- the program that an event comes from; 0 stands in for the person
unfoldable pub painter : Event → ℕ
painter (make c x y w h) = c
painter (close c n) = c
painter (move c n x y) = c
painter (raise c n) = c
painter (show c n b) = c
painter (fill c n x y w h q) = c
painter (put c n x y l) = c
painter (copy c n x y w h a b) = c
painter (offer c l) = c
painter (point x y) = 0
painter (press b) = 0
painter (key k) = 0
painter paste = 0

-- two rows of events that differ only in what programs outside A paint, and in keys that are typed for windows of such programs
pub data Alike (z : Sizes) (A : ℕ → Bool) : Desk → List Event → List Event → Type 0 where
  over : {d : Desk} → Alike z A d [] []
  same : {d : Desk} {es fs : List Event} (e : Event) → Alike z A (after z d e).0 es fs → Alike z A d (e ∷ es) (e ∷ fs)
  painted_here : {d : Desk} {es fs : List Event} (e : Event) → A (painter e) ≡ false → is_paint e ≡ true → Alike z A (after z d e).0 es fs → Alike z A d (e ∷ es) fs
  painted_there : {d : Desk} {es fs : List Event} (e : Event) → A (painter e) ≡ false → is_paint e ≡ true → Alike z A d es fs → Alike z A d es (e ∷ fs)
  key_here : {d : Desk} {es fs : List Event} (k n : ℕ) → d.keys ≡ suc n → A (window d n).owner ≡ false → Alike z A d es fs → Alike z A d (key k ∷ es) fs
  key_there : {d : Desk} {es fs : List Event} (k n : ℕ) → d.keys ≡ suc n → A (window d n).owner ≡ false → Alike z A d es fs → Alike z A d es (key k ∷ fs)
  typed_in : {d : Desk} {es fs : List Event} (k l n : ℕ) → d.keys ≡ suc n → A (window d n).owner ≡ false → Alike z A d es fs →
      Alike z A d (key k ∷ es) (key l ∷ fs)

-- a program is told the same, with any paint of others and any keys typed for others
unfoldable pub Unseen : Type 0
Unseen =
    (z : Sizes) (A : ℕ → Bool) (c : ℕ) (es fs : List Event) → A c ≡ true → Alike z A (empty z) es fs → told z (empty z) c es ≡ told z (empty z) c fs

-- keys go to one program at most, and only to one whose window is there
unfoldable pub KeysTo : Type 0
KeysTo =
    (z : Sizes) (es : List Event) (n : ℕ) → (run z (empty z) es).keys ≡ suc n → (window (run z (empty z) es) n).there ≡ true

-- and the pointer is held by a window that is there
unfoldable pub HeldBy : Type 0
HeldBy =
    (z : Sizes) (es : List Event) (n : ℕ) → (run z (empty z) es).held ≡ suc n → (window (run z (empty z) es) n).there ≡ true

abbrev pub one : ℕ → ℕ → ℕ
one zero zero = 1
one zero (suc b) = 0
one (suc a) zero = 0
one (suc a) (suc b) = one a b

-- how often a number stands in a row
unfoldable pub times : ℕ → List ℕ → ℕ
times n [] = 0
times n (m ∷ ms) = one n m + times n ms

-- every window that is there stands in the order once, and no other
unfoldable pub Ordered : Type 0
Ordered =
    (z : Sizes) (es : List Event) (n : ℕ) → times n (run z (empty z) es).order ≡ pick (window (run z (empty z) es) n).there 1 0

-- a window's picture is changed by its owner only
unfoldable pub ByOwner : Type 0
ByOwner =
    (z : Sizes) (es : List Event) (e : Event) (n i j : ℕ) → (window (run z (empty z) es) n).there ≡ true → (window (after z (run z (empty z) es) e).0 n).there ≡ true →
    (window (run z (empty z) es) n).owner ≢ painter e → (window (after z (run z (empty z) es) e).0 n).dots i j ≡ (window (run z (empty z) es) n).dots i j

-- and only by paint: at every other event, the person's too, every picture stays, those of program 0 among them
unfoldable pub ByPaint : Type 0
ByPaint =
    (z : Sizes) (es : List Event) (e : Event) (n i j : ℕ) → (window (run z (empty z) es) n).there ≡ true → (window (after z (run z (empty z) es) e).0 n).there ≡ true →
    (is_paint e ≡ true → (window (run z (empty z) es) n).owner ≢ painter e) → (window (after z (run z (empty z) es) e).0 n).dots i j ≡ (window (run z (empty z) es) n).dots i j
