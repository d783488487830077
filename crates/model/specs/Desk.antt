-- The desk: windows of several programs, each with a picture of its own, one screen, one pointer, one keyboard, and what programs are told.
-- This is the plain description that a system has to serve. There are no regions, caches or buffers in it.
use Rattle.std.specs.Prelude.{ℕ, zero, suc, ◌+◌, ◌-◌, ◌*◌, Bool, true, false, not, ◌&&◌, List, [], ◌∷◌, ◌++◌, length, replicate, ℤ, pos, ◌+ℤ◌, ◌-ℤ◌, ◌==◌, int_le, int_lt, nat_le, nat_lt, slice_index, slice_index_or, slice_set}
use Rattle.std.specs.Int.Signed.{mag}
use Rattle.model.specs.Basics.{pick, in_box}

-- a window: there or not, whose it is, whether it is shown, where its upper left dot lies on the desk, and its picture, dot by dot
pub record Window : Type 0 where
  pub there : Bool
  pub owner : ℕ
  pub shown : Bool
  pub x : ℤ
  pub y : ℤ
  pub wide : ℕ
  pub high : ℕ
  pub dots : ℕ → ℕ → ℕ

-- where no window is
abbrev pub nothing : Window
nothing = record { there = false; owner = 0; shown = false; x = pos 0; y = pos 0; wide = 0; high = 0; dots = λ i j. 0 }

-- dots of the desk, how many windows and programs there may be, the longest side of a window, the dots of all pictures together,
-- and which kinds of events there are yet, by their numbers
pub record Sizes : Type 0 where
  pub wide : ℕ
  pub high : ℕ
  pub windows : ℕ
  pub programs : ℕ
  pub side : ℕ
  pub dots : ℕ
  pub built : ℕ → Bool

-- windows by number; order: their numbers from the back to the front; the pointer; the window that has the keys, and the one that holds the pointer while a
-- button is down (their numbers + 1, or 0); and the clipboard: whose it is (+ 1) and what is in it
pub record Desk : Type 0 where
  pub windows : List Window
  pub order : List ℕ
  pub px : ℤ
  pub py : ℤ
  pub keys : ℕ
  pub held : ℕ
  pub clip_of : ℕ
  pub clip : List ℕ

-- what a program may send; numbers are windows. Keys and the pointer come from outside, and so does the person's wish to paste
pub data Event : Type 0 where
  make : ℕ → ℤ → ℤ → ℕ → ℕ → Event
  close : ℕ → ℕ → Event
  move : ℕ → ℕ → ℤ → ℤ → Event
  raise : ℕ → ℕ → Event
  show : ℕ → ℕ → Bool → Event
  fill : ℕ → ℕ → ℕ → ℕ → ℕ → ℕ → ℕ → Event
  put : ℕ → ℕ → ℕ → ℕ → List ℕ → Event
  copy : ℕ → ℕ → ℕ → ℕ → ℕ → ℕ → ℕ → ℕ → Event
  offer : ℕ → List ℕ → Event
  point : ℤ → ℤ → Event
  press : Bool → Event
  key : ℕ → Event
  paste : Event

-- what a program is told
pub data Word : Type 0 where
  made : ℕ → Word
  done : Word
  no : Word
  at : ℕ → ℤ → ℤ → Word
  pressed : ℕ → Bool → Word
  typed : ℕ → ℕ → Word
  pasted : ℕ → List ℕ → Word

-- the window of a number
unfoldable pub window : Desk → ℕ → Window
window d n = slice_index_or d.windows n nothing

-- the desk with one part changed: a window, the order, the pointer, who has the keys and who holds the pointer, the clipboard
unfoldable pub with_window : Desk → ℕ → Window → Desk
with_window d n w =
    record { windows = slice_set d.windows n w; order = d.order; px = d.px; py = d.py; keys = d.keys; held = d.held; clip_of = d.clip_of; clip = d.clip }

unfoldable pub with_order : Desk → List ℕ → Desk
with_order d o =
    record { windows = d.windows; order = o; px = d.px; py = d.py; keys = d.keys; held = d.held; clip_of = d.clip_of; clip = d.clip }

unfoldable pub with_pointer : Desk → ℤ → ℤ → Desk
with_pointer d x y =
    record { windows = d.windows; order = d.order; px = x; py = y; keys = d.keys; held = d.held; clip_of = d.clip_of; clip = d.clip }

unfoldable pub with_hands : Desk → ℕ → ℕ → Desk
with_hands d k h =
    record { windows = d.windows; order = d.order; px = d.px; py = d.py; keys = k; held = h; clip_of = d.clip_of; clip = d.clip }

unfoldable pub with_clip : Desk → ℕ → List ℕ → Desk
with_clip d c l =
    record { windows = d.windows; order = d.order; px = d.px; py = d.py; keys = d.keys; held = d.held; clip_of = c; clip = l }

-- a place on the desk lies in a window that is shown
unfoldable pub in_window : Window → ℤ → ℤ → Bool
in_window w x y =
    (w.there && w.shown) && ((int_le w.x x && int_lt x (w.x +ℤ pos w.wide)) && (int_le w.y y && int_lt y (w.y +ℤ pos w.high)))

-- the window in front at a place: its number + 1, or 0
unfoldable pub front : Desk → List ℕ → ℤ → ℤ → ℕ
front d [] x y = 0
front d (n ∷ ns) x y = pick (front d ns x y == 0) (pick (in_window (window d n) x y) (suc n) 0) (front d ns x y)

-- the dot of a window (its number + 1, or 0 for the desk's own colour, 0) that lies at a dot of the desk
unfoldable pub dot_of : Desk → ℕ → ℕ → ℕ → ℕ
dot_of d i j zero = 0
dot_of d i j (suc n) = (window d n).dots (mag (pos i -ℤ (window d n).x)) (mag (pos j -ℤ (window d n).y))

-- what is seen at a dot of the desk: the front window's dot
unfoldable pub dot : Desk → ℕ → ℕ → ℕ
dot d i j = dot_of d i j (front d d.order (pos i) (pos j))

-- the lowest number that no window has
unfoldable pub free : List Window → ℕ
free [] = 0
free (w ∷ ws) = pick w.there (suc (free ws)) 0

-- the dots of all pictures
unfoldable pub area : List Window → ℕ
area [] = 0
area (w ∷ ws) = pick w.there (w.wide * w.high) 0 + area ws

-- a row of numbers with one taken out
unfoldable pub without : ℕ → List ℕ → List ℕ
without n [] = []
without n (m ∷ ms) = pick (n == m) (without n ms) (m ∷ without n ms)

-- the window n is there, and its owner is c
unfoldable pub mine : Desk → ℕ → ℕ → Bool
mine d c n = (window d n).there && (window d n).owner == c

-- a window with another picture
unfoldable pub painted : Window → (ℕ → ℕ → ℕ) → Window
painted w f =
    record { there = w.there; owner = w.owner; shown = w.shown; x = w.x; y = w.y; wide = w.wide; high = w.high; dots = f }

-- a box lies in a window: its corner is a dot of it, and its sides do not pass the window's
unfoldable pub box_fits : Window → ℕ → ℕ → ℕ → ℕ → Bool
box_fits w x y a b = (nat_lt x w.wide && nat_lt y w.high) && (nat_le (x + a) w.wide && nat_le (y + b) w.high)

-- the place of 0 to n - 1 that is nearest to a
unfoldable pub clamp : ℤ → ℕ → ℤ
clamp a n = pick (int_lt a (pos 0)) (pos 0) (pick (int_le (pos n) a) (pos (n - 1)) a)

-- who is told where the pointer is: the window that holds it, or else the one in front there (its number + 1, or 0)
abbrev pub listener : Desk → ℤ → ℤ → ℕ
listener d x y = pick (d.held == 0) (front d d.order x y) d.held

-- what is told of the pointer at a place: the place as seen from the window's upper left dot
unfoldable pub told_place : Desk → ℤ → ℤ → ℕ → List (ℕ × Word)
told_place d x y zero = []
told_place d x y (suc n) = ((window d n).owner, at n (x -ℤ (window d n).x) (y -ℤ (window d n).y)) ∷ []

-- the button goes down over a window (its number + 1, or 0): it has the keys and holds the pointer
unfoldable pub press_down : Desk → ℕ → Desk × List (ℕ × Word)
press_down d zero = (with_hands d 0 0, [])
press_down d (suc n) = (with_hands d (suc n) (suc n), ((window d n).owner, pressed n true) ∷ [])

-- the button comes up: the window that holds the pointer (its number + 1, or 0) lets it go
unfoldable pub press_up : Desk → ℕ → Desk × List (ℕ × Word)
press_up d zero = (d, [])
press_up d (suc n) = (with_hands d d.keys 0, ((window d n).owner, pressed n false) ∷ [])

-- what is told of a key, given who has the keys
unfoldable pub told_key : Desk → ℕ → ℕ → List (ℕ × Word)
told_key d k zero = []
told_key d k (suc n) = ((window d n).owner, typed n k) ∷ []

-- what is told of the clipboard, given who has the keys: nothing before the first offer
unfoldable pub told_clip : Desk → ℕ → List (ℕ × Word)
told_clip d zero = []
told_clip d (suc n) = pick (d.clip_of == 0) [] (((window d n).owner, pasted n d.clip) ∷ [])

-- what is told to a program goes with its number; refused requests change nothing
unfoldable pub does : Sizes → Desk → Event → Desk × List (ℕ × Word)
does z d (make c x y w h) =
    pick ((nat_lt c z.programs && nat_lt (free d.windows) z.windows) && ((nat_le 1 w && nat_le w z.side) && ((nat_le 1 h && nat_le h z.side) && nat_le (area d.windows + w * h) z.dots))) (
      with_order (with_window d (free d.windows) (record { there = true; owner = c; shown = false; x = x; y = y; wide = w; high = h; dots = λ i j. 0 }))
          (d.order ++ free d.windows ∷ []),
      (c, made (free d.windows)) ∷ [],
    )
    (d, (c, no) ∷ [])
does z d (close c n) =
    pick (mine d c n)
    (with_hands (with_order (with_window d n nothing) (without n d.order)) (pick (d.keys == suc n) 0 d.keys) (pick (d.held == suc n) 0 d.held), (c, done) ∷ [])
    (d, (c, no) ∷ [])
does z d (move c n x y) =
    pick (mine d c n)
    (with_window d n (record { there = true; owner = c; shown = (window d n).shown; x = x; y = y; wide = (window d n).wide; high = (window d n).high; dots = (window d n).dots }), (c, done) ∷ [])
    (d, (c, no) ∷ [])
does z d (raise c n) = pick (mine d c n) (with_order d (without n d.order ++ n ∷ []), (c, done) ∷ []) (d, (c, no) ∷ [])
does z d (show c n b) =
    pick (mine d c n)
    (with_window d n (record { there = true; owner = c; shown = b; x = (window d n).x; y = (window d n).y; wide = (window d n).wide; high = (window d n).high; dots = (window d n).dots }), (c, done) ∷ [])
    (d, (c, no) ∷ [])
does z d (fill c n x y w h colour) =
    pick (mine d c n && box_fits (window d n) x y w h)
    (with_window d n (painted (window d n) (λ i j. pick (in_box x y w h i j) colour ((window d n).dots i j))), (c, done) ∷ []) (d, (c, no) ∷ [])
does z d (put c n x y colours) =
    pick (mine d c n && box_fits (window d n) x y (length colours) 1)
    (with_window d n (painted (window d n) (λ i j. pick (in_box x y (length colours) 1 i j) (slice_index colours (i - x)) ((window d n).dots i j))), (c, done) ∷ []) (d, (c, no) ∷ [])
does z d (copy c n x y w h a b) =
    pick (mine d c n && (box_fits (window d n) x y w h && box_fits (window d n) a b w h))
    (with_window d n (painted (window d n) (λ i j. pick (in_box a b w h i j) ((window d n).dots (x + (i - a)) (y + (j - b))) ((window d n).dots i j))), (c, done) ∷ []) (d, (c, no) ∷ [])
does z d (offer c l) =
    pick ((not (d.keys == 0) && (window d (d.keys - 1)).owner == c) && nat_le (length l) 4096) (with_clip d (suc c) l, (c, done) ∷ []) (d, (c, no) ∷ [])
does z d (point x y) =
    (with_pointer d (clamp x z.wide) (clamp y z.high), told_place d (clamp x z.wide) (clamp y z.high) (listener d (clamp x z.wide) (clamp y z.high)))
does z d (press true) = press_down d (front d d.order d.px d.py)
does z d (press false) = press_up d d.held
does z d (key k) = (d, told_key d k d.keys)
does z d paste = (d, told_clip d d.keys)

-- the number of an event's kind
unfoldable pub kind : Event → ℕ
kind (make c x y w h) = 0
kind (close c n) = 1
kind (move c n x y) = 2
kind (raise c n) = 3
kind (show c n b) = 4
kind (fill c n x y w h q) = 5
kind (put c n x y l) = 6
kind (copy c n x y w h a b) = 7
kind (offer c l) = 8
kind (point x y) = 9
kind (press b) = 10
kind (key k) = 11
kind paste = 12

-- what is told where a kind isn't there yet: no, to the program that asked
unfoldable pub sender : Event → List (ℕ × Word)
sender (make c x y w h) = (c, no) ∷ []
sender (close c n) = (c, no) ∷ []
sender (move c n x y) = (c, no) ∷ []
sender (raise c n) = (c, no) ∷ []
sender (show c n b) = (c, no) ∷ []
sender (fill c n x y w h q) = (c, no) ∷ []
sender (put c n x y l) = (c, no) ∷ []
sender (copy c n x y w h a b) = (c, no) ∷ []
sender (offer c l) = (c, no) ∷ []
sender (point x y) = []
sender (press b) = []
sender (key k) = []
sender paste = []

-- an event; one of a kind that there isn't yet changes nothing
unfoldable pub after : Sizes → Desk → Event → Desk × List (ℕ × Word)
after z d e = pick (z.built (kind e)) (does z d e) (d, sender e)

-- the desk after some events
unfoldable pub run : Sizes → Desk → List Event → Desk
run z d [] = d
run z d (e ∷ es) = run z (after z d e).0 es

-- of what is told, the words to one program
unfoldable pub words_to : ℕ → List (ℕ × Word) → List Word
words_to c [] = []
words_to c (m ∷ ms) = pick (m.0 == c) (m.1 ∷ words_to c ms) (words_to c ms)

-- all that a program is told
unfoldable pub told : Sizes → Desk → ℕ → List Event → List Word
told z d c [] = []
told z d c (e ∷ es) = words_to c (after z d e).1 ++ told z (after z d e).0 c es

-- the desk at the start
unfoldable pub empty : Sizes → Desk
empty z =
    record { windows = replicate z.windows nothing; order = []; px = pos 0; py = pos 0; keys = 0; held = 0; clip_of = 0; clip = [] }
