-- A window system over the desk. After an event it sends the event's damage: the dots that may look different now, cut into boxes, with their new colours.
use Rattle.std.specs.Prelude.{◌≡◌, ℕ, zero, suc, ◌+◌, ◌-◌, ◌*◌, ◌/◌, ◌%◌, ◌≤◌, Bool, true, false, not, ◌&&◌, ◌||◌, List, [], ◌∷◌, map, length, ℤ, pos, ◌-ℤ◌, ◌==◌, int_le, nat_le, nat_lt}
use Rattle.std.specs.Int.Signed.{mag}
use Rattle.model.specs.Basics.{pick, in_box, bit}
use Rattle.model.specs.Desk.{Desk, Sizes, Event, Word, after, empty, dot, window, front, free, area, mine, box_fits, kind, make, close, move, raise, show, fill, put, copy, offer, point, press, key, paste}
use Rattle.model.specs.Promise.{Box, subject}

-- the window in front at a dot of the screen: its number + 1, or 0
abbrev pub front_at : Desk → ℕ → ℕ → ℕ
front_at d i j = front d d.order (pos i) (pos j)

-- a dot of the screen lies in a box of a window's own dots
abbrev pub in_painted : Desk → ℕ → ℕ → ℕ → ℕ → ℕ → ℕ → ℕ → Bool
in_painted d n x y w h i j = in_box x y w h (mag (pos i -ℤ (window d n).x)) (mag (pos j -ℤ (window d n).y))

-- two places are the same
abbrev pub same_place : ℤ → ℤ → Bool
same_place a b = int_le a b && int_le b a

-- whether a request is carried out; what the person does always is
unfoldable pub taken : Sizes → Desk → Event → Bool
taken z d (make c x y w h) =
    (nat_lt c z.programs && nat_lt (free d.windows) z.windows) && ((nat_le 1 w && nat_le w z.side) && ((nat_le 1 h && nat_le h z.side) && nat_le (area d.windows + w * h) z.dots))
taken z d (close c n) = mine d c n
taken z d (move c n x y) = mine d c n
taken z d (raise c n) = mine d c n
taken z d (show c n b) = mine d c n
taken z d (fill c n x y w h q) = mine d c n && box_fits (window d n) x y w h
taken z d (put c n x y l) = mine d c n && box_fits (window d n) x y (length l) 1
taken z d (copy c n x y w h a b) = mine d c n && (box_fits (window d n) x y w h && box_fits (window d n) a b w h)
taken z d (offer c l) = (not (d.keys == 0) && (window d (d.keys - 1)).owner == c) && nat_le (length l) 4096
taken z d (point x y) = true
taken z d (press b) = true
taken z d (key k) = true
taken z d paste = true

-- another window is in front than before
abbrev pub turned : Desk → Desk → ℕ → ℕ → Bool
turned d d' i j = not (front_at d i j == front_at d' i j)

-- the dots that an event which is carried out may change, given the desk before and after it: where another window is in front; at a move to
-- another place also where the moved window is in front, since its dots come to lie elsewhere; at paint, the painted dots that are seen
unfoldable pub hurt : Desk → Desk → Event → ℕ → ℕ → Bool
hurt d d' (make c x y w h) i j = false
hurt d d' (close c n) i j = turned d d' i j
hurt d d' (move c n x y) i j =
    turned d d' i j || (front_at d' i j == suc n && not (same_place (window d n).x x && same_place (window d n).y y))
hurt d d' (raise c n) i j = turned d d' i j
hurt d d' (show c n b) i j = turned d d' i j
hurt d d' (fill c n x y w h q) i j = front_at d i j == suc n && in_painted d n x y w h i j
hurt d d' (put c n x y l) i j = front_at d i j == suc n && in_painted d n x y (length l) 1 i j
hurt d d' (copy c n x y w h a b) i j = front_at d i j == suc n && in_painted d n a b w h i j
hurt d d' (offer c l) i j = false
hurt d d' (point x y) i j = false
hurt d d' (press b) i j = false
hurt d d' (key k) i j = false
hurt d d' paste i j = false

-- THE DAMAGE of an event: exactly what is sent. A request that is refused, and a kind that isn't built, has none
unfoldable pub damage : Sizes → Desk → Event → ℕ → ℕ → Bool
damage z d e i j = (z.built (kind e) && taken z d e) && hurt d (after z d e).0 e i j

-- an event that sends nothing: it is about no window (make, offer, point, press, key, paste), or it is a request that is refused
abbrev pub quiet : Sizes → Desk → Event → Bool
quiet z d e = subject e == 0 || not (taken z d e)

-- a dot of the screen
abbrev pub on : Sizes → ℕ → ℕ → Bool
on z i j = nat_lt i z.wide && nat_lt j z.high

-- a box without its dots
pub record Rect : Type 0 where
  pub x : ℕ
  pub y : ℕ
  pub wide : ℕ
  pub high : ℕ

abbrev pub in_rect : Rect → ℕ → ℕ → Bool
in_rect r i j = in_box r.x r.y r.wide r.high i j

-- how many of the boxes a dot lies in
unfoldable pub covered : List Rect → ℕ → ℕ → ℕ
covered [] i j = 0
covered (r ∷ rs) i j = pick (in_rect r i j) (suc (covered rs i j)) (covered rs i j)

-- f of 0, 1 and so on
unfoldable pub tabled : ℕ → (ℕ → ℕ) → List ℕ
tabled zero f = []
tabled (suc n) f = f 0 ∷ tabled n (λ k. f (suc k))

-- a box with its colours, rows from above
unfoldable pub coloured : (ℕ → ℕ → ℕ) → Rect → Box
coloured f r =
    record { x = r.x; y = r.y; wide = r.wide; high = r.high; dots = tabled (r.high * r.wide) (λ k. f (r.x + k % r.wide) (r.y + k / r.wide)) }

-- every box has dots
abbrev pub Solid : List Rect → Type 0
Solid [] = Unit {0}
Solid (r ∷ rs) = (1 ≤ r.wide) × (1 ≤ r.high) × Solid rs

-- every box has dots, and as many colours as dots
abbrev pub Formed : List Box → Type 0
Formed [] = Unit {0}
Formed (b ∷ bs) = (1 ≤ b.wide) × (1 ≤ b.high) × (length b.dots ≡ b.wide * b.high) × Formed bs

-- a way to cut the damage of an event into boxes
abbrev pub Cover : Type 0
Cover = Sizes → Desk → Event → List Rect

-- each dot of the damage that lies on the screen is in one box, no other dot is in any, and no box is without dots
pub record Exact (cover : Cover) : Type 0 where
  pub counts : (z : Sizes) (d : Desk) (e : Event) (i j : ℕ) → covered (cover z d e) i j ≡ bit (on z i j && damage z d e i j)
  pub solid : (z : Sizes) (d : Desk) (e : Event) → Solid (cover z d e)

-- THE SYSTEM: the desk, and what the last event sent and told
pub record System : Type 0 where
  pub desk : Desk
  pub sent : List Box
  pub told : List (ℕ × Word)

abbrev pub sends : System → List Box
sends s = s.sent

abbrev pub tells : System → List (ℕ × Word)
tells s = s.told

unfoldable pub start : Sizes → System
start z = record { desk = empty z; sent = []; told = [] }

unfoldable pub happens : Cover → Sizes → System → Event → System
happens cover z s e =
    let r = after z s.desk e in
    record { desk = r.0; sent = map (coloured (dot r.0)) (cover z s.desk e); told = r.1 }
