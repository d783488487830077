-- WHOLE HISTORIES: a start, and then calls, each on the memory that the one before left. What holds of them is said here in the subject's own words.
use Rattle.std.specs.Prelude.{◌≡◌, ℕ, ◌<◌, Bool, true, List, [], ◌∷◌, ◌++◌, length, take, is_some, Some, None, Ok, Err, Option, Result, ◌≢◌, slice_index_or}
use Rattle.model.specs.Basics.{pick}
use Rattle.model.specs.Desk.{Sizes, Event, Word, run, empty, dot, told, words_to}
use Rattle.model.specs.Promise.{Box, with_boxes, times, Alike, is_paint, painter}
use Rattle.protocol.specs.Fields.{Bytes}
use Rattle.stack.specs.View.{dots_of}
use Rattle.stack.specs.declared.state.Window.{Window}
use Rattle.layout.specs.Head.{sizes_in, desk_in, sound_in, table_in, order_in}
use Rattle.damage.specs.Screen.{boxes_in}
use Rattle.server.specs.Course.{read_call}
use Rattle.server.specs.Promise.{Promised, Started, lent_of}
use Rattle.server.specs.Mailbox.{words_in}
use Rattle.server.specs.declared.outcome.Outcome.{Outcome}

-- one call: its bytes, what the four lent slices held before it and after it, and what it came to
pub record Call : Type 0 where
  pub bytes : List ℕ
  pub pictures : List ℕ
  pub work : List ℕ
  pub sent : List ℕ
  pub words : List ℕ
  pub pictures' : List ℕ
  pub work' : List ℕ
  pub sent' : List ℕ
  pub words' : List ℕ
  pub outcome : Outcome

-- it is as the event call promises
abbrev pub Kept : Call → Type 0
Kept c = Bytes c.bytes × Promised c.bytes c.pictures c.work c.sent c.words c.pictures' c.work' c.sent' c.words' c.outcome

-- calls one after another, the first on these pictures and this work, each on what the one before left. What is lent as sent and words may be other slices
-- each time, of any length and with anything in them
abbrev pub Calls : List ℕ → List ℕ → List Call → Type 0
Calls p w [] = Unit {0}
Calls p w (c ∷ cs) = (c.pictures ≡ p) × (c.work ≡ w) × Kept c × Calls c.pictures' c.work' cs

-- what pictures and work hold after them
abbrev pub pictures_after : List ℕ → List Call → List ℕ
pictures_after p [] = p
pictures_after p (c ∷ cs) = pictures_after c.pictures' cs

abbrev pub work_after : List ℕ → List Call → List ℕ
work_after w [] = w
work_after w (c ∷ cs) = work_after c.work' cs

-- the events that a call carries out, and those of all calls
abbrev pub events_of : Sizes → Call → List Event
events_of z c = (read_call z c.bytes (lent_of c.pictures c.work c.sent c.words)).events

abbrev pub all_events : Sizes → List Call → List Event
all_events z [] = []
all_events z (c ∷ cs) = events_of z c ++ all_events z cs

-- what a call sent and told: the used parts of the slices
abbrev pub sent_in : Call → List ℕ
sent_in c = take c.outcome.sent c.sent'

abbrev pub words_of : Call → List ℕ
words_of c = take c.outcome.words c.words'

-- a screen that is given the words of sent, as boxes; it stays as it is where they are none
abbrev pub fed : Option (List Box) → (ℕ → ℕ → ℕ) → ℕ → ℕ → ℕ
fed None f = f
fed (Some bs) f = with_boxes f bs

abbrev pub screen_after : Sizes → (ℕ → ℕ → ℕ) → List Call → ℕ → ℕ → ℕ
screen_after z f [] = f
screen_after z f (c ∷ cs) = screen_after z (fed (boxes_in z.wide z.high (sent_in c)) f) cs

-- what a program reads in the words of a call
abbrev pub read_by : ℕ → Result (List (ℕ × Word)) ℕ → List Word
read_by c (Ok ms) = words_to c ms
read_by c (Err j) = []

abbrev pub heard_by : ℕ → List Call → List Word
heard_by c [] = []
heard_by c (k ∷ ks) = read_by c (words_in (words_of k)) ++ heard_by c ks

-- a history: a start that was not refused, whatever the memory held before, and calls
pub record History (z : Sizes) (cs : List Call) : Type 0 where
  pub pictures₀ : List ℕ
  pub work₀ : List ℕ
  pub pictures : List ℕ
  pub work : List ℕ
  pub started : Started z pictures₀ work₀ pictures work (Ok tt)
  pub calls : Calls pictures work cs

-- each call has told fewer bytes than a row of words may have
abbrev pub ShortRows : List Call → Type 0
ShortRows [] = Unit {0}
ShortRows (c ∷ cs) = (c.outcome.words < 4294967296) × ShortRows cs

-- what each call sends is well formed: boxes on the screen
abbrev pub AllBoxes : Sizes → List Call → Type 0
AllBoxes z [] = Unit {0}
AllBoxes z (c ∷ cs) = (is_some (boxes_in z.wide z.high (sent_in c)) ≡ true) × AllBoxes z cs

-- After every history the memory holds the desk that the events come to; a screen that was all 0 and was given only what each call sent shows that desk's
-- dots; and every program has read in the words what the desk tells it (a row of 2^32 bytes or more is refused by those who read it)
pub record Served (z : Sizes) (cs : List Call) (h : History z cs) : Type 0 where
  pub sizes : sizes_in (work_after h.work cs) ≡ z
  pub sound : sound_in (work_after h.work cs) (length (pictures_after h.pictures cs)) ≡ true
  pub desk : desk_in (work_after h.work cs) (pictures_after h.pictures cs) ≡ run z (empty z) (all_events z cs)
  pub screen : (i j : ℕ) → i < z.wide → j < z.high → screen_after z (λ a b. 0) cs i j ≡ dot (desk_in (work_after h.work cs) (pictures_after h.pictures cs)) i j
  pub boxes : AllBoxes z cs
  pub words : ShortRows cs → (c : ℕ) → heard_by c cs ≡ told z (empty z) c (all_events z cs)

unfoldable pub AllServed : Type 0
AllServed = (z : Sizes) (cs : List Call) (h : History z cs) → Served z cs h

-- Two histories that differ only in what others paint and in keys typed for others tell a program the same words
unfoldable pub AllUnseen : Type 0
AllUnseen =
    (z : Sizes) (A : ℕ → Bool) (c : ℕ) (cs ds : List Call) → History z cs → History z ds → ShortRows cs → ShortRows ds → A c ≡ true → Alike z A (empty z) (all_events z cs) (all_events z ds) → heard_by c cs ≡ heard_by c ds

-- After every history each window that is there stands in the order of the lent work once, and no other number does
unfoldable pub OrderLent : Type 0
OrderLent =
    (z : Sizes) (cs : List Call) (h : History z cs) (n : ℕ) →
    times n (order_in (work_after h.work cs)) ≡ pick (is_some (slice_index_or (table_in (work_after h.work cs)) n None)) 1 0

-- At a call of one event, on the memory that a history left, the dots in the lent pictures of a window that is there before and after are changed only by
-- paint of its owner
unfoldable pub PicturesLent : Type 0
PicturesLent =
    (z : Sizes) (cs : List Call) (h : History z cs) (c : Call) (e : Event) (n i j : ℕ) (w w' : Window) → Kept c → c.pictures ≡ pictures_after h.pictures cs → c.work ≡ work_after h.work cs →
    events_of z c ≡ e ∷ [] → slice_index_or (table_in c.work) n None ≡ Some w → slice_index_or (table_in c.work') n None ≡ Some w' → (is_paint e ≡ true → w.owner ≢ painter e) →
    dots_of c.pictures' w' i j ≡ dots_of c.pictures w i j
