-- A history serves the desk: call by call.
use Rattle.std.proofs.Common.{◌≡◌, ℕ, ◌<◌, true, List, [], ◌∷◌, ◌++◌, length, get_or, is_some, Some, None, Ok, sym, refl, ap, ◌∙◌, subst, arith}
use Rattle.model.specs.Desk as desk
use Rattle.model.specs.Desk.{Desk, Sizes, Event, Word, after, run, empty, dot, told, words_to, window, nothing}
use Rattle.model.specs.Promise.{FitsSizes, AllFit, with_boxes, Unseen}
use Rattle.model.proofs.Pictures.{after-dots}
use Rattle.model.proofs.Unseen.{unseen}
use Rattle.stack.specs.View.{view}
use Rattle.stack.specs.declared.state.Window.{Window}
use Rattle.layout.specs.Head.{sizes_in, desk_in, sound_in, table_in, order_in}
use Rattle.layout.proofs.Checked.{starts}
use Rattle.layout.proofs.Holds.{parts, once_by, view-at}
use Rattle.damage.specs.Screen.{boxes_in}
use Rattle.damage.proofs.Decoding.{puts-join}
use Rattle.server.specs.Course.{read_call, holding, sent_by, told_by}
use Rattle.server.specs.Promise.{Ran, Called, Promise, lent_of}
use Rattle.server.specs.Mailbox.{words_in}
use Rattle.server.specs.MailboxLaws.{WordsReadBack}
use Rattle.server.specs.History.{Call, Kept, Calls, pictures_after, work_after, events_of, all_events, sent_in, words_of, fed, screen_after, read_by, heard_by, History, ShortRows, AllBoxes, AllServed, AllUnseen, OrderLent, PicturesLent}
use Rattle.server.proofs.Histories.{reading-fits, all-fit-append, run-append, sent-append, words-told, told-append, sent-read, screen-right}
use Rattle.server.proofs.MailboxLaws.{words-read-back}

-- one call, on memory that holds the desk d
pub record One (z : Sizes) (c : Call) (d : Desk) : Type 0 where
  pub sizes : sizes_in c.work' ≡ z
  pub sound : sound_in c.work' (length c.pictures') ≡ true
  pub desk : desk_in c.work' c.pictures' ≡ run z d (events_of z c)
  pub boxes : boxes_in z.wide z.high (sent_in c) ≡ Some (sent_by z (holding d) (events_of z c))
  pub words : c.outcome.words < 4294967296 → words_in (words_of c) ≡ Ok (told_by z (holding d) (events_of z c))
  pub fits : AllFit z (events_of z c)

one-call : (z : Sizes) (c : Call) → FitsSizes z → Kept c → sizes_in c.work ≡ z → sound_in c.work (length c.pictures) ≡ true → One z c (desk_in c.work c.pictures)
unfolding WordsReadBack
one-call z c f k e s =
    let h : Called c.bytes c.pictures c.work c.sent c.words c.pictures' c.work' c.sent' c.words' c.outcome =
    subst (λ b. Promise b c.bytes c.pictures c.work c.sent c.words c.pictures' c.work' c.sent' c.words' c.outcome) s k.1 in
    let d = desk_in c.work c.pictures in
    let P : Sizes → Type 0 = λ y. Ran y (read_call y c.bytes (lent_of c.pictures c.work c.sent c.words)) d c.sent c.words (desk_in c.work' c.pictures') c.sent' c.words' c.outcome in
    let r : P z = subst P e h.ran in
    record {
      sizes = h.sizes ∙ e;
      sound = h.sound;
      desk = r.desk;
      boxes = ap (boxes_in z.wide z.high) r.sent_is.front ∙ sent-read z d (events_of z c) f;
      words = λ l. ap words_in r.words_are.front ∙ words-read-back (told_by z (holding d) (events_of z c)) r.told (omega (arith, r.words_are.ends, l));
      fits = reading-fits (length c.bytes) z c.bytes _ 0 _ k.0;
    }

-- the calls that follow, on memory that holds the desk d
pub record From (z : Sizes) (p w : List ℕ) (cs : List Call) : Type 0 where
  pub sizes : sizes_in (work_after w cs) ≡ z
  pub sound : sound_in (work_after w cs) (length (pictures_after p cs)) ≡ true
  pub desk : desk_in (work_after w cs) (pictures_after p cs) ≡ run z (desk_in w p) (all_events z cs)
  pub fits : AllFit z (all_events z cs)
  pub screen : (f : ℕ → ℕ → ℕ) (i j : ℕ) → screen_after z f cs i j ≡ with_boxes f (sent_by z (holding (desk_in w p)) (all_events z cs)) i j
  pub boxes : AllBoxes z cs
  pub words : ShortRows cs → (c : ℕ) → heard_by c cs ≡ told z (desk_in w p) c (all_events z cs)

from-none : (z : Sizes) (p w : List ℕ) → sizes_in w ≡ z → sound_in w (length p) ≡ true → From z p w []
unfolding run sent_by with_boxes told AllFit
from-none z p w e s = record { sizes = e; sound = s; desk = refl; fits = tt; screen = λ f i j. refl; boxes = tt; words = λ h c. refl }

from_more : (z : Sizes) (p w : List ℕ) (c : Call) (cs : List Call) → One z c (desk_in w p) → From z c.pictures' c.work' cs → From z p w (c ∷ cs)
from_more z p w c cs o g =
    let d = desk_in w p in
    let es = events_of z c in
    let fs = all_events z cs in
    record {
      sizes = g.sizes;
      sound = g.sound;
      desk = g.desk ∙ ap (λ x. run z x fs) o.desk ∙ sym (run-append z d es fs);
      fits = all-fit-append z es fs o.fits g.fits;
      screen = λ f i j.
          ap (λ q. screen_after z (fed q f) cs i j) o.boxes ∙ g.screen (with_boxes f (sent_by z (holding d) es)) i j
          ∙ ap (λ x. with_boxes (with_boxes f (sent_by z (holding d) es)) (sent_by z (holding x) fs) i j) o.desk
          ∙ sym (puts-join f (sent_by z (holding d) es) (sent_by z (holding (run z d es)) fs) i j) ∙ ap (λ bs. with_boxes f bs i j) (sym (sent-append z d es fs));
      boxes = (ap is_some o.boxes, g.boxes);
      words = λ h k.
          ap (λ q. read_by k q ++ heard_by k cs) (o.words h.0) ∙ ap (λ ws. ws ++ heard_by k cs) (words-told z k es d) ∙ ap (λ ws. told z d k es ++ ws) (g.words h.1 k)
          ∙ ap (λ x. told z d k es ++ told z x k fs) o.desk ∙ sym (told-append z k d es fs);
    }

pub from : (z : Sizes) (cs : List Call) (p w : List ℕ) → FitsSizes z → Calls p w cs → sizes_in w ≡ z → sound_in w (length p) ≡ true → From z p w cs
from z [] p w f h e s = from-none z p w e s
from z (c ∷ cs) p w f h e s =
    let ez : sizes_in c.work ≡ z = ap sizes_in h.1 ∙ e in
    let es : sound_in c.work (length c.pictures) ≡ true = ap (λ q. sound_in c.work (length q)) h.0 ∙ ap (λ v. sound_in v (length p)) h.1 ∙ s in
    let same : desk_in c.work c.pictures ≡ desk_in w p = ap (λ v. desk_in v c.pictures) h.1 ∙ ap (desk_in w) h.0 in
    let o : One z c (desk_in w p) = subst (One z c) same (one-call z c f h.2 ez es) in
    from_more z p w c cs o (from z cs c.pictures' c.work' f h.3 o.sizes o.sound)

started : (z : Sizes) (cs : List Call) (h : History z cs) → FitsSizes z × From z h.pictures h.work cs
started z cs h =
    let b = h.started.1 in
    let f = (starts z (length h.pictures₀) (length h.work₀) h.started.0).fits in
    (f, from z cs h.pictures h.work f h.calls b.sizes b.sound)

pub all-served : AllServed
unfolding AllServed
all-served z cs h =
    let g = started z cs h in
    let b : desk_in h.work h.pictures ≡ empty z = h.started.1.desk in
    let d : desk_in (work_after h.work cs) (pictures_after h.pictures cs) ≡ run z (empty z) (all_events z cs) = g.1.desk ∙ ap (λ x. run z x (all_events z cs)) b in
    record {
      sizes = g.1.sizes;
      sound = g.1.sound;
      desk = d;
      screen = λ i j k l.
          g.1.screen (λ a b. 0) i j ∙ ap (λ x. with_boxes (λ a b. 0) (sent_by z (holding x) (all_events z cs)) i j) b ∙ screen-right z (all_events z cs) i j g.0 g.1.fits k l
          ∙ ap (λ x. dot x i j) (sym d);
      boxes = g.1.boxes;
      words = λ r c. g.1.words r c ∙ ap (λ x. told z x c (all_events z cs)) b;
    }

pub all-unseen : AllUnseen
unfolding AllUnseen AllServed Unseen
all-unseen z A c cs ds h k r s a l =
    (all-served z cs h).words r c ∙ unseen z A c (all_events z cs) (all_events z ds) a l ∙ sym ((all-served z ds k).words s c)

pub order-lent : OrderLent
unfolding OrderLent AllServed
order-lent z cs h n =
    let q = parts (work_after h.work cs) (length (pictures_after h.pictures cs)) (all-served z cs h).sound in
    once_by (table_in (work_after h.work cs)) (order_in (work_after h.work cs)) q.order n

-- the window of a number, in the words of the lent work
window-in : (work p : List ℕ) (n : ℕ) (w : Window) → get_or (table_in work) n None ≡ Some w → window (desk_in work p) n ≡ view p (Some w)
unfolding window desk_in
window-in work p n w e = view-at p (table_in work) n ∙ ap (view p) e

pub pictures-lent : PicturesLent
unfolding PicturesLent AllServed run
pictures-lent z cs h c e n i j w w' k ep ew ev a a' q =
    let g = all-served z cs h in
    let f = (started z cs h).0 in
    let o = one-call z c f k (ap sizes_in ew ∙ g.sizes) (ap (λ x. sound_in c.work (length x)) ep ∙ ap (λ v. sound_in v (length (pictures_after h.pictures cs))) ew ∙ g.sound) in
    let d = desk_in c.work c.pictures in
    let v = window-in c.work c.pictures n w a in
    let u : desk_in c.work' c.pictures' ≡ (after z d e).0 = o.desk ∙ ap (run z d) ev in
    let t : window (after z d e).0 n ≡ view c.pictures' (Some w') = ap (λ x. window x n) (sym u) ∙ window-in c.work' c.pictures' n w' a' in
    let m = after-dots z d e n i j (ap (λ (x : desk.Window). x.there) v) (λ b y. q b (sym (ap (λ (x : desk.Window). x.owner) v) ∙ y)) (ap (λ (x : desk.Window). x.there) t) in
    sym (ap (λ (x : desk.Window). x.dots i j) t) ∙ m ∙ ap (λ (x : desk.Window). x.dots i j) v
