-- The loop over the events of a call: what is left of it gives what all of it gives.
use Rattle.std.proofs.Common.{◌≡◌, ℕ, zero, suc, ◌+◌, ◌-◌, ◌<◌, ◌≤◌, List, [], ◌∷◌, ◌++◌, length, drop, Some, None, Ok, Option, sym, refl, ap, ◌∙◌, subst, arith}
use Rattle.std.proofs.lemmas.Bool.{lt-ltb, le-ltb}
use Rattle.model.specs.Desk.{Desk, Sizes, Event, Word, after, run}
use Rattle.model.specs.System.{System, happens}
use Rattle.protocol.specs.Added.{Added}
use Rattle.protocol.specs.Fields.{Found}
use Rattle.protocol.specs.Formats.{read_event}
use Rattle.layout.specs.Budget.{event_refusal, sent_room, words_room}
use Rattle.layout.specs.Refusals.{numbered}
use Rattle.layout.specs.declared.budget.Lent.{Lent}
use Rattle.layout.specs.declared.budget.Used.{Used}
use Rattle.damage.specs.Encode.{encode, Sent}
use Rattle.damage.specs.Cover.{cover, sends_at}
use Rattle.server.specs.Told.{told_bytes, AllCarried}
use Rattle.server.specs.Course.{Reading, stop, before, next, unless, one_more, reading, read_call, unused, holding, sent_by, told_by}
use Rattle.server.proofs.Boxes.{encode-append}
use Rattle.server.proofs.Owning.{told_bytes-append}
use Rattle.server.specs.Promise.{Ran}
use Rattle.server.specs.declared.outcome.Outcome.{Outcome}
use Rattle.damage.proofs.Left.{Left, left-start, left-more, left_by, left_end}
use Rattle.server.proofs.Adding.{added-sent, sent-added, rest_more}

-- what is sent and told depends on the desk alone
pub sent-any : (z : Sizes) (s : System) (es : List Event) → sent_by z s es ≡ sent_by z (holding s.desk) es
unfolding sent_by happens
sent-any z s [] = refl
sent-any z s (e ∷ es) = refl

pub told-any : (z : Sizes) (s : System) (es : List Event) → told_by z s es ≡ told_by z (holding s.desk) es
unfolding told_by happens
told-any z s [] = refl
told-any z s (e ∷ es) = refl

-- one event and the rest
pub sent-cons : (z : Sizes) (d : Desk) (e : Event) (es : List Event) → encode (sent_by z (holding d) (e ∷ es)) ≡ encode (sends_at z d e) ++ encode (sent_by z (holding (after z d e).0) es)
unfolding sent_by happens
sent-cons z d e es =
    encode-append (sends_at z d e) (sent_by z (happens cover z (holding d) e) es) ∙ ap (λ l. encode (sends_at z d e) ++ encode l) (sent-any z (happens cover z (holding d) e) es)

pub told-cons : (z : Sizes) (d : Desk) (e : Event) (es : List Event) → told_by z (holding d) (e ∷ es) ≡ (after z d e).1 ++ told_by z (holding (after z d e).0) es
unfolding told_by happens
told-cons z d e es = ap (λ l. (after z d e).1 ++ l) (told-any z (happens cover z (holding d) e) es)

bytes-cons : (z : Sizes) (d : Desk) (e : Event) (es : List Event) → told_bytes (told_by z (holding d) (e ∷ es)) ≡ told_bytes (after z d e).1 ++ told_bytes (told_by z (holding (after z d e).0) es)
bytes-cons z d e es = ap told_bytes (told-cons z d e es) ∙ told_bytes-append (after z d e).1 (told_by z (holding (after z d e).0) es)

all_append : (ms ns : List (ℕ × Word)) → AllCarried ms → AllCarried ns → AllCarried (ms ++ ns)
unfolding AllCarried
all_append [] ns h k = k
all_append (m ∷ ms) ns h k = (h.0, all_append ms ns h.1 k)

-- what the events that are left of a call do, where `left` is what is left to read and `all` is all that is read
pub record Goes (z : Sizes) (d₀ : Desk) (sent words : List ℕ) (all left : Reading) (n ns nw : ℕ) (d : Desk) (sent' words' : List ℕ) : Type 0 where
  pub desk : run z d left.events ≡ run z d₀ all.events
  pub sent-left : Left 0 ns (encode (sent_by z (holding d₀) all.events)) (encode (sent_by z (holding d) left.events)) sent sent'
  pub words_left : Left 0 nw (told_bytes (told_by z (holding d₀) all.events)) (told_bytes (told_by z (holding d) left.events)) words words'
  pub told : AllCarried (told_by z (holding d) left.events) → AllCarried (told_by z (holding d₀) all.events)
  pub words-rest : drop nw words' ≡ drop nw words
  pub count : n + length left.events ≡ length all.events
  pub bytes : left.read ≡ all.read
  pub refusal : left.refusal ≡ all.refusal

goes-start : (z : Sizes) (d : Desk) (sent words : List ℕ) (all : Reading) → Goes z d sent words all all 0 0 0 d sent words
goes-start z d sent words all =
    record { desk = refl; sent-left = left-start 0 _ sent; words_left = left-start 0 _ words; told = λ h. h; words-rest = refl; count = omega arith; bytes = refl; refusal = refl }

goes-more : (z : Sizes) (d₀ d d' : Desk) (sent words sent' words' sent'' words'' : List ℕ) (all left rest : Reading) (n ns nw ns' nw' : ℕ) (e : Event) → left ≡ before e rest →
    Goes z d₀ sent words all left n ns nw d sent' words' → d' ≡ (after z d e).0 → Sent ns ns' (encode (sends_at z d e)) sent' sent'' → Added nw nw' (told_bytes (after z d e).1) words' words'' → AllCarried (after z d e).1 → length sent'' ≡ length sent' → length words'' ≡ length words' →
    Goes z d₀ sent words all rest (n + 1) ns' nw' d' sent'' words''
unfolding run
goes-more z d₀ d d' sent words sent' words' sent'' words'' all left rest n ns nw ns' nw' e l g h s w v x y =
    rw h (record {
      desk = sym (ap (λ (r : Reading). run z d r.events) l) ∙ g.desk;
      sent-left = left-more 0 ns ns' _ (encode (sends_at z d e)) (encode (sent_by z (holding (after z d e).0) rest.events)) sent sent' sent''
          (left_by 0 ns _ _ _ sent sent' (ap (λ (r : Reading). encode (sent_by z (holding d) r.events)) l ∙ sent-cons z d e rest.events) g.sent-left) s x;
      words_left = left-more 0 nw nw' _ (told_bytes (after z d e).1) (told_bytes (told_by z (holding (after z d e).0) rest.events)) words words' words''
          (left_by 0 nw _ _ _ words words' (ap (λ (r : Reading). told_bytes (told_by z (holding d) r.events)) l ∙ bytes-cons z d e rest.events) g.words_left) (added-sent nw nw' _ words' words'' w) y;
      told = λ h. g.told (subst AllCarried (sym (ap (λ (r : Reading). told_by z (holding d) r.events) l ∙ told-cons z d e rest.events)) (all_append (after z d e).1 _ v h));
      words-rest = rest_more nw nw' _ words words' words'' w g.words-rest;
      count = omega (arith, g.count, ap (λ (r : Reading). length r.events) l);
      bytes = sym (ap (λ (r : Reading). r.read) l) ∙ g.bytes;
      refusal = sym (ap (λ (r : Reading). r.refusal) l) ∙ g.refusal;
    })

-- the loop's invariant: some fuel is left that suffices
pub record Going (z : Sizes) (call : List ℕ) (lent : Lent) (d₀ : Desk) (sent words : List ℕ) (at : ℕ) (used : Used) (n ns nw : ℕ) (d : Desk) (sent' words' : List ℕ) : Type 0 where
  pub fuel : ℕ
  pub enough : length call ≤ at + fuel
  pub goes : Goes z d₀ sent words (read_call z call lent) (reading fuel z call lent at used) n ns nw d sent' words'

pub going_start : (z : Sizes) (call : List ℕ) (lent : Lent) (d : Desk) (sent words : List ℕ) (used : Used) → used ≡ unused → Going z call lent d sent words 0 used 0 0 0 d sent words
going_start z call lent d sent words used e = rw e (record { fuel = length call; enough = omega arith; goes = goes-start z d sent words _ })

module _ (z : Sizes) (call : List ℕ) (lent : Lent) (at : ℕ) (used : Used) (f : ℕ) (enough : length call ≤ at + f) (h : at < length call) where
  fuelled : f ≡ suc (f - 1)
  fuelled = omega arith

  reading-more : event_refusal z lent used ≡ None → (r : Found Event) → r ≡ read_event z.built z.programs call at →
      reading f z call lent at used ≡ next at (λ m. reading (f - 1) z call lent m (one_more z used)) r
  unfolding reading
  reading-more b r e = ap (λ g. reading g z call lent at used) fuelled ∙ go
    where
      go : reading (suc (f - 1)) z call lent at used ≡ next at (λ m. reading (f - 1) z call lent m (one_more z used)) r
      go = rw (lt-ltb at (length call) h, b, e)

  reading-stopped : (why : ℕ × ℕ) → ((go : ℕ → Reading) → unless at (event_refusal z lent used) (next at go (read_event z.built z.programs call at)) ≡ stop at (Some why)) →
      reading f z call lent at used ≡ stop at (Some why)
  unfolding reading
  reading-stopped why b = ap (λ g. reading g z call lent at used) fuelled ∙ go
    where
      go : reading (suc (f - 1)) z call lent at used ≡ stop at (Some why)
      go = rw (lt-ltb at (length call) h) (b (λ m. reading (f - 1) z call lent m (one_more z used)))

reading-over : (f : ℕ) (z : Sizes) (call : List ℕ) (lent : Lent) (at : ℕ) (used : Used) → length call ≤ at → reading f z call lent at used ≡ stop at None
unfolding reading
reading-over zero z call lent at used h = refl
reading-over (suc f) z call lent at used h = rw (le-ltb at (length call) h)

module _ (z : Sizes) (call : List ℕ) (lent : Lent) (d₀ : Desk) (sent words : List ℕ) (at : ℕ) (used : Used) (n ns nw : ℕ) (d : Desk) (sent' words' : List ℕ)
    (g : Going z call lent d₀ sent words at used n ns nw d sent' words') where
  pub going_more : (d' : Desk) (sent'' words'' : List ℕ) (used' : Used) (ns' nw' to : ℕ) (e : Event) → at < length call → event_refusal z lent used ≡ None → at < to →
      Ok (e, to) ≡ read_event z.built z.programs call at → d' ≡ (after z d e).0 → Sent ns ns' (encode (sends_at z d e)) sent' sent'' → Added nw nw' (told_bytes (after z d e).1) words' words'' → AllCarried (after z d e).1 → length sent'' ≡ length sent' → length words'' ≡ length words' →
      used' ≡ one_more z used → Going z call lent d₀ sent words to used' (n + 1) ns' nw' d' sent'' words''
  going_more d' sent'' words'' used' ns' nw' to e h b l p q a c v x y u =
      rw u (record {
        fuel = g.fuel - 1;
        enough = omega (arith, g.enough);
        goes = goes-more z d₀ d d' sent words sent' words' sent'' words'' _ _ _ n ns nw ns' nw' e (reading-more z call lent at used g.fuel g.enough h b (Ok (e, to)) p) g.goes q a c v x y;
      })

  -- nothing is left
  ends : (o : Outcome) (r : Option (ℕ × ℕ)) → reading g.fuel z call lent at used ≡ stop at r → o.events ≡ n → o.read ≡ at → o.sent ≡ ns → o.words ≡ nw → numbered o.refusal ≡ r →
      Ran z (read_call z call lent) d₀ sent words d sent' words' o
  unfolding run sent_by told_by encode told_bytes AllCarried
  ends o r e c b i j k =
      let x = g.goes in
      let over : Goes z d₀ sent words (read_call z call lent) (stop at r) n ns nw d sent' words' = rw (← e) x in
      record {
        desk = over.desk;
        sent_is = rw i (left_end 0 ns _ sent sent' over.sent-left);
        words_are = rw j (sent-added 0 nw _ words words' (left_end 0 nw _ words words' over.words_left) over.words-rest);
        told = over.told tt;
        events = omega (arith, over.count, c);
        bytes = b ∙ over.bytes;
        refusal = k ∙ over.refusal;
      }

  pub going-stopped : (o : Outcome) (why : ℕ × ℕ) → at < length call → ((go : ℕ → Reading) → unless at (event_refusal z lent used) (next at go (read_event z.built z.programs call at)) ≡ stop at (Some why)) →
      o.events ≡ n → o.read ≡ at → o.sent ≡ ns → o.words ≡ nw → numbered o.refusal ≡ Some why → Ran z (read_call z call lent) d₀ sent words d sent' words' o
  going-stopped o why h b = ends o (Some why) (reading-stopped z call lent at used g.fuel g.enough h why b)

  pub going-over : (o : Outcome) → length call ≤ at → o.events ≡ n → o.read ≡ at → o.sent ≡ ns → o.words ≡ nw → numbered o.refusal ≡ None → Ran z (read_call z call lent) d₀ sent words d sent' words' o
  going-over o h = ends o None (reading-over g.fuel z call lent at used h)

-- what is set apart, by its parts
pub used-as : (z : Sizes) (u v : Used) → v.sent ≡ u.sent + sent_room z → v.words ≡ u.words + words_room → v ≡ one_more z u
used-as z u v a b = ap (λ n. record { sent = n; words = v.words }) a ∙ ap (λ n. record { sent = u.sent + sent_room z; words = n }) b
