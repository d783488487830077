-- Rows of words: what is written is read, and nothing else; and what one program reads in its own.
use Rattle.std.proofs.Common.{◌≡◌, ℕ, zero, suc, ◌+◌, ◌-◌, ◌<◌, ◌≤◌, Bool, true, false, eqb, List, [], ◌∷◌, ◌++◌, map, length, take, drop, Some, None, Ok, Err, Result, sym, refl, ap, ◌∙◌, subst, inl, inr, arith}
use Rattle.std.proofs.lemmas.List.{append_assoc, length-append, length-drop, drop_all, take_at}
use Rattle.std.proofs.lemmas.Bool.{cases_lt, le-leb}
use Rattle.model.specs.Basics.{pick}
use Rattle.model.specs.Desk.{Word, no, done, made, at, pressed, typed, pasted}
use Rattle.protocol.specs.Fields.{Bytes, Found}
use Rattle.protocol.specs.Formats.{encode_word, decode_word, read_told}
use Rattle.protocol.specs.Laws.{Told, spell_told, FirstFault, ReadsWordBack, WordFaultsFirst}
use Rattle.protocol.proofs.WordLaws.{Was, read-was, reads-word-back, word-faults-first}
use Rattle.server.specs.Told.{told_bytes, AllCarried}
use Rattle.server.specs.Mailbox.{Next, one_more, next_told, before, and_on, each, words_in, word_of, next_word, heard, own}
use Rattle.server.specs.MailboxLaws.{WordsReadBack, WordsReadOnly, WordsFaultFirst, RowsTogether, ToldTogether, OwnTogether, OwnWords, OwnAlone, OwnShort, Heard, TakenHeard}
use Rattle.server.proofs.Owning.{told_bytes-append, own-append, own-bytes-append, own-words, own-told}
use Rattle.server.proofs.Walking.{next-there, next-end, each_none, each-some, each-fault}

-- no word is without bytes
some_bytes : (c : ℕ) (w : Word) → 0 < length (encode_word c w)
some_bytes c no = omega arith
some_bytes c done = omega arith
some_bytes c (made n) = omega arith
some_bytes c (at n x y) = omega arith
some_bytes c (pressed n b) = omega arith
some_bytes c (typed n k) = omega arith
some_bytes c (pasted n l) = omega arith

-- words that stand behind `front` are read from there on
read-on : (ms : List (ℕ × Word)) (front : List ℕ) (f : ℕ) → AllCarried ms → length (front ++ told_bytes ms) < 4294967296 → length (told_bytes ms) ≤ f →
    each (next_told (front ++ told_bytes ms)) f (length front) ≡ Ok ms
unfolding AllCarried told_bytes ReadsWordBack
read-on [] front f s l h = each_none (next_told (front ++ [])) f (length front) (next-end (front ++ []) (length front) (omega (arith, length-append front [])))
read-on (m ∷ ms) front zero s l h =
    absurd (let z : ⊥ = omega (arith, some_bytes m.0 m.1, length-append (encode_word m.0 m.1) (told_bytes ms)) in z)
read-on (m ∷ ms) front (suc f) s l h =
    let xs = encode_word m.0 m.1 in
    let ys = told_bytes ms in
    let bs = front ++ (xs ++ ys) in
    let g : (front ++ xs) ++ ys ≡ bs = append_assoc front xs ys in
    let n : length front + length xs ≡ length (front ++ xs) = sym (length-append front xs) in
    let d : length front < length bs = omega (arith, some_bytes m.0 m.1, length-append front (xs ++ ys), length-append xs ys) in
    let l' : length ((front ++ xs) ++ ys) < 4294967296 = omega (arith, ap length g) in
    let h' : length ys ≤ f = omega (arith, some_bytes m.0 m.1, length-append xs ys) in
    each-some (next_told bs) f (length front) (m, length front + length xs) (next-there bs (length front) d ∙ ap (λ x. one_more x) (reads-word-back m front ys s.0 l))
    ∙ ap (λ k. before m (each (next_told bs) f k)) n
    ∙ ap (λ t. before m (each (next_told t) f (length (front ++ xs)))) (sym g)
    ∙ ap (λ r. before m r) (read-on ms (front ++ xs) f s.1 l' h')

pub words-read-back : WordsReadBack
unfolding WordsReadBack words_in
words-read-back ms s l = read-on ms [] (length (told_bytes ms)) s l (omega arith)

-- what is read from the byte k on is what stands there
abbrev Only : List ℕ → ℕ → List (ℕ × Word) → Type 0
Only bs k ms = AllCarried ms × (told_bytes ms ≡ drop k bs)

only_none : (bs : List ℕ) (k : ℕ) (ms : List (ℕ × Word)) → length bs ≤ k → ◌≡◌ {A = Result (List (ℕ × Word)) ℕ} (Ok []) (Ok ms) → Only bs k ms
unfolding AllCarried told_bytes
only_none bs k ms h e =
    let n : [] ≡ ms = cc in
    subst (Only bs k) n (tt, sym (drop_all k bs h))

only-some : (bs : List ℕ) (k to : ℕ) (m : ℕ × Word) (ms : List (ℕ × Word)) (r : Result (List (ℕ × Word)) ℕ) → Was bs k (m, to) → ((ns : List (ℕ × Word)) → r ≡ Ok ns → Only bs to ns) → before m r ≡ Ok ms →
    Only bs k ms
unfolding AllCarried told_bytes
only-some bs k to m ms (Ok ns) w rest e =
    let n : m ∷ ns ≡ ms = cc in
    let o = rest ns refl in
    subst (Only bs k) n ((w.sent, o.0), ap (λ t. encode_word m.0 m.1 ++ t) o.1 ∙ sym w.spelt)
only-some bs k to m ms (Err j) w rest e = absurd (let z : ◌≡◌ {A = ℕ} 0 1 = cc in omega arith)

only-found : (bs : List ℕ) (f k : ℕ) (ms : List (ℕ × Word)) (x : Found (ℕ × Word)) → Bytes bs → read_told bs k ≡ x → next_told bs k ≡ one_more x →
    ((to : ℕ) (ns : List (ℕ × Word)) → k < to → each (next_told bs) f to ≡ Ok ns → Only bs to ns) → each (next_told bs) (suc f) k ≡ Ok ms → Only bs k ms
only-found bs f k ms (Ok r) b q n rest e =
    let w = read-was bs k b r q in
    only-some bs k r.1 r.0 ms (each (next_told bs) f r.1) w (λ ns p. rest r.1 ns w.after p) (sym (each-some (next_told bs) f k r n) ∙ e)
only-found bs f k ms (Err j) b q n rest e =
    absurd (let z : ◌≡◌ {A = ℕ} 0 1 = let p = sym (each-fault (next_told bs) f k j n) ∙ e in cc in omega arith)

only-on : (bs : List ℕ) (f k : ℕ) (ms : List (ℕ × Word)) → Bytes bs → length bs ≤ k + f → each (next_told bs) f k ≡ Ok ms → Only bs k ms
unfolding each
only-on bs zero k ms b h e = only_none bs k ms (omega arith) e
only-on bs (suc f) k ms b h e =
    elim (cases_lt k (length bs)) [
      | inl l ↦ only-found bs f k ms (read_told bs k) b refl (next-there bs k l) (λ to ns a p. only-on bs f to ns b (omega arith) p) e
      | inr l ↦ only_none bs k ms l (sym (each_none (next_told bs) (suc f) k (next-end bs k l)) ∙ e)
    ]

pub words-read-only : WordsReadOnly
unfolding WordsReadOnly words_in
words-read-only bs ms b e = only-on bs (length bs) 0 ms b (omega arith) e

-- a fault from the byte k on stands behind words that are read there
record Behind (bs : List ℕ) (k j : ℕ) : Type 0 where
  front : List (ℕ × Word)
  carried : AllCarried front
  to : ℕ
  spelt : drop k bs ≡ told_bytes front ++ drop to bs
  first : FirstFault spell_told Told bs to j

behind-none : (bs : List ℕ) (k j : ℕ) → FirstFault spell_told Told bs k j → Behind bs k j
unfolding AllCarried told_bytes
behind-none bs k j d = record { front = []; carried = tt; to = k; spelt = refl; first = d }

behind-some : (bs : List ℕ) (k to j : ℕ) (m : ℕ × Word) → Was bs k (m, to) → Behind bs to j → Behind bs k j
unfolding AllCarried told_bytes
behind-some bs k to j m w d =
    let xs = encode_word m.0 m.1 in
    record {
      front = m ∷ d.front;
      carried = (w.sent, d.carried);
      to = d.to;
      spelt = w.spelt ∙ ap (λ t. xs ++ t) d.spelt ∙ sym (append_assoc xs (told_bytes d.front) (drop d.to bs));
      first = d.first;
    }

-- a fault behind a word is one of the rest
before-fault : (m : ℕ × Word) (r : Result (List (ℕ × Word)) ℕ) (j : ℕ) → before m r ≡ Err j → r ≡ Err j
before-fault m (Ok ns) j e = absurd (let z : ◌≡◌ {A = ℕ} 0 1 = cc in omega arith)
before-fault m (Err i) j e = let n : i ≡ j = cc in ap (λ x. Err x) n

faults-found : (bs : List ℕ) (f k j : ℕ) (x : Found (ℕ × Word)) → Bytes bs → length bs < 4294967296 → k ≤ length bs → read_told bs k ≡ x → next_told bs k ≡ one_more x →
    ((to : ℕ) → k < to → to ≤ length bs → each (next_told bs) f to ≡ Err j → Behind bs to j) → each (next_told bs) (suc f) k ≡ Err j → Behind bs k j
unfolding WordFaultsFirst
faults-found bs f k j (Ok r) b l h q n rest e =
    let w = read-was bs k b r q in
    behind-some bs k r.1 j r.0 w
    (rest r.1 w.after w.within (before-fault r.0 (each (next_told bs) f r.1) j (sym (each-some (next_told bs) f k r n) ∙ e)))
faults-found bs f k j (Err i) b l h q n rest e =
    let p : ◌≡◌ {A = Result (List (ℕ × Word)) ℕ} (Err i) (Err j) = sym (each-fault (next_told bs) f k i n) ∙ e in
    let s : i ≡ j = cc in
    behind-none bs k j (word-faults-first bs k j b l h (q ∙ ap (λ x. Err x) s))

faults-on : (bs : List ℕ) (f k j : ℕ) → Bytes bs → length bs < 4294967296 → k ≤ length bs → each (next_told bs) f k ≡ Err j → Behind bs k j
unfolding each
faults-on bs zero k j b l h e = absurd (let z : ◌≡◌ {A = ℕ} 0 1 = cc in omega arith)
faults-on bs (suc f) k j b l h e =
    elim (cases_lt k (length bs)) [
      | inl a ↦ faults-found bs f k j (read_told bs k) b l h refl (next-there bs k a) (λ to _ w p. faults-on bs f to j b l w p) e
      | inr a ↦ absurd (let z : ◌≡◌ {A = ℕ} 0 1 = let p = sym (each_none (next_told bs) (suc f) k (next-end bs k a)) ∙ e in cc in omega arith)
    ]

pub words-fault-first : WordsFaultFirst
unfolding WordsFaultFirst words_in
words-fault-first bs j b l e =
    let d = faults-on bs (length bs) 0 j b l (omega arith) e in
    let xs = told_bytes d.front in
    let n : d.to ≡ length xs = omega (arith, ap length d.spelt ∙ length-append xs (drop d.to bs), length-drop d.to bs, d.first.from, d.first.within) in
    let P : ℕ → Type 0 = λ k. FirstFault spell_told Told bs k j in
    record {
      front = d.front;
      carried = d.carried;
      spelt = ap (take (length xs)) d.spelt ∙ take_at xs (drop d.to bs) (length xs) refl;
      first = subst P n d.first;
    }

-- Rows put together.
carried-append : (ms ns : List (ℕ × Word)) → AllCarried ms → AllCarried ns → AllCarried (ms ++ ns)
unfolding AllCarried
carried-append [] ns s t = t
carried-append (m ∷ ms) ns s t = (s.0, carried-append ms ns s.1 t)

pub rows-together : RowsTogether
unfolding RowsTogether WordsReadOnly WordsReadBack
rows-together bs cs ms ns b d l p q =
    let u = words-read-only bs ms b p in
    let v = words-read-only cs ns d q in
    let e : told_bytes (ms ++ ns) ≡ bs ++ cs = told_bytes-append ms ns ∙ ap (λ t. t ++ told_bytes ns) u.1 ∙ ap (λ t. bs ++ t) v.1 in
    ap words_in (sym e) ∙ words-read-back (ms ++ ns) (carried-append ms ns u.0 v.0) (omega (arith, ap length e))

pub told-together : ToldTogether
unfolding ToldTogether
told-together = told_bytes-append

pub own-together : OwnTogether
unfolding OwnTogether
own-together c ms ns = (own-append c ms ns, own-bytes-append c ms ns)

-- The words of one program.
pub own-words-stand : OwnWords
unfolding OwnWords
own-words-stand = own-words

pub own_alone : OwnAlone
unfolding OwnAlone
own_alone c ms ns e = ap told_bytes (own-told c ms ∙ ap (map (λ w. (c, w))) e ∙ sym (own-told c ns))

pick-shorter : (b : Bool) (m : ℕ × Word) (ms ns : List (ℕ × Word)) → length (told_bytes ms) ≤ length (told_bytes ns) → length (told_bytes (pick b (m ∷ ms) ms)) ≤ length (told_bytes (m ∷ ns))
unfolding told_bytes
pick-shorter true m ms ns h = omega (arith, length-append (encode_word m.0 m.1) (told_bytes ms), length-append (encode_word m.0 m.1) (told_bytes ns))
pick-shorter false m ms ns h = omega (arith, length-append (encode_word m.0 m.1) (told_bytes ns))

pub own-short : OwnShort
unfolding OwnShort own
own-short c [] = omega arith
own-short c (m ∷ ms) = pick-shorter (eqb m.0 c) m (own c ms) ms (own-short c ms)

-- What is read without the programs.
abbrev words_of : Result (List (ℕ × Word)) ℕ → Result (List Word) ℕ
words_of (Ok ms) = Ok (map (λ m. m.1) ms)
words_of (Err j) = Err j

words-of-before : (m : ℕ × Word) (r : Result (List (ℕ × Word)) ℕ) → before m.1 (words_of r) ≡ words_of (before m r)
words-of-before m (Ok ms) = refl
words-of-before m (Err j) = refl

words-of-on : (x : Next (ℕ × Word)) (g : ℕ → Result (List Word) ℕ) (h : ℕ → Result (List (ℕ × Word)) ℕ) → ((k : ℕ) → g k ≡ words_of (h k)) → and_on (word_of x) g ≡ words_of (and_on x h)
words-of-on (Ok None) g h e = refl
words-of-on (Ok (Some r)) g h e = ap (λ l. before r.0.1 l) (e r.1) ∙ words-of-before r.0 (h r.1)
words-of-on (Err j) g h e = refl

words-of-each : (bs : List ℕ) (f k : ℕ) → each (next_word bs) f k ≡ words_of (each (next_told bs) f k)
unfolding each
words-of-each bs zero k = refl
words-of-each bs (suc f) k = words-of-on (next_told bs k) (λ to. each (next_word bs) f to) (λ to. each (next_told bs) f to) (words-of-each bs f)

pub heard-is : (bs : List ℕ) → heard bs ≡ words_of (words_in bs)
unfolding heard words_in
heard-is bs = words-of-each bs (length bs) 0

pick-carried : (b : Bool) (m : ℕ × Word) (ms : List (ℕ × Word)) → Told m → AllCarried ms → AllCarried (pick b (m ∷ ms) ms)
unfolding AllCarried
pick-carried true m ms t s = (t, s)
pick-carried false m ms t s = s

pub own-carried : (c : ℕ) (ms : List (ℕ × Word)) → AllCarried ms → AllCarried (own c ms)
unfolding AllCarried own
own-carried c [] s = tt
own-carried c (m ∷ ms) s = pick-carried (eqb m.0 c) m (own c ms) s.0 (own-carried c ms s.1)

pub heard-stands : Heard
unfolding Heard WordsReadBack
heard-stands c ms s l =
    heard-is (told_bytes (own c ms)) ∙ ap words_of (words-read-back (own c ms) (own-carried c ms s) l) ∙ ap (λ ws. Ok ws) (own-words c ms)

-- a row that is read as words is short enough to be
long-fault : (bs : List ℕ) (f : ℕ) → 4294967296 ≤ length bs → each (next_told bs) (suc f) 0 ≡ Err 4294967295
long-fault bs f h =
    let l : 0 < length bs = omega arith in
    each-fault (next_told bs) f 0 4294967295
    (next-there bs 0 l ∙ ap (λ b. one_more (pick b (Err 4294967295) (decode_word bs 0))) (le-leb 4294967296 (length bs) h))

short_row : (bs : List ℕ) (ms : List (ℕ × Word)) → words_in bs ≡ Ok ms → length bs < 4294967296
unfolding words_in
short_row bs ms e =
    elim (cases_lt (length bs) 4294967296) [
      | inl h ↦ h
      | inr h ↦ (
          let n : length bs ≡ suc (length bs - 1) = omega arith in
          let p : ◌≡◌ {A = Result (List (ℕ × Word)) ℕ} (Ok ms) (Err 4294967295) = sym e ∙ ap (λ f. each (next_told bs) f 0) n ∙ long-fault bs (length bs - 1) h in
          absurd (let z : ◌≡◌ {A = ℕ} 0 1 = cc in omega arith))
    ]

pub taken-heard : TakenHeard
unfolding TakenHeard WordsReadOnly OwnShort Heard
taken-heard c bs old new n b t =
    let ms = t.all in
    let o = words-read-only bs ms b t.said in
    let l : length (told_bytes (own c ms)) < 4294967296 = omega (arith, own-short c ms, ap length o.1, short_row bs ms t.said) in
    ap heard t.written.front ∙ heard-stands c ms o.0 l
