-- What is left of the words, one fewer.
use Rattle.std.proofs.Common.{◌≡◌, ℕ, ◌+◌, ◌<◌, ◌≤◌, true, false, ltb, leb, List, [], ◌∷◌, length, get_or, drop, Some, None, Ok, Err, Result, ◌⊎◌, ⊎_elim, sym, refl, add-one, arith, drop-cons, Bor}
use Rattle.std.specs.List.{IsSplitAt}
use Rattle.std.specs.Result.{OkIff, is_ok}
use Rattle.std.proofs.lemmas.List.{drop_all, length-map, take-map, drop-map}
use Rattle.std.proofs.lemmas.Bool.{false≢true, lt-ltb, le-ltb, le-leb, lt-leb}
use Rattle.protocol.specs.Fields.{digits}
use Rattle.script.specs.declared.fields.Field.{Field}
use Rattle.script.specs.declared.kinds.Kind.{Kind}
use Rattle.script.specs.Sentences.{and_then, texts}
use Rattle.script.specs.Tables.{before, word_bytes, each_bytes, all_bytes, row_bytes, rest_bytes, event_bytes, number_of, fields_of, row_of}

pub all_more : (f : Field) (ws : List (Bor (List ℕ))) (i : ℕ) (d : Bor (List ℕ)) → i < length ws
    → all_bytes f (texts (drop i ws)) ≡ and_then (word_bytes f (get_or ws i d).now) (λ bs. before bs (all_bytes f (texts (drop (i + 1) ws))))
all_more f ws i d h = rw (add-one, drop-cons ws i d h)

pub all_end : (f : Field) (ws : List (Bor (List ℕ))) (i : ℕ) → length ws ≤ i → all_bytes f (texts (drop i ws)) ≡ Some []
all_end f ws i h = rw (drop_all i ws h)

pub each_more : (fs fs' : List Field) (ws ws' : List (Bor (List ℕ))) (f : Field) (w : Bor (List ℕ)) → fs ≡ f ∷ fs' → ws ≡ w ∷ ws'
    → each_bytes fs (texts ws) ≡ and_then (word_bytes f w.now) (λ bs. before bs (each_bytes fs' (texts ws')))
each_more fs fs' ws ws' f w d e = rw (d, e)

pub each-end : (fs : List Field) (ws : List (Bor (List ℕ))) → (fs ≡ []) ⊎ (ws ≡ []) → each_bytes fs (texts ws) ≡ Some []
each-end fs ws h = ⊎_elim (λ e. rw e) (λ e. rw e (none fs)) h
  where
    none : (gs : List Field) → each_bytes gs [] ≡ Some []
    none [] = refl
    none (g ∷ gs) = refl

-- a count that fits two bytes, or not
pub row-counted : (f : Field) (ws : List (Bor (List ℕ))) (n : ℕ) → (length ws < 65536) × (n ≡ length ws) → row_bytes f (texts ws) ≡ before (digits 2 n) (all_bytes f (texts ws))
unfolding row_bytes
row-counted f ws n h =
    let l : length (texts ws) ≡ length ws = length-map ws (λ w. w.now) in
    let t : ltb (length ws) 65536 ≡ true = lt-ltb _ _ h.0 in
    rw (h.1, l, t)

pub row-long : (f : Field) (ws : List (Bor (List ℕ))) {E : Type 0} (r : Result ℕ E) → OkIff r (length ws < 65536) (length ws) → is_ok r ≡ false → row_bytes f (texts ws) ≡ None
unfolding row_bytes
row-long f ws (Ok n) h e = absurd (false≢true (sym e))
row-long f ws (Err d) h e =
    let l : length (texts ws) ≡ length ws = length-map ws (λ w. w.now) in
    let t : ltb (length ws) 65536 ≡ false = le-ltb _ _ (omega (arith, h)) in
    rw (l, t)

-- too few words
pub event-few : (k : Kind) (ws : List (Bor (List ℕ))) → length ws < length (fields_of k) → event_bytes k (texts ws) ≡ None
unfolding event_bytes
event-few k ws h =
    let n : length (texts ws) ≡ length ws = length-map ws (λ w. w.now) in
    let t : leb (length (fields_of k)) (length ws) ≡ false = lt-leb _ _ h in
    rw (n, t)

-- enough of them: the kind, the fields and the rest, one after another
pub event-parts : (k : Kind) (fs : List Field) (ws front back : List (Bor (List ℕ))) → fs ≡ fields_of k → IsSplitAt ws (length fs) front back
    → event_bytes k (texts ws) ≡ before (number_of k ∷ []) (and_then (each_bytes fs (texts front)) (λ bs. before bs (rest_bytes (row_of k) (texts back))))
unfolding event_bytes
event-parts k fs ws front back e h =
    let n : length (texts ws) ≡ length ws = length-map ws (λ w. w.now) in
    let t : leb (length fs) (length ws) ≡ true = le-leb _ _ h.0 in
    rw (← e, n, t, h.1, h.2, take-map (λ w. w.now) (length fs) ws, drop-map (λ w. w.now) (length fs) ws)
