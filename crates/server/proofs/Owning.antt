-- What is told to one program, out of what is told to all.
use Rattle.std.proofs.Common.{◌≡◌, ℕ, ◌≤◌, Bool, true, false, eqb, List, [], ◌∷◌, ◌++◌, map, length, sym, refl, ap, ◌∙◌, arith}
use Rattle.std.proofs.lemmas.List.{append_assoc, append-nil, length-append}
use Rattle.std.proofs.lemmas.Bool.{eqb-true}
use Rattle.model.specs.Basics.{pick}
use Rattle.model.specs.Desk.{Word, words_to}
use Rattle.protocol.specs.Formats.{encode_word}
use Rattle.server.specs.Told.{told_bytes}
use Rattle.server.specs.Mailbox.{own}

-- several rows put together
pub told_bytes-append : (ms ns : List (ℕ × Word)) → told_bytes (ms ++ ns) ≡ told_bytes ms ++ told_bytes ns
unfolding told_bytes
told_bytes-append [] ns = refl
told_bytes-append (m ∷ ms) ns =
    ap (λ l. encode_word m.0 m.1 ++ l) (told_bytes-append ms ns) ∙ sym (append_assoc (encode_word m.0 m.1) (told_bytes ms) (told_bytes ns))

pub told_bytes-one : (m : ℕ × Word) → told_bytes (m ∷ []) ≡ encode_word m.0 m.1
unfolding told_bytes
told_bytes-one m = append-nil (encode_word m.0 m.1)

pub told_bytes-none : told_bytes [] ≡ []
unfolding told_bytes
told_bytes-none = refl

pub own-none : (c : ℕ) → own c [] ≡ []
unfolding own
own-none c = refl

pick-append : {A : Type 0} (b : Bool) (x : A) (xs ys : List A) → pick b (x ∷ (xs ++ ys)) (xs ++ ys) ≡ pick b (x ∷ xs) xs ++ ys
pick-append true x xs ys = refl
pick-append false x xs ys = refl

pub own-append : (c : ℕ) (ms ns : List (ℕ × Word)) → own c (ms ++ ns) ≡ own c ms ++ own c ns
unfolding own
own-append c [] ns = refl
own-append c (m ∷ ms) ns =
    ap (λ l. pick (eqb m.0 c) (m ∷ l) l) (own-append c ms ns) ∙ pick-append (eqb m.0 c) m (own c ms) (own c ns)

pub own-bytes-append : (c : ℕ) (ms ns : List (ℕ × Word)) → told_bytes (own c (ms ++ ns)) ≡ told_bytes (own c ms) ++ told_bytes (own c ns)
own-bytes-append c ms ns = ap told_bytes (own-append c ms ns) ∙ told_bytes-append (own c ms) (own c ns)

-- one word more, of the program and of another
one : (b : Bool) (m : ℕ × Word) → told_bytes (pick b (m ∷ []) []) ≡ pick b (encode_word m.0 m.1) []
one true m = told_bytes-one m
one false m = told_bytes-none

own-one : (c : ℕ) (m : ℕ × Word) → told_bytes (own c (m ∷ [])) ≡ pick (eqb m.0 c) (encode_word m.0 m.1) []
unfolding own
own-one c m = one (eqb m.0 c) m

pub own-bytes-mine : (c : ℕ) (ms : List (ℕ × Word)) (m : ℕ × Word) → eqb m.0 c ≡ true → told_bytes (own c (ms ++ m ∷ [])) ≡ told_bytes (own c ms) ++ encode_word m.0 m.1
own-bytes-mine c ms m e =
    own-bytes-append c ms (m ∷ []) ∙ ap (λ l. told_bytes (own c ms) ++ l) (own-one c m ∙ ap (λ b. pick b (encode_word m.0 m.1) []) e)

pub own-bytes-other : (c : ℕ) (ms : List (ℕ × Word)) (m : ℕ × Word) → eqb m.0 c ≡ false → told_bytes (own c (ms ++ m ∷ [])) ≡ told_bytes (own c ms)
own-bytes-other c ms m e =
    own-bytes-append c ms (m ∷ []) ∙ ap (λ l. told_bytes (own c ms) ++ l) (own-one c m ∙ ap (λ b. pick b (encode_word m.0 m.1) []) e) ∙ append-nil (told_bytes (own c ms))

-- those of a front are no more
pub own-bytes-front : (c : ℕ) (ms ns : List (ℕ × Word)) → length (told_bytes (own c ms)) ≤ length (told_bytes (own c (ms ++ ns)))
own-bytes-front c ms ns = omega (arith, ap length (own-bytes-append c ms ns) ∙ length-append (told_bytes (own c ms)) (told_bytes (own c ns)))

-- the words of the model are these without the program
pick-map : (b : Bool) (m : ℕ × Word) (ms : List (ℕ × Word)) → map (λ m. m.1) (pick b (m ∷ ms) ms) ≡ pick b (m.1 ∷ map (λ m. m.1) ms) (map (λ m. m.1) ms)
pick-map true m ms = refl
pick-map false m ms = refl

pub own-words : (c : ℕ) (ms : List (ℕ × Word)) → map (λ m. m.1) (own c ms) ≡ words_to c ms
unfolding own words_to
own-words c [] = refl
own-words c (m ∷ ms) = pick-map (eqb m.0 c) m (own c ms) ∙ ap (λ l. pick (eqb m.0 c) (m.1 ∷ l) l) (own-words c ms)

-- and these are the words of the model with it
pick-told : (c : ℕ) (b : Bool) (m : ℕ × Word) (ws : List Word) → (b ≡ true → m.0 ≡ c) →
    pick b (m ∷ map (λ w. (c, w)) ws) (map (λ w. (c, w)) ws) ≡ map (λ w. (c, w)) (pick b (m.1 ∷ ws) ws)
pick-told c true m ws e = ap (λ p. (p, m.1) ∷ map (λ w. (c, w)) ws) (e refl)
pick-told c false m ws e = refl

pub own-told : (c : ℕ) (ms : List (ℕ × Word)) → own c ms ≡ map (λ w. (c, w)) (words_to c ms)
unfolding own words_to
own-told c [] = refl
own-told c (m ∷ ms) =
    ap (λ l. pick (eqb m.0 c) (m ∷ l) l) (own-told c ms) ∙ pick-told c (eqb m.0 c) m (words_to c ms) (λ e. eqb-true m.0 c e)
