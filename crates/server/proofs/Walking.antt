-- A row of words read from its start on, one after another.
use Rattle.std.proofs.Common.{◌≡◌, ℕ, zero, suc, ◌+◌, ◌<◌, ◌≤◌, List, [], ◌∷◌, ◌++◌, length, Some, None, Ok, Err, Result, sym, refl, ap, ◌∙◌, arith}
use Rattle.std.proofs.lemmas.List.{append_assoc, append-nil}
use Rattle.std.proofs.lemmas.Bool.{lt-ltb, le-ltb}
use Rattle.model.specs.Basics.{pick}
use Rattle.model.specs.Desk.{Word}
use Rattle.protocol.specs.Formats.{read_told}
use Rattle.server.specs.Mailbox.{Next, one_more, next_told, before, and_on, each, words_in}

-- one turn
pub next-there : (bs : List ℕ) (k : ℕ) → k < length bs → next_told bs k ≡ one_more (read_told bs k)
next-there bs k h = ap (λ b. pick b (one_more (read_told bs k)) (Ok None)) (lt-ltb k (length bs) h)

pub next-end : (bs : List ℕ) (k : ℕ) → length bs ≤ k → next_told bs k ≡ Ok None
next-end bs k h = ap (λ b. pick b (one_more (read_told bs k)) (Ok None)) (le-ltb k (length bs) h)

pub each_none : {A : Type 0} (next : ℕ → Next A) (f k : ℕ) → next k ≡ Ok None → each next f k ≡ Ok []
unfolding each
each_none next zero k e = refl
each_none next (suc f) k e = ap (λ x. and_on x (λ to. each next f to)) e

pub each-some : {A : Type 0} (next : ℕ → Next A) (f k : ℕ) (r : A × ℕ) → next k ≡ Ok (Some r) → each next (suc f) k ≡ before r.0 (each next f r.1)
unfolding each
each-some next f k r e = ap (λ x. and_on x (λ to. each next f to)) e

pub each-fault : {A : Type 0} (next : ℕ → Next A) (f k j : ℕ) → next k ≡ Err j → each next (suc f) k ≡ Err j
unfolding each
each-fault next f k j e = ap (λ x. and_on x (λ to. each next f to)) e

-- words that were read, and then what else is
abbrev onto : List (ℕ × Word) → Result (List (ℕ × Word)) ℕ → Result (List (ℕ × Word)) ℕ
onto ms (Ok ns) = Ok (ms ++ ns)
onto ms (Err j) = Err j

onto-none : (r : Result (List (ℕ × Word)) ℕ) → r ≡ onto [] r
onto-none (Ok ns) = refl
onto-none (Err j) = refl

onto-before : (ms : List (ℕ × Word)) (m : ℕ × Word) (r : Result (List (ℕ × Word)) ℕ) → onto ms (before m r) ≡ onto (ms ++ m ∷ []) r
onto-before ms m (Ok ns) = ap (λ l. Ok l) (sym (append_assoc ms (m ∷ []) ns))
onto-before ms m (Err j) = refl

-- up to the byte `at` these words are read, and what is left gives all
pub record Walked (bs : List ℕ) (at : ℕ) (done : List (ℕ × Word)) : Type 0 where
  pub fuel : ℕ
  pub enough : length bs ≤ at + fuel
  pub all : words_in bs ≡ onto done (each (next_told bs) fuel at)

pub walked_start : (bs : List ℕ) → Walked bs 0 []
unfolding words_in
walked_start bs = record { fuel = length bs; enough = omega arith; all = onto-none (each (next_told bs) (length bs) 0) }

-- a byte is left, so a turn is
more-fuel : (bs : List ℕ) (at fuel : ℕ) → length bs ≤ at + fuel → at < length bs → (f : ℕ) × (fuel ≡ suc f)
more-fuel bs at zero e h = absurd (let z : ⊥ = omega arith in z)
more-fuel bs at (suc f) e h = (f, refl)

pub walked_more : (bs : List ℕ) (at to : ℕ) (done : List (ℕ × Word)) (m : ℕ × Word) → Walked bs at done → at < length bs → at < to → read_told bs at ≡ Ok (m, to) → Walked bs to (done ++ m ∷ [])
walked_more bs at to done m w h l e =
    let f = more-fuel bs at w.fuel w.enough h in
    record {
      fuel = f.0;
      enough = omega (arith, w.enough, f.1);
      all =
          w.all
          ∙ ap (λ n. onto done (each (next_told bs) n at)) f.1
          ∙ ap (onto done) (each-some (next_told bs) f.0 at (m, to) (next-there bs at h ∙ ap (λ x. one_more x) e))
          ∙ onto-before done m (each (next_told bs) f.0 to);
    }

pub walked-fault : (bs : List ℕ) (at j : ℕ) (done : List (ℕ × Word)) → Walked bs at done → at < length bs → read_told bs at ≡ Err j → words_in bs ≡ Err j
walked-fault bs at j done w h e =
    let f = more-fuel bs at w.fuel w.enough h in
    w.all
    ∙ ap (λ n. onto done (each (next_told bs) n at)) f.1
    ∙ ap (onto done) (each-fault (next_told bs) f.0 at j (next-there bs at h ∙ ap (λ x. one_more x) e))

pub walked_end : (bs : List ℕ) (at : ℕ) (done : List (ℕ × Word)) → Walked bs at done → length bs ≤ at → words_in bs ≡ Ok done
walked_end bs at done w h =
    w.all ∙ ap (onto done) (each_none (next_told bs) w.fuel at (next-end bs at h)) ∙ ap (λ l. Ok l) (append-nil done)

-- all begins with the words that are read
rest : (ms all : List (ℕ × Word)) (r : Result (List (ℕ × Word)) ℕ) → Ok all ≡ onto ms r → (ns : List (ℕ × Word)) × (all ≡ ms ++ ns)
rest ms all (Ok ns) e = (ns, cc)
rest ms all (Err j) e = absurd (let z : ◌≡◌ {A = ℕ} 0 1 = cc in omega arith)

pub walked-front : (bs : List ℕ) (at : ℕ) (done all : List (ℕ × Word)) → Walked bs at done → words_in bs ≡ Ok all → (ns : List (ℕ × Word)) × (all ≡ done ++ ns)
walked-front bs at done all w e = rest done all (each (next_told bs) w.fuel at) (sym e ∙ w.all)
