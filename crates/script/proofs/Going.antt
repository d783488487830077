-- Bytes that are added bit by bit: what is left to say gives all that is said.
use Rattle.std.proofs.Common.{◌≡◌, ℕ, List, [], ◌++◌, Some, None, Ok, Err, Option, Result, sym, refl, ap, ◌∙◌, append_assoc, append-nil, MatchResult}
use Rattle.script.specs.declared.problem.Problem.{Problem}
use Rattle.script.specs.declared.problem.Problem.TheVariants.{Unknown, Fields, Number, Long, Memory}
use Rattle.script.specs.Putting.{Blames, Puts}
use Rattle.script.specs.Sentences.{and_then}
use Rattle.script.specs.Tables.{before}

pub blames : (p : Problem) {P Q : Type 0} → (P → Q) → Blames p P → Blames p Q
blames (Unknown w) f h = f h
blames (Fields k) f h = f h
blames (Number w low high) f h = f h
blames (Long k) f h = f h
blames Memory f h = tt

pub blame : (p : Problem) {P : Type 0} → P → Blames p P
blame (Unknown w) h = h
blame (Fields k) h = h
blame (Number w low high) h = h
blame (Long k) h = h
blame Memory h = tt

pub puts-from-add : (said : Option (List ℕ)) (old new bs : List ℕ) (r : Result (Unit {0}) Problem) → said ≡ Some bs → MatchResult r (λ _. new ≡ old ++ bs) (λ p. Blames p ⊥) → Puts said old new r
puts-from-add said old new bs (Ok u) e h = (bs, e, h)
puts-from-add said old new bs (Err p) e h = blames p (λ x. absurd x) h

pub before-nil : (o : Option (List ℕ)) → o ≡ before [] o
before-nil None = refl
before-nil (Some x) = refl

pub before-before : (a b : List ℕ) (o : Option (List ℕ)) → before a (before b o) ≡ before (a ++ b) o
before-before a b None = refl
before-before a b (Some x) = ap (λ l. Some l) (sym (append_assoc a b x))

-- all that is said is what has been added, and then what is left
pub record Going (all left : Option (List ℕ)) (old new : List ℕ) : Type 0 where
  pub done : List ℕ
  pub items : new ≡ old ++ done
  pub rest : all ≡ before done left

pub going_start : (all : Option (List ℕ)) (old : List ℕ) → Going all all old old
going_start all old = record { done = []; items = sym (append-nil old); rest = before-nil all }

pub going_more : {all : Option (List ℕ)} {old new : List ℕ} (bs new' : List ℕ) (left : Option (List ℕ)) → Going all (before bs left) old new → new' ≡ new ++ bs → Going all left old new'
going_more {all} {old} bs new' left g e = record {
  done = g.done ++ bs;
  items = e ∙ ap (λ l. l ++ bs) g.items ∙ append_assoc old g.done bs;
  rest = g.rest ∙ before-before g.done bs left;
}

pub going-by : {all left left' : Option (List ℕ)} {old new : List ℕ} → left ≡ left' → Going all left old new → Going all left' old new
going-by e g = record { done = g.done; items = g.items; rest = g.rest ∙ ap (λ o. before g.done o) e }

-- one more part is put
pub going-put : {all : Option (List ℕ)} {old new : List ℕ} (said : Option (List ℕ)) (new' : List ℕ) (left : Option (List ℕ)) (u : Unit {0})
    → Going all (and_then said (λ bs. before bs left)) old new → Puts said new new' (Ok u) → Going all left old new'
going-put said new' left u g p = going_more p.0 new' left (going-by (ap (λ o. and_then o (λ bs. before bs left)) p.1) g) p.2

pub going-stop : {all : Option (List ℕ)} {old new : List ℕ} (said : Option (List ℕ)) (next : List ℕ → Option (List ℕ)) (p : Problem)
    → Going all (and_then said next) old new → Blames p (said ≡ None) → Blames p (all ≡ None)
going-stop said next p g h = blames p (λ e. g.rest ∙ ap (λ o. before g.done (and_then o next)) e) h

pub going_end : {all : Option (List ℕ)} {old new : List ℕ} (u : Unit {0}) → Going all (Some []) old new → Puts all old new (Ok u)
going_end u g = (g.done, g.rest ∙ ap (λ l. Some l) (append-nil g.done), g.items)

-- the last part decides
pub going-last : {all : Option (List ℕ)} {old new : List ℕ} (left : Option (List ℕ)) (new' : List ℕ) (r : Result (Unit {0}) Problem) → Going all left old new → Puts left new new' r → Puts all old new' r
going-last {all} {old} left new' (Ok u) g p =
    (g.done ++ p.0, g.rest ∙ ap (λ o. before g.done o) p.1, p.2 ∙ ap (λ l. l ++ p.0) g.items ∙ append_assoc old g.done p.0)
going-last left new' (Err q) g p = blames q (λ e. g.rest ∙ ap (λ o. before g.done o) e) p
