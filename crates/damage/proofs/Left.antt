-- Words that are sent one after another: all is to be sent from at₀ on; the place is at, and left is still to come.
use Rattle.std.proofs.Common.{◌≡◌, ℕ, ◌+◌, ◌<◌, ◌≤◌, List, [], ◌∷◌, ◌++◌, length, get_or, take, drop, set, sym, refl, ap, ◌∙◌, arith}
use Rattle.std.proofs.lemmas.List.{append_assoc, append-nil, length-append, length-set, length-take-le, take_at, take_more_set}
use Rattle.pixels.specs.Runs.{Changed}
use Rattle.pixels.proofs.Laws.{changed-list}
use Rattle.damage.specs.Encode.{Sent}

pub record Left (at₀ at : ℕ) (all left old new : List ℕ) : Type 0 where
  pub ends : at + length left ≡ at₀ + length all
  pub front : take at new ++ left ≡ take at₀ old ++ all
  pub long : length new ≡ length old

pub left-start : (at : ℕ) (all old : List ℕ) → Left at at all all old old
left-start at all old = record { ends = refl; front = refl; long = refl }

pub left-more : (at₀ at to : ℕ) (all ws left old mid new : List ℕ) → Left at₀ at all (ws ++ left) old mid → Sent at to ws mid new → length new ≡ length mid → Left at₀ to all left old new
left-more at₀ at to all ws left old mid new l s n =
    record {
      ends = omega (arith, l.ends, s.ends, length-append ws left);
      front = ap (λ t. t ++ left) s.front ∙ append_assoc (take at mid) ws left ∙ l.front;
      long = n ∙ l.long;
    }

pub left_by : (at₀ at : ℕ) (all left left' old new : List ℕ) → left ≡ left' → Left at₀ at all left old new → Left at₀ at all left' old new
left_by at₀ at all left left' old new e l = rw (← e) l

pub left_end : (at₀ at : ℕ) (all old new : List ℕ) → Left at₀ at all [] old new → Sent at₀ at all old new
left_end at₀ at all old new l = record { ends = omega (arith, l.ends); front = sym (append-nil (take at new)) ∙ l.front }

-- the room for all is room for what is left, and for the first of it
pub left-room : (at₀ at : ℕ) (all ws left old new : List ℕ) → Left at₀ at all (ws ++ left) old new → at₀ + length all ≤ length old → at + length ws ≤ length new
left-room at₀ at all ws left old new l h = omega (arith, l.ends, l.long, length-append ws left)

pub sent-none : (at : ℕ) (xs : List ℕ) → Sent at at [] xs xs
sent-none at xs = record { ends = omega arith; front = sym (append-nil (take at xs)) }

pub sent_by : (at to : ℕ) (ws vs old new : List ℕ) → ws ≡ vs → Sent at to ws old new → Sent at to vs old new
sent_by at to ws vs old new e s = rw (← e) s

pub sent-then : (at mid to : ℕ) (ws vs old m new : List ℕ) → Sent at mid ws old m → Sent mid to vs m new → Sent at to (ws ++ vs) old new
sent-then at mid to ws vs old m new s t =
    record {
      ends = omega (arith, s.ends, t.ends, length-append ws vs);
      front = t.front ∙ ap (λ k. k ++ vs) s.front ∙ append_assoc (take at old) ws vs;
    }

-- two words
pub sent-two : (at a b : ℕ) (old : List ℕ) → at + 2 ≤ length old → Sent at (at + 2) (a ∷ b ∷ []) old (set (set old at a) (at + 1) b)
sent-two at a b old h =
    let l : at + 1 < length (set old at a) = simp length-set (omega arith) in
    let k : at < length old = omega arith in
    let q : at + 1 + 1 ≡ at + 2 = omega arith in
    let e : take (at + 1 + 1) (set (set old at a) (at + 1) b) ≡ take at old ++ a ∷ b ∷ [] =
    take_more_set (set old at a) (at + 1) b l ∙ ap (λ t. t ++ b ∷ []) (take_more_set old at a k) ∙ append_assoc (take at old) (a ∷ []) (b ∷ []) in
    record { ends = omega arith; front = rw q at e }

-- a run of words
pub sent-run : (at n : ℕ) (f : ℕ → ℕ) (old new ws : List ℕ) → at + n ≤ length old → length ws ≡ n → ((k : ℕ) → k < n → get_or ws k 0 ≡ f (at + k)) → Changed at n f old new → Sent at (at + n) ws old new
sent-run at n f old new ws h l g c =
    let e = changed-list at n f old new ws h l g c in
    let q : length (take at old ++ ws) ≡ at + n = length-append (take at old) ws ∙ rw (length-take-le at old (omega arith), l) in
    record { ends = omega arith; front = ap (take (at + n)) (e ∙ sym (append_assoc (take at old) ws (drop (at + n) old))) ∙ take_at (take at old ++ ws) (drop (at + n) old) (at + n) q }
