-- The words of one program, counted and copied on the way through a row.
use Rattle.std.proofs.Common.{◌≡◌, ℕ, ◌+◌, ◌-◌, ◌<◌, ◌≤◌, true, false, eqb, List, [], ◌∷◌, ◌++◌, length, take, drop, Ok, Err, Result, sym, refl, ap, ◌∙◌, arith}
use Rattle.std.proofs.lemmas.List.{length-append, length-take, length-drop}
use Rattle.model.specs.Desk.{Word}
use Rattle.protocol.specs.Added.{Added}
use Rattle.protocol.specs.Fields.{Bytes}
use Rattle.protocol.specs.Formats.{read_told, encode_word}
use Rattle.protocol.specs.Laws.{ReadsWordsOnly, Told}
use Rattle.protocol.proofs.Adding.{added_then, added-as}
use Rattle.protocol.proofs.WordLaws.{reads-words-only}
use Rattle.server.specs.Told.{told_bytes}
use Rattle.server.specs.Mailbox.{own, OwnSize, FaultyAt, Took}
use Rattle.server.proofs.Owning.{told_bytes-none, own-none, own-bytes-mine, own-bytes-other, own-bytes-front}
use Rattle.server.proofs.Walking.{Walked, walked_start, walked_more, walked-fault, walked_end, walked-front}

-- the bytes of a word that is read
pub record WordAt (bs : List ℕ) (k : ℕ) (m : ℕ × Word) (to : ℕ) : Type 0 where
  pub told : Told m
  pub after : k < to
  pub within : to ≤ length bs
  pub spelt : take (to - k) (drop k bs) ≡ encode_word m.0 m.1
  pub size : length (encode_word m.0 m.1) ≡ to - k

pub word_at : (bs : List ℕ) (k : ℕ) (m : ℕ × Word) (to : ℕ) → Bytes bs → read_told bs k ≡ Ok (m, to) → WordAt bs k m to
unfolding ReadsWordsOnly
word_at bs k m to b e =
    let w = reads-words-only bs k m to b e in
    let a = w.1 in
    let i = w.2 in
    record {
      told = w.0;
      after = a;
      within = i;
      spelt = w.3;
      size = sym (ap length w.3) ∙ simp (length-take, length-drop) (omega arith);
    }

own-none-bytes : (c : ℕ) → told_bytes (own c []) ≡ []
own-none-bytes c = ap told_bytes (own-none c) ∙ told_bytes-none

-- COUNTING: up to the byte `at` the program's words have so many bytes
pub record Counted (c : ℕ) (bs : List ℕ) (at size : ℕ) : Type 0 where
  pub done : List (ℕ × Word)
  pub walked : Walked bs at done
  pub is : size ≡ length (told_bytes (own c done))
  pub low : size ≤ at
  pub within : at ≤ length bs

pub counted_start : (c : ℕ) (bs : List ℕ) → Counted c bs 0 0
counted_start c bs = record { done = []; walked = walked_start bs; is = sym (ap length (own-none-bytes c)); low = omega arith; within = omega arith }

pub counted-mine : (c : ℕ) (bs : List ℕ) (at size to : ℕ) (m : ℕ × Word) → Counted c bs at size → Bytes bs → at < length bs → read_told bs at ≡ Ok (m, to) → eqb m.0 c ≡ true →
    Counted c bs to (size + (to - at))
counted-mine c bs at size to m n b h e q =
    let w = word_at bs at m to b e in
    record {
      done = n.done ++ m ∷ [];
      walked = walked_more bs at to n.done m n.walked h w.after e;
      is = omega (arith, n.is, w.size, ap length (own-bytes-mine c n.done m q) ∙ length-append (told_bytes (own c n.done)) (encode_word m.0 m.1));
      low = omega (arith, n.low, w.after);
      within = w.within;
    }

pub counted-other : (c : ℕ) (bs : List ℕ) (at size to : ℕ) (m : ℕ × Word) → Counted c bs at size → Bytes bs → at < length bs → read_told bs at ≡ Ok (m, to) → eqb m.0 c ≡ false →
    Counted c bs to size
counted-other c bs at size to m n b h e q =
    let w = word_at bs at m to b e in
    record {
      done = n.done ++ m ∷ [];
      walked = walked_more bs at to n.done m n.walked h w.after e;
      is = n.is ∙ sym (ap length (own-bytes-other c n.done m q));
      low = omega (arith, n.low, w.after);
      within = w.within;
    }

pub counted-fault : (c : ℕ) (bs : List ℕ) (at size j : ℕ) → Counted c bs at size → at < length bs → read_told bs at ≡ Err j → j ≤ length bs → j < 4294967296 → FaultyAt bs j
counted-fault c bs at size j n h e w l = record { said = walked-fault bs at j n.done n.walked h e; within = w; low = l }

pub counted-end : (c : ℕ) (bs : List ℕ) (at size : ℕ) → Counted c bs at size → length bs ≤ at → OwnSize c bs size
counted-end c bs at size n h = record { all = n.done; said = walked_end bs at n.done n.walked h; size = n.is }

-- COPYING: up to the byte `at` the program's words are written, up to the byte `used` of a row that held `old`
pub record Copied (c : ℕ) (bs : List ℕ) (at used : ℕ) (old new : List ℕ) : Type 0 where
  pub done : List (ℕ × Word)
  pub walked : Walked bs at done
  pub added : Added 0 used (told_bytes (own c done)) old new

pub copied-start : (c : ℕ) (bs old : List ℕ) → Copied c bs 0 0 old old
copied-start c bs old =
    record {
      done = [];
      walked = walked_start bs;
      added = added-as 0 0 [] (told_bytes (own c [])) old old (sym (own-none-bytes c)) (record { ends = refl; front = refl; rest = refl });
    }

pub copied-mine : (c : ℕ) (bs : List ℕ) (at used to up : ℕ) (old new newer : List ℕ) (m : ℕ × Word) → Copied c bs at used old new → Bytes bs → at < length bs → read_told bs at ≡ Ok (m, to) → eqb m.0 c ≡ true →
    Added used up (take (to - at) (drop at bs)) new newer → Copied c bs to up old newer
copied-mine c bs at used to up old new newer m n b h e q a =
    let w = word_at bs at m to b e in
    record {
      done = n.done ++ m ∷ [];
      walked = walked_more bs at to n.done m n.walked h w.after e;
      added =
          added-as 0 up _ _ old newer (ap (λ l. told_bytes (own c n.done) ++ l) w.spelt ∙ sym (own-bytes-mine c n.done m q))
          (added_then 0 used up (told_bytes (own c n.done)) (take (to - at) (drop at bs)) old new newer n.added a);
    }

pub copied-other : (c : ℕ) (bs : List ℕ) (at used to : ℕ) (old new : List ℕ) (m : ℕ × Word) → Copied c bs at used old new → Bytes bs → at < length bs → read_told bs at ≡ Ok (m, to) → eqb m.0 c ≡ false →
    Copied c bs to used old new
copied-other c bs at used to old new m n b h e q =
    let w = word_at bs at m to b e in
    record {
      done = n.done ++ m ∷ [];
      walked = walked_more bs at to n.done m n.walked h w.after e;
      added = added-as 0 used _ _ old new (sym (own-bytes-other c n.done m q)) n.added;
    }

-- there is room for one more word, where there is for all
pub copied-room : (c : ℕ) (bs : List ℕ) (at used to size : ℕ) (old new : List ℕ) (m : ℕ × Word) → Copied c bs at used old new → OwnSize c bs size → Bytes bs → at < length bs → read_told bs at ≡ Ok (m, to) → eqb m.0 c ≡ true →
    used + (to - at) ≤ size
copied-room c bs at used to size old new m n s b h e q =
    let w = word_at bs at m to b e in
    let d = n.done ++ m ∷ [] in
    let f = walked-front bs to d s.all (walked_more bs at to n.done m n.walked h w.after e) s.said in
    omega (
      arith,
      s.size,
      w.size,
      n.added.ends,
      ap (λ l. length (told_bytes (own c l))) f.1,
      own-bytes-front c d f.0,
      ap length (own-bytes-mine c n.done m q) ∙ length-append (told_bytes (own c n.done)) (encode_word m.0 m.1),
    )

-- no word is in fault, where all are read
pub copied-no-fault : (c : ℕ) (bs : List ℕ) (at used size j : ℕ) (old new : List ℕ) → Copied c bs at used old new → OwnSize c bs size → at < length bs → read_told bs at ≡ Err j → ⊥
copied-no-fault c bs at used size j old new n s h e =
    clash s.all j (sym s.said ∙ walked-fault bs at j n.done n.walked h e)
  where
    clash : (ms : List (ℕ × Word)) (j : ℕ) → ◌≡◌ {A = Result (List (ℕ × Word)) ℕ} (Ok ms) (Err j) → ⊥
    clash ms j e = let z : ◌≡◌ {A = ℕ} 0 1 = cc in omega arith

pub copied-end : (c : ℕ) (bs : List ℕ) (at used : ℕ) (old new : List ℕ) → Copied c bs at used old new → length bs ≤ at → Took c bs old new used
copied-end c bs at used old new n h = record { all = n.done; said = walked_end bs at n.done n.walked h; written = n.added }
