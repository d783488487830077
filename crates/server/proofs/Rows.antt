-- The rows of one program over whole histories.
use Rattle.std.proofs.Common.{◌≡◌, ℕ, List, [], ◌∷◌, ◌++◌, map, sym, refl, ap, ◌∙◌}
use Rattle.std.proofs.lemmas.List.{map-append}
use Rattle.model.specs.Desk.{Word}
use Rattle.model.specs.Promise.{Unseen}
use Rattle.model.proofs.Unseen.{unseen}
use Rattle.server.specs.Told.{told_bytes}
use Rattle.server.specs.Mailbox.{Took, words_in}
use Rattle.server.specs.History.{Call, AllServed, words_of, read_by, heard_by, all_events}
use Rattle.server.specs.Rows.{Taking, handed, Takes, all_handed, row_of, RowsTold, RowsUnseen, RowAlone}
use Rattle.server.proofs.Owning.{told_bytes-append, own-told}
use Rattle.server.proofs.Serving.{all-served}

row-append : (c : ℕ) (vs ws : List Word) → row_of c (vs ++ ws) ≡ row_of c vs ++ row_of c ws
row-append c vs ws = ap told_bytes (map-append (λ w. (c, w)) vs ws) ∙ told_bytes-append (map (λ w. (c, w)) vs) (map (λ w. (c, w)) ws)

-- what is taken after one call is what the program reads in its words
handed-is : (c : ℕ) (k : Call) (t : Taking) → Took c (words_of k) t.old t.new t.count → handed t ≡ row_of c (read_by c (words_in (words_of k)))
handed-is c k t h = h.written.front ∙ ap told_bytes (own-told c h.all) ∙ ap (λ r. row_of c (read_by c r)) (sym h.said)

all-is : (c : ℕ) (cs : List Call) (ts : List Taking) → Takes c cs ts → all_handed ts ≡ row_of c (heard_by c cs)
unfolding told_bytes
all-is c [] [] h = refl
all-is c [] (t ∷ ts) h = absurd h
all-is c (k ∷ ks) [] h = absurd h
all-is c (k ∷ ks) (t ∷ ts) h =
    ap (λ l. l ++ all_handed ts) (handed-is c k t h.0) ∙ ap (λ l. row_of c (read_by c (words_in (words_of k))) ++ l) (all-is c ks ts h.1)
    ∙ sym (row-append c (read_by c (words_in (words_of k))) (heard_by c ks))

pub rows_told : RowsTold
unfolding RowsTold AllServed
rows_told z c cs ts h s k = all-is c cs ts k ∙ ap (row_of c) ((all-served z cs h).words s c)

pub rows-unseen : RowsUnseen
unfolding RowsUnseen RowsTold Unseen
rows-unseen z A c cs ds ts us h g r s t u a l =
    rows_told z c cs ts h r t ∙ ap (row_of c) (unseen z A c (all_events z cs) (all_events z ds) a l) ∙ sym (rows_told z c ds us g s u)

pub row-alone : RowAlone
unfolding RowAlone
row-alone c k l t u h g e = handed-is c k t h ∙ ap (row_of c) e ∙ sym (handed-is c l u g)
