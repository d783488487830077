-- Lines and words, one after another.
use Rattle.std.proofs.Common.{◌≡◌, ℕ, suc, ◌+◌, ◌<◌, ◌≤◌, false, eqb, List, [], ◌∷◌, ◌++◌, length, get_or, drop, Some, None, Ok, Err, Option, Result, sym, refl, ap, ◌∙◌, subst, ⊎_elim, append_assoc, append-nil, arith, length-append, Bor}
use lib.Utf8 as utf8
use Rattle.std.specs.Iterator.{Yields}
use Rattle.std.specs.Str.Iter.{split_whitespace_rest, split_whitespace_steps}
use Rattle.std.specs.Str.Lines.{IsFirstLine}
use Rattle.std.specs.Option.{MatchOption, option_map}
use Rattle.std.specs.Result.{MatchResult}
use Rattle.std.specs.Char.{is_not_whitespace, is_newline}
use Rattle.std.specs.Str.{NoCharPasses, EmptyOrStartsWithPassing}
use Rattle.std.proofs.lemmas.List.{length_push}
use Rattle.std.proofs.lemmas.Bool.{ne_eqb, eqb-true, cases_lt}
use Rattle.model.specs.Desk.{Event}
use Rattle.protocol.specs.Formats.{encode}
use Rattle.script.specs.declared.kinds.Kind.{Kind}
use Rattle.script.specs.declared.problem.Problem.{Problem}
use Rattle.script.specs.Kinds.{kind_of}
use Rattle.script.specs.declared.text.Refusal.{Refusal}
use Rattle.script.specs.Putting.{Puts, Blames}
use Rattle.script.specs.Sentences.{and_then, texts, kind_says}
use Rattle.script.specs.Tables.{number_of}
use Rattle.script.specs.Texts.{code_of, Words, sentence, LineSays, encode_all, PutsLine, TextSays, WrongAfter, WrongAt, all_events}
use Rattle.script.proofs.Going.{blames}

-- Comments.
abbrev Lacks : List ℕ → Type 0
Lacks xs = (i : ℕ) → i < length xs → get_or xs i 0 ≡ 35 → ⊥

lacks_rest : (x : ℕ) (xs : List ℕ) → Lacks (x ∷ xs) → Lacks xs
lacks_rest x xs h i l e = h (suc i) (omega arith) e

lacks-first : (x : ℕ) (xs : List ℕ) → Lacks (x ∷ xs) → eqb x 35 ≡ false
lacks-first x xs h = ne_eqb x 35 (λ e. h 0 (omega arith) e)

code-whole : (xs : List ℕ) → Lacks xs → xs ≡ code_of xs
code-whole [] h = refl
code-whole (x ∷ xs) h = let e = lacks-first x xs h in rw e (ap (λ l. x ∷ l) (code-whole xs (lacks_rest x xs h)))

code-front : (xs ys : List ℕ) → Lacks xs → xs ≡ code_of (xs ++ (35 ∷ ys))
code-front [] ys h = refl
code-front (x ∷ xs) ys h = let e = lacks-first x xs h in rw e (ap (λ l. x ∷ l) (code-front xs ys (lacks_rest x xs h)))

code-cut : (bs xs ys : List ℕ) → bs ≡ xs ++ (35 ∷ ys) → Lacks xs → xs ≡ code_of bs
code-cut bs xs ys e h = code-front xs ys h ∙ ap code_of (sym e)

-- what stands before the first #, or the whole line
pub code-found : (bs : List ℕ) (o : Option (Bor (List ℕ) × Bor (List ℕ))) (r : List ℕ)
    → MatchOption o (Lacks bs) (λ x. (bs ≡ x.0.now ++ (35 ∷ x.1.now)) × Lacks x.0.now) → MatchOption o (r ≡ bs) (λ x. r ≡ x.0.now) → r ≡ code_of bs
code-found bs None r h e = e ∙ code-whole bs h
code-found bs (Some x) r h e = e ∙ code-cut bs x.0.now x.1.now h.0 h.1

-- Words: those that `split_whitespace` gives until it ends.
pub words-drained : (ws : List (Bor (List ℕ))) (s t : _) → Yields split_whitespace_steps s ws t → NoCharPasses is_not_whitespace (split_whitespace_rest t)
    → Words (split_whitespace_rest s) (texts ws)
words-drained [] s t y h = rw y h
words-drained (w ∷ ws) s t y h =
    let cut = y.1 in
    (split_whitespace_rest y.0, record { gap = cut.0; cut = cut.1; some = cut.2; blank = cut.3; solid = cut.4; ends = cut.5 }, words-drained ws y.0 t y.2 h)

pub sentence-named : (all : List (Bor (List ℕ))) (name : Bor (List ℕ)) (ws : List (Bor (List ℕ))) (k : Kind) → all ≡ name ∷ ws → Some k ≡ kind_of name.now
    → option_map encode_all (sentence (texts all)) ≡ option_map encode (kind_says (number_of k) (texts ws))
sentence-named all name ws k e n =
    ap (λ l. option_map encode_all (sentence (texts l))) e
    ∙ ap (λ o. option_map encode_all (and_then o (λ j. option_map (λ e. e ∷ []) (kind_says (number_of j) (texts ws))))) (sym n)
    ∙ by (kind_says (number_of k) (texts ws))
  where
    by : (o : Option Event) → option_map encode_all (option_map (λ e. e ∷ []) o) ≡ option_map encode o
    by None = refl
    by (Some e) = ap (λ l. Some l) (append-nil (encode e))

-- what is put for the words of a line is put for the line
pub line-put : (line text old new : List ℕ) (ws : List (List ℕ)) (r : Result (Unit {0}) Problem) → text ≡ code_of line → Words text ws → Puts (option_map encode_all (sentence ws)) old new r → PutsLine line old new r
line-put line text old new ws (Ok u) e h p = by (sentence ws) refl p.1
  where
    by : (o : Option (List Event)) → sentence ws ≡ o → option_map encode_all o ≡ Some p.0 → PutsLine line old new (Ok u)
    by None s q = let z : ◌≡◌ {A = ℕ} 0 1 = cc in absurd (omega arith)
    by (Some es) s q =
        let b : encode_all es ≡ p.0 = cc in
        (es, (ws, subst (λ t. Words t ws) e h, s), p.2 ∙ ap (λ l. old ++ l) (sym b))
line-put line text old new ws (Err q) e h p = blames q (λ n. (ws, subst (λ t. Words t ws) e h, by (sentence ws) n)) p
  where
    by : (o : Option (List Event)) → option_map encode_all o ≡ None → o ≡ None
    by None n = refl
    by (Some es) n = let z : ◌≡◌ {A = ℕ} 0 1 = cc in absurd (omega arith)

-- Lines: those that were seen come before the others.
encode-append : (xs ys : List Event) → encode_all (xs ++ ys) ≡ encode_all xs ++ encode_all ys
encode-append [] ys = refl
encode-append (x ∷ xs) ys = ap (λ l. encode x ++ l) (encode-append xs ys) ∙ sym (append_assoc (encode x) (encode_all xs) (encode_all ys))

events-push : (ess : List (List Event)) (es : List Event) → encode_all (all_events (ess ++ (es ∷ []))) ≡ encode_all (all_events ess) ++ encode_all es
events-push [] es = ap encode_all (append-nil es)
events-push (fs ∷ ess) es =
    encode-append fs (all_events (ess ++ (es ∷ []))) ∙ ap (λ l. encode_all fs ++ l) (events-push ess es)
    ∙ sym (append_assoc (encode_all fs) (encode_all (all_events ess)) (encode_all es)) ∙ ap (λ l. l ++ encode_all es) (sym (encode-append fs (all_events ess)))

pub record Sofar (text rest : List ℕ) (n : ℕ) (out : List ℕ) : Type 0 where
  pub seen : List (List Event)
  pub items : out ≡ encode_all (all_events seen)
  pub count : n ≡ length seen
  pub says : (ess : List (List Event)) → TextSays rest ess → TextSays text (seen ++ ess)
  pub wrong : (ess : List (List Event)) → WrongAfter rest ess → WrongAfter text (seen ++ ess)
  pub few : n + length rest ≤ length text

pub sofar-none : (text rest out : List ℕ) → rest ≡ text → out ≡ [] → Sofar text rest 0 out
sofar-none text rest out e z = record {
  seen = [];
  items = z;
  count = refl;
  says = λ ess h. subst (λ t. TextSays t ess) e h;
  wrong = λ ess h. subst (λ t. WrongAfter t ess) e h;
  few = rw e (omega arith);
}

-- a line takes something away
line-shorter : (w x rest : List ℕ) → 0 < length w → IsFirstLine w x rest → length rest < length w
unfolding utf8.encode
line-shorter w x rest some h = ⊎_elim (λ l. l) (λ ge. absurd (long ge)) (cases_lt (length rest) (length w))
  where
    opens : (n : ℕ) → n ≡ 0 → EmptyOrStartsWithPassing is_newline (drop n w) rest → length w ≡ 1 + length rest
    opens n z o =
        let p = subst (λ k. EmptyOrStartsWithPassing is_newline (drop k w) rest) z o some in
        let ten : p.0 ≡ 10 = eqb-true p.0 10 p.1 in
        ap length (p.2 ∙ ap (λ c. utf8.encode c ++ rest) ten) ∙ length-append (utf8.encode 10) rest

    long : length w ≤ length rest → ⊥
    long ge = let z : h.0 ≡ 0 = omega (arith, h.3) in omega (arith, opens h.0 z h.2)

module _ (text rest next line : List ℕ) (n : ℕ) (out : List ℕ) (g : Sofar text rest n out) (some : 0 < length rest) (l : IsFirstLine rest line next) where
  pub sofar-more : (new : List ℕ) → (es : List Event) × LineSays line (Some es) × (new ≡ out ++ encode_all es) → Sofar text next (n + 1) new
  sofar-more new p = record {
    seen = g.seen ++ (p.0 ∷ []);
    items = p.2 ∙ ap (λ o. o ++ encode_all p.0) g.items ∙ sym (events-push g.seen p.0);
    count = omega (arith, g.count, length_push g.seen p.0);
    says = λ ess h. subst (TextSays text) (sym (append_assoc g.seen (p.0 ∷ []) ess)) (g.says (p.0 ∷ ess) (line, next, some, l, p.1, h));
    wrong = λ ess h. subst (WrongAfter text) (sym (append_assoc g.seen (p.0 ∷ []) ess)) (g.wrong (p.0 ∷ ess) (line, next, some, l, p.1, h));
    few = omega (arith, g.few, line-shorter rest line next some l);
  }

  pub sofar-wrong : LineSays line None → WrongAt text (n + 1)
  sofar-wrong h = (g.seen, subst (WrongAfter text) (append-nil g.seen) (g.wrong [] (line, next, some, l, h)), omega (arith, g.count))

-- the refusal of a line that is wrong
pub line-wrong : (text line old new : List ℕ) (n : ℕ) (r : Result (Unit {0}) Problem) (q : Refusal) → PutsLine line old new r → (LineSays line None → WrongAt text n)
    → MatchResult r (λ _. ⊥) (λ p. q ≡ record { line = n; problem = p }) → Blames q.problem (WrongAt text q.line)
line-wrong text line old new n (Ok u) q h wrong e = absurd e
line-wrong text line old new n (Err p) q h wrong e = rw e (blames p wrong h)

pub sofar-end : (text rest : List ℕ) (n : ℕ) (out : List ℕ) → Sofar text rest n out → length rest ≡ 0 → (ess : List (List Event)) × TextSays text ess × (out ≡ encode_all (all_events ess))
sofar-end text rest n out g z = (g.seen, subst (TextSays text) (append-nil g.seen) (g.says [] z), g.items)
