-- A span of a picture: a row of colours put there, and its dots written elsewhere.
use Rattle.std.proofs.Common.{◌≡◌, ℕ, ◌+◌, ◌-◌, ◌<◌, ◌≤◌, ◌||◌, eqb, List, length, get_or, sym, refl, ◌∙◌, inl, inr, arith}
use Rattle.std.proofs.lemmas.Bool.{cases_Bool}
use Rattle.std.proofs.lemmas.Bool.Decides.{nat_tests}
use Rattle.model.specs.Basics.{pick, in_run}
use Rattle.pixels.specs.declared.Picture.{Picture}
use Rattle.pixels.specs.Runs.{Changed}
use Rattle.pixels.specs.Pictures.{place, dots_of, Painted, put_in}
use Rattle.pixels.proofs.Runs.{in_run-parts}
use Rattle.pixels.proofs.Rows.{Rows, rows_none, rows_more, rows_all}
use Rattle.pixels.proofs.Laws.{dot-inside}

one-row : (y j : ℕ) → in_run y 1 j ≡ (eqb j y || in_run y 0 j)
one-row y j = grind (arith, nat_tests)

pub put-painted : (p : Picture) (x y : ℕ) (colours old new : List ℕ) → x + length colours ≤ p.wide → y + 1 ≤ p.high →
    Changed (place p.at p.wide x y) (length colours) (λ k. get_or colours (k - place p.at p.wide x y) 0) old new →
    Painted p (put_in x y colours) old new
put-painted p x y colours old new u v q =
    record {
      dots = rows_all p.at p.wide p.high x y (length colours) 1 (λ i j. get_or colours (i - x) 0) (λ i j. get_or colours (i - x) 0) old new u v rows (λ i j a b c d. refl);
      others = rows.others;
      len = rows.len;
    }
  where
    rows : Rows p.at p.wide p.high x (length colours) y 1 (λ i j. get_or colours (i - x) 0) old new
    rows =
        rows_more p.at p.wide p.high x (length colours) y 0 y 1 y (λ i j. get_or colours (i - x) 0) (λ k. get_or colours (k - place p.at p.wide x y) 0) old old new u (omega arith) (one-row y)
        (rows_none p.at p.wide p.high x (length colours) y (λ i j. get_or colours (i - x) 0) old) q
        (λ i a b. let e : place p.at p.wide i y - place p.at p.wide x y ≡ i - x = omega arith in rw e)

-- the same run, with other words for what it became
changed-like : (lo n : ℕ) (f f' : ℕ → ℕ) (old new : List ℕ) → ((k : ℕ) → lo ≤ k → k < lo + n → f k ≡ f' k) → Changed lo n f old new → Changed lo n f' old new
changed-like lo n f f' old new e q = record { places = λ k. q.places k ∙ by k; len = q.len }
  where
    by : (k : ℕ) → pick (in_run lo n k) (f k) (get_or old k 0) ≡ pick (in_run lo n k) (f' k) (get_or old k 0)
    by k = elim (cases_Bool (in_run lo n k)) [ inl b ↦ let h = in_run-parts lo n k b in rw b (e k h.0 h.1) | inr b ↦ rw b ]

pub span-copied : (p : Picture) (x y w to : ℕ) (dots old new : List ℕ) → x + w ≤ p.wide → y + 1 ≤ p.high →
    Changed to w (λ k. get_or dots (place p.at p.wide x y + (k - to)) 0) old new →
    Changed to w (λ k. dots_of dots p.at p.wide p.high (x + (k - to)) y) old new
span-copied p x y w to dots old new u v =
    changed-like to w (λ k. get_or dots (place p.at p.wide x y + (k - to)) 0) (λ k. dots_of dots p.at p.wide p.high (x + (k - to)) y) old new
    (λ k a b.
    let e : place p.at p.wide x y + (k - to) ≡ place p.at p.wide (x + (k - to)) y = omega arith in
    rw e (sym (dot-inside dots p.at p.wide p.high (x + (k - to)) y (omega arith) (omega arith))))
