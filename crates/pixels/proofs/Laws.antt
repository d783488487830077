-- What callers conclude: when a box fits, and what became of the pictures that were painted, left alone or moved.
use Rattle.std.proofs.Common.{◌≡◌, ℕ, ◌+◌, ◌-◌, ◌*◌, ◌<◌, ◌≤◌, true, ◌&&◌, ltb, ◌⊎◌, List, ◌++◌, map, length, get_or, take, drop, sym, ◌∙◌, inl, inr, arith, ext_get_or, rules}
use mathlib.Core.Path.{fun_ext}
use Rattle.std.proofs.lemmas.List.{places}
use Rattle.std.specs.List.{range_with_len}
use Rattle.std.proofs.lemmas.List.FromFn.{length-map-range_with_len, get_or-map-range_with_len}
use Rattle.std.proofs.lemmas.Nat.{mul-add-lt}
use Rattle.std.proofs.lemmas.Bool.{and_parts, and_from, le-leb, cases_Bool, cases_lt, ltb-true, lt-ltb, le-ltb, and_left, and_right}
use Rattle.model.specs.Basics.{pick, in_run}
use Rattle.pixels.specs.declared.Picture.{Picture}
use Rattle.pixels.specs.declared.Area.{Area}
use Rattle.pixels.specs.declared.Span.{Span}
use Rattle.pixels.specs.Runs.{Changed, run_fits, shift_fits}
use Rattle.pixels.specs.Pictures.{place, dots_of, fits, copy_fits, out_fits, area_of, Painted}
use Rattle.pixels.specs.Colours.{colour_at, colours_in, put_fits}
use Rattle.pixels.proofs.Runs.{in_run-yes, in_run-below, in_run-above, in_run-apart}

-- a box of a picture of a slice fits
pub fits-yes : (p : Picture) (a : Area) (len : ℕ) → p.at + p.wide * p.high ≤ len → a.x + a.wide ≤ p.wide → a.y + a.high ≤ p.high → fits p a len ≡ true
fits-yes p a len h u v = and_from _ _ (le-leb _ _ h) (and_from _ _ (le-leb _ _ u) (le-leb _ _ v))

pub run-fits-yes : (lo n len : ℕ) → lo + n ≤ len → run_fits lo n len ≡ true
run-fits-yes lo n len h = le-leb (lo + n) len h

-- and so with what the other requests ask for
pub shift-fits-yes : (from to n len : ℕ) → from + n ≤ len → to + n ≤ len → shift_fits from to n len ≡ true
shift-fits-yes from to n len h k = and_from _ _ (le-leb (from + n) len h) (le-leb (to + n) len k)

pub copy_fits-yes : (p : Picture) (s : Area) (a b len : ℕ) → p.at + p.wide * p.high ≤ len → s.x + s.wide ≤ p.wide → s.y + s.high ≤ p.high →
    a + s.wide ≤ p.wide → b + s.high ≤ p.high → copy_fits p s a b len ≡ true
copy_fits-yes p s a b len h u v k l = and_from _ _ (fits-yes p s len h u v) (and_from _ _ (le-leb _ _ k) (le-leb _ _ l))

pub put_fits-yes : (p : Picture) (s : Span) (len from bytes : ℕ) → p.at + p.wide * p.high ≤ len → s.x + s.wide ≤ p.wide → s.y < p.high →
    from + 4 * s.wide ≤ bytes → put_fits p s len from bytes ≡ true
put_fits-yes p s len from bytes h u v k = and_from _ _ (fits-yes p (area_of s) len h u (omega arith)) (le-leb _ _ k)

pub out_fits-yes : (p : Picture) (s : Span) (len to room : ℕ) → p.at + p.wide * p.high ≤ len → s.x + s.wide ≤ p.wide → s.y < p.high →
    to + s.wide ≤ room → out_fits p s len to room ≡ true
out_fits-yes p s len to room h u v k = and_from _ _ (fits-yes p (area_of s) len h u (omega arith)) (le-leb _ _ k)

-- a dot of a picture, where it lies
pub dot-inside : (l : List ℕ) (at wide high i j : ℕ) → i < wide → j < high → dots_of l at wide high i j ≡ get_or l (place at wide i j) 0
unfolding dots_of
dot-inside l at wide high i j h k = rw (lt-ltb i wide h, lt-ltb j high k)

-- and outside
pub dot-outside : (l : List ℕ) (at wide high i j : ℕ) → (wide ≤ i) ⊎ (high ≤ j) → dots_of l at wide high i j ≡ 0
unfolding dots_of
dot-outside l at wide high i j (inl h) = rw (and_left (ltb i wide) (ltb j high) (le-ltb i wide h))
dot-outside l at wide high i j (inr h) = rw (and_right (ltb i wide) (ltb j high) (le-ltb j high h))

-- two slices give a picture the same dots where they agree on every place of it
pub same-dots : (p q : List ℕ) (at to wide high : ℕ) →
    ((k : ℕ) → k < wide * high → get_or q (to + k) 0 ≡ get_or p (at + k) 0) → dots_of q to wide high ≡ dots_of p at wide high
unfolding dots_of
same-dots p q at to wide high h = fun_ext (λ i. fun_ext (λ j. at-dot i j))
  where
    at-dot : (i j : ℕ) → pick (ltb i wide && ltb j high) (get_or q (place to wide i j) 0) 0 ≡ pick (ltb i wide && ltb j high) (get_or p (place at wide i j) 0) 0
    at-dot i j =
        elim (cases_Bool (ltb i wide && ltb j high)) [
          | inl b ↦
              let c = and_parts (ltb i wide) (ltb j high) b in
              let m = mul-add-lt j wide i high (ltb-true j high c.1) (ltb-true i wide c.0) in
              let e : to + (j * wide + i) ≡ place to wide i j = omega arith in
              let d : at + (j * wide + i) ≡ place at wide i j = omega arith in
              rw b (rw (e, d) at (h (j * wide + i) m))
          | inr b ↦ rw b
        ]

-- the dots of a painted picture, as one function
pub painted-dots : (p : Picture) (paint : (ℕ → ℕ → ℕ) → ℕ → ℕ → ℕ) (old new : List ℕ) → Painted p paint old new →
    dots_of new p.at p.wide p.high ≡ paint (dots_of old p.at p.wide p.high)
painted-dots p paint old new h = fun_ext (λ i. fun_ext (λ j. h.dots i j))

-- a picture that lies apart from the one that was painted has the dots that it had
pub apart-same : (p : Picture) (paint : (ℕ → ℕ → ℕ) → ℕ → ℕ → ℕ) (old new : List ℕ) (at wide high : ℕ) → Painted p paint old new →
    (at + wide * high ≤ p.at) ⊎ (p.at + p.wide * p.high ≤ at) → dots_of new at wide high ≡ dots_of old at wide high
apart-same p paint old new at wide high h o =
    same-dots old new at at wide high (λ k l. h.others (at + k) (elim o [ inl a ↦ inl (omega arith) | inr a ↦ inr (omega arith) ]))

-- a picture that lies apart from a run that was written has the dots that it had
pub changed-apart : (lo n : ℕ) (f : ℕ → ℕ) (old new : List ℕ) (at wide high : ℕ) → Changed lo n f old new →
    (at + wide * high ≤ lo) ⊎ (lo + n ≤ at) → dots_of new at wide high ≡ dots_of old at wide high
changed-apart lo n f old new at wide high h o =
    same-dots old new at at wide high
    (λ k l. h.places (at + k) ∙ rw (in_run-apart lo n (at + k) lo (lo + n) (omega arith) (omega arith) (elim o [ inl a ↦ inl (omega arith) | inr a ↦ inr (omega arith) ])))

-- a picture in a run that was made 0 is 0 at every dot
pub cleared-dots : (lo n : ℕ) (old new : List ℕ) (at wide high : ℕ) → Changed lo n (λ _. 0) old new →
    lo ≤ at → at + wide * high ≤ lo + n → dots_of new at wide high ≡ (λ i j. 0)
unfolding dots_of
cleared-dots lo n old new at wide high h a b = fun_ext (λ i. fun_ext (λ j. at-dot i j))
  where
    at-dot : (i j : ℕ) → pick (ltb i wide && ltb j high) (get_or new (place at wide i j) 0) 0 ≡ 0
    at-dot i j =
        elim (cases_Bool (ltb i wide && ltb j high)) [
          | inl t ↦
              let c = and_parts (ltb i wide) (ltb j high) t in
              let m = mul-add-lt j wide i high (ltb-true j high c.1) (ltb-true i wide c.0) in
              rw t (h.places (place at wide i j) ∙ rw (in_run-yes lo n (place at wide i j) (omega arith) (omega arith)))
          | inr t ↦ rw t
        ]

-- a picture in a run that was moved has its dots at its new place
pub moved-dots : (from to n : ℕ) (old new : List ℕ) (at wide high : ℕ) → Changed to n (λ k. get_or old (from + (k - to)) 0) old new →
    from ≤ at → at + wide * high ≤ from + n → dots_of new (to + (at - from)) wide high ≡ dots_of old at wide high
moved-dots from to n old new at wide high h a b =
    same-dots old new at (to + (at - from)) wide high
    (λ k l.
    let e : from + (((to + (at - from)) + k) - to) ≡ at + k = omega arith in
    h.places ((to + (at - from)) + k) ∙ rw (in_run-yes to n ((to + (at - from)) + k) (omega arith) (omega arith), e))

-- the whole slice after a run was written, as lists: what lay before, the run, what lies behind
pub changed-list : (lo n : ℕ) (f : ℕ → ℕ) (old new ys : List ℕ) → lo + n ≤ length old → length ys ≡ n → ((k : ℕ) → k < n → get_or ys k 0 ≡ f (lo + k)) →
    Changed lo n f old new → new ≡ take lo old ++ (ys ++ drop (lo + n) old)
changed-list lo n f old new ys h l g q = ext_get_or 0 new (take lo old ++ (ys ++ drop (lo + n) old)) (q.len ∙ whole) (λ k b. q.places k ∙ by k (omega (arith, q.len)) (cases_lt k lo) (cases_lt k (lo + n)))
  where
    whole : length old ≡ length (take lo old ++ (ys ++ drop (lo + n) old))
    whole = search (rules, places)

    by : (k : ℕ) → k < length old → (k < lo) ⊎ (lo ≤ k) → (k < lo + n) ⊎ (lo + n ≤ k) →
        pick (in_run lo n k) (f k) (get_or old k 0) ≡ get_or (take lo old ++ (ys ++ drop (lo + n) old)) k 0
    by k b (inl c) d = rw (in_run-below lo n k c) (search (rules, places))
    by k b (inr c) (inl d) =
        let e : lo + (k - lo) ≡ k = omega arith in
        let z : get_or ys (k - lo) 0 ≡ f k = rw e at (g (k - lo) (omega arith)) in
        let t : get_or (take lo old ++ (ys ++ drop (lo + n) old)) k 0 ≡ get_or ys (k - lo) 0 = search (rules, places) in
        rw (in_run-yes lo n k c d) (sym (t ∙ z))
    by k b (inr c) (inr d) = rw (in_run-above lo n k d) (search (rules, places))

-- the same of a span that was written elsewhere
pub out-list : (p : Picture) (s : Span) (to : ℕ) (dots old new : List ℕ) → to + s.wide ≤ length old →
    Changed to s.wide (λ k. dots_of dots p.at p.wide p.high (s.x + (k - to)) s.y) old new →
    new ≡ take to old ++ (map (λ k. dots_of dots p.at p.wide p.high (s.x + k) s.y) (range_with_len 0 s.wide) ++ drop (to + s.wide) old)
out-list p s to dots old new h q =
    changed-list to s.wide (λ k. dots_of dots p.at p.wide p.high (s.x + (k - to)) s.y) old new (map row (range_with_len 0 s.wide)) h (length-map-range_with_len row 0 s.wide)
    (λ k l. let e : (to + k) - to ≡ k = omega arith in rw e (get_or-map-range_with_len row 0 s.wide k k 0 l (omega arith))) q
  where
    row : ℕ → ℕ
    row k = dots_of dots p.at p.wide p.high (s.x + k) s.y

-- how many colours there are, and which
pub colours-length : (bytes : List ℕ) (from count : ℕ) → length (colours_in bytes from count) ≡ count
unfolding colours_in
colours-length bytes from count = length-map-range_with_len (λ k. colour_at bytes (from + 4 * k)) 0 count

pub colours-place : (bytes : List ℕ) (from count k : ℕ) → k < count → get_or (colours_in bytes from count) k 0 ≡ colour_at bytes (from + 4 * k)
unfolding colours_in
colours-place bytes from count k h = get_or-map-range_with_len (λ n. colour_at bytes (from + 4 * n)) 0 count k k 0 h (omega arith)
