-- Bytes in words: what a loop over them has read or written.
use Rattle.std.proofs.Common.{◌≡◌, ℕ, ◌+◌, ◌-◌, ◌*◌, ◌/◌, ◌%◌, ◌<◌, ◌≤◌, List, map, length, get_or, take, drop, set, sym, ap, ◌∙◌, inl, inr, arith}
use Rattle.std.specs.List.{range_with_len}
use borrow.Rule.Slice.PartMut.{put_mid}
use Rattle.std.proofs.lemmas.List.{get_or-set_same, get_or-set_other, get_or-take, get_or-drop, length-take-le, length-drop, ext_get_or}
use Rattle.std.proofs.lemmas.Slice.{drop-put_mid}
use Rattle.std.proofs.lemmas.List.FromFn.{fill_by_all, length-map-range_with_len, get_or-map-range_with_len}
use Rattle.std.proofs.lemmas.Bool.{cases_lt}
use Rattle.layout.specs.Head.{byte_of, byte_in, bytes_in}

-- a list whose first n elements are known
pub known-front : {X : Type 0} (f : ℕ → X) (xs : List X) (n : ℕ) (d : X) → n ≤ length xs → ((k : ℕ) → k < n → get_or xs k d ≡ f k) → take n xs ≡ map f (range_with_len 0 n)
known-front f xs n d h e = fill_by_all f (take n xs) n d (length-take-le n xs h) (λ k l. get_or-take n xs k d l ∙ e k l)

-- one word more is written
pub word_more : (work bytes : List ℕ) (at n v count : ℕ) → at + n < length work → ((k : ℕ) → k < 4 * n → k < count → byte_in work at k ≡ get_or bytes k 0) →
    ((j : ℕ) → j < 4 → 4 * n + j < count → byte_of v j ≡ get_or bytes (4 * n + j) 0) →
    (k : ℕ) → k < 4 * (n + 1) → k < count → byte_in (set work (at + n) v) at k ≡ get_or bytes k 0
word_more work bytes at n v count h below here k l m =
    elim (cases_lt k (4 * n)) [
      | inl q ↦ ap (λ w. byte_of w (k % 4)) (get_or-set_other work (at + n) (at + k / 4) v 0 (λ e. omega arith)) ∙ below k q m
      | inr q ↦
          let a : k / 4 ≡ n = omega arith in
          let b : 4 * n + k % 4 ≡ k = omega arith in
          ap (λ i. byte_of (get_or (set work (at + n) v) (at + i) 0) (k % 4)) a ∙ ap (λ w. byte_of w (k % 4)) (get_or-set_same work (at + n) v 0 h)
          ∙ here (k % 4) (omega arith) (omega arith) ∙ ap (λ i. get_or bytes i 0) b
    ]

-- what lies behind a front that was written
pub behind-front : (front work : List ℕ) (k : ℕ) → length front ≤ k → length front ≤ length work → get_or (put_mid 0 (length front - 0) work front) k 0 ≡ get_or work k 0
behind-front front work k h l =
    let d : drop k (put_mid 0 (length front - 0) work front) ≡ drop k work = drop-put_mid 0 (length front - 0) work front k (omega arith) (omega arith) (omega arith) in
    same-behind k (put_mid 0 (length front - 0) work front) work k d (omega arith)
  where
    same-behind : (n : ℕ) (xs ys : List ℕ) (i : ℕ) → drop n xs ≡ drop n ys → n ≤ i → get_or xs i 0 ≡ get_or ys i 0
    same-behind n xs ys i e q =
        let m : n + (i - n) ≡ i = omega arith in
        sym (ap (λ j. get_or xs j 0) m) ∙ sym (get_or-drop n xs (i - n) 0) ∙ ap (λ l. get_or l (i - n) 0) e ∙ get_or-drop n ys (i - n) 0 ∙ ap (λ j. get_or ys j 0) m

-- lists that agree from a place on
pub drop-same : (n : ℕ) (xs ys : List ℕ) → length xs ≡ length ys → ((k : ℕ) → n ≤ k → get_or xs k 0 ≡ get_or ys k 0) → drop n xs ≡ drop n ys
drop-same n xs ys e h =
    ext_get_or 0 (drop n xs) (drop n ys) (length-drop n xs ∙ ap (λ m. m - n) e ∙ sym (length-drop n ys))
    (λ i l. get_or-drop n xs i 0 ∙ h (n + i) (omega arith) ∙ sym (get_or-drop n ys i 0))

-- two lists made by functions that agree
pub map_same : {X : Type 0} (f g : ℕ → X) (n : ℕ) (d : X) → ((k : ℕ) → k < n → f k ≡ g k) → map f (range_with_len 0 n) ≡ map g (range_with_len 0 n)
map_same f g n d h =
    fill_by_all g (map f (range_with_len 0 n)) n d (length-map-range_with_len f 0 n) (λ k l. get_or-map-range_with_len f 0 n k k d l (omega arith) ∙ h k l)

-- bytes are told by the words that hold them
pub bytes_same : (v w : List ℕ) (at n : ℕ) → ((k : ℕ) → at ≤ k → k < at + (n + 3) / 4 → get_or v k 0 ≡ get_or w k 0) → bytes_in v at n ≡ bytes_in w at n
bytes_same v w at n h = map_same (byte_in v at) (byte_in w at) n 0 (λ k l. ap (λ x. byte_of x (k % 4)) (h (at + k / 4) (omega arith) (omega arith)))
