-- What the library's reader of digits answers, and `in_base`.
use Rattle.std.proofs.Common.{◌≡◌, ℕ, ◌^◌, ◌<◌, ◌≤◌, Bool, true, false, ◌&&◌, eqb, ltb, leb, List, [], ◌∷◌, ◌++◌, length, get_or, take, drop, pos, neg_ℤ, Some, None, Option, Ok, Err, Result, codes, sym, refl, ap, ◌∙◌, subst, arith, take-append-drop}
use Rattle.std.specs.Bool.{then_some}
use Rattle.std.specs.Option.{option_map, MatchOption}
use Rattle.std.specs.Result.{result_ok}
use Rattle.std.specs.Str.Parse.{digits_value, without_leading_plus, AllDigits, IsNumeral, ParsesUnsigned}
use Rattle.std.specs.Char.{digit_value}
use Rattle.std.proofs.lemmas.Slice.Eq.{bytes_eq-Decides}
use Rattle.std.proofs.lemmas.Bool.{ltb-true, leb-true, leb-false, and_parts, ne_eqb}
use Rattle.std.proofs.lemmas.Option.{MatchOption-at_some, MatchOption-at_none}
use Rattle.std.proofs.lemmas.Bool.Decides.{nat_tests}
use Rattle.model.specs.Basics.{pick}
use Rattle.script.specs.Numerals.{all_digits, in_base, begins_hex, plain_number, signed_number}

digits-true : (b : ℕ) (ds : List ℕ) → AllDigits b ds → all_digits b ds ≡ true
digits-true b [] h = refl
digits-true b (c ∷ cs) h = let e = digits-true b cs h.1 in let l : digit_value c < b = h.0 in grind (arith, nat_tests)

true-digits : (b : ℕ) (ds : List ℕ) → all_digits b ds ≡ true → AllDigits b ds
true-digits b [] h = tt
true-digits b (c ∷ cs) h = let l : digit_value c < b = grind (arith, nat_tests) in let e : all_digits b cs ≡ true = grind (arith, nat_tests) in (l, true-digits b cs e)

pub in_base-ok : (base most : ℕ) (ds : List ℕ) (n : ℕ) → IsNumeral base ds → n ≡ digits_value base ds → n ≤ most → Some n ≡ in_base base most ds
unfolding in_base
in_base-ok base most ds n h e l = let d = digits-true base ds h.1 in let s : 0 < length ds = h.0 in rw (e, d) (grind (arith, nat_tests))

-- where a test of `in_base` fails
in_base-not : (base most : ℕ) (ds : List ℕ) → (0 < length ds → all_digits base ds ≡ true → digits_value base ds ≤ most → ⊥) → None ≡ in_base base most ds
unfolding in_base
in_base-not base most ds wrong = by (ltb 0 (length ds)) (all_digits base ds) (leb (digits_value base ds) most) refl refl refl
  where
    by : (a b c : Bool) → ltb 0 (length ds) ≡ a → all_digits base ds ≡ b → leb (digits_value base ds) most ≡ c → None ≡ pick (a && (b && c)) (Some (digits_value base ds)) None
    by true true true p q r = absurd (wrong (ltb-true _ _ p) q (leb-true _ _ r))
    by true true false p q r = refl
    by true false c p q r = refl
    by false b c p q r = refl

pub in_base-high : (base most : ℕ) (ds : List ℕ) (n : ℕ) → n ≡ digits_value base ds → most < n → None ≡ in_base base most ds
in_base-high base most ds n e l = in_base-not base most ds (λ s d h. omega arith)

pub in_base-none : (base most : ℕ) (ds : List ℕ) → most < 2 ^ 32 → (IsNumeral base ds × (digits_value base ds < 2 ^ 32) → ⊥) → None ≡ in_base base most ds
in_base-none base most ds l wrong = in_base-not base most ds (λ s d h. wrong ((s, true-digits base ds d), omega arith))

pub in_base-plus : (base most : ℕ) (ds : List ℕ) → get_or ds 0 0 ≡ 43 → base ≤ 16 → None ≡ in_base base most ds
in_base-plus base most [] e l = in_base-not base most [] (λ s d h. omega arith)
in_base-plus base most (c ∷ cs) e l = in_base-not base most (c ∷ cs) (λ s d h.
    let q : digit_value c < base = ltb-true _ _ (and_parts _ _ d).0 in
    let z : digit_value 43 < base = subst (λ x. digit_value x < base) e q in omega arith)

-- what is kept of the library's reading of digits with no sign
pub in_base-kept : {E : Type 0} (base most : ℕ) (ds : List ℕ) (r : Result ℕ E) (o got : Option ℕ) → most < 2 ^ 32 → without_leading_plus ds ≡ ds
    → ParsesUnsigned 32 base ds r → o ≡ result_ok r → MatchOption o (got ≡ None) (λ x. got ≡ then_some (leb x most) x) → got ≡ in_base base most ds
in_base-kept base most ds (Ok n) o got l e p q h = MatchOption-at_some _ (λ x. got ≡ then_some (leb x most) x) n q h ∙ by (leb n most) refl
  where
    num : IsNumeral base ds
    num = subst (λ t. IsNumeral base t) e p.0.0

    val : n ≡ digits_value base ds
    val = subst (λ t. n ≡ digits_value base t) e p.1

    by : (b : Bool) → leb n most ≡ b → then_some b n ≡ in_base base most ds
    by true t = in_base-ok base most ds n num val (leb-true _ _ t)
    by false t = in_base-high base most ds n val (leb-false _ _ t)
in_base-kept base most ds (Err x) o got l e p q h =
    MatchOption-at_none _ (λ x. got ≡ then_some (leb x most) x) q h
    ∙ in_base-none base most ds l (subst (λ t. IsNumeral base t × (digits_value base t < 2 ^ 32) → ⊥) e p)

hex-yes : (w rest : List ℕ) → w ≡ codes "0x" ++ rest → begins_hex w ≡ true
hex-yes w rest e = subst (λ x. begins_hex x ≡ true) (sym e) refl

hex-no : (w : List ℕ) → ((rest : List ℕ) → w ≡ codes "0x" ++ rest → ⊥) → begins_hex w ≡ false
hex-no w wrong = by (begins_hex w) refl
  where
    by : (b : Bool) → begins_hex w ≡ b → b ≡ false
    by true e = absurd (wrong (drop 2 w) (sym (take-append-drop 2 w) ∙ ap (λ l. l ++ drop 2 w) ((bytes_eq-Decides (take 2 w) (codes "0x")).0 e)))
    by false e = refl

pub plain-hex : (most : ℕ) (w rest : List ℕ) (n : ℕ) → n ≡ 2 → w ≡ codes "0x" ++ drop n w → rest ≡ drop n w → in_base 16 most rest ≡ plain_number most w
unfolding plain_number
plain-hex most w rest n two e r =
    subst (λ b. in_base 16 most rest ≡ pick b (in_base 16 most (drop 2 w)) (in_base 10 most w)) (sym (hex-yes w (drop n w) e))
    (ap (in_base 16 most) (r ∙ ap (λ k. drop k w) two))

pub plain-decimal : (most : ℕ) (w : List ℕ) → ((rest : List ℕ) → w ≡ codes "0x" ++ rest → ⊥) → in_base 10 most w ≡ plain_number most w
unfolding plain_number
plain-decimal most w wrong = subst (λ b. in_base 10 most w ≡ pick b (in_base 16 most (drop 2 w)) (in_base 10 most w)) (sym (hex-no w wrong)) refl

pub signed-minus : (w rest : List ℕ) → w ≡ 45 ∷ rest → option_map (λ n. neg_ℤ (pos n)) (plain_number 32768 rest) ≡ signed_number w
unfolding signed_number
signed-minus w rest e = subst (λ x. option_map (λ n. neg_ℤ (pos n)) (plain_number 32768 rest) ≡ signed_number x) (sym e) refl

pub signed-plain : (w : List ℕ) → ((rest : List ℕ) → w ≡ 45 ∷ rest → ⊥) → option_map (λ n. pos n) (plain_number 32767 w) ≡ signed_number w
unfolding signed_number
signed-plain [] wrong = refl
signed-plain (c ∷ cs) wrong =
    let e : eqb c 45 ≡ false = ne_eqb c 45 (λ h. wrong cs (ap (λ x. x ∷ cs) h)) in
    subst (λ b. option_map (λ n. pos n) (plain_number 32767 (c ∷ cs)) ≡ pick b (option_map (λ n. neg_ℤ (pos n)) (plain_number 32768 cs)) (option_map (λ n. pos n) (plain_number 32767 (c ∷ cs)))) (sym e) refl
