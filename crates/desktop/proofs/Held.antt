-- A word that points into the clipboard's list says the same of the whole array that holds it.
use Rattle.std.proofs.Common.{◌≡◌, ℕ, zero, suc, ◌+◌, ◌*◌, ◌-◌, ◌<◌, ◌≤◌, true, List, [], ◌∷◌, length, take, drop, min, Some, None, Option, sym, refl, ap, ◌∙◌, arith}
use Rattle.std.proofs.lemmas.Bool.{leb-true}
use Rattle.std.proofs.lemmas.List.{drop-take, length-take}
use Rattle.model.specs.Desk as desk
use Rattle.protocol.specs.Fields.{number, numbers}
use Rattle.protocol.specs.Meaning.{part, lies, word_meaning, word_had}
use Rattle.protocol.specs.declared.types.Part.{Part}
use Rattle.protocol.specs.declared.types.Word.{Word}
use Rattle.protocol.specs.declared.types.Word.TheVariants.{No, Done, Made, At, Pressed, Typed, Pasted}
use Rattle.layout.specs.State.{clip_in}
use Rattle.layout.specs.declared.state.State.{State}
use Rattle.desktop.specs.Does.{told_of, told_had}
use Rattle.desktop.specs.declared.told.Told.{Told}

numbers-take : (n k : ℕ) (xs : List ℕ) → n ≤ k → numbers 1 n (take k xs) ≡ numbers 1 n xs
unfolding numbers number
numbers-take zero k xs h = refl
numbers-take (suc n) zero xs h = absurd (let z : ⊥ = omega (arith, h) in z)
numbers-take (suc n) (suc k) [] h = refl
numbers-take (suc n) (suc k) (x ∷ xs) h = ap (λ l. (x + 0) ∷ l) (numbers-take n k xs (omega (arith, h)))

part-take : (xs : List ℕ) (l : ℕ) (q : Part) → lies 1 (take l xs) q ≡ true → part 1 xs q ≡ part 1 (take l xs) q
part-take xs l q h =
    let b : q.from + 1 * q.count ≤ length (take l xs) = leb-true _ _ h in
    let n : length (take l xs) ≡ min l (length xs) = length-take l xs in
    let m : q.from + q.count ≤ l = omega (arith, b, n) in
    let e : l ≡ q.from + (l - q.from) = omega (arith, m) in
    sym (ap (λ k. numbers 1 q.count (drop q.from (take k xs))) e ∙ ap (numbers 1 q.count) (drop-take q.from (l - q.from) xs) ∙ numbers-take q.count (l - q.from) (drop q.from xs) (omega (arith, m)))

word-take : (xs : List ℕ) (l : ℕ) (w : Word) → word_had (take l xs) w ≡ true → word_meaning xs w ≡ word_meaning (take l xs) w
word-take xs l No h = refl
word-take xs l Done h = refl
word-take xs l (Made n) h = refl
word-take xs l (At n x y) h = refl
word-take xs l (Pressed n b) h = refl
word-take xs l (Typed n k) h = refl
word-take xs l (Pasted n q) h = ap (desk.pasted n) (part-take xs l q h)

pub held-told : (s : State) (r : Option Told) → told_had (clip_in s) r ≡ true → told_of s.clip.bytes.items r ≡ told_of (clip_in s) r
held-told s None h = refl
held-told s (Some t) h = ap (λ w. (t.program, w) ∷ []) (word-take s.clip.bytes.items s.clip.bytes.len t.word h)
