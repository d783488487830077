-- What is told: whether it grants, and how many bytes it has.
use Rattle.std.proofs.Common.{◌≡◌, ℕ, zero, suc, ◌+◌, ◌≤◌, Bool, true, false, ◌&&◌, eqb, leb, List, [], ◌∷◌, ◌++◌, length, take, ℤ, Some, None, Option, sym, refl, ap, ◌∙◌, le_refl, arith, lit≤}
use Rattle.std.proofs.lemmas.Bool.{le-leb}
use Rattle.std.proofs.lemmas.List.{length-append, length-take, append-nil}
use Rattle.protocol.specs.Fields.{all_digits}
use Rattle.protocol.proofs.Rows.{length-all-digits}
use Rattle.layout.specs.Sizes.{sizes_of}
use Rattle.layout.specs.State.{desk_of, clip_in}
use Rattle.layout.specs.declared.sizes.Sizes as layout
use Rattle.layout.specs.declared.state.State.{State}
use Rattle.desktop.proofs.Carrying.{does-is}
use Rattle.model.specs.Basics.{pick}
use Rattle.model.specs.Desk as desk
use Rattle.model.specs.Desk.{Desk, Sizes, Event, after, does, made, done, no, at, pressed, typed, pasted, make, close, move, raise, show, fill, put, copy, offer, point, press, key, paste, told_place, press_down, press_up, told_key, told_clip}
use Rattle.model.specs.System.{taken}
use Rattle.model.proofs.Picks.{by-pick}
use Rattle.protocol.specs.Meaning.{meaning, word_meaning, word_had}
use Rattle.protocol.specs.Added.{Added}
use Rattle.protocol.proofs.Adding.{added-last}
use Rattle.protocol.specs.Formats.{encode_word}
use Rattle.protocol.specs.declared.types.Word.{Word}
use Rattle.protocol.specs.declared.types.Word.TheVariants.{No, Done, Made, At, Pressed, Typed, Pasted}
use Rattle.desktop.specs.Does.{Carried, told_of, told_had}
use Rattle.damage.specs.Step.{Step}
use Rattle.protocol.specs.declared.types.Event as protocol
use Rattle.desktop.specs.declared.told.Told.{Told}
use Rattle.server.specs.Told.{told_bytes}
use Rattle.server.specs.Step.{grants, granted_by}

-- the same of words of the desk: all but no grant
abbrev grants-it : desk.Word → Bool
grants-it (made n) = true
grants-it done = true
grants-it no = false
grants-it (at n x y) = true
grants-it (pressed n b) = true
grants-it (typed n k) = true
grants-it (pasted n l) = true

abbrev all-grant : List (ℕ × desk.Word) → Bool
all-grant [] = true
all-grant (m ∷ ms) = grants-it m.1

grants-is : (bs : List ℕ) (w : Word) → grants w ≡ grants-it (word_meaning bs w)
grants-is bs No = refl
grants-is bs Done = refl
grants-is bs (Made n) = refl
grants-is bs (At n x y) = refl
grants-is bs (Pressed n b) = refl
grants-is bs (Typed n k) = refl
grants-is bs (Pasted n l) = refl

granted-is : (bs : List ℕ) (r : Option Told) → granted_by r ≡ all-grant (told_of bs r)
granted-is bs None = refl
granted-is bs (Some t) = grants-is bs t.word

-- a request that is picked by a test is granted by it
picked : (b : Bool) (d d' : Desk) (c : ℕ) (w : desk.Word) → grants-it w ≡ true → all-grant (pick {A = Desk × List (ℕ × desk.Word)} b (d, (c, w) ∷ []) (d', (c, no) ∷ [])).1 ≡ b
picked true d d' c w g = g
picked false d d' c w g = refl

place-grants : (d : Desk) (x y : ℤ) (m : ℕ) → all-grant (told_place d x y m) ≡ true
unfolding told_place
place-grants d x y zero = refl
place-grants d x y (suc n) = refl

down-grants : (d : Desk) (m : ℕ) → all-grant (press_down d m).1 ≡ true
unfolding press_down
down-grants d zero = refl
down-grants d (suc n) = refl

up-grants : (d : Desk) (m : ℕ) → all-grant (press_up d m).1 ≡ true
unfolding press_up
up-grants d zero = refl
up-grants d (suc n) = refl

key-grants : (d : Desk) (k m : ℕ) → all-grant (told_key d k m) ≡ true
unfolding told_key
key-grants d k zero = refl
key-grants d k (suc n) = refl

clip-grants : (d : Desk) (m : ℕ) → all-grant (told_clip d m) ≡ true
unfolding told_clip
clip-grants d zero = refl
clip-grants d (suc n) = by-pick (eqb d.clip_of 0) _ _ (λ l. all-grant l ≡ true) (λ _. refl) (λ _. refl)

-- an event is taken if no is not told
pub taken-grants : (z : Sizes) (d : Desk) (e : Event) → all-grant (does z d e).1 ≡ taken z d e
unfolding does taken
taken-grants z d (make c x y w h) = picked _ _ _ c _ refl
taken-grants z d (close c n) = picked _ _ _ c _ refl
taken-grants z d (move c n x y) = picked _ _ _ c _ refl
taken-grants z d (raise c n) = picked _ _ _ c _ refl
taken-grants z d (show c n b) = picked _ _ _ c _ refl
taken-grants z d (fill c n x y w h q) = picked _ _ _ c _ refl
taken-grants z d (put c n x y l) = picked _ _ _ c _ refl
taken-grants z d (copy c n x y w h a b) = picked _ _ _ c _ refl
taken-grants z d (offer c l) = picked _ _ _ c _ refl
taken-grants z d (point x y) = place-grants _ _ _ _
taken-grants z d (press true) = down-grants _ _
taken-grants z d (press false) = up-grants _ _
taken-grants z d (key k) = key-grants _ _ _
taken-grants z d paste = clip-grants _ _

-- a word has few bytes, but for those of the clipboard
abbrev pasted-size : desk.Word → ℕ
pasted-size (made n) = 0
pasted-size done = 0
pasted-size no = 0
pasted-size (at n x y) = 0
pasted-size (pressed n b) = 0
pasted-size (typed n k) = 0
pasted-size (pasted n l) = length l

word_size : (c : ℕ) (w : desk.Word) → length (encode_word c w) ≤ 11 + pasted-size w
word_size c (made n) = lit≤ tt
word_size c done = lit≤ tt
word_size c no = lit≤ tt
word_size c (at n x y) = lit≤ tt
word_size c (pressed n b) = lit≤ tt
word_size c (typed n k) = lit≤ tt
word_size c (pasted n l) = omega (arith, length-append (all_digits 1 l) [], length-all-digits 1 l)

-- words of which none has more bytes of the clipboard than there are, and at most one of them
abbrev Brief : ℕ → List (ℕ × desk.Word) → Type 0
Brief n ms = length (told_bytes ms) ≤ 11 + n

brief-none : (n : ℕ) → Brief n []
unfolding told_bytes
brief-none n = omega arith

brief-one : (n c : ℕ) (w : desk.Word) → pasted-size w ≤ n → Brief n ((c, w) ∷ [])
unfolding told_bytes
brief-one n c w h = omega (arith, length-append (encode_word c w) [], word_size c w)

brief-picked : (n : ℕ) (b : Bool) (d d' : Desk) (c : ℕ) (w : desk.Word) → pasted-size w ≡ 0 → Brief n (pick {A = Desk × List (ℕ × desk.Word)} b (d, (c, w) ∷ []) (d', (c, no) ∷ [])).1
brief-picked n true d d' c w e = brief-one n c w (omega (arith, e))
brief-picked n false d d' c w e = brief-one n c no (omega arith)

place-brief : (d : Desk) (x y : ℤ) (m : ℕ) → Brief (length d.clip) (told_place d x y m)
unfolding told_place
place-brief d x y zero = brief-none _
place-brief d x y (suc n) = brief-one _ _ _ (omega arith)

down-brief : (d : Desk) (m : ℕ) → Brief (length d.clip) (press_down d m).1
unfolding press_down
down-brief d zero = brief-none _
down-brief d (suc n) = brief-one _ _ _ (omega arith)

up-brief : (d : Desk) (m : ℕ) → Brief (length d.clip) (press_up d m).1
unfolding press_up
up-brief d zero = brief-none _
up-brief d (suc n) = brief-one _ _ _ (omega arith)

key-brief : (d : Desk) (k m : ℕ) → Brief (length d.clip) (told_key d k m)
unfolding told_key
key-brief d k zero = brief-none _
key-brief d k (suc n) = brief-one _ _ _ (omega arith)

clip-brief : (d : Desk) (m : ℕ) → Brief (length d.clip) (told_clip d m)
unfolding told_clip
clip-brief d zero = brief-none _
clip-brief d (suc n) = by-pick (eqb d.clip_of 0) _ _ (Brief (length d.clip)) (λ _. brief-none _) (λ _. brief-one _ _ _ (le_refl _))

-- what an event tells has few bytes, but for those of the clipboard
pub told-brief : (z : Sizes) (d : Desk) (e : Event) → Brief (length d.clip) (does z d e).1
unfolding does
told-brief z d (make c x y w h) = brief-picked _ _ _ _ c _ refl
told-brief z d (close c n) = brief-picked _ _ _ _ c _ refl
told-brief z d (move c n x y) = brief-picked _ _ _ _ c _ refl
told-brief z d (raise c n) = brief-picked _ _ _ _ c _ refl
told-brief z d (show c n b) = brief-picked _ _ _ _ c _ refl
told-brief z d (fill c n x y w h q) = brief-picked _ _ _ _ c _ refl
told-brief z d (put c n x y l) = brief-picked _ _ _ _ c _ refl
told-brief z d (copy c n x y w h a b) = brief-picked _ _ _ _ c _ refl
told-brief z d (offer c l) = brief-picked _ _ _ _ c _ refl
told-brief z d (point x y) = place-brief d _ _ _
told-brief z d (press true) = down-brief d _
told-brief z d (press false) = up-brief d _
told-brief z d (key k) = key-brief d _ _
told-brief z d paste = clip-brief d _

-- what was carried out was taken if no is not told
pub granted-taken : (z : layout.Sizes) (s : State) (p : List ℕ) (e : Event) (r : Option Told) → told_of s.clip.bytes.items r ≡ (after (sizes_of z) (desk_of s p) e).1 → granted_by r ≡ taken (sizes_of z) (desk_of s p) e
granted-taken z s p e r h =
    granted-is s.clip.bytes.items r ∙ ap all-grant (h ∙ ap (λ (o : Desk × List (ℕ × desk.Word)). o.1) (does-is z (desk_of s p) e)) ∙ taken-grants (sizes_of z) (desk_of s p) e

-- what was carried out is a step from one state to the other
pub stepped : (z : layout.Sizes) (e : protocol.Event) (s s' : State) (p p' bs : List ℕ) (r : Option Told) (took : Bool) → took ≡ granted_by r → Carried (sizes_of z) (meaning bs e) s p s' p' r → Step z e took s s' p' bs p
stepped z e s s' p p' bs r took t c = record { desk = c.desk; taken = t ∙ granted-taken z s p (meaning bs e) r c.told }

-- and there is room for it
pub told-room : (z : layout.Sizes) (s : State) (p : List ℕ) (e : Event) (r : Option Told) → told_of (clip_in s) r ≡ (after (sizes_of z) (desk_of s p) e).1 →
    length (told_bytes (told_of (clip_in s) r)) ≤ 8192
told-room z s p e r h =
    let l : length (clip_in s) ≤ 4096 = simp length-take (omega (arith, s.clip.bytes.most)) in
    omega (arith, told-brief (sizes_of z) (desk_of s p) e, ap (λ (o : List (ℕ × desk.Word)). length (told_bytes o)) (h ∙ ap (λ (o : Desk × List (ℕ × desk.Word)). o.1) (does-is z (desk_of s p) e)))

-- nothing is told
pub told_none : (from : ℕ) (bs : List ℕ) (r : Option Told) (xs : List ℕ) → r ≡ None → Added from from (told_bytes (told_of bs r)) xs xs
unfolding told_bytes
told_none from bs r xs e = rw e (record { ends = omega arith; front = sym (append-nil (take from xs)); rest = refl })

-- a word is told
pub told-some : (from to : ℕ) (bs : List ℕ) (r : Option Told) (t : Told) (xs ys : List ℕ) → r ≡ Some t → Added from to (encode_word t.program (word_meaning bs t.word)) xs ys → Added from to (told_bytes (told_of bs r)) xs ys
unfolding told_bytes
told-some from to bs r t xs ys e a = rw e (added-last from to _ xs ys a)

-- a word that could be had is refused only where there is no room
pub told-fits : (from : ℕ) (bs : List ℕ) (r : Option Told) (t : Told) (n : ℕ) → r ≡ Some t → told_had bs r ≡ true → from + length (told_bytes (told_of bs r)) ≤ n →
    (word_had bs t.word && leb (from + length (encode_word t.program (word_meaning bs t.word))) n) ≡ true
unfolding told_bytes
told-fits from bs r t n e h l =
    let k : from + length (encode_word t.program (word_meaning bs t.word) ++ []) ≤ n = rw e at l in
    let b : word_had bs t.word ≡ true = rw e at h in
    rw (b, le-leb (from + length (encode_word t.program (word_meaning bs t.word))) n (omega (arith, length-append (encode_word t.program (word_meaning bs t.word)) [])))
