-- The dots of a box, row by row.
use Rattle.std.proofs.Common.{◌≡◌, ℕ, zero, suc, ◌+◌, ◌-◌, ◌*◌, ◌/◌, ◌%◌, ◌<◌, ◌≤◌, [], ◌∷◌, ◌++◌, length, sym, refl, ap, ◌∙◌, zero-add, zero-mul, add-one, arith}
use lib.Arith.{digits_mod, digits_div}
use Rattle.model.specs.System.{Rect, tabled, coloured}
use Rattle.model.proofs.Boxes.{tabled-length}
use Rattle.std.proofs.lemmas.List.{length-append}
use Rattle.damage.specs.Cells.{dot_row, dot_rows}

pub tabled-by : (n : ℕ) (f g : ℕ → ℕ) → ((k : ℕ) → k < n → f k ≡ g k) → tabled n f ≡ tabled n g
unfolding tabled
tabled-by zero f g h = refl
tabled-by (suc n) f g h = ap (λ v. v ∷ tabled n (λ k. f (suc k))) (h 0 (omega arith)) ∙ ap (λ t. g 0 ∷ t) (tabled-by n (λ k. f (suc k)) (λ k. g (suc k)) (λ k l. h (suc k) (omega arith)))

tabled-add : (m n : ℕ) (f : ℕ → ℕ) → tabled (m + n) f ≡ tabled m f ++ tabled n (λ k. f (m + k))
unfolding tabled
tabled-add zero n f = rw (zero-add n) (tabled-by n f (λ k. f (0 + k)) (λ k _. ap f (sym (zero-add k))))
tabled-add (suc m) n f =
    let e : suc m + n ≡ suc (m + n) = omega arith in
    rw e (ap (λ t. f 0 ∷ t) (tabled-add m n (λ k. f (suc k)) ∙ ap (λ t. tabled m (λ k. f (suc k)) ++ t) (tabled-by n (λ k. f (suc (m + k))) (λ k. f (suc m + k)) (λ k _. ap f (let q : suc (m + k) ≡ suc m + k = omega arith in q)))))

-- a box by places is a box by rows
by_rows : (f : ℕ → ℕ → ℕ) (x w : ℕ) → 1 ≤ w → (h j r : ℕ) → tabled (h * w) (λ k. f (x + (r * w + k) % w) (j + (r * w + k) / w)) ≡ dot_rows f x w (j + r) h
unfolding dot_rows tabled
by_rows f x w l zero j r = rw (zero-mul w)
by_rows f x w l (suc h) j r =
    let e : suc h * w ≡ w + h * w = omega arith in
    let q : suc (j + r) ≡ j + suc r = omega arith in
    rw e
    (tabled-add w (h * w) (λ k. f (x + (r * w + k) % w) (j + (r * w + k) / w)) ∙
    ap (λ t. t ++ tabled (h * w) (λ k. f (x + (r * w + (w + k)) % w) (j + (r * w + (w + k)) / w))) (tabled-by w _ (λ k. f (x + k) (j + r)) (λ k b. rw (digits_mod r b, digits_div r b))) ∙
    ap (λ t. dot_row f x w (j + r) ++ t)
    (tabled-by (h * w) _ (λ k. f (x + (suc r * w + k) % w) (j + (suc r * w + k) / w)) (λ k _. let m : r * w + (w + k) ≡ suc r * w + k = omega arith in rw m) ∙ by_rows f x w l h j (suc r) ∙ ap (λ n. dot_rows f x w n h) (sym q)))

pub coloured-rows : (f : ℕ → ℕ → ℕ) (r : Rect) → 1 ≤ r.wide → (coloured f r).dots ≡ dot_rows f r.x r.wide r.y r.high
unfolding coloured
coloured-rows f r l =
    tabled-by (r.high * r.wide) _ (λ k. f (r.x + (0 * r.wide + k) % r.wide) (r.y + (0 * r.wide + k) / r.wide)) (λ k _. let m : k ≡ 0 * r.wide + k = omega arith in rw (← m)) ∙
    by_rows f r.x r.wide l r.high r.y 0 ∙ ap (λ n. dot_rows f r.x r.wide n r.high) (let q : r.y + 0 ≡ r.y = omega arith in q)

-- equal colours in the box
pub rows-by : (f g : ℕ → ℕ → ℕ) (x w j h : ℕ) → ((i k : ℕ) → x ≤ i → i < x + w → j ≤ k → k < j + h → f i k ≡ g i k) → dot_rows f x w j h ≡ dot_rows g x w j h
unfolding dot_rows
rows-by f g x w j zero e = refl
rows-by f g x w j (suc h) e =
    ap (λ t. t ++ dot_rows f x w (suc j) h) (tabled-by w _ _ (λ k l. e (x + k) j (omega arith) (omega arith) (omega arith) (omega arith))) ∙
    ap (λ t. dot_row g x w j ++ t) (rows-by f g x w (suc j) h (λ i k a b c d. e i k a b (omega arith) (omega arith)))

pub rows-cons : (f : ℕ → ℕ → ℕ) (x w j below : ℕ) → j < below → dot_rows f x w j (below - j) ≡ dot_row f x w j ++ dot_rows f x w (j + 1) (below - (j + 1))
unfolding dot_rows
rows-cons f x w j below h = let e : below - j ≡ suc (below - (j + 1)) = omega arith in rw (e, add-one)

pub rows-nil : (f : ℕ → ℕ → ℕ) (x w j below : ℕ) → below ≤ j → dot_rows f x w j (below - j) ≡ []
unfolding dot_rows
rows-nil f x w j below h = let e : below - j ≡ 0 = omega arith in rw e

pub row-length : (f : ℕ → ℕ → ℕ) (x w j : ℕ) → length (dot_row f x w j) ≡ w
row-length f x w j = tabled-length w _

pub rows-length : (f : ℕ → ℕ → ℕ) (x w j h : ℕ) → length (dot_rows f x w j h) ≡ h * w
unfolding dot_rows
rows-length f x w j zero = sym (zero-mul w)
rows-length f x w j (suc h) = let a = rows-length f x w (suc j) h in let b = row-length f x w j in let c = length-append (dot_row f x w j) (dot_rows f x w (suc j) h) in omega (arith, a, b, c)
