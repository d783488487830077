-- Words that are read as boxes: reading is the inverse of `encode`.
use Rattle.std.proofs.Common.{◌≡◌, ℕ, zero, suc, ◌+◌, ◌*◌, ◌/◌, ◌%◌, ◌<◌, ◌≤◌, true, ◌&&◌, leb, List, [], ◌∷◌, ◌++◌, length, take, drop, Some, None, Option, sym, refl, ap, ◌∙◌, subst, append_assoc, arith, length-drop}
use Rattle.std.proofs.lemmas.List.{take_at, drop_at, take-append-drop, length-take-le, length-append}
use Rattle.std.proofs.lemmas.Bool.{and_parts, and_from, leb-true, le-leb}
use Rattle.model.specs.Basics.{pick}
use Rattle.model.specs.Promise.{Box, with_box, with_boxes}
use Rattle.model.specs.System.{Formed}
use Rattle.model.proofs.Picks.{by-pick}
use Rattle.damage.specs.Encode.{encode}
use Rattle.damage.specs.Screen.{head_of, box_of, lies_on, stands_on, before, up_to, boxes_in, OnScreen}
use Rattle.damage.specs.declared.head.Head.{Head}

-- how many boxes may be read does not matter, if there are as many as words
up-to-same : (n m wide high : ℕ) (ws : List ℕ) → length ws ≤ n → length ws ≤ m → up_to n wide high ws ≡ up_to m wide high ws
unfolding up_to
up-to-same n m wide high [] h k = refl
up-to-same n m wide high (p ∷ []) h k = refl
up-to-same zero m wide high (p ∷ q ∷ ws) h k = absurd (omega arith)
up-to-same (suc n) zero wide high (p ∷ q ∷ ws) h k = absurd (omega arith)
up-to-same (suc n) (suc m) wide high (p ∷ q ∷ ws) h k =
    let d = drop ((head_of p q).wide * (head_of p q).high) ws in
    let l = length-drop ((head_of p q).wide * (head_of p q).high) ws in
    ap (λ o. pick (stands_on wide high (length ws) (head_of p q)) (before (box_of (head_of p q) ws) o) None) (up-to-same n m wide high d (omega arith) (omega arith))

-- the first box, then the others
pub in-more : (wide high p q : ℕ) (ws : List ℕ) → boxes_in wide high (p ∷ q ∷ ws) ≡
    pick (stands_on wide high (length ws) (head_of p q)) (before (box_of (head_of p q) ws) (boxes_in wide high (drop ((head_of p q).wide * (head_of p q).high) ws))) None
unfolding up_to
in-more wide high p q ws =
    let d = drop ((head_of p q).wide * (head_of p q).high) ws in
    let l = length-drop ((head_of p q).wide * (head_of p q).high) ws in
    ap (λ o. pick (stands_on wide high (length ws) (head_of p q)) (before (box_of (head_of p q) ws) o) None) (up-to-same (suc (length ws)) (length d) wide high d (omega arith) (omega arith))

-- what `before` can have been given
pub before-some : (b : Box) (o : Option (List Box)) (bs : List Box) → before b o ≡ Some bs → (cs : List Box) × (o ≡ Some cs) × (bs ≡ b ∷ cs)
before-some b None bs e = absurd (let z : ◌≡◌ {A = ℕ} 0 1 = cc in omega arith)
before-some b (Some cs) bs e = (cs, refl, cc)

-- the words of a box that is there, and what it needs to be read again
pub record Whole (wide high : ℕ) (b : Box) : Type 0 where
  pub across : 1 ≤ b.wide
  pub down : 1 ≤ b.high
  pub right : b.x + b.wide ≤ wide
  pub below : b.y + b.high ≤ high
  pub size : length b.dots ≡ b.wide * b.high
  pub x-half : b.x < 65536
  pub wide-half : b.wide < 65536

pub data AllWhole (wide high : ℕ) : List Box → Type 0 where
  none : AllWhole wide high []
  more : {b : Box} {bs : List Box} → Whole wide high b → AllWhole wide high bs → AllWhole wide high (b ∷ bs)

pub lies-parts : (wide high : ℕ) (h : Head) → lies_on wide high h ≡ true → (1 ≤ h.wide) × (1 ≤ h.high) × (h.x + h.wide ≤ wide) × (h.y + h.high ≤ high)
lies-parts wide high h e =
    let b = and_parts (leb 1 h.wide && leb 1 h.high) (leb (h.x + h.wide) wide && leb (h.y + h.high) high) e in
    let c = and_parts (leb 1 h.wide) (leb 1 h.high) b.0 in
    let d = and_parts (leb (h.x + h.wide) wide) (leb (h.y + h.high) high) b.1 in
    (leb-true _ _ c.0, leb-true _ _ c.1, leb-true _ _ d.0, leb-true _ _ d.1)

pub stands_parts : (wide high left : ℕ) (h : Head) → stands_on wide high left h ≡ true →
    (1 ≤ h.wide) × (1 ≤ h.high) × (h.x + h.wide ≤ wide) × (h.y + h.high ≤ high) × (h.wide * h.high ≤ left)
stands_parts wide high left h e =
    let a = and_parts (lies_on wide high h) (leb (h.wide * h.high) left) e in
    let b = lies-parts wide high h a.0 in
    (b.0, b.1, b.2, b.3, leb-true _ _ a.1)

pub stands-yes : (wide high left : ℕ) (h : Head) → 1 ≤ h.wide → 1 ≤ h.high → h.x + h.wide ≤ wide → h.y + h.high ≤ high → h.wide * h.high ≤ left → stands_on wide high left h ≡ true
stands-yes wide high left h a b c d e =
    and_from _ _ (and_from _ _ (and_from _ _ (le-leb _ _ a) (le-leb _ _ b)) (and_from _ _ (le-leb _ _ c) (le-leb _ _ d))) (le-leb _ _ e)

-- the words of one box and of what is read behind it
box-words : (p q : ℕ) (ws vs : List ℕ) → drop ((head_of p q).wide * (head_of p q).high) ws ≡ vs →
    ((head_of p q).x + 65536 * (head_of p q).y) ∷ ((head_of p q).wide + 65536 * (head_of p q).high) ∷ (take ((head_of p q).wide * (head_of p q).high) ws ++ vs) ≡ p ∷ q ∷ ws
box-words p q ws vs e =
    let a : p % 65536 + 65536 * (p / 65536) ≡ p = omega arith in
    let b : q % 65536 + 65536 * (q / 65536) ≡ q = omega arith in
    rw (a, b, ← e) (ap (λ l. p ∷ q ∷ l) (take-append-drop ((head_of p q).wide * (head_of p q).high) ws))

box-whole : (wide high p q : ℕ) (ws : List ℕ) → stands_on wide high (length ws) (head_of p q) ≡ true → Whole wide high (box_of (head_of p q) ws)
box-whole wide high p q ws e =
    let s = stands_parts wide high (length ws) (head_of p q) e in
    record { across = s.0; down = s.1; right = s.2; below = s.3; size = length-take-le _ ws s.4; x-half = omega arith; wide-half = omega arith }

-- what is read is what was written
pub decoded : (n wide high : ℕ) (ws : List ℕ) (bs : List Box) → up_to n wide high ws ≡ Some bs → (encode bs ≡ ws) × AllWhole wide high bs
unfolding up_to encode
decoded n wide high [] [] e = (refl, none)
decoded n wide high [] (b ∷ bs) e = absurd (let z : ◌≡◌ {A = ℕ} 0 1 = cc in omega arith)
decoded n wide high (p ∷ []) bs e = absurd (let z : ◌≡◌ {A = ℕ} 0 1 = cc in omega arith)
decoded zero wide high (p ∷ q ∷ ws) bs e = absurd (let z : ◌≡◌ {A = ℕ} 0 1 = cc in omega arith)
decoded (suc n) wide high (p ∷ q ∷ ws) bs e =
    by-pick (stands_on wide high (length ws) (head_of p q)) (before (box_of (head_of p q) ws) (up_to n wide high rest)) None (λ o. o ≡ Some bs → (encode bs ≡ p ∷ q ∷ ws) × AllWhole wide high bs)
    (λ s g.
    let t = before-some (box_of (head_of p q) ws) (up_to n wide high rest) bs g in
    let d = decoded n wide high rest t.0 t.1 in
    rw t.2 (box-words p q ws (encode t.0) (sym d.0), more (box-whole wide high p q ws s) d.1))
    (λ s g. absurd (let z : ◌≡◌ {A = ℕ} 0 1 = cc in omega arith)) e
  where
    rest : List ℕ
    rest = drop ((head_of p q).wide * (head_of p q).high) ws

-- the head that two such words give
head-is : (x y wide high : ℕ) → x < 65536 → wide < 65536 → head_of (x + 65536 * y) (wide + 65536 * high) ≡ record { x = x; y = y; wide = wide; high = high }
head-is x y wide high h k =
    let a : (x + 65536 * y) % 65536 ≡ x = omega arith in
    let b : (x + 65536 * y) / 65536 ≡ y = omega arith in
    let c : (wide + 65536 * high) % 65536 ≡ wide = omega arith in
    let d : (wide + 65536 * high) / 65536 ≡ high = omega arith in
    rw (a, b, c, d)

-- the first box of what is left, whose head is g
read_first : (wide high left : ℕ) (g h : Head) (b : Box) (ws vs : List ℕ) (bs : List Box) → g ≡ h → stands_on wide high left h ≡ true → box_of h ws ≡ b →
    drop (h.wide * h.high) ws ≡ vs → boxes_in wide high vs ≡ Some bs →
    pick (stands_on wide high left g) (before (box_of g ws) (boxes_in wide high (drop (g.wide * g.high) ws))) None ≡ Some (b ∷ bs)
read_first wide high left g h b ws vs bs z s e d r = rw (z, s, e, d, r)

-- what is written is read
pub coded : (wide high : ℕ) (bs : List Box) → AllWhole wide high bs → boxes_in wide high (encode bs) ≡ Some bs
unfolding up_to encode
coded wide high [] none = refl
coded wide high (b ∷ bs) (more w a) =
    in-more wide high (b.x + 65536 * b.y) (b.wide + 65536 * b.high) ws ∙
    read_first wide high (length ws) (head_of (b.x + 65536 * b.y) (b.wide + 65536 * b.high)) h b ws (encode bs) bs (head-is b.x b.y b.wide b.high w.x-half w.wide-half)
    (stands-yes wide high (length ws) h w.across w.down w.right w.below (let l = length-append b.dots (encode bs) in omega (arith, w.size)))
    (rw (take_at b.dots (encode bs) (b.wide * b.high) w.size))
    (drop_at b.dots (encode bs) (b.wide * b.high) w.size) (coded wide high bs a)
  where
    ws : List ℕ
    ws = b.dots ++ encode bs

    h : Head
    h = record { x = b.x; y = b.y; wide = b.wide; high = b.high }

-- the same of two rows
encode-append : (bs cs : List Box) → encode (bs ++ cs) ≡ encode bs ++ encode cs
unfolding encode
encode-append [] cs = refl
encode-append (b ∷ bs) cs = ap (λ l. (b.x + 65536 * b.y) ∷ (b.wide + 65536 * b.high) ∷ l) (ap (λ l. b.dots ++ l) (encode-append bs cs) ∙ sym (append_assoc b.dots (encode bs) (encode cs)))

whole_append : (wide high : ℕ) (bs cs : List Box) → AllWhole wide high bs → AllWhole wide high cs → AllWhole wide high (bs ++ cs)
whole_append wide high [] cs none k = k
whole_append wide high (b ∷ bs) cs (more w h) k = more w (whole_append wide high bs cs h k)

pub rows_join : (wide high : ℕ) (ws vs : List ℕ) (bs cs : List Box) → boxes_in wide high ws ≡ Some bs → boxes_in wide high vs ≡ Some cs → boxes_in wide high (ws ++ vs) ≡ Some (bs ++ cs)
rows_join wide high ws vs bs cs h k =
    let a = decoded (length ws) wide high ws bs h in
    let b = decoded (length vs) wide high vs cs k in
    subst (λ l. boxes_in wide high l ≡ Some (bs ++ cs)) (encode-append bs cs ∙ ap (λ l. l ++ encode cs) a.0 ∙ ap (λ l. ws ++ l) b.0) (coded wide high (bs ++ cs) (whole_append wide high bs cs a.1 b.1))

pub puts-join : (f : ℕ → ℕ → ℕ) (bs cs : List Box) (i j : ℕ) → with_boxes f (bs ++ cs) i j ≡ with_boxes (with_boxes f bs) cs i j
unfolding with_boxes
puts-join f [] cs i j = refl
puts-join f (b ∷ bs) cs i j = puts-join (with_box f b) bs cs i j

-- what the laws say of such boxes
pub whole-formed : (wide high : ℕ) (bs : List Box) → AllWhole wide high bs → Formed bs
whole-formed wide high [] none = tt
whole-formed wide high (b ∷ bs) (more w h) = (w.across, w.down, w.size, whole-formed wide high bs h)

pub whole-on : (wide high : ℕ) (bs : List Box) → AllWhole wide high bs → OnScreen wide high bs
whole-on wide high [] none = tt
whole-on wide high (b ∷ bs) (more w h) = (w.right, w.below, whole-on wide high bs h)

pub formed-whole : (wide high : ℕ) (bs : List Box) → wide ≤ 65535 → high ≤ 65535 → Formed bs → OnScreen wide high bs → AllWhole wide high bs
formed-whole wide high [] h k f o = none
formed-whole wide high (b ∷ bs) h k f o =
    more (record { across = f.0; down = f.1; right = o.0; below = o.1; size = f.2; x-half = omega (arith, o.0); wide-half = omega (arith, o.0) })
    (formed-whole wide high bs h k f.3 o.2)
