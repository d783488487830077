-- What is written is what an event sends: its grid, and the room that it takes.
use Rattle.std.proofs.Common.{◌≡◌, ℕ, pred, ◌+◌, ◌*◌, ◌<◌, ◌≤◌, Bool, true, false, ◌&&◌, List, [], ◌∷◌, ◌++◌, map, length, get_or, ℤ, pos, ◌+ℤ◌, Some, None, Option, sym, refl, ap, ◌∙◌, subst, arith, le-leb}
use mathlib.Core.Path.{fun_ext}
use borrow.Author.Tests.{lt-leb}
use Rattle.std.proofs.lemmas.Nat.{mul-le}
use Rattle.std.proofs.lemmas.Bool.{and_right}
use Rattle.model.specs.Basics.{bit}
use Rattle.model.specs.Desk as desk
use Rattle.model.specs.Desk.{Desk, Event, after, window, dot, front, in_window}
use Rattle.model.specs.Promise.{subject}
use Rattle.model.specs.System.{front_at, damage, coloured, on}
use Rattle.model.specs.Grid.{grid, cells, sorted, Painted, painted_box, x_edges, y_edges}
use Rattle.model.proofs.Fronts.{front_same}
use Rattle.model.proofs.Boxes.{coloured-formed, coloured-count, none-formed}
use Rattle.model.proofs.Cells.{Agree, Upto, Rising, sorted-rising, sorted-upto, sorted-agree, from-agree, from-zero-all}
use Rattle.model.proofs.Grid.{front-x, front-y, x-upto, y-upto, after-off, grid-exact, grid-length}
use Rattle.stack.specs.View.{view, slots_of, size_of}
use Rattle.stack.specs.declared.state.Window.{Window}
use Rattle.stack.proofs.Slots.{window-at}
use Rattle.stack.proofs.Packed.{begins-at, ending-next, ending-area}
use Rattle.layout.specs.Sizes.{sizes_of}
use Rattle.layout.specs.State.{desk_of, Good}
use Rattle.layout.specs.Budget.{sent_room}
use Rattle.layout.specs.declared.sizes.Sizes.{Sizes}
use Rattle.layout.specs.declared.state.State.{State}
use Rattle.damage.specs.declared.types.How.{How}
use Rattle.damage.specs.declared.types.How.TheVariants.{Turned, Moved, Painted as by-Paint}
use Rattle.damage.specs.declared.types.Placed.{Placed}
use Rattle.damage.specs.declared.types.Hurt.{Hurt}
use Rattle.damage.specs.declared.types.Axis.TheVariants.{Across, Down}
use Rattle.damage.specs.Encode.{encode}
use Rattle.damage.specs.Cover.{sends_at}
use Rattle.damage.specs.Lines.{grid_edges}
use Rattle.damage.specs.Hurts.{Placing, hurts_by, hurts, Decided}
use Rattle.damage.specs.Cells.{words_of, damaged, cells_of, Even, Low, Lent}
use Rattle.damage.proofs.Area.{areas-fit, sent-length}
use Rattle.damage.proofs.Cutting.{cells-lines}

-- from each line up to the next, what no edge parts is the same
even-from : (f : ℕ → ℕ) (w : ℕ) (es : List ℕ) (a : ℕ) → a ≤ w → Rising (a ∷ es) → Upto w es → ((u v : ℕ) → a ≤ u → a ≤ v → u < w → v < w → Agree es u v → f u ≡ f v) → Even f a (es ++ w ∷ [])
even-from f w [] a l r t h = (λ u p q. h u a p (omega arith) q (omega arith) tt, tt)
even-from f w (b ∷ es) a l r t h = (
  λ u p q.
      let k : a < b = omega arith in
      let m = t.0 in
      h u a p (omega arith) (omega arith) (omega arith) (lt-leb b u q ∙ sym (lt-leb b a k), from-agree b u a es q k r.1.0),
  even-from f w es b t.0 r.1 t.1 (λ u v p q m n g. let k = r.0.0 in h u v (omega arith) (omega arith) m n (le-leb b u p ∙ sym (le-leb b v q), g)),
)

even-sorted : (f : ℕ → ℕ) (w : ℕ) (es : List ℕ) → Upto w es → ((u v : ℕ) → u < w → v < w → Agree es u v → f u ≡ f v) → Even f 0 (sorted es ++ w ∷ [])
even-sorted f w es t h = even-from f w (sorted es) 0 (omega arith) (from-zero-all (sorted es), sorted-rising es) (sorted-upto w es t) (λ u v _ _ m n g. h u v m n (sorted-agree es u v g))

low-upto : (w : ℕ) (es : List ℕ) → w ≤ 32768 → Upto w es → Low (es ++ w ∷ [])
low-upto w [] h t = (h, tt)
low-upto w (e ∷ es) h t = let k = t.0 in (omega arith, low-upto w es h t.1)

low-sorted : (w : ℕ) (es : List ℕ) → w ≤ 32768 → Upto w es → Low (sorted es ++ w ∷ [])
low-sorted w es h t = low-upto w (sorted es) h (sorted-upto w es t)

-- the lines of the code are those of the grid
x-lines : (z : desk.Sizes) (d d' : Desk) (n : ℕ) (b : Painted) (a : Placed) (w : desk.Window) → w ≡ window d' n → Placing (window d n) b.x b.y b.wide b.high a →
    grid_edges Across z.wide w a.across.from a.across.to d.windows ≡ x_edges z d d' n b
x-lines z d d' n b a w e p =
    ap (λ (v : desk.Window). grid_edges Across z.wide v a.across.from a.across.to d.windows) e ∙ ap (λ (l : ℤ). grid_edges Across z.wide (window d' n) l a.across.to d.windows) p.left ∙
    ap (λ (r : ℤ). grid_edges Across z.wide (window d' n) ((window d n).x +ℤ pos b.x) r d.windows) p.right

y-lines : (z : desk.Sizes) (d d' : Desk) (n : ℕ) (b : Painted) (a : Placed) (w : desk.Window) → w ≡ window d' n → Placing (window d n) b.x b.y b.wide b.high a →
    grid_edges Down z.high w a.down.from a.down.to d.windows ≡ y_edges z d d' n b
y-lines z d d' n b a w e p =
    ap (λ (v : desk.Window). grid_edges Down z.high v a.down.from a.down.to d.windows) e ∙ ap (λ (l : ℤ). grid_edges Down z.high (window d' n) l a.down.to d.windows) p.top ∙
    ap (λ (r : ℤ). grid_edges Down z.high (window d' n) ((window d n).y +ℤ pos b.y) r d.windows) p.below

x-ended : (z : desk.Sizes) (d d' : Desk) (n : ℕ) (b : Painted) (a : Placed) (w : desk.Window) (xs : List ℕ) → xs ≡ sorted (grid_edges Across z.wide w a.across.from a.across.to d.windows) ++ z.wide ∷ [] → w ≡ window d' n →
    Placing (window d n) b.x b.y b.wide b.high a → sorted (x_edges z d d' n b) ++ z.wide ∷ [] ≡ xs
x-ended z d d' n b a w xs e v p = sym (e ∙ ap (λ t. sorted t ++ z.wide ∷ []) (x-lines z d d' n b a w v p))

y-ended : (z : desk.Sizes) (d d' : Desk) (n : ℕ) (b : Painted) (a : Placed) (w : desk.Window) (ys : List ℕ) → ys ≡ sorted (grid_edges Down z.high w a.down.from a.down.to d.windows) ++ z.high ∷ [] → w ≡ window d' n →
    Placing (window d n) b.x b.y b.wide b.high a → sorted (y_edges z d d' n b) ++ z.high ∷ [] ≡ ys
y-ended z d d' n b a w ys e v p = sym (e ∙ ap (λ t. sorted t ++ z.high ∷ []) (y-lines z d d' n b a w v p))

-- what is in front, and so the damage, does not hang on what the pictures hold
seen-any : (p q : List ℕ) (o : Option Window) (x y : ℤ) → in_window (view p o) x y ≡ in_window (view q o) x y
unfolding in_window
seen-any p q None x y = refl
seen-any p q (Some w) x y = refl

front-any : (s : State) (p q : List ℕ) (i j : ℕ) → front_at (desk_of s p) i j ≡ front_at (desk_of s q) i j
front-any s p q i j =
    front_same (desk_of s p) (desk_of s q) (desk_of s p).order (pos i) (pos j)
    (λ m.
    ap (λ (w : desk.Window). in_window w (pos i) (pos j)) (window-at s.stack (desk_of s p) p m refl) ∙ seen-any p q (get_or (slots_of s.stack) m None) (pos i) (pos j) ∙
    sym (ap (λ (w : desk.Window). in_window w (pos i) (pos j)) (window-at s.stack (desk_of s q) q m refl)))

hurts-any : (how : How) (n : ℕ) (a : Placed) (s : State) (p q : List ℕ) (d' : Desk) (i j : ℕ) → hurts_by how n a (desk_of s p) d' i j ≡ hurts_by how n a (desk_of s q) d' i j
unfolding hurts_by
hurts-any Turned n a s p q d' i j = rw (front-any s p q i j)
hurts-any Moved n a s p q d' i j = rw (front-any s p q i j)
hurts-any by-Paint n a s p q d' i j = rw (front-any s p q i j)

-- what an event sends, when it is decided what it damages
module _ (z : desk.Sizes) (before after' : State) (q p : List ℕ) (e : Event) (h : Hurt) (decided : Decided z (desk_of before p) e h) (stepped : desk_of after' q ≡ (after z (desk_of before p) e).0) where
  abbrev d : Desk
  d = desk_of before p

  abbrev d' : Desk
  d' = desk_of after' q

  number : pred (subject e) ≡ h.window
  number = ap pred decided.about

  off : (m : ℕ) → (m ≡ h.window → ⊥) → window d m ≡ window d' m
  off m k = after-off z d e h.window decided.about m k ∙ ap (λ (v : Desk). window v m) (sym stepped)

  -- one window is in front between two lines
  across-even : (j : ℕ) → Even (λ u. front_at d' u j) 0 (sorted (x_edges z d d' h.window (painted_box e)) ++ z.wide ∷ [])
  across-even j =
      even-sorted (λ u. front_at d' u j) z.wide (x_edges z d d' h.window (painted_box e)) (x-upto z d d' h.window (painted_box e))
      (λ u v m n g. (front-x z d d' h.window (painted_box e) off j u v m n g).1)

  down-even : (i : ℕ) → Even (λ v. front_at d' i v) 0 (sorted (y_edges z d d' h.window (painted_box e)) ++ z.high ∷ [])
  down-even i =
      even-sorted (λ v. front_at d' i v) z.high (y_edges z d d' h.window (painted_box e)) (y-upto z d d' h.window (painted_box e))
      (λ u v m n g. (front-y z d d' h.window (painted_box e) off i u v m n g).1)

  same_set : damage z d e ≡ damaged h before after' q
  same_set =
      fun_ext (λ i. fun_ext (λ j. decided.dots i j ∙ ap (λ (v : Desk). hurts h d v i j) (sym stepped) ∙ hurts-any h.how h.window h.area before p q d' i j))

  sends-is : words_of after' q (cells_of (damaged h before after' q) (sorted (x_edges z d d' h.window (painted_box e)) ++ z.wide ∷ []) 0 (sorted (y_edges z d d' h.window (painted_box e)) ++ z.high ∷ [])) ≡ encode (sends_at z d e)
  unfolding grid
  sends-is =
      ap (words_of after' q)
      (sym
      (ap (λ (v : Desk). cells (damage z d e) z.wide z.high (sorted (x_edges z d v (pred (subject e)) (painted_box e))) 0 (sorted (y_edges z d v (pred (subject e)) (painted_box e)))) (sym stepped) ∙
      ap (λ n. cells (damage z d e) z.wide z.high (sorted (x_edges z d d' n (painted_box e))) 0 (sorted (y_edges z d d' n (painted_box e)))) number ∙
      ap (λ (s : ℕ → ℕ → Bool). cells s z.wide z.high (sorted (x_edges z d d' h.window (painted_box e))) 0 (sorted (y_edges z d d' h.window (painted_box e)))) same_set ∙
      cells-lines (damaged h before after' q) z.wide z.high (sorted (x_edges z d d' h.window (painted_box e))) 0 (sorted (y_edges z d d' h.window (painted_box e))))) ∙
      ap (λ (v : Desk). encode (map (coloured (dot v)) (grid z d e))) stepped

  -- by lines that are those of the grid
  x-low : (xs : List ℕ) → sorted (x_edges z d d' h.window (painted_box e)) ++ z.wide ∷ [] ≡ xs → z.wide ≤ 4096 → Low xs
  x-low xs a k = subst Low a (low-sorted z.wide (x_edges z d d' h.window (painted_box e)) (omega arith) (x-upto z d d' h.window (painted_box e)))

  y-low : (ys : List ℕ) → sorted (y_edges z d d' h.window (painted_box e)) ++ z.high ∷ [] ≡ ys → z.high ≤ 4096 → Low ys
  y-low ys a k = subst Low a (low-sorted z.high (y_edges z d d' h.window (painted_box e)) (omega arith) (y-upto z d d' h.window (painted_box e)))

  lined-across : (xs : List ℕ) → sorted (x_edges z d d' h.window (painted_box e)) ++ z.wide ∷ [] ≡ xs → (j : ℕ) → Even (λ u. front_at d' u j) 0 xs
  lined-across xs a j = subst (Even (λ u. front_at d' u j) 0) a (across-even j)

  lined-down : (ys : List ℕ) → sorted (y_edges z d d' h.window (painted_box e)) ++ z.high ∷ [] ≡ ys → (i : ℕ) → Even (λ v. front_at d' i v) 0 ys
  lined-down ys b i = subst (Even (λ v. front_at d' i v) 0) b (down-even i)

  lined-sends : (xs ys : List ℕ) → sorted (x_edges z d d' h.window (painted_box e)) ++ z.wide ∷ [] ≡ xs → sorted (y_edges z d d' h.window (painted_box e)) ++ z.high ∷ [] ≡ ys →
      words_of after' q (cells_of (damaged h before after' q) xs 0 ys) ≡ encode (sends_at z d e)
  lined-sends xs ys a b =
      ap (λ (t : List ℕ). words_of after' q (cells_of (damaged h before after' q) t 0 ys)) (sym a) ∙
      ap (λ (t : List ℕ). words_of after' q (cells_of (damaged h before after' q) (sorted (x_edges z d d' h.window (painted_box e)) ++ z.wide ∷ []) 0 t)) (sym b) ∙ sends-is

-- all of it, of the lines as the code has them
pub record Gridded (z : desk.Sizes) (s s' : State) (q p : List ℕ) (e : Event) (h : Hurt) (xs ys : List ℕ) : Type 0 where
  pub x_low : Low xs
  pub y_low : Low ys
  pub across : (j : ℕ) → Even (λ u. front_at (desk_of s' q) u j) 0 xs
  pub down : (i : ℕ) → Even (λ v. front_at (desk_of s' q) i v) 0 ys
  pub sends : words_of s' q (cells_of (damaged h s s' q) xs 0 ys) ≡ encode (sends_at z (desk_of s p) e)

pub gridded : (z : desk.Sizes) (s s' : State) (q p : List ℕ) (e : Event) (h : Hurt) (w : desk.Window) (xs ys : List ℕ) → z.wide ≤ 4096 → z.high ≤ 4096 →
    Decided z (desk_of s p) e h → desk_of s' q ≡ (after z (desk_of s p) e).0 → w ≡ window (desk_of s' q) h.window →
    xs ≡ sorted (grid_edges Across z.wide w h.area.across.from h.area.across.to (desk_of s p).windows) ++ z.wide ∷ [] →
    ys ≡ sorted (grid_edges Down z.high w h.area.down.from h.area.down.to (desk_of s p).windows) ++ z.high ∷ [] → Gridded z s s' q p e h xs ys
gridded z s s' q p e h w xs ys l m dec step v a b =
    let x = x-ended z (desk_of s p) (desk_of s' q) h.window (painted_box e) h.area w xs a v dec.area in
    let y = y-ended z (desk_of s p) (desk_of s' q) h.window (painted_box e) h.area w ys b v dec.area in
    record {
      x_low = x-low z s s' q p e h dec step xs x l;
      y_low = y-low z s s' q p e h dec step ys y m;
      across = lined-across z s s' q p e h dec step xs x;
      down = lined-down z s s' q p e h dec step ys y;
      sends = lined-sends z s s' q p e h dec step xs ys x y;
    }

-- nothing is damaged, so nothing is sent
pub sends_none : (z : desk.Sizes) (d : Desk) (e : Event) → ((i j : ℕ) → damage z d e i j ≡ false) → [] ≡ encode (sends_at z d e)
unfolding encode
sends_none z d e h =
    sym (ap encode (none-formed (sends_at z d e) (coloured-formed (dot (after z d e).0) (grid z d e) (grid-exact.solid z d e))
    (λ i j. coloured-count (dot (after z d e).0) (grid z d e) i j ∙ grid-exact.counts z d e i j ∙ ap bit (and_right (on z i j) (damage z d e i j) (h i j)))))

-- the room that it takes
count-on : (a b : Bool) → bit (a && b) ≤ bit a
count-on true true = omega arith
count-on true false = omega arith
count-on false b = omega arith

grid-few : (z : desk.Sizes) (d : Desk) (e : Event) → length d.windows ≡ z.windows → length (grid z d e) ≤ (2 * z.windows + 5) * (2 * z.windows + 5)
unfolding grid
grid-few z d e l = subst (λ (w : ℕ). length (grid z d e) ≤ (2 * w + 5) * (2 * w + 5)) l (grid-length z d (after z d e).0 (pred (subject e)) (painted_box e) (damage z d e))

pub sends-fit : (z : desk.Sizes) (d : Desk) (e : Event) → length d.windows ≡ z.windows → length (encode (sends_at z d e)) ≤ sent_room z
sends-fit z d e l =
    let a = sent-length (dot (after z d e).0) (grid z d e) in
    let b = areas-fit z (grid z d e) (λ i j. subst (λ (k : ℕ). k ≤ bit (on z i j)) (sym (grid-exact.counts z d e i j)) (count-on (on z i j) (damage z d e i j))) in
    let c = grid-few z d e l in
    let m = mul-le (2 * z.windows + 5) (2 * z.windows + 5) (2 * z.windows + 6) (2 * z.windows + 6) (omega arith) (omega arith) in
    omega (arith, a, b, c, m)

-- the pictures of all windows lie in the lent pictures
pub all-lent : (z : Sizes) (s : State) (p : List ℕ) → Good (sizes_of z) s (length p) → Lent s (length p)
all-lent z s p g n w e =
    let st = begins-at 0 n (slots_of s.stack) w g.packed e in
    let nx = ending-next n 0 (slots_of s.stack) in
    let ar = ending-area p 0 (slots_of s.stack) in
    let sz : size_of (get_or (slots_of s.stack) n None) ≡ w.wide * w.high = ap size_of e in
    let fw = (g.sound p).few in
    let rm = g.room in
    omega (arith, st, nx, ar, sz, fw, rm)
