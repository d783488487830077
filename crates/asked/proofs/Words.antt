-- Sizes and their words, place by place.
use Rattle.std.proofs.Common.{◌≡◌, ℕ, zero, suc, ◌<◌, ◌≤◌, List, [], ◌∷◌, map, length, get_or, drop, sym, ap, ◌∙◌, subst, arith, drop-cons}
use Rattle.std.specs.List.{AllZip}
use Rattle.std.proofs.lemmas.List.{drop_all, length-map}
use Rattle.std.proofs.lemmas.Slice.Zip.{AllZip-long}
use Rattle.asked.specs.Asked.{IsSize, NoSize, NoSizes, sizes_list}

module _ {S : Type 0} (f : S → List ℕ) where
  size-at : (ws : List S) (ns : List ℕ) (i : ℕ) (w : S) → AllZip IsSize (map f ws) ns → i < length ws → IsSize (f (get_or ws i w)) (get_or ns i 0)
  size-at [] ns i w a l = absurd (omega arith)
  size-at (x ∷ ws) [] i w a l = absurd a
  size-at (x ∷ ws) (n ∷ ns) zero w a l = a.0
  size-at (x ∷ ws) (n ∷ ns) (suc i) w a l = size-at ws ns i w a.1 (omega arith)

  -- one word is no number
  pub no-sizes : (ws : List S) (i : ℕ) (w : S) (bs : List ℕ) → i < length ws → w ≡ get_or ws i w → bs ≡ f w → NoSize bs → NoSizes (map f ws)
  no-sizes ws i w bs l e b wrong = λ z a. wrong _ (subst (λ t. IsSize t (get_or (sizes_list z) i 0)) (ap f (sym e) ∙ sym b) (size-at ws (sizes_list z) i w a l))

  -- there are not six
  pub not-six : (ws : List S) → (length ws ≡ 6 → ⊥) → NoSizes (map f ws)
  not-six ws h = λ z a. h (sym (length-map ws f) ∙ sym (AllZip-long IsSize (map f ws) (sizes_list z) a))

  pub sizes-end : (ws : List S) → length ws ≤ 6 → AllZip IsSize (map f (drop 6 ws)) []
  sizes-end ws h = rw (drop_all 6 ws h) tt

  pub sizes-more : (ws : List S) (i : ℕ) (w : S) (bs : List ℕ) (n : ℕ) (ns : List ℕ) → i < length ws → w ≡ get_or ws i w → bs ≡ f w → IsSize bs n
      → AllZip IsSize (map f (drop (suc i) ws)) ns → AllZip IsSize (map f (drop i ws)) (n ∷ ns)
  sizes-more ws i w bs n ns l e b h a = rw (drop-cons ws i w l) (subst (λ t. IsSize t n) (b ∙ ap f e) h, a)
