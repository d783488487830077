-- Three words written next to each other, and the entries of a table.
use Rattle.std.proofs.Common.{◌≡◌, ℕ, ◌+◌, ◌*◌, ◌<◌, ◌≤◌, ◌⊎◌, List, length, get_or, set, ◌∙◌, arith}
use Rattle.std.proofs.lemmas.List.{get_or-set_same, get_or-set_other, length-set}
use Rattle.layout.specs.Head.{entry_at}

abbrev pub put3 : List ℕ → ℕ → ℕ → ℕ → ℕ → List ℕ
put3 xs k a b c = set (set (set xs k a) (k + 1) b) (k + 2) c

module _ (xs : List ℕ) (k a b c : ℕ) where
  pub put3-0 : k + 3 ≤ length xs → get_or (put3 xs k a b c) k 0 ≡ a
  put3-0 h =
      get_or-set_other _ (k + 2) k c 0 (λ e. omega arith) ∙ get_or-set_other _ (k + 1) k b 0 (λ e. omega arith) ∙ get_or-set_same xs k a 0 (omega arith)

  pub put3-1 : k + 3 ≤ length xs → get_or (put3 xs k a b c) (k + 1) 0 ≡ b
  put3-1 h = get_or-set_other _ (k + 2) (k + 1) c 0 (λ e. omega arith) ∙ get_or-set_same _ (k + 1) b 0 (simp length-set (omega arith))

  pub put3-2 : k + 3 ≤ length xs → get_or (put3 xs k a b c) (k + 2) 0 ≡ c
  put3-2 h = get_or-set_same _ (k + 2) c 0 (simp length-set (omega arith))

  pub put3-other : (m : ℕ) → (m < k) ⊎ (k + 3 ≤ m) → get_or (put3 xs k a b c) m 0 ≡ get_or xs m 0
  put3-other m o =
      get_or-set_other _ (k + 2) m c 0 (λ e. grind arith) ∙ get_or-set_other _ (k + 1) m b 0 (λ e. grind arith) ∙ get_or-set_other xs k m a 0 (λ e. grind arith)

-- an entry is told by its three words
pub entry-same : (v w : List ℕ) (at n : ℕ) → get_or v (at + 3 * n) 0 ≡ get_or w (at + 3 * n) 0 → get_or v (at + 3 * n + 1) 0 ≡ get_or w (at + 3 * n + 1) 0 →
    get_or v (at + 3 * n + 2) 0 ≡ get_or w (at + 3 * n + 2) 0 → entry_at v at n ≡ entry_at w at n
entry-same v w at n a b c = rw (a, b, c)
