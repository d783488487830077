-- Windows read one after another.
use Rattle.std.proofs.Common.{◌≡◌, ℕ, ◌+◌, ◌<◌, List, length, get_or, set, None, Option, ap, ◌∙◌, arith, below_more}
use Rattle.std.proofs.lemmas.List.{get_or-set_same, get_or-set_other}
use Rattle.stack.specs.declared.state.Window.{Window}

pub slots-more : (f : ℕ → Option Window) (n : ℕ) (os ps : List (Option Window)) (o : Option Window) → ps ≡ set os n o → o ≡ f n → n < length os →
    ((k : ℕ) → k < n → get_or os k None ≡ f k) → (k : ℕ) → k < n + 1 → get_or ps k None ≡ f k
slots-more f n os ps o e q h below =
    below_more _ n (λ k l. ap (λ us. get_or us k None) e ∙ get_or-set_other os n k o None (λ z. omega arith) ∙ below k l) (ap (λ us. get_or us n None) e ∙ get_or-set_same os n o None h ∙ q)
