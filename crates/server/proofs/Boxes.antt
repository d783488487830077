-- Boxes of several events, put together.
use Rattle.std.proofs.Common.{◌≡◌, ◌+◌, ◌*◌, List, [], ◌∷◌, ◌++◌, sym, refl, ap, ◌∙◌}
use Rattle.std.proofs.lemmas.List.{append_assoc}
use Rattle.model.specs.Promise.{Box}
use Rattle.damage.specs.Encode.{encode}

pub encode-append : (bs cs : List Box) → encode (bs ++ cs) ≡ encode bs ++ encode cs
unfolding encode
encode-append [] cs = refl
encode-append (b ∷ bs) cs =
    ap (λ l. (b.x + 65536 * b.y) ∷ (b.wide + 65536 * b.high) ∷ l) (ap (λ l. b.dots ++ l) (encode-append bs cs) ∙ sym (append_assoc b.dots (encode bs) (encode cs)))
