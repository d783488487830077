use Rattle.std.proofs.Common.{◌≡◌, Some, sym, ap, ◌∙◌, to_z-of_z, w16, SFits, of_z, rules}
use Rattle.std.specs.Option.{option_map}
use Rattle.std.proofs.lemmas.Result.{err_from_is_err_and}
use Rattle.protocol.specs.Fields.{digits, unsigned}
use Rattle.script.specs.Putting.{near_bytes}
use Rattle.script.proofs.Bytes.{two_digits, unsigned-bits}
use Rattle.script.proofs.Going.{blame, puts-from-add}
use Rattle.script.proofs.fields.put_signed.Goals as goal

pub returns-in_err-n : goal.returns-in_err-n
unfolding near_bytes
returns-in_err-n c =
    let p = err_from_is_err_and c.from_residual.result c.from_residual.ensures.1 in
    rw (p.1, p.2) (blame _ (ap (option_map (λ z. digits 2 (unsigned 32768 z))) (sym c.signed.ensures ∙ c.in_err-n.ensures.ok_part)))

pub returns : goal.returns
unfolding near_bytes
returns c =
    let n = c.in_ok-n.n in
    let f : SFits w16 n = search rules in
    let e : c.to_le_bytes.result ≡ digits 2 (of_z w16 n) = (simp to_z-of_z at c.to_le_bytes.ensures) ∙ two_digits (of_z w16 n) in
    puts-from-add _ _ _ c.to_le_bytes.result c.add.result
    (ap (option_map (λ z. digits 2 (unsigned 32768 z))) (sym c.signed.ensures ∙ c.in_ok-n.ensures.ok_part) ∙ ap (λ l. Some l) (sym (e ∙ ap (digits 2) (unsigned-bits n f)))) c.add.ensures
