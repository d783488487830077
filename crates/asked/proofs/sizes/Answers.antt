use Rattle.std.proofs.Common.{string_bytes, arith}
use Rattle.asked.proofs.Words.{no-sizes, not-six, sizes-end, sizes-more}
use Rattle.asked.proofs.sizes.Goals as goal

pub returns-in_default : goal.returns-in_default
returns-in_default c = not-six string_bytes _ (λ e. omega arith)

pub returns-in_default-2 : goal.returns-in_default-2
returns-in_default-2 c = not-six string_bytes _ (λ e. omega arith)

pub returns-in_err-size : goal.returns-in_err-size
returns-in_err-size c = rw c.from_residual.ensures (no-sizes string_bytes _ 0 _ _ (omega arith) c.wide-item.is c.as_str.ensures.value c.in_err-size.ensures)

pub returns-in_err-size-2 : goal.returns-in_err-size-2
returns-in_err-size-2 c =
    rw c.from_residual-in_err-size-2.ensures (no-sizes string_bytes _ 1 _ _ (omega arith) c.high-item.is c.as_str-2.ensures.value c.in_err-size-2.ensures)

pub returns-in_err-size-3 : goal.returns-in_err-size-3
returns-in_err-size-3 c =
    rw c.from_residual-in_err-size-3.ensures (no-sizes string_bytes _ 2 _ _ (omega arith) c.windows-item.is c.as_str-3.ensures.value c.in_err-size-3.ensures)

pub returns-in_err-size-4 : goal.returns-in_err-size-4
returns-in_err-size-4 c =
    rw c.from_residual-in_err-size-4.ensures (no-sizes string_bytes _ 3 _ _ (omega arith) c.programs-item.is c.as_str-4.ensures.value c.in_err-size-4.ensures)

pub returns-in_err-size-5 : goal.returns-in_err-size-5
returns-in_err-size-5 c =
    rw c.from_residual-in_err-size-5.ensures (no-sizes string_bytes _ 4 _ _ (omega arith) c.side-item.is c.as_str-5.ensures.value c.in_err-size-5.ensures)

pub returns-in_err-size-6 : goal.returns-in_err-size-6
returns-in_err-size-6 c =
    rw c.from_residual-in_err-size-6.ensures (no-sizes string_bytes _ 5 _ _ (omega arith) c.dots-item.is c.as_str-6.ensures.value c.in_err-size-6.ensures)

pub returns : goal.returns
returns c =
    let ws = c.args.words.now in
    let more = sizes-more string_bytes ws in
    more 0 _ _ _ _ (omega arith) c.wide-item.is c.as_str.ensures.value c.in_ok-size.ensures
    (more 1 _ _ _ _ (omega arith) c.high-item.is c.as_str-2.ensures.value c.in_ok-size-2.ensures
    (more 2 _ _ _ _ (omega arith) c.windows-item.is c.as_str-3.ensures.value c.in_ok-size-3.ensures
    (more 3 _ _ _ _ (omega arith) c.programs-item.is c.as_str-4.ensures.value c.in_ok-size-4.ensures
    (more 4 _ _ _ _ (omega arith) c.side-item.is c.as_str-5.ensures.value c.in_ok-size-5.ensures
    (more 5 _ _ _ _ (omega arith) c.dots-item.is c.as_str-6.ensures.value c.in_ok-size-6.ensures (sizes-end string_bytes ws (omega arith)))))))
