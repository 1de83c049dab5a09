-- `front::payload_len` meets its contract: the four bytes of one of the two, or one after the other.
-- Assumes nothing.
use native.Mathlib.Omega.{arith}
use mathlib.Core.Path.{sym, ◌∙◌}
use Rattle.front.proofs.Joined.{number-before, number_behind}
use Rattle.wire.specs.BigEndian.{number_at}
use Rattle.front.proofs.payload_len.Goals as goal

pub returns-then-kept-le4 : goal.returns-then-kept-le4
returns-then-kept-le4 c =
    let a = c.args in
    (c.get32.ensures.0 ∙ sym (number_behind a.part.now a.piece.now 4 4 c.if-kept-le4.true), c.get32.ensures.1)

pub returns-then-kept-ge-DS_HEADER_BYTES : goal.returns-then-kept-ge-DS_HEADER_BYTES
returns-then-kept-ge-DS_HEADER_BYTES c =
    let a = c.args in
    (c.get32-then-kept-ge-DS_HEADER_BYTES.ensures.0 ∙ sym (number-before a.part.now a.piece.now 4 4 c.if-kept-ge-DS_HEADER_BYTES.true), c.get32-then-kept-ge-DS_HEADER_BYTES.ensures.1)

pub returns : goal.returns
unfolding number_at
returns c = omega arith
