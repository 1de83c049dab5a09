-- `messages::id_fits` meets its contract: each answer refutes the test, or is its last part.
-- Assumes nothing.
use mathlib.Core.Path.{sym, ◌∙◌}
use Prim.Native.Nat.{◌+◌}
use native.Mathlib.Omega.{arith}
use borrow.Author.Tests.{ne_eqb}
use Rattle.basics.proofs.Choice.{clash}
use Rattle.basics.proofs.Loops.{refute}
use Rattle.messages.proofs.Rules.{zero-byte, other_byte, whole-rules, id-rules, id-last}
use Rattle.messages.proofs.id_fits.Goals as goal

pub bounds-m-payload_len : goal.bounds-m-payload_len
bounds-m-payload_len c =
    let r = whole-rules _ c.requires.0 in omega arith

pub no_zero-requires : goal.no_zero-requires
no_zero-requires c = let r = whole-rules _ c.requires.0 in omega arith

pub returns-then-m-payload_len-eq0 : goal.returns-then-m-payload_len-eq0
returns-then-m-payload_len-eq0 c =
    let last = c.args.payload_len + 7 in
    let zero = zero-byte c.args.m.now last (c.type_inv.m last).fits c.if-m-payload_len-eq0.true in
    c.no_zero.ensures ∙ rw c.requires.1 (sym (id-last _ (record { low = omega arith; high = omega arith; end = rw c.requires.1 at zero })))

pub returns-else-m-payload_len-eq0 : goal.returns-else-m-payload_len-eq0
returns-else-m-payload_len-eq0 c =
    let last = c.args.payload_len + 7 in
    let other = other_byte c.args.m.now last (c.type_inv.m last).fits c.if-m-payload_len-eq0.false in
    ne_eqb _ _ c.if-m-payload_len-eq0.false ∙ refute _ (λ t. clash _ (rw c.requires.1 at other) (id-rules _ t).end)

pub returns-in_default : goal.returns-in_default
returns-in_default c = refute _ (λ t. let r = id-rules _ t in omega arith)

pub returns-in_default-2 : goal.returns-in_default-2
returns-in_default-2 c = refute _ (λ t. let r = id-rules _ t in omega arith)
