-- `names::hashed_name` meets its contract: a length out of bounds breaks the rules, past it the words decide, and all of them are mixed.
-- Assumes nothing.
use native.Mathlib.Omega.{arith}
use Rattle.std.specs.Prelude.{Some}
use mathlib.Core.Path.{sym, ap, ◌∙◌}
use Prim.Native.Nat.{◌≤◌}
use native.Mathlib.Numerals.{add-one}
use borrow.Author.Tests.{eq-eqb, ne_eqb}
use Rattle.basics.proofs.Choice.{and-false, pick_true, pick-false}
use Rattle.basics.proofs.Loops.{refute}
use Rattle.names.specs.Hashes.{hash_of, mixed_words}
use Rattle.names.proofs.Bytes.{and-next}
use Rattle.names.proofs.Names.{name-rules, name-words}
use Rattle.names.proofs.hashed_name.Goals as goal

pub returns-then-n-eq0 : goal.returns-then-n-eq0
returns-then-n-eq0 c = sym (pick-false _ _ _ (sym (refute _ (λ t. let r = name-rules _ _ _ _ t in omega arith))))

pub returns-then-n-most : goal.returns-then-n-most
returns-then-n-most c = sym (pick-false _ _ _ (sym (refute _ (λ t. let r = name-rules _ _ _ _ t in omega arith))))

pub returns-then-passed-ne0 : goal.returns-then-passed-ne0
returns-then-passed-ne0 c =
    let some : 1 ≤ c.args.n = omega arith in
    sym (pick-false _ _ _ (sym (name-words _ _ _ _ some c.if-n-most.false) ∙ and-false _ _ (sym c.pass_words-passed.ensures.0 ∙ ne_eqb _ 0 c.if-passed-ne0.true)))

pub returns-then-not-last_word_keeps : goal.returns-then-not-last_word_keeps
returns-then-not-last_word_keeps c =
    let some : 1 ≤ c.args.n = omega arith in
    let words = sym (and-next _ _ (sym c.pass_words-passed.ensures.0 ∙ eq-eqb _ 0 c.if-passed-ne0.false)) ∙ name-words _ _ _ _ some c.if-n-most.false in
    sym (pick-false _ _ _ (sym words ∙ sym c.last_word_keeps.ensures ∙ c.if-not-last_word_keeps.true))

pub returns : goal.returns
unfolding hash_of mixed_words
returns c =
    let some : 1 ≤ c.args.n = omega arith in
    let passed = c.pass_words-passed.ensures in
    let words = sym (and-next _ _ (sym passed.0 ∙ eq-eqb _ 0 c.if-passed-ne0.false)) ∙ name-words _ _ _ _ some c.if-n-most.false in
    ap Some (c.mixed.ensures ∙ rw (passed.1, add-one))
    ∙ sym (pick_true _ _ _ (sym words ∙ sym c.last_word_keeps.ensures ∙ c.if-not-last_word_keeps.false))
