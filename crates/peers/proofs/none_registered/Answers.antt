-- `peers::none_registered` meets its contract: none of the channels passed has a mark.
-- Assumes nothing.
use native.Mathlib.Omega.{arith}
use mathlib.Core.Bool.{Bool, true, false}
use mathlib.Core.Path.{◌≡◌, refl, sym, ◌∙◌}
use Prim.Native.Nat.{ℕ, ◌+◌, ◌<◌}
use lib.Dec.{eqb}
use borrow.Author.Tests.{eqb-true, eqb-false}
use Rattle.model.specs.Layout.{channel_count, peered_at}
use Rattle.basics.proofs.Choice.{both}
use Rattle.names.proofs.Bytes.{both-pass}
use Rattle.peers.proofs.none_registered.Goals as goal

-- one channel more
next : (f : ℕ → ℕ → ℕ) (n : ℕ) → ((i : ℕ) → i < n → (p : ℕ) → f i p ≡ 0) → ((p : ℕ) → f n p ≡ 0) → (i : ℕ) → i < n + 1 → (p : ℕ) → f i p ≡ 0
next f n before here i h p = go (eqb i n) refl
  where
    go : (b : Bool) → eqb i n ≡ b → f i p ≡ 0
    go true e = rw (eqb-true i n e) (here p)
    go false e = let o = eqb-false i n e in before i (omega arith) p

pub loop-c-preserved : goal.loop-c-preserved
loop-c-preserved c =
    let l = c.loop-c in
    let s = c.args.state.now in λ t.
    let b = both _ _ (sym (both-pass l.none c.none_marked-none.result) ∙ t) in
    next (peered_at s) l.c (l.invariant b.0) (c.none_marked-none.ensures b.1)

pub returns : goal.returns
returns c =
    let past : c.loop-c.c ≡ channel_count = omega (arith, c.loop-c.auto.c-end, c.loop-c-test.false) in
    λ t i h. c.loop-c.invariant t i (omega arith)

pub loop-c-init : goal.loop-c-init
loop-c-init c = λ _ i h. absurd (omega arith)
