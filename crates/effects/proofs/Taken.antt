-- The effect of an accepted call is good.
-- Assumes nothing.
use Prim.Native.Nat.{ℕ, ◌≤◌, ◌<◌}
use native.Mathlib.Omega.{arith}
use mathlib.Core.Path.{◌≡◌}
use mathlib.Core.Bool.{true}
use mathlib.Core.List.{List}
use lib.ListN.{length}
use borrow.Author.Tests.{ltb-true, leb-true, eqb-true, eqb-false, not-true}
use Rattle.model.specs.Messages.{Effect}
use Rattle.model.specs.Calls.{Action, allowed, close, effect_of, in_range, offer, receive, refusal_of, withdraw, work, permit, take_order}
use Rattle.basics.proofs.Choice.{both}
use Rattle.model.proofs.Rules.{sound-facts, Given}
use Rattle.effects.proofs.Effects.{Good, closing-good, offering-good, withdrawing-good}
use Rattle.effects.proofs.WorkEffects.{working-good}
use Rattle.effects.proofs.ReceiveEffects.{receiving-good}
use Rattle.effects.proofs.OrderEffects.{permitting-good, taking-good}
use Rattle.model.specs.Layout.{channel_count, held_of, journal_words, most_budget, most_held, output_bytes, service_count, stage_idle, state_words, shutdown_service, panic_service}
use Rattle.model.proofs.Calls.{passed}

-- an accepted action's effect is good
pub action-good : (s : List ℕ) (g : Given s) (a : Action) → in_range a ≡ true → allowed s a ≡ true → Good s (effect_of s a)
unfolding in_range allowed effect_of
action-good s g (receive c m) r p = receiving-good s g c m (ltb-true c channel_count r)
action-good s g (offer c v) r p =
    let b = both _ _ r in
    offering-good s g c v (ltb-true c channel_count b.0) (ltb-true v service_count b.1) (eqb-true _ 1 (both _ _ p).0) (eqb-true _ stage_idle (both _ _ p).1)
action-good s g (withdraw c v) r p =
    let b = both _ _ r in
    withdrawing-good s g c v (ltb-true c channel_count b.0) (ltb-true v service_count b.1) (eqb-false _ stage_idle (not-true _ p))
action-good s g (close c) r p = closing-good s g c 0 (ltb-true c channel_count r)
action-good s g (work budget) r p =
    let b = both _ _ r in
    working-good s g budget p (leb-true 1 budget b.0) (leb-true budget most_budget b.1)
action-good s g (permit v permitted) r p =
    let b = both _ _ r in
    let most = leb-true v panic_service b.1 in
    permitting-good s g v permitted (leb-true shutdown_service v b.0) (omega arith)
action-good s g take_order r p = taking-good s g

-- an accepted action
pub record Taken (s j out : List ℕ) (e : Effect) : Type 0 where
  pub words : length j ≡ journal_words
  pub bytes : output_bytes ≤ length out
  pub room : held_of s < most_held
  pub given : Given s
  pub good : Good s e

pub taken : (s j out : List ℕ) (a : Action) → length s ≡ state_words → refusal_of s j out a ≡ 0 → Taken s j out (effect_of s a)
unfolding refusal_of
taken s j out a size z =
    let p = passed s (length j) (length out) (in_range a) (allowed s a) z in
    let g : Given s = record { size = size; facts = sound-facts s p.is_sound; number = p.number } in
    record {
      words = p.journal;
      bytes = p.output;
      room = p.room;
      given = g;
      good = action-good s g a p.is_within p.is_allowed;
    }
