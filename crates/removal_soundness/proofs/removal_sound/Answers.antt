use mathlib.Core.Path.{ap}
use mathlib.Core.Bool.{not}
use native.Mathlib.Omega.{arith}
use mathlib.Core.Path.{sym, ◌∙◌}
use Rattle.basics.proofs.Choice.{clash}
use Rattle.model.specs.Layout.{removal_of}
use Rattle.basics.proofs.Loops.{refute, no, yes}
use Rattle.removal_soundness.proofs.Rules.{removal-rules, removal-last}
use borrow.Author.Rules.{rules}
use Rattle.removal_soundness.proofs.removal_sound.Goals as goal

pub returns-then-state : goal.returns-then-state
unfolding removal_of
returns-then-state c = refute _ (λ t. let r = (removal-rules _ _ _ t).0 in omega (arith, r.channels))

pub returns-then-not-is_ours : goal.returns-then-not-is_ours
unfolding removal_of
returns-then-not-is_ours c = refute _ (λ t. let r = (removal-rules _ _ _ t).0 in clash _ (no _ c.is_ours.ensures (ap not c.if-not-is_ours.true)) r.handles)

pub returns-then-state-lt1 : goal.returns-then-state-lt1
unfolding removal_of
returns-then-state-lt1 c = refute _ (λ t. let r = (removal-rules _ _ _ t).0 in omega (arith, r.some))

pub returns-then-state-2 : goal.returns-then-state-2
unfolding removal_of
returns-then-state-2 c = refute _ (λ t. let r = (removal-rules _ _ _ t).0 in omega (arith, r.few))

pub returns-then-state-3 : goal.returns-then-state-3
unfolding removal_of
returns-then-state-3 c = refute _ (λ t. let r = (removal-rules _ _ _ t).0 in omega (arith, r.within))

pub returns-then-not-collected_sound : goal.returns-then-not-collected_sound
unfolding removal_of
returns-then-not-collected_sound c = refute _ (λ t. clash _ (no _ c.collected_sound.ensures (ap not c.if-not-collected_sound.true)) (rw c.removal_room.ensures (removal-rules _ _ _ t).1))

pub returns : goal.returns
unfolding removal_of
returns c =
    c.results_sound.ensures
    ∙ sym (removal-last _ _ _
    (record {
      channels = omega arith;
      handles = yes _ c.is_ours.ensures (ap not c.if-not-is_ours.false);
      some = omega arith;
      few = omega arith;
      within = omega arith;
    })
    (rw (← c.removal_room.ensures) (yes _ c.collected_sound.ensures (ap not c.if-not-collected_sound.false))))

pub removal_room-requires : goal.removal_room-requires
unfolding removal_of
removal_room-requires c = (search rules, omega arith)

pub results_sound-requires : goal.results_sound-requires
unfolding removal_of
results_sound-requires c = omega arith
