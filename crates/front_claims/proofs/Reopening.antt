-- A reopening leaves an empty front of its channel.
-- Assumes nothing.
use Prim.Native.Nat.{ℕ, ◌<◌}
use mathlib.Core.Path.{◌≡◌, refl}
use mathlib.Core.Bool.{true}
use mathlib.Core.List.{List, []}
use lib.Dec.{eqb}
use borrow.Author.Tests.{eqb-true, eqb-false, ltb-true, lt-ltb, not-false}
use Rattle.basics.specs.Choice.{pick, ◌and◌}
use Rattle.model.specs.Layout.{channel_count}
use Rattle.model.specs.State.{sound}
use Rattle.model.specs.Refusals.{refusal_in}
use Rattle.basics.proofs.Choice.{on-pick}
use Rattle.model.proofs.Calls.{row-passed}
use Rattle.front_model.specs.Front.{Front, keeps, parts_of, front_sound}
use Rattle.front_model.specs.Calls.{reopen_refusal, Reopened, reopened}
use Rattle.front_claims.specs.Dropping.{ReopeningEmpties, ReopenLeaves}
use Rattle.front_claims.proofs.Parts.{part_at, part-of, part-after, set-elsewhere}

module _ (f : Front) (s : List ℕ) (c : ℕ) where
  in-range : reopen_refusal f s c ≡ 0 → c < channel_count
  unfolding reopen_refusal
  in-range e = ltb-true _ _ (not-false _ (row-passed _ _ refl (row-passed _ _ refl e).1).0)

  none-tested : sound s ≡ true → front_sound f ≡ true → c < channel_count → reopen_refusal f s c ≡ 0
  unfolding reopen_refusal refusal_in pick ◌and◌
  none-tested a b h = rw (a, b, lt-ltb c channel_count h)

pub reopening-empties : ReopeningEmpties
unfolding reopened
reopening-empties f f' s c =
    on-pick (λ (r : Reopened). parts_of f' ≡ r.parts → ReopenLeaves f f' s c r.refusal) (eqb (reopen_refusal f s c) 0) _ _
    (λ e l. record {
      accepted = λ a b h. refl;
      empty = λ z. part-after f f' c (keeps []) (in-range f s c (eqb-true _ 0 e)) l;
      others = λ k h n. part-of f' _ k _ h l (set-elsewhere f c (keeps []) k h n);
      refused = λ z. absurd (z refl);
    })
    (λ e l. record {
      accepted = none-tested f s c;
      empty = λ z. absurd (eqb-false _ 0 e z);
      others = λ k h n. part-of f' _ k _ h l (part_at f k h);
      refused = λ z. l;
    })
