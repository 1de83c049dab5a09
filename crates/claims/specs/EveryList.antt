-- What holds of every list of calls that meet their contracts, demand 3 first. The state, the journal and the output (or drain's run) are lent: what a call
-- leaves of them is an argument.
-- Assumes nothing.
use Rattle.std.specs.Prelude.{ℕ, ◌≡◌, true, List, [], ◌∷◌}
use Rattle.model.specs.declared.Answer.{Answer}
use Rattle.model.specs.declared.Worked.{Worked}
use Rattle.model.specs.declared.Drained.{Drained}
use Rattle.model.specs.declared.Started.{Started}
use Rattle.model.specs.declared.TakenOrder.{TakenOrder}
use Rattle.model.specs.Blocks.{Lists, accepted_blocks}
use Rattle.model.specs.Calls.{Action, work, take_order, Call, act, drain, Outcome}
use Rattle.claims.specs.Demand3.{Run, Done, after, runs, new_run, entries, Demand3}
use Rattle.model.specs.Reading.{view_of}
use Rattle.model.specs.Replay.{good, checked}
use Rattle.claims.specs.Repeats.{Repeats}
use Rattle.claims.specs.Ends.{Ends}
use Rattle.model.specs.Promises.{answered, worked, taken, emptied, SetupPost, ActionPost, WorkPost, TakePost, DrainPost}

-- what a call may return and leave, given a state and a journal: what its contract tells
pub data Meets (s j : List ℕ) : Call → Outcome → Type 0 where
  answers :
      {a : Action} {out : List ℕ} {r : Answer} {s' j' out' : List ℕ} →
      ActionPost s j a out r s' j' out' →
      Meets s j (act a out) (answered r s' j' out')
  works :
      {budget : ℕ} {out : List ℕ} {r : Worked} {s' j' out' : List ℕ} →
      WorkPost s j budget out r s' j' out' →
      Meets s j (act (work budget) out) (worked r s' j' out')
  takes :
      {out : List ℕ} {r : TakenOrder} {s' j' out' : List ℕ} →
      TakePost s j out r s' j' out' →
      Meets s j (act take_order out) (taken r s' j' out')
  drains :
      {run : List ℕ} {r : Drained} {s' j' run' : List ℕ} →
      DrainPost s j run r s' j' run' →
      Meets s j (drain run) (emptied r s' j' run')

-- each call of a list meets its contract, lent the state and the journal that the call before it left
unfoldable pub AllMeet : Run → List Done → Type 0
AllMeet u [] = Unit {0}
AllMeet u (d ∷ ds) = Meets u.state u.journal d.call d.gave × AllMeet (after u d) ds

-- A claim of every list of calls that meet their contracts, from a setup that meets its contract and does not refuse, lent a journal of any words: of the lists that
-- setup was given, the state and the journal that it left and the calls made, each with what it returned and left.
abbrev pub OfEveryList : (Lists → List ℕ → List ℕ → List Done → Type 0) → Type 0
OfEveryList P =
    (l : Lists) (r : Started) (j j' : List ℕ) (ds : List Done) →
    SetupPost l j r j' →
    r.refusal ≡ 0 →
    AllMeet (new_run r.state j') ds →
    P l r.state j' ds

-- 02, ticket 3: "the entries of every list of demand 3 pass with its block list": the reader takes the block list, and the entries, drained, then held, are
-- all good and show what the last state has
pub record Passes (l : Lists) (s j : List ℕ) (ds : List Done) : Type 0 where
  pub listed : accepted_blocks l.blocks ≡ true
  pub checks : checked l (entries (runs (new_run s j) ds)) ≡ good (runs (new_run s j) ds).number (view_of (runs (new_run s j) ds).state)

-- What holds of a list of calls: demand 3, and what the tickets claim of the same lists.
pub record ListHolds (l : Lists) (s j : List ℕ) (ds : List Done) : Type 0 where
  pub demand3 : Demand3 l s j ds (runs (new_run s j) ds)
  pub repeats : Repeats s j ds
  pub ends : Ends l s j ds
  pub passes : Passes l s j ds

abbrev pub ListsHold : Type 0
ListsHold = OfEveryList ListHolds
