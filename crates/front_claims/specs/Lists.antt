-- 02, ticket 9: "in demand 3's list a front call stands for the receive that it makes, if any": lists with front calls, and the claim of them.
-- Assumes nothing.
use Rattle.std.specs.Prelude.{ℕ, ◌≡◌, List, [], ◌∷◌, ◌++◌, length, eqb}
use Rattle.basics.specs.Choice.{pick}
use Rattle.model.specs.Blocks.{Lists}
use Rattle.model.specs.Calls.{act, receive}
use Rattle.claims.specs.Demand3.{Done, runs, new_run}
use Rattle.claims.specs.EveryList.{Meets, ListHolds}
use Rattle.model.specs.Promises.{SetupPost}
use Rattle.model.specs.declared.Started.{Started}
use Rattle.front_model.specs.Front.{Front, part_of, parts_of}
use Rattle.front_model.specs.Calls.{Taking, all, gives, taking, piece_refusal, Pieced, pieced, Reopened, reopened}
use Rattle.front_model.specs.Promises.{FrontKept}

-- A call, with what it returned and left: a piece on a channel, lent an output; a reopening of a channel; or a call of the agent.
pub data FrontDone : Type 0 where
  piecing : ℕ → List ℕ → List ℕ → Pieced → Front → FrontDone
  reopening : ℕ → Reopened → Front → FrontDone
  calling : Done → FrontDone

-- what the calls so far have left
pub record Standing : Type 0 where
  pub front : Front
  pub state : List ℕ
  pub journal : List ℕ

unfoldable pub stands : Standing → FrontDone → Standing
stands u (piecing c b out r f) = record { front = f; state = r.state; journal = r.journal }
stands u (reopening c r f) = record { front = f; state = u.state; journal = u.journal }
stands u (calling d) = record { front = u.front; state = d.gave.state; journal = d.gave.journal }

unfoldable pub stands_after : Standing → List FrontDone → Standing
stands_after u [] = u
stands_after u (d ∷ ds) = stands_after (stands u d) ds

-- The contracts: what is returned and left is the definition's.
unfoldable pub FrontMeets : Standing → FrontDone → Type 0
FrontMeets u (piecing c b out r f) = (r ≡ pieced u.front u.state u.journal c b out) × (parts_of f ≡ r.parts) × FrontKept u.front f r.refusal
FrontMeets u (reopening c r f) = (r ≡ reopened u.front u.state c) × (parts_of f ≡ r.parts) × FrontKept u.front f r.refusal
FrontMeets u (calling d) = Meets u.state u.journal d.call d.gave

unfoldable pub AllFrontMeet : Standing → List FrontDone → Type 0
AllFrontMeet u [] = Unit {0}
AllFrontMeet u (d ∷ ds) = FrontMeets u d × AllFrontMeet (stands u d) ds

-- "stands for the receive that it makes, if any": with what the piece returned and left
unfoldable pub receive_of : ℕ → List ℕ → Pieced → Taking → List Done
receive_of c out r (all p) = []
receive_of c out r (gives m n p) =
    record { call = act (receive c m) out; gave = record { refusal = r.refusal; count = r.count; pages = 0; state = r.state; journal = r.journal; buffer = r.buffer } } ∷ []

unfoldable pub stands_for : Standing → FrontDone → List Done
stands_for u (piecing c b out r f) =
    pick (eqb (piece_refusal u.front u.state (length u.journal) (length out) c) 0) (receive_of c out r (taking (part_of u.front c) b)) []
stands_for u (reopening c r f) = []
stands_for u (calling d) = d ∷ []

unfoldable pub made_by : Standing → List FrontDone → List Done
made_by u [] = []
made_by u (d ∷ ds) = stands_for u d ++ made_by (stands u d) ds

-- What holds of a list with front calls: all that holds of the list of the calls that it stands for, which leaves the same state and journal.
pub record FrontListHolds (l : Lists) (u : Standing) (ds : List FrontDone) : Type 0 where
  pub holds : ListHolds l u.state u.journal (made_by u ds)
  pub state : (runs (new_run u.state u.journal) (made_by u ds)).state ≡ (stands_after u ds).state
  pub journal : (runs (new_run u.state u.journal) (made_by u ds)).journal ≡ (stands_after u ds).journal

-- from a setup that is not refused, and a front of any words and bytes
abbrev pub FrontListsHold : Type 0
FrontListsHold =
    (l : Lists) (r : Started) (j j' : List ℕ) (f : Front) (ds : List FrontDone) →
    SetupPost l j r j' →
    r.refusal ≡ 0 →
    AllFrontMeet (record { front = f; state = r.state; journal = j' }) ds →
    FrontListHolds l (record { front = f; state = r.state; journal = j' }) ds
