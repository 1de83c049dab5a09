-- What holds of every list of calls of the proved functions, demand 3 first: each call is lent the state and the journal that the call before it left, and
-- what its contract tells holds of what it returned and left. Where a contract in src/ is weakened, this file is refused.
-- Assumes nothing.
use contract.Lifetimes.{Lfts}
use borrow.Fn.Kinds.{Dens, ended_of}
use denote.Triple.Clauses.{AtExit}
use mathlib.Core.Path.{◌≡◌}
use mathlib.Core.List.{List, [], ◌∷◌}
use Prim.Native.Nat.{ℕ}
use Rattle.model.specs.declared.Answer.{Answer}
use Rattle.model.specs.declared.Started.{Started}
use Rattle.model.specs.declared.Worked.{Worked}
use Rattle.model.specs.declared.TakenOrder.{TakenOrder}
use Rattle.model.specs.declared.Drained.{Drained}
use Rattle.model.specs.Calls.{receive, offer, withdraw, close, work, permit, take_order, Call, act, drain, Outcome}
use Rattle.claims.specs.Demand3.{Run, Done, after, new_run}
use Rattle.model.specs.Promises.{answered, worked, taken, emptied}
use Rattle.claims.specs.EveryList.{Meets, answers, works, takes, drains, AllMeet, ListHolds}
use Rattle.claims.proofs.ListsHold as model-proof
use Rattle.agent.proofs.setup.Kinds as setup-kinds
use Rattle.agent.proofs.setup.Reads as setup-reads
use Rattle.agent.proofs.receive.Kinds as receive-kinds
use Rattle.agent.proofs.receive.Reads as receive-reads
use Rattle.agent.proofs.offer.Kinds as offer-kinds
use Rattle.agent.proofs.offer.Reads as offer-reads
use Rattle.agent.proofs.withdraw.Kinds as withdraw-kinds
use Rattle.agent.proofs.withdraw.Reads as withdraw-reads
use Rattle.agent.proofs.close.Kinds as close-kinds
use Rattle.agent.proofs.close.Reads as close-reads
use Rattle.agent.proofs.work.Kinds as work-kinds
use Rattle.agent.proofs.work.Reads as work-reads
use Rattle.agent.proofs.permit.Kinds as permit-kinds
use Rattle.agent.proofs.permit.Reads as permit-reads
use Rattle.agent.proofs.take.Kinds as take-kinds
use Rattle.agent.proofs.take.Reads as take-reads
use Rattle.agent.proofs.drain.Kinds as drain-kinds
use Rattle.agent.proofs.drain.Reads as drain-reads

-- one call of a proved function, lent this state and journal, with what it returned and left; drain is lent its journal to be read
pub data Called (s j : List ℕ) : Call → Outcome → Type 1 where
  received :
      (κs : Lfts 4) (a : Dens κs receive-kinds.ps) (r : Answer) (e : AtExit (ended_of 4 receive-kinds.ps receive-kinds.r) κs) →
      receive-reads.Learnt κs a r e →
      a.0.now ≡ s →
      a.1.1.1.0.now ≡ j →
      Called s j (act (receive a.1.0 a.1.1.0.now) a.1.1.1.1.0.now) (answered r e.0.now e.1.1.1.0.now e.1.1.1.1.0.now)
  offered :
      (κs : Lfts 3) (a : Dens κs offer-kinds.ps) (r : Answer) (e : AtExit (ended_of 3 offer-kinds.ps offer-kinds.r) κs) →
      offer-reads.Learnt κs a r e →
      a.0.now ≡ s →
      a.1.1.1.0.now ≡ j →
      Called s j (act (offer a.1.0 a.1.1.0) a.1.1.1.1.0.now) (answered r e.0.now e.1.1.1.0.now e.1.1.1.1.0.now)
  withdrawn :
      (κs : Lfts 3) (a : Dens κs withdraw-kinds.ps) (r : Answer) (e : AtExit (ended_of 3 withdraw-kinds.ps withdraw-kinds.r) κs) →
      withdraw-reads.Learnt κs a r e →
      a.0.now ≡ s →
      a.1.1.1.0.now ≡ j →
      Called s j (act (withdraw a.1.0 a.1.1.0) a.1.1.1.1.0.now) (answered r e.0.now e.1.1.1.0.now e.1.1.1.1.0.now)
  closed :
      (κs : Lfts 3) (a : Dens κs close-kinds.ps) (r : Answer) (e : AtExit (ended_of 3 close-kinds.ps close-kinds.r) κs) →
      close-reads.Learnt κs a r e →
      a.0.now ≡ s →
      a.1.1.0.now ≡ j →
      Called s j (act (close a.1.0) a.1.1.1.0.now) (answered r e.0.now e.1.1.0.now e.1.1.1.0.now)
  stepped :
      (κs : Lfts 3) (a : Dens κs work-kinds.ps) (r : Worked) (e : AtExit (ended_of 3 work-kinds.ps work-kinds.r) κs) →
      work-reads.Learnt κs a r e →
      a.0.now ≡ s →
      a.1.1.0.now ≡ j →
      Called s j (act (work a.1.0) a.1.1.1.0.now) (worked r e.0.now e.1.1.0.now e.1.1.1.0.now)
  permitted :
      (κs : Lfts 3) (a : Dens κs permit-kinds.ps) (r : Answer) (e : AtExit (ended_of 3 permit-kinds.ps permit-kinds.r) κs) →
      permit-reads.Learnt κs a r e →
      a.0.now ≡ s →
      a.1.1.1.0.now ≡ j →
      Called s j (act (permit a.1.0 a.1.1.0) a.1.1.1.1.0.now) (answered r e.0.now e.1.1.1.0.now e.1.1.1.1.0.now)
  took :
      (κs : Lfts 3) (a : Dens κs take-kinds.ps) (r : TakenOrder) (e : AtExit (ended_of 3 take-kinds.ps take-kinds.r) κs) →
      take-reads.Learnt κs a r e →
      a.0.now ≡ s →
      a.1.0.now ≡ j →
      Called s j (act take_order a.1.1.0.now) (taken r e.0.now e.1.0.now e.1.1.0.now)
  drained :
      (κs : Lfts 3) (a : Dens κs drain-kinds.ps) (r : Drained) (e : AtExit (ended_of 3 drain-kinds.ps drain-kinds.r) κs) →
      drain-reads.Learnt κs a r e →
      a.0.now ≡ s →
      a.1.0.now ≡ j →
      Called s j (drain a.1.1.0.now) (emptied r e.0.now j e.1.1.0.now)

-- a list of them, one after the other
pub data CalledAll : Run → List Done → Type 1 where
  none : {u : Run} → CalledAll u []
  next : {u : Run} (d : Done) {ds : List Done} → Called u.state u.journal d.call d.gave → CalledAll (after u d) ds → CalledAll u (d ∷ ds)

pub meets : {s j : List ℕ} {c : Call} {r : Outcome} → Called s j c r → Meets s j c r
meets (received κs a r e p s j) = answers (rw (s, j) at p)
meets (offered κs a r e p s j) = answers (rw (s, j) at p)
meets (withdrawn κs a r e p s j) = answers (rw (s, j) at p)
meets (closed κs a r e p s j) = answers (rw (s, j) at p)
meets (stepped κs a r e p s j) = works (rw (s, j) at p)
meets (permitted κs a r e p s j) = answers (rw (s, j) at p)
meets (took κs a r e p s j) = takes (rw (s, j) at p)
meets (drained κs a r e p s j) = drains (rw (s, j) at p)

all_meet : {u : Run} {ds : List Done} → CalledAll u ds → AllMeet u ds
unfolding AllMeet
all_meet none = tt
all_meet (next d c cs) = (meets c, all_meet cs)

-- From a setup that is not refused, lent a journal of any words: demand 3, and what the tickets claim of the same lists. The first call is lent the journal that setup left.
pub lists-hold : (κs : Lfts 4) (a : Dens κs setup-kinds.ps) (r : Started) (e : AtExit (ended_of 4 setup-kinds.ps setup-kinds.r) κs) → setup-reads.Learnt κs a r e → r.refusal ≡ 0 → (ds : List Done) → CalledAll (new_run r.state e.1.1.1.0.now) ds → ListHolds (record { blocks = a.0.now; devices = a.1.0.now; ids = a.1.1.0.now }) r.state e.1.1.1.0.now ds
lists-hold κs a r e p z ds t =
    model-proof.lists-hold (record { blocks = a.0.now; devices = a.1.0.now; ids = a.1.1.0.now }) r a.1.1.1.0.now e.1.1.1.0.now ds p z (all_meet t)
