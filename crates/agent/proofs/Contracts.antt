-- What each public function's contract tells a caller is the contract of demand 3's list, and nothing is asked of the caller: where a contract
-- in src/ is weakened, this file is refused.
-- Assumes nothing.
use contract.Lifetimes.{Lfts}
use borrow.Fn.Kinds.{Dens, ended_of, res_t}
use denote.Triple.Clauses.{AtExit}
use Rattle.model.specs.declared.Answer.{Answer}
use Rattle.model.specs.declared.Started.{Started}
use Rattle.model.specs.declared.Worked.{Worked}
use Rattle.model.specs.declared.TakenOrder.{TakenOrder}
use Rattle.model.specs.declared.Drained.{Drained}
use Rattle.model.specs.Promises.{SetupPost, ReceivePost, OfferPost, WithdrawPost, ClosePost, WorkPost, PermitPost, TakePost, DrainPost, ShowPost}
use Rattle.agent.proofs.setup.Kinds as setup-kinds
use Rattle.agent.proofs.setup.Reads as setup-reads
use Rattle.agent.proofs.offer.Kinds as offer-kinds
use Rattle.agent.proofs.offer.Reads as offer-reads
use Rattle.agent.proofs.withdraw.Kinds as withdraw-kinds
use Rattle.agent.proofs.withdraw.Reads as withdraw-reads
use Rattle.agent.proofs.close.Kinds as close-kinds
use Rattle.agent.proofs.close.Reads as close-reads
use Rattle.agent.proofs.receive.Kinds as receive-kinds
use Rattle.agent.proofs.receive.Reads as receive-reads
use Rattle.agent.proofs.work.Kinds as work-kinds
use Rattle.agent.proofs.work.Reads as work-reads
use Rattle.agent.proofs.permit.Kinds as permit-kinds
use Rattle.agent.proofs.permit.Reads as permit-reads
use Rattle.agent.proofs.take.Kinds as take-kinds
use Rattle.agent.proofs.take.Reads as take-reads
use Rattle.agent.proofs.drain.Kinds as drain-kinds
use Rattle.agent.proofs.drain.Reads as drain-reads
use Rattle.agent.proofs.show.Kinds as show-kinds
use Rattle.agent.proofs.show.Reads as show-reads

pub setup-told : (κs : Lfts 4) (a : Dens κs setup-kinds.ps) (r : Started) (e : AtExit (ended_of 4 setup-kinds.ps setup-kinds.r) κs) → setup-reads.Learnt κs a r e → SetupPost (record { blocks = a.0.now; devices = a.1.0.now; ids = a.1.1.0.now }) a.1.1.1.0.now r e.1.1.1.0.now
setup-told κs a r e p = p

pub setup-asks : (κs : Lfts 4) (a : Dens κs setup-kinds.ps) → setup-reads.Asked κs a
setup-asks κs a = tt

pub offer-told : (κs : Lfts 3) (a : Dens κs offer-kinds.ps) (r : Answer) (e : AtExit (ended_of 3 offer-kinds.ps offer-kinds.r) κs) → offer-reads.Learnt κs a r e → OfferPost a.0.now a.1.1.1.0.now a.1.0 a.1.1.0 a.1.1.1.1.0.now r e.0.now e.1.1.1.0.now e.1.1.1.1.0.now
offer-told κs a r e p = p

pub offer-asks : (κs : Lfts 3) (a : Dens κs offer-kinds.ps) → offer-reads.Asked κs a
offer-asks κs a = tt

pub withdraw-told : (κs : Lfts 3) (a : Dens κs withdraw-kinds.ps) (r : Answer) (e : AtExit (ended_of 3 withdraw-kinds.ps withdraw-kinds.r) κs) → withdraw-reads.Learnt κs a r e → WithdrawPost a.0.now a.1.1.1.0.now a.1.0 a.1.1.0 a.1.1.1.1.0.now r e.0.now e.1.1.1.0.now e.1.1.1.1.0.now
withdraw-told κs a r e p = p

pub withdraw-asks : (κs : Lfts 3) (a : Dens κs withdraw-kinds.ps) → withdraw-reads.Asked κs a
withdraw-asks κs a = tt

pub close-told : (κs : Lfts 3) (a : Dens κs close-kinds.ps) (r : Answer) (e : AtExit (ended_of 3 close-kinds.ps close-kinds.r) κs) → close-reads.Learnt κs a r e → ClosePost a.0.now a.1.1.0.now a.1.0 a.1.1.1.0.now r e.0.now e.1.1.0.now e.1.1.1.0.now
close-told κs a r e p = p

pub close-asks : (κs : Lfts 3) (a : Dens κs close-kinds.ps) → close-reads.Asked κs a
close-asks κs a = tt

pub show-asks : (κs : Lfts 2) (a : Dens κs show-kinds.ps) → show-reads.Asked κs a
show-asks κs a = tt

pub show-told : (κs : Lfts 2) (a : Dens κs show-kinds.ps) (r : (res_t show-kinds.r κs).Denot) (e : AtExit (ended_of 2 show-kinds.ps show-kinds.r) κs) → show-reads.Learnt κs a r e → ShowPost a.0.now a.1.0 a.1.1.0.now r.now
show-told κs a r e p = p

pub receive-told : (κs : Lfts 4) (a : Dens κs receive-kinds.ps) (r : Answer) (e : AtExit (ended_of 4 receive-kinds.ps receive-kinds.r) κs) → receive-reads.Learnt κs a r e → ReceivePost a.0.now a.1.1.1.0.now a.1.0 a.1.1.0.now a.1.1.1.1.0.now r e.0.now e.1.1.1.0.now e.1.1.1.1.0.now
receive-told κs a r e p = p

pub receive-asks : (κs : Lfts 4) (a : Dens κs receive-kinds.ps) → receive-reads.Asked κs a
receive-asks κs a = tt

pub work-told : (κs : Lfts 3) (a : Dens κs work-kinds.ps) (r : Worked) (e : AtExit (ended_of 3 work-kinds.ps work-kinds.r) κs) → work-reads.Learnt κs a r e → WorkPost a.0.now a.1.1.0.now a.1.0 a.1.1.1.0.now r e.0.now e.1.1.0.now e.1.1.1.0.now
work-told κs a r e p = p

pub work-asks : (κs : Lfts 3) (a : Dens κs work-kinds.ps) → work-reads.Asked κs a
work-asks κs a = tt

pub permit_told : (κs : Lfts 3) (a : Dens κs permit-kinds.ps) (r : Answer) (e : AtExit (ended_of 3 permit-kinds.ps permit-kinds.r) κs) → permit-reads.Learnt κs a r e → PermitPost a.0.now a.1.1.1.0.now a.1.0 a.1.1.0 a.1.1.1.1.0.now r e.0.now e.1.1.1.0.now e.1.1.1.1.0.now
permit_told κs a r e p = p

pub permit-asks : (κs : Lfts 3) (a : Dens κs permit-kinds.ps) → permit-reads.Asked κs a
permit-asks κs a = tt

pub take-told : (κs : Lfts 3) (a : Dens κs take-kinds.ps) (r : TakenOrder) (e : AtExit (ended_of 3 take-kinds.ps take-kinds.r) κs) → take-reads.Learnt κs a r e → TakePost a.0.now a.1.0.now a.1.1.0.now r e.0.now e.1.0.now e.1.1.0.now
take-told κs a r e p = p

pub take-asks : (κs : Lfts 3) (a : Dens κs take-kinds.ps) → take-reads.Asked κs a
take-asks κs a = tt

-- drain is lent its journal to be read: the journal after it is the journal before it
pub drain-told : (κs : Lfts 3) (a : Dens κs drain-kinds.ps) (r : Drained) (e : AtExit (ended_of 3 drain-kinds.ps drain-kinds.r) κs) → drain-reads.Learnt κs a r e → DrainPost a.0.now a.1.0.now a.1.1.0.now r e.0.now a.1.0.now e.1.1.0.now
drain-told κs a r e p = p

pub drain-asks : (κs : Lfts 3) (a : Dens κs drain-kinds.ps) → drain-reads.Asked κs a
drain-asks κs a = tt
