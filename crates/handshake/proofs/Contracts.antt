-- What each public function's contract tells a caller is a step of an exchange of two ends, and nothing is asked of the caller: where a contract
-- in src/ is weakened, this file is refused.
-- Assumes nothing.
use contract.Lifetimes.{Lfts}
use borrow.Fn.Kinds.{Dens, ended_of}
use denote.Triple.Clauses.{AtExit}
use Rattle.vio_model.specs.declared.Ready.{Ready}
use Rattle.vio_model.specs.declared.Answer.{Answer}
use Rattle.vio_model.specs.Step.{SetupPost, StartPost, ReceivePost}
use Rattle.handshake.proofs.setup.Kinds as setup-kinds
use Rattle.handshake.proofs.setup.Reads as setup-reads
use Rattle.handshake.proofs.start.Kinds as start-kinds
use Rattle.handshake.proofs.start.Reads as start-reads
use Rattle.handshake.proofs.receive.Kinds as receive-kinds
use Rattle.handshake.proofs.receive.Reads as receive-reads

pub setup-told : (κs : Lfts 1) (a : Dens κs setup-kinds.ps) (r : Ready) (e : AtExit (ended_of 1 setup-kinds.ps setup-kinds.r) κs) → setup-reads.Learnt κs a r e → SetupPost a.0 a.1.0 a.1.1.0.now r
setup-told κs a r e p = p

pub setup-asks : (κs : Lfts 1) (a : Dens κs setup-kinds.ps) → setup-reads.Asked κs a
setup-asks κs a = tt

pub start-told : (κs : Lfts 1) (a : Dens κs start-kinds.ps) (r : Answer) (e : AtExit (ended_of 1 start-kinds.ps start-kinds.r) κs) → start-reads.Learnt κs a r e → StartPost a.0.now a.1.0 r e.0.now
start-told κs a r e p = p

pub start-asks : (κs : Lfts 1) (a : Dens κs start-kinds.ps) → start-reads.Asked κs a
start-asks κs a = tt

pub receive-told : (κs : Lfts 1) (a : Dens κs receive-kinds.ps) (r : Answer) (e : AtExit (ended_of 1 receive-kinds.ps receive-kinds.r) κs) → receive-reads.Learnt κs a r e → ReceivePost a.0.now a.1.0 a.1.1.0 a.1.1.1.0 r e.0.now
receive-told κs a r e p = p

pub receive-asks : (κs : Lfts 1) (a : Dens κs receive-kinds.ps) → receive-reads.Asked κs a
receive-asks κs a = tt
