-- What the front's contracts tell a caller is the definitions', and nothing is asked of the caller: where a contract in src/ is weakened, this file is refused.
-- Assumes nothing.
use contract.Lifetimes.{Lfts}
use borrow.Fn.Kinds.{Dens, ended_of}
use denote.Triple.Clauses.{AtExit}
use Prim.Native.Nat.{ℕ}
use Rattle.front_model.specs.declared.Piece.{Piece}
use Rattle.front_model.specs.Promises.{PiecePost, ReopenPost}
use Rattle.front.proofs.piece.Kinds as piece-kinds
use Rattle.front.proofs.piece.Reads as piece-reads
use Rattle.front.proofs.reopen.Kinds as reopen-kinds
use Rattle.front.proofs.reopen.Reads as reopen-reads

pub piece-told : (κs : Lfts 6) (a : Dens κs piece-kinds.ps) (r : Piece) (e : AtExit (ended_of 6 piece-kinds.ps piece-kinds.r) κs) → piece-reads.Learnt κs a r e → PiecePost (record { words = a.0.now; bytes = a.1.0.now }) a.1.1.0.now a.1.1.1.1.1.0.now a.1.1.1.0 a.1.1.1.1.0.now a.1.1.1.1.1.1.0.now r (record { words = e.0.now; bytes = e.1.0.now }) e.1.1.0.now e.1.1.1.1.1.0.now e.1.1.1.1.1.1.0.now
piece-told κs a r e p = p

pub piece-asks : (κs : Lfts 6) (a : Dens κs piece-kinds.ps) → piece-reads.Asked κs a
piece-asks κs a = tt

pub reopen-told : (κs : Lfts 3) (a : Dens κs reopen-kinds.ps) (r : ℕ) (e : AtExit (ended_of 3 reopen-kinds.ps reopen-kinds.r) κs) → reopen-reads.Learnt κs a r e → ReopenPost (record { words = a.0.now; bytes = a.1.0.now }) a.1.1.0.now a.1.1.1.0 r (record { words = e.0.now; bytes = a.1.0.now })
reopen-told κs a r e p = p

pub reopen-asks : (κs : Lfts 3) (a : Dens κs reopen-kinds.ps) → reopen-reads.Asked κs a
reopen-asks κs a = tt
