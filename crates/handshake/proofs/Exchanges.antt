-- The theorem of two ends for every exchange of calls of the proved functions: each receive is lent the end as the call before it left it, and
-- the words of the one message that is on its way. Where a contract in src/ is weakened, this file is refused.
-- Assumes nothing.
use contract.Lifetimes.{Lfts}
use borrow.Fn.Kinds.{Dens, ended_of}
use denote.Triple.Clauses.{AtExit}
use mathlib.Core.Path.{◌≡◌, refl}
use mathlib.Core.Bool.{Bool, true, false}
use mathlib.Core.List.{List, [], ◌∷◌}
use Prim.Native.Nat.{ℕ, ◌*◌, ◌≤◌}
use native.Mathlib.Omega.{arith}
use lib.ListN.{length}
use Rattle.basics.specs.Choice.{pick}
use Rattle.vio_model.specs.declared.Ready.{Ready}
use Rattle.vio_model.specs.declared.Answer.{Answer}
use Rattle.vio_model.specs.Layout.{class_of, accepts_of, versions_of}
use Rattle.vio_model.specs.Versions.{count_of, accepted_list}
use Rattle.vio_model.specs.Sound.{sound}
use Rattle.vio_model.specs.Calls.{ready}
use Rattle.vio_model.specs.TwoEnds.{Exchange, none, to_other, to_starter, sent, EndsSettled, EndsRefused}
use Rattle.vio_model.specs.Step.{outcome_of, Step, other_receives, starter_receives, Steps, done, more, opened}
use Rattle.vio_model.proofs.Linked.{linked}
use Rattle.vio_model.proofs.Setup.{sound-kept}
use Rattle.handshake.proofs.setup.Kinds as setup-kinds
use Rattle.handshake.proofs.setup.Reads as setup-reads
use Rattle.handshake.proofs.start.Kinds as start-kinds
use Rattle.handshake.proofs.start.Reads as start-reads
use Rattle.handshake.proofs.receive.Kinds as receive-kinds
use Rattle.handshake.proofs.receive.Reads as receive-reads

-- one call of the proved receive, by the end that the message is on its way to
pub data Received (x : Exchange) : ℕ → Exchange → Type 1 where
  by_other :
      (κs : Lfts 1) (a : Dens κs receive-kinds.ps) (r : Answer) (e : AtExit (ended_of 1 receive-kinds.ps receive-kinds.r) κs) →
      receive-reads.Learnt κs a r e →
      a.0.now ≡ x.other →
      x.flight ≡ to_other (record { first = a.1.1.0; second = a.1.1.1.0 }) →
      Received x a.1.0 (record { starter = x.starter; other = e.0.now; flight = sent to_starter (outcome_of r e.0.now) })
  by_starter :
      (κs : Lfts 1) (a : Dens κs receive-kinds.ps) (r : Answer) (e : AtExit (ended_of 1 receive-kinds.ps receive-kinds.r) κs) →
      receive-reads.Learnt κs a r e →
      a.0.now ≡ x.starter →
      x.flight ≡ to_starter (record { first = a.1.1.0; second = a.1.1.1.0 }) →
      Received x a.1.0 (record { starter = e.0.now; other = x.other; flight = sent to_other (outcome_of r e.0.now) })

-- one after the other
pub data ReceivedAll : Exchange → List ℕ → Exchange → Type 1 where
  last : {x : Exchange} → ReceivedAll x [] x
  next : {x y z : Exchange} {id : ℕ} {ids : List ℕ} → Received x id y → ReceivedAll y ids z → ReceivedAll x (id ∷ ids) z

step_of : {x y : Exchange} {id : ℕ} → Received x id y → Step x id y
step_of (by_other κs a r e p s f) = other_receives f (rw s at p)
step_of (by_starter κs a r e p s f) = starter_receives f (rw s at p)

steps_of : {x y : Exchange} {ids : List ℕ} → ReceivedAll x ids y → Steps x ids y
steps_of last = done
steps_of (next s t) = more (step_of s) (steps_of t)

-- Two sound ends of which the other accepts the starter's class; the starter starts.
pub two_ends_lem : (κs : Lfts 1) (a : Dens κs start-kinds.ps) (r : Answer) (e : AtExit (ended_of 1 start-kinds.ps start-kinds.r) κs) → start-reads.Learnt κs a r e → (b : List ℕ) (ids : List ℕ) (x : Exchange) → sound a.0.now ≡ true → sound b ≡ true → accepts_of b ≡ class_of a.0.now → ReceivedAll (opened e.0.now b r) ids x → (length ids ≤ count_of (versions_of a.0.now) * 2) × (x.flight ≡ none → EndsSettled a.0.now b x)
two_ends_lem κs a r e p b ids x s t c m = linked.two_ends a.0.now b a.1.0 ids r e.0.now x s t c p (steps_of m)

-- Two sound ends of which the other does not accept the starter's class.
pub wrong-class : (κs : Lfts 1) (a : Dens κs start-kinds.ps) (r : Answer) (e : AtExit (ended_of 1 start-kinds.ps start-kinds.r) κs) → start-reads.Learnt κs a r e → (b : List ℕ) (ids : List ℕ) (x : Exchange) → sound a.0.now ≡ true → sound b ≡ true → (accepts_of b ≡ class_of a.0.now → ⊥) → ReceivedAll (opened e.0.now b r) ids x → (length ids ≤ 2) × (x.flight ≡ none → EndsRefused x)
wrong-class κs a r e p b ids x s t c m = linked.wrong_class a.0.now b a.1.0 ids r e.0.now x s t c p (steps_of m)

-- setup refuses by 7 and nothing else, so where it does not refuse the list is accepted
refusal-of : (b : Bool) (x y : Ready) → x.refusal ≡ 0 → y.refusal ≡ 7 → (pick b x y).refusal ≡ 0 → b ≡ true
unfolding pick
refusal-of true x y p q e = refl
refusal-of false x y p q e = absurd (omega arith)

-- An end of an accepted setup is sound.
pub setup-sound : (κs : Lfts 1) (a : Dens κs setup-kinds.ps) (r : Ready) (e : AtExit (ended_of 1 setup-kinds.ps setup-kinds.r) κs) → setup-reads.Learnt κs a r e → r.refusal ≡ 0 → sound r.end ≡ true
unfolding ready pick
setup-sound κs a r e p z =
    let l = a.1.1.0.now in
    let t : accepted_list l ≡ true = refusal-of (accepted_list l) _ _ refl refl (rw p.outcome at z) in
    rw (p.outcome, t) (sound-kept.after_setup a.0 a.1.0 l p.classes p.accepted t).0
