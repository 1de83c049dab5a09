-- The contracts of the calls, and exchanges as the contracts allow them. An end is lent: what a call leaves of it is an argument.
-- Assumes nothing.
use Rattle.std.specs.Prelude.{ℕ, ◌*◌, ◌≤◌, ◌<◌, ◌≡◌, true, List, [], ◌∷◌, length}
use Rattle.vio_model.specs.declared.Ready.{Ready}
use Rattle.vio_model.specs.declared.Answer.{Answer}
use Rattle.vio_model.specs.Layout.{class_of, accepts_of, versions_of}
use Rattle.vio_model.specs.Versions.{count_of}
use Rattle.vio_model.specs.Sound.{class_limit, id_limit, sound}
use Rattle.vio_model.specs.Calls.{Outcome, ready, started, received}
use Rattle.vio_model.specs.TwoEnds.{Exchange, none, to_other, to_starter, sent, EndsSettled, EndsRefused}

-- what a function returned and left, as an outcome
abbrev pub outcome_of : Answer → List ℕ → Outcome
outcome_of r w = record {
  refusal = r.refusal;
  count = r.count;
  first = r.first;
  second = r.second;
  end = w;
}

-- The contracts: given an end and the call's own arguments, what may be returned and left. A class has the 8 bits and a session id the 32 bits
-- of the parameter's type.
pub record SetupPost (class accepts : ℕ) (l : List ℕ) (r : Ready) : Type 0 where
  pub classes : class < class_limit
  pub accepted : accepts < class_limit
  pub outcome : r ≡ ready class accepts l

pub record StartPost (w : List ℕ) (id : ℕ) (r : Answer) (w' : List ℕ) : Type 0 where
  pub fits : id < id_limit
  pub outcome : outcome_of r w' ≡ started w id

pub record ReceivePost (w : List ℕ) (id first second : ℕ) (r : Answer) (w' : List ℕ) : Type 0 where
  pub fits : id < id_limit
  pub outcome : outcome_of r w' ≡ received w id (record { first = first; second = second })

-- one receive of the message that is on its way: its contract held between what it was given and what it left
pub data Step (x : Exchange) : ℕ → Exchange → Type 0 where
  other_receives :
      {id first second : ℕ} {r : Answer} {w : List ℕ} →
      x.flight ≡ to_other (record { first = first; second = second }) →
      ReceivePost x.other id first second r w →
      Step x id (record { starter = x.starter; other = w; flight = sent to_starter (outcome_of r w) })
  starter_receives :
      {id first second : ℕ} {r : Answer} {w : List ℕ} →
      x.flight ≡ to_starter (record { first = first; second = second }) →
      ReceivePost x.starter id first second r w →
      Step x id (record { starter = w; other = x.other; flight = sent to_other (outcome_of r w) })

-- one after the other, with a session id for each
pub data Steps : Exchange → List ℕ → Exchange → Type 0 where
  done : {x : Exchange} → Steps x [] x
  more : {x y z : Exchange} {id : ℕ} {ids : List ℕ} → Step x id y → Steps y ids z → Steps x (id ∷ ids) z

-- after a start
abbrev pub opened : List ℕ → List ℕ → Answer → Exchange
opened w b r = record { starter = w; other = b; flight = sent to_other (outcome_of r w) }

-- The claim for every exchange that the contracts allow: it has no more receives than that, and where no message is on its way any more,
-- it is settled.
pub record LinkedHolds : Type 0 where
  pub two_ends :
      (a b : List ℕ) (id : ℕ) (ids : List ℕ) (r : Answer) (w : List ℕ) (x : Exchange) →
      sound a ≡ true →
      sound b ≡ true →
      accepts_of b ≡ class_of a →
      StartPost a id r w →
      Steps (opened w b r) ids x →
      (length ids ≤ count_of (versions_of a) * 2) × (x.flight ≡ none → EndsSettled a b x)
  pub wrong_class :
      (a b : List ℕ) (id : ℕ) (ids : List ℕ) (r : Answer) (w : List ℕ) (x : Exchange) →
      sound a ≡ true →
      sound b ≡ true →
      (accepts_of b ≡ class_of a → ⊥) →
      StartPost a id r w →
      Steps (opened w b r) ids x →
      (length ids ≤ 2) × (x.flight ≡ none → EndsRefused x)
