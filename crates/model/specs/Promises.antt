-- The contracts of the calls. The state, the journal and the output (or drain's run) are lent: what a call leaves of them is an
-- argument.
-- Assumes nothing.
use Rattle.std.specs.Prelude.{ℕ, ◌≡◌, Bool, List}
use Rattle.model.specs.declared.Answer.{Answer}
use Rattle.model.specs.declared.Worked.{Worked}
use Rattle.model.specs.declared.Drained.{Drained}
use Rattle.model.specs.declared.Started.{Started}
use Rattle.model.specs.declared.TakenOrder.{TakenOrder}
use Rattle.model.specs.Blocks.{Lists}
use Rattle.model.specs.Calls.{Action, receive, offer, withdraw, close, work, permit, take_order, act, drain, Outcome, outcome, refusal_of, order_taken, set_up, shown}

-- what a function returned and left, as an outcome
abbrev pub answered : Answer → List ℕ → List ℕ → List ℕ → Outcome
answered r s j out = record {
  refusal = r.refusal;
  count = r.length;
  pages = 0;
  state = s;
  journal = j;
  buffer = out;
}

abbrev pub worked : Worked → List ℕ → List ℕ → List ℕ → Outcome
worked r s j out = record {
  refusal = r.refusal;
  count = r.length;
  pages = r.pages;
  state = s;
  journal = j;
  buffer = out;
}

-- "setting and taking have reply length 0"
abbrev pub taken : TakenOrder → List ℕ → List ℕ → List ℕ → Outcome
taken r s j out = record {
  refusal = r.refusal;
  count = 0;
  pages = 0;
  state = s;
  journal = j;
  buffer = out;
}

abbrev pub emptied : Drained → List ℕ → List ℕ → List ℕ → Outcome
emptied r s j run = record {
  refusal = r.refusal;
  count = r.entries;
  pages = 0;
  state = s;
  journal = j;
  buffer = run;
}

-- The contracts: given a state, a journal and the call's own arguments, what may be returned and left.
abbrev pub SetupPost : Lists → List ℕ → Started → List ℕ → Type 0
SetupPost l j r j' = record { refusal = r.refusal; state = r.state; journal = j' } ≡ set_up l j

abbrev pub ActionPost : List ℕ → List ℕ → Action → List ℕ → Answer → List ℕ → List ℕ → List ℕ → Type 0
ActionPost s j a out r s' j' out' = answered r s' j' out' ≡ outcome s j (act a out)

abbrev pub ReceivePost : List ℕ → List ℕ → ℕ → List ℕ → List ℕ → Answer → List ℕ → List ℕ → List ℕ → Type 0
ReceivePost s j c m out r s' j' out' = ActionPost s j (receive c m) out r s' j' out'

abbrev pub OfferPost : List ℕ → List ℕ → ℕ → ℕ → List ℕ → Answer → List ℕ → List ℕ → List ℕ → Type 0
OfferPost s j c v out r s' j' out' = ActionPost s j (offer c v) out r s' j' out'

abbrev pub WithdrawPost : List ℕ → List ℕ → ℕ → ℕ → List ℕ → Answer → List ℕ → List ℕ → List ℕ → Type 0
WithdrawPost s j c v out r s' j' out' = ActionPost s j (withdraw c v) out r s' j' out'

abbrev pub ClosePost : List ℕ → List ℕ → ℕ → List ℕ → Answer → List ℕ → List ℕ → List ℕ → Type 0
ClosePost s j c out r s' j' out' = ActionPost s j (close c) out r s' j' out'

abbrev pub WorkPost : List ℕ → List ℕ → ℕ → List ℕ → Worked → List ℕ → List ℕ → List ℕ → Type 0
WorkPost s j budget out r s' j' out' = worked r s' j' out' ≡ outcome s j (act (work budget) out)

abbrev pub PermitPost : List ℕ → List ℕ → ℕ → Bool → List ℕ → Answer → List ℕ → List ℕ → List ℕ → Type 0
PermitPost s j v permitted out r s' j' out' = ActionPost s j (permit v permitted) out r s' j' out'

-- of take: what it leaves, and the order that it returns
abbrev pub TakePost : List ℕ → List ℕ → List ℕ → TakenOrder → List ℕ → List ℕ → List ℕ → Type 0
TakePost s j out r s' j' out' =
    (taken r s' j' out' ≡ outcome s j (act take_order out)) × (r ≡ order_taken s (refusal_of s j out take_order))

abbrev pub DrainPost : List ℕ → List ℕ → List ℕ → Drained → List ℕ → List ℕ → List ℕ → Type 0
DrainPost s j run r s' j' run' = emptied r s' j' run' ≡ outcome s j (drain run)

-- show is no call of the list: it is lent the state and a message, and gives a part of the message
abbrev pub ShowPost : List ℕ → ℕ → List ℕ → List ℕ → Type 0
ShowPost s c m part = part ≡ shown s c m
