-- A handler without a reply leaves the output as it is.
-- Assumes nothing.
use Prim.Native.Nat.{ℕ}
use mathlib.Core.Path.{◌≡◌, refl, sym, ap, ◌∙◌}
use mathlib.Core.List.{List, []}
use lib.ListN.{length}
use Rattle.wire.specs.BigEndian.{written}
use Rattle.model.specs.declared.Event.{Event}
use Rattle.model.specs.Messages.{Effect}
use Rattle.model.specs.Handler.{Handles, HandlesSilently}

written-nothing : (out : List ℕ) → written [] out ≡ out
unfolding written
written-nothing out = refl

pub silent-handles : {e : Effect} {size : ℕ} {noted : Event} {s' : List ℕ} (out : List ℕ) → HandlesSilently e size noted s' → Handles e out size noted s' out
silent-handles {e} out h = record {
  length' = h.length' ∙ sym (ap length h.no_reply);
  notes = h.notes;
  state = h.state;
  output = sym (ap (λ (l : List ℕ). written l out) h.no_reply ∙ written-nothing out);
}
