use native.Mathlib.Omega.{arith}
use mathlib.Core.Path.{◌∙◌, sym, refl}
use Rattle.basics.specs.Choice.{pick, ◌and◌}
use Rattle.requests.proofs.Laws.{short-is, chosen-is, other-is}
use Rattle.requests.proofs.decode.Goals as goal

pub returns-then-b-lt-MEMORY_HEADER_BYTES : goal.returns-then-b-lt-MEMORY_HEADER_BYTES
returns-then-b-lt-MEMORY_HEADER_BYTES c = short-is _ c.if-b-lt-MEMORY_HEADER_BYTES.true

pub returns-in-19779 : goal.returns-in-19779
unfolding pick ◌and◌
returns-in-19779 c = chosen-is _ c.if-b-lt-MEMORY_HEADER_BYTES.false (sym c.in-19779.is ∙ c.get32.ensures.0) c.get32-records.ensures.0 c.if-has_records.ensures refl

pub returns-in_default : goal.returns-in_default
unfolding pick ◌and◌
returns-in_default c = chosen-is _ c.if-b-lt-MEMORY_HEADER_BYTES.false (sym c.in-19779.is ∙ c.get32.ensures.0) c.get32-records.ensures.0 c.if-has_records.ensures refl

pub returns-in-19797 : goal.returns-in-19797
unfolding pick ◌and◌
returns-in-19797 c = chosen-is _ c.if-b-lt-MEMORY_HEADER_BYTES.false (sym c.in-19797.is ∙ c.get32.ensures.0) c.get32-records.ensures.0 c.if-has_records-2.ensures refl

pub returns-in_default-2 : goal.returns-in_default-2
unfolding pick ◌and◌
returns-in_default-2 c = chosen-is _ c.if-b-lt-MEMORY_HEADER_BYTES.false (sym c.in-19797.is ∙ c.get32.ensures.0) c.get32-records.ensures.0 c.if-has_records-2.ensures refl

pub returns-in-19793 : goal.returns-in-19793
unfolding pick ◌and◌
returns-in-19793 c = chosen-is _ c.if-b-lt-MEMORY_HEADER_BYTES.false (sym c.in-19793.is ∙ c.get32.ensures.0) c.get32-records.ensures.0 c.if-has_records-3.ensures refl

pub returns-in_default-3 : goal.returns-in_default-3
unfolding pick ◌and◌
returns-in_default-3 c = chosen-is _ c.if-b-lt-MEMORY_HEADER_BYTES.false (sym c.in-19793.is ∙ c.get32.ensures.0) c.get32-records.ensures.0 c.if-has_records-3.ensures refl

pub returns-in-19795 : goal.returns-in-19795
unfolding pick ◌and◌
returns-in-19795 c = chosen-is _ c.if-b-lt-MEMORY_HEADER_BYTES.false (sym c.in-19795.is ∙ c.get32.ensures.0) c.get32-records.ensures.0 refl c.if-has_nothing.ensures

pub returns-in_default-4 : goal.returns-in_default-4
unfolding pick ◌and◌
returns-in_default-4 c = chosen-is _ c.if-b-lt-MEMORY_HEADER_BYTES.false (sym c.in-19795.is ∙ c.get32.ensures.0) c.get32-records.ensures.0 refl c.if-has_nothing.ensures

pub returns-in-19790 : goal.returns-in-19790
unfolding pick ◌and◌
returns-in-19790 c = chosen-is _ c.if-b-lt-MEMORY_HEADER_BYTES.false (sym c.in-19790.is ∙ c.get32.ensures.0) c.get32-records.ensures.0 refl c.if-has_nothing-2.ensures

pub returns-in_default-5 : goal.returns-in_default-5
unfolding pick ◌and◌
returns-in_default-5 c = chosen-is _ c.if-b-lt-MEMORY_HEADER_BYTES.false (sym c.in-19790.is ∙ c.get32.ensures.0) c.get32-records.ensures.0 refl c.if-has_nothing-2.ensures

pub returns-in_default-6 : goal.returns-in_default-6
returns-in_default-6 c = other-is _ c.if-b-lt-MEMORY_HEADER_BYTES.false c.get32.ensures.0 c.get32-records.ensures.0 (omega arith, omega arith, omega arith, omega arith, omega arith)
