-- A part of a run, byte by byte.
-- Assumes nothing.
use Rattle.std.proofs.Common.{◌≡◌, ℕ, suc, ◌-◌, ◌<◌, ◌≤◌, List, ◌∷◌, length, get_or, take, refl, ap, ◌∙◌, arith, drop-cons, eq-eqb, ne_eqb}
use Rattle.basics.specs.Choice.{pick}
use Rattle.lines.specs.Search.{index_of, slice}

-- a part begins with the run's byte at its start
pub slice-step : (l : List ℕ) (i e : ℕ) → i < e → e ≤ length l → slice i e l ≡ get_or l i 0 ∷ slice (suc i) e l
slice-step l i e h q =
    let n : e - i ≡ suc (e - suc i) = omega arith in
    rw n (ap (λ t. take (suc (e - suc i)) t) (drop-cons l i 0 (omega arith)))

-- the byte stands at the start
pub found : (b : ℕ) (l : List ℕ) (i e : ℕ) → i < e → e ≤ length l → get_or l i 0 ≡ b → index_of b (slice i e l) ≡ 0
found b l i e h q p =
    ap (index_of b) (slice-step l i e h q) ∙ (unfold index_of pick in rw (eq-eqb (get_or l i 0) b p) refl)

-- it does not
pub passed : (b : ℕ) (l : List ℕ) (i e : ℕ) → i < e → e ≤ length l → (get_or l i 0 ≡ b → ⊥) → index_of b (slice i e l) ≡ suc (index_of b (slice (suc i) e l))
passed b l i e h q p =
    ap (index_of b) (slice-step l i e h q) ∙ (unfold index_of pick in rw (ne_eqb (get_or l i 0) b p) refl)

-- nothing is left
pub at_end : (b : ℕ) (l : List ℕ) (i e : ℕ) → e ≤ i → index_of b (slice i e l) ≡ 0
at_end b l i e h =
    let n : e - i ≡ 0 = omega arith in
    rw n (unfold index_of in refl)
