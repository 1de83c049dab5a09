-- The refusals of a piece begin with those of every call.
-- Assumes nothing.
use Rattle.std.proofs.Common.{◌≡◌, sym, Bool, not, ℕ, List, [], ◌∷◌, ltb}
use Rattle.model.specs.Layout.{output_bytes}
use Rattle.model.specs.Refusals.{Row, refuses, refusal_in, drain_refusal}
use Rattle.soundness.proofs.Refusals.{lent-first, lent-past}
use Rattle.front.specs.Refusals.{lent_refusal}

module _ (s : List ℕ) (words bytes : ℕ) (within : Bool) where
  abbrev rest : List Row
  rest = refuses (ltb bytes output_bytes) 2 ∷ refuses (not within) 3 ∷ []

  pub piece-first : (drain_refusal s words ≡ 0 → ⊥) → lent_refusal s words bytes within ≡ drain_refusal s words
  unfolding lent_refusal
  piece-first n = lent-first s words rest n

  pub piece-past : 0 ≡ drain_refusal s words → lent_refusal s words bytes within ≡ refusal_in rest
  unfolding lent_refusal
  piece-past z = lent-past s words rest (sym z)
