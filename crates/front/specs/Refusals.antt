-- The refusals of a front call, past the test of the front itself.
-- Assumes nothing.
use Rattle.std.specs.Prelude.{ℕ, Bool, not, List, [], ◌∷◌, eqb, ltb}
use Rattle.model.specs.Layout.{channel_count, journal_words, output_bytes}
use Rattle.model.specs.State.{sound}
use Rattle.model.specs.Refusals.{refuses, refusal_in}

-- of a piece: `within`, its channel is in range
unfoldable pub lent_refusal : List ℕ → ℕ → ℕ → Bool → ℕ
lent_refusal s words bytes within =
    refusal_in
    (refuses (not (sound s)) 8
    ∷ refuses (not (eqb words journal_words)) 1
    ∷ refuses (ltb bytes output_bytes) 2
    ∷ refuses (not within) 3
    ∷ [])

unfoldable pub opening_refusal : List ℕ → ℕ → ℕ
opening_refusal s c = refusal_in (refuses (not (sound s)) 8 ∷ refuses (not (ltb c channel_count)) 3 ∷ [])
