-- A piece is taken, where what it asks for is there.
-- Assumes nothing.
use Prim.Native.Nat.{ℕ, ◌≤◌, min}
use native.Mathlib.Omega.{arith}
use mathlib.Core.Path.{◌≡◌, refl, sym, ◌∙◌}
use mathlib.Core.List.{List}
use lib.ListN.{length}
use borrow.Author.Tests.{eq-eqb, le-ltb, lt-ltb, lt-leb}
use Rattle.basics.specs.Choice.{pick, ◌and◌}
use Rattle.model.specs.Layout.{channel_count, journal_words, output_bytes, most_held, highest_number, last_of, held_of}
use Rattle.model.specs.Refusals.{refusal_in, action_refusal}
use Rattle.model.specs.Calls.{receive, refusal_of, in_range, allowed}
use Rattle.front_model.specs.Front.{Front, part_of}
use Rattle.front_model.specs.Calls.{piece_refusal, Pieced, piece_kept, piece_given, pieced}
use Rattle.front_claims.specs.Cutting.{Asked, PiecesTaken}
use Rattle.front_claims.proofs.Pieces.{Way, refuses, keeping, giving, refusing, way}
use Rattle.front_claims.proofs.Streams.{given-count}
use Rattle.front_claims.proofs.Parts.{sound-part}

module _ (f : Front) (s j : List ℕ) (c : ℕ) (out : List ℕ) (a : Asked f s j c out) where
  none-tested : piece_refusal f s (length j) (length out) c ≡ 0
  unfolding piece_refusal refusal_in pick ◌and◌
  none-tested = rw (a.sounds, a.front, eq-eqb (length j) journal_words a.journal, le-ltb (length out) output_bytes a.output, lt-ltb c channel_count a.channel)

  none_said : (m : List ℕ) → refusal_of s j out (receive c m) ≡ 0
  unfolding refusal_of action_refusal refusal_in pick in_range allowed
  none_said m = rw (a.sounds, eq-eqb (length j) journal_words a.journal, le-ltb (length out) output_bytes a.output, lt-ltb c channel_count a.channel, lt-leb most_held (held_of s) a.room, lt-leb highest_number (last_of s) a.numbers)

  taken-by : (b : List ℕ) (r : Pieced) → Way f s j c b out r → (r.refusal ≡ 0) × (min 1 (length b) ≤ r.taken)
  unfolding piece_kept piece_given
  taken-by b r (refuses n z e) = absurd (z (sym e ∙ none-tested))
  taken-by b r (keeping p q e) = (refl, omega arith)
  taken-by b r (giving m i p q e z) =
      let n = given-count (part_of f c) p b m i (sound-part f c a.front a.channel) e in
      (refl, omega arith)
  taken-by b r (refusing m i p n q e z y) = absurd (z (sym y ∙ none_said m))

pub pieces-taken : PiecesTaken
pieces-taken f s j c b out a = taken-by f s j c out a b (pieced f s j c b out) (way f s j c b out)
