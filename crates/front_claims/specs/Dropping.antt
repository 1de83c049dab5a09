-- 02, ticket 9: what holds of a channel whose bytes are dropped, and of reopening its front.
-- Assumes nothing.
use Rattle.std.specs.Prelude.{ℕ, ◌<◌, ◌≡◌, true, false, List, [], length}
use Rattle.model.specs.Layout.{channel_count}
use Rattle.model.specs.State.{sound}
use Rattle.front_model.specs.Front.{Front, dropping, keeps, part_of, parts_of, front_sound}
use Rattle.front_model.specs.Calls.{Pieced, pieced, piece_refusal, reopened}

-- "and further bytes are taken and dropped until the host reopens that channel's front": a piece on a channel whose bytes are dropped is refused by the front's own tests alone and,
-- accepted, takes all its bytes; the agent is given no message, nothing is replied, and what the front has for each channel is as it was, so that this one's bytes are still dropped.
pub record Dropped (f : Front) (s j : List ℕ) (c : ℕ) (b out : List ℕ) (r : Pieced) : Type 0 where
  pub refusal : r.refusal ≡ piece_refusal f s (length j) (length out) c
  pub taken : r.refusal ≡ 0 → r.taken ≡ length b
  pub given : r.given ≡ false
  pub count : r.count ≡ 0
  pub state : r.state ≡ s
  pub journal : r.journal ≡ j
  pub buffer : r.buffer ≡ out
  pub parts : r.parts ≡ parts_of f

abbrev pub DroppingStays : Type 0
DroppingStays =
    (f : Front) (s j : List ℕ) (c : ℕ) (b out : List ℕ) →
    part_of f c ≡ dropping →
    Dropped f s j c b out (pieced f s j c b out)

-- "until the host reopens that channel's front, which leaves it empty, dropping or not", and "reopening: 8 and 3 only": of a front f' that has what a reopening leaves. What other
-- channels have is as it was and, where the call is refused, so is what this one has.
pub record ReopenLeaves (f f' : Front) (s : List ℕ) (c refusal : ℕ) : Type 0 where
  pub accepted : sound s ≡ true → front_sound f ≡ true → c < channel_count → refusal ≡ 0
  pub empty : refusal ≡ 0 → part_of f' c ≡ keeps []
  pub others : (k : ℕ) → k < channel_count → (k ≡ c → ⊥) → part_of f' k ≡ part_of f k
  pub refused : (refusal ≡ 0 → ⊥) → parts_of f' ≡ parts_of f

abbrev pub ReopeningEmpties : Type 0
ReopeningEmpties =
    (f f' : Front) (s : List ℕ) (c : ℕ) →
    parts_of f' ≡ (reopened f s c).parts →
    ReopenLeaves f f' s c (reopened f s c).refusal
