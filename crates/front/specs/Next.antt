-- What a piece comes to behind a kept part that is unfinished: it is kept, or it gives a message.
-- Assumes nothing.
use Rattle.std.specs.Prelude.{ℕ, ◌+◌, ◌-◌, ◌≤◌, ◌≡◌, true, List, [], ◌++◌, length, take, Option, Some, None}
use Rattle.basics.specs.Choice.{pick}
use Rattle.model.specs.Layout.{is_set}
use Rattle.front.specs.declared.Next.{Next}
use Rattle.front_model.specs.Front.{Front, bytes_at, dropping, dropping_at, keeps, most_kept, most_message, unfinished}
use Rattle.front_model.specs.Calls.{all, gives, taking_after}
use Rattle.front.specs.Changes.{Fronts}

-- all bytes are taken and kept
pub record Keeps (p b : List ℕ) : Type 0 where
  pub same : taking_after p b ≡ all (keeps (p ++ b))
  pub few : length p + length b ≤ most_kept
  pub begins : unfinished (p ++ b) ≡ true

-- a message is given
pub record Gives (p b : List ℕ) (end drops : ℕ) : Type 0 where
  pub same : taking_after p b ≡ gives (take end (p ++ b)) (end - length p) (pick (is_set drops) dropping (keeps []))
  pub starts : length p ≤ end
  pub ends : end ≤ length p + length b
  pub most : end ≤ most_message
  pub mark : drops ≤ 1

abbrev pub Comes : List ℕ → List ℕ → Option Next → Type 0
Comes p b None = Keeps p b
Comes p b (Some r) = Gives p b r.end r.dropping

-- a channel of a sound front that drops no bytes, and a piece that is kept, or gives a message
pub record Keeping (f : Front) (c : ℕ) (b : List ℕ) : Type 0 where
  pub fronts : Fronts f c
  pub unmarked : dropping_at f c ≡ 0
  pub comes : Keeps (bytes_at f c) b

pub record Giving (f : Front) (c : ℕ) (b : List ℕ) (end drops : ℕ) : Type 0 where
  pub fronts : Fronts f c
  pub unmarked : dropping_at f c ≡ 0
  pub comes : Gives (bytes_at f c) b end drops
