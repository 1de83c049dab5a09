-- The records of the late reply, what the parts of a work step ask of the state and the removal, and the contract of a part that
-- writes no reply.
-- Assumes nothing.
use Rattle.std.specs.Prelude.{ℕ, ◌<◌, ◌≤◌, ◌≡◌, true, List, get_or}
use Rattle.model.specs.declared.Event.{Event}
use Rattle.model.specs.declared.Removal.{Removal}
use Rattle.model.specs.Layout.{channel_count, most_blocks, most_records, block_at, cancelled_of, outstanding_of, removal_of}
use Rattle.model.specs.Search.{BlocksInOrder}
use Rattle.model.specs.State.{collected_sound, removal_room, sound}
use Rattle.model.specs.Memory.{result_record}
use Rattle.model.specs.Work.{WorkStep, result_at}
use Rattle.model.specs.Handler.{HandlesSilently}

-- record i of the late reply of the removal that the words hold
abbrev pub late_record : List ℕ → ℕ → List ℕ
late_record s i = result_record s (get_or (removal_of s).address i 0) (get_or (removal_of s).size i 0) (result_at s (removal_of s) i)

-- the words hold an outstanding removal
pub record Held (s : List ℕ) : Type 0 where
  pub one : outstanding_of s ≡ 1
  pub flag : cancelled_of s ≤ 1

-- the blocks can be searched, and the records are not too many
pub record Fits (s : List ℕ) (m : Removal) : Type 0 where
  pub blocks : BlocksInOrder s
  pub records : m.count ≤ most_records

-- a sound removal that is not over
pub record CanWork (s : List ℕ) : Type 0 where
  pub is_sound : sound s ≡ true
  pub held : Held s
  pub channel : (removal_of s).channel < channel_count
  pub fits : Fits s (removal_of s)
  pub more : (removal_of s).position < (removal_of s).count
  pub room : collected_sound (removal_of s).collected (removal_room s (removal_of s)) ≡ true

-- pages of the block remain
pub record GoesOn (s : List ℕ) (m : Removal) (block : ℕ) : Type 0 where
  pub known : block < most_blocks
  pub place : m.position < most_records
  pub remain : m.collected < (block_at s block).pages

-- of a work step x without a reply: the output is not lent
pub record StepsSilently (x : WorkStep) (size : ℕ) (noted : Event) (pages : ℕ) (s' : List ℕ) : Type 0 where
  pub handles : HandlesSilently x.effects size noted s'
  pub moves : pages ≡ x.pages
