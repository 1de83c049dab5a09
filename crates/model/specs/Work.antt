-- "Each work step does one thing": the work step, the pages that it moves, and the late reply.
-- Assumes nothing.
use Rattle.std.specs.Prelude.{ℕ, ◌+◌, ◌-◌, min, Bool, List, [], get_or, set, leb, ltb, eqb, Option, Some, None}
use Rattle.basics.specs.Choice.{pick, ◌or◌, joined}
use Rattle.model.specs.declared.Removal.{Removal}
use Rattle.model.specs.Layout.{memory_service, block_at, removal_of, with_configured, with_removal, without_removal}
use Rattle.model.specs.Blocks.{named_block}
use Rattle.model.specs.Journal.{collected_event, settled_event, removal_end_event}
use Rattle.model.specs.Messages.{Effect, effect, registered_as}
use Rattle.model.specs.Memory.{DR-MEM-OK, DR-MEM-RES-OK, DR-MEM-RES-FAILURE, DR-MEM-RES-CANCELLED, DR-MEM-RES-NOWORK, DR-MEM-RES-PERM, memory_reply, result_record}

-- the record at the position
abbrev pub addr_now : Removal → ℕ
addr_now m = get_or m.address m.position 0

abbrev pub size_now : Removal → ℕ
size_now m = get_or m.size m.position 0

-- the block that it names
abbrev pub block_now : List ℕ → Removal → Option ℕ
block_now s m = named_block s (addr_now m) (size_now m)

abbrev pub all_settled : Removal → Bool
all_settled m = leb m.count m.position

-- kind 16's code: "3 if cancelled, else the failing record's 1 or 5, else 0"
unfoldable pub failing_code : Option ℕ → ℕ
failing_code (Some i) = DR-MEM-RES-PERM
failing_code None = DR-MEM-RES-FAILURE

unfoldable pub end_code : List ℕ → Removal → ℕ
end_code s m =
    pick m.cancelled DR-MEM-RES-CANCELLED (pick (all_settled m) DR-MEM-RES-OK (failing_code (block_now s m)))

-- "At the end, if cancelled, all from the position on have CANCELLED (3); otherwise the failing record has FAILURE (unknown) or PERM (5),
-- those after it FAILURE."
unfoldable pub result_at : List ℕ → Removal → ℕ → ℕ
result_at s m i =
    pick (ltb i m.position) (get_or m.result i 0)
    (pick m.cancelled DR-MEM-RES-CANCELLED
    (pick (eqb i m.position) (end_code s m) DR-MEM-RES-FAILURE))

unfoldable pub late_reply : List ℕ → Removal → List ℕ
late_reply s m =
    memory_reply m.handle DR-MEM-OK m.count m.request
    (joined (λ i. result_record s (get_or m.address i 0) (get_or m.size i 0) (result_at s m i)) m.count)

-- "If the handle isn't registered on its channel for service 0 any more, no reply is written."
abbrev pub still_registered : List ℕ → Removal → Bool
still_registered s m = registered_as s m.channel m.handle memory_service

unfoldable pub ending : List ℕ → Removal → Effect
ending s m =
    pick (still_registered s m)
    (effect (removal_end_event m.channel (end_code s m) 1 m.request) (without_removal s) (late_reply s m))
    (effect (removal_end_event m.channel (end_code s m) 0 m.request) (without_removal s) [])

-- the record at the position is settled with this result
unfoldable pub settled : Removal → ℕ → Removal
settled m r = record {
  cancelled = m.cancelled;
  channel = m.channel;
  handle = m.handle;
  request = m.request;
  count = m.count;
  position = m.position + 1;
  collected = 0;
  address = m.address;
  size = m.size;
  result = set m.result m.position r;
}

-- n pages more are collected
unfoldable pub collecting : Removal → ℕ → Removal
collecting m n = record {
  cancelled = m.cancelled;
  channel = m.channel;
  handle = m.handle;
  request = m.request;
  count = m.count;
  position = m.position;
  collected = m.collected + n;
  address = m.address;
  size = m.size;
  result = m.result;
}

-- What a work step does, and the pages that it moves.
pub record WorkStep : Type 0 where
  pub effects : Effect
  pub pages : ℕ

abbrev pub moving : ℕ → Effect → WorkStep
moving n e = record { effects = e; pages = n }

-- "Else collect the lesser of the budget and what remains": of block i
unfoldable pub pages_moved : List ℕ → Removal → ℕ → ℕ → ℕ
pages_moved s m i budget = min budget ((block_at s i).pages - m.collected)

-- "when none remains the block becomes unconfigured and is settled OK"
unfoldable pub collects : List ℕ → Removal → ℕ → ℕ → Effect
collects s m i n =
    pick (eqb (m.collected + n) (block_at s i).pages)
    (effect (settled_event m.channel m.position DR-MEM-RES-OK n i)
    (with_removal (with_configured s i 0) (settled m DR-MEM-RES-OK))
    [])
    (effect (collected_event m.channel n) (with_removal s (collecting m n)) [])

-- "Else, if its block is unconfigured: settle NOWORK."
unfoldable pub works_on : List ℕ → Removal → ℕ → ℕ → WorkStep
works_on s m i budget =
    pick (eqb (block_at s i).configured 0)
    (moving 0
    (effect (settled_event m.channel m.position DR-MEM-RES-NOWORK 0 i)
    (with_removal s (settled m DR-MEM-RES-NOWORK))
    []))
    (moving (pages_moved s m i budget) (collects s m i (pages_moved s m i budget)))

-- "or the record at the position is unknown or has permanent pages"
unfoldable pub works_at : List ℕ → Removal → ℕ → Option ℕ → WorkStep
works_at s m budget (Some i) =
    pick (eqb (block_at s i).permanent 0) (works_on s m i budget) (moving 0 (ending s m))
works_at s m budget None = moving 0 (ending s m)

-- "If cancelled, or all records are settled, or ..: end and reply."
unfoldable pub step_of : List ℕ → Removal → ℕ → WorkStep
step_of s m budget =
    pick (m.cancelled or all_settled m) (moving 0 (ending s m)) (works_at s m budget (block_now s m))

-- the work step with a budget of pages
abbrev pub working : List ℕ → ℕ → WorkStep
working s budget = step_of s (removal_of s) budget
