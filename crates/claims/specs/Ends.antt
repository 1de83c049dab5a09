-- 02, ticket 12: "For a removal whose named blocks have P pages together, repeats counted again, show that in every list of demand 3 it has ended by the
-- (P + 1)th accepted work step after its beginning, and that the pages moved in the entries of each record settled OK add up to that block's pages exactly."
-- A claim about a list of calls with what each returned and left, as Demand3 is.
-- Assumes nothing.
use Rattle.std.specs.Prelude.{ℕ, zero, suc, ◌+◌, ◌/◌, ◌≤◌, ◌<◌, ◌≡◌, Bool, true, false, not, List, [], ◌∷◌, ◌++◌, length, get_or, take, eqb, Option, Some, None}
use Rattle.entry.specs.Word.{unpacked}
use Rattle.basics.specs.Choice.{pick, ◌and◌, ◌or◌}
use Rattle.model.specs.declared.Event.{Event}
use Rattle.model.specs.declared.Removal.{Removal}
use Rattle.model.specs.Layout.{block_words, block_in, block_at, outstanding_of, removal_of}
use Rattle.model.specs.Blocks.{Lists, named_in, named_block}
use Rattle.model.specs.Reading.{settled_block}
use Rattle.model.specs.Journal.{new_edition, Entry, event_of, kind_begun, kind_collected, kind_settled, kind_removal_end}
use Rattle.model.specs.Memory.{DR-MEM-UNCONFIGURE, DR-MEM-RES-OK, addr_in, size_in}
use Rattle.model.specs.Calls.{Action, receive, offer, withdraw, close, work, permit, take_order, Call, act, drain, Outcome}
use Rattle.claims.specs.Demand3.{Done, new_run, runs, entries, no_entry, noted}
use Rattle.claims.specs.Repeats.{address_at, size_at, request_in, left_by, Requests, Hears}

-- the pages of the block that a pair names; an unknown pair has none
unfoldable pub pages_at : List ℕ → Option ℕ → ℕ
pages_at s (Some i) = (block_at s i).pages
pages_at s None = 0

-- those of the first n records of a removal together, "repeats counted again"
unfoldable pub pages_of_first : List ℕ → Removal → ℕ → ℕ
pages_of_first s m zero = 0
pages_of_first s m (suc n) = pages_of_first s m n + pages_at s (named_block s (address_at m n) (size_at m n))

-- P, of the removal that a state has
abbrev pub pages_named : List ℕ → ℕ
pages_named s = pages_of_first s (removal_of s) (removal_of s).count

-- P by the request b of n pairs and the block list alone
unfoldable pub pages_listed : Lists → Option ℕ → ℕ
pages_listed l (Some i) = (block_in l.blocks 0 i).pages
pages_listed l None = 0

unfoldable pub pages_asked : Lists → List ℕ → ℕ → ℕ
pages_asked l b zero = 0
pages_asked l b (suc n) =
    pages_asked l b n + pages_listed l (named_in l.blocks 0 (length l.blocks / block_words) (addr_in b n) (size_in b n))

-- the accepted work steps of a list
unfoldable pub is_work : Action → Bool
is_work (receive c m) = false
is_work (offer c v) = false
is_work (withdraw c v) = false
is_work (close c) = false
is_work (work budget) = true
is_work (permit v permitted) = false
is_work take_order = false

unfoldable pub steps_by : Call → Outcome → ℕ
steps_by (act a out) r = pick (is_work a and eqb r.refusal 0) 1 0
steps_by (drain run) r = 0

unfoldable pub steps_in : List Done → ℕ
steps_in [] = 0
steps_in (d ∷ ds) = steps_by d.call d.gave + steps_in ds

-- an accepted call whose entry is of a kind
unfoldable pub notes_by : ℕ → Call → Outcome → Bool
notes_by kind (act a out) r = eqb r.refusal 0 and eqb (noted r).kind kind
notes_by kind (drain run) r = false

-- a list that has a removal's end (kind 16), before any other beginning (12): the end of the one that was outstanding
unfoldable pub ends_in : List Done → Bool
ends_in [] = false
ends_in (d ∷ ds) =
    notes_by kind_removal_end d.call d.gave or (not (notes_by kind_begun d.call d.gave) and ends_in ds)

-- what an entry tells
abbrev pub told : Entry → Event
told e = event_of (unpacked e.first) e.second

-- The pages of the record that is not settled yet: those of the entries of kind 14 since the last of kind 12 or 15. A CANCEL (13) is followed by the removal's
-- end before any other record is settled, so that the entries of kind 14 between the last 12 or 15 and a CANCEL belong to no record settled OK.
unfoldable pub moved_by : ℕ → Event → ℕ
moved_by n e =
    pick (eqb e.kind kind_begun or eqb e.kind kind_settled) 0
    (pick (eqb e.kind kind_collected) (n + e.count)
    n)

unfoldable pub moved_since : ℕ → List Entry → ℕ
moved_since n [] = n
moved_since n (e ∷ es) = moved_since (moved_by n (told e)) es

-- the entry of a record settled OK
pub record SettledOk (e : Entry) : Type 0 where
  pub is_settled : (told e).kind ≡ kind_settled
  pub is_ok : (told e).code ≡ DR-MEM-RES-OK

-- the block of an entry of kind 15
abbrev pub block_of : Event → ℕ
block_of e = settled_block new_edition e.word

-- its block is listed, and the pages moved before it for its record and by it are that block's
pub record AddsUp (l : Lists) (before : List Entry) (e : Entry) : Type 0 where
  pub listed : block_of (told e) < length l.blocks / block_words
  pub pages : moved_since 0 before + (told e).count ≡ (block_in l.blocks 0 (block_of (told e))).pages

-- Of the lists l that setup was given, the state s and the journal j that it left and the calls made, each with what it returned and left.
pub record Ends (l : Lists) (s j : List ℕ) (ds : List Done) : Type 0 where
  -- "it has ended by the (P + 1)th accepted work step after its beginning", whatever other calls stand between
  pub ends :
      (before between later : List Done) (a : Action) (out : List ℕ) (r : Outcome) →
      ds ≡ before ++ record { call = act a out; gave = r } ∷ (between ++ later) →
      r.refusal ≡ 0 →
      (noted r).kind ≡ kind_begun →
      pages_named r.state + 1 ≤ steps_in between →
      ends_in between ≡ true
  -- and P, which is told there by the removal that was begun, is what the request and the block list say
  pub asked :
      (before later : List Done) (c handle : ℕ) (m out : List ℕ) (r : Outcome) (n : ℕ) →
      ds ≡ before ++ record { call = act (receive c m) out; gave = r } ∷ later →
      Hears (left_by s j before) c m handle r →
      Requests (request_in m) DR-MEM-UNCONFIGURE n →
      outstanding_of (left_by s j before) ≡ 0 →
      pages_named r.state ≡ pages_asked l (request_in m) n
  -- "the pages moved in the entries of each record settled OK add up to that block's pages exactly": of the entries drained, then those held
  pub adds_up :
      (i : ℕ) →
      i < length (entries (runs (new_run s j) ds)) →
      SettledOk (get_or (entries (runs (new_run s j) ds)) i no_entry) →
      AddsUp l (take i (entries (runs (new_run s j) ds))) (get_or (entries (runs (new_run s j) ds)) i no_entry)
