-- CONFIGURE's records one by one: what one of them does, and what all of them do.
-- Assumes nothing.
use Rattle.std.specs.Prelude.{ℕ, ◌+◌, ◌^◌, ◌<◌, ◌≡◌, Bool, true, false, List, [], ◌∷◌, ◌++◌, get_or, eqb, Option, Some}
use Rattle.std.proofs.lemmas.List.Edits.{sets}
use Rattle.basics.specs.Choice.{joined}
use Rattle.model.specs.Layout.{most_blocks, blocks_of, block_at, reply_header_bytes, with_configured}
use Rattle.model.specs.Blocks.{named_block}
use Rattle.model.specs.Memory.{DR-MEM-RES-FAILURE, Progress, addr_in, size_in, result_record, configure_at, configure_one, configured_by}
use Rattle.configuration.specs.declared.OneDone.{OneDone}

abbrev pub progress : List ℕ → ℕ → Bool → List ℕ → Progress
progress s mask failed results = record { state = s; mask = mask; failed = failed; results = results }

-- what each bit of a block is below
abbrev pub bits_end : ℕ
bits_end = 2 ^ most_blocks

-- what a record does to the blocks: nothing, or it configures one that is not, and gives its bit
pub data Change (s : List ℕ) (bit : ℕ) (s' : List ℕ) : Type 0 where
  leaves : bit ≡ 0 → s' ≡ s → Change s bit s'
  raises : (i : ℕ) → i < blocks_of s → (block_at s i).configured ≡ 0 → bit ≡ 2 ^ i → s' ≡ with_configured s i 1 → Change s bit s'

-- the block that a pair names, if there is one, is not unconfigured
abbrev pub Closed : List ℕ → ℕ → ℕ → Type 0
Closed s addr size = (i : ℕ) → named_block s addr size ≡ Some i → (block_at s i).configured ≡ 0 → ⊥

-- one record that names this block, or none, after any others: its result r tells whether it failed
pub record ConfiguresAt (s : List ℕ) (found : Option ℕ) (r : OneDone) (s' : List ℕ) : Type 0 where
  pub one : (mask : ℕ) (results : List ℕ) → progress s' (mask + r.bit) (eqb r.result DR-MEM-RES-FAILURE) (results ++ r.result ∷ []) ≡ configure_at (progress s mask false results) found
  pub change : Change s r.bit s'
  pub closes : eqb r.result DR-MEM-RES-FAILURE ≡ false → (i : ℕ) → found ≡ Some i → (block_at s' i).configured ≡ 0 → ⊥

-- one record, after any others: it leaves the block that it names configured, and after a failure it fails too and changes nothing
pub record ConfiguresOne (s : List ℕ) (failed : Bool) (addr size : ℕ) (r : OneDone) (s' : List ℕ) : Type 0 where
  pub one : (mask : ℕ) (results : List ℕ) → progress s' (mask + r.bit) (eqb r.result DR-MEM-RES-FAILURE) (results ++ r.result ∷ []) ≡ configure_one (progress s mask failed results) addr size
  pub change : Change s r.bit s'
  pub closes : eqb r.result DR-MEM-RES-FAILURE ≡ false → Closed s' addr size
  pub stops : failed ≡ true → (s' ≡ s) × (eqb r.result DR-MEM-RES-FAILURE ≡ true)

-- record i of the reply, by the state and the results
abbrev pub record_of : List ℕ → List ℕ → List ℕ → ℕ → List ℕ
record_of s b results i = result_record s (addr_in b i) (size_in b i) (get_or results i 0)

-- all n of them, and their records after the headers
pub record ConfiguresAll (s b : List ℕ) (n : ℕ) (out : List ℕ) (r : ℕ) (s' out' : List ℕ) : Type 0 where
  pub state : s' ≡ (configured_by s b n).state
  pub mask : r ≡ (configured_by s b n).mask
  pub told : out' ≡ sets out reply_header_bytes (joined (record_of s' b (configured_by s b n).results) n)
