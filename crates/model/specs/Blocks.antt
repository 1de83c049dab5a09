-- "Blocks: 0 to 16, given at setup", by 02, ticket 8, to 64: the rules of a block list, the lists given at setup, its state, and the block that a pair names.
-- Assumes nothing.
use Rattle.std.specs.Prelude.{ℕ, zero, suc, ◌+◌, ◌*◌, ◌/◌, ◌%◌, Bool, List, [], length, set, replicate, leb, eqb, Option}
use Rattle.std.proofs.lemmas.List.Edits.{sets}
use Rattle.basics.specs.Choice.{pick, ◌and◌, every, first_below}
use Rattle.model.specs.Layout.{Block, block_in, blocks_of, most_blocks, block_words, state_words, block_count_word, first_block_word, device_words, device_count_word, id_words, id_count_word}
use Rattle.model.specs.Devices.{accepted_devices}
use Rattle.model.specs.Peers.{accepted_ids}

-- "A page is 8,192 bytes."
abbrev pub page_size : ℕ
page_size = 8192

-- "pages 1 to 1,048,576"
abbrev pub most_pages : ℕ
most_pages = 1048576

-- "the end is at most 2^63"
abbrev pub highest_end : ℕ
highest_end = 9223372036854775808

abbrev pub size_of : Block → ℕ
size_of b = b.pages * page_size

abbrev pub end_of : Block → ℕ
end_of b = b.base + size_of b

-- "Base is a multiple of 8,192; pages 1 to 1,048,576; the end is at most 2^63; each base is at or above the end before it; first plus
-- count of permanent pages is at most pages; count 0 needs first 0; a count above 0 needs configured 1." The floor is the end before it.
unfoldable pub block_keeps : Block → ℕ → Bool
block_keeps b floor =
    eqb (b.base % page_size) 0
    and leb 1 b.pages
    and leb b.pages most_pages
    and leb (end_of b) highest_end
    and leb floor b.base
    and leb (b.first + b.permanent) b.pages
    and leb b.configured 1
    and pick (eqb b.permanent 0) (eqb b.first 0) (eqb b.configured 1)

-- the end of the block before block i, 0 where there is none
unfoldable pub end_before : List ℕ → ℕ → ℕ → ℕ
end_before l at zero = 0
end_before l at (suc i) = end_of (block_in l at i)

-- the n blocks whose words stand in l from at on keep the rules
unfoldable pub blocks_keep : List ℕ → ℕ → ℕ → Bool
blocks_keep l at n = leb n most_blocks and every n (λ i. block_keeps (block_in l at i) (end_before l at i))

-- a list of whole blocks that keep the rules
unfoldable pub accepted_blocks : List ℕ → Bool
accepted_blocks l = eqb (length l % block_words) 0 and blocks_keep l 0 (length l / block_words)

-- what the host gives at setup: the blocks, the devices of 02, ticket 1, and the ids of ticket 7
pub record Lists : Type 0 where
  pub blocks : List ℕ
  pub devices : List ℕ
  pub ids : List ℕ

abbrev pub no_lists : Lists
no_lists = record { blocks = []; devices = []; ids = [] }

-- setup accepts the lists (else refusal 7)
unfoldable pub accepted_lists : Lists → Bool
accepted_lists l = accepted_blocks l.blocks and accepted_devices l.devices and accepted_ids l.ids

-- A list stands in the state with its count before it.
unfoldable pub with_list : List ℕ → ℕ → ℕ → List ℕ → List ℕ
with_list s at words l = sets (set s at (length l / words)) (at + 1) l

-- "Setup leaves all channels closed, nothing outstanding, the journal empty"; 02, ticket 6: "denied until set". So the words are before the edition mark (02, ticket 8;
-- Calls.set_up).
unfoldable pub setup_state : Lists → List ℕ
setup_state l =
    with_list (with_list (with_list (replicate state_words 0) block_count_word block_words l.blocks) device_count_word device_words l.devices) id_count_word id_words l.ids

-- "A pair names a block if addr is its base and size is all of it."
unfoldable pub names : ℕ → ℕ → Block → Bool
names addr size b = eqb b.base addr and eqb (size_of b) size

-- the block that the pair names, if there is one: of the n blocks whose words stand in l from at on, and of the state's
abbrev pub named_in : List ℕ → ℕ → ℕ → ℕ → ℕ → Option ℕ
named_in l at n addr size = first_below n (λ i. names addr size (block_in l at i))

unfoldable pub named_block : List ℕ → ℕ → ℕ → Option ℕ
named_block s addr size = named_in s first_block_word (blocks_of s) addr size
