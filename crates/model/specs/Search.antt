-- "look for each record by halves" (02, ticket 5): the search, the blocks that it looks at, and what is claimed of both.
-- Assumes nothing.
use Rattle.std.specs.Prelude.{ℕ, zero, suc, ◌+◌, ◌-◌, ◌/◌, ◌≤◌, ◌<◌, ◌≡◌, true, length, take, get_or, ltb, eqb, Option, Some, None}
use mathlib.Core.List.{List, [], ◌∷◌, Memᴰ}
use Rattle.basics.specs.Choice.{pick, halvings}
use Rattle.model.specs.declared.Searched.{Searched}
use Rattle.model.specs.Layout.{Block, block_in, block_at, blocks_of, block_words, most_blocks, first_block_word}
use Rattle.model.specs.Blocks.{size_of, most_pages, blocks_keep, accepted_blocks, named_in}

-- "each the (lower) middle of those left": of m blocks left, from low on; so many of them stand below it, and so many above it
abbrev pub below_middle : ℕ → ℕ
below_middle m = (m - 1) / 2

abbrev pub above_middle : ℕ → ℕ
above_middle m = m / 2

abbrev pub middle_of : ℕ → ℕ → ℕ
middle_of low m = low + below_middle m

-- what a search gives: the block that the pair names, if there is one, and "which blocks were looked at, in order"
pub record Search : Type 0 where
  pub found : Option ℕ
  pub looked : List ℕ

-- none was looked at yet; block k was looked at first
abbrev pub found_as : Option ℕ → Search
found_as x = record { found = x; looked = [] }

abbrev pub looked_first : ℕ → Search → Search
looked_first k r = record { found = r.found; looked = k ∷ r.looked }

-- block x, at place k, whose base is addr: the pair names it if its size is all of it
unfoldable pub found_there : Block → ℕ → ℕ → Option ℕ
found_there x k size = pick (eqb (size_of x) size) (Some k) None

-- The turn in which block x, at place k, is looked at. The search ends there if its base is addr; if its base is below addr, it goes on
-- among the blocks above it, else among those below it.
unfoldable pub turn_at : Block → ℕ → ℕ → ℕ → Search → Search → Search
turn_at x k addr size above below =
    looked_first k
    (pick (eqb x.base addr)
    (found_as (found_there x k size))
    (pick (ltb x.base addr) above below))

-- The search for a pair among the m blocks b left from low on. Each turn leaves fewer, so that m turns are enough (`each_turn` below).
unfoldable pub search_within : (ℕ → Block) → ℕ → ℕ → ℕ → ℕ → ℕ → Search
search_within b addr size zero low m = found_as None
search_within b addr size (suc turns) low zero = found_as None
search_within b addr size (suc turns) low (suc m) =
    turn_at (b (middle_of low (suc m))) (middle_of low (suc m)) addr size
    (search_within b addr size turns (middle_of low (suc m) + 1) (above_middle (suc m)))
    (search_within b addr size turns low (below_middle (suc m)))

abbrev pub search_left : (ℕ → Block) → ℕ → ℕ → ℕ → ℕ → Search
search_left b addr size low m = search_within b addr size m low m

-- among the n blocks whose words stand in l from at on
unfoldable pub search_in : List ℕ → ℕ → ℕ → ℕ → ℕ → Search
search_in l at n addr size = search_left (λ i. block_in l at i) addr size 0 n

-- among those of the state
abbrev pub search_of : List ℕ → ℕ → ℕ → Search
search_of s addr size = search_in s first_block_word (blocks_of s) addr size

-- What the code's search asks of the blocks, and blocks that keep 01's rules have: they are not too many, their bases rise, and their
-- sizes fit a word.
pub record InOrder (l : List ℕ) (at n : ℕ) : Type 0 where
  pub few : n ≤ most_blocks
  pub rising : (i j : ℕ) → i < j → j < n → (block_in l at i).base < (block_in l at j).base
  pub small : (i : ℕ) → i < n → (block_in l at i).pages ≤ most_pages

abbrev pub BlocksInOrder : List ℕ → Type 0
BlocksInOrder s = InOrder s first_block_word (blocks_of s)

-- r, which the code's search returns, tells the search x: the first `count` of its array are the blocks looked at
pub record Tells (x : Search) (r : Searched) : Type 0 where
  pub answer : r.found ≡ x.found
  pub counted : r.count ≡ length x.looked
  pub places : take r.count r.looked ≡ x.looked

-- two results that tell the same
pub record SameTold (r r' : Searched) : Type 0 where
  pub answer : r'.found ≡ r.found
  pub counted : r'.count ≡ r.count
  pub places : take r'.count r'.looked ≡ take r.count r.looked

-- The claims, for every pair. `blocks_keep l at n` is said by `accepted_blocks` of a list, from word 0 on, and by `sound` of a state.
pub record SearchHolds : Type 0 where
  -- "each the (lower) middle of those left": while some are left, the search is the turn at their middle, and goes on among those left then
  pub each_turn :
      (b : ℕ → Block) (addr size low m : ℕ) →
      1 ≤ m →
      search_left b addr size low m
      ≡ turn_at (b (low + (m - 1) / 2)) (low + (m - 1) / 2) addr size
      (search_left b addr size (low + (m - 1) / 2 + 1) (m / 2))
      (search_left b addr size low ((m - 1) / 2))
  -- and where none is left, it ends without one
  pub none_left : (b : ℕ → Block) (addr size low : ℕ) → search_left b addr size low 0 ≡ found_as None
  -- "Every answer stays.": the search finds what 01 calls the block that the pair names
  pub stays :
      (l : List ℕ) (at n addr size : ℕ) →
      blocks_keep l at n ≡ true →
      (search_in l at n addr size).found ≡ named_in l at n addr size
  -- "another accepted list of that length, the same there, gives the same answer", and has the same blocks looked at
  pub same_there :
      (l l' : List ℕ) (addr size : ℕ) →
      accepted_blocks l ≡ true →
      accepted_blocks l' ≡ true →
      length l' ≡ length l →
      ((k : ℕ) → Memᴰ k (search_in l 0 (length l / block_words) addr size).looked → block_in l' 0 k ≡ block_in l 0 k) →
      (named_in l' 0 (length l' / block_words) addr size ≡ named_in l 0 (length l / block_words) addr size)
      × (search_in l' 0 (length l' / block_words) addr size ≡ search_in l 0 (length l / block_words) addr size)
  -- "at most as many as the block count can be halved, rounded down, before it is 0 (5 for 16)"
  pub at_most : (l : List ℕ) (at n addr size : ℕ) → length (search_in l at n addr size).looked ≤ halvings n
  pub halves : (n : ℕ) → 1 ≤ n → halvings n ≡ halvings (n / 2) + 1
  pub for_sixteen : halvings 16 ≡ 5
  -- of 02, ticket 8's "64 blocks"
  pub for_sixty_four : halvings 64 ≡ 7
  -- the same of what the code's search returns for two states: "the same there" at the places that it tells
  pub returned :
      (s s' : List ℕ) (addr size : ℕ) (r r' : Searched) →
      blocks_of s' ≡ blocks_of s →
      Tells (search_of s addr size) r →
      Tells (search_of s' addr size) r' →
      ((i : ℕ) → i < r.count → block_at s' (get_or r.looked i 0) ≡ block_at s (get_or r.looked i 0)) →
      SameTold r r'
