-- The rules of a block, and of a list of blocks, as facts.
-- Assumes nothing.
use mathlib.Core.Path.{◌≡◌}
use mathlib.Core.Bool.{true}
use mathlib.Core.List.{List}
use Prim.Native.Nat.{ℕ, ◌+◌, ◌/◌, ◌%◌, ◌≤◌}
use lib.ListN.{length}
use lib.Dec.{eqb}
use borrow.Author.Tests.{eqb-true, eq-eqb, leb-true, le-leb}
use Rattle.blocks.specs.Permanent.{permanent_keeps}
use Rattle.basics.specs.Choice.{pick, ◌and◌, every}
use Rattle.model.specs.Layout.{Block, block_in, block_words, most_blocks}
use Rattle.model.specs.Blocks.{end_of, block_keeps, end_before, blocks_keep, accepted_blocks, highest_end, most_pages, page_size}
use Rattle.basics.proofs.Choice.{both}

-- where the block lies, and how long it is
pub record Lies (b : Block) (floor : ℕ) : Type 0 where
  pub aligned : b.base % page_size ≡ 0
  pub some : 1 ≤ b.pages
  pub few : b.pages ≤ most_pages
  pub below : end_of b ≤ highest_end
  pub above : floor ≤ b.base

-- where those hold, the rules of its permanent pages decide
pub lies-last : (b : Block) (floor : ℕ) → Lies b floor → block_keeps b floor ≡ permanent_keeps b.pages b.first b.permanent b.configured
unfolding block_keeps permanent_keeps ◌and◌
lies-last b floor r =
    rw (
      eq-eqb _ _ r.aligned,
      le-leb _ _ r.some,
      le-leb _ _ r.few,
      le-leb _ _ r.below,
      le-leb _ _ r.above,
    )

module _ (pages first permanent configured : ℕ) where
  pub permanent-rules : permanent_keeps pages first permanent configured ≡ true → (first + permanent ≤ pages) × (configured ≤ 1)
  unfolding permanent_keeps
  permanent-rules t = let u = both _ _ t in (leb-true _ _ u.0, leb-true _ _ (both _ _ u.1).0)

  pub permanent-last : first + permanent ≤ pages → configured ≤ 1 → permanent_keeps pages first permanent configured ≡ pick (eqb permanent 0) (eqb first 0) (eqb configured 1)
  unfolding permanent_keeps ◌and◌
  permanent-last w f = rw (le-leb _ _ w, le-leb _ _ f)

-- a list of blocks
module _ (l : List ℕ) (at n : ℕ) where
  pub blocks-rules : blocks_keep l at n ≡ true → n ≤ most_blocks
  unfolding blocks_keep
  blocks-rules t = leb-true _ _ (both _ _ t).0

  pub blocks_last : n ≤ most_blocks → blocks_keep l at n ≡ every n (λ i. block_keeps (block_in l at i) (end_before l at i))
  unfolding blocks_keep ◌and◌
  blocks_last h = rw (le-leb _ _ h)

module _ (l : List ℕ) where
  pub accepted-rules : accepted_blocks l ≡ true → (length l % block_words ≡ 0) × (length l / block_words ≤ most_blocks)
  unfolding accepted_blocks
  accepted-rules t = let u = both _ _ t in (eqb-true _ _ u.0, blocks-rules _ _ _ u.1)

  pub accepted-last : length l % block_words ≡ 0 → accepted_blocks l ≡ blocks_keep l 0 (length l / block_words)
  unfolding accepted_blocks ◌and◌
  accepted-last e = rw (eq-eqb _ _ e)
