-- What each effect does to the blocks and to the removal.
-- Assumes nothing.
use Prim.Native.Nat.{ℕ, ◌≤◌, ◌<◌}
use native.Mathlib.Omega.{arith}
use mathlib.Core.Path.{◌≡◌, refl, sym, ap, ◌∙◌}
use mathlib.Core.Bool.{Bool, true}
use mathlib.Core.List.{List}
use lib.ListN.{length}
use lib.Dec.{ltb}
use Rattle.basics.specs.Choice.{◌or◌}
use Rattle.model.specs.declared.Removal.{Removal}
use Rattle.model.specs.Layout.{Block, block_at, blocks_of, outstanding_of, removal_of, with_configured, with_removal, block_count_word, last_word, outstanding_word, state_words, most_blocks, first_numbered_word}
use Rattle.model.specs.Blocks.{names, named_block}
use Rattle.model.specs.Journal.{kind_begun, kind_cancelled, kind_removal_end}
use Rattle.model.specs.Memory.{marked}
use Rattle.model.specs.Messages.{Effect}
use Rattle.model.specs.Reading.{flagged}
use Rattle.model.specs.Work.{working}
use Rattle.basics.proofs.Choice.{first-same}
use Rattle.model.proofs.Words.{Agree, Arrays, removal-frame, removal-same, removal-back, head-back}
use Rattle.model.proofs.Rules.{Given}
use Rattle.model.proofs.Sounds.{count_same, at_same, block-named, by_flag, count-flag}

-- Blocks as before but for their flags.
pub record SameSizes (s t : List ℕ) : Type 0 where
  pub count : blocks_of t ≡ blocks_of s
  pub named : (addr size : ℕ) → named_block t addr size ≡ named_block s addr size
  pub pages : (i : ℕ) → i < blocks_of s → (block_at t i).pages ≡ (block_at s i).pages

pub same-sizes : (s : List ℕ) → SameSizes s s
same-sizes s = record { count = refl; named = λ addr size. refl; pages = λ i h. refl }

pub sizes-then : (s t u : List ℕ) → SameSizes s t → SameSizes t u → SameSizes s u
sizes-then s t u a b = record {
  count = b.count ∙ a.count;
  named = λ addr size. b.named addr size ∙ a.named addr size;
  pages = λ i h. b.pages i (omega (arith, a.count)) ∙ a.pages i h;
}

-- Blocks as before.
pub record SameBlocks (s t : List ℕ) : Type 0 where
  pub sizes : SameSizes s t
  pub flags : (i : ℕ) → i < blocks_of s → (block_at t i).configured ≡ (block_at s i).configured

pub same_blocks : (s t : List ℕ) → blocks_of s ≤ most_blocks → Agree s t block_count_word last_word → SameBlocks s t
same_blocks s t few a = record {
  sizes = record {
    count = count_same s t few a;
    named = block-named s t few a;
    pages = λ i h. ap (λ (b : Block). b.pages) (at_same s t few a i (omega arith));
  };
  flags = λ i h. ap (λ (b : Block). b.configured) (at_same s t few a i (omega arith));
}

-- A block's flag changed.
module _ (s : List ℕ) (i flag : ℕ) (size : length s ≡ state_words) (few : blocks_of s ≤ most_blocks) (ib : i < blocks_of s) where
  pub flag-sizes : SameSizes s (with_configured s i flag)
  flag-sizes = record {
    count = count-flag s i flag size few ib;
    named = named;
    pages = λ k h. by_flag s i flag size few ib (λ b. b.pages ≡ (block_at s k).pages) k (λ q. unfold flagged in rw q) (λ n. refl);
  }
    where
      named : (addr size' : ℕ) → named_block (with_configured s i flag) addr size' ≡ named_block s addr size'
      named addr size' =
          unfold named_block in
          rw (count-flag s i flag size few ib)
          (first-same (blocks_of s) (λ k. names addr size' (block_at s k)) (λ k. names addr size' (block_at (with_configured s i flag) k))
          (λ k h. by_flag s i flag size few ib (λ b. names addr size' b ≡ names addr size' (block_at s k)) k (λ q. unfold flagged names in rw q) (λ n. refl)))

  pub flag-now : (block_at (with_configured s i flag) i).configured ≡ flag
  flag-now = by_flag s i flag size few ib (λ b. b.configured ≡ flag) i (λ q. unfold flagged in refl) (λ n. absurd (n refl))

  pub flag-else : (k : ℕ) → (k ≡ i → ⊥) → (block_at (with_configured s i flag) k).configured ≡ (block_at s k).configured
  flag-else k n = by_flag s i flag size few ib (λ b. b.configured ≡ (block_at s k).configured) k (λ q. absurd (n q)) (λ _. refl)

-- The removal as before.
pub record SameRemoval (s t : List ℕ) : Type 0 where
  pub outstanding : outstanding_of t ≡ outstanding_of s
  pub removal : removal_of t ≡ removal_of s

pub same-removal : (s t : List ℕ) → Agree s t outstanding_word first_numbered_word → SameRemoval s t
same-removal s t a = record {
  outstanding = a outstanding_word (omega arith) (omega arith);
  removal = removal-same s t a;
}

-- A removal is outstanding, and it is m.
pub record NewRemoval (t : List ℕ) (m : Removal) : Type 0 where
  pub one : outstanding_of t ≡ 1
  pub removal : removal_of t ≡ m

pub new-removal : (s : List ℕ) (m : Removal) → length s ≡ state_words → Arrays m → NewRemoval (with_removal s m) m
new-removal s m size a = record { one = head-back s m size a 0 (omega arith); removal = removal-back s m size a }

pub removal-blocks : (s : List ℕ) (m : Removal) → blocks_of s ≤ most_blocks → SameBlocks s (with_removal s m)
removal-blocks s m few = same_blocks s (with_removal s m) few (λ j lo hi. removal-frame s m j (omega arith))

-- A kind that tells nothing of a removal: none of 12 to 16.
unfoldable pub aside : ℕ → Bool
aside kind = ltb kind kind_begun or ltb kind_removal_end kind

-- What an effect of a state s does.
pub data Turn (s : List ℕ) (e : Effect) : Type 0 where
  -- neither blocks nor removal
  leaves : SameBlocks s e.state → SameRemoval s e.state → aside e.event.kind ≡ true → Turn s e
  -- flags of blocks, while no removal is outstanding
  configures : SameSizes s e.state → outstanding_of s ≡ 0 → outstanding_of e.state ≡ 0 → aside e.event.kind ≡ true → Turn s e
  begins :
      (m : Removal) →
      SameBlocks s e.state →
      NewRemoval e.state m →
      m.position ≡ 0 →
      m.collected ≡ 0 →
      outstanding_of s ≡ 0 →
      e.event.kind ≡ kind_begun →
      Turn s e
  marks :
      SameBlocks s e.state →
      NewRemoval e.state (marked (removal_of s)) →
      outstanding_of s ≡ 1 →
      e.event.kind ≡ kind_cancelled →
      Turn s e
  -- it is a work step, with a budget in range, of a state t with the blocks and the removal of s; Steps.antt says what that does
  steps :
      (t : List ℕ) (budget : ℕ) →
      1 ≤ budget →
      Given t →
      SameBlocks s t →
      SameRemoval s t →
      outstanding_of t ≡ 1 →
      e ≡ (working t budget).effects →
      Turn s e

pub blocks-then : (s t u : List ℕ) → SameBlocks s t → SameBlocks t u → SameBlocks s u
blocks-then s t u a b = record {
  sizes = sizes-then s t u a.sizes b.sizes;
  flags = λ i h. b.flags i (omega (arith, a.sizes.count)) ∙ a.flags i h;
}

pub removal-then : (s t u : List ℕ) → SameRemoval s t → SameRemoval t u → SameRemoval s u
removal-then s t u a b = record { outstanding = b.outstanding ∙ a.outstanding; removal = b.removal ∙ a.removal }

-- the turn of an effect, for another state with the same blocks and removal
pub turn-same : (s t : List ℕ) (e : Effect) → SameBlocks s t → SameRemoval s t → Turn t e → Turn s e
turn-same s t e p q (leaves b r a) = leaves (blocks-then s t e.state p b) (removal-then s t e.state q r) a
turn-same s t e p q (configures b o o' a) = configures (sizes-then s t e.state p.sizes b) (sym q.outstanding ∙ o) o' a
turn-same s t e p q (begins m b r x c o k) = begins m (blocks-then s t e.state p b) r x c (sym q.outstanding ∙ o) k
turn-same s t e p q (marks b r o k) = marks (blocks-then s t e.state p b) (rw q.removal at r) (sym q.outstanding ∙ o) k
turn-same s t e p q (steps u budget some g b r o same) = steps u budget some g (blocks-then s t u p b) (removal-then s t u q r) o same
