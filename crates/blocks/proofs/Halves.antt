-- The search by halves, turn by turn: what it has told so far, and what is left.
-- Assumes nothing.
use Rattle.std.specs.Prelude.{Option, None}
use Prim.Native.Nat.{ℕ, ◌+◌, ◌≤◌, ◌<◌}
use mathlib.Core.Path.{◌≡◌, refl, sym, ap, ◌∙◌}
use mathlib.Core.List.{List, [], ◌++◌, append-nil, append_assoc}
use native.Mathlib.Numerals.{add-one}
use native.Mathlib.Omega.{arith}
use lib.ListN.{length, set, take, length-append, length-set}
use lib.Seq.{take-suc-set, length-take-le}
use Rattle.model.specs.Layout.{block_at, blocks_of, first_block_word, most_blocks, most_looked}
use Rattle.model.specs.Search.{Search, below_middle, above_middle, middle_of, found_as, looked_first, found_there, turn_at, search_left, search_in, search_of, Tells}
use Rattle.model.proofs.Search.{halvings-more, none_left_lem, turn-here, turn-above, turn_below, search-holds}

-- the blocks told of were looked at before
before : List ℕ → Search → Search
before told r = record { found = r.found; looked = told ++ r.looked }

module _ (s : List ℕ) (addr size : ℕ) where
  -- the search among the m blocks left from low on
  abbrev rest : ℕ → ℕ → Search
  rest low m = search_left (λ i. block_at s i) addr size low m

  -- the blocks told of were looked at, and m are left from low on
  pub Going : List ℕ → ℕ → ℕ → Type 0
  Going told low m = search_of s addr size ≡ before told (rest low m)

  pub going-first : Going [] 0 (blocks_of s)
  unfolding Going before search_in
  going-first = refl

  -- what was told is the whole search, where it ends
  tells-end : {x : Option ℕ} (looked : List ℕ) (count : ℕ) → count ≤ length looked → search_of s addr size ≡ before (take count looked) (found_as x) → Tells (search_of s addr size) (record { found = x; looked = looked; count = count })
  unfolding before
  tells-end looked count fits e =
      let told = ap (λ (r : Search). r.looked) e ∙ append-nil (take count looked) in
      record {
        answer = sym (ap (λ (r : Search). r.found) e);
        counted = sym (ap length told ∙ length-take-le count looked fits);
        places = sym told;
      }

  -- A turn: of m blocks left, the middle is looked at.
  module _ (looked : List ℕ) (count low m : ℕ) (some : 1 ≤ m) (g : Going (take count looked) low m) where
    turned : search_of s addr size ≡ before (take count looked) (turn_at (block_at s (middle_of low m)) (middle_of low m) addr size (rest (middle_of low m + 1) (above_middle m)) (rest low (below_middle m)))
    unfolding Going
    turned = g ∙ ap (before (take count looked)) (search-holds.each_turn (λ i. block_at s i) addr size low m some)

    -- there is room to tell of it
    pub room : blocks_of s ≤ most_blocks → count ≤ length looked → count < most_looked
    unfolding before turn_at
    room few fits =
        let told = length-take-le count looked fits in
        let all = ap (λ (r : Search). length r.looked) turned in
        let most = search-holds.at_most s first_block_word (blocks_of s) addr size in
        let halved = halvings-more (blocks_of s) most_blocks (blocks_of s) most_blocks few few in
        omega (arith, simp length-append at all)

    -- told of, it is the last of those looked at
    module _ (fits : count < length looked) where
      told_more : (r : Search) → before (take count looked) (looked_first (middle_of low m) r) ≡ before (take (count + 1) (set looked count (middle_of low m))) r
      unfolding before
      told_more r = rw (add-one count, take-suc-set looked count (middle_of low m) fits, append_assoc)

      pub going-above : (block_at s (middle_of low m)).base < addr → Going (take (count + 1) (set looked count (middle_of low m))) (middle_of low m + 1) (above_middle m)
      unfolding Going
      going-above l = turned ∙ ap (before (take count looked)) (turn-above _ _ _ _ _ _ l) ∙ told_more _

      pub going-below : addr < (block_at s (middle_of low m)).base → Going (take (count + 1) (set looked count (middle_of low m))) low (below_middle m)
      unfolding Going
      going-below l = turned ∙ ap (before (take count looked)) (turn_below _ _ _ _ _ _ l) ∙ told_more _

      pub tells-here : {x : Option ℕ} → (block_at s (middle_of low m)).base ≡ addr → x ≡ found_there (block_at s (middle_of low m)) (middle_of low m) size → Tells (search_of s addr size) (record { found = x; looked = set looked count (middle_of low m); count = count + 1 })
      tells-here e q =
          tells-end (set looked count (middle_of low m)) (count + 1) (rw length-set (omega arith))
          (rw q (turned ∙ ap (before (take count looked)) (turn-here _ _ _ _ _ _ e) ∙ told_more _))

  pub tells-nowhere : (looked : List ℕ) (count low m : ℕ) → m ≡ 0 → count ≤ length looked → Going (take count looked) low m → Tells (search_of s addr size) (record { found = None; looked = looked; count = count })
  unfolding Going
  tells-nowhere looked count low m none fits g =
      tells-end looked count fits (g ∙ ap (before (take count looked)) (none_left_lem (λ i. block_at s i) addr size low m none))
