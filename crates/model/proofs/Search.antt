-- What is claimed of the search by halves holds.
-- Assumes nothing.
use Rattle.std.specs.Prelude.{None}
use Prim.Native.Nat.{ℕ, zero, suc, ◌+◌, ◌*◌, ◌/◌, ◌≤◌, ◌<◌}
use mathlib.Core.Path.{◌≡◌, refl, sym, ap, ap₂, ◌∙◌, subst}
use mathlib.Core.Bool.{Bool, true, false}
use mathlib.Core.List.Memᴰ
use mathlib.Core.List.{List, [], ◌∷◌, Memᴰ}
use mathlib.Core.Logic.{⊎_elim}
use native.Mathlib.Nat.{not-suc-le-zero, le_of_suc-le-suc, eq-or-lt_of_le}
use native.Mathlib.Numerals.{add-one}
use native.Mathlib.Omega.{arith}
use lib.ListN.{length, get_or}
use lib.Seq.{get_or-take}
use lib.Dec.{ltb, eqb}
use borrow.Author.Tests.{leb-true, eqb-true, eqb-false, ltb-true, ltb-false, eq-eqb, ne_eqb, lt-ltb, le-ltb}
use Rattle.basics.specs.Choice.{pick, ◌and◌, halvings, halvings_within, first_below}
use Rattle.model.specs.declared.Searched.{Searched}
use Rattle.model.specs.Layout.{Block, block_in, block_at, blocks_of, block_words, block_count_word, pages_place, most_blocks, first_block_word, with_configured}
use Rattle.model.specs.Blocks.{size_of, block_keeps, end_before, blocks_keep, accepted_blocks, names, named_in}
use Rattle.model.specs.Search.{Search, below_middle, above_middle, middle_of, found_as, looked_first, found_there, turn_at, search_within, search_left, search_in, search_of, InOrder, BlocksInOrder, Tells, SameTold, SearchHolds}
use Rattle.model.specs.State.{sound}
use Rattle.basics.proofs.Choice.{on-pick, both, and-false, every-at, first-is, first-nowhere}
use Rattle.model.proofs.Words.{configured-frame}
use Rattle.model.proofs.Rules.{Keeps, block-rules, sound-facts}

-- more turns, and more blocks, are no fewer halvings
pub halvings-more : (t t' n n' : ℕ) → t ≤ t' → n ≤ n' → halvings_within t n ≤ halvings_within t' n'
halvings-more zero t' n n' h l = omega arith
halvings-more (suc t) zero n n' h l = absurd (not-suc-le-zero h)
halvings-more (suc t) (suc t') zero n' h l = omega arith
halvings-more (suc t) (suc t') (suc n) zero h l = absurd (not-suc-le-zero l)
halvings-more (suc t) (suc t') (suc n) (suc n') h l =
    let r = halvings-more t t' (suc n / 2) (suc n' / 2) (le_of_suc-le-suc h) (omega arith) in omega arith

-- turns enough are enough
halvings-enough : (t t' n : ℕ) → n ≤ t → n ≤ t' → halvings_within t n ≡ halvings_within t' n
halvings-enough zero zero n h h' = refl
halvings-enough zero (suc t') zero h h' = refl
halvings-enough zero (suc t') (suc n) h h' = absurd (not-suc-le-zero h)
halvings-enough (suc t) zero zero h h' = refl
halvings-enough (suc t) zero (suc n) h h' = absurd (not-suc-le-zero h')
halvings-enough (suc t) (suc t') zero h h' = refl
halvings-enough (suc t) (suc t') (suc n) h h' = ap suc (halvings-enough t t' (suc n / 2) (omega arith) (omega arith))

halvings-half : (n : ℕ) → 1 ≤ n → halvings n ≡ halvings (n / 2) + 1
halvings-half zero h = absurd (not-suc-le-zero h)
halvings-half (suc n) h = ap suc (halvings-enough n (suc n / 2) (suc n / 2) (omega arith) (omega arith)) ∙ sym (add-one _)

-- The turn in which block x is looked at, by its base.
module _ (x : Block) (k addr size : ℕ) where
  on-turn : (P : Search → Type 0) (above below : Search) → (x.base ≡ addr → P (looked_first k (found_as (found_there x k size)))) → (x.base < addr → P (looked_first k above)) → (addr < x.base → P (looked_first k below)) → P (turn_at x k addr size above below)
  unfolding turn_at
  on-turn P above below here up down =
      on-pick (λ r. P (looked_first k r)) _ _ _ (λ e. here (eqb-true _ _ e))
      (λ e.
      let n = eqb-false x.base addr e in
      on-pick (λ r. P (looked_first k r)) _ _ _ (λ l. up (ltb-true _ _ l))
      (λ l. let g = ltb-false x.base addr l in down (omega arith)))

  module _ (above below : Search) where
    pub turn-here : x.base ≡ addr → turn_at x k addr size above below ≡ looked_first k (found_as (found_there x k size))
    unfolding turn_at pick
    turn-here e = rw (eq-eqb _ _ e)

    pub turn-above : x.base < addr → turn_at x k addr size above below ≡ looked_first k above
    unfolding turn_at pick
    turn-above l = rw (ne_eqb x.base addr (λ e. omega arith), lt-ltb _ _ l)

    pub turn_below : addr < x.base → turn_at x k addr size above below ≡ looked_first k below
    unfolding turn_at pick
    turn_below l = rw (ne_eqb x.base addr (λ e. omega arith), le-ltb x.base addr (omega arith))

  -- which pairs name it
  other-base : (x.base ≡ addr → ⊥) → names addr size x ≡ false
  unfolding names
  other-base n = and-false _ _ (ne_eqb _ _ n)

  its-size : x.base ≡ addr → names addr size x ≡ eqb (size_of x) size
  unfolding names ◌and◌
  its-size e = rw (eq-eqb _ _ e)

module _ (b : ℕ → Block) (addr size : ℕ) where
  -- turns enough are enough
  enough : (t t' low m : ℕ) → m ≤ t → m ≤ t' → search_within b addr size t low m ≡ search_within b addr size t' low m
  unfolding search_within
  enough zero zero low m h h' = refl
  enough zero (suc t') low zero h h' = refl
  enough zero (suc t') low (suc m) h h' = absurd (not-suc-le-zero h)
  enough (suc t) zero low zero h h' = refl
  enough (suc t) zero low (suc m) h h' = absurd (not-suc-le-zero h')
  enough (suc t) (suc t') low zero h h' = refl
  enough (suc t) (suc t') low (suc m) h h' =
      ap₂ (turn_at (b (middle_of low (suc m))) (middle_of low (suc m)) addr size)
      (enough t t' (middle_of low (suc m) + 1) (above_middle (suc m)) (omega arith) (omega arith))
      (enough t t' low (below_middle (suc m)) (omega arith) (omega arith))

  -- the blocks looked at are no more than the halvings
  few-looked : (t low m : ℕ) → length (search_within b addr size t low m).looked ≤ halvings_within t m
  unfolding search_within
  few-looked zero low m = omega arith
  few-looked (suc t) low zero = omega arith
  few-looked (suc t) low (suc m) =
      let k : ℕ = middle_of low (suc m) in
      let up = few-looked t (k + 1) (above_middle (suc m)) in
      let down = few-looked t low (below_middle (suc m)) in
      let above = halvings-more t t (above_middle (suc m)) (suc m / 2) (omega arith) (omega arith) in
      let below = halvings-more t t (below_middle (suc m)) (suc m / 2) (omega arith) (omega arith) in
      on-turn (b k) k addr size (λ r. length r.looked ≤ halvings_within (suc t) (suc m))
      (search_within b addr size t (k + 1) (above_middle (suc m))) (search_within b addr size t low (below_middle (suc m)))
      (λ _. omega arith) (λ _. omega arith) (λ _. omega arith)

  -- Bases that rise: what is found among the blocks left is what is found among all n, if no other is named.
  module _ (n : ℕ) (rising : (i j : ℕ) → i < j → j < n → (b i).base < (b j).base) where
    below-not : (k : ℕ) → k < n → (b k).base ≤ addr → (j : ℕ) → j < k → names addr size (b j) ≡ false
    below-not k h l j g = other-base (b j) j addr size (λ e. omega (arith, rising j k g h))

    above-not : (k : ℕ) → addr ≤ (b k).base → (j : ℕ) → k < j → j < n → names addr size (b j) ≡ false
    above-not k l j g h = other-base (b j) j addr size (λ e. omega (arith, rising k j g h))

    -- what holds of the blocks below k, of k, and of those above it, holds of each
    by_place : (P : ℕ → Type 0) (k j : ℕ) → (j < k → P j) → P k → (k < j → P j) → P j
    by_place P k j lo here hi = go (ltb j k) refl (ltb k j) refl
      where
        go : (x : Bool) → ltb j k ≡ x → (y : Bool) → ltb k j ≡ y → P j
        go true e y f = lo (ltb-true j k e)
        go false e true f = hi (ltb-true k j f)
        go false e false f = subst P (omega (arith, ltb-false j k e, ltb-false k j f)) here

    -- none is named where none below low is, and none from low on; where a base is addr, its block decides; where it is another one, so
    -- are those on its far side
    nobody : (low : ℕ) → ((j : ℕ) → j < low → names addr size (b j) ≡ false) → ((j : ℕ) → low ≤ j → j < n → names addr size (b j) ≡ false) → None ≡ first_below n (λ i. names addr size (b i))
    nobody low lo hi = sym (first-nowhere n _ (λ j h. by_side j h (ltb j low) refl))
      where
        by_side : (j : ℕ) → j < n → (x : Bool) → ltb j low ≡ x → names addr size (b j) ≡ false
        by_side j h true e = lo j (ltb-true j low e)
        by_side j h false e = hi j (ltb-false j low e) h

    here : (k : ℕ) → k < n → (b k).base ≡ addr → found_there (b k) k size ≡ first_below n (λ i. names addr size (b i))
    unfolding found_there
    here k h e =
        on-pick (λ x. x ≡ first_below n (λ i. names addr size (b i))) _ _ _
        (λ q. sym (first-is n _ k (record { below = h; passes = its-size (b k) k addr size e ∙ q; before = below-not k h (omega arith) })))
        (λ q. nobody k (below-not k h (omega arith)) (λ j g l. by_place (λ i. names addr size (b i) ≡ false) k j (λ f. absurd (omega arith)) (its-size (b k) k addr size e ∙ q) (λ f. above-not k (omega arith) j f l)))

    upto : (k : ℕ) → k < n → (b k).base < addr → (j : ℕ) → j ≤ k → names addr size (b j) ≡ false
    upto k h l j g = by_place (λ i. names addr size (b i) ≡ false) k j (below-not k h (omega arith) j) (other-base (b k) k addr size (λ e. omega arith)) (λ f. absurd (omega arith))

    from : (k : ℕ) → addr < (b k).base → (j : ℕ) → k ≤ j → j < n → names addr size (b j) ≡ false
    from k l j g h = by_place (λ i. names addr size (b i) ≡ false) k j (λ f. absurd (omega arith)) (other-base (b k) k addr size (λ e. omega arith)) (λ f. above-not k (omega arith) j f h)

    found_within : (t low m : ℕ) → m ≤ t → low + m ≤ n → ((j : ℕ) → j < low → names addr size (b j) ≡ false) → ((j : ℕ) → low + m ≤ j → j < n → names addr size (b j) ≡ false)
        → (search_within b addr size t low m).found ≡ first_below n (λ i. names addr size (b i))
    unfolding search_within
    found_within zero low zero h w lo hi = nobody low lo (λ j g. hi j (omega arith))
    found_within zero low (suc m) h w lo hi = absurd (not-suc-le-zero h)
    found_within (suc t) low zero h w lo hi = nobody low lo (λ j g. hi j (omega arith))
    found_within (suc t) low (suc m) h w lo hi =
        let k : ℕ = middle_of low (suc m) in
        let inside : k < n = omega arith in
        on-turn (b k) k addr size (λ r. r.found ≡ first_below n (λ i. names addr size (b i)))
        (search_within b addr size t (k + 1) (above_middle (suc m))) (search_within b addr size t low (below_middle (suc m)))
        (here k inside)
        (λ l.
        found_within t (k + 1) (above_middle (suc m)) (omega arith) (omega arith)
        (λ j g. upto k inside l j (omega arith)) (λ j g. hi j (omega arith)))
        (λ l. found_within t low (below_middle (suc m)) (omega arith) (omega arith) lo (λ j g. from k l j (omega arith)))

  -- the turn with m blocks left, and none
  one-turn : (low m : ℕ) → 1 ≤ m → search_left b addr size low m ≡ turn_at (b (middle_of low m)) (middle_of low m) addr size (search_left b addr size (middle_of low m + 1) (above_middle m)) (search_left b addr size low (below_middle m))
  unfolding search_within
  one-turn low zero h = absurd (not-suc-le-zero h)
  one-turn low (suc m) h =
      ap₂ (turn_at (b (middle_of low (suc m))) (middle_of low (suc m)) addr size)
      (enough m (above_middle (suc m)) (middle_of low (suc m) + 1) (above_middle (suc m)) (omega arith) (omega arith))
      (enough m (below_middle (suc m)) low (below_middle (suc m)) (omega arith) (omega arith))

  pub none_left_lem : (low m : ℕ) → m ≡ 0 → search_left b addr size low m ≡ found_as None
  unfolding search_within
  none_left_lem low m e = rw e

-- Two lists of blocks that are the same where the first is looked at.
same-within : (b b' : ℕ → Block) (addr size t low m : ℕ) → ((k : ℕ) → Memᴰ k (search_within b addr size t low m).looked → b' k ≡ b k) → search_within b' addr size t low m ≡ search_within b addr size t low m
unfolding search_within
same-within b b' addr size zero low m same = refl
same-within b b' addr size (suc t) low zero same = refl
same-within b b' addr size (suc t) low (suc m) same =
    let k : ℕ = middle_of low (suc m) in
    let up = same-within b b' addr size t (k + 1) (above_middle (suc m)) in
    let down = same-within b b' addr size t low (below_middle (suc m)) in
    let up' : Search = search_within b' addr size t (k + 1) (above_middle (suc m)) in
    let down' : Search = search_within b' addr size t low (below_middle (suc m)) in
    rw (same k (unfold turn_at in (Memᴰ.head refl)))
    (on-turn (b k) k addr size (λ r. ((j : ℕ) → Memᴰ j r.looked → b' j ≡ b j) → turn_at (b k) k addr size up' down' ≡ r)
    (search_within b addr size t (k + 1) (above_middle (suc m))) (search_within b addr size t low (below_middle (suc m)))
    (λ e _. turn-here (b k) k addr size up' down' e)
    (λ l h. turn-above (b k) k addr size up' down' l ∙ ap (looked_first k) (up (λ j q. h j (Memᴰ.tail q))))
    (λ l h. turn_below (b k) k addr size up' down' l ∙ ap (looked_first k) (down (λ j q. h j (Memᴰ.tail q))))
    same)

-- Blocks that keep the rules are in order.
module _ (l : List ℕ) (at n : ℕ) (keep : (i : ℕ) → i < n → block_keeps (block_in l at i) (end_before l at i) ≡ true) where
  rules : (i : ℕ) → i < n → Keeps (block_in l at i) (end_before l at i)
  rules i h = (block-rules _ _ (keep i h)).0

  next-above : (i : ℕ) → suc i < n → (block_in l at i).base < (block_in l at (suc i)).base
  unfolding end_before
  next-above i h =
      let some = (rules i (omega arith)).some in
      let above = (rules (suc i) h).above in
      omega arith

  bases-rise : (i j : ℕ) → i < j → j < n → (block_in l at i).base < (block_in l at j).base
  bases-rise i zero g h = absurd (not-suc-le-zero g)
  bases-rise i (suc j) g h =
      ⊎_elim
      (λ (q : i ≡ j). rw q (next-above j h))
      (λ (g' : i < j). let before = bases-rise i j g' (omega arith) in let step = next-above j h in omega arith)
      (eq-or-lt_of_le (le_of_suc-le-suc g))

  ordered : n ≤ most_blocks → InOrder l at n
  ordered few = record { few = few; rising = bases-rise; small = λ i h. (rules i h).few }

pub keeping-in-order : (l : List ℕ) (at n : ℕ) → blocks_keep l at n ≡ true → InOrder l at n
unfolding blocks_keep
keeping-in-order l at n e =
    let p = both _ _ e in
    ordered l at n (λ i h. every-at _ n i p.1 h) (leb-true _ _ p.0)

pub sound-in-order : (s : List ℕ) → sound s ≡ true → BlocksInOrder s
sound-in-order s e = let f = (sound-facts s e).base in ordered s first_block_word (blocks_of s) f.blocks f.few

-- a block's flag is no part of it
pub in-order-configured : (s : List ℕ) (i flag : ℕ) → BlocksInOrder s → BlocksInOrder (with_configured s i flag)
unfolding block_in
in-order-configured s i flag o =
    let e = configured-frame s i flag in
    let count : blocks_of (with_configured s i flag) ≡ blocks_of s = e block_count_word (λ p q. omega arith) in
    record {
      few = rw count o.few;
      rising = λ j k g h.
          rw (e (first_block_word + j * block_words) (λ p q. omega arith), e (first_block_word + k * block_words) (λ p q. omega arith))
          (o.rising j k g (rw count at h));
      small = λ k h. rw (e (first_block_word + k * block_words + pages_place) (λ p q. omega arith)) (o.small k (rw count at h));
    }

-- The search of blocks in order.
pub in-order-found : (l : List ℕ) (at n addr size : ℕ) → InOrder l at n → (search_in l at n addr size).found ≡ named_in l at n addr size
unfolding search_in
in-order-found l at n addr size o =
    found_within (λ i. block_in l at i) addr size n o.rising n 0 n (omega arith) (omega arith)
    (λ j h. absurd (not-suc-le-zero h)) (λ j g h. absurd (omega arith))

looked-few : (l : List ℕ) (at n addr size : ℕ) → length (search_in l at n addr size).looked ≤ halvings n
unfolding search_in
looked-few l at n addr size = few-looked (λ i. block_in l at i) addr size n 0 n

same_in : (l l' : List ℕ) (at n addr size : ℕ) → ((k : ℕ) → Memᴰ k (search_in l at n addr size).looked → block_in l' at k ≡ block_in l at k) → search_in l' at n addr size ≡ search_in l at n addr size
unfolding search_in
same_in l l' at n addr size same = same-within (λ i. block_in l at i) (λ i. block_in l' at i) addr size n 0 n same

-- what holds at each place of a list holds of each number in it
each_in : (P : ℕ → Type 0) (xs : List ℕ) → ((i : ℕ) → i < length xs → P (get_or xs i 0)) → (k : ℕ) → Memᴰ k xs → P k
each_in P [] f k m = absurd (Memᴰ.not-nil m)
each_in P (x ∷ xs) f k m =
    ⊎_elim
    (λ (e : k ≡ x). subst P (sym e) (f 0 (omega arith)))
    (λ (r : Memᴰ k xs). each_in P xs (λ i h. f (suc i) (omega arith)) k r)
    (Memᴰ.cases_cons m)

-- two results
same-told : (s s' : List ℕ) (addr size : ℕ) (r r' : Searched) → blocks_of s' ≡ blocks_of s → Tells (search_of s addr size) r → Tells (search_of s' addr size) r'
    → ((i : ℕ) → i < r.count → block_at s' (get_or r.looked i 0) ≡ block_at s (get_or r.looked i 0)) → SameTold r r'
same-told s s' addr size r r' count x x' same = record {
  answer = x'.answer ∙ ap (λ y. y.found) alike ∙ sym x.answer;
  counted = x'.counted ∙ ap (λ y. length y.looked) alike ∙ sym x.counted;
  places = x'.places ∙ ap (λ y. y.looked) alike ∙ sym x.places;
}
  where
    there : (k : ℕ) → Memᴰ k (search_of s addr size).looked → block_at s' k ≡ block_at s k
    there =
        each_in (λ k. block_at s' k ≡ block_at s k) (search_of s addr size).looked
        (λ i h.
        let below : i < r.count = omega (arith, x.counted) in
        let place = ap (λ (xs : List ℕ). get_or xs i 0) (sym x.places) ∙ get_or-take r.count r.looked i 0 below in
        subst (λ (k : ℕ). block_at s' k ≡ block_at s k) (sym place) (same i below))

    alike : search_of s' addr size ≡ search_of s addr size
    alike = rw count (same_in s s' first_block_word (blocks_of s) addr size there)

pub search-holds : SearchHolds
unfolding accepted_blocks
search-holds = record {
  each_turn = λ b addr size low m some. one-turn b addr size low m some;
  none_left = λ b addr size low. unfold search_within in refl;
  stays = λ l at n addr size e. in-order-found l at n addr size (keeping-in-order l at n e);
  same_there = λ l l' addr size e e' long same.
      let n : ℕ = length l / block_words in
      let alike = same_in l l' 0 n addr size same in
      rw long (
        sym (in-order-found l' 0 n addr size (keeping-in-order l' 0 n (rw long at (both _ _ e').1)))
            ∙ ap (λ r. r.found) alike
            ∙ in-order-found l 0 n addr size (keeping-in-order l 0 n (both _ _ e).1),
        alike,
      );
  at_most = looked-few;
  halves = halvings-half;
  for_sixteen = refl;
  for_sixty_four = refl;
  returned = same-told;
}
