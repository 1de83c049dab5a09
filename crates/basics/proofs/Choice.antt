-- Laws of choices, connectives and tables.
-- Assumes nothing.
use Rattle.std.specs.Prelude.{Option, Some, None}
use mathlib.Core.Path.{◌≡◌, refl, sym, ap, ◌∙◌, subst}
use mathlib.Core.Bool.{Bool, true, false}
use mathlib.Core.List.{List, [], ◌∷◌}
use mathlib.Core.Logic.{⊎_elim}
use Prim.Native.Nat.{ℕ, zero, suc, ◌+◌, ◌*◌, ◌<◌, ◌≤◌}
use native.Mathlib.Nat.{suc-mul, zero-mul, eq-or-lt_of_le, le_of_suc-le-suc, not-suc-le-zero}
use native.Mathlib.Omega.{arith}
use lib.ListN.{length, get_or, set, length-append, length-set, get_or-append}
use lib.Seq.{get_or_at, ext_get_or, get_or-set_same, get_or-set_other}
use lib.Dec.{eqb, ltb}
use borrow.Author.Tests.{eqb-true, eqb-false, ne_eqb, ltb-true, ltb-false}
use Rattle.basics.specs.Choice.{pick, ◌and◌, ◌or◌, every, or_else, first_below, is_found, tabulate, cleared_from, joined}

-- Tests.
pub clash : (b : Bool) → b ≡ false → b ≡ true → ⊥
clash true e f = let z : ◌≡◌ {A = ℕ} 0 1 = cc in omega arith
clash false e f = let z : ◌≡◌ {A = ℕ} 0 1 = cc in omega arith

-- what holds of both choices, each under its test, holds of the choice
pub on-pick : {A : Type 0} (P : A → Type 0) (b : Bool) (x y : A) → (b ≡ true → P x) → (b ≡ false → P y) → P (pick b x y)
unfolding pick
on-pick P true x y f g = f refl
on-pick P false x y f g = g refl

pub pick_true : {A : Type 0} (b : Bool) (x y : A) → b ≡ true → pick b x y ≡ x
unfolding pick
pick_true b x y e = rw e

pub pick-false : {A : Type 0} (b : Bool) (x y : A) → b ≡ false → pick b x y ≡ y
unfolding pick
pick-false b x y e = rw e

pub both : (a b : Bool) → (a and b) ≡ true → (a ≡ true) × (b ≡ true)
unfolding ◌and◌
both true b q = (refl, q)
both false true q = (q, refl)
both false false q = (q, q)

pub join : (a b : Bool) → a ≡ true → b ≡ true → (a and b) ≡ true
unfolding ◌and◌
join a b p q = rw (p, q)

-- A list of tests: their conjunction, and that each holds.
abbrev all_of : List Bool → Bool
all_of [] = true
all_of (b ∷ []) = b
all_of (b ∷ c ∷ l) = b and all_of (c ∷ l)

abbrev Each : List Bool → Type 0
Each [] = Unit {0}
Each (b ∷ []) = b ≡ true
Each (b ∷ c ∷ l) = (b ≡ true) × Each (c ∷ l)

-- where the conjunction holds, each test does
pub each_of : (l : List Bool) → all_of l ≡ true → Each l
each_of [] e = tt
each_of (b ∷ []) e = e
each_of (b ∷ c ∷ l) e = let p = both b (all_of (c ∷ l)) e in (p.0, each_of (c ∷ l) p.1)

-- where each test holds, the conjunction does
pub all-of : (l : List Bool) → Each l → all_of l ≡ true
all-of [] h = refl
all-of (b ∷ []) h = h
all-of (b ∷ c ∷ l) h = join b (all_of (c ∷ l)) h.0 (all-of (c ∷ l) h.1)

pub and-false : (a b : Bool) → a ≡ false → (a and b) ≡ false
unfolding ◌and◌
and-false a b e = rw e

pub and-false-right : (a b : Bool) → b ≡ false → (a and b) ≡ false
unfolding ◌and◌
and-false-right true b e = e
and-false-right false b e = refl

pub or-false : (a b : Bool) → (a or b) ≡ false → (a ≡ false) × (b ≡ false)
unfolding ◌or◌
or-false true b e = absurd (clash true e refl)
or-false false b e = (refl, e)

pub or-true : (a : Bool) → (a or true) ≡ true
unfolding ◌or◌
or-true true = refl
or-true false = refl

pub or-none : (a : Bool) → (a or false) ≡ a
unfolding ◌or◌
or-none true = refl
or-none false = refl

-- A test at each number.
pub every-make : (f : ℕ → Bool) (n : ℕ) → ((i : ℕ) → i < n → f i ≡ true) → every n f ≡ true
unfolding every ◌and◌
every-make f zero h = refl
every-make f (suc n) h = rw (every-make f n (λ i k. h i (omega arith)), h n (omega arith))

pub every-at : (f : ℕ → Bool) (n i : ℕ) → every n f ≡ true → i < n → f i ≡ true
unfolding every
every-at f zero i e h = absurd (not-suc-le-zero h)
every-at f (suc n) i e h =
    ⊎_elim
    (λ (q : i ≡ n). ap f q ∙ (both (every n f) (f n) e).1)
    (λ (l : i < n). every-at f n i (both (every n f) (f n) e).0 l)
    (eq-or-lt_of_le (le_of_suc-le-suc h))

pub every-same : (f g : ℕ → Bool) (n : ℕ) → ((i : ℕ) → i < n → g i ≡ f i) → every n g ≡ every n f
unfolding every
every-same f g zero h = refl
every-same f g (suc n) h = rw (every-same f g n (λ i k. h i (omega arith)), h n (omega arith))

-- Tables.
module _ {A : Type 0} where
  pub tabulate-length : (f : ℕ → A) (n : ℕ) → length (tabulate f n) ≡ n
  unfolding tabulate
  tabulate-length f zero = refl
  tabulate-length f (suc n) = let h = tabulate-length f n in length-append (tabulate f n) (f n ∷ []) ∙ omega arith

  pub tabulate-at : (f : ℕ → A) (n i : ℕ) (d : A) → i < n → get_or (tabulate f n) i d ≡ f i
  unfolding tabulate
  tabulate-at f zero i d h = absurd (not-suc-le-zero h)
  tabulate-at f (suc n) i d h =
      ⊎_elim
      (λ (e : i ≡ n). get_or_at (tabulate f n) (f n) [] d i (tabulate-length f n ∙ sym e) ∙ ap f (sym e))
      (λ (l : i < n).
      get_or-append (tabulate f n) (f n ∷ []) d i (subst (λ (k : ℕ). i < k) (sym (tabulate-length f n)) l)
      ∙ tabulate-at f n i d l)
      (eq-or-lt_of_le (le_of_suc-le-suc h))

-- equal values, and one changed value
module _ {A : Type 0} (f g : ℕ → A) (n : ℕ) (d : A) where
  pub tabulate-same : ((i : ℕ) → i < n → g i ≡ f i) → tabulate g n ≡ tabulate f n
  tabulate-same h =
      ext_get_or d (tabulate g n) (tabulate f n) (tabulate-length g n ∙ sym (tabulate-length f n))
      (λ i k.
      let k' : i < n = omega (arith, tabulate-length g n) in
      tabulate-at g n i d k' ∙ h i k' ∙ sym (tabulate-at f n i d k'))

  pub tabulate-set : (k : ℕ) (v : A) → (k < n → g k ≡ v) → ((i : ℕ) → i < n → (i ≡ k → ⊥) → g i ≡ f i) → tabulate g n ≡ set (tabulate f n) k v
  tabulate-set k v at other =
      ext_get_or d (tabulate g n) (set (tabulate f n) k v)
      (tabulate-length g n ∙ sym (tabulate-length f n) ∙ sym (length-set (tabulate f n) k v))
      (λ i h. go i (omega (arith, tabulate-length g n)) (eqb i k) refl)
    where
      go : (i : ℕ) → i < n → (b : Bool) → eqb i k ≡ b → get_or (tabulate g n) i d ≡ get_or (set (tabulate f n) k v) i d
      go i h true e =
          let q : i ≡ k = eqb-true i k e in
          tabulate-at g n i d h
          ∙ ap g q
          ∙ at (omega arith)
          ∙ sym (get_or-set_same (tabulate f n) k v d (omega (arith, tabulate-length f n)))
          ∙ ap (λ (j : ℕ). get_or (set (tabulate f n) k v) j d) (sym q)
      go i h false e =
          let q = eqb-false i k e in
          tabulate-at g n i d h
          ∙ other i h q
          ∙ sym (tabulate-at f n i d h)
          ∙ sym (get_or-set_other (tabulate f n) k i v d q)

-- values made d, from place k on
pub tabulate-cleared : {A : Type 0} (f : ℕ → A) (n : ℕ) (d : A) (k m : ℕ) (g : ℕ → A) → ((i : ℕ) → i < n → k ≤ i → i < k + m → g i ≡ d) → ((i : ℕ) → i < n → (k ≤ i → i < k + m → ⊥) → g i ≡ f i) → tabulate g n ≡ cleared_from d (tabulate f n) k m
unfolding cleared_from
tabulate-cleared f n d k zero g at other = tabulate-same f g n d (λ i h. other i h (λ p q. omega arith))
tabulate-cleared {A} f n d k (suc m) g at other =
    tabulate-set before g n d (k + m) d (λ h. at (k + m) h (omega arith) (omega arith))
    (λ i h q. sym (pick-false (eqb i (k + m)) (f i) (g i) (ne_eqb i (k + m) q)))
    ∙ ap (λ (l : List A). set l (k + m) d)
    (tabulate-cleared f n d k m before
    (λ i h lo hi. pick-false (eqb i (k + m)) (f i) (g i) (ne_eqb i (k + m) (λ q. omega arith)) ∙ at i h lo (omega arith))
    (λ i h out.
    on-pick (λ (x : A). x ≡ f i) (eqb i (k + m)) (f i) (g i) (λ e. refl)
    (λ e.
    let apart = eqb-false i (k + m) e in
    other i h (λ lo hi. ⊎_elim (λ (q : i ≡ k + m). apart q) (λ (l : i < k + m). out lo l) (eq-or-lt_of_le (omega arith))))))
  where
    before : ℕ → A
    before i = pick (eqb i (k + m)) (f i) (g i)

-- n lists of k elements each
pub joined_length : (f : ℕ → List ℕ) (k n : ℕ) → ((i : ℕ) → length (f i) ≡ k) → length (joined f n) ≡ n * k
unfolding joined
joined_length f k zero h = sym (zero-mul k)
joined_length f k (suc n) h = length-append (joined f n) (f n) ∙ rw (joined_length f k n h, h n) (sym (suc-mul n k))

-- equal lists
pub joined_same : (f g : ℕ → List ℕ) (n : ℕ) → ((i : ℕ) → i < n → g i ≡ f i) → joined g n ≡ joined f n
unfolding joined
joined_same f g zero h = refl
joined_same f g (suc n) h = rw (joined_same f g n (λ i k. h i (omega arith)), h n (omega arith))

-- The first that passes.
pub record First (n : ℕ) (f : ℕ → Bool) (i : ℕ) : Type 0 where
  pub below : i < n
  pub passes : f i ≡ true
  pub before : (j : ℕ) → j < i → f j ≡ false

-- what holds where one is the first, and where none passes, holds of what is found
pub on-first : (P : Option ℕ → Type 0) (n : ℕ) (f : ℕ → Bool) → ((i : ℕ) → First n f i → P (Some i)) → (((j : ℕ) → j < n → f j ≡ false) → P None) → P (first_below n f)
unfolding first_below
on-first P zero f a b = b (λ j h. absurd (not-suc-le-zero h))
on-first P (suc n) f a b =
    on-first (λ x. P (or_else x (pick (f n) (Some n) None))) n f
    (λ i r. unfold or_else in (a i (record { below = omega (arith, r.below); passes = r.passes; before = r.before })))
    (λ none. go (f n) refl none)
  where
    all-false : f n ≡ false → ((j : ℕ) → j < n → f j ≡ false) → (j : ℕ) → j < suc n → f j ≡ false
    all-false e none j h =
        ⊎_elim (λ (q : j ≡ n). ap f q ∙ e) (λ (l : j < n). none j l) (eq-or-lt_of_le (le_of_suc-le-suc h))

    go : (x : Bool) → f n ≡ x → ((j : ℕ) → j < n → f j ≡ false) → P (or_else None (pick x (Some n) None))
    go true e none = unfold or_else pick in (a n (record { below = omega arith; passes = e; before = none }))
    go false e none = unfold or_else pick in (b (all-false e none))

-- a first one, and none, by what was seen of the numbers before it
pub first-is : (n : ℕ) (f : ℕ → Bool) (i : ℕ) → First n f i → first_below n f ≡ Some i
first-is n f i r =
    on-first (λ x. x ≡ Some i) n f
    (λ k q. ap Some (same k q (ltb k i) refl (ltb i k) refl))
    (λ none. absurd (clash (f i) (none i r.below) r.passes))
  where
    same : (k : ℕ) → First n f k → (x : Bool) → ltb k i ≡ x → (y : Bool) → ltb i k ≡ y → k ≡ i
    same k q true x y e = absurd (clash (f k) (r.before k (ltb-true k i x)) q.passes)
    same k q false x true e = absurd (clash (f i) (q.before i (ltb-true i k e)) r.passes)
    same k q false x false e = omega (arith, ltb-false k i x, ltb-false i k e)

pub first-nowhere : (n : ℕ) (f : ℕ → Bool) → ((j : ℕ) → j < n → f j ≡ false) → first_below n f ≡ None
first-nowhere n f none =
    on-first (λ x. x ≡ None) n f (λ i r. absurd (clash (f i) (none i r.below) r.passes)) (λ _. refl)

-- tests that agree find the same
pub first-same : (n : ℕ) (f g : ℕ → Bool) → ((i : ℕ) → i < n → g i ≡ f i) → first_below n g ≡ first_below n f
unfolding first_below
first-same zero f g h = refl
first-same (suc n) f g h = rw (first-same n f g (λ i l. h i (omega arith)), h n (omega arith))

-- what was found
pub first-facts : (n : ℕ) (f : ℕ → Bool) (i : ℕ) → first_below n f ≡ Some i → First n f i
unfolding is_found
first-facts n f i =
    on-first (λ x. x ≡ Some i → First n f i) n f
    (λ k r e. let q : k ≡ i = ap place_in e in rw q at r)
    (λ _ e. absurd (clash false refl (ap is_found e)))
  where
    place_in : Option ℕ → ℕ
    place_in (Some k) = k
    place_in None = 0
