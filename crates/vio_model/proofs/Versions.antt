-- Laws of a list of versions.
-- Assumes nothing.
use mathlib.Core.Path.{◌≡◌, refl}
use mathlib.Core.Bool.{Bool, true, false, not}
use mathlib.Core.List.{List, [], ◌∷◌}
use mathlib.Core.Logic.{⊎_elim}
use Prim.Native.Nat.{ℕ, zero, suc, ◌%◌, ◌≤◌, ◌<◌, max}
use native.Mathlib.Omega.{arith}
use native.Mathlib.Nat.{not-suc-le-zero, eq-or-lt_of_le, le_of_suc-le-suc}
use lib.ListN.{length}
use lib.Dec.{leb, ltb, eqb}
use borrow.Author.Tests.{eqb-true, eq-eqb, ltb-true, lt-ltb, leb-true, leb-false, le-leb, lt-leb, not-true}
use Rattle.basics.specs.Choice.{pick, ◌and◌, ◌or◌, every}
use Rattle.basics.proofs.Choice.{clash, every-at, on-pick, pick_true, pick-false, or-false, each_of}
use Rattle.vio_model.specs.Layout.{version_words, most_versions}
use Rattle.vio_model.specs.Versions.{version_limit, major_at, minor_at, count_of, holds_in, holds, minor_in, minor_of, highest_in, highest_below, version_keeps, accepted_list}

-- a test is true or false
pub by_cases : {A : Type 0} (b : Bool) → (b ≡ true → A) → (b ≡ false → A) → A
by_cases true f g = f refl
by_cases false f g = g refl

-- a major among one version more
pub or-true : (a b : Bool) → b ≡ true → (a or b) ≡ true
unfolding ◌or◌
or-true true b e = refl
or-true false b e = e

or_left : (a b : Bool) → (a or b) ≡ true → b ≡ false → a ≡ true
unfolding ◌or◌
or_left true b e f = refl
or_left false b e f = absurd (clash b f e)

pub holds-here : (l : List ℕ) (n : ℕ) → holds_in l (major_at l n) (suc n) ≡ true
unfolding holds_in
holds-here l n = or-true (holds_in l (major_at l n) n) _ (eq-eqb (major_at l n) _ refl)

pub holds_more : (l : List ℕ) (m n : ℕ) → holds_in l m n ≡ true → holds_in l m (suc n) ≡ true
unfolding holds_in ◌or◌
holds_more l m n e = rw e

pub holds_at : (l : List ℕ) (i n : ℕ) → i < n → holds_in l (major_at l i) n ≡ true
holds_at l i zero h = absurd (not-suc-le-zero h)
holds_at l i (suc n) h =
    ⊎_elim
    (λ (q : i ≡ n). rw q (holds-here l n))
    (λ (k : i < n). holds_more l (major_at l i) n (holds_at l i n k))
    (eq-or-lt_of_le (le_of_suc-le-suc h))

-- what holds of each version's major holds of each major held
module _ (P : ℕ → Type 0) (l : List ℕ) (m : ℕ) where
  pub on-held : (n : ℕ) → ((i : ℕ) → i < n → P (major_at l i)) → holds_in l m n ≡ true → P m
  unfolding holds_in ◌or◌
  on-held zero f e = absurd (clash false refl e)
  on-held (suc n) f e = go (on-held n (λ i k. f i (omega arith))) (holds_in l m n) refl e
    where
      go : (holds_in l m n ≡ true → P m) → (b : Bool) → holds_in l m n ≡ b → (b or eqb (major_at l n) m) ≡ true → P m
      go ih true h t = ih h
      go ih false h t = rw (eqb-true (major_at l n) m t) at (f n (omega arith))

-- The highest major below a bound.
module _ (l : List ℕ) (bound : ℕ) where
  -- a number that is 0, or a major of the first n versions below the bound
  abbrev Found : ℕ → ℕ → Type 0
  Found n m = (m ≡ 0 → ⊥) → (holds_in l m n ≡ true) × (m < bound)

  found-more : (n m : ℕ) → Found n m → Found (suc n) m
  found-more n m f z = let r = f z in (holds_more l m n r.0, r.1)

  found-higher : (n a b : ℕ) → Found n a → Found n b → Found n (max a b)
  found-higher n a b f g =
      by_cases (leb b a)
      (λ e. let q : max a b ≡ a = omega (arith, leb-true b a e) in rw q f)
      (λ e. let q : max a b ≡ b = omega (arith, leb-false b a e) in rw q g)

  pub highest-held : (n : ℕ) → (highest_in l bound n ≡ 0 → ⊥) → (holds_in l (highest_in l bound n) n ≡ true) × (highest_in l bound n < bound)
  unfolding highest_in
  highest-held zero f = absurd (f refl)
  highest-held (suc n) f =
      let before = found-more n _ (highest-held n) in
      on-pick (Found (suc n)) _ _ _
      (λ t. found-higher (suc n) (major_at l n) _ (λ _. (holds-here l n, ltb-true _ _ t)) before)
      (λ _. before)
      f

  highest-at : (n i : ℕ) → i < n → major_at l i < bound → major_at l i ≤ highest_in l bound n
  unfolding highest_in
  highest-at zero i k b = absurd (not-suc-le-zero k)
  highest-at (suc n) i k b =
      ⊎_elim
      (λ (q : i ≡ n).
      let e : ltb (major_at l n) bound ≡ true = rw (← q) (lt-ltb _ _ b) in
      rw (pick_true _ _ _ e, q) (omega arith))
      (λ (h : i < n).
      let ih = highest-at n i h b in
      on-pick (λ m. major_at l i ≤ m) (ltb (major_at l n) bound) _ _ (λ _. omega arith) (λ _. ih))
      (eq-or-lt_of_le (le_of_suc-le-suc k))

  -- no major held below the bound is above it
  pub highest-top : (n m : ℕ) → holds_in l m n ≡ true → m < bound → m ≤ highest_in l bound n
  highest-top n m e = on-held (λ k. k < bound → k ≤ highest_in l bound n) l m n (λ i k. highest-at n i k) e

-- a major that is not held has minor 0
pub minor-none : (l : List ℕ) (m n : ℕ) → holds_in l m n ≡ false → minor_in l m n ≡ 0
unfolding holds_in minor_in pick
minor-none l m zero e = refl
minor-none l m (suc n) e = let q = or-false (holds_in l m n) (eqb (major_at l n) m) e in rw q.1 (minor-none l m n q.0)

pub minor-bound : (l : List ℕ) (m bound n : ℕ) → 0 < bound → ((i : ℕ) → i < n → minor_at l i < bound) → minor_in l m n < bound
unfolding minor_in
minor-bound l m bound zero p f = p
minor-bound l m bound (suc n) p f =
    on-pick (λ k. k < bound) (eqb (major_at l n) m) _ _ (λ _. f n (omega arith)) (λ _. minor-bound l m bound n p (λ i k. f i (omega arith)))

-- The rules of an accepted list.
pub record VersionRules (l : List ℕ) (i : ℕ) : Type 0 where
  pub from : 1 ≤ major_at l i
  pub below : major_at l i < version_limit
  pub minors : minor_at l i < version_limit
  pub fresh : holds_in l (major_at l i) i ≡ false

pub version-rules : (l : List ℕ) (i : ℕ) → version_keeps l i ≡ true → VersionRules l i
unfolding version_keeps
version-rules l i t = let h = each_of (_ ∷ _ ∷ _ ∷ _ ∷ []) t in search (arith, leb-true, ltb-true, not-true)

-- where the numbers keep the rules, the majors before it decide
pub version-last : (l : List ℕ) (i : ℕ) → 1 ≤ major_at l i → major_at l i < version_limit → minor_at l i < version_limit → version_keeps l i ≡ not (holds_in l (major_at l i) i)
unfolding version_keeps ◌and◌
version-last l i a b c = rw (le-leb _ _ a, lt-ltb _ _ b, lt-ltb _ _ c)

pub record ListRules (l : List ℕ) : Type 0 where
  pub whole : length l % version_words ≡ 0
  pub some : 1 ≤ count_of l
  pub few : count_of l ≤ most_versions
  pub each : (i : ℕ) → i < count_of l → VersionRules l i

pub list-rules : (l : List ℕ) → accepted_list l ≡ true → ListRules l
unfolding accepted_list
list-rules l t =
    let h = each_of (_ ∷ _ ∷ _ ∷ _ ∷ []) t in
    record {
      whole = omega (arith, eqb-true);
      some = omega (arith, leb-true);
      few = omega (arith, leb-true);
      each = λ i k. version-rules l i (every-at (version_keeps l) _ i (cc) k);
    }

-- where it has 1 to 16 whole versions, each of them decides
pub list-last : (l : List ℕ) → length l % version_words ≡ 0 → 1 ≤ count_of l → count_of l ≤ most_versions → accepted_list l ≡ every (count_of l) (λ i. version_keeps l i)
unfolding accepted_list ◌and◌
list-last l a b c = rw (eq-eqb _ _ a, le-leb _ _ b, le-leb _ _ c)

-- Of an accepted list: its majors and minors, and its highest major.
module _ (l : List ℕ) (rules : ListRules l) where
  pub held-range : (m : ℕ) → holds l m ≡ true → (1 ≤ m) × (m < version_limit)
  held-range m e =
      on-held (λ k. (1 ≤ k) × (k < version_limit)) l m (count_of l)
      (λ i h. let r = rules.each i h in (r.from, r.below)) e

  pub zero-not-held : holds l 0 ≡ false
  zero-not-held = by_cases (holds l 0) (λ e. absurd (omega (arith, held-range 0 e))) (λ e. e)

  pub minor-range : (m : ℕ) → minor_of l m < version_limit
  minor-range m = minor-bound l m version_limit (count_of l) (omega arith) (λ i h. (rules.each i h).minors)

  -- it has a highest major, and every major is at or below it
  pub highest-some : highest_below l version_limit ≡ 0 → ⊥
  highest-some e =
      let r = rules.each 0 rules.some in
      let h = highest-at l version_limit (count_of l) 0 rules.some r.below in
      omega (arith, r.from, e, h)

-- The number of the first n versions whose major is at or below m.
pub up_to : List ℕ → ℕ → ℕ → ℕ
up_to l m zero = 0
up_to l m (suc n) = pick (leb (major_at l n) m) (suc (up_to l m n)) (up_to l m n)

pub up-to-all : (l : List ℕ) (m n : ℕ) → up_to l m n ≤ n
unfolding up_to
up-to-all l m zero = omega arith
up-to-all l m (suc n) = let h = up-to-all l m n in on-pick (λ k. k ≤ suc n) (leb (major_at l n) m) _ _ (λ _. omega arith) (λ _. omega arith)

module _ (l : List ℕ) (h m : ℕ) (less : h < m) where
  up-to-mono : (n : ℕ) → up_to l h n ≤ up_to l m n
  unfolding up_to
  up-to-mono zero = omega arith
  up-to-mono (suc n) =
      let ih = up-to-mono n in
      on-pick (λ k. k ≤ up_to l m (suc n)) (leb (major_at l n) h) _ _
      (λ e. let k : major_at l n ≤ m = omega (arith, leb-true (major_at l n) h e) in rw (pick_true _ _ _ (le-leb _ _ k)) (omega arith))
      (λ e. on-pick (λ k. up_to l h n ≤ k) (leb (major_at l n) m) _ _ (λ _. omega arith) (λ _. ih))

  -- a held major counts
  pub up-to-less : (n : ℕ) → holds_in l m n ≡ true → up_to l h n < up_to l m n
  unfolding holds_in up_to
  up-to-less zero e = absurd (clash false refl e)
  up-to-less (suc n) e =
      let le = up-to-mono n in
      by_cases (eqb (major_at l n) m)
      (λ q.
      let k = eqb-true (major_at l n) m q in
      rw (pick-false _ _ _ (lt-leb (major_at l n) h (omega arith)), pick_true _ _ _ (le-leb (major_at l n) m (omega arith)))
      (omega arith))
      (λ q. grown (up-to-less n (or_left _ _ e q)))
    where
      grown : up_to l h n < up_to l m n → up_to l h (suc n) < up_to l m (suc n)
      grown ih =
          on-pick (λ k. k < up_to l m (suc n)) (leb (major_at l n) h) _ _
          (λ r. let k : major_at l n ≤ m = omega (arith, leb-true (major_at l n) h r) in rw (pick_true _ _ _ (le-leb _ _ k)) (omega arith))
          (λ r. on-pick (λ k. up_to l h n < k) (leb (major_at l n) m) _ _ (λ _. omega arith) (λ _. ih))
