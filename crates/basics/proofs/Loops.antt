-- A branch on a test, and loops that make a test at each number below a bound: that all pass, and for the first that passes.
-- Assumes nothing.
use Rattle.std.specs.Prelude.{Some, None}
use mathlib.Core.Path.{◌≡◌, refl, sym, ap, ◌∙◌, subst}
use mathlib.Core.Logic.{⊎_elim}
use mathlib.Core.Bool.{Bool, true, false, not}
use Prim.Native.Nat.{ℕ, ◌+◌, ◌<◌, ◌≤◌}
use native.Mathlib.Nat.{le_antisymm, eq-or-lt_of_le, le_of_suc-le-suc, not-suc-le-zero, lt_of_lt_of_le}
use native.Mathlib.Numerals.{add-one}
use borrow.Author.Tests.{not-true, not-false}
use Rattle.basics.specs.Choice.{◌and◌, every, first_below}
use Rattle.basics.proofs.Choice.{clash, every-at, first-is, first-nowhere}

-- what is not true is false
pub refute : (b : Bool) → (b ≡ true → ⊥) → false ≡ b
refute true h = absurd (h refl)
refute false h = refl

-- a function's answer b is p: `if !b` was taken, and p is false; it was left, and p is true
pub no : {p : Bool} (b : Bool) → b ≡ p → not b ≡ true → p ≡ false
no b e t = sym e ∙ not-true b t

pub yes : {p : Bool} (b : Bool) → b ≡ p → not b ≡ false → p ≡ true
yes b e t = sym e ∙ not-false b t

-- before the first turn; after a turn that passed
pub every-none : (f : ℕ → Bool) → every 0 f ≡ true
unfolding every
every-none f = refl

pub every_more : (f : ℕ → Bool) (i : ℕ) → every i f ≡ true → f i ≡ true → every (i + 1) f ≡ true
unfolding every ◌and◌
every_more f i e t = rw (add-one, e, t)

-- a turn that failed; the last turn done
pub every-fails : (f : ℕ → Bool) (n i : ℕ) → i < n → f i ≡ false → false ≡ every n f
every-fails f n i h t = refute (every n f) (λ e. clash (f i) t (every-at f n i e h))

pub every-all : (f : ℕ → Bool) (n i : ℕ) → i ≤ n → n ≤ i → every i f ≡ true → true ≡ every n f
every-all f n i h l e = sym (subst (λ (k : ℕ). every k f ≡ true) (le_antisymm h l) e)

-- A loop that searches: no number passed by passes the test.
abbrev pub NoneBelow : (ℕ → Bool) → ℕ → Type 0
NoneBelow f i = (j : ℕ) → j < i → f j ≡ false

pub none_first : (f : ℕ → Bool) → NoneBelow f 0
none_first f j h = absurd (not-suc-le-zero h)

pub none_more : (f : ℕ → Bool) (i : ℕ) → NoneBelow f i → f i ≡ false → NoneBelow f (i + 1)
none_more f i e t j h =
    ⊎_elim
    (λ (q : j ≡ i). ap f q ∙ t)
    (λ (l : j < i). e j l)
    (eq-or-lt_of_le (le_of_suc-le-suc (subst (λ (k : ℕ). j < k) (add-one i) h)))

-- a turn that passed; the last turn done
pub found_here : (f : ℕ → Bool) (n i : ℕ) → NoneBelow f i → i < n → f i ≡ true → Some i ≡ first_below n f
found_here f n i e h t = sym (first-is n f i (record { below = h; passes = t; before = e }))

pub found_nowhere : (f : ℕ → Bool) (n i : ℕ) → NoneBelow f i → n ≤ i → None ≡ first_below n f
found_nowhere f n i e l = sym (first-nowhere n f (λ j h. e j (lt_of_lt_of_le h l)))
