-- The rows of the refusals: those of drain, and the rows after them.
-- Assumes nothing.
use mathlib.Core.Path.{◌≡◌, refl, sym, ◌∙◌}
use mathlib.Core.Bool.{Bool, true, false}
use mathlib.Core.List.{List, [], ◌∷◌, ◌++◌}
use Prim.Native.Nat.{ℕ, ◌≤◌, ◌<◌}
use borrow.Author.Tests.{lt-ltb, le-ltb, lt-leb, le-leb}
use Rattle.basics.specs.Choice.{pick}
use native.Mathlib.Omega.{arith}
use lib.ListN.{length}
use Rattle.model.specs.declared.Refusal.{Refusal}
use Rattle.model.specs.declared.Refusal.TheVariants.{BadJournal, ShortOutput, OutOfRange, JournalFull, NumbersUsed, NotAllowed, BadList, Unsound}
use Rattle.model.specs.Refusals.{Row, number_of, refusal_in, lent_rows, action_rows, action_refusal, drain_refusal}
use Rattle.model.proofs.Calls.{row-passed}
use Rattle.model.specs.Layout.{held_of, highest_number, last_of, most_held, output_bytes, state_words}

-- rows that refuse hide the rows after them
rows-first : (xs ys : List Row) → (refusal_in xs ≡ 0 → ⊥) → refusal_in (xs ++ ys) ≡ refusal_in xs
unfolding refusal_in
rows-first [] ys n = absurd (n refl)
rows-first (r ∷ xs) ys n = go r.when n (rows-first xs ys)
  where
    go : (b : Bool) → (pick b r.number (refusal_in xs) ≡ 0 → ⊥) → ((refusal_in xs ≡ 0 → ⊥) → refusal_in (xs ++ ys) ≡ refusal_in xs) → pick b r.number (refusal_in (xs ++ ys)) ≡ pick b r.number (refusal_in xs)
    go true m f = unfold pick in refl
    go false m f = unfold pick in (f (unfold pick in m))

-- the rows of every call come first
module _ (s : List ℕ) (words : ℕ) (ys : List Row) where
  pub lent-first : (drain_refusal s words ≡ 0 → ⊥) → refusal_in (lent_rows s words ++ ys) ≡ drain_refusal s words
  unfolding drain_refusal
  lent-first n = rows-first (lent_rows s words) ys n

  pub lent-past : drain_refusal s words ≡ 0 → refusal_in (lent_rows s words ++ ys) ≡ refusal_in ys
  unfolding drain_refusal
  lent-past e =
      let p = row-passed _ _ refl e in
      let q = row-passed _ _ refl p.1 in
      unfold refusal_in pick in rw (p.0, q.0)

-- drain's refusals are the first two of every action
module _ (s : List ℕ) (words bytes : ℕ) (within may : Bool) where
  pub refusal-first : (drain_refusal s words ≡ 0 → ⊥) → action_refusal s words bytes within may ≡ drain_refusal s words
  unfolding action_refusal
  refusal-first n = lent-first s words (action_rows s bytes within may) n

  pub refusal-past : drain_refusal s words ≡ 0 → action_refusal s words bytes within may ≡ refusal_in (action_rows s bytes within may)
  unfolding action_refusal
  refusal-past e = lent-past s words (action_rows s bytes within may) e

  -- past them, what the rows of an action give, with the state's length
  pub refused-by : 0 ≡ drain_refusal s words → length s ≡ state_words → {n : ℕ} → refusal_in (action_rows s bytes within may) ≡ n → (n ≡ action_refusal s words bytes within may) × (length s ≡ state_words)
  refused-by z size e = (sym (refusal-past (sym z) ∙ e), size)

-- no refusal has the number 0
pub positive : (r : Refusal) → number_of r ≡ 0 → ⊥
positive BadJournal z = omega (arith, z)
positive ShortOutput z = omega (arith, z)
positive OutOfRange z = omega (arith, z)
positive JournalFull z = omega (arith, z)
positive NumbersUsed z = omega (arith, z)
positive NotAllowed z = omega (arith, z)
positive BadList z = omega (arith, z)
positive Unsound z = omega (arith, z)

-- the rows of an action, one after the other
module _ (s : List ℕ) (bytes : ℕ) (within may : Bool) where
  pub row-2 : bytes < output_bytes → refusal_in (action_rows s bytes within may) ≡ 2
  unfolding refusal_in pick
  row-2 h = rw (lt-ltb _ _ h)

  module _ (h₂ : output_bytes ≤ bytes) where
    pub row-3 : within ≡ false → refusal_in (action_rows s bytes within may) ≡ 3
    unfolding refusal_in pick
    row-3 h = rw (le-ltb _ _ h₂, h)

    module _ (h₃ : within ≡ true) where
      pub row-4 : most_held ≤ held_of s → refusal_in (action_rows s bytes within may) ≡ 4
      unfolding refusal_in pick
      row-4 h = rw (le-ltb _ _ h₂, h₃, le-leb _ _ h)

      module _ (h₄ : held_of s < most_held) where
        pub row-5 : highest_number ≤ last_of s → refusal_in (action_rows s bytes within may) ≡ 5
        unfolding refusal_in pick
        row-5 h = rw (le-ltb _ _ h₂, h₃, lt-leb _ _ h₄, le-leb _ _ h)

        module _ (h₅ : last_of s < highest_number) where
          pub row-6 : may ≡ false → refusal_in (action_rows s bytes within may) ≡ 6
          unfolding refusal_in pick
          row-6 h = rw (le-ltb _ _ h₂, h₃, lt-leb _ _ h₄, lt-leb _ _ h₅, h)

          pub row-none : may ≡ true → refusal_in (action_rows s bytes within may) ≡ 0
          unfolding refusal_in pick
          row-none h = rw (le-ltb _ _ h₂, h₃, lt-leb _ _ h₄, lt-leb _ _ h₅, h)
