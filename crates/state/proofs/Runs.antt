-- Runs of words stored in a list.
-- Assumes nothing.
use mathlib.Core.Path.{◌≡◌, sym, ap, ◌∙◌}
use mathlib.Core.List.{List, [], ◌∷◌, ◌++◌}
use Prim.Native.Nat.{ℕ, suc, ◌+◌, ◌<◌, ◌≤◌}
use native.Mathlib.Nat.{le_of_lt}
use native.Mathlib.Numerals.{add-one}
use lib.ListN.{length, get_or, set, take, drop}
use lib.Seq.{sets, take-suc, length-take-le, drop-cons, set_at, append_snoc, take_all}
use Rattle.wire.proofs.Laws.{sets-append}
pub use Rattle.wire.proofs.Laws.{part-stored}

module _ {A : Type 0} where
  -- a list l whose first i elements are v's: one more
  pub fill_more : (l v : List A) (i : ℕ) (d : A) → i < length l → i < length v → set (take i v ++ drop i l) i (get_or v i d) ≡ take (i + 1) v ++ drop (i + 1) l
  fill_more l v i d hl hv =
      ap (λ (t : List A). set (take i v ++ t) i (get_or v i d)) (drop-cons l i d hl)
      ∙ set_at (take i v) (get_or l i d) (drop (suc i) l) (get_or v i d) i (length-take-le i v (le_of_lt hv))
      ∙ sym (append_snoc (take i v) (get_or v i d) (drop (suc i) l))
      ∙ ap (λ (t : List A). t ++ drop (suc i) l) (sym (take-suc v i d hv))
      ∙ ap (λ (n : ℕ). take n v ++ drop n l) (sym (add-one i))

  -- the first i elements of v stored in l from `at` on: one more, and all
  pub sets_more : (l v : List A) (at i : ℕ) (d : A) → i < length v → set (sets l at (take i v)) (at + i) (get_or v i d) ≡ sets l at (take (i + 1) v)
  sets_more l v at i d h =
      ap (λ (k : ℕ). set (sets l at (take i v)) (at + k) (get_or v i d)) (sym (length-take-le i v (le_of_lt h)))
      ∙ sets-append l (take i v) (get_or v i d ∷ []) at
      ∙ ap (λ (t : List A). sets l at t) (sym (take-suc v i d h) ∙ ap (λ (k : ℕ). take k v) (sym (add-one i)))

  pub sets-done : (l v : List A) (at i : ℕ) → length v ≤ i → sets l at (take i v) ≡ sets l at v
  sets-done l v at i h = ap (λ (t : List A). sets l at t) (take_all i v h)
