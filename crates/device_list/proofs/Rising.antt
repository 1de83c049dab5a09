-- Ids that rise differ, and devices whose ids differ are apart.
-- Assumes nothing.
use mathlib.Core.Bool.{Bool, true, not, ◌&&◌}
use mathlib.Core.List.{List}
use mathlib.Core.Logic.{⊎_elim}
use mathlib.Core.Path.{◌≡◌, ap, sym, ◌∙◌}
use Prim.Native.Nat.{ℕ, zero, suc, ◌+◌, ◌-◌, ◌*◌, ◌<◌, ◌≤◌}
use native.Mathlib.Nat.{eq-or-lt_of_le, le_of_suc-le-suc}
use native.Mathlib.Numerals.{add-one}
use native.Mathlib.Omega.{arith}
use lib.ListN.{get_or}
use lib.Dec.{eqb, ltb}
use borrow.Author.Tests.{not-true, ne_eqb, ltb-true}
use Rattle.basics.specs.Choice.{◌and◌, every}
use Rattle.model.specs.Devices.{device_apart, is_device}
use Rattle.model.specs.Layout.{device_in, device_words}
use Rattle.basics.proofs.Choice.{and-false, every-at, every-make}
use Rattle.names.proofs.Bytes.{both-pass}
use Rattle.device_list.specs.Rising.{ids_rise}

-- one test more
pub every-next : (f : ℕ → Bool) (j : ℕ) → every (j + 1) f ≡ (every j f and f j)
unfolding every
every-next f j = rw add-one

-- ids that rise as far as id j - 1, and id j above that one
pub rises-next : (l : List ℕ) (at j : ℕ) (r : Bool) → 1 ≤ j
    → r ≡ every (j - 1) (λ k. ltb (get_or l (at + k * device_words) 0) (get_or l (at + (k + 1) * device_words) 0))
    → (r && ltb (get_or l (at + (j - 1) * device_words) 0) (get_or l (at + j * device_words) 0))
    ≡ every (j + 1 - 1) (λ k. ltb (get_or l (at + k * device_words) 0) (get_or l (at + (k + 1) * device_words) 0))
rises-next l at j r h e =
    let f : ℕ → Bool = λ k. ltb (get_or l (at + k * device_words) 0) (get_or l (at + (k + 1) * device_words) 0) in
    let back : j ≡ j - 1 + 1 = omega arith in
    let next : j - 1 + 1 ≡ j + 1 - 1 = omega arith in
    both-pass r (ltb (get_or l (at + (j - 1) * device_words) 0) (get_or l (at + j * device_words) 0))
    ∙ ap (λ b. b and ltb (get_or l (at + (j - 1) * device_words) 0) (get_or l (at + j * device_words) 0)) e
    ∙ ap (λ k. every (j - 1) f and ltb (get_or l (at + (j - 1) * device_words) 0) (get_or l (at + k * device_words) 0)) back
    ∙ sym (every-next f (j - 1))
    ∙ ap (λ k. every k f) next

-- device i, whose id no device before it has
pub ids-apart : (l : List ℕ) (at i : ℕ) → every i (λ j. not (eqb (device_in l at j).id (device_in l at i).id)) ≡ true → device_apart l at i ≡ true
unfolding device_apart
ids-apart l at i e =
    every-make (λ j. not (is_device (device_in l at i).id (device_in l at i).name (device_in l at j))) i
    (λ j h. unfold is_device in (ap not (and-false _ _ (not-true _ (every-at (λ j. not (eqb (device_in l at j).id (device_in l at i).id)) i j e h)))))

module _ (l : List ℕ) (at n : ℕ) (e : ids_rise l at n ≡ true) where
  id_at : ℕ → ℕ
  id_at j = get_or l (at + j * device_words) 0

  next-above : (j : ℕ) → suc j < n → id_at j < id_at (suc j)
  unfolding id_at ids_rise
  next-above j h =
      let q : j + 1 ≡ suc j = omega arith in
      rw q at (ltb-true (get_or l (at + j * device_words) 0) (get_or l (at + (j + 1) * device_words) 0) (every-at (λ j. ltb (get_or l (at + j * device_words) 0) (get_or l (at + (j + 1) * device_words) 0)) (n - 1) j e (omega arith)))

  above : (i j : ℕ) → j < i → i < n → id_at j < id_at i
  above zero j h g = absurd (omega arith)
  above (suc i) j h g =
      ⊎_elim
      (λ (q : j ≡ i). rw q (next-above i g))
      (λ (b : j < i). let p = above i j b (omega arith) in let q = next-above i g in omega arith)
      (eq-or-lt_of_le (le_of_suc-le-suc h))

  pub rising-apart : every n (device_apart l at) ≡ true
  rising-apart =
      every-make (device_apart l at) n
      (λ i g. ids-apart l at i (every-make (λ j. not (eqb (device_in l at j).id (device_in l at i).id)) i (λ j h. ap not (ne_eqb _ _ (differ i j h g)))))
    where
      apart : (x y : ℕ) → x < y → x ≡ y → ⊥
      apart x y h q = omega arith

      differ : (i j : ℕ) → j < i → i < n → (device_in l at j).id ≡ (device_in l at i).id → ⊥
      differ i j h g q = apart (id_at j) (id_at i) (above i j h g) (unfold id_at device_in in q)
