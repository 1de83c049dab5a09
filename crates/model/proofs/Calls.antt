-- What holds of a call that is accepted.
-- Assumes nothing.
use Prim.Native.Nat.{ℕ, ◌/◌, ◌≤◌, ◌<◌, min}
use native.Mathlib.Omega.{arith}
use mathlib.Core.Path.{◌≡◌, refl}
use mathlib.Core.Bool.{Bool, true, false}
use mathlib.Core.List.{List, ◌∷◌}
use lib.ListN.{length}
use lib.Dec.{eqb}
use borrow.Author.Tests.{ltb-false, leb-false, eqb-true, eqb-false, not-false}
use Rattle.basics.specs.Choice.{pick}
use Rattle.model.specs.State.{sound}
use Rattle.model.specs.Refusals.{Row, refusal_in, action_refusal, drain_refusal}
use Rattle.model.specs.Calls.{Action, Outcome, accepted, act, allowed, drain, drained, effect_of, in_range, outcome, pages_of, refusal_of, refused}
use Rattle.basics.proofs.Choice.{on-pick}
use Rattle.model.specs.Layout.{entry_words, held_of, highest_number, journal_words, last_of, most_held, output_bytes}

-- A row of a table that refuses nothing: the first does not apply, and neither does a later one.
pub row-passed : (r : Row) (rs : List Row) → eqb r.number 0 ≡ false → refusal_in (r ∷ rs) ≡ 0 → (r.when ≡ false) × (refusal_in rs ≡ 0)
unfolding refusal_in
row-passed r rs z e = go r.when refl e
  where
    go : (b : Bool) → r.when ≡ b → pick b r.number (refusal_in rs) ≡ 0 → (r.when ≡ false) × (refusal_in rs ≡ 0)
    go true w q = absurd (eqb-false r.number 0 z (unfold pick in q))
    go false w q = (w, unfold pick in q)

-- no refusal applies
pub record Passed (s : List ℕ) (words bytes : ℕ) (within may : Bool) : Type 0 where
  pub is_sound : sound s ≡ true
  pub journal : words ≡ journal_words
  pub output : output_bytes ≤ bytes
  pub is_within : within ≡ true
  pub room : held_of s < most_held
  pub number : last_of s < highest_number
  pub is_allowed : may ≡ true

pub passed : (s : List ℕ) (words bytes : ℕ) (within may : Bool) → action_refusal s words bytes within may ≡ 0 → Passed s words bytes within may
unfolding action_refusal
passed s words bytes within may e =
    let p₈ = row-passed _ _ refl e in
    let p₁ = row-passed _ _ refl p₈.1 in
    let p₂ = row-passed _ _ refl p₁.1 in
    let p₃ = row-passed _ _ refl p₂.1 in
    let p₄ = row-passed _ _ refl p₃.1 in
    let p₅ = row-passed _ _ refl p₄.1 in
    let p₆ = row-passed _ _ refl p₅.1 in
    record {
      is_sound = not-false _ p₈.0;
      journal = eqb-true words journal_words (not-false _ p₁.0);
      output = ltb-false bytes output_bytes p₂.0;
      is_within = not-false _ p₃.0;
      room = leb-false most_held _ p₄.0;
      number = leb-false highest_number _ p₅.0;
      is_allowed = not-false _ p₆.0;
    }

pub drain-passed : (s : List ℕ) (words : ℕ) → drain_refusal s words ≡ 0 → (sound s ≡ true) × (words ≡ journal_words)
unfolding drain_refusal
drain-passed s words e =
    let p₈ = row-passed _ _ refl e in
    let p₁ = row-passed _ _ refl p₈.1 in
    (not-false _ p₈.0, eqb-true words journal_words (not-false _ p₁.0))

pub in-range : (s j out : List ℕ) (a : Action) → refusal_of s j out a ≡ 0 → in_range a ≡ true
unfolding refusal_of
in-range s j out a z = (passed s (length j) (length out) (in_range a) (allowed s a) z).is_within

-- what holds of both outcomes of an action, and of a drain
pub on-act : (P : Outcome → Type 0) (s j out : List ℕ) (a : Action) → (refusal_of s j out a ≡ 0 → P (accepted s j out (pages_of s a) (effect_of s a))) → ((refusal_of s j out a ≡ 0 → ⊥) → P (refused s j out (refusal_of s j out a))) → P (outcome s j (act a out))
unfolding outcome
on-act P s j out a f g = on-pick P _ _ _ (λ z. f (eqb-true _ 0 z)) (λ z. g (eqb-false _ 0 z))

pub on-drain : (P : Outcome → Type 0) (s j run : List ℕ) → (drain_refusal s (length j) ≡ 0 → (n : ℕ) → n ≤ held_of s → n ≡ min (held_of s) (length run / entry_words) → P (drained s j run n)) → ((drain_refusal s (length j) ≡ 0 → ⊥) → P (refused s j run (drain_refusal s (length j)))) → P (outcome s j (drain run))
unfolding outcome
on-drain P s j run f g =
    on-pick P _ _ _ (λ z. f (eqb-true _ 0 z) _ (omega arith) refl) (λ z. g (eqb-false _ 0 z))

-- an outcome that the definitions give for an action and that is no refusal
pub on-accepted : (P : Outcome → Type 0) (s j out : List ℕ) (a : Action) (r : Outcome) → r ≡ outcome s j (act a out) → r.refusal ≡ 0 → (refusal_of s j out a ≡ 0 → P (accepted s j out (pages_of s a) (effect_of s a))) → P r
on-accepted P s j out a r e z f =
    rw e
    (on-act (λ o. o.refusal ≡ 0 → P o) s j out a (λ y q. f y) (λ n q. absurd (n (unfold refused in q))) (rw e at z))
