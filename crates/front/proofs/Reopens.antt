-- The contract of reopening, refused and not.
-- Assumes nothing.
use mathlib.Core.Path.{◌≡◌, refl, ap, ◌∙◌}
use mathlib.Core.Bool.{Bool, true, false}
use mathlib.Core.List.{List, []}
use Prim.Native.Nat.{ℕ, ◌<◌}
use native.Mathlib.Omega.{arith}
use borrow.Author.Tests.{ltb-true, ne_eqb, not-false}
use Rattle.basics.specs.Choice.{pick, ◌and◌}
use Rattle.model.specs.Layout.{channel_count}
use Rattle.model.specs.State.{sound}
use Rattle.model.specs.Refusals.{refusal_in}
use Rattle.model.proofs.Calls.{row-passed}
use Rattle.basics.proofs.Choice.{and-false-right}
use Rattle.front_model.specs.Front.{Front, front_sound}
use Rattle.front_model.specs.Calls.{reopened, reopen_refusal}
use Rattle.front_model.specs.Promises.{FrontKept}
use Rattle.front_model.specs.Promises.{ReopenPost}
use Rattle.front.specs.Refusals.{opening_refusal}
use Rattle.front.specs.Changes.{Fronts}
use Rattle.front.proofs.Changes.{Changed, parts-changed, part-empty, sound_empty}

-- a test and true
pub and-true : (a b : Bool) → b ≡ true → (a and b) ≡ a
unfolding ◌and◌
and-true true b e = e
and-true false b e = refl

-- what a call that refuses leaves
pub kept-refused : (f : Front) (n : ℕ) → (n ≡ 0 → ⊥) → FrontKept f f n
kept-refused f n d = record { unchanged = λ _. refl; sounds = λ z. absurd (d z) }

-- what a call that does not refuse leaves
pub kept-sound : (f f' : Front) → front_sound f' ≡ true → FrontKept f f' 0
kept-sound f f' e = record { unchanged = λ d. absurd (d refl); sounds = λ _. e }

pub opening-within : (s : List ℕ) (c : ℕ) → opening_refusal s c ≡ 0 → c < channel_count
unfolding opening_refusal
opening-within s c e = ltb-true _ _ (not-false _ (row-passed _ _ refl (row-passed _ _ refl e).1).0)

module _ (f : Front) (s : List ℕ) (c : ℕ) where
  refusal-unsound : front_sound f ≡ false → 8 ≡ reopen_refusal f s c
  unfolding reopen_refusal refusal_in pick
  refusal-unsound e = rw (and-false-right (sound s) (front_sound f) e)

  refusal-sound : front_sound f ≡ true → opening_refusal s c ≡ reopen_refusal f s c
  unfolding reopen_refusal opening_refusal
  refusal-sound e = rw (and-true (sound s) (front_sound f) e)

  refuses : (n : ℕ) → n ≡ reopen_refusal f s c → (n ≡ 0 → ⊥) → ReopenPost f s c n f
  unfolding reopened pick
  refuses n e d = record { same = rw (← e, ne_eqb n 0 d); kept = kept-refused f n d }

  pub reopen-unsound : front_sound f ≡ false → ReopenPost f s c 8 f
  reopen-unsound e = refuses 8 (refusal-unsound e) (λ z. omega arith)

  pub reopen-refused : (n : ℕ) → front_sound f ≡ true → n ≡ opening_refusal s c → (n ≡ 0 → ⊥) → ReopenPost f s c n f
  reopen-refused n t e d = refuses n (e ∙ refusal-sound t) d

  pub reopen-done : (f' : Front) → Fronts f c → opening_refusal s c ≡ 0 → Changed f f' c 0 0 0 [] → ReopenPost f s c 0 f'
  unfolding reopened pick
  reopen-done f' o e h = record {
    same =
        rw (← refusal-sound o.sounds, e)
        (ap (λ l. record { refusal = 0; parts = l }) (parts-changed f f' c 0 0 0 [] o h ∙ rw (part-empty f f' c 0 0 [] o h)));
    kept = kept-sound f f' (sound_empty f f' c 0 0 [] o h (omega arith));
  }
