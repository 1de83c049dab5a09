-- The ways that a piece goes, and what each leaves.
-- Assumes nothing.
use Prim.Native.Nat.{ℕ, ◌<◌}
use mathlib.Core.Path.{◌≡◌, refl}
use mathlib.Core.Bool.{true}
use mathlib.Core.List.{List}
use lib.ListN.{length}
use lib.Dec.{eqb}
use borrow.Author.Tests.{eqb-true, eqb-false, ne_eqb, ltb-true, not-false}
use Rattle.basics.specs.Choice.{pick}
use Rattle.model.specs.Layout.{channel_count}
use Rattle.model.specs.Calls.{receive, accepted, refused, effect_of, pages_of, refusal_of}
use Rattle.basics.proofs.Choice.{on-pick, both}
use Rattle.model.proofs.Calls.{row-passed, on-act}
use Rattle.front_model.specs.Front.{Front, Part, part_of, front_sound}
use Rattle.front_model.specs.Calls.{Taking, all, gives, taking, piece_refusal, Pieced, piece_refused, piece_kept, piece_given, pieced_by, pieced}

pub record Passed (f : Front) (s j : List ℕ) (c : ℕ) (out : List ℕ) : Type 0 where
  pub none : piece_refusal f s (length j) (length out) c ≡ 0
  pub sounds : front_sound f ≡ true
  pub channel : c < channel_count

passed : (f : Front) (s j : List ℕ) (c : ℕ) (out : List ℕ) → piece_refusal f s (length j) (length out) c ≡ 0 → Passed f s j c out
unfolding piece_refusal
passed f s j c out e =
    let a = row-passed _ _ refl e in
    let b = row-passed _ _ refl a.1 in
    let d = row-passed _ _ refl b.1 in
    let g = row-passed _ _ refl d.1 in
    record { none = e; sounds = (both _ _ (not-false _ a.0)).1; channel = ltb-true _ _ (not-false _ g.0) }

pub data Way (f : Front) (s j : List ℕ) (c : ℕ) (b out : List ℕ) : Pieced → Type 0 where
  refuses : (n : ℕ) → (n ≡ 0 → ⊥) → piece_refusal f s (length j) (length out) c ≡ n → Way f s j c b out (piece_refused f s j out n)
  keeping : (p : Part) → Passed f s j c out → taking (part_of f c) b ≡ all p → Way f s j c b out (piece_kept f s j c b out p)
  giving :
      (m : List ℕ) (i : ℕ) (p : Part) →
      Passed f s j c out →
      taking (part_of f c) b ≡ gives m i p →
      refusal_of s j out (receive c m) ≡ 0 →
      Way f s j c b out (piece_given f c i p (accepted s j out 0 (effect_of s (receive c m))))
  refusing :
      (m : List ℕ) (i : ℕ) (p : Part) (n : ℕ) →
      Passed f s j c out →
      taking (part_of f c) b ≡ gives m i p →
      (n ≡ 0 → ⊥) →
      refusal_of s j out (receive c m) ≡ n →
      Way f s j c b out (piece_refused f s j out n)

module _ (f : Front) (s j : List ℕ) (c : ℕ) (b out : List ℕ) where
  way_by : Passed f s j c out → (t : Taking) → taking (part_of f c) b ≡ t → Way f s j c b out (pieced_by f s j c b out t)
  unfolding pieced_by
  way_by q (all p) e = keeping p q e
  way_by q (gives m i p) e =
      on-act (λ o. Way f s j c b out (pick (eqb o.refusal 0) (piece_given f c i p o) (piece_refused f s j out o.refusal))) s j out (receive c m)
      (λ z. unfold accepted pages_of pick in (giving m i p q e z))
      (λ n. rw (ne_eqb (refused s j out (refusal_of s j out (receive c m))).refusal 0 (unfold refused in n)) (unfold refused pick in (refusing m i p _ q e n refl)))

  pub way : Way f s j c b out (pieced f s j c b out)
  unfolding pieced
  way =
      on-pick (Way f s j c b out) (eqb (piece_refusal f s (length j) (length out) c) 0) _ _
      (λ e. way_by (passed f s j c out (eqb-true _ 0 e)) (taking (part_of f c) b) refl)
      (λ e. refuses _ (eqb-false _ 0 e) refl)
