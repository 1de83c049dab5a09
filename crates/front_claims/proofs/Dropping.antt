-- Where a channel's bytes are dropped, all of a piece's are, until the channel's front is reopened.
-- Assumes nothing.
use Prim.Native.Nat.{ℕ, ◌<◌}
use native.Mathlib.Omega.{arith}
use mathlib.Core.Path.{◌≡◌, refl, sym, ap, ◌∙◌}
use mathlib.Core.Bool.{Bool, true, false}
use mathlib.Core.List.{List, [], ◌∷◌}
use lib.Dec.{eqb}
use borrow.Author.Tests.{eqb-true, eqb-false}
use Rattle.basics.specs.Choice.{◌and◌}
use Rattle.model.specs.Layout.{channel_count}
use Rattle.basics.proofs.Choice.{and-false, and-false-right, pick-false}
use Rattle.front_model.specs.Front.{Front, Part, dropping, part_of, parts_of}
use Rattle.front_model.specs.Calls.{all, gives, taking, Pieced, piece_refused, piece_kept, pieced, Reopened, reopened}
use Rattle.front_claims.specs.Dropping.{DroppingStays, Dropped, ReopenLeaves}
use Rattle.front_claims.specs.Lists.{piecing, reopening, calling, Standing, stands, stands_after, FrontMeets, AllFrontMeet}
use Rattle.front_claims.specs.Cutting.{NotReopened, given_on, DroppedUntilReopened}
use Rattle.front_claims.proofs.Parts.{part_at, part-of, set_same}
use Rattle.front_claims.proofs.Pieces.{Way, refuses, keeping, giving, refusing, way}
use Rattle.front_claims.proofs.Reopening.{reopening-empties}
use Rattle.front_claims.proofs.Taken.{taken-to-the-end}

-- dropping gives no message, and goes on
drops : (p : Part) (b : List ℕ) → p ≡ dropping → taking p b ≡ all dropping
unfolding taking
drops p b e = rw e

no-message : (p q : Part) (b m : List ℕ) (i : ℕ) → p ≡ dropping → taking p b ≡ gives m i q → ⊥
no-message p q b m i e t =
    let z : all dropping ≡ gives m i q = sym (drops p b e) ∙ t in
    let y : ◌≡◌ {A = ℕ} 0 1 = cc in
    omega arith

still : (p q : Part) (b : List ℕ) → p ≡ dropping → taking p b ≡ all q → p ≡ q
still p q b e t = let z : all dropping ≡ all q = sym (drops p b e) ∙ t in cc

dropped-by : (f : Front) (s j : List ℕ) (c : ℕ) (b out : List ℕ) (r : Pieced) → part_of f c ≡ dropping → Way f s j c b out r → Dropped f s j c b out r
unfolding piece_refused piece_kept
dropped-by f s j c b out r d (refuses n z e) =
    record { refusal = sym e; taken = λ y. absurd (z y); given = refl; count = refl; state = refl; journal = refl; buffer = refl; parts = refl }
dropped-by f s j c b out r d (keeping p q e) =
    record {
      refusal = sym q.none;
      taken = λ y. refl;
      given = refl;
      count = refl;
      state = refl;
      journal = refl;
      buffer = refl;
      parts = set_same f c p q.channel (still (part_of f c) p b d e);
    }
dropped-by f s j c b out r d (giving m i p q e z) = absurd (no-message (part_of f c) p b m i d e)
dropped-by f s j c b out r d (refusing m i p n q e z y) = absurd (no-message (part_of f c) p b m i d e)

pub dropping-stays : DroppingStays
dropping-stays f s j c b out d = dropped-by f s j c b out (pieced f s j c b out) d (way f s j c b out)

-- what one call of a list leaves, and gives
module _ (c : ℕ) (u : Standing) (h : c < channel_count) (d : part_of u.front c ≡ dropping) where
  record Still (channel : ℕ) (b out : List ℕ) (r : Pieced) (f : Front) : Type 0 where
    none : (eqb channel c and r.given) ≡ false
    part : part_of f c ≡ dropping

  still-piece : (channel : ℕ) (b out : List ℕ) (r : Pieced) (f : Front) → r ≡ pieced u.front u.state u.journal channel b out → parts_of f ≡ r.parts → Still channel b out r f
  still-piece channel b out r f e p = go (eqb channel c) refl
    where
      go : (x : Bool) → eqb channel c ≡ x → Still channel b out r f
      go true y =
          let k : channel ≡ c = eqb-true channel c y in
          let l : Dropped u.front u.state u.journal channel b out r =
          rw e (dropping-stays u.front u.state u.journal channel b out (ap (part_of u.front) k ∙ d)) in
          record {
            none = and-false-right (eqb channel c) r.given l.given;
            part = part-of f _ c dropping h (p ∙ l.parts) (part_at u.front c h ∙ d);
          }
      go false y =
          let t = taken-to-the-end u.front u.state u.journal channel b out in
          record {
            none = and-false (eqb channel c) r.given y;
            part = part-of f _ c dropping h (p ∙ ap (λ (x : Pieced). x.parts) e) (t.others c h (λ k. eqb-false channel c y (sym k)) ∙ d);
          }

  still-reopening : (channel : ℕ) (r : Reopened) (f : Front) → r ≡ reopened u.front u.state channel → parts_of f ≡ r.parts → (channel ≡ c → r.refusal ≡ 0 → ⊥) → part_of f c ≡ dropping
  still-reopening channel r f e p n = go (eqb channel c) refl
    where
      l : ReopenLeaves u.front f u.state channel (reopened u.front u.state channel).refusal
      l = reopening-empties u.front f u.state channel (p ∙ ap (λ (x : Reopened). x.parts) e)

      go : (x : Bool) → eqb channel c ≡ x → part_of f c ≡ dropping
      go true y =
          part-of f _ c dropping h (l.refused (λ z. n (eqb-true channel c y) (ap (λ (x : Reopened). x.refusal) e ∙ z))) (part_at u.front c h ∙ d)
      go false y = l.others c h (λ k. eqb-false channel c y (sym k)) ∙ d

pub dropped-until-reopened : DroppedUntilReopened
unfolding AllFrontMeet FrontMeets NotReopened given_on stands_after stands
dropped-until-reopened c u [] h d a n = (refl, d)
dropped-until-reopened c u (piecing channel b out r f ∷ ds) h d a n =
    let l = still-piece c u h d channel b out r f a.0.0 a.0.1 in
    let later = dropped-until-reopened c (stands u (piecing channel b out r f)) ds h l.part a.1 n in
    (pick-false _ _ _ l.none ∙ later.0, later.1)
dropped-until-reopened c u (reopening channel r f ∷ ds) h d a n =
    dropped-until-reopened c (stands u (reopening channel r f)) ds h (still-reopening c u h d channel r f a.0.0 a.0.1 n.0) a.1 n.1
dropped-until-reopened c u (calling x ∷ ds) h d a n = dropped-until-reopened c (stands u (calling x)) ds h d a.1 n
