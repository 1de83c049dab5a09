-- Every exchange that the contracts allow is one of the definitions, and so the theorem of two ends holds of it.
-- Assumes nothing.
use mathlib.Core.Path.{◌≡◌, refl, sym, ap, ◌∙◌, subst}
use mathlib.Core.Bool.{true, false}
use mathlib.Core.List.{List, [], ◌∷◌, ◌++◌}
use Prim.Native.Nat.{ℕ, zero, suc, ◌*◌, ◌≤◌, ◌<◌}
use native.Mathlib.Omega.{arith}
use native.Mathlib.Nat.{not-suc-le-zero}
use lib.ListN.{length, take, replicate, length-append, length-replicate}
use lib.Seq.{length-take-le}
use lib.Dec.{leb, ltb}
use borrow.Author.Tests.{leb-true, leb-false, lt-ltb}
use Rattle.basics.specs.Choice.{◌and◌}
use Rattle.basics.proofs.Choice.{both, join}
use Rattle.vio_model.specs.declared.Answer.{Answer}
use Rattle.vio_model.specs.Layout.{versions_of}
use Rattle.vio_model.specs.Versions.{count_of}
use Rattle.vio_model.specs.Sound.{id_limit}
use Rattle.vio_model.specs.Calls.{Outcome}
use Rattle.vio_model.specs.TwoEnds.{none, to_other, Exchange, sent, begun, delivered, next, exchanged, are_ids, EndsSettled, EndsRefused}
use Rattle.vio_model.specs.Step.{StartPost, Step, other_receives, starter_receives, Steps, done, more, opened, LinkedHolds}
use Rattle.vio_model.proofs.Versions.{by_cases}
use Rattle.vio_model.proofs.TwoEnds.{stays, two_ends_lem, wrong-class}

-- a step is the next one of the definitions, and there was a message on its way
step-next : {x y : Exchange} {id : ℕ} → Step x id y → y ≡ next x id
unfolding next delivered
step-next {x} (other_receives f e) = rw (f, ← e.outcome)
step-next {x} (starter_receives f e) = rw (f, ← e.outcome)

step-live : {x y : Exchange} {id : ℕ} → Step x id y → x.flight ≡ none → ⊥
step-live (other_receives f e) z = let q : ◌≡◌ {A = ℕ} 0 1 = cc in omega arith
step-live (starter_receives f e) z = let q : ◌≡◌ {A = ℕ} 0 1 = cc in omega arith

steps-exchanged : {x y : Exchange} {ids : List ℕ} → Steps x ids y → y ≡ exchanged x ids
unfolding exchanged
steps-exchanged done = refl
steps-exchanged (more {ids = ids} s t) = steps-exchanged t ∙ ap (λ (z : Exchange). exchanged z ids) (step-next s)

steps-live : {x y : Exchange} {ids : List ℕ} → Steps x ids y → (k : ℕ) → k < length ids → (exchanged x (take k ids)).flight ≡ none → ⊥
unfolding exchanged
steps-live done k h z = absurd (not-suc-le-zero h)
steps-live (more s t) zero h z = step-live s z
steps-live (more {ids = ids} s t) (suc k) h z =
    steps-live t k (omega arith) (subst (λ (y : Exchange). (exchanged y (take k ids)).flight ≡ none) (sym (step-next s)) z)

ids-take : (ids : List ℕ) (k : ℕ) → are_ids ids ≡ true → are_ids (take k ids) ≡ true
unfolding are_ids
ids-take [] zero t = refl
ids-take [] (suc k) t = refl
ids-take (id ∷ ids) zero t = refl
ids-take (id ∷ ids) (suc k) t = let u = both _ _ t in join _ _ u.0 (ids-take ids k u.1)

ids-append : (ids : List ℕ) (n : ℕ) → are_ids ids ≡ true → are_ids (ids ++ replicate n 0) ≡ true
unfolding are_ids ◌and◌
ids-append [] zero t = refl
ids-append [] (suc n) t = ids-append [] n t
ids-append (id ∷ ids) n t = let u = both (ltb id id_limit) _ t in join (ltb id id_limit) _ u.0 (ids-append ids n u.1)

exchanged-append : (x : Exchange) (is js : List ℕ) → exchanged x (is ++ js) ≡ exchanged (exchanged x is) js
unfolding exchanged
exchanged-append x [] js = refl
exchanged-append x (i ∷ is) js = exchanged-append (next x i) is js

-- what every exchange of n receives or more comes to, each exchange that the contracts allow comes to, within n receives
module _ (x : Exchange) (n : ℕ) (P : Exchange → Type 0) (claim : (ids : List ℕ) → are_ids ids ≡ true → n ≤ length ids → ((exchanged x ids).flight ≡ none) × P (exchanged x ids)) where
  within : {y : Exchange} (ids : List ℕ) → are_ids ids ≡ true → Steps x ids y → length ids ≤ n
  within ids t s =
      by_cases (leb (length ids) n) (λ e. leb-true _ _ e)
      (λ e.
      let l = leb-false (length ids) n e in
      let c = claim (take n ids) (ids-take ids n t) (omega (arith, length-take-le n ids (omega arith))) in
      absurd (steps-live s n l c.0))

  comes-to : {y : Exchange} (ids : List ℕ) → are_ids ids ≡ true → Steps x ids y → y.flight ≡ none → P y
  comes-to {y} ids t s z =
      let e = steps-exchanged s in
      let c = claim (ids ++ replicate n 0) (ids-append ids n t) (simp (length-append, length-replicate) (omega arith)) in
      subst P (exchanged-append x ids (replicate n 0) ∙ ap (λ (w : Exchange). exchanged w (replicate n 0)) (sym e) ∙ stays y (replicate n 0) z) c.1

-- what a start that its contract allows begins
opens : (a b : List ℕ) (id : ℕ) (r : Answer) (w : List ℕ) → StartPost a id r w → opened w b r ≡ begun a b id
unfolding begun
opens a b id r w s =
    ap (λ (o : Outcome). record { starter = o.end; other = b; flight = sent to_other o }) s.outcome

-- the session ids of calls that their contracts allow
step_fits : {x y : Exchange} {id : ℕ} → Step x id y → id < id_limit
step_fits (other_receives f e) = e.fits
step_fits (starter_receives f e) = e.fits

more-ids : (id : ℕ) (ids : List ℕ) → id < id_limit → are_ids ids ≡ true → are_ids (id ∷ ids) ≡ true
unfolding are_ids
more-ids id ids h t = join _ _ (lt-ltb id id_limit h) t

steps-ids : {x y : Exchange} {ids : List ℕ} → Steps x ids y → are_ids ids ≡ true
unfolding are_ids
steps-ids done = refl
steps-ids (more {id = id} {ids = ids} s t) = more-ids id ids (step_fits s) (steps-ids t)

-- what is claimed of every long enough exchange that a begins
module _ (a b : List ℕ) (id n : ℕ) (P : Exchange → Type 0) (claim : (ids : List ℕ) → are_ids (id ∷ ids) ≡ true → n ≤ length ids → ((exchanged (begun a b id) ids).flight ≡ none) × P (exchanged (begun a b id) ids)) where
  allowed : (ids : List ℕ) (r : Answer) (w : List ℕ) (x : Exchange) → StartPost a id r w → Steps (opened w b r) ids x → (length ids ≤ n) × (x.flight ≡ none → P x)
  allowed ids r w x s m =
      let m' : Steps (begun a b id) ids x = subst (λ (y : Exchange). Steps y ids x) (opens a b id r w s) m in
      let u = steps-ids m in
      (within (begun a b id) n P later ids u m', comes-to (begun a b id) n P later ids u m')
    where
      later : (js : List ℕ) → are_ids js ≡ true → n ≤ length js → ((exchanged (begun a b id) js).flight ≡ none) × P (exchanged (begun a b id) js)
      later js u k = claim js (more-ids id js s.fits u) k

pub linked : LinkedHolds
linked = record {
  two_ends =
      λ a b id ids r w x p q e.
      allowed a b id (count_of (versions_of a) * 2) (EndsSettled a b)
      (λ js u k. let h = two_ends_lem a b id js p q e u k in (h.ended, h)) ids r w x;
  wrong_class =
      λ a b id ids r w x p q e.
      allowed a b id 2 EndsRefused
      (λ js u k. let h = wrong-class a b id js p q e u k in (h.ended, h)) ids r w x;
}
