-- What each rule does, where its tests are known.
-- Assumes nothing.
use mathlib.Core.Path.{◌≡◌, refl}
use mathlib.Core.Bool.{true, false}
use mathlib.Core.List.{List}
use Prim.Native.Nat.{ℕ, ◌+◌, ◌≤◌, ◌<◌, min}
use native.Mathlib.Omega.{arith}
use lib.Dec.{ltb, eqb}
use borrow.Author.Tests.{eq-eqb, ne_eqb, lt-ltb, le-leb, ltb-false}
use Rattle.basics.specs.Choice.{pick, ◌and◌, ◌or◌}
use Rattle.vio_model.specs.declared.Session.TheVariants.{Nothing, Asked, Agreed, Ended}
use Rattle.vio_model.specs.declared.Effect.TheVariants.{Becomes, Sends}
use Rattle.vio_model.specs.Layout.{End}
use Rattle.vio_model.specs.Versions.{holds, minor_of, highest_below}
use Rattle.vio_model.specs.Rules.{INFO, ACK, NACK, message, is_version, asks, asking, acknowledges, tells_lower, refuses_class, requested, acknowledged, refused, answers_open, answered, heard}
use Rattle.vio_model.proofs.Versions.{by_cases}

-- a request, at an end that holds the versions l
module _ (e : End) (l : List ℕ) (same : e.versions ≡ l) (next id class major minor : ℕ) where
  pub hears-held : class ≡ e.accepts → holds l major ≡ true → heard e next (message INFO id class major minor) ≡ Sends (Agreed id major (min minor (minor_of l major))) (message ACK id class major (min minor (minor_of l major)))
  unfolding heard is_version message requested acknowledges pick ◌and◌
  hears-held c h = rw (same, eq-eqb class e.accepts c, h)

  pub hears-not-held : class ≡ e.accepts → holds l major ≡ false → heard e next (message INFO id class major minor) ≡ Sends Nothing (message NACK id class (highest_below l major) (minor_of l (highest_below l major)))
  unfolding heard is_version message requested tells_lower pick ◌and◌
  hears-not-held c h = rw (same, eq-eqb class e.accepts c, h)

  pub hears-class : (class ≡ e.accepts → ⊥) → heard e next (message INFO id class major minor) ≡ Sends Nothing (message NACK id class major minor)
  unfolding heard is_version message requested refuses_class pick ◌and◌
  hears-class c = rw (ne_eqb class e.accepts c)

-- an answer, at an end of this class with an open request
module _ (e : End) (next id class major minor : ℕ) (own : class ≡ e.class) (asked : e.session ≡ Asked id major minor) where
  pub hears-ack : (n : ℕ) → n ≤ minor → heard e next (message ACK id class major n) ≡ Becomes (Agreed id major n)
  unfolding heard is_version message answered answers_open acknowledged pick ◌and◌
  hears-ack n h = rw (asked, eq-eqb id id refl, eq-eqb class e.class own, eq-eqb major major refl, le-leb n minor h)

  pub hears-unchanged : heard e next (message NACK id class major minor) ≡ Becomes Ended
  unfolding heard is_version message answered answers_open refused pick ◌and◌
  hears-unchanged = rw (asked, eq-eqb id id refl, eq-eqb class e.class own, eq-eqb major major refl, eq-eqb minor minor refl)

  pub hears-lower : (k n : ℕ) → k < major → (k ≡ 0 → n ≡ 0) → heard e next (message NACK id class k n) ≡ asking e next (k + 1)
  unfolding heard is_version message answered answers_open refused pick ◌and◌
  hears-lower k n l z =
      rw (
        asked,
        eq-eqb id id refl,
        eq-eqb class e.class own,
        ne_eqb k major (λ q. omega arith),
        lt-ltb k major l,
        told,
      )
    where
      told : (ltb 0 k or eqb n 0) ≡ true
      told = by_cases (ltb 0 k) (λ t. unfold ◌or◌ in rw t) (λ t. unfold ◌or◌ in rw (t, eq-eqb n 0 (z (omega (arith, ltb-false 0 k t)))))

-- the next request
module _ (e : End) (id bound : ℕ) where
  pub asks_none : highest_below e.versions bound ≡ 0 → asking e id bound ≡ Becomes Ended
  unfolding asking pick
  asks_none z = rw (eq-eqb (highest_below e.versions bound) 0 z)

  pub asks-some : (highest_below e.versions bound ≡ 0 → ⊥) → asking e id bound ≡ asks e id (highest_below e.versions bound)
  unfolding asking pick
  asks-some z = rw (ne_eqb (highest_below e.versions bound) 0 z)
