-- What the tests of a channel's peer registrations come to, past those that have passed.
-- Assumes nothing.
use Rattle.std.specs.Prelude.{Option, Some, None}
use Rattle.std.specs.Option.{is_some}
use Rattle.basics.specs.Choice.{is_found}
use mathlib.Core.Path.{◌≡◌, refl, ◌∙◌}
use mathlib.Core.Bool.{Bool, true, false, not}
use mathlib.Core.List.{List, [], ◌∷◌}
use Prim.Native.Nat.{ℕ, ◌+◌, ◌*◌, ◌%◌, ◌^◌, ◌<◌}
use native.Mathlib.Nat.{one-mul}
use native.Mathlib.Omega.{arith}
use lib.Pow.{shl_exact}
use native.Mathlib.Numerals.{add-one}
use lib.Dec.{eqb, leb}
use borrow.Author.Tests.{eqb-true, ltb-true, eq-eqb, ne_eqb, lt-ltb}
use Rattle.basics.specs.Choice.{◌and◌, ◌or◌, every}
use Rattle.model.specs.Layout.{most_ids, most_peers, ids_of, id_at, peered_at, peer_handle_at, peer_minor_at}
use Rattle.model.specs.Peers.{top_bit, peers_below, peer_sound, peer_apart, peers_sound}
use Rattle.basics.proofs.Choice.{both, each_of}

-- a place is found, in the library's word and in the definitions'
pub some_found : (x : Option ℕ) → is_some x ≡ is_found x
unfolding is_found
some_found (Some i) = refl
some_found None = refl

-- the bit of an id, in 64 bits
pub own-bit : (p : ℕ) → p < most_ids → 1 * 2 ^ p % 2 ^ 64 ≡ 2 ^ p
own-bit p h = shl_exact 1 p 64 (omega arith) (omega arith) ∙ one-mul (2 ^ p)

-- a registration: what its tests give, and what is left past them
pub record Registered (s : List ℕ) (ready c p : ℕ) : Type 0 where
  pub marked : peered_at s c p ≡ 0 → ⊥
  pub is_ready : ready ≡ 1
  pub listed : p < ids_of s
  pub handle : peer_handle_at s c p < top_bit

module _ (s : List ℕ) (ready c p : ℕ) where
  pub unmarked : peered_at s c p ≡ 0 → peer_sound s ready c p ≡ true
  unfolding peer_sound ◌or◌
  unmarked e = rw (eq-eqb _ _ e)

  pub registered : (peered_at s c p ≡ 0 → ⊥) → peer_sound s ready c p ≡ true → Registered s ready c p
  unfolding peer_sound ◌or◌
  registered n t =
      let h = each_of (_ ∷ _ ∷ _ ∷ _ ∷ []) (rw (ne_eqb (peered_at s c p) 0 n) at t) in
      search (arith, eqb-true, ltb-true)

  pub minor-left : Registered s ready c p → peer_sound s ready c p ≡ leb (peer_minor_at s c p) (id_at s p).minor
  unfolding peer_sound ◌or◌ ◌and◌
  minor-left r = rw (ne_eqb _ _ r.marked, eq-eqb _ _ r.is_ready, lt-ltb _ _ r.listed, lt-ltb _ _ r.handle)

module _ (s : List ℕ) (c p : ℕ) where
  pub apart-unmarked : peered_at s c p ≡ 0 → peer_apart s c p ≡ true
  unfolding peer_apart ◌or◌
  apart-unmarked e = rw (eq-eqb _ _ e)

  pub apart-marked : (h : ℕ) → h ≡ peer_handle_at s c p → (peered_at s c p ≡ 0 → ⊥) → peer_apart s c p ≡ every p (λ q. eqb (peered_at s c q) 0 or not (eqb (peer_handle_at s c q) h))
  unfolding peer_apart
  apart-marked h e n = rw e (go (eqb (peered_at s c p) 0) (ne_eqb _ _ n) _)
    where
      go : (b : Bool) → b ≡ false → (x : Bool) → (b or x) ≡ x
      go b q x = unfold ◌or◌ in rw q

-- the marks counted
module _ (s : List ℕ) (c : ℕ) where
  pub none-counted : peers_below s c 0 ≡ 0
  unfolding peers_below
  none-counted = refl

  pub one-counted : (p : ℕ) → peers_below s c (p + 1) ≡ peers_below s c p + peered_at s c p
  unfolding peers_below
  one-counted p = rw add-one

-- a channel: what is left past its tests
module _ (s : List ℕ) (ready c : ℕ) where
  pub each_part : peers_sound s ready c ≡ true → every most_ids (peer_sound s ready c) ≡ true
  unfolding peers_sound
  each_part t = (both _ _ t).0

  pub apart-part : peers_sound s ready c ≡ true → every most_ids (peer_apart s c) ≡ true
  unfolding peers_sound
  apart-part t = (both _ _ (both _ _ t).1).0

  pub count_left : every most_ids (peer_sound s ready c) ≡ true → every most_ids (peer_apart s c) ≡ true → peers_sound s ready c ≡ leb (peers_below s c most_ids) most_peers
  unfolding peers_sound ◌and◌
  count_left e a = rw (e, a)
