-- What a REG_REQ of the peer does, by the tests that have been made.
-- Assumes nothing.
use Rattle.std.specs.Prelude.{Some, None}
use mathlib.Core.Path.{◌≡◌, refl, sym, ◌∙◌}
use mathlib.Core.Bool.{Bool, true, false}
use mathlib.Core.List.{List}
use Prim.Native.Nat.{ℕ, ◌≤◌, ◌<◌, min}
use native.Mathlib.Omega.{arith}
use lib.Dec.{leb, ltb}
use borrow.Author.Tests.{eq-eqb, ne_eqb, le-leb, lt-leb}
use Rattle.basics.specs.Choice.{pick, ◌or◌, is_found}
use Rattle.model.specs.Layout.{first_id_word, id_at, ids_of, most_ids, most_peers, with_peer}
use Rattle.model.specs.Peers.{top_bit, ids_keep, is_peered, listed_id, peer_for, peers_below}
use Rattle.model.specs.Journal.{peer_registered_event}
use Rattle.model.specs.Messages.{DS-REG-DUP, DS-REG-REQ, DS-REG-VER-NACK, effect, id_taken, is_duplicate, noting, not_registering, reg_ack, reg_handle, reg_id, registering, registering_at, reg_major, reg_minor, reg_nack}
use Rattle.basics.proofs.Choice.{pick-false, pick_true, first-facts}
use Rattle.model.proofs.Peers.{id-facts}

-- a listed id, by its major
module _ (s : List ℕ) (c : ℕ) (m : List ℕ) (p handle asked own : ℕ) (h : handle ≡ reg_handle m) (a : asked ≡ reg_major m) (o : own ≡ (id_at s p).major) where
  pub other-major : (told : ℕ) → (asked ≡ own → ⊥) → told ≡ pick (ltb own asked) own 0 → registering_at s c m (Some p) ≡ noting s c DS-REG-REQ (reg_nack handle DS-REG-VER-NACK told)
  unfolding registering_at
  other-major told n q = rw (pick-false _ _ _ (ne_eqb (reg_major m) (id_at s p).major (λ e. n (a ∙ e ∙ sym o))), ← h, ← a, ← o, ← q)

  pub right-major : (most minor agreed : ℕ) → asked ≡ own → most ≡ (id_at s p).minor → minor ≡ reg_minor m → agreed ≡ min most minor → registering_at s c m (Some p) ≡ effect (peer_registered_event c p agreed handle) (with_peer s c p handle agreed) (reg_ack handle agreed)
  unfolding registering_at
  right-major most minor agreed e x y z = rw (pick_true _ _ _ (eq-eqb (reg_major m) (id_at s p).major (sym a ∙ e ∙ o)), ← h, ← x, ← y, ← z)

-- tests in another order
or-skip : (a b t d : Bool) → (a or b or d) ≡ true → (a or b or t or d) ≡ true
unfolding ◌or◌
or-skip true b t d e = refl
or-skip false true t d e = refl
or-skip false false true d e = refl
or-skip false false false d e = e

or-only : (a b t d : Bool) → (a or b or d) ≡ false → (a or b or t or d) ≡ t
unfolding ◌or◌
or-only true b t d e = sym (absurd-false e)
  where
    absurd-false : true ≡ false → t ≡ true
    absurd-false z = absurd (let y : ◌≡◌ {A = ℕ} 0 1 = cc in omega arith)
or-only false true t d e = absurd (let y : ◌≡◌ {A = ℕ} 0 1 = cc in omega arith)
or-only false false true d e = refl
or-only false false false d e = e

-- what makes it a duplicate whatever its id
abbrev pub refused_by : List ℕ → ℕ → ℕ → Bool
refused_by s c handle = leb top_bit handle or is_found (peer_for s c handle) or leb most_peers (peers_below s c most_ids)

module _ (s : List ℕ) (c handle : ℕ) where
  pub by_bit : top_bit ≤ handle → refused_by s c handle ≡ true
  unfolding ◌or◌
  by_bit h = rw (le-leb _ _ h)

  pub by-handle : handle < top_bit → is_found (peer_for s c handle) ≡ true → refused_by s c handle ≡ true
  unfolding ◌or◌
  by-handle h f = rw (lt-leb _ _ h, f)

  pub by_count : handle < top_bit → is_found (peer_for s c handle) ≡ false → refused_by s c handle ≡ leb most_peers (peers_below s c most_ids)
  unfolding ◌or◌
  by_count h f = rw (lt-leb _ _ h, f)

module _ (s : List ℕ) (c : ℕ) (m : List ℕ) (handle : ℕ) (h : handle ≡ reg_handle m) where
  pub duplicate : refused_by s c handle ≡ true → registering s c m ≡ noting s c DS-REG-REQ (reg_nack handle DS-REG-DUP 0)
  unfolding registering is_duplicate
  duplicate e =
      rw (pick_true _ _ _ (or-skip (leb top_bit (reg_handle m)) (is_found (peer_for s c (reg_handle m))) (id_taken s c (listed_id s (reg_id m))) (leb most_peers (peers_below s c most_ids)) (rw h at e)), ← h)

  by-id : refused_by s c handle ≡ false → registering s c m ≡ pick (id_taken s c (listed_id s (reg_id m))) (not_registering s c m DS-REG-DUP 0) (registering_at s c m (listed_id s (reg_id m)))
  unfolding registering is_duplicate
  by-id e =
      rw (or-only (leb top_bit (reg_handle m)) (is_found (peer_for s c (reg_handle m))) (id_taken s c (listed_id s (reg_id m))) (leb most_peers (peers_below s c most_ids)) (rw h at e))

  pub listed : (p : ℕ) → refused_by s c handle ≡ false → listed_id s (reg_id m) ≡ Some p → registering s c m ≡ pick (is_peered s c p) (not_registering s c m DS-REG-DUP 0) (registering_at s c m (Some p))
  listed p e q = by-id e ∙ unfold id_taken in rw q

  pub unlisted : refused_by s c handle ≡ false → listed_id s (reg_id m) ≡ None → registering s c m ≡ noting s c DS-REG-REQ (reg_nack handle DS-REG-VER-NACK 0)
  unlisted e q = by-id e ∙ unfold id_taken pick registering_at in rw (q, ← h)

-- an id that was found has a place
pub place-less : (s id : List ℕ) (p : ℕ) → ids_keep s first_id_word (ids_of s) ≡ true → listed_id s id ≡ Some p → p < most_ids
unfolding listed_id
place-less s id p k e =
    let few = (id-facts s first_id_word (ids_of s) k).few in
    let below = (first-facts (ids_of s) _ p e).below in
    omega arith
