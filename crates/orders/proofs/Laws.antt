-- Which of its answers a request gets.
-- Assumes nothing.
use Prim.Native.Nat.{ℕ}
use mathlib.Core.Path.{◌≡◌}
use mathlib.Core.Bool.{true, false}
use mathlib.Core.List.{List, []}
use lib.ListN.{length}
use borrow.Author.Tests.{eq-eqb, ne_eqb}
use Rattle.basics.specs.Choice.{pick}
use Rattle.model.specs.Layout.{is_set, order_none, permission_at, order_of}
use Rattle.model.specs.Orders.{DOMAIN-SHUTDOWN-FAILURE, DOMAIN-SHUTDOWN-INVALID-MSG, reason_denied, reason_pending, order_number, order_bytes, not_ordered, ordering_for, answered_order}

module _ (s : List ℕ) (c handle v : ℕ) (b : List ℕ) where
  pub wrong-length : (length b ≡ order_bytes v → ⊥) → answered_order s c handle v b ≡ not_ordered s c handle v (order_number b) DOMAIN-SHUTDOWN-INVALID-MSG []
  unfolding answered_order pick
  wrong-length n = rw (ne_eqb _ _ n)

  pub denied : length b ≡ order_bytes v → is_set (permission_at s v) ≡ false → answered_order s c handle v b ≡ not_ordered s c handle v (order_number b) DOMAIN-SHUTDOWN-FAILURE reason_denied
  unfolding answered_order pick
  denied long p = rw (eq-eqb _ _ long, p)

  pub pending : length b ≡ order_bytes v → is_set (permission_at s v) ≡ true → (order_of s ≡ order_none → ⊥) → answered_order s c handle v b ≡ not_ordered s c handle v (order_number b) DOMAIN-SHUTDOWN-FAILURE reason_pending
  unfolding answered_order pick
  pending long p n = rw (eq-eqb _ _ long, p, ne_eqb _ _ n)

  pub left : length b ≡ order_bytes v → is_set (permission_at s v) ≡ true → order_of s ≡ order_none → answered_order s c handle v b ≡ ordering_for s c handle v b
  unfolding answered_order pick
  left long p e = rw (eq-eqb _ _ long, p, eq-eqb _ _ e)
