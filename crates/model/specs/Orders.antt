-- 02, ticket 6, "Answer services 2 and 3 by source document 003, sections 3.2 and 3.3": requests to shut down and to panic, the host's permissions, and the order
-- that a request leaves for the host.
-- Assumes nothing.
use Rattle.std.specs.Prelude.{ℕ, Bool, not, List, [], ◌∷◌, ◌++◌, length, ltb, eqb}
use Rattle.wire.specs.BigEndian.{number_at, bytes_of}
use Rattle.basics.specs.Choice.{pick}
use Rattle.model.specs.Layout.{shutdown_service, shutdown_bytes, panic_bytes, order_none, order_shutdown, order_panic, permission_at, order_of, is_set, word_of, with_permission, with_order}
use Rattle.model.specs.Journal.{permitted_event, taken_event, ordered_event}
use Rattle.model.specs.Messages.{Effect, effect, ds_data}

-- Result codes: "Panic's response has the layout and result codes of shutdown's."
abbrev pub DOMAIN-SHUTDOWN-SUCCESS : ℕ
DOMAIN-SHUTDOWN-SUCCESS = 0

abbrev pub DOMAIN-SHUTDOWN-FAILURE : ℕ
DOMAIN-SHUTDOWN-FAILURE = 1

abbrev pub DOMAIN-SHUTDOWN-INVALID-MSG : ℕ
DOMAIN-SHUTDOWN-INVALID-MSG = 2

-- Reasons: "reasons end in a zero".
-- `denied`
abbrev pub reason_denied : List ℕ
reason_denied = 100 ∷ 101 ∷ 110 ∷ 105 ∷ 101 ∷ 100 ∷ 0 ∷ []

-- `pending`
abbrev pub reason_pending : List ℕ
reason_pending = 112 ∷ 101 ∷ 110 ∷ 100 ∷ 105 ∷ 110 ∷ 103 ∷ 0 ∷ []

-- The request b: what a data message holds from byte 16 on: req_num (8) and, to shut down, ms_delay (4). "number 0 when under 8 bytes came"
unfoldable pub order_number : List ℕ → ℕ
order_number b = pick (ltb (length b) 8) 0 (number_at b 0 8)

abbrev pub delay_in : List ℕ → ℕ
delay_in b = number_at b 8 4

-- the bytes of a request to service 2 or 3
unfoldable pub order_bytes : ℕ → ℕ
order_bytes v = pick (eqb v shutdown_service) shutdown_bytes panic_bytes

-- The response: req_num, result, and the reason if there is one.
unfoldable pub order_reply : ℕ → ℕ → ℕ → List ℕ → List ℕ
order_reply handle request result reason = ds_data handle (bytes_of 8 request ++ bytes_of 4 result ++ reason)

-- a request that leaves no order
unfoldable pub not_ordered : List ℕ → ℕ → ℕ → ℕ → ℕ → ℕ → List ℕ → Effect
not_ordered s c handle v request result reason = effect (ordered_event c v result 0) s (order_reply handle request result reason)

-- "Permitted requests succeed, with no reason bytes, and leave an order for the host (shutdown with its delay in milliseconds, or panic)"
unfoldable pub ordering : List ℕ → ℕ → ℕ → ℕ → ℕ → ℕ → ℕ → Effect
ordering s c handle v request order delay =
    effect (ordered_event c v DOMAIN-SHUTDOWN-SUCCESS delay)
    (with_order s order delay)
    (order_reply handle request DOMAIN-SHUTDOWN-SUCCESS [])

unfoldable pub ordering_for : List ℕ → ℕ → ℕ → ℕ → List ℕ → Effect
ordering_for s c handle v b =
    pick (eqb v shutdown_service)
    (ordering s c handle v (order_number b) order_shutdown (delay_in b))
    (ordering s c handle v (order_number b) order_panic 0)

-- "A wrong length, tested first, gives the invalid-message result alone ..; then a denied one fails with `denied`"; "a second request before that fails with the
-- reason `pending`"
unfoldable pub answered_order : List ℕ → ℕ → ℕ → ℕ → List ℕ → Effect
answered_order s c handle v b =
    pick (not (eqb (length b) (order_bytes v)))
    (not_ordered s c handle v (order_number b) DOMAIN-SHUTDOWN-INVALID-MSG [])
    (pick (not (is_set (permission_at s v)))
    (not_ordered s c handle v (order_number b) DOMAIN-SHUTDOWN-FAILURE reason_denied)
    (pick (is_set (order_of s))
    (not_ordered s c handle v (order_number b) DOMAIN-SHUTDOWN-FAILURE reason_pending)
    (ordering_for s c handle v b)))

-- "The host sets, per service, whether it is permitted"
unfoldable pub permitting : List ℕ → ℕ → Bool → Effect
permitting s v permitted = effect (permitted_event v (word_of permitted)) (with_permission s v (word_of permitted)) []

-- "the host takes the order"
unfoldable pub taking : List ℕ → Effect
taking s = effect taken_event (with_order s order_none 0) []
