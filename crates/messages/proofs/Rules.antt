-- The facts that the tests of a well-formed message stand for.
-- Assumes nothing.
use mathlib.Core.Path.{◌≡◌, refl, sym, ◌∙◌}
use mathlib.Core.Bool.{Bool, true, false}
use mathlib.Core.List.{List}
use Prim.Native.Nat.{ℕ, ◌+◌, ◌-◌, ◌≤◌, ◌<◌}
use native.Mathlib.Omega.{arith}
use lib.ListN.{length, get_or}
use lib.Dec.{eqb}
use borrow.Author.Tests.{eqb-true, eqb-false, leb-true, eq-eqb, ne_eqb, le-leb}
use Rattle.wire.specs.BigEndian.{byte_at}
use Rattle.wire.proofs.Laws.{byte-at}
use Rattle.basics.specs.Choice.{pick, ◌and◌}
use Rattle.model.specs.declared.Message.{Message}
use Rattle.model.specs.declared.Message.TheVariants.{InitReq, RegReq, RegAck, RegNack, Unreg, UnregAck, UnregNack, Data, Nack, Bad}
use Rattle.model.specs.Messages.{DS-INIT-REQ, DS-REG-REQ, DS-REG-ACK, DS-REG-NACK, DS-UNREG, DS-UNREG-ACK, DS-UNREG-NACK, DS-DATA, DS-NACK, decoded, decoded_by_type, id_fits, most_payload, payload_fits, payload_length, type_of, well_formed, whole_message}
use Rattle.basics.proofs.Choice.{both, clash, on-pick}
use Rattle.messages.specs.Id.{no_zero}
use Rattle.model.specs.Layout.{data_header_bytes, ds_header_bytes}

pub and-true : (a b : Bool) → b ≡ true → (a and b) ≡ a
unfolding ◌and◌
and-true true b e = e
and-true false b e = refl

-- a message has 8 + payload_len bytes, and payload_len is at most 4,096
pub record Whole (m : List ℕ) : Type 0 where
  pub size : length m ≡ ds_header_bytes + payload_length m
  pub bound : payload_length m ≤ most_payload

-- an id has 1 to 1,024 bytes, and the last is zero
pub record Id (m : List ℕ) : Type 0 where
  pub low : 13 ≤ payload_length m
  pub high : payload_length m ≤ 1036
  pub end : eqb (byte_at m (payload_length m + 7)) 0 ≡ true

module _ (m : List ℕ) where
  -- a byte of a slice, tested for zero
  pub zero-byte : (i : ℕ) → get_or m i 0 < 256 → get_or m i 0 ≡ 0 → eqb (byte_at m i) 0 ≡ true
  zero-byte i small e = eq-eqb _ _ (sym (byte-at m i small) ∙ e)

  pub other_byte : (i : ℕ) → get_or m i 0 < 256 → (get_or m i 0 ≡ 0 → ⊥) → eqb (byte_at m i) 0 ≡ false
  other_byte i small e = ne_eqb _ _ (λ z. e (byte-at m i small ∙ z))

  pub whole-rules : whole_message m ≡ true → Whole m
  unfolding whole_message
  whole-rules t = let p = both _ _ t in record { size = eqb-true _ _ p.0; bound = leb-true _ _ p.1 }

  -- the last test of a whole message is of its length
  pub whole-last : payload_length m ≤ most_payload → whole_message m ≡ eqb (length m) (ds_header_bytes + payload_length m)
  unfolding whole_message
  whole-last h = and-true _ _ (le-leb _ _ h)

  pub well-rules : well_formed m ≡ true → Whole m × (payload_fits m ≡ true)
  unfolding well_formed
  well-rules t = let p = both _ _ t in (whole-rules p.0, p.1)

  pub id-rules : id_fits m ≡ true → Id m
  unfolding id_fits
  id-rules t =
      let p = both _ _ t in
      let q = both _ _ p.1 in
      record { low = leb-true _ _ p.0; high = leb-true _ _ q.0; end = (both _ _ q.1).0 }

  -- the last test of an id is of its bytes before the last
  pub id-last : Id m → id_fits m ≡ no_zero m (payload_length m - 13)
  unfolding id_fits ◌and◌
  id-last r = rw (le-leb _ _ r.low, le-leb _ _ r.high, r.end)

  -- what a well-formed message of a type has room for: INIT_REQ a major, REG_ACK a handle and a minor, all but
  -- INIT_REQ a handle
  module _ (fits : payload_fits m ≡ true) where
    pub init-payload : type_of m ≡ DS-INIT-REQ → payload_length m ≡ 4
    unfolding payload_fits pick
    init-payload e = eqb-true _ _ (rw e at fits)

    pub ack-payload : type_of m ≡ DS-REG-ACK → payload_length m ≡ 10
    unfolding payload_fits pick
    ack-payload e = eqb-true _ _ (rw e at fits)

    pub reg-payload : type_of m ≡ DS-REG-REQ → 13 ≤ payload_length m
    unfolding payload_fits pick
    reg-payload e = (id-rules (rw e at fits)).low

    pub handle-payload : (type_of m ≡ DS-INIT-REQ → ⊥) → 8 ≤ payload_length m
    unfolding payload_fits
    handle-payload other =
        on-pick P (eqb (type_of m) DS-INIT-REQ) _ _ (λ e _. absurd (other (eqb-true _ _ e)))
        (λ _. on-pick P (eqb (type_of m) DS-REG-REQ) _ _ (λ _ t. let r = id-rules t in omega arith)
        (λ _. on-pick P (eqb (type_of m) DS-REG-ACK) _ _ (λ _. long 10 (omega arith))
        (λ _. on-pick P (eqb (type_of m) DS-REG-NACK) _ _ (λ _. long 18 (omega arith))
        (λ _. on-pick P (eqb (type_of m) DS-UNREG) _ _ (λ _. long 8 (omega arith))
        (λ _. on-pick P (eqb (type_of m) DS-UNREG-ACK) _ _ (λ _. long 8 (omega arith))
        (λ _. on-pick P (eqb (type_of m) DS-UNREG-NACK) _ _ (λ _. long 8 (omega arith))
        (λ _. on-pick P (eqb (type_of m) DS-DATA) _ _ (λ _. leb-true _ _)
        (λ _. on-pick P (eqb (type_of m) DS-NACK) _ _ (λ _. long 16 (omega arith)) (λ _ t. absurd (clash false refl t))))))))))
        fits
      where
        P : Bool → Type 0
        P b = b ≡ true → 8 ≤ payload_length m

        long : (n : ℕ) → 8 ≤ n → P (eqb (payload_length m) n)
        long n h t = omega (arith, eqb-true (payload_length m) n t)

-- a message that is DATA has a handle, and byte 16 is the first after it
pub data-there : (m : List ℕ) (handle : ℕ) → decoded m ≡ Data handle → data_header_bytes ≤ length m
unfolding decoded decoded_by_type
data-there m handle =
    on-pick P (well_formed m) _ Bad
    (λ well.
    on-pick P (eqb (type_of m) DS-INIT-REQ) (InitReq _) _
    (λ _ e. absurd (let z : ◌≡◌ {A = ℕ} 0 1 = cc in omega arith))
    (λ other _.
    let rules = well-rules m well in
    let room = handle-payload m rules.1 (eqb-false (type_of m) DS-INIT-REQ other) in
    omega arith))
    (λ _ e. absurd (let z : ◌≡◌ {A = ℕ} 0 1 = cc in omega arith))
  where
    P : Message → Type 0
    P x = x ≡ Data handle → data_header_bytes ≤ length m

-- one that is REG_REQ has a handle, two versions and an id, which begins at byte 20
pub reg-there : (m : List ℕ) (handle : ℕ) → decoded m ≡ RegReq handle → 20 ≤ length m
unfolding decoded decoded_by_type
reg-there m handle =
    on-pick P (well_formed m) _ Bad
    (λ well.
    on-pick P (eqb (type_of m) DS-INIT-REQ) (InitReq _) _
    (λ _ e. absurd (let z : ◌≡◌ {A = ℕ} 0 1 = cc in omega arith))
    (λ _. on-pick P (eqb (type_of m) DS-REG-REQ) (RegReq _) _
    (λ reg _.
    let rules = well-rules m well in
    let room = reg-payload m rules.1 (eqb-true (type_of m) DS-REG-REQ reg) in
    omega arith)
    (λ _. on-pick P (eqb (type_of m) DS-REG-ACK) (RegAck _ _) _ (λ _ e. absurd (let z : ◌≡◌ {A = ℕ} 0 1 = cc in omega arith))
    (λ _. on-pick P (eqb (type_of m) DS-REG-NACK) (RegNack _) _ (λ _ e. absurd (let z : ◌≡◌ {A = ℕ} 0 1 = cc in omega arith))
    (λ _. on-pick P (eqb (type_of m) DS-UNREG) (Unreg _) _ (λ _ e. absurd (let z : ◌≡◌ {A = ℕ} 0 1 = cc in omega arith))
    (λ _. on-pick P (eqb (type_of m) DS-UNREG-ACK) UnregAck _ (λ _ e. absurd (let z : ◌≡◌ {A = ℕ} 0 1 = cc in omega arith))
    (λ _. on-pick P (eqb (type_of m) DS-UNREG-NACK) UnregNack _ (λ _ e. absurd (let z : ◌≡◌ {A = ℕ} 0 1 = cc in omega arith))
    (λ _. on-pick P (eqb (type_of m) DS-DATA) (Data _) _ (λ _ e. absurd (let z : ◌≡◌ {A = ℕ} 0 1 = cc in omega arith))
    (λ _. on-pick P (eqb (type_of m) DS-NACK) Nack Bad (λ _ e. absurd (let z : ◌≡◌ {A = ℕ} 0 1 = cc in omega arith)) (λ _ e. absurd (let z : ◌≡◌ {A = ℕ} 0 1 = cc in omega arith)))))))))))
    (λ _ e. absurd (let z : ◌≡◌ {A = ℕ} 0 1 = cc in omega arith))
  where
    P : Message → Type 0
    P x = x ≡ RegReq handle → 20 ≤ length m
