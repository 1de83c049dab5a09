-- How long each reply is: none is above 672 bytes; and where a memory reply's records stand.
-- Assumes nothing.
use Prim.Native.Nat.{ℕ, zero, suc, ◌+◌, ◌*◌, ◌≤◌, ◌<◌}
use native.Mathlib.Nat.{eq-or-lt_of_le, le_of_suc-le-suc, not-suc-le-zero}
use native.Mathlib.Omega.{arith}
use mathlib.Core.Path.{◌≡◌, ◌∙◌}
use mathlib.Core.List.{List, [], ◌++◌, append_assoc, append-nil}
use mathlib.Core.Logic.{⊎_elim}
use lib.ListN.{length, length-append}
use lib.Dec.{eqb}
use Rattle.wire.specs.BigEndian.{bytes_of, number_at}
use Rattle.wire.proofs.Laws.{length-bytes, number-after}
use Rattle.basics.specs.Choice.{joined}
use Rattle.model.specs.declared.Removal.{Removal}
use Rattle.model.specs.Messages.{DS-DATA, services, service_of, ds_message, init_ack, init_nack, reg_req, reg_ack, reg_nack, unreg, unreg_ack, unreg_nack, ds_data, nack}
use Rattle.model.specs.Memory.{memory_reply, result_record, query_record, permanent_range, status_record}
use Rattle.model.specs.DeviceRequests.{device_reply}
use Rattle.model.specs.Orders.{order_reply}
use Rattle.basics.proofs.Choice.{on-pick, joined_length}
use Rattle.model.specs.Layout.{ds_header_bytes, most_records, output_bytes, query_bytes, reply_header_bytes, result_bytes, status_bytes}

message-length : (type : ℕ) (payload : List ℕ) → length (ds_message type payload) ≡ ds_header_bytes + length payload
unfolding ds_message
message-length type payload = simp (length-append, length-bytes) (omega arith)

-- the table's rule: no id is above 16 bytes
id-short : (v : ℕ) → length (service_of v).id ≤ 16
unfolding services
id-short zero = omega arith
id-short (suc zero) = omega arith
id-short (suc (suc zero)) = omega arith
id-short (suc (suc (suc zero))) = omega arith
id-short (suc (suc (suc (suc v)))) = omega arith

pub init_ack-short : (minor : ℕ) → length (init_ack minor) ≤ output_bytes
unfolding init_ack
init_ack-short minor = simp (message-length, length-bytes) (omega arith)

pub init_nack-short : (major : ℕ) → length (init_nack major) ≤ output_bytes
unfolding init_nack
init_nack-short major = simp (message-length, length-bytes) (omega arith)

pub reg_req-short : (handle v : ℕ) → length (reg_req handle (service_of v)) ≤ output_bytes
unfolding reg_req
reg_req-short handle v = simp (message-length, length-append, length-bytes) (omega (arith, id-short v))

pub reg_nack-short : (handle result major : ℕ) → length (reg_nack handle result major) ≤ output_bytes
unfolding reg_nack
reg_nack-short handle result major = simp (message-length, length-append, length-bytes) (omega arith)

pub reg_ack-short : (handle minor : ℕ) → length (reg_ack handle minor) ≤ output_bytes
unfolding reg_ack
reg_ack-short handle minor = simp (message-length, length-append, length-bytes) (omega arith)

pub unreg-short : (handle : ℕ) → length (unreg handle) ≤ output_bytes
unfolding unreg
unreg-short handle = simp (message-length, length-bytes) (omega arith)

pub unreg_ack-short : (handle : ℕ) → length (unreg_ack handle) ≤ output_bytes
unfolding unreg_ack
unreg_ack-short handle = simp (message-length, length-bytes) (omega arith)

pub unreg_nack-short : (handle : ℕ) → length (unreg_nack handle) ≤ output_bytes
unfolding unreg_nack
unreg_nack-short handle = simp (message-length, length-bytes) (omega arith)

pub device-short : (handle request result status : ℕ) → length (device_reply handle request result status) ≤ output_bytes
unfolding device_reply ds_data
device-short handle request result status = simp (message-length, length-append, length-bytes) (omega arith)

pub order-short : (handle request result : ℕ) (reason : List ℕ) → length reason ≤ 8 → length (order_reply handle request result reason) ≤ output_bytes
unfolding order_reply ds_data
order-short handle request result reason h = simp (message-length, length-append, length-bytes) (omega arith)

pub nack-short : (handle result : ℕ) → length (nack handle result) ≤ output_bytes
unfolding nack
nack-short handle result = simp (message-length, length-append, length-bytes) (omega arith)

pub memory-length : (handle type argument request : ℕ) (records : List ℕ) → length (memory_reply handle type argument request records) ≡ reply_header_bytes + length records
unfolding memory_reply ds_data
memory-length handle type argument request records =
    simp (message-length, length-append, length-bytes) (omega arith)

-- records of 28 bytes, and of 40, at most sixteen
module _ (handle type request n : ℕ) (few : n ≤ most_records) where
  pub results-short : (f : ℕ → List ℕ) → ((i : ℕ) → length (f i) ≡ result_bytes) → length (memory_reply handle type n request (joined f n)) ≤ output_bytes
  results-short f h = rw (memory-length, joined_length f result_bytes n h) (omega arith)

  pub queries-short : (f : ℕ → List ℕ) → ((i : ℕ) → length (f i) ≡ query_bytes) → length (memory_reply handle type n request (joined f n)) ≤ output_bytes
  queries-short f h = rw (memory-length, joined_length f query_bytes n h) (omega arith)

pub result-length : (s : List ℕ) (addr size result : ℕ) → length (result_record s addr size result) ≡ result_bytes
unfolding result_record
result-length s addr size result = simp (length-append, length-bytes) (omega arith)

range_length : (bytes first : ℕ) → length (permanent_range bytes first) ≡ 24
unfolding permanent_range
range_length bytes first =
    on-pick (λ (l : List ℕ). length l ≡ 24) (eqb bytes 0) _ _
    (λ e. simp (length-append, length-bytes) (omega arith))
    (λ e. simp (length-append, length-bytes) (omega arith))

pub query-length : (s : List ℕ) (addr size : ℕ) → length (query_record s addr size) ≡ query_bytes
unfolding query_record
query-length s addr size = simp (length-append, length-bytes, range_length) (omega arith)

pub status-length : (m : Removal) → length (status_record m) ≡ status_bytes
unfolding status_record
status-length m =
    on-pick (λ (l : List ℕ). length l ≡ status_bytes) _ _ _
    (λ e. simp (length-append, length-bytes) (omega arith))
    (λ e. simp (length-append, length-bytes) (omega arith))

pub short-empty : length {A = ℕ} [] ≤ output_bytes
short-empty = omega arith

-- A list of lists, split at the i-th.
pub record Split (f : ℕ → List ℕ) (n i : ℕ) : Type 0 where
  pub rest : List ℕ
  pub parts : joined f n ≡ joined f i ++ (f i ++ rest)

pub split_at : (f : ℕ → List ℕ) (n i : ℕ) → i < n → Split f n i
unfolding joined
split_at f zero i h = absurd (not-suc-le-zero h)
split_at f (suc n) i h =
    ⊎_elim
    (λ (q : i ≡ n). record { rest = []; parts = rw (q, append-nil) })
    (λ (l : i < n). longer (split_at f n i l))
    (eq-or-lt_of_le (le_of_suc-le-suc h))
  where
    longer : Split f n i → Split f (suc n) i
    longer r = record { rest = r.rest ++ f n; parts = rw r.parts (simp append_assoc) }

-- a number behind the k elements of a
pub behind : (a l : List ℕ) (k at n : ℕ) → length a ≡ k → number_at (a ++ l) (k + at) n ≡ number_at l at n
behind a l k at n e = rw (← e) (number-after a l at n)

-- x stands in l from `at` on
pub record Stands (l x : List ℕ) (at : ℕ) : Type 0 where
  pub before : List ℕ
  pub after : List ℕ
  pub parts : l ≡ before ++ (x ++ after)
  pub long : length before ≡ at

-- a memory reply: its headers, then its records
memory-records : (handle type argument request : ℕ) (records : List ℕ) → Stands (memory_reply handle type argument request records) records reply_header_bytes
unfolding memory_reply ds_data ds_message
memory-records handle type argument request records = record {
  before =
      bytes_of 4 DS-DATA
      ++ bytes_of 4 (length (bytes_of 8 handle ++ bytes_of 4 type ++ bytes_of 4 argument ++ bytes_of 8 request ++ records))
      ++ bytes_of 8 handle ++ bytes_of 4 type ++ bytes_of 4 argument ++ bytes_of 8 request;
  after = [];
  parts = rw (append-nil) (simp append_assoc);
  long = simp (length-append, length-bytes) (omega arith);
}

-- record i of those of k bytes each
pub record-stands : (handle type argument request n i k : ℕ) (f : ℕ → List ℕ) → ((i : ℕ) → length (f i) ≡ k) → i < n → Stands (memory_reply handle type argument request (joined f n)) (f i) (reply_header_bytes + i * k)
record-stands handle type argument request n i k f each h =
    let m = memory-records handle type argument request (joined f n) in
    let s = split_at f n i h in
    record {
      before = m.before ++ joined f i;
      after = s.rest ++ m.after;
      parts = m.parts ∙ rw s.parts (simp append_assoc);
      long = length-append m.before (joined f i) ∙ rw (m.long, joined_length f k i each);
    }
