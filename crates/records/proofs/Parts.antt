-- The parts of a memory reply: a record in its part, the records so far, and the whole reply.
-- Assumes nothing.
use mathlib.Core.Path.{◌≡◌, sym, ap, ◌∙◌}
use mathlib.Core.List.{List, ◌++◌, append_assoc}
use Prim.Native.Nat.{ℕ, ◌+◌, ◌-◌, ◌*◌, ◌%◌, ◌≤◌}
use native.Mathlib.Nat.{zero-add}
use native.Mathlib.Numerals.{add-one}
use native.Mathlib.Omega.{arith}
use lib.ListN.{length, take, drop, length-append}
use lib.Seq.{sets, sets-eq, drop-drop}
use Rattle.wire.specs.BigEndian.{bytes_of, written}
use Rattle.wire.proofs.Laws.{length-bytes, bytes_low, sets-append, sets-written, sets-whole}
use Rattle.basics.specs.Choice.{joined}
use Rattle.model.specs.Layout.{reply_header_bytes, result_bytes, ds_header_bytes, most_records, output_bytes}
use Rattle.model.specs.Messages.{ds_message, ds_data}
use Rattle.model.specs.Memory.{memory_reply, DR-MEM-OK}
use Rattle.basics.proofs.Choice.{joined_length}
use Rattle.model.proofs.Replies.{memory-length}
use Rattle.records.specs.Header.{memory_header}

-- four bytes of a remainder are those of the number
pub low-bytes : (v at : ℕ) (l : List ℕ) {l' : List ℕ} → l' ≡ sets l at (bytes_of 4 (v % 4294967296)) → l' ≡ sets l at (bytes_of 4 v)
low-bytes v at l e = e ∙ ap (sets l at) (bytes_low 4 v)

-- the five fields of a result record, stored one after the other, fill its part
pub record-stored : (part : List ℕ) (addr size result status : ℕ) {p₁ p₂ p₃ p₄ p₅ : List ℕ} → length part ≡ result_bytes
    → p₁ ≡ sets part 0 (bytes_of 8 addr) → p₂ ≡ sets p₁ 8 (bytes_of 8 size) → p₃ ≡ sets p₂ 16 (bytes_of 4 result)
    → p₄ ≡ sets p₃ 20 (bytes_of 4 status) → p₅ ≡ sets p₄ 24 (bytes_of 4 0)
    → p₅ ≡ bytes_of 8 addr ++ bytes_of 8 size ++ bytes_of 4 result ++ bytes_of 4 status ++ bytes_of 4 0
unfolding bytes_of
record-stored part addr size result status long e₁ e₂ e₃ e₄ e₅ =
    rw (e₅, e₄, e₃, e₂, e₁)
    (sets-whole (bytes_of 8 addr ++ bytes_of 8 size ++ bytes_of 4 result ++ bytes_of 4 status ++ bytes_of 4 0) part long)

-- a part that comes back changed is a run of stores
pub part-sets : (l v : List ℕ) (at k : ℕ) → length v ≡ k → at + k ≤ length l → take at l ++ (v ++ drop k (drop at l)) ≡ sets l at v
part-sets l v at k e h =
    ap (λ (t : List ℕ). take at l ++ (v ++ t)) (drop-drop k at l ∙ ap (λ (n : ℕ). drop (at + n) l) (sym e))
    ∙ sym (append_assoc (take at l) v (drop (at + length v) l))
    ∙ sym (sets-eq v l at (omega arith))

-- a record in its part is a run of stores
pub record-put : (k : ℕ) (l v w : List ℕ) (i size : ℕ) → v ≡ w → length w ≡ k → size ≡ k → reply_header_bytes + i * k + k ≤ length l
    → take (reply_header_bytes + i * k) l ++ (v ++ drop size (drop (reply_header_bytes + i * k) l)) ≡ sets l (reply_header_bytes + i * k) w
record-put k l v w i size this long whole h =
    part-sets l v (reply_header_bytes + i * k) size (ap length this ∙ long ∙ sym whole) (omega arith) ∙ ap (sets l (reply_header_bytes + i * k)) this

-- one record more, each of k bytes, after the headers
pub record-more : (f : ℕ → List ℕ) (k : ℕ) → ((i : ℕ) → length (f i) ≡ k) → (l₀ l v : List ℕ) (i size : ℕ) → l ≡ sets l₀ reply_header_bytes (joined f i) → v ≡ f i → size ≡ k → reply_header_bytes + i * k + k ≤ length l
    → take (reply_header_bytes + i * k) l ++ (v ++ drop size (drop (reply_header_bytes + i * k) l)) ≡ sets l₀ reply_header_bytes (joined f (i + 1))
unfolding joined
record-more f k each l₀ l v i size stored this whole h =
    record-put k l v (f i) i size this (each i) whole h ∙ rw (stored, ← joined_length f k i each, sets-append, add-one i)

header-length : (handle type argument request rest : ℕ) → length (memory_header handle type argument request rest) ≡ reply_header_bytes
unfolding memory_header
header-length handle type argument request rest = simp (length-append, length-bytes) (omega arith)

-- the headers, and then the records, are the reply at the start of the output, and its length
module _ (handle type argument request : ℕ) (records out : List ℕ) where
  pub reply-length : {rest : ℕ} → length records ≡ rest → reply_header_bytes + rest ≡ length (memory_reply handle type argument request records)
  reply-length e = ap (λ (n : ℕ). reply_header_bytes + n) (sym e) ∙ sym (memory-length handle type argument request records)

  payload-length : (rest : ℕ) → length records ≡ rest → length (bytes_of 8 handle ++ bytes_of 4 type ++ bytes_of 4 argument ++ bytes_of 8 request ++ records) ≡ reply_header_bytes - ds_header_bytes + rest
  payload-length rest e = simp (length-append, length-bytes) (omega arith)

  headed : (rest : ℕ) → length records ≡ rest → memory_header handle type argument request rest ++ records ≡ memory_reply handle type argument request records
  unfolding memory_header memory_reply ds_data ds_message bytes_of
  headed rest e = rw (payload-length rest e) (simp append_assoc)

  pub reply-stored : (rest : ℕ) {out₁ out₂ : List ℕ} → length records ≡ rest → reply_header_bytes + rest ≤ length out
      → out₁ ≡ sets out 0 (memory_header handle type argument request rest) → out₂ ≡ sets out₁ reply_header_bytes records
      → out₂ ≡ written (memory_reply handle type argument request records) out
  reply-stored rest size room first second =
      second
      ∙ ap (λ (l : List ℕ). sets l reply_header_bytes records) first
      ∙ ap (λ (k : ℕ). sets (sets out 0 (memory_header handle type argument request rest)) k records)
      (sym (header-length handle type argument request rest) ∙ sym (zero-add _))
      ∙ sets-append out (memory_header handle type argument request rest) records 0
      ∙ ap (sets out 0) (headed rest size)
      ∙ sets-written (memory_reply handle type argument request records) out
      (omega (arith, memory-length handle type argument request records))

-- one result more
pub result-more : (f : ℕ → List ℕ) → ((i : ℕ) → length (f i) ≡ result_bytes) → (l₀ : List ℕ) {l l' v : List ℕ} (i : ℕ) → l ≡ sets l₀ reply_header_bytes (joined f i) → l' ≡ sets l (reply_header_bytes + i * result_bytes) v → v ≡ f i → l' ≡ sets l₀ reply_header_bytes (joined f (i + 1))
unfolding joined
result-more f each l₀ i stored more this = more ∙ rw (stored, this, ← joined_length f result_bytes i each, sets-append, add-one i)

-- a reply at the start of an output, and its length
pub record Replied (reply out : List ℕ) (r : ℕ) (out' : List ℕ) : Type 0 where
  pub long : r ≡ length reply
  pub output : out' ≡ written reply out

-- the headers, and then a result for each record
pub results-stored : (handle request n : ℕ) (f : ℕ → List ℕ) → ((i : ℕ) → length (f i) ≡ result_bytes) → (out : List ℕ) {out₁ out₂ : List ℕ} {r : ℕ} → n ≤ most_records → output_bytes ≤ length out
    → (r ≡ reply_header_bytes + n * result_bytes) × (out₁ ≡ sets out 0 (memory_header handle DR-MEM-OK n request (n * result_bytes)))
    → out₂ ≡ sets out₁ reply_header_bytes (joined f n)
    → Replied (memory_reply handle DR-MEM-OK n request (joined f n)) out r out₂
results-stored handle request n f each out few room first second =
    let long = joined_length f result_bytes n each in
    record {
      long = first.0 ∙ reply-length handle DR-MEM-OK n request (joined f n) out long;
      output = reply-stored handle DR-MEM-OK n request (joined f n) out (n * result_bytes) long (omega arith) first.1 second;
    }
