-- The fields of QUERY's records, and its reply.
-- Assumes nothing.
use Rattle.std.proofs.Common.{◌≡◌, ℕ, ◌+◌, ◌-◌, ◌*◌, ◌%◌, ◌^◌, ◌≤◌, List, length, sym, refl, ◌∙◌, arith, eq-eqb, ne_eqb}
use lib.Seq.{sets}
use Rattle.wire.specs.BigEndian.{bytes_of}
use Rattle.wire.proofs.Laws.{sets-whole}
use Rattle.basics.specs.Choice.{pick, joined}
use Rattle.model.specs.declared.Event.{Event}
use Rattle.model.specs.Layout.{memory_service, most_records, output_bytes, query_bytes, reply_header_bytes}
use Rattle.model.specs.Blocks.{named_block}
use Rattle.model.specs.Journal.{code_none, answered_event}
use Rattle.model.specs.Memory.{DR-MEM-OK, addr_in, answering, permanent_bytes, permanent_first, permanent_range, query_record, querying, size_in}
use Rattle.model.specs.Handler.{Handles}
use Rattle.basics.proofs.Choice.{joined_length}
use Rattle.model.proofs.Replies.{query-length}
use Rattle.records.specs.Header.{memory_header}
use Rattle.records.proofs.Parts.{reply-length, reply-stored}

-- three fields of a part from byte 16 on
module _ (l : List ℕ) (bytes first : ℕ) {l₁ l₂ l₃ : List ℕ} where
  pub range_none : bytes ≡ 0 → l₁ ≡ sets l 16 (bytes_of 8 0) → l₂ ≡ sets l₁ 24 (bytes_of 8 0) → l₃ ≡ sets l₂ 32 (bytes_of 8 0) → l₃ ≡ sets l 16 (permanent_range bytes first)
  unfolding permanent_range pick bytes_of
  range_none z e₁ e₂ e₃ = rw (eq-eqb _ _ z, e₃, e₂, e₁)

  pub range-some : {last : ℕ} → (bytes ≡ 0 → ⊥) → last ≡ (first + (bytes - 1)) % 2 ^ 64 → l₁ ≡ sets l 16 (bytes_of 8 bytes) → l₂ ≡ sets l₁ 24 (bytes_of 8 first) → l₃ ≡ sets l₂ 32 (bytes_of 8 last) → l₃ ≡ sets l 16 (permanent_range bytes first)
  unfolding permanent_range pick bytes_of
  range-some {last} n w e₁ e₂ e₃ =
      let same : first + bytes - 1 ≡ first + (bytes - 1) = omega arith in
      rw (ne_eqb _ _ n, same, ← w, e₃, e₂, e₁)

pub query-stored : (s part : List ℕ) (addr size : ℕ) {bytes first : ℕ} {p₁ p₂ p₃ : List ℕ} → length part ≡ query_bytes → (bytes ≡ permanent_bytes s size (named_block s addr size)) × (first ≡ permanent_first s addr (named_block s addr size))
    → p₁ ≡ sets part 0 (bytes_of 8 addr) → p₂ ≡ sets p₁ 8 (bytes_of 8 size) → p₃ ≡ sets p₂ 16 (permanent_range bytes first) → p₃ ≡ query_record s addr size
query-stored s part addr size {bytes} {first} {p₃ = p₃} long r e₁ e₂ e₃ = stored ∙ sets-whole (query_record s addr size) part (long ∙ sym (query-length s addr size))
  where
    stored : p₃ ≡ sets part 0 (query_record s addr size)
    stored = unfold query_record bytes_of in rw (e₃, e₂, e₁, r.0, r.1)

-- the headers and the records are the reply
pub query-handles : (s b out : List ℕ) (c handle request n : ℕ) {out₁ out₂ : List ℕ} {e : Event} → n ≤ most_records → output_bytes ≤ length out → e ≡ answered_event c memory_service code_none request → out₁ ≡ sets out 0 (memory_header handle DR-MEM-OK n request (n * query_bytes)) → out₂ ≡ sets out₁ reply_header_bytes (joined (λ i. query_record s (addr_in b i) (size_in b i)) n) → Handles (querying s c handle request b n) out (reply_header_bytes + n * query_bytes) e s out₂
unfolding querying answering
query-handles s b out c handle request n few room e h w =
    let f : ℕ → List ℕ = λ i. query_record s (addr_in b i) (size_in b i) in
    let long = joined_length f query_bytes n (λ i. query-length s (addr_in b i) (size_in b i)) in
    record {
      length' = reply-length handle DR-MEM-OK n request (joined f n) out long;
      notes = e;
      state = refl;
      output = reply-stored handle DR-MEM-OK n request (joined f n) out (n * query_bytes) long (omega arith) h w;
    }
