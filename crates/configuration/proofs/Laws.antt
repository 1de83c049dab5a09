-- CONFIGURE's records one by one, and its reply.
-- Assumes nothing.
use Rattle.std.specs.Prelude.{Option, Some, None}
use mathlib.Core.Path.{◌≡◌, refl, sym, ap, ◌∙◌}
use mathlib.Core.Bool.{Bool, true, false}
use mathlib.Core.List.{List, [], ◌∷◌, ◌++◌}
use Prim.Native.Nat.{ℕ, zero, suc, ◌+◌, ◌*◌, ◌/◌, ◌%◌, ◌^◌, ◌<◌, ◌≤◌}
use native.Mathlib.Nat.{add-zero, pow-suc}
use native.Mathlib.Numerals.{add-one}
use native.Mathlib.Omega.{arith}
use lib.ListN.{length, get_or, length-append, get_or-append}
use lib.Seq.{sets, get_or_at}
use lib.Dec.{eqb}
use borrow.Author.Tests.{eq-eqb, ne_eqb, eqb-true, eqb-false}
use Rattle.basics.specs.Choice.{pick, ◌and◌, every, joined}
use Rattle.model.specs.declared.Event.{Event}
use Rattle.model.specs.Layout.{memory_service, block_at, blocks_of, most_blocks, most_records, output_bytes, reply_header_bytes, result_bytes, state_words, with_configured}
use Rattle.model.specs.Blocks.{named_block}
use Rattle.model.specs.Search.{BlocksInOrder}
use Rattle.model.specs.Journal.{code_none, answered_event, configured_event}
use Rattle.model.specs.Memory.{Progress, configure_one, DR-MEM-OK, DR-MEM-RES-FAILURE, DR-MEM-RES-NOWORK, DR-MEM-RES-OK, addr_in, answering, answering_configure, configure_at, configure_reply, configured_by, one_configured, one_failed, one_unchanged, result_record, size_in, status_at, status_of}
use Rattle.model.specs.Handler.{Handles}
use Rattle.basics.proofs.Choice.{clash, pick_true, pick-false, every-at, joined_same}
use Rattle.model.proofs.Mask.{bit_at, bit-within, none_within}
use Rattle.model.proofs.Words.{configured-length}
use Rattle.model.proofs.Turns.{flag-sizes, flag-now, flag-else}
use Rattle.model.proofs.Search.{in-order-configured}
use Rattle.model.proofs.Replies.{result-length}
use Rattle.records.specs.Header.{memory_header}
use Rattle.records.proofs.Parts.{Replied, result-more, results-stored}
use Rattle.configuration.specs.declared.OneDone.{OneDone}
use Rattle.configuration.specs.Progress.{bits_end, progress, Change, leaves, raises, Closed, ConfiguresAt, ConfiguresOne, ConfiguresAll, record_of}

-- the bit of a block
pub bit_is : (i : ℕ) → i < most_blocks → 1 * 2 ^ i % 2 ^ 64 ≡ 2 ^ i
bit_is i h = eqb-true _ _ (every-at (λ k. eqb (1 * 2 ^ k % 2 ^ 64) (2 ^ k)) most_blocks i (unfold every ◌and◌ in refl) h)

-- What a record leaves as it was.
module _ (s : List ℕ) (n : length s ≡ state_words) (o : BlocksInOrder s) {bit : ℕ} {s' : List ℕ} where
  named-kept : Change s bit s' → (addr size : ℕ) → named_block s' addr size ≡ named_block s addr size
  named-kept (leaves z e) addr size = rw e
  named-kept (raises i l z b e) addr size = rw e ((flag-sizes s i 1 n o.few l).named addr size)

  order-kept : Change s bit s' → BlocksInOrder s'
  order-kept (leaves z e) = rw e o
  order-kept (raises i l z b e) = rw e (in-order-configured s i 1 o)

  size-kept : Change s bit s' → length s' ≡ state_words
  size-kept (leaves z e) = rw e n
  size-kept (raises i l z b e) = rw e (configured-length s i 1 ∙ n)

  -- a block that is not unconfigured
  flag-kept : Change s bit s' → (k : ℕ) → ((block_at s k).configured ≡ 0 → ⊥) → (block_at s' k).configured ≡ (block_at s k).configured
  flag-kept (leaves z e) k d = rw e
  flag-kept (raises i l z b e) k d = rw e (flag-else s i 1 n o.few l k (λ q. d (rw q z)))

  closed-kept : Change s bit s' → (addr size : ℕ) → Closed s addr size → Closed s' addr size
  closed-kept c addr size d k e z =
      let e' = sym (named-kept c addr size) ∙ e in
      d k e' (sym (flag-kept c k (d k e')) ∙ z)

  status-kept : Change s bit s' → (addr size : ℕ) → Closed s addr size → status_of s' addr size ≡ status_of s addr size
  status-kept c addr size d = ap (status_at s') (named-kept c addr size) ∙ go (named_block s addr size) refl
    where
      go : (x : Option ℕ) → named_block s addr size ≡ x → status_at s' x ≡ status_at s x
      go (Some k) e = unfold status_at in rw (flag-kept c k (d k e))
      go None e = unfold status_at in refl

-- bits above and below one that is raised
bit-other : (w i k : ℕ) → (k ≡ i → ⊥) → bit_at w i ≡ 0 → bit_at (w + 2 ^ i) k ≡ bit_at w k
unfolding bit_at
bit-other w zero zero d e = absurd (d refl)
bit-other w zero (suc k) d e = let q : (w + 2 ^ 0) / 2 ≡ w / 2 = omega arith in rw q
bit-other w (suc i) zero d e = let p : 2 ^ suc i ≡ 2 ^ i * 2 = pow-suc 2 i in omega arith
bit-other w (suc i) (suc k) d e =
    let p : 2 ^ suc i ≡ 2 ^ i * 2 = pow-suc 2 i in
    let q : (w + 2 ^ suc i) / 2 ≡ w / 2 + 2 ^ i = omega arith in
    rw q (bit-other (w / 2) i k (λ x. d (ap suc x)) e)

no-bit : (k : ℕ) → bit_at 0 k ≡ 0
unfolding bit_at
no-bit zero = refl
no-bit (suc k) = no-bit k

-- an unconfigured block has no bit in the mask, which is one of as many bits as there can be blocks
pub record Bits (s : List ℕ) (mask : ℕ) : Type 0 where
  pub within : mask < bits_end
  pub none : (k : ℕ) → (block_at s k).configured ≡ 0 → bit_at mask k ≡ 0

bits-kept : (s : List ℕ) → length s ≡ state_words → BlocksInOrder s → {bit : ℕ} {s' : List ℕ} → Change s bit s' → (mask : ℕ) → Bits s mask → Bits s' (mask + bit)
bits-kept s n o (leaves z e) mask m = rw (z, e, add-zero) m
bits-kept s n o (raises i l z b e) mask m =
    rw (b, e)
    (record {
      within = bit-within mask i most_blocks (m.none i z) (omega (arith, o.few)) m.within;
      none = λ k. go k (eqb k i) refl;
    })
  where
    go : (k : ℕ) → (x : Bool) → eqb k i ≡ x → (block_at (with_configured s i 1) k).configured ≡ 0 → bit_at (mask + 2 ^ i) k ≡ 0
    go k true q y = absurd (omega (arith, rw (eqb-true k i q) at y, flag-now s i 1 n o.few l))
    go k false q y =
        let d = eqb-false k i q in
        bit-other mask i k d (m.none i z) ∙ m.none k (sym (flag-else s i 1 n o.few l k d) ∙ y)

at_same : (i k : ℕ) → ◌≡◌ {A = Option ℕ} (Some i) (Some k) → i ≡ k
at_same i k q = cc

-- A record that names block i, by the cases of the definition.
module _ (s : List ℕ) (i : ℕ) where
  pub unchanged-at : ((block_at s i).configured ≡ 0 → ⊥) → ConfiguresAt s (Some i) (record { result = DR-MEM-RES-NOWORK; bit = 0 }) s
  unfolding configure_at pick one_unchanged
  unchanged-at d = record {
    one = λ mask results. rw (ne_eqb _ _ d, add-zero);
    change = leaves refl refl;
    closes = λ f k q z. d (rw (at_same i k q) z);
  }

  pub configured-at : length s ≡ state_words → BlocksInOrder s → i < blocks_of s → {bit : ℕ} {s' : List ℕ} → (block_at s i).configured ≡ 0 → s' ≡ with_configured s i 1 → bit ≡ 2 ^ i → ConfiguresAt s (Some i) (record { result = DR-MEM-RES-OK; bit = bit }) s'
  unfolding configure_at pick one_configured
  configured-at n o l z e p = record {
    one = λ mask results. rw (eq-eqb _ _ z, e, p);
    change = raises i l z p e;
    closes = λ f k q y. omega (arith, rw (e, ← at_same i k q) at y, flag-now s i 1 n o.few l);
  }

pub unknown-at : (s : List ℕ) → ConfiguresAt s None (record { result = DR-MEM-RES-FAILURE; bit = 0 }) s
unfolding configure_at one_failed
unknown-at s = record { one = λ mask results. rw add-zero; change = leaves refl refl; closes = λ f. absurd (clash true f refl) }

-- One record.
module _ (s : List ℕ) (failed : Bool) (addr size : ℕ) where
  pub failed-one : failed ≡ true → ConfiguresOne s failed addr size (record { result = DR-MEM-RES-FAILURE; bit = 0 }) s
  unfolding configure_one pick one_failed
  failed-one f = record {
    one = λ mask results. rw (f, add-zero);
    change = leaves refl refl;
    closes = λ g. absurd (clash true g refl);
    stops = λ _. (refl, refl);
  }

  pub found-one : length s ≡ state_words → BlocksInOrder s → {r : OneDone} {s' : List ℕ} (x : Option ℕ) → failed ≡ false → named_block s addr size ≡ x → ConfiguresAt s x r s' → ConfiguresOne s failed addr size r s'
  unfolding configure_one pick
  found-one n o x f e a = record {
    one = λ mask results. rw (f, e) (a.one mask results);
    change = a.change;
    closes = λ g i q. a.closes g i (sym e ∙ sym (named-kept s n o a.change addr size) ∙ q);
    stops = λ t. absurd (clash failed f t);
  }

-- After i records: the blocks and the mask, and the records of the reply, each with its block's status by now.
pub record Passed (s b out₀ : List ℕ) (i : ℕ) (t : List ℕ) (mask : ℕ) (failed : Bool) (out : List ℕ) : Type 0 where
  pub size : length t ≡ state_words
  pub blocks : BlocksInOrder t
  pub bits : Bits t mask
  pub same : progress t mask failed (configured_by s b i).results ≡ configured_by s b i
  pub counted : length (configured_by s b i).results ≡ i
  pub closed : failed ≡ false → (k : ℕ) → k < i → Closed t (addr_in b k) (size_in b k)
  pub told : out ≡ sets out₀ reply_header_bytes (joined (record_of t b (configured_by s b i).results) i)

pub passed_none : (s b out : List ℕ) → length s ≡ state_words → BlocksInOrder s → Passed s b out 0 s 0 false out
unfolding configured_by joined
passed_none s b out n o = record {
  size = n;
  blocks = o;
  bits = record { within = none_within most_blocks; none = λ k z. no-bit k };
  same = refl;
  counted = refl;
  closed = λ f k h. absurd (omega arith);
  told = refl;
}

record_same : (s t : List ℕ) (addr size r q : ℕ) → status_of t addr size ≡ status_of s addr size → q ≡ r → result_record t addr size q ≡ result_record s addr size r
unfolding result_record
record_same s t addr size r q e f = rw (e, f)

-- one record more
module _ (s b out₀ : List ℕ) (i : ℕ) {t : List ℕ} {mask : ℕ} {failed : Bool} {out : List ℕ} (p : Passed s b out₀ i t mask failed out) {addr size : ℕ} {r : OneDone} {t' : List ℕ} (a : addr ≡ addr_in b i) (z : size ≡ size_in b i) (w : ConfiguresOne t failed addr size r t') where
  pub mask_fits : mask + r.bit < bits_end
  mask_fits = (bits-kept t p.size p.blocks w.change mask p.bits).within

  pub order-next : BlocksInOrder t'
  order-next = order-kept t p.size p.blocks w.change

  next : progress t' (mask + r.bit) (eqb r.result DR-MEM-RES-FAILURE) ((configured_by s b i).results ++ r.result ∷ []) ≡ configured_by s b (suc i)
  unfolding configured_by
  next = w.one mask (configured_by s b i).results ∙ ap (λ (x : Progress). configure_one x addr size) p.same ∙ rw (a, z)

  results_next : (configured_by s b (suc i)).results ≡ (configured_by s b i).results ++ r.result ∷ []
  results_next = sym (ap (λ (x : Progress). x.results) next)

  -- the status of an earlier record's block stays
  kept : (k : ℕ) → k < i → status_of t' (addr_in b k) (size_in b k) ≡ status_of t (addr_in b k) (size_in b k)
  kept k h = go failed refl
    where
      go : (x : Bool) → failed ≡ x → status_of t' (addr_in b k) (size_in b k) ≡ status_of t (addr_in b k) (size_in b k)
      go true f = rw (w.stops f).0
      go false f = status-kept t p.size p.blocks w.change _ _ (p.closed f k h)

  record-next : (k : ℕ) → k < i → record_of t b (configured_by s b i).results k ≡ record_of t' b (configured_by s b (suc i)).results k
  record-next k h =
      sym (record_same t t' (addr_in b k) (size_in b k) _ _ (kept k h)
      (ap (λ (l : List ℕ). get_or l k 0) results_next ∙ get_or-append (configured_by s b i).results (r.result ∷ []) 0 k (omega (arith, p.counted))))

  closed-next : eqb r.result DR-MEM-RES-FAILURE ≡ false → (k : ℕ) → k < suc i → Closed t' (addr_in b k) (size_in b k)
  closed-next g k h = go failed refl (eqb k i) refl
    where
      go : (x : Bool) → failed ≡ x → (y : Bool) → eqb k i ≡ y → Closed t' (addr_in b k) (size_in b k)
      go true f y q = absurd (clash _ g (w.stops f).1)
      go false f true q = rw (eqb-true k i q, ← a, ← z) (w.closes g)
      go false f false q = closed-kept t p.size p.blocks w.change _ _ (p.closed f k (let d = eqb-false k i q in omega arith))

  told-next : {out' : List ℕ} → out' ≡ sets out (reply_header_bytes + i * result_bytes) (result_record t' addr size r.result) → out' ≡ sets out₀ reply_header_bytes (joined (record_of t' b (configured_by s b (suc i)).results) (i + 1))
  told-next e =
      let f : ℕ → List ℕ = record_of t' b (configured_by s b (suc i)).results in
      let this : result_record t' addr size r.result ≡ f i =
      rw (a, z)
      (ap (result_record t' (addr_in b i) (size_in b i))
      (sym (ap (λ (l : List ℕ). get_or l i 0) results_next ∙ get_or_at (configured_by s b i).results r.result [] 0 i p.counted))) in
      result-more f (λ k. result-length t' (addr_in b k) (size_in b k) (get_or (configured_by s b (suc i)).results k 0)) out₀ i
      (p.told ∙ ap (sets out₀ reply_header_bytes) (joined_same f (record_of t b (configured_by s b i).results) i record-next))
      e this

  pub passed-more : {out' : List ℕ} → out' ≡ sets out (reply_header_bytes + i * result_bytes) (result_record t' addr size r.result) → Passed s b out₀ (i + 1) t' (mask + r.bit) (eqb r.result DR-MEM-RES-FAILURE) out'
  passed-more e =
      let told = told-next e in
      rw (add-one i)
      (record {
        size = size-kept t p.size p.blocks w.change;
        blocks = order-next;
        bits = bits-kept t p.size p.blocks w.change mask p.bits;
        same = ap (λ (l : List ℕ). progress t' (mask + r.bit) (eqb r.result DR-MEM-RES-FAILURE) l) results_next ∙ next;
        counted = rw results_next (length-append (configured_by s b i).results (r.result ∷ []) ∙ rw p.counted (omega arith));
        closed = closed-next;
        told = rw (add-one i) at told;
      })

pub passes : (s b out₀ : List ℕ) (i n : ℕ) {t : List ℕ} {mask : ℕ} {failed : Bool} {out : List ℕ} → i ≤ n → n ≤ i → Passed s b out₀ i t mask failed out → ConfiguresAll s b n out₀ mask t out
passes s b out₀ i n {t} {mask} {failed} {out} l m p =
    let same : i ≡ n = omega arith in
    let q : Passed s b out₀ n t mask failed out = rw same at p in
    record { state = ap (λ (x : Progress). x.state) q.same; mask = ap (λ (x : Progress). x.mask) q.same; told = q.told }

-- CONFIGURE's reply tells the state after it.
module _ (s b out : List ℕ) (c handle request n : ℕ) (few : n ≤ most_records) (room : output_bytes ≤ length out) {mask l : ℕ} {s' out₁ out' : List ℕ} (h : (l ≡ reply_header_bytes + n * result_bytes) × (out₁ ≡ sets out 0 (memory_header handle DR-MEM-OK n request (n * result_bytes)))) (k : ConfiguresAll s b n out₁ mask s' out') where
  replied : Replied (configure_reply (configured_by s b n) handle request b n) out l out'
  unfolding configure_reply
  replied =
      rw (← k.state)
      (results-stored handle request n (record_of s' b (configured_by s b n).results) (λ i. result-length s' (addr_in b i) (size_in b i) (get_or (configured_by s b n).results i 0)) out few room h k.told)

  pub configure-none : {e : Event} → mask ≡ 0 → e ≡ answered_event c memory_service code_none request → Handles (answering_configure (configured_by s b n) c handle request b n) out l e s' out'
  unfolding answering_configure answering
  configure-none m notes =
      rw (pick_true _ _ _ (eq-eqb _ _ (sym k.mask ∙ m)))
      (record { length' = replied.long; notes = notes; state = k.state; output = replied.output })

  pub configure-some : {e : Event} → (mask ≡ 0 → ⊥) → e ≡ configured_event c mask → Handles (answering_configure (configured_by s b n) c handle request b n) out l e s' out'
  unfolding answering_configure
  configure-some m notes =
      rw (pick-false _ _ _ (ne_eqb _ _ (λ z. m (k.mask ∙ z))))
      (record { length' = replied.long; notes = notes ∙ ap (configured_event c) k.mask; state = k.state; output = replied.output })
