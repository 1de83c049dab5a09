-- Changes of the state's words: which words each leaves, and which it gives.
-- Assumes nothing.
use mathlib.Core.Path.{◌≡◌, refl, sym, ◌∙◌}
use mathlib.Core.Bool.{Bool, true, false}
use mathlib.Core.List.{List, [], ◌∷◌}
use Prim.Native.Nat.{ℕ, zero, suc, ◌+◌, ◌-◌, ◌*◌, ◌<◌, ◌≤◌}
use native.Mathlib.Omega.{arith}
use lib.ListN.{length, get_or, set, replicate, length-set, get_or-replicate}
use lib.Seq.{sets, ext_get_or, get_or-set_same, get_or-set_other, length-sets}
use lib.Dec.{ltb}
use borrow.Author.Tests.{ltb-true, ltb-false}
use Rattle.basics.specs.Choice.{tabulate}
use Rattle.model.specs.declared.Removal.{Removal}
use Rattle.model.proofs.Marks.{no-bit, set_same, set_other, cleared-same, cleared-other}
use Rattle.model.specs.Layout.{is_set, word_of, removal_of, removal_head, with_channel, with_service, with_configured, with_counts, with_removal, without_removal, outstanding_of, cancelled_of, block_words, cancelled_word, channel_count, channel_words, collected_word, configured_place, count_word, first_address_word, first_block_word, first_result_word, first_size_word, first_stage_word, held_word, last_word, most_records, outstanding_word, place_count, position_word, removal_channel_word, removal_handle_word, removal_words, request_word, service_words, state_words, head_words, first_numbered_word, number_words, with_number, most_blocks, device_configured_place, device_count_word, device_words, first_device_word, most_devices, with_device, service_count, shutdown_service, first_permission_word, order_word, permission_at, order_of, delay_of, with_permission, with_order, most_ids, mark_words, peer_words, first_peer_word, bit_set, bit_cleared, marks_at, peered_at, peer_handle_at, peer_minor_at, with_peer, without_peer}
use Rattle.basics.proofs.Choice.{tabulate-at, tabulate-length, tabulate-same}

-- A run of stores: before it, after it, outside it, inside it.
pub sets_below : (l v : List ℕ) (at j : ℕ) → j < at → get_or (sets l at v) j 0 ≡ get_or l j 0
sets_below l [] at j h = refl
sets_below l (x ∷ v) at j h =
    sets_below (set l at x) v (suc at) j (omega arith) ∙ get_or-set_other l at j x 0 (λ (e : j ≡ at). omega arith)

pub sets-above : (l v : List ℕ) (at j : ℕ) → at + length v ≤ j → get_or (sets l at v) j 0 ≡ get_or l j 0
sets-above l [] at j h = refl
sets-above l (x ∷ v) at j h =
    sets-above (set l at x) v (suc at) j (omega arith) ∙ get_or-set_other l at j x 0 (λ (e : j ≡ at). omega arith)

pub sets-else : (l v : List ℕ) (at j : ℕ) → (at ≤ j → j < at + length v → ⊥) → get_or (sets l at v) j 0 ≡ get_or l j 0
sets-else l v at j n = go (ltb j at) refl (ltb j (at + length v)) refl
  where
    go : (a : Bool) → ltb j at ≡ a → (b : Bool) → ltb j (at + length v) ≡ b → get_or (sets l at v) j 0 ≡ get_or l j 0
    go true p b q = sets_below l v at j (ltb-true j at p)
    go false p true q = absurd (n (ltb-false j at p) (ltb-true j (at + length v) q))
    go false p false q = sets-above l v at j (ltb-false j (at + length v) q)

pub sets-at : (l v : List ℕ) (at i : ℕ) → i < length v → at + length v ≤ length l → get_or (sets l at v) (at + i) 0 ≡ get_or v i 0
sets-at l [] at i h n = absurd (omega arith)
sets-at l (x ∷ v) at zero h n =
    let e : at + 0 ≡ at = omega arith in
    rw e (sets_below (set l at x) v (suc at) at (omega arith) ∙ get_or-set_same l at x 0 (omega arith))
sets-at l (x ∷ v) at (suc i) h n =
    let e : at + suc i ≡ suc at + i = omega arith in
    rw e (sets-at (set l at x) v (suc at) i (omega arith) (simp length-set (omega arith)))

-- t has the words of s from lo up to hi
abbrev pub Agree : List ℕ → List ℕ → ℕ → ℕ → Type 0
Agree s t lo hi = (j : ℕ) → lo ≤ j → j < hi → get_or t j 0 ≡ get_or s j 0

-- t has the words of s but for n words from at on
abbrev pub Frame : List ℕ → List ℕ → ℕ → ℕ → Type 0
Frame s t at n = (j : ℕ) → (at ≤ j → j < at + n → ⊥) → get_or t j 0 ≡ get_or s j 0

pub service-frame : (s : List ℕ) (k stage handle minor : ℕ) → Frame s (with_service s k stage handle minor) (first_stage_word + k * service_words) service_words
unfolding with_service
service-frame s k stage handle minor j n = sets-else s (stage ∷ handle ∷ minor ∷ []) (first_stage_word + k * service_words) j n

pub service-length : (s : List ℕ) (k stage handle minor : ℕ) → length (with_service s k stage handle minor) ≡ length s
unfolding with_service
service-length s k stage handle minor = length-sets s (first_stage_word + k * service_words) (stage ∷ handle ∷ minor ∷ [])

pub configured-frame : (s : List ℕ) (i flag : ℕ) → Frame s (with_configured s i flag) (first_block_word + i * block_words + configured_place) 1
unfolding with_configured
configured-frame s i flag j n = get_or-set_other s (first_block_word + i * block_words + configured_place) j flag 0 (λ q. n (omega arith) (omega arith))

pub configured-length : (s : List ℕ) (i flag : ℕ) → length (with_configured s i flag) ≡ length s
unfolding with_configured
configured-length s i flag = length-set s (first_block_word + i * block_words + configured_place) flag

pub counts-frame : (s : List ℕ) (last held : ℕ) → Frame s (with_counts s last held) last_word 2
unfolding with_counts
counts-frame s last held j n = sets-else s (last ∷ held ∷ []) last_word j n

pub counts-length : (s : List ℕ) (last held : ℕ) → length (with_counts s last held) ≡ length s
unfolding with_counts
counts-length s last held = length-sets s last_word (last ∷ held ∷ [])

-- a channel's own word, its services' twelve, and the marks of its peer registrations
idled : List ℕ → ℕ → ℕ → List ℕ
idled s c ready = sets (set s c ready) (first_stage_word + c * channel_words) (replicate channel_words 0)

module _ (s : List ℕ) (c ready j : ℕ) where
  idled-else : (j ≡ c → ⊥) → (first_stage_word + c * channel_words ≤ j → j < first_stage_word + channel_words + c * channel_words → ⊥) → get_or (idled s c ready) j 0 ≡ get_or s j 0
  unfolding idled
  idled-else n m =
      sets-else (set s c ready) (replicate channel_words 0) (first_stage_word + c * channel_words) j (λ a b. m a (omega arith))
      ∙ get_or-set_other s c j ready 0 n

  -- below the peers' words, and among them
  pub channel-frame : (j ≡ c → ⊥) → (first_stage_word + c * channel_words ≤ j → j < first_stage_word + channel_words + c * channel_words → ⊥) → j < first_peer_word → get_or (with_channel s c ready) j 0 ≡ get_or s j 0
  unfolding with_channel idled
  channel-frame n m b = get_or-set_other (idled s c ready) (first_peer_word + c * peer_words) j _ 0 (λ q. omega arith) ∙ idled-else n m

  pub channel-peers : c < channel_count → first_peer_word ≤ j → (j ≡ first_peer_word + c * peer_words → ⊥) → get_or (with_channel s c ready) j 0 ≡ get_or s j 0
  unfolding with_channel idled
  channel-peers h b n =
      get_or-set_other (idled s c ready) (first_peer_word + c * peer_words) j _ 0 n
      ∙ idled-else (λ q. omega arith) (λ p q. omega arith)

idled-length : (s : List ℕ) (c ready : ℕ) → length (idled s c ready) ≡ length s
unfolding idled
idled-length s c ready = length-sets (set s c ready) (first_stage_word + c * channel_words) (replicate channel_words 0) ∙ length-set s c ready

pub channel-length : (s : List ℕ) (c ready : ℕ) → length (with_channel s c ready) ≡ length s
unfolding with_channel idled
channel-length s c ready = length-set (idled s c ready) (first_peer_word + c * peer_words) _ ∙ idled-length s c ready

-- an outstanding removal's words
module _ (s : List ℕ) (m : Removal) where
  r1 : List ℕ
  r1 = sets s outstanding_word (removal_head m)

  r2 : List ℕ
  r2 = sets r1 first_address_word m.address

  r3 : List ℕ
  r3 = sets r2 first_size_word m.size

  pub removal-frame : (j : ℕ) → j < outstanding_word → get_or (with_removal s m) j 0 ≡ get_or s j 0
  unfolding with_removal r1 r2 r3
  removal-frame j h =
      sets_below r3 m.result first_result_word j (omega arith)
      ∙ sets_below r2 m.size first_size_word j (omega arith)
      ∙ sets_below r1 m.address first_address_word j (omega arith)
      ∙ sets_below s (removal_head m) outstanding_word j (omega arith)

  pub removal-length : length (with_removal s m) ≡ length s
  unfolding with_removal r1 r2 r3
  removal-length =
      length-sets r3 first_result_word m.result
      ∙ length-sets r2 first_size_word m.size
      ∙ length-sets r1 first_address_word m.address
      ∙ length-sets s outstanding_word (removal_head m)

-- its arrays have sixteen elements
pub record Arrays (m : Removal) : Type 0 where
  pub addresses : length m.address ≡ most_records
  pub sizes : length m.size ≡ most_records
  pub results : length m.result ≡ most_records

flag_word : (b : Bool) → is_set (word_of b) ≡ b
flag_word true = refl
flag_word false = refl

-- sixteen words that stand in the list are those that are loaded
sixteen : (l v : List ℕ) (at : ℕ) → length v ≡ most_records → ((i : ℕ) → i < most_records → get_or l (at + i) 0 ≡ get_or v i 0) → tabulate (λ i. get_or l (at + i) 0) most_records ≡ v
sixteen l v at n h =
    ext_get_or 0 (tabulate (λ i. get_or l (at + i) 0) most_records) v (tabulate-length _ most_records ∙ sym n)
    (λ i k.
    let k16 : i < most_records = omega (arith, tabulate-length (λ (i : ℕ). get_or l (at + i) 0) most_records) in
    tabulate-at (λ (i : ℕ). get_or l (at + i) 0) most_records i 0 k16 ∙ h i k16)

-- what is stored is what is loaded
module _ (s : List ℕ) (m : Removal) (n : length s ≡ state_words) (a : Arrays m) where
  q1 : length (r1 s m) ≡ state_words
  unfolding r1
  q1 = length-sets s outstanding_word (removal_head m) ∙ n

  q2 : length (r2 s m) ≡ state_words
  unfolding r2
  q2 = length-sets (r1 s m) first_address_word m.address ∙ q1

  q3 : length (r3 s m) ≡ state_words
  unfolding r3
  q3 = length-sets (r2 s m) first_size_word m.size ∙ q2

  pub removal-above : (j : ℕ) → first_numbered_word ≤ j → get_or (with_removal s m) j 0 ≡ get_or s j 0
  unfolding with_removal r1 r2 r3
  removal-above j h =
      sets-above (r3 s m) m.result first_result_word j (omega (arith, a.results))
      ∙ sets-above (r2 s m) m.size first_size_word j (omega (arith, a.sizes))
      ∙ sets-above (r1 s m) m.address first_address_word j (omega (arith, a.addresses))
      ∙ sets-above s (removal_head m) outstanding_word j (omega arith)

  pub head-back : (i : ℕ) → i < head_words → get_or (with_removal s m) (outstanding_word + i) 0 ≡ get_or (removal_head m) i 0
  unfolding with_removal r1 r2 r3
  head-back i h =
      sets_below (r3 s m) m.result first_result_word (outstanding_word + i) (omega arith)
      ∙ sets_below (r2 s m) m.size first_size_word (outstanding_word + i) (omega arith)
      ∙ sets_below (r1 s m) m.address first_address_word (outstanding_word + i) (omega arith)
      ∙ sets-at s (removal_head m) outstanding_word i h (omega arith)

  address-back : (i : ℕ) → i < most_records → get_or (with_removal s m) (first_address_word + i) 0 ≡ get_or m.address i 0
  unfolding with_removal r2 r3 r1
  address-back i h =
      sets_below (r3 s m) m.result first_result_word (first_address_word + i) (omega arith)
      ∙ sets_below (r2 s m) m.size first_size_word (first_address_word + i) (omega arith)
      ∙ sets-at (r1 s m) m.address first_address_word i (omega (arith, a.addresses)) (omega (arith, a.addresses, q1))

  size_back : (i : ℕ) → i < most_records → get_or (with_removal s m) (first_size_word + i) 0 ≡ get_or m.size i 0
  unfolding with_removal r2 r3 r1
  size_back i h =
      sets_below (r3 s m) m.result first_result_word (first_size_word + i) (omega arith)
      ∙ sets-at (r2 s m) m.size first_size_word i (omega (arith, a.sizes)) (omega (arith, a.sizes, q2))

  result-back : (i : ℕ) → i < most_records → get_or (with_removal s m) (first_result_word + i) 0 ≡ get_or m.result i 0
  unfolding with_removal r2 r3 r1
  result-back i h =
      sets-at (r3 s m) m.result first_result_word i (omega (arith, a.results)) (omega (arith, a.results, q3))

  pub removal-back : removal_of (with_removal s m) ≡ m
  unfolding removal_of
  removal-back =
      rw (
        sixteen (with_removal s m) m.address first_address_word a.addresses address-back,
        sixteen (with_removal s m) m.size first_size_word a.sizes size_back,
        sixteen (with_removal s m) m.result first_result_word a.results result-back,
        head-back 1 (omega arith),
        head-back 2 (omega arith),
        head-back 3 (omega arith),
        head-back 4 (omega arith),
        head-back 5 (omega arith),
        head-back 6 (omega arith),
        head-back 7 (omega arith),
        flag_word m.cancelled,
      )

  -- words that have what is stored, and elsewhere what was there
  pub removal-words : (t : List ℕ) → length t ≡ state_words → ((j : ℕ) → j < outstanding_word → get_or t j 0 ≡ get_or s j 0) → ((i : ℕ) → i < head_words → get_or t (outstanding_word + i) 0 ≡ get_or (removal_head m) i 0) → ((i : ℕ) → i < most_records → get_or t (first_address_word + i) 0 ≡ get_or m.address i 0) → ((i : ℕ) → i < most_records → get_or t (first_size_word + i) 0 ≡ get_or m.size i 0) → ((i : ℕ) → i < most_records → get_or t (first_result_word + i) 0 ≡ get_or m.result i 0) → ((j : ℕ) → first_numbered_word ≤ j → get_or t j 0 ≡ get_or s j 0) → with_removal s m ≡ t
  removal-words t z low head addresses sizes results high =
      ext_get_or 0 (with_removal s m) t (removal-length s m ∙ n ∙ sym z)
      (λ j h. go j (ltb j outstanding_word) refl (ltb j first_address_word) refl (ltb j first_size_word) refl (ltb j first_result_word) refl (ltb j first_numbered_word) refl)
    where
      at : (k i j : ℕ) → k + i ≡ j → get_or (with_removal s m) (k + i) 0 ≡ get_or t (k + i) 0 → get_or (with_removal s m) j 0 ≡ get_or t j 0
      at k i j e p = rw e at p

      go : (j : ℕ) → (p : Bool) → ltb j outstanding_word ≡ p → (q : Bool) → ltb j first_address_word ≡ q → (r : Bool) → ltb j first_size_word ≡ r → (v : Bool) → ltb j first_result_word ≡ v → (u : Bool) → ltb j first_numbered_word ≡ u → get_or (with_removal s m) j 0 ≡ get_or t j 0
      go j true p q q' r r' v v' u u' = removal-frame s m j (ltb-true j outstanding_word p) ∙ sym (low j (ltb-true j outstanding_word p))
      go j false p true q' r r' v v' u u' =
          let lo = ltb-false j outstanding_word p in
          let hi = ltb-true j first_address_word q' in
          at outstanding_word (j - outstanding_word) j (omega arith) (head-back (j - outstanding_word) (omega arith) ∙ sym (head (j - outstanding_word) (omega arith)))
      go j false p false q' true r' v v' u u' =
          let lo = ltb-false j first_address_word q' in
          let hi = ltb-true j first_size_word r' in
          at first_address_word (j - first_address_word) j (omega arith) (address-back (j - first_address_word) (omega arith) ∙ sym (addresses (j - first_address_word) (omega arith)))
      go j false p false q' false r' true v' u u' =
          let lo = ltb-false j first_size_word r' in
          let hi = ltb-true j first_result_word v' in
          at first_size_word (j - first_size_word) j (omega arith) (size_back (j - first_size_word) (omega arith) ∙ sym (sizes (j - first_size_word) (omega arith)))
      go j false p false q' false r' false v' true u' =
          let lo = ltb-false j first_result_word v' in
          let hi = ltb-true j first_numbered_word u' in
          at first_result_word (j - first_result_word) j (omega arith) (result-back (j - first_result_word) (omega arith) ∙ sym (results (j - first_result_word) (omega arith)))
      go j false p false q' false r' false v' false u' = removal-above j (ltb-false j first_numbered_word u') ∙ sym (high j (ltb-false j first_numbered_word u'))

-- what is loaded has arrays of sixteen
pub loaded-arrays : (s : List ℕ) → Arrays (removal_of s)
unfolding removal_of
loaded-arrays s = record {
  addresses = tabulate-length (λ (i : ℕ). get_or s (first_address_word + i) 0) most_records;
  sizes = tabulate-length (λ (i : ℕ). get_or s (first_size_word + i) 0) most_records;
  results = tabulate-length (λ (i : ℕ). get_or s (first_result_word + i) 0) most_records;
}

-- storing what was loaded changes nothing
module _ (s : List ℕ) (n : length s ≡ state_words) (one : outstanding_of s ≡ 1) (flag : cancelled_of s ≤ 1) where
  word-flag : (x : ℕ) → x ≤ 1 → word_of (is_set x) ≡ x
  word-flag zero h = refl
  word-flag (suc zero) h = refl
  word-flag (suc (suc x)) h = absurd (omega arith)

  pub head-same : (i : ℕ) → i < head_words → get_or (removal_head (removal_of s)) i 0 ≡ get_or s (outstanding_word + i) 0
  unfolding removal_of
  head-same zero h = sym one
  head-same (suc zero) h = word-flag (get_or s cancelled_word 0) flag
  head-same (suc (suc zero)) h = refl
  head-same (suc (suc (suc zero))) h = refl
  head-same (suc (suc (suc (suc zero)))) h = refl
  head-same (suc (suc (suc (suc (suc zero))))) h = refl
  head-same (suc (suc (suc (suc (suc (suc zero)))))) h = refl
  head-same (suc (suc (suc (suc (suc (suc (suc zero))))))) h = refl
  head-same (suc (suc (suc (suc (suc (suc (suc (suc i)))))))) h = absurd (omega arith)

  -- word i of sixteen from at on
  pub sixteen-same : (at i : ℕ) → i < most_records → get_or (tabulate (λ (i : ℕ). get_or s (at + i) 0) most_records) i 0 ≡ get_or s (at + i) 0
  sixteen-same at i h = tabulate-at (λ (i : ℕ). get_or s (at + i) 0) most_records i 0 h

  pub removal-again : with_removal s (removal_of s) ≡ s
  removal-again =
      removal-words s (removal_of s) n (loaded-arrays s) s n (λ j h. refl) (λ i h. sym (head-same i h))
      (λ i h. sym (unfold removal_of in (sixteen-same first_address_word i h)))
      (λ i h. sym (unfold removal_of in (sixteen-same first_size_word i h)))
      (λ i h. sym (unfold removal_of in (sixteen-same first_result_word i h)))
      (λ j h. refl)

-- equal words are the same removal
pub removal-same : (s t : List ℕ) → Agree s t outstanding_word first_numbered_word → removal_of t ≡ removal_of s
unfolding removal_of
removal-same s t a =
    rw (
      a cancelled_word (omega arith) (omega arith),
      a removal_channel_word (omega arith) (omega arith),
      a removal_handle_word (omega arith) (omega arith),
      a request_word (omega arith) (omega arith),
      a count_word (omega arith) (omega arith),
      a position_word (omega arith) (omega arith),
      a collected_word (omega arith) (omega arith),
      tabulate-same (λ i. get_or s (first_address_word + i) 0) (λ i. get_or t (first_address_word + i) 0) most_records 0 (λ i h. a (first_address_word + i) (omega arith) (omega arith)),
      tabulate-same (λ i. get_or s (first_size_word + i) 0) (λ i. get_or t (first_size_word + i) 0) most_records 0 (λ i h. a (first_size_word + i) (omega arith) (omega arith)),
      tabulate-same (λ i. get_or s (first_result_word + i) 0) (λ i. get_or t (first_result_word + i) 0) most_records 0 (λ i h. a (first_result_word + i) (omega arith) (omega arith)),
    )

-- no removal
pub without-frame : (s : List ℕ) (j : ℕ) → j < outstanding_word → get_or (without_removal s) j 0 ≡ get_or s j 0
unfolding without_removal
without-frame s j h = sets_below s (replicate removal_words 0) outstanding_word j h

pub without-length : (s : List ℕ) → length (without_removal s) ≡ length s
unfolding without_removal
without-length s = length-sets s outstanding_word (replicate removal_words 0)

pub without-outstanding : (s : List ℕ) → length s ≡ state_words → outstanding_of (without_removal s) ≡ 0
unfolding without_removal
without-outstanding s n = sets-at s (replicate removal_words 0) outstanding_word 0 (omega arith) (omega arith)

-- a service's words, and the counts, as they then are
module _ (s : List ℕ) (k stage handle minor : ℕ) (n : length s ≡ state_words) (b : k < place_count) where
  pub service-word : (i : ℕ) → i < service_words → get_or (with_service s k stage handle minor) (first_stage_word + k * service_words + i) 0 ≡ get_or (stage ∷ handle ∷ minor ∷ []) i 0
  unfolding with_service
  service-word i h = sets-at s (stage ∷ handle ∷ minor ∷ []) (first_stage_word + k * service_words) i h (omega arith)

module _ (s : List ℕ) (last held : ℕ) (n : length s ≡ state_words) where
  pub last-counts : get_or (with_counts s last held) last_word 0 ≡ last
  unfolding with_counts
  last-counts = sets-at s (last ∷ held ∷ []) last_word 0 (omega arith) (omega arith)

  pub held-counts : get_or (with_counts s last held) held_word 0 ≡ held
  unfolding with_counts
  held-counts = sets-at s (last ∷ held ∷ []) last_word 1 (omega arith) (omega arith)

-- a channel's words as they then are
module _ (s : List ℕ) (c ready : ℕ) (n : length s ≡ state_words) (b : c < channel_count) where
  pub channel-ready : get_or (with_channel s c ready) c 0 ≡ ready
  unfolding with_channel idled
  channel-ready =
      get_or-set_other (idled s c ready) (first_peer_word + c * peer_words) c _ 0 (λ q. omega arith)
      ∙ sets_below (set s c ready) (replicate channel_words 0) (first_stage_word + c * channel_words) c (omega arith) ∙ get_or-set_same s c ready 0 (omega arith)

  pub channel-zero : (i : ℕ) → i < channel_words → get_or (with_channel s c ready) (first_stage_word + c * channel_words + i) 0 ≡ 0
  unfolding with_channel idled
  channel-zero i h =
      get_or-set_other (idled s c ready) (first_peer_word + c * peer_words) (first_stage_word + c * channel_words + i) _ 0 (λ q. omega arith)
      ∙ sets-at (set s c ready) (replicate channel_words 0) (first_stage_word + c * channel_words) i (omega arith) (omega (arith, length-set s c ready))
      ∙ get_or-replicate channel_words i 0 0 h

-- the marks of its peers
pub channel-unpeered : (s : List ℕ) (c ready : ℕ) → length s ≡ state_words → c < channel_count → (p : ℕ) → p < most_ids → peered_at (with_channel s c ready) c p ≡ 0
unfolding with_channel idled
channel-unpeered s c ready n b p h =
    rw (get_or-set_same (idled s c ready) (first_peer_word + c * peer_words) 0 0 (omega (arith, idled-length s c ready))) (no-bit p)

pub configured-word : (s : List ℕ) (i flag : ℕ) → length s ≡ state_words → i < most_blocks → get_or (with_configured s i flag) (first_block_word + i * block_words + configured_place) 0 ≡ flag
unfolding with_configured
configured-word s i flag n h = get_or-set_same s (first_block_word + i * block_words + configured_place) flag 0 (omega arith)

-- the words of request numbers stand after all others
pub number-frame : (s : List ℕ) (c numbered highest : ℕ) → Agree s (with_number s c numbered highest) 0 first_numbered_word
unfolding with_number
number-frame s c numbered highest j lo hi = sets_below s (numbered ∷ highest ∷ []) (first_numbered_word + c * number_words) j (omega arith)

pub number-length : (s : List ℕ) (c numbered highest : ℕ) → length (with_number s c numbered highest) ≡ length s
unfolding with_number
number-length s c numbered highest = length-sets s (first_numbered_word + c * number_words) (numbered ∷ highest ∷ [])

pub number-above : (s : List ℕ) (c numbered highest : ℕ) → c < channel_count → Agree s (with_number s c numbered highest) device_count_word state_words
unfolding with_number
number-above s c numbered highest h j lo hi = sets-above s (numbered ∷ highest ∷ []) (first_numbered_word + c * number_words) j (omega arith)

pub without-above : (s : List ℕ) (j : ℕ) → first_numbered_word ≤ j → get_or (without_removal s) j 0 ≡ get_or s j 0
unfolding without_removal
without-above s j h = sets-above s (replicate removal_words 0) outstanding_word j h

-- a device's flag
pub device-frame : (s : List ℕ) (i flag : ℕ) → Frame s (with_device s i flag) (first_device_word + i * device_words + device_configured_place) 1
unfolding with_device
device-frame s i flag j n = get_or-set_other s (first_device_word + i * device_words + device_configured_place) j flag 0 (λ q. n (omega arith) (omega arith))

pub device-length : (s : List ℕ) (i flag : ℕ) → length (with_device s i flag) ≡ length s
unfolding with_device
device-length s i flag = length-set s (first_device_word + i * device_words + device_configured_place) flag

pub device-word : (s : List ℕ) (i flag : ℕ) → length s ≡ state_words → i < most_devices → get_or (with_device s i flag) (first_device_word + i * device_words + device_configured_place) 0 ≡ flag
unfolding with_device
device-word s i flag n h = get_or-set_same s (first_device_word + i * device_words + device_configured_place) flag 0 (omega arith)

-- a permission, and the order
pub permission-frame : (s : List ℕ) (v permitted j : ℕ) → (j ≡ first_permission_word + (v - shutdown_service) → ⊥) → get_or (with_permission s v permitted) j 0 ≡ get_or s j 0
unfolding with_permission
permission-frame s v permitted j n = get_or-set_other s (first_permission_word + (v - shutdown_service)) j permitted 0 n

pub permission-length : (s : List ℕ) (v permitted : ℕ) → length (with_permission s v permitted) ≡ length s
unfolding with_permission
permission-length s v permitted = length-set s (first_permission_word + (v - shutdown_service)) permitted

pub permission-word : (s : List ℕ) (v permitted : ℕ) → length s ≡ state_words → v < service_count → permission_at (with_permission s v permitted) v ≡ permitted
unfolding with_permission
permission-word s v permitted n h = get_or-set_same s (first_permission_word + (v - shutdown_service)) permitted 0 (omega arith)

pub order-frame : (s : List ℕ) (order delay : ℕ) → Frame s (with_order s order delay) order_word 2
unfolding with_order
order-frame s order delay j n = sets-else s (order ∷ delay ∷ []) order_word j n

pub order-length : (s : List ℕ) (order delay : ℕ) → length (with_order s order delay) ≡ length s
unfolding with_order
order-length s order delay = length-sets s order_word (order ∷ delay ∷ [])

module _ (s : List ℕ) (order delay : ℕ) (n : length s ≡ state_words) where
  pub order-word : order_of (with_order s order delay) ≡ order
  unfolding with_order
  order-word = sets-at s (order ∷ delay ∷ []) order_word 0 (omega arith) (omega arith)

  pub delay-word : delay_of (with_order s order delay) ≡ delay
  unfolding with_order
  delay-word = sets-at s (order ∷ delay ∷ []) order_word 1 (omega arith) (omega arith)

-- a peer registration made, and ended
module _ (s : List ℕ) (c p handle minor : ℕ) where
  marked : List ℕ
  marked = set s (first_peer_word + c * peer_words) (bit_set (marks_at s c) p)

  handled : List ℕ
  handled = set marked (first_peer_word + c * peer_words + mark_words + p) handle

  pub peer-frame : (j : ℕ) → (j ≡ first_peer_word + c * peer_words → ⊥) → (j ≡ first_peer_word + c * peer_words + mark_words + p → ⊥) → (j ≡ first_peer_word + c * peer_words + mark_words + most_ids + p → ⊥) → get_or (with_peer s c p handle minor) j 0 ≡ get_or s j 0
  unfolding with_peer marked handled
  peer-frame j n m o =
      get_or-set_other handled (first_peer_word + c * peer_words + mark_words + most_ids + p) j minor 0 o
      ∙ get_or-set_other marked (first_peer_word + c * peer_words + mark_words + p) j handle 0 m
      ∙ get_or-set_other s (first_peer_word + c * peer_words) j (bit_set (marks_at s c) p) 0 n

  pub peer-length : length (with_peer s c p handle minor) ≡ length s
  unfolding with_peer marked handled
  peer-length =
      length-set handled (first_peer_word + c * peer_words + mark_words + most_ids + p) minor
      ∙ length-set marked (first_peer_word + c * peer_words + mark_words + p) handle
      ∙ length-set s (first_peer_word + c * peer_words) (bit_set (marks_at s c) p)

pub unpeer-frame : (s : List ℕ) (c p j : ℕ) → (j ≡ first_peer_word + c * peer_words → ⊥) → get_or (without_peer s c p) j 0 ≡ get_or s j 0
unfolding without_peer
unpeer-frame s c p j n = get_or-set_other s (first_peer_word + c * peer_words) j (bit_cleared (marks_at s c) p) 0 n

pub unpeer-length : (s : List ℕ) (c p : ℕ) → length (without_peer s c p) ≡ length s
unfolding without_peer
unpeer-length s c p = length-set s (first_peer_word + c * peer_words) (bit_cleared (marks_at s c) p)

module _ (s : List ℕ) (c p handle minor : ℕ) (n : length s ≡ state_words) (h : c < channel_count) (l : p < most_ids) where
  marks-made : marks_at (with_peer s c p handle minor) c ≡ bit_set (marks_at s c) p
  unfolding with_peer marked handled
  marks-made =
      get_or-set_other (handled s c p handle minor) (first_peer_word + c * peer_words + mark_words + most_ids + p) (first_peer_word + c * peer_words) minor 0 (λ q. omega arith)
      ∙ get_or-set_other (marked s c p handle minor) (first_peer_word + c * peer_words + mark_words + p) (first_peer_word + c * peer_words) handle 0 (λ q. omega arith)
      ∙ get_or-set_same s (first_peer_word + c * peer_words) (bit_set (marks_at s c) p) 0 (omega arith)

  pub peer-mark : peered_at (with_peer s c p handle minor) c p ≡ 1
  peer-mark = rw marks-made (set_same (marks_at s c) p)

  pub peer-mark-other : (q : ℕ) → (q ≡ p → ⊥) → peered_at (with_peer s c p handle minor) c q ≡ peered_at s c q
  peer-mark-other q o = rw marks-made (set_other (marks_at s c) p q o)

  pub peer-handle : peer_handle_at (with_peer s c p handle minor) c p ≡ handle
  unfolding with_peer marked handled
  peer-handle =
      get_or-set_other (handled s c p handle minor) (first_peer_word + c * peer_words + mark_words + most_ids + p) (first_peer_word + c * peer_words + mark_words + p) minor 0 (λ q. omega arith)
      ∙ get_or-set_same (marked s c p handle minor) (first_peer_word + c * peer_words + mark_words + p) handle 0 (omega (arith, length-set s (first_peer_word + c * peer_words) (bit_set (marks_at s c) p)))

  pub peer-minor : peer_minor_at (with_peer s c p handle minor) c p ≡ minor
  unfolding with_peer marked handled
  peer-minor =
      get_or-set_same (handled s c p handle minor) (first_peer_word + c * peer_words + mark_words + most_ids + p) minor 0
      (omega (arith, length-set s (first_peer_word + c * peer_words) (bit_set (marks_at s c) p), length-set (marked s c p handle minor) (first_peer_word + c * peer_words + mark_words + p) handle))

  marks-left : marks_at (without_peer s c p) c ≡ bit_cleared (marks_at s c) p
  unfolding without_peer
  marks-left = get_or-set_same s (first_peer_word + c * peer_words) (bit_cleared (marks_at s c) p) 0 (omega arith)

  pub unpeer-mark : peered_at (without_peer s c p) c p ≡ 0
  unpeer-mark = rw marks-left (cleared-same (marks_at s c) p)

  pub unpeer-mark-other : (q : ℕ) → (q ≡ p → ⊥) → peered_at (without_peer s c p) c q ≡ peered_at s c q
  unpeer-mark-other q o = rw marks-left (cleared-other (marks_at s c) p q o)
