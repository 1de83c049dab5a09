-- Each change of the words keeps what a sound state has.
-- Assumes nothing.
use Rattle.std.specs.Prelude.{Option, Some, None}
use mathlib.Core.Path.{◌≡◌, refl, sym, ap, ◌∙◌}
use mathlib.Core.Bool.{Bool, true, false}
use mathlib.Core.List.{List, [], ◌∷◌}
use Prim.Native.Nat.{ℕ, zero, suc, ◌+◌, ◌-◌, ◌*◌, ◌/◌, ◌<◌, ◌≤◌}
use native.Mathlib.Omega.{arith}
use lib.ListN.{length, get_or}
use lib.Dec.{eqb}
use borrow.Author.Tests.{eqb-true, eqb-false, eq-eqb, not-true}
use Rattle.basics.specs.Choice.{pick}
use Rattle.model.specs.declared.Removal.{Removal}
use Rattle.model.specs.Layout.{ready_at, stage_at, handle_at, minor_at, blocks_of, Block, block_at, outstanding_of, word_of, removal_of, with_channel, with_service, with_configured, with_counts, with_removal, without_removal, block_count_word, cancelled_word, channel_count, channel_words, first_block_word, first_handle_word, first_minor_word, first_stage_word, highest_number, last_word, most_blocks, most_held, outstanding_word, place_count, service_count, service_words, state_words, stage_idle, first_numbered_word, last_of, held_of, held_word, with_number, device_count_word, devices_of, first_device_word, first_id_word, ids_of}
use Rattle.model.specs.Devices.{devices_keep}
use Rattle.model.proofs.Devices.{devices-same}
use Rattle.model.specs.Peers.{ids_keep, peers_sound}
use Rattle.model.proofs.Above.{orders-kept}
use Rattle.model.proofs.Peers.{ids-same, peers-same}
use Rattle.model.specs.Blocks.{end_of, block_keeps, end_before, names, named_block}
use Rattle.model.specs.State.{collected_sound, service_sound, room_of, removal_room, orders_sound, sound, room_at}
use Rattle.model.specs.Reading.{flagged}
use Rattle.basics.proofs.Choice.{clash, first-same, first-facts}
use Rattle.model.proofs.Words.{Agree, Arrays, service-frame, service-word, configured-frame, counts-frame, last-counts, held-counts, channel-frame, channel-ready, channel-zero, removal-frame, removal-same, removal-back, head-back, without-frame, number-frame, number-above}
use Rattle.model.proofs.View.{block_same, flag-other, flag-here}
use Rattle.model.proofs.Rules.{Base, Apart, block-rules, block_last, Removes, RemovalFacts, service-idle, Sound, sound-facts, sound-test}

-- a block that a pair names is one of the state's
pub named-less : (s : List ℕ) (addr size i : ℕ) → named_block s addr size ≡ Some i → i < blocks_of s
unfolding named_block
named-less s addr size i e = (first-facts (blocks_of s) _ i e).below

-- Blocks as before.
module _ (s t : List ℕ) (few : blocks_of s ≤ most_blocks) (a : Agree s t block_count_word last_word) where
  pub count_same : blocks_of t ≡ blocks_of s
  count_same = a block_count_word (omega arith) (omega arith)

  pub at_same : (i : ℕ) → i < most_blocks → block_at t i ≡ block_at s i
  at_same i h = block_same s t i h (λ j lo hi. a j (omega arith) hi)

  end_same : (i : ℕ) → i < most_blocks → end_before t first_block_word i ≡ end_before s first_block_word i
  unfolding end_before
  end_same zero h = refl
  end_same (suc i) h = rw (at_same i (omega arith))

  pub block-named : (addr size : ℕ) → named_block t addr size ≡ named_block s addr size
  unfolding named_block
  block-named addr size =
      rw count_same
      (first-same (blocks_of s) (λ i. names addr size (block_at s i)) (λ i. names addr size (block_at t i))
      (λ i h. ap (names addr size) (at_same i (omega (arith, few)))))

  room-same : (addr size : ℕ) → room_of t addr size ≡ room_of s addr size
  room-same addr size = rw (block-named addr size) (go (named_block s addr size) refl)
    where
      go : (x : Option ℕ) → named_block s addr size ≡ x → room_at t x ≡ room_at s x
      go (Some i) e = unfold room_at in rw (at_same i (omega (arith, few, named-less s addr size i e)))
      go None e = unfold room_at in refl

  pub removal-room : (m : Removal) → removal_room t m ≡ removal_room s m
  unfolding removal_room
  removal-room m = rw (room-same (get_or m.address m.position 0) (get_or m.size m.position 0))

-- The base as before but for channels and services.
pub base-make : (s t : List ℕ) (last : ℕ) → Base s last → Agree s t block_count_word last_word → ((c : ℕ) → c < channel_count → ready_at t c ≤ 1) → ((k : ℕ) → k < place_count → service_sound (stage_at t k) (handle_at t k) (minor_at t k) (ready_at t (k / service_count)) last ≡ true) → Apart t → Base t last
base-make s t last b a r v d =
    let n = count_same s t b.few a in
    record {
      few = omega (arith, n, b.few);
      blocks = λ i h. rw (at_same s t b.few a i (omega (arith, b.few)), end_same s t b.few a i (omega (arith, b.few))) (b.blocks i (omega (arith, n)));
      ready = r;
      services = v;
      apart = d;
    }

-- channels and services as before
pub record LowSame (s t : List ℕ) : Type 0 where
  pub ready : (c : ℕ) → c < channel_count → ready_at t c ≡ ready_at s c
  pub stage : (k : ℕ) → k < place_count → stage_at t k ≡ stage_at s k
  pub handle : (k : ℕ) → k < place_count → handle_at t k ≡ handle_at s k
  pub minor : (k : ℕ) → k < place_count → minor_at t k ≡ minor_at s k

low_same : (s t : List ℕ) → Agree s t 0 block_count_word → LowSame s t
low_same s t a = record {
  ready = λ c h. a c (omega arith) (omega arith);
  stage = λ k h. a (first_stage_word + k * service_words) (omega arith) (omega arith);
  handle = λ k h. a (first_handle_word + k * service_words) (omega arith) (omega arith);
  minor = λ k h. a (first_minor_word + k * service_words) (omega arith) (omega arith);
}

module _ (s t : List ℕ) (last : ℕ) (b : Base s last) (f : LowSame s t) where
  ready-kept : (c : ℕ) → c < channel_count → ready_at t c ≤ 1
  ready-kept c h = rw (f.ready c h) (b.ready c h)

  services-kept : (k : ℕ) → k < place_count → service_sound (stage_at t k) (handle_at t k) (minor_at t k) (ready_at t (k / service_count)) last ≡ true
  services-kept k h =
      rw (f.stage k h, f.handle k h, f.minor k h, f.ready (k / service_count) (omega arith)) (b.services k h)

  apart-kept : Apart t
  apart-kept j k l h p q r =
      let g : j < place_count = omega arith in
      b.apart j k l h (λ e. p (f.stage j g ∙ e)) (λ e. q (f.stage k h ∙ e)) (sym (f.handle j g) ∙ r ∙ f.handle k h)

-- all of it as before
pub base_same : (s t : List ℕ) (last : ℕ) → Agree s t 0 last_word → Base s last → Base t last
base_same s t last a b =
    let f = low_same s t (λ j lo hi. a j lo (omega arith)) in
    base-make s t last b (λ j lo hi. a j (omega arith) hi) (ready-kept s t last b f) (services-kept s t last b f) (apart-kept s t last b f)

-- the removal as before
pub removes-same : (s t : List ℕ) (last : ℕ) → blocks_of s ≤ most_blocks → Agree s t block_count_word last_word → Agree s t outstanding_word first_numbered_word → Removes s last → Removes t last
removes-same s t last few a b f o =
    let r = f (rw (b outstanding_word (omega arith) (omega arith)) at o) in
    let m = removal_of s in
    let room : collected_sound m.collected (removal_room t m) ≡ true =
    rw (removal-room s t few a m) r.facts.room in
    record {
      one = b outstanding_word (omega arith) (omega arith) ∙ r.one;
      flag = rw (b cancelled_word (omega arith) (omega arith)) r.flag;
      facts = rw (removal-same s t b) (search);
    }

-- One service changed: it is sound by itself, and its handle is no other service's, or 0.
module _ (s : List ℕ) (last k₀ stage handle minor : ℕ) (size : length s ≡ state_words) (b : Base s last) (kb : k₀ < place_count) where
  served : List ℕ
  served = with_service s k₀ stage handle minor

  off : (j : ℕ) → (first_stage_word + k₀ * service_words ≤ j → j < first_stage_word + service_words + k₀ * service_words → ⊥) → get_or served j 0 ≡ get_or s j 0
  unfolding served
  off j n = service-frame s k₀ stage handle minor j (λ p q. n p (omega arith))

  here : (i : ℕ) → i < service_words → get_or served (first_stage_word + i + k₀ * service_words) 0 ≡ get_or (stage ∷ handle ∷ minor ∷ []) i 0
  unfolding served
  here i h = ap (λ (j : ℕ). get_or (with_service s k₀ stage handle minor) j 0) (omega arith) ∙ service-word s k₀ stage handle minor size kb i h

  other : (k i : ℕ) → i < service_words → (k ≡ k₀ → ⊥) → get_or served (first_stage_word + i + k * service_words) 0 ≡ get_or s (first_stage_word + i + k * service_words) 0
  other k i h n = off (first_stage_word + i + k * service_words) (λ p q. n (omega arith))

  ready-t : (c : ℕ) → c < channel_count → ready_at served c ≡ ready_at s c
  ready-t c h = off c (λ p q. omega arith)

  pub base-service : service_sound stage handle minor (ready_at s (k₀ / service_count)) last ≡ true → ((k : ℕ) → k < place_count → (k ≡ k₀ → ⊥) → (stage_at s k ≡ stage_idle → ⊥) → (stage ≡ stage_idle → ⊥) → handle_at s k ≡ handle → ⊥) → Base (with_service s k₀ stage handle minor) last
  unfolding served
  base-service ok fresh =
      base-make s served last b (λ j lo hi. off j (λ p q. omega arith)) (λ c h. rw (ready-t c h) (b.ready c h)) services apart
    where
      services : (k : ℕ) → k < place_count → service_sound (stage_at served k) (handle_at served k) (minor_at served k) (ready_at served (k / service_count)) last ≡ true
      services k h = go (eqb k k₀) refl
        where
          go : (x : Bool) → eqb k k₀ ≡ x → service_sound (stage_at served k) (handle_at served k) (minor_at served k) (ready_at served (k / service_count)) last ≡ true
          go true z =
              let q = eqb-true k k₀ z in
              rw (q, here 0 (omega arith), here 1 (omega arith), here 2 (omega arith), ready-t (k₀ / service_count) (omega arith)) ok
          go false z =
              let n = eqb-false k k₀ z in
              rw (other k 0 (omega arith) n, other k 1 (omega arith) n, other k 2 (omega arith) n, ready-t (k / service_count) (omega arith))
              (b.services k h)

      -- the changed service against another one
      clear : (k : ℕ) → k < place_count → (k ≡ k₀ → ⊥) → (j : ℕ) → j ≡ k₀ → (stage_at served j ≡ stage_idle → ⊥) → (stage_at served k ≡ stage_idle → ⊥) → handle_at served k ≡ handle_at served j → ⊥
      clear k h n j e p q r =
          fresh k h n
          (λ z. q (other k 0 (omega arith) n ∙ z))
          (λ z. p (ap (λ (x : ℕ). stage_at served x) e ∙ here 0 (omega arith) ∙ z))
          (sym (other k 1 (omega arith) n) ∙ r ∙ ap (λ (x : ℕ). handle_at served x) e ∙ here 1 (omega arith))

      apart : Apart served
      apart j k l h p q r = go (eqb j k₀) refl (eqb k k₀) refl
        where
          go : (x : Bool) → eqb j k₀ ≡ x → (y : Bool) → eqb k k₀ ≡ y → ⊥
          go true x true y = omega (arith, eqb-true j k₀ x, eqb-true k k₀ y)
          go true x false y = clear k h (eqb-false k k₀ y) j (eqb-true j k₀ x) p q (sym r)
          go false x true y = clear j (omega arith) (eqb-false j k₀ x) k (eqb-true k k₀ y) q p r
          go false x false y =
              let m = eqb-false j k₀ x in
              let n = eqb-false k k₀ y in
              b.apart j k l h
              (λ z. p (other j 0 (omega arith) m ∙ z))
              (λ z. q (other k 0 (omega arith) n ∙ z))
              (sym (other j 1 (omega arith) m) ∙ r ∙ other k 1 (omega arith) n)

-- A channel closed or made ready.
module _ (s : List ℕ) (last c on : ℕ) (size : length s ≡ state_words) (b : Base s last) (cb : c < channel_count) (small : on ≤ 1) where
  switched : List ℕ
  switched = with_channel s c on

  gone : (k i : ℕ) → i < service_words → k < place_count → k / service_count ≡ c → get_or switched (first_stage_word + i + k * service_words) 0 ≡ 0
  unfolding switched
  gone k i h g q = ap (λ (j : ℕ). get_or (with_channel s c on) j 0) (omega arith) ∙ channel-zero s c on size cb (i + k * service_words - c * channel_words) (omega arith)

  kept : (k i : ℕ) → i < service_words → k < place_count → (k / service_count ≡ c → ⊥) → get_or switched (first_stage_word + i + k * service_words) 0 ≡ get_or s (first_stage_word + i + k * service_words) 0
  unfolding switched
  kept k i h g n = channel-frame s c on (first_stage_word + i + k * service_words) (λ q. omega arith) (λ p q. n (omega arith)) (omega arith)

  ready-other : (x : ℕ) → x < channel_count → (x ≡ c → ⊥) → ready_at switched x ≡ ready_at s x
  unfolding switched
  ready-other x h n = channel-frame s c on x n (λ p q. omega arith) (omega arith)

  pub base-channel : Base (with_channel s c on) last
  unfolding switched
  base-channel =
      base-make s switched last b (λ j lo hi. channel-frame s c on j (λ q. omega arith) (λ p q. omega arith) (omega arith)) ready services apart
    where
      ready : (x : ℕ) → x < channel_count → ready_at switched x ≤ 1
      ready x h = go (eqb x c) refl
        where
          go : (y : Bool) → eqb x c ≡ y → ready_at switched x ≤ 1
          go true z = let q = eqb-true x c z in rw (q, channel-ready s c on size cb) small
          go false z = rw (ready-other x h (eqb-false x c z)) (b.ready x h)

      services : (k : ℕ) → k < place_count → service_sound (stage_at switched k) (handle_at switched k) (minor_at switched k) (ready_at switched (k / service_count)) last ≡ true
      services k h = go (eqb (k / service_count) c) refl
        where
          go : (y : Bool) → eqb (k / service_count) c ≡ y → service_sound (stage_at switched k) (handle_at switched k) (minor_at switched k) (ready_at switched (k / service_count)) last ≡ true
          go true z =
              let q = eqb-true (k / service_count) c z in
              service-idle _ _ _ _ _ (gone k 0 (omega arith) h q)
          go false z =
              let n = eqb-false (k / service_count) c z in
              rw (kept k 0 (omega arith) h n, kept k 1 (omega arith) h n, kept k 2 (omega arith) h n, ready-other (k / service_count) (omega arith) n)
              (b.services k h)

      apart : Apart switched
      apart j k l h p q r = go (eqb (j / service_count) c) refl (eqb (k / service_count) c) refl
        where
          g : j < place_count
          g = omega arith

          go : (x : Bool) → eqb (j / service_count) c ≡ x → (y : Bool) → eqb (k / service_count) c ≡ y → ⊥
          go x e true z = q (gone k 0 (omega arith) h (eqb-true (k / service_count) c z))
          go true e false z = p (gone j 0 (omega arith) g (eqb-true (j / service_count) c e))
          go false e false z =
              let m = eqb-false (j / service_count) c e in
              let n = eqb-false (k / service_count) c z in
              b.apart j k l h
              (λ y. p (kept j 0 (omega arith) g m ∙ y))
              (λ y. q (kept k 0 (omega arith) h n ∙ y))
              (sym (kept j 1 (omega arith) g m) ∙ r ∙ kept k 1 (omega arith) h n)

-- a block keeps its rules with another flag, if it has no permanent pages or the flag is 1
flag-keeps : (x : Block) (floor flag : ℕ) → flag ≤ 1 → block_keeps x floor ≡ true → ((x.permanent ≡ 0 → ⊥) → flag ≡ 1) → block_keeps (flagged flag x) floor ≡ true
unfolding flagged pick
flag-keeps x floor flag small old perm =
    let r = block-rules x floor old in
    let f = r.0 in
    block_last (flagged flag x) floor (omega arith) ∙ decide (eqb x.permanent 0) refl r.1
  where
    decide : (y : Bool) → eqb x.permanent 0 ≡ y → pick y (eqb x.first 0) (eqb x.configured 1) ≡ true → pick y (eqb x.first 0) (eqb flag 1) ≡ true
    decide true z e = e
    decide false z e = eq-eqb flag 1 (perm (eqb-false _ 0 z))

-- A block's flag changed.
module _ (s : List ℕ) (i flag : ℕ) (size : length s ≡ state_words) (few : blocks_of s ≤ most_blocks) (ib : i < blocks_of s) where
  raised : List ℕ
  raised = with_configured s i flag

  pub by_flag : (P : Block → Type 0) (k : ℕ) → (k ≡ i → P (flagged flag (block_at s i))) → ((k ≡ i → ⊥) → P (block_at s k)) → P (block_at (with_configured s i flag) k)
  by_flag P k f g = go (eqb k i) refl
    where
      go : (x : Bool) → eqb k i ≡ x → P (block_at (with_configured s i flag) k)
      go true z = let q = eqb-true k i z in rw (q, flag-here s i flag size (omega arith)) (f q)
      go false z = let n = eqb-false k i z in rw (flag-other s k i flag n) (g n)

  end-flag : (k : ℕ) → end_before raised first_block_word k ≡ end_before s first_block_word k
  unfolding end_before raised
  end-flag zero = refl
  end-flag (suc k) =
      by_flag (λ x. end_of x ≡ end_of (block_at s k)) k (λ q. unfold flagged in rw q) (λ n. refl)

  pub count-flag : blocks_of (with_configured s i flag) ≡ blocks_of s
  count-flag = configured-frame s i flag block_count_word (λ p q. omega arith)

  pub base-configured : (last : ℕ) → flag ≤ 1 → (((block_at s i).permanent ≡ 0 → ⊥) → flag ≡ 1) → Base s last → Base (with_configured s i flag) last
  unfolding raised
  base-configured last small permanent b =
      let e = configured-frame s i flag in
      let f = low_same s (with_configured s i flag) (λ j lo hi. e j (λ p q. omega arith)) in
      record {
        few = omega (arith, count-flag, few);
        blocks = λ k h. rw (end-flag k) (keeps k (omega (arith, count-flag)));
        ready = ready-kept s (with_configured s i flag) last b f;
        services = services-kept s (with_configured s i flag) last b f;
        apart = apart-kept s (with_configured s i flag) last b f;
      }
    where
      keeps : (k : ℕ) → k < blocks_of s → block_keeps (block_at raised k) (end_before s first_block_word k) ≡ true
      keeps k h = by_flag (λ x. block_keeps x (end_before s first_block_word k) ≡ true) k (λ q. rw q (flag-keeps (block_at s i) (end_before s first_block_word i) flag small (b.blocks i ib) permanent)) (λ n. b.blocks k h)

-- A removal stored.
pub base-removal : (s : List ℕ) (last : ℕ) (m : Removal) → Base s last → Base (with_removal s m) last
base-removal s last m b = base_same s (with_removal s m) last (λ j lo hi. removal-frame s m j (omega arith)) b

pub removes-made : (s : List ℕ) (last : ℕ) (m : Removal) → length s ≡ state_words → blocks_of s ≤ most_blocks → Arrays m → RemovalFacts s last m → Removes (with_removal s m) last
removes-made s last m n few a f o =
    let t = with_removal s m in
    let same = removal-room s t few (λ j lo hi. removal-frame s m j (omega arith)) m in
    let room : collected_sound m.collected (removal_room t m) ≡ true = rw same f.room in
    record {
      one = head-back s m n a 0 (omega arith);
      flag = rw (head-back s m n a 1 (omega arith)) (small m.cancelled);
      facts = rw (removal-back s m n a) (search);
    }
  where
    small : (b : Bool) → word_of b ≤ 1
    small true = omega arith
    small false = omega arith

-- None outstanding.
pub base-without : (s : List ℕ) (last : ℕ) → Base s last → Base (without_removal s) last
base-without s last b = base_same s (without_removal s) last (λ j lo hi. without-frame s j (omega arith)) b

pub removes-none : (s : List ℕ) (last : ℕ) → outstanding_of s ≡ 0 → Removes s last
removes-none s last e o = absurd (clash _ (not-true _ o) (eq-eqb _ 0 e))

-- An entry counted.
pub sound-counted : (s : List ℕ) (last held : ℕ) → length s ≡ state_words → Base s last → Removes s last → devices_keep s first_device_word (devices_of s) ≡ true → orders_sound s ≡ true → ids_keep s first_id_word (ids_of s) ≡ true → ((c : ℕ) → c < channel_count → peers_sound s (ready_at s c) c ≡ true) → 1 ≤ last → last ≤ highest_number → held ≤ most_held → held ≤ last → sound (with_counts s last held) ≡ true
sound-counted s last held n b r d o i v f p q l =
    let t : List ℕ = with_counts s last held in
    let e = counts-frame s last held in
    let x = last-counts s last held n in
    let y = held-counts s last held n in
    sound-test (with_counts s last held)
    (record {
      base = rw x (base-make' e);
      removal = rw x (removes-same s (with_counts s last held) last b.few (λ j lo hi. e j (λ p q. omega arith)) (λ j lo hi. e j (λ p q. omega arith)) r);
      counts = record { some = rw x f; lasts = rw x p; helds = rw y q; numbered = rw (x, y) l };
      devices = devices-same s (with_counts s last held) (λ j lo hi. e j (λ p q. omega arith)) d;
      orders = orders-kept s (with_counts s last held) (λ j lo hi. e j (λ p q. omega arith)) o;
      ids = ids-same s (with_counts s last held) (λ j lo hi. e j (λ p q. omega arith)) i;
      peers = λ c h. rw (e c (λ p q. omega arith)) (peers-same s (with_counts s last held) (λ j lo hi. e j (λ p q. omega arith)) c h (λ j lo hi. e j (λ p q. omega arith)) (ready_at s c) ∙ v c h);
    })
  where
    base-make' : ((j : ℕ) → (last_word ≤ j → j < outstanding_word → ⊥) → get_or (with_counts s last held) j 0 ≡ get_or s j 0) → Base (with_counts s last held) last
    base-make' e = base_same s (with_counts s last held) last (λ j lo hi. e j (λ p q. omega arith)) b

-- Only words of request numbers differ.
pub sound-same : (s t : List ℕ) → Agree s t 0 first_numbered_word → Agree s t device_count_word state_words → Sound s → Sound t
sound-same s t a b f =
    let last : last_of t ≡ last_of s = a last_word (omega arith) (omega arith) in
    let held : held_of t ≡ held_of s = a held_word (omega arith) (omega arith) in
    record {
      base = rw last (base_same s t (last_of s) (λ j lo hi. a j lo (omega arith)) f.base);
      removal = rw last (removes-same s t (last_of s) f.base.few (λ j lo hi. a j (omega arith) (omega arith)) (λ j lo hi. a j (omega arith) hi) f.removal);
      counts = record { some = rw last f.counts.some; lasts = rw last f.counts.lasts; helds = rw held f.counts.helds; numbered = rw (last, held) f.counts.numbered };
      devices = devices-same s t (λ j lo hi. b j lo (omega arith)) f.devices;
      orders = orders-kept s t (λ j lo hi. b j (omega arith) (omega arith)) f.orders;
      ids = ids-same s t (λ j lo hi. b j (omega arith) (omega arith)) f.ids;
      peers = λ c h. rw (a c (omega arith) (omega arith)) (peers-same s t (λ j lo hi. b j (omega arith) (omega arith)) c h (λ j lo hi. b j (omega arith) (omega arith)) (ready_at s c) ∙ f.peers c h);
    }

pub sound-numbers : (s : List ℕ) (c numbered highest : ℕ) → c < channel_count → sound s ≡ true → sound (with_number s c numbered highest) ≡ true
sound-numbers s c numbered highest h e =
    sound-test (with_number s c numbered highest) (sound-same s (with_number s c numbered highest) (number-frame s c numbered highest) (number-above s c numbered highest h) (sound-facts s e))
