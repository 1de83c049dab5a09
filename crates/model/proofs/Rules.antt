-- What the tests of a sound state mean, as facts, and back.
-- Assumes nothing.
use mathlib.Core.Path.{◌≡◌, refl, sym, ap, ◌∙◌}
use mathlib.Core.Bool.{Bool, true, false, not}
use mathlib.Core.List.{List, [], ◌∷◌}
use Prim.Native.Nat.{ℕ, ◌+◌, ◌/◌, ◌%◌, ◌<◌, ◌≤◌}
use native.Mathlib.Omega.{arith}
use lib.ListN.{length}
use lib.Dec.{leb, eqb}
use borrow.Author.Tests.{not-true, leb-true, ltb-true, eqb-true, eqb-false, le-leb, lt-ltb, eq-eqb, ne_eqb}
use Rattle.basics.specs.Choice.{pick, ◌and◌, ◌or◌, every}
use Rattle.model.specs.declared.Removal.{Removal}
use Rattle.model.specs.Layout.{ready_at, stage_at, handle_at, minor_at, blocks_of, Block, block_at, last_of, held_of, outstanding_of, cancelled_of, is_set, removal_of, channel_count, first_block_word, highest_minor, highest_number, most_blocks, most_held, most_records, place_count, service_count, stage_idle, stage_offered, stage_registered, state_words, first_device_word, devices_of, first_id_word, ids_of}
use Rattle.model.specs.Peers.{ids_keep, peers_sound}
use Rattle.model.specs.Devices.{devices_keep}
use Rattle.model.specs.Blocks.{end_of, block_keeps, end_before, blocks_keep, highest_end, most_pages, page_size}
use Rattle.model.specs.State.{service_sound, service_sound_at, handle_apart, removal_room, collected_sound, results_sound, removal_sound, outstanding_sound, orders_sound, sound, is_ours, our_handle}
use Rattle.basics.proofs.Choice.{clash, both, each_of, join, all-of, every-at, every-make}

-- The handles that are ours.
pub record Ours (first last handle : ℕ) : Type 0 where
  pub least : our_handle first ≤ handle
  pub most : handle ≤ our_handle last

module _ (first last handle : ℕ) where
  pub ours-facts : is_ours first last handle ≡ true → Ours first last handle
  unfolding is_ours
  ours-facts e = let p = both _ _ e in record { least = leb-true _ _ p.0; most = leb-true _ _ p.1 }

  pub ours-test : Ours first last handle → is_ours first last handle ≡ true
  unfolding is_ours
  ours-test o = join _ _ (le-leb _ _ o.least) (le-leb _ _ o.most)

pub ours-later : (first last last' handle : ℕ) → last ≤ last' → Ours first last handle → Ours first last' handle
ours-later first last last' handle le o = record { least = o.least; most = omega (arith, o.most) }

-- A live service.
pub record Live (stage handle ready last : ℕ) : Type 0 where
  pub stages : stage ≤ stage_registered
  pub is_ready : ready ≡ 1
  pub ours : Ours 1 last handle

module _ (stage handle minor ready last : ℕ) where
  pub service-idle : stage ≡ stage_idle → service_sound stage handle minor ready last ≡ true
  unfolding service_sound ◌or◌
  service-idle e = rw (eq-eqb stage stage_idle e)

  pub live-rules : (stage ≡ stage_idle → ⊥) → service_sound stage handle minor ready last ≡ true → Live stage handle ready last
  unfolding service_sound ◌or◌
  live-rules n t =
      let h = each_of (_ ∷ _ ∷ _ ∷ _ ∷ []) (rw (ne_eqb stage stage_idle n) at t) in
      search (arith, ours-facts, leb-true, eqb-true)

  -- where those hold, the minor decides
  pub live-last : (stage ≡ stage_idle → ⊥) → Live stage handle ready last → service_sound stage handle minor ready last ≡ (eqb stage stage_offered or leb minor highest_minor)
  unfolding service_sound ◌and◌ ◌or◌
  live-last n r =
      rw (
        ne_eqb stage stage_idle n,
        le-leb _ _ r.stages,
        eq-eqb _ _ r.is_ready,
        ours-test 1 last handle r.ours,
      )

-- a service is as sound with a later last number
pub service-later : (stage handle minor ready last last' : ℕ) → last ≤ last' → service_sound stage handle minor ready last ≡ true → service_sound stage handle minor ready last' ≡ true
service-later g h m r l l' le e = go (eqb g stage_idle) refl
  where
    go : (b : Bool) → eqb g stage_idle ≡ b → service_sound g h m r l' ≡ true
    go true z = service-idle g h m r l' (eqb-true g stage_idle z)
    go false z =
        let q = eqb-false g stage_idle z in
        let v = live-rules g h m r l q e in
        live-last g h m r l' q
        (record { stages = v.stages; is_ready = v.is_ready; ours = ours-later 1 l l' h le v.ours })
        ∙ sym (live-last g h m r l q v)
        ∙ e

-- The rules of a block that are of numbers.
pub record Keeps (b : Block) (floor : ℕ) : Type 0 where
  pub aligned : b.base % page_size ≡ 0
  pub some : 1 ≤ b.pages
  pub few : b.pages ≤ most_pages
  pub below : end_of b ≤ highest_end
  pub above : floor ≤ b.base
  pub within : b.first + b.permanent ≤ b.pages
  pub flag : b.configured ≤ 1

module _ (b : Block) (floor : ℕ) where
  pub block-rules : block_keeps b floor ≡ true → Keeps b floor × (pick (eqb b.permanent 0) (eqb b.first 0) (eqb b.configured 1) ≡ true)
  unfolding block_keeps
  block-rules t = let h = each_of (_ ∷ _ ∷ _ ∷ _ ∷ _ ∷ _ ∷ _ ∷ _ ∷ []) t in (omega (arith, eqb-true, leb-true), cc)

  -- where those hold, the last rule decides
  pub block_last : Keeps b floor → block_keeps b floor ≡ pick (eqb b.permanent 0) (eqb b.first 0) (eqb b.configured 1)
  unfolding block_keeps ◌and◌
  block_last r =
      rw (
        eq-eqb _ _ r.aligned,
        le-leb _ _ r.some,
        le-leb _ _ r.few,
        le-leb _ _ r.below,
        le-leb _ _ r.above,
        le-leb _ _ r.within,
        le-leb _ _ r.flag,
      )

-- "live handles differ"
abbrev pub Apart : List ℕ → Type 0
Apart s =
    (j k : ℕ) →
    j < k →
    k < place_count →
    (stage_at s j ≡ stage_idle → ⊥) →
    (stage_at s k ≡ stage_idle → ⊥) →
    handle_at s j ≡ handle_at s k →
    ⊥

-- All of a sound state but its counts and its removal, for a last number that may be later than the state's own.
pub record Base (s : List ℕ) (last : ℕ) : Type 0 where
  pub few : blocks_of s ≤ most_blocks
  pub blocks : (i : ℕ) → i < blocks_of s → block_keeps (block_at s i) (end_before s first_block_word i) ≡ true
  pub ready : (c : ℕ) → c < channel_count → ready_at s c ≤ 1
  pub services : (k : ℕ) → k < place_count → service_sound (stage_at s k) (handle_at s k) (minor_at s k) (ready_at s (k / service_count)) last ≡ true
  pub apart : Apart s

-- The facts of a removal.
pub record RemovalFacts (s : List ℕ) (last : ℕ) (m : Removal) : Type 0 where
  pub channels : m.channel < channel_count
  pub handles : Ours 0 last m.handle
  pub some : 1 ≤ m.count
  pub few : m.count ≤ most_records
  pub within : m.position ≤ m.count
  pub room : collected_sound m.collected (removal_room s m) ≡ true
  pub results : results_sound m ≡ true

pub record Outstanding (s : List ℕ) (last : ℕ) : Type 0 where
  pub one : outstanding_of s ≡ 1
  pub flag : cancelled_of s ≤ 1
  pub facts : RemovalFacts s last (removal_of s)

-- a removal, if one is outstanding, keeps its rules
abbrev pub Removes : List ℕ → ℕ → Type 0
Removes s last = is_set (outstanding_of s) ≡ true → Outstanding s last

pub record Counts (s : List ℕ) : Type 0 where
  pub some : 1 ≤ last_of s
  pub lasts : last_of s ≤ highest_number
  pub helds : held_of s ≤ most_held
  pub numbered : held_of s ≤ last_of s

pub record Sound (s : List ℕ) : Type 0 where
  pub base : Base s (last_of s)
  pub removal : Removes s (last_of s)
  pub counts : Counts s
  pub devices : devices_keep s first_device_word (devices_of s) ≡ true
  pub orders : orders_sound s ≡ true
  pub ids : ids_keep s first_id_word (ids_of s) ≡ true
  pub peers : (c : ℕ) → c < channel_count → peers_sound s (ready_at s c) c ≡ true

-- what is known of the state that an accepted call is given
pub record Given (s : List ℕ) : Type 0 where
  pub size : length s ≡ state_words
  pub facts : Sound s
  pub number : last_of s < highest_number

module _ (s : List ℕ) (last : ℕ) (m : Removal) where
  removal-facts : removal_sound s last m ≡ true → RemovalFacts s last m
  unfolding removal_sound
  removal-facts t = let h = each_of (_ ∷ _ ∷ _ ∷ _ ∷ _ ∷ _ ∷ _ ∷ []) t in search (arith, ours-facts, leb-true, ltb-true)

  removal-test : RemovalFacts s last m → removal_sound s last m ≡ true
  unfolding removal_sound
  removal-test r = all-of (_ ∷ _ ∷ _ ∷ _ ∷ _ ∷ _ ∷ _ ∷ []) (search (ours-test, le-leb, lt-ltb))

module _ (s : List ℕ) where
  -- the test of two services
  differs : ℕ → ℕ → Bool
  differs k j = eqb (stage_at s j) stage_idle or not (eqb (handle_at s j) (handle_at s k))

  apart-facts : every place_count (λ k. handle_apart s k) ≡ true → Apart s
  unfolding handle_apart ◌or◌ differs
  apart-facts e j k l h p q r = go (eqb (stage_at s k) stage_idle) refl (every-at (λ k. handle_apart s k) place_count k e h)
    where
      two : (x : Bool) → eqb (stage_at s j) stage_idle ≡ x → (x or not (eqb (handle_at s j) (handle_at s k))) ≡ true → ⊥
      two true z t = p (eqb-true _ stage_idle z)
      two false z t = clash _ (not-true _ t) (eq-eqb _ _ r)

      go : (b : Bool) → eqb (stage_at s k) stage_idle ≡ b → (b or every k (differs k)) ≡ true → ⊥
      go true z t = q (eqb-true _ stage_idle z)
      go false z t = two (eqb (stage_at s j) stage_idle) refl (every-at (differs k) k j t l)

  apart-test : Apart s → every place_count (λ k. handle_apart s k) ≡ true
  unfolding handle_apart ◌or◌ differs
  apart-test f = every-make (λ k. handle_apart s k) place_count (λ k h. go k h (eqb (stage_at s k) stage_idle) refl)
    where
      two : (j k : ℕ) → j < k → k < place_count → (stage_at s k ≡ stage_idle → ⊥) → (x : Bool) → eqb (stage_at s j) stage_idle ≡ x → (x or not (eqb (handle_at s j) (handle_at s k))) ≡ true
      two j k l h n true z = refl
      two j k l h n false z =
          ap not (ne_eqb (handle_at s j) (handle_at s k) (λ q. f j k l h (eqb-false _ stage_idle z) n q))

      go : (k : ℕ) → k < place_count → (b : Bool) → eqb (stage_at s k) stage_idle ≡ b → (b or every k (differs k)) ≡ true
      go k h true z = refl
      go k h false z =
          every-make (differs k) k
          (λ j l. two j k l h (eqb-false _ stage_idle z) (eqb (stage_at s j) stage_idle) refl)

  removes-facts : outstanding_sound s ≡ true → Removes s (last_of s)
  unfolding outstanding_sound ◌or◌
  removes-facts e o = go (eqb (outstanding_of s) 0) refl (not-true _ o) e
    where
      go : (b : Bool) → eqb (outstanding_of s) 0 ≡ b → b ≡ false → (b or (eqb (outstanding_of s) 1 and leb (cancelled_of s) 1 and removal_sound s (last_of s) (removal_of s))) ≡ true → Outstanding s (last_of s)
      go true z n t = absurd (clash true n refl)
      go false z n t =
          let h = each_of (_ ∷ _ ∷ _ ∷ []) t in
          search (arith, removal-facts, eqb-true, leb-true)

  removes-test : Removes s (last_of s) → outstanding_sound s ≡ true
  unfolding outstanding_sound ◌or◌
  removes-test f = go (eqb (outstanding_of s) 0) refl
    where
      go : (b : Bool) → eqb (outstanding_of s) 0 ≡ b → (b or (eqb (outstanding_of s) 1 and leb (cancelled_of s) 1 and removal_sound s (last_of s) (removal_of s))) ≡ true
      go true z = refl
      go false z =
          let r = f (ap not z) in
          all-of (_ ∷ _ ∷ _ ∷ []) (search (removal-test, eq-eqb, le-leb))

  pub sound-facts : sound s ≡ true → Sound s
  unfolding sound blocks_keep
  sound-facts t =
      let h = each_of (_ ∷ _ ∷ _ ∷ _ ∷ _ ∷ _ ∷ _ ∷ _ ∷ _ ∷ _ ∷ _ ∷ _ ∷ _ ∷ []) t in
      let b = both _ _ h.0 in
      record {
        base = record {
          few = leb-true _ most_blocks b.0;
          blocks = λ i l.
              every-at (λ i. block_keeps (block_at s i) (end_before s first_block_word i)) (blocks_of s) i b.1 l;
          ready = λ c l. leb-true _ 1 (every-at (λ c. leb (ready_at s c) 1) channel_count c (cc) l);
          services = λ k l. every-at (λ k. service_sound_at s k) place_count k (cc) l;
          apart = apart-facts (cc);
        };
        removal = removes-facts (cc);
        counts = omega (arith, leb-true);
        devices = cc;
        orders = cc;
        ids = cc;
        peers = λ c l. every-at (λ c. peers_sound s (ready_at s c) c) channel_count c (cc) l;
      }

  pub sound-test : Sound s → sound s ≡ true
  unfolding sound blocks_keep
  sound-test f =
      let b = f.base in
      join _ _
      (join _ _ (le-leb _ most_blocks b.few) (every-make (λ i. block_keeps (block_at s i) (end_before s first_block_word i)) (blocks_of s) b.blocks))
      (join _ _ (every-make (λ c. leb (ready_at s c) 1) channel_count (λ c h. le-leb _ 1 (b.ready c h)))
      (join _ _ (every-make (λ k. service_sound_at s k) place_count b.services)
      (join _ _ (apart-test b.apart)
      (join _ _ (le-leb _ _ f.counts.some)
      (join _ _ (le-leb _ _ f.counts.lasts)
      (join _ _ (le-leb _ _ f.counts.helds)
      (join _ _ (le-leb _ _ f.counts.numbered) (join _ _ (removes-test f.removal) (join _ _ f.devices (join _ _ f.orders (join _ _ f.ids (every-make (λ c. peers_sound s (ready_at s c) c) channel_count f.peers))))))))))))

-- a later last number
pub base-later : {s : List ℕ} {last : ℕ} (last' : ℕ) → last ≤ last' → Base s last → Base s last'
base-later last' le b = search (service-later, b.services)

pub removes-later : (s : List ℕ) (last last' : ℕ) → last ≤ last' → Removes s last → Removes s last'
removes-later s last last' le f o = let r = f o in search (ours-later)

-- the rules of a sound state's block
pub sound-block : (s : List ℕ) (i : ℕ) → sound s ≡ true → i < blocks_of s → Keeps (block_at s i) (end_before s first_block_word i)
sound-block s i e h = (block-rules _ _ ((sound-facts s e).base.blocks i h)).0
