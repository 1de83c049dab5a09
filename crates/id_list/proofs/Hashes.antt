-- Ids that are the same have the same hash: where no two hashes are the same, no two ids are.
-- Assumes nothing.
use mathlib.Core.Path.{◌≡◌, refl, sym, ap, ◌∙◌}
use mathlib.Core.Bool.{Bool, true, false, not}
use mathlib.Core.List.{List}
use Prim.Native.Nat.{ℕ, zero, suc, ◌+◌, ◌-◌, ◌*◌, ◌/◌, ◌^◌, ◌<◌, ◌≤◌}
use native.Mathlib.Nat.{not-suc-le-zero}
use native.Mathlib.Omega.{arith}
use lib.ListN.{length, get_or, set, length-set}
use lib.Seq.{get_or-set_same, get_or-set_other}
use lib.Dec.{eqb, leb}
use borrow.Author.Tests.{eqb-true, eqb-false, leb-true, leb-false, not-true}
use Rattle.std.specs.Prelude.{Option, Some, None}
use Rattle.basics.specs.Choice.{every, pick, is_found}
use Rattle.model.specs.Layout.{id_bytes_in, id_in, most_ids, word_bytes}
use Rattle.model.specs.Devices.{same_name}
use Rattle.model.specs.Peers.{id_apart, id_keeps}
use Rattle.basics.proofs.Choice.{clash, every-at, every-make}
use Rattle.basics.proofs.Loops.{refute}
use Rattle.names.proofs.Bytes.{words-differ}
use Rattle.names.proofs.Names.{lengths_differ, pair-words}
use Rattle.names.specs.Hashes.{hash_of, mixed_words}
use Rattle.id_list.specs.Hashes.{HashesStand, apart_at, folded, hash_in, hashes_apart}
use Rattle.id_list.proofs.Ids.{BytesRules, bytes_from, bytes-rules, id-at, pair_same}

-- numbers whose difference would refute a test
alike : {b : Bool} (v w : ℕ) → b ≡ true → ((v ≡ w → ⊥) → b ≡ false) → v ≡ w
alike {b} v w t f = go (eqb v w) refl
  where
    go : (d : Bool) → eqb v w ≡ d → v ≡ w
    go true e = eqb-true v w e
    go false e = absurd (clash b (f (eqb-false v w e)) t)

-- what is there only under a test
pub there : (b : Bool) (x v : ℕ) → Some v ≡ pick b (Some x) None → (b ≡ true) × (v ≡ x)
unfolding pick is_found
there true x v e = (refl, ap held e)
  where
    held : Option ℕ → ℕ
    held (Some k) = k
    held None = 0
there false x v e = absurd (clash false refl (sym (ap is_found e)))

pub not_there : (b : Bool) (x : ℕ) → None ≡ pick b (Some x) None → b ≡ false
unfolding pick is_found
not_there true x e = absurd (clash false refl (ap is_found e))
not_there false x e = refl

-- one hash more
module _ (l : List ℕ) (at p : ℕ) (hashes : List ℕ) (v : ℕ) (long : length hashes ≡ 2 * most_ids) (few : p < most_ids) (m : HashesStand l at p hashes) (e : v ≡ folded (hash_in l at p)) where
  abbrev pub with_hash : List ℕ
  with_hash = set (set hashes p v) (p + most_ids) v

  pub still-long : length with_hash ≡ 2 * most_ids
  still-long = simp length-set long

  pub hashed-more : HashesStand l at (p + 1) with_hash
  hashed-more =
      record { first = λ k h. first k h (eqb k p) refl; again = λ k h. again k h (eqb k p) refl }
    where
      first : (k : ℕ) → k < p + 1 → (b : Bool) → eqb k p ≡ b → get_or with_hash k 0 ≡ folded (hash_in l at k)
      first k h true d =
          rw (eqb-true k p d)
          (get_or-set_other (set hashes p v) (p + most_ids) p v 0 (λ z. omega arith) ∙ get_or-set_same hashes p v 0 (omega arith) ∙ e)
      first k h false d =
          let other = eqb-false k p d in
          get_or-set_other (set hashes p v) (p + most_ids) k v 0 (λ z. omega arith)
          ∙ get_or-set_other hashes p k v 0 other
          ∙ m.first k (omega arith)

      again : (k : ℕ) → k < p + 1 → (b : Bool) → eqb k p ≡ b → get_or with_hash (k + most_ids) 0 ≡ folded (hash_in l at k)
      again k h true d =
          rw (eqb-true k p d) (get_or-set_same (set hashes p v) (p + most_ids) v 0 (omega (arith, length-set hashes p v)) ∙ e)
      again k h false d =
          let other = eqb-false k p d in
          get_or-set_other (set hashes p v) (p + most_ids) (k + most_ids) v 0 (λ z. other (omega arith))
          ∙ get_or-set_other hashes p (k + most_ids) v 0 (λ z. omega arith)
          ∙ m.again k (omega arith)

pub none-hashed : (l : List ℕ) (at : ℕ) (hashes : List ℕ) → HashesStand l at 0 hashes
none-hashed l at hashes = record { first = λ p h. absurd (not-suc-le-zero h); again = λ p h. absurd (not-suc-le-zero h) }

words-mixed : (l : List ℕ) (a b m k : ℕ) → ((q : ℕ) → q < k → get_or l (a + q) 0 ≡ get_or l (b + q) 0) → mixed_words l a m k ≡ mixed_words l b m k
unfolding mixed_words
words-mixed l a b m zero h = refl
words-mixed l a b m (suc k) h = rw (words-mixed l a b m k (λ q j. h q (omega arith)), h k (omega arith))

module _ (l : List ℕ) (fits : (k : ℕ) → get_or l k 0 < 256 ^ word_bytes) (at : ℕ) where
  same-hash : (p q : ℕ) → BytesRules l at p → BytesRules l at q → same_name (id_in l at q).bytes (id_in l at p).bytes ≡ true → hash_in l at q ≡ hash_in l at p
  unfolding hash_of
  same-hash p q rp rq t =
      let s = pair_same l at p q ∙ t in
      let n : id_bytes_in l at q ≡ id_bytes_in l at p = alike _ _ s (λ d. sym (lengths_differ l (bytes_from at q) (id_bytes_in l at q) (bytes_from at p) (id_bytes_in l at p) d)) in
      let w = pair-words l (bytes_from at q) (id_bytes_in l at q) (bytes_from at p) (id_bytes_in l at p) rq.some rq.padding rp.padding n ∙ s in
      words-mixed l _ _ _ _ (λ k h. alike _ _ (every-at _ _ k w h) (words-differ _ _ (fits _) (fits _)))
      ∙ ap (λ (m : ℕ). mixed_words l (bytes_from at p) m ((m - 1) / word_bytes + 1)) n

  module _ (n : ℕ) (few : n ≤ most_ids) (each : every n (id_keeps l at) ≡ true) (hashes : List ℕ) (hashed : HashesStand l at n hashes) (apart : hashes_apart hashes ≡ true) where
    -- a hash is not the one at a distance up to half of them
    at-distance : (k j : ℕ) → k < most_ids → k < j → j ≤ k + most_ids / 2 → get_or hashes k 0 ≡ get_or hashes j 0 → ⊥
    unfolding hashes_apart apart_at
    at-distance k j few below near e =
        let there : k + (j - k - 1 + 1) ≡ j = omega arith in
        eqb-false _ _ (not-true _ (every-at _ most_ids k (every-at _ (most_ids / 2) (j - k - 1) apart (omega arith)) few))
        (e ∙ ap (λ (i : ℕ). get_or hashes i 0) (sym there))

    hashes-differ : (p q : ℕ) → p < n → q < p → folded (hash_in l at q) ≡ folded (hash_in l at p) → ⊥
    hashes-differ p q h below e = go (leb p (q + most_ids / 2)) refl
      where
        go : (b : Bool) → leb p (q + most_ids / 2) ≡ b → ⊥
        go true d =
            at-distance q p (omega arith) below (leb-true _ _ d) (hashed.first q (omega arith) ∙ e ∙ sym (hashed.first p h))
        go false d =
            let far = leb-false p (q + most_ids / 2) d in
            at-distance p (q + most_ids) (omega arith) (omega arith) (omega arith) (hashed.first p h ∙ sym e ∙ sym (hashed.again q (omega arith)))

    pub hashes-decide : every n (id_apart l at) ≡ true
    unfolding id_apart
    hashes-decide =
        every-make _ n
        (λ p h. every-make _ p
        (λ q below. ap not (sym (refute _ (λ t. hashes-differ p q h below (ap folded (same-hash p q (bytes-rules _ _ _ (id-at l at n p each h)) (bytes-rules _ _ _ (id-at l at n q each (omega arith))) t)))))))
