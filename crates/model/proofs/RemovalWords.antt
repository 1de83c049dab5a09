-- A removal's change is a change of its few words: pages collected, a record settled, the removal marked.
-- Assumes nothing.
use mathlib.Core.Path.{◌≡◌, refl, sym, ◌∙◌}
use mathlib.Core.List.{List}
use Prim.Native.Nat.{ℕ, zero, suc, ◌+◌, ◌<◌, ◌≤◌}
use native.Mathlib.Omega.{arith}
use lib.ListN.{length, get_or, set, length-set}
use lib.Seq.{get_or-set_same, get_or-set_other}
use lib.Dec.{eqb}
use borrow.Author.Tests.{eqb-true, eqb-false}
use mathlib.Core.Bool.{Bool, true, false}
use Rattle.model.specs.Layout.{removal_of, removal_head, with_removal, outstanding_of, cancelled_of, state_words, head_words, most_records, outstanding_word, cancelled_word, position_word, collected_word, first_address_word, first_size_word, first_result_word}
use Rattle.model.specs.Memory.{marked}
use Rattle.model.specs.Work.{settled, collecting}
use Rattle.model.proofs.Words.{loaded-arrays, removal-words, head-same, sixteen-same}

module _ (s : List ℕ) (n : length s ≡ state_words) (one : outstanding_of s ≡ 1) (flag : cancelled_of s ≤ 1) where
  -- word i of the head
  was : (i : ℕ) → i < head_words → get_or s (outstanding_word + i) 0 ≡ get_or (removal_head (removal_of s)) i 0
  was i h = sym (head-same s n one flag i h)

  address-was : (i : ℕ) → i < most_records → get_or s (first_address_word + i) 0 ≡ get_or (removal_of s).address i 0
  unfolding removal_of
  address-was i h = sym (sixteen-same s n one flag first_address_word i h)

  size-was : (i : ℕ) → i < most_records → get_or s (first_size_word + i) 0 ≡ get_or (removal_of s).size i 0
  unfolding removal_of
  size-was i h = sym (sixteen-same s n one flag first_size_word i h)

  result-was : (i : ℕ) → i < most_records → get_or s (first_result_word + i) 0 ≡ get_or (removal_of s).result i 0
  unfolding removal_of
  result-was i h = sym (sixteen-same s n one flag first_result_word i h)

  -- n pages more
  pub collecting-words : (k : ℕ) → with_removal s (collecting (removal_of s) k) ≡ set s collected_word ((removal_of s).collected + k)
  unfolding collecting
  collecting-words k =
      removal-words s (collecting (removal_of s) k) n (record { addresses = (loaded-arrays s).addresses; sizes = (loaded-arrays s).sizes; results = (loaded-arrays s).results }) (set s collected_word ((removal_of s).collected + k)) (length-set s collected_word _ ∙ n)
      (λ j h. other j (λ q. omega arith)) head
      (λ i h. other (first_address_word + i) (λ q. omega arith) ∙ address-was i h)
      (λ i h. other (first_size_word + i) (λ q. omega arith) ∙ size-was i h)
      (λ i h. other (first_result_word + i) (λ q. omega arith) ∙ result-was i h)
      (λ j h. other j (λ q. omega arith))
    where
      other : (j : ℕ) → (j ≡ collected_word → ⊥) → get_or (set s collected_word ((removal_of s).collected + k)) j 0 ≡ get_or s j 0
      other j q = get_or-set_other s collected_word j ((removal_of s).collected + k) 0 q

      head : (i : ℕ) → i < head_words → get_or (set s collected_word ((removal_of s).collected + k)) (outstanding_word + i) 0 ≡ get_or (removal_head (collecting (removal_of s) k)) i 0
      head zero h = other (outstanding_word + 0) (λ q. omega arith) ∙ was 0 (omega arith)
      head (suc zero) h = other (outstanding_word + 1) (λ q. omega arith) ∙ was 1 (omega arith)
      head (suc (suc zero)) h = other (outstanding_word + 2) (λ q. omega arith) ∙ was 2 (omega arith)
      head (suc (suc (suc zero))) h = other (outstanding_word + 3) (λ q. omega arith) ∙ was 3 (omega arith)
      head (suc (suc (suc (suc zero)))) h = other (outstanding_word + 4) (λ q. omega arith) ∙ was 4 (omega arith)
      head (suc (suc (suc (suc (suc zero))))) h = other (outstanding_word + 5) (λ q. omega arith) ∙ was 5 (omega arith)
      head (suc (suc (suc (suc (suc (suc zero)))))) h = other (outstanding_word + 6) (λ q. omega arith) ∙ was 6 (omega arith)
      head (suc (suc (suc (suc (suc (suc (suc zero))))))) h = get_or-set_same s collected_word ((removal_of s).collected + k) 0 (omega arith)
      head (suc (suc (suc (suc (suc (suc (suc (suc i)))))))) h = absurd (omega arith)

  -- the removal marked
  pub marked-words : with_removal s (marked (removal_of s)) ≡ set (set s cancelled_word 1) collected_word 0
  unfolding marked
  marked-words =
      removal-words s (marked (removal_of s)) n (record { addresses = (loaded-arrays s).addresses; sizes = (loaded-arrays s).sizes; results = (loaded-arrays s).results })
      (set (set s cancelled_word 1) collected_word 0) (length-set (set s cancelled_word 1) collected_word 0 ∙ length-set s cancelled_word 1 ∙ n)
      (λ j h. other j (λ q. omega arith) (λ q. omega arith)) head
      (λ i h. other (first_address_word + i) (λ q. omega arith) (λ q. omega arith) ∙ address-was i h)
      (λ i h. other (first_size_word + i) (λ q. omega arith) (λ q. omega arith) ∙ size-was i h)
      (λ i h. other (first_result_word + i) (λ q. omega arith) (λ q. omega arith) ∙ result-was i h)
      (λ j h. other j (λ q. omega arith) (λ q. omega arith))
    where
      other : (j : ℕ) → (j ≡ cancelled_word → ⊥) → (j ≡ collected_word → ⊥) → get_or (set (set s cancelled_word 1) collected_word 0) j 0 ≡ get_or s j 0
      other j p q = get_or-set_other (set s cancelled_word 1) collected_word j 0 0 q ∙ get_or-set_other s cancelled_word j 1 0 p

      head : (i : ℕ) → i < head_words → get_or (set (set s cancelled_word 1) collected_word 0) (outstanding_word + i) 0 ≡ get_or (removal_head (marked (removal_of s))) i 0
      head zero h = other (outstanding_word + 0) (λ q. omega arith) (λ q. omega arith) ∙ was 0 (omega arith)
      head (suc zero) h = get_or-set_other (set s cancelled_word 1) collected_word cancelled_word 0 0 (λ q. omega arith) ∙ get_or-set_same s cancelled_word 1 0 (omega arith)
      head (suc (suc zero)) h = other (outstanding_word + 2) (λ q. omega arith) (λ q. omega arith) ∙ was 2 (omega arith)
      head (suc (suc (suc zero))) h = other (outstanding_word + 3) (λ q. omega arith) (λ q. omega arith) ∙ was 3 (omega arith)
      head (suc (suc (suc (suc zero)))) h = other (outstanding_word + 4) (λ q. omega arith) (λ q. omega arith) ∙ was 4 (omega arith)
      head (suc (suc (suc (suc (suc zero))))) h = other (outstanding_word + 5) (λ q. omega arith) (λ q. omega arith) ∙ was 5 (omega arith)
      head (suc (suc (suc (suc (suc (suc zero)))))) h = other (outstanding_word + 6) (λ q. omega arith) (λ q. omega arith) ∙ was 6 (omega arith)
      head (suc (suc (suc (suc (suc (suc (suc zero))))))) h = get_or-set_same (set s cancelled_word 1) collected_word 0 0 (omega (arith, length-set s cancelled_word 1))
      head (suc (suc (suc (suc (suc (suc (suc (suc i)))))))) h = absurd (omega arith)

  -- the record at the position settled
  pub settled-words : (r : ℕ) → (removal_of s).position < most_records → with_removal s (settled (removal_of s) r) ≡ set (set (set s (first_result_word + (removal_of s).position) r) position_word ((removal_of s).position + 1)) collected_word 0
  unfolding settled
  settled-words r l =
      removal-words s (settled (removal_of s) r) n
      (record { addresses = (loaded-arrays s).addresses; sizes = (loaded-arrays s).sizes; results = length-set (removal_of s).result (removal_of s).position r ∙ (loaded-arrays s).results })
      whole (length-set stepped collected_word 0 ∙ stepped-length)
      (λ j h. other j (λ q. omega arith) (λ q. omega arith) (λ q. omega arith)) head
      (λ i h. other (first_address_word + i) (λ q. omega arith) (λ q. omega arith) (λ q. omega arith) ∙ address-was i h)
      (λ i h. other (first_size_word + i) (λ q. omega arith) (λ q. omega arith) (λ q. omega arith) ∙ size-was i h)
      results
      (λ j h. other j (λ q. omega arith) (λ q. omega arith) (λ q. omega arith))
    where
      resulted : List ℕ
      resulted = set s (first_result_word + (removal_of s).position) r

      stepped : List ℕ
      stepped = set resulted position_word ((removal_of s).position + 1)

      whole : List ℕ
      whole = set stepped collected_word 0

      stepped-length : length stepped ≡ state_words
      stepped-length = length-set resulted position_word ((removal_of s).position + 1) ∙ length-set s (first_result_word + (removal_of s).position) r ∙ n

      other : (j : ℕ) → (j ≡ first_result_word + (removal_of s).position → ⊥) → (j ≡ position_word → ⊥) → (j ≡ collected_word → ⊥) → get_or whole j 0 ≡ get_or s j 0
      other j p q c =
          get_or-set_other stepped collected_word j 0 0 c
          ∙ get_or-set_other resulted position_word j ((removal_of s).position + 1) 0 q
          ∙ get_or-set_other s (first_result_word + (removal_of s).position) j r 0 p

      results : (i : ℕ) → i < most_records → get_or whole (first_result_word + i) 0 ≡ get_or (set (removal_of s).result (removal_of s).position r) i 0
      results i h = go (eqb i (removal_of s).position) refl
        where
          go : (b : Bool) → eqb i (removal_of s).position ≡ b → get_or whole (first_result_word + i) 0 ≡ get_or (set (removal_of s).result (removal_of s).position r) i 0
          go true e =
              let q = eqb-true i (removal_of s).position e in
              rw q
              (get_or-set_other stepped collected_word (first_result_word + (removal_of s).position) 0 0 (λ c. omega arith)
              ∙ get_or-set_other resulted position_word (first_result_word + (removal_of s).position) ((removal_of s).position + 1) 0 (λ c. omega arith)
              ∙ get_or-set_same s (first_result_word + (removal_of s).position) r 0 (omega arith)
              ∙ sym (get_or-set_same (removal_of s).result (removal_of s).position r 0 (omega (arith, (loaded-arrays s).results))))
          go false e =
              let q = eqb-false i (removal_of s).position e in
              other (first_result_word + i) (λ c. q (omega arith)) (λ c. omega arith) (λ c. omega arith)
              ∙ result-was i h
              ∙ sym (get_or-set_other (removal_of s).result (removal_of s).position i r 0 q)

      head : (i : ℕ) → i < head_words → get_or whole (outstanding_word + i) 0 ≡ get_or (removal_head (settled (removal_of s) r)) i 0
      head zero h = other (outstanding_word + 0) (λ q. omega arith) (λ q. omega arith) (λ q. omega arith) ∙ was 0 (omega arith)
      head (suc zero) h = other (outstanding_word + 1) (λ q. omega arith) (λ q. omega arith) (λ q. omega arith) ∙ was 1 (omega arith)
      head (suc (suc zero)) h = other (outstanding_word + 2) (λ q. omega arith) (λ q. omega arith) (λ q. omega arith) ∙ was 2 (omega arith)
      head (suc (suc (suc zero))) h = other (outstanding_word + 3) (λ q. omega arith) (λ q. omega arith) (λ q. omega arith) ∙ was 3 (omega arith)
      head (suc (suc (suc (suc zero)))) h = other (outstanding_word + 4) (λ q. omega arith) (λ q. omega arith) (λ q. omega arith) ∙ was 4 (omega arith)
      head (suc (suc (suc (suc (suc zero))))) h = other (outstanding_word + 5) (λ q. omega arith) (λ q. omega arith) (λ q. omega arith) ∙ was 5 (omega arith)
      head (suc (suc (suc (suc (suc (suc zero)))))) h = get_or-set_other stepped collected_word position_word 0 0 (λ q. omega arith) ∙ get_or-set_same resulted position_word ((removal_of s).position + 1) 0 (omega (arith, length-set s (first_result_word + (removal_of s).position) r))
      head (suc (suc (suc (suc (suc (suc (suc zero))))))) h = get_or-set_same stepped collected_word 0 0 (omega (arith, stepped-length))
      head (suc (suc (suc (suc (suc (suc (suc (suc i)))))))) h = absurd (omega arith)
