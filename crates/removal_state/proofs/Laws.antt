-- The fields of the removal that the words hold, from the words read; and past the end of a request its numbers are 0.
-- Assumes nothing.
use mathlib.Core.Path.{◌≡◌, refl, sym, ◌∙◌}
use mathlib.Core.Bool.{Bool}
use mathlib.Core.List.{List}
use Prim.Native.Nat.{ℕ, zero, suc, ◌+◌, ◌≤◌, ◌<◌}
use native.Mathlib.Omega.{arith}
use lib.ListN.{length, get_or, get_or-eq_default}
use Rattle.wire.specs.BigEndian.{byte_at, number_at}
use Rattle.model.specs.Layout.{removal_of, is_set, cancelled_of, most_records, removal_channel_word, removal_handle_word, request_word, count_word, position_word, collected_word, first_address_word, first_size_word, first_result_word}
use Rattle.basics.proofs.Choice.{tabulate-at}

module _ (s : List ℕ) {x : ℕ} where
  pub channel-is : x ≡ get_or s removal_channel_word 0 → x ≡ (removal_of s).channel
  unfolding removal_of
  channel-is e = e

  pub handle-is : x ≡ get_or s removal_handle_word 0 → x ≡ (removal_of s).handle
  unfolding removal_of
  handle-is e = e

  pub request-is : x ≡ get_or s request_word 0 → x ≡ (removal_of s).request
  unfolding removal_of
  request-is e = e

  pub count-is : x ≡ get_or s count_word 0 → x ≡ (removal_of s).count
  unfolding removal_of
  count-is e = e

  pub position-is : x ≡ get_or s position_word 0 → x ≡ (removal_of s).position
  unfolding removal_of
  position-is e = e

  pub collected-is : x ≡ get_or s collected_word 0 → x ≡ (removal_of s).collected
  unfolding removal_of
  collected-is e = e

pub cancelled-is : (s : List ℕ) {x v : Bool} → x ≡ is_set (cancelled_of s) → x ≡ v → (removal_of s).cancelled ≡ v
unfolding removal_of
cancelled-is s e f = sym e ∙ f

module _ (s : List ℕ) (i : ℕ) (h : i < most_records) where
  pub address_is : get_or (removal_of s).address i 0 ≡ get_or s (first_address_word + i) 0
  unfolding removal_of
  address_is = tabulate-at (λ (i : ℕ). get_or s (first_address_word + i) 0) most_records i 0 h

  pub size_is : get_or (removal_of s).size i 0 ≡ get_or s (first_size_word + i) 0
  unfolding removal_of
  size_is = tabulate-at (λ (i : ℕ). get_or s (first_size_word + i) 0) most_records i 0 h

  pub result-is : get_or (removal_of s).result i 0 ≡ get_or s (first_result_word + i) 0
  unfolding removal_of
  result-is = tabulate-at (λ (i : ℕ). get_or s (first_result_word + i) 0) most_records i 0 h

pub number_past : (b : List ℕ) (at k : ℕ) → length b ≤ at → number_at b at k ≡ 0
unfolding number_at byte_at
number_past b at zero h = refl
number_past b at (suc k) h = rw (number_past b at k h, get_or-eq_default b 0 {n = at + k} (omega arith))
