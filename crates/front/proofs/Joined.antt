-- A piece behind a kept part: its bytes, its payload_len, and what it comes to.
-- Assumes nothing.
use mathlib.Core.Path.{◌≡◌, refl, sym, ap, ap₂, ◌∙◌}
use mathlib.Core.Bool.{Bool, true, false}
use mathlib.Core.List.{List, ◌++◌}
use Prim.Native.Nat.{ℕ, zero, suc, ◌+◌, ◌-◌, ◌*◌, ◌%◌, ◌<◌, ◌≤◌}
use native.Mathlib.Nat.{mod-eq_of_lt}
use native.Mathlib.Omega.{arith}
use lib.ListN.{length, get_or, length-append, get_or-append}
use lib.Seq.{get_or-append-add}
use lib.Dec.{ltb}
use borrow.Author.Tests.{leb-true, ltb-true, ltb-false, le-leb, lt-ltb, le-ltb}
use Rattle.wire.specs.BigEndian.{byte_at, number_at}
use Rattle.wire.proofs.Laws.{number-after}
use Rattle.basics.specs.Choice.{pick, ◌and◌, ◌or◌}
use Rattle.model.specs.Layout.{ds_header_bytes}
use Rattle.model.specs.Messages.{most_payload, payload_length}
use Rattle.basics.proofs.Choice.{both}
use Rattle.front_model.specs.Front.{unfinished, most_kept}
use Rattle.front_model.specs.Calls.{taking_of}
use Rattle.front.specs.Next.{Keeps, Gives}

module _ (p b : List ℕ) where
  -- a byte of either
  pub byte-before : (i : ℕ) → i < length p → get_or p i 0 < 256 → get_or p i 0 ≡ byte_at (p ++ b) i
  unfolding byte_at
  byte-before i l h = rw (get_or-append p b 0 i l) (sym (mod-eq_of_lt h))

  pub byte-behind : (i : ℕ) → length p ≤ i → get_or b (i - length p) 0 < 256 → get_or b (i - length p) 0 ≡ byte_at (p ++ b) i
  unfolding byte_at
  byte-behind i l h =
      let e : i ≡ length p + (i - length p) = omega arith in
      sym (mod-eq_of_lt h)
      ∙ ap (λ (x : ℕ). x % 256) (sym (ap (λ (k : ℕ). get_or (p ++ b) k 0) e ∙ get_or-append-add p b (i - length p) 0))

  -- a number of either
  pub number-before : (at n : ℕ) → at + n ≤ length p → number_at (p ++ b) at n ≡ number_at p at n
  unfolding number_at byte_at
  number-before at zero h = refl
  number-before at (suc n) h =
      ap₂ (λ (x y : ℕ). x * 256 + y % 256) (number-before at n (omega arith)) (get_or-append p b 0 (at + n) (omega arith))

  pub number_behind : (at n : ℕ) → length p ≤ at → number_at (p ++ b) at n ≡ number_at b (at - length p) n
  number_behind at n h =
      let e : at ≡ length p + (at - length p) = omega arith in
      ap (λ (k : ℕ). number_at (p ++ b) k n) e ∙ number-after p b (at - length p) n

-- a whole header's payload_len in an unfinished part
begun : (p : List ℕ) → unfinished p ≡ true → ds_header_bytes ≤ length p → (payload_length p ≤ most_payload) × (length p < ds_header_bytes + payload_length p)
unfolding unfinished ◌or◌
begun p e h =
    let t = both _ _ (rw (le-ltb _ _ h) at e) in
    (leb-true _ _ t.0, ltb-true _ _ t.1)

-- so an unfinished part does not go beyond the message that it begins
within : (p b : List ℕ) (n : ℕ) → unfinished p ≡ true → ds_header_bytes ≤ n → (payload_length (p ++ b) ≤ most_payload → ds_header_bytes + payload_length (p ++ b) ≤ n) → length p ≤ n
within p b n e h f = go (ltb (length p) ds_header_bytes) refl
  where
    go : (t : Bool) → ltb (length p) ds_header_bytes ≡ t → length p ≤ n
    go true q = let l = ltb-true (length p) ds_header_bytes q in omega arith
    go false q =
        let l = ltb-false (length p) ds_header_bytes q in
        let r = begun p e l in
        let s = number-before p b 4 4 (omega arith) in
        omega (arith, f (omega arith))

module _ (p b : List ℕ) where
  -- under eight bytes
  pub keeps-few : length p + length b < ds_header_bytes → Keeps p b
  unfolding taking_of pick unfinished ◌or◌
  keeps-few h = record {
    same = rw (length-append p b, lt-ltb _ _ h);
    few = omega arith;
    begins = rw (length-append p b, lt-ltb _ _ h);
  }

  module _ (h : ds_header_bytes ≤ length p + length b) where
    -- a message that is not whole
    pub keeps-more : payload_length (p ++ b) ≤ most_payload → length p + length b < ds_header_bytes + payload_length (p ++ b) → Keeps p b
    unfolding taking_of pick unfinished ◌or◌ ◌and◌
    keeps-more l m = record {
      same = rw (length-append p b, le-ltb _ _ h, le-ltb _ _ l, lt-ltb _ _ m);
      few = omega arith;
      begins = rw (length-append p b, le-ltb _ _ h, le-leb _ _ l, lt-ltb _ _ m);
    }

    module _ (few : length p ≤ most_kept) (e : unfinished p ≡ true) where
      -- a payload_len above 4,096
      pub gives-long : most_payload < payload_length (p ++ b) → Gives p b ds_header_bytes 1
      unfolding taking_of pick
      gives-long l = record {
        same = rw (length-append p b, le-ltb _ _ h, lt-ltb _ _ l);
        starts = within p b ds_header_bytes e (omega arith) (λ m. omega arith);
        ends = h;
        most = omega arith;
        mark = omega arith;
      }

      -- a whole message
      pub gives_whole : payload_length (p ++ b) ≤ most_payload → ds_header_bytes + payload_length (p ++ b) ≤ length p + length b → Gives p b (ds_header_bytes + payload_length (p ++ b)) 0
      unfolding taking_of pick
      gives_whole l m = record {
        same = rw (length-append p b, le-ltb _ _ h, le-ltb _ _ l, le-ltb _ _ m);
        starts = within p b (ds_header_bytes + payload_length (p ++ b)) e (omega arith) (λ _. omega arith);
        ends = m;
        most = omega arith;
        mark = omega arith;
      }
