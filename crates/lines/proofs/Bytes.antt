-- Bytes pair by pair.
-- Assumes nothing.
use Rattle.std.proofs.Common.{◌≡◌, ℕ, suc, ◌+◌, ◌*◌, ◌/◌, ◌%◌, ◌<◌, ◌≤◌, true, false, ltb, leb, List, ◌++◌, length, get_or, drop, set, sym, ap, ◌∙◌, add-one, arith, drop-cons, ltb-true, le-ltb, lt-ltb, eq-eqb, ne_eqb, le-leb, Some, None}
use Rattle.std.specs.Char.{digit_value}
use lib.Seq.{set_at, append_snoc}
use borrow.Author.Tests.{lt-leb}
use Rattle.basics.specs.Choice.{◌and◌, every, tabulate}
use Rattle.basics.proofs.Choice.{clash, pick_true, pick-false, both, join, and-false, and-false-right, tabulate-length}
use Rattle.basics.proofs.Loops.{every-fails}
use Rattle.lines.specs.Fields.{pair_of, are_pair, pair_in, byte_of, is_byte, are_bytes, bytes_in, BytesRead}
use Rattle.lines.proofs.Numbers.{value-of, bad-of}

-- a run whose first i elements are f's values: one more
pub table_more : (f : ℕ → ℕ) (l : List ℕ) (i : ℕ) → i < length l → set (tabulate f i ++ drop i l) i (f i) ≡ tabulate f (i + 1) ++ drop (i + 1) l
unfolding tabulate
table_more f l i h =
    ap (λ t. set (tabulate f i ++ t) i (f i)) (drop-cons l i 0 h)
    ∙ set_at (tabulate f i) (get_or l i 0) (drop (suc i) l) (f i) i (tabulate-length f i)
    ∙ sym (append_snoc (tabulate f i) (f i) (drop (suc i) l))
    ∙ ap (λ n. tabulate f n ++ drop n l) (sym (add-one i))

-- the answers of pair
pub no-high : (high low c : ℕ) → c ≡ high → (digit_value c < 16 → ⊥) → None ≡ pair_in high low
unfolding pair_in are_pair
no-high high low c e h = sym (pick-false _ _ _ (and-false _ _ (le-ltb (digit_value high) 16 (rw (← e) (omega (arith, h))))))

pub no-low : (high low c : ℕ) → c ≡ low → (digit_value c < 16 → ⊥) → None ≡ pair_in high low
unfolding pair_in are_pair
no-low high low c e h = sym (pick-false _ _ _ (and-false-right _ _ (le-ltb (digit_value low) 16 (rw (← e) (omega (arith, h))))))

pub both-digits : (high low : ℕ) → digit_value high < 16 → digit_value low < 16 → Some (pair_of high low) ≡ pair_in high low
unfolding pair_in are_pair
both-digits high low h l = sym (pick_true _ _ _ (join _ _ (lt-ltb (digit_value high) 16 h) (lt-ltb (digit_value low) 16 l)))

-- as the digits were found
pub two_digits : (high low c d : ℕ) {h l : ℕ} → c ≡ high → d ≡ low → (digit_value c < 16) × (h ≡ digit_value c) → (digit_value d < 16) × (l ≡ digit_value d) → Some (h * 16 + l) ≡ pair_in high low
unfolding pair_of
two_digits high low c d e f p q =
    let h = rw e at p in
    let l = rw f at q in
    rw (h.1, l.1) (both-digits high low h.0 l.0)

-- taken apart
pub no-pair : (high low : ℕ) → pair_in high low ≡ None → are_pair high low ≡ false
unfolding pair_in
no-pair high low e = bad-of (are_pair high low) (pair_of high low) e

pub a_pair : (high low v : ℕ) → pair_in high low ≡ Some v → (are_pair high low ≡ true) × (v ≡ pair_of high low) × (v < 256)
unfolding pair_in are_pair pair_of
a_pair high low v e =
    let q = value-of (are_pair high low) (pair_of high low) v e in
    let t = both (ltb (digit_value high) 16) (ltb (digit_value low) 16) q.0 in
    (q.0, q.1, omega (arith, q.1, ltb-true (digit_value high) 16 t.0, ltb-true (digit_value low) 16 t.1))

-- the field's digits are not read
unread : (field into into' : List ℕ) → (are_bytes field and leb (length field / 2) (length into)) ≡ false → BytesRead field into None into'
unfolding BytesRead bytes_in
unread field into into' e = (sym (pick-false _ _ _ e), λ t. absurd (clash _ e t))

pub none-to-read : (field into into' : List ℕ) → length field ≡ 0 → BytesRead field into None into'
none-to-read field into into' e =
    unread field into into' (and-false _ _ (unfold are_bytes in and-false _ _ (le-ltb 0 (length field) (omega (arith, e)))))

pub odd-to-read : (field into into' : List ℕ) → (length field % 2 ≡ 0 → ⊥) → BytesRead field into None into'
odd-to-read field into into' h =
    unread field into into' (and-false _ _ (unfold are_bytes in and-false-right _ _ (and-false _ _ (ne_eqb (length field % 2) 0 h))))

pub no_room : (field into into' : List ℕ) → length into < length field / 2 → BytesRead field into None into'
no_room field into into' h = unread field into into' (and-false-right _ _ (lt-leb (length field / 2) (length into) h))

pub bad-pair : (field into into' : List ℕ) (i : ℕ) → i < length field / 2 → is_byte field i ≡ false → BytesRead field into None into'
bad-pair field into into' i h e =
    unread field into into'
    (and-false _ _ (unfold are_bytes in and-false-right _ _ (and-false-right _ _ (sym (every-fails (λ k. is_byte field k) (length field / 2) i h e)))))

-- all are read
pub all_read : (field into into' : List ℕ) (i : ℕ) → (length field ≡ 0 → ⊥) → length field % 2 ≡ 0 → length field / 2 ≤ length into → i ≡ length field / 2 → every i (λ k. is_byte field k) ≡ true → into' ≡ tabulate (λ k. byte_of field k) i ++ drop i into → BytesRead field into (Some (length field / 2)) into'
unfolding BytesRead bytes_in
all_read field into into' i n e h q d t =
    (sym (pick_true _ _ _ (join _ _ good (le-leb (length field / 2) (length into) h))), λ _. t ∙ ap (λ k. tabulate (λ j. byte_of field j) k ++ drop k into) q)
  where
    good : are_bytes field ≡ true
    good =
        unfold are_bytes in join _ _ (lt-ltb 0 (length field) (omega (arith, n)))
        (join _ _ (eq-eqb (length field % 2) 0 e) (ap (λ k. every k (λ j. is_byte field j)) (sym q) ∙ d))
