-- Numbers digit by digit.
-- Assumes nothing.
use Rattle.std.proofs.Common.{◌≡◌, ℕ, zero, suc, ◌+◌, ◌-◌, ◌*◌, ◌<◌, ◌≤◌, Bool, true, false, ltb, List, length, get_or, sym, refl, ap, ◌∙◌, suc-add, zero-add, add-one, arith, ltb-true, le-ltb, lt-ltb, Option, Some, None, SomeIff, nat_eq, le-leb, ◌&&◌, take, drop, [], ◌∷◌}
use lib.Pointwise.{pointwise}
use Rattle.std.specs.Char.{digit_value}
use Rattle.std.proofs.Math.Nat.{mul-le-mul_left}
use Rattle.std.proofs.lemmas.Option.{none-some, cond_some}
use Rattle.basics.specs.Choice.{pick, ◌and◌, every}
use Rattle.basics.proofs.Choice.{on-pick, pick_true, pick-false, both, join, and-false, and-false-right, every-at}
use Rattle.lines.specs.Fields.{value_of, are_digits, is_number, is_prefixed, digits_in, number_in, appended}

-- the byte is no digit of the base
pub no_digit : (h v b c : ℕ) → c ≡ b → (digit_value c < h → ⊥) → None ≡ appended h v b
unfolding appended
no_digit h v b c e l = sym (pick-false _ _ _ (and-false _ _ (le-ltb _ _ (rw (← e) (omega (arith, l))))))

-- the number would reach 2^64
pub too_large : (h v b : ℕ) → 18446744073709551616 ≤ v * h + digit_value b → None ≡ appended h v b
unfolding appended
too_large h v b l = sym (pick-false _ _ _ (and-false-right _ _ (le-ltb _ _ l)))

pub one_more : (h v b : ℕ) → digit_value b < h → v * h + digit_value b < 18446744073709551616 → Some (v * h + digit_value b) ≡ appended h v b
unfolding appended
one_more h v b d l = sym (pick_true _ _ _ (join _ _ (lt-ltb _ _ d) (lt-ltb _ _ l)))

-- the number and the digit added, where their sum is below 2^64
pub added : (h v b m d : ℕ) (r : Option ℕ) → digit_value b < h → m ≡ v * h → d ≡ digit_value b → SomeIff r (m + d < 18446744073709551616) (m + d) → r ≡ appended h v b
added h v b m d None l e f s = too_large h v b (rw (← e, ← f) (omega (arith, s)))
added h v b m d (Some n) l e f s = ap Some (rw (e, f) at s.1) ∙ one_more h v b l (rw (← e, ← f) s.0)

-- more digits make no smaller number
value_grows : (h : ℕ) (field : List ℕ) (n : ℕ) → 0 < h → value_of h field n ≤ value_of h field (suc n)
unfolding value_of
value_grows h field n p = omega (arith, mul-le-mul_left {m = 1} {n = h} (value_of h field n) (omega arith))

value-from : (h : ℕ) (field : List ℕ) (n k : ℕ) → 0 < h → value_of h field n ≤ value_of h field (k + n)
value-from h field n zero p = omega (arith, ap (value_of h field) (zero-add n))
value-from h field n (suc k) p =
    omega (arith, value-from h field n k p, value_grows h field (k + n) p, ap (value_of h field) (suc-add k n))

value_after : (h : ℕ) (field : List ℕ) (n m k : ℕ) → 0 < h → m ≡ k + n → value_of h field n ≤ value_of h field m
value_after h field n m k p e = rw (e) (value-from h field n k p)

value-least : (h : ℕ) (field : List ℕ) (n m : ℕ) → 0 < h → n ≤ m → value_of h field n ≤ value_of h field m
value-least h field n m p l = value_after h field n m (m - n) p (omega (arith, l))

-- a field of no bytes is no number
pub no-digits : (h : ℕ) (field : List ℕ) → length field ≡ 0 → None ≡ digits_in h field
unfolding digits_in is_number
no-digits h field e =
    sym
    (pick-false _ _ _
    (and-false (ltb 0 (length field)) (are_digits h field (length field) and ltb (value_of h field (length field)) 18446744073709551616)
    (le-ltb 0 (length field) (omega (arith, e)))))

-- a number and no number differ
pub value-of : (t : Bool) (n v : ℕ) → pick t (Some n) None ≡ Some v → (t ≡ true) × (v ≡ n)
unfolding pick
value-of true n v e = (refl, sym (cond_some true n v e).1)
value-of false n v e = absurd (none-some v e)

pub bad-of : (t : Bool) (n : ℕ) → pick t (Some n) None ≡ None → t ≡ false
unfolding pick
bad-of true n e = absurd (none-some n (sym e))
bad-of false n e = refl

-- each digit of a number is one, and the number of the digits so far is below 2^64
number-facts : (h : ℕ) (field : List ℕ) (i : ℕ) → 0 < h → i < length field → is_number h field ≡ true → (digit_value (get_or field i 0) < h) × (value_of h field i * h + digit_value (get_or field i 0) < 18446744073709551616)
unfolding is_number value_of
number-facts h field i p l t =
    let q = both (are_digits h field (length field)) (ltb (value_of h field (length field)) 18446744073709551616) (both _ _ t).1 in
    (ltb-true _ _ (every-at (λ k. ltb (digit_value (get_or field k 0)) h) (length field) i q.0 l), omega (arith, ltb-true (value_of h field (length field)) 18446744073709551616 q.1, value-least h field (suc i) (length field) p l))

-- where one more digit cannot be appended at place i, the field is no number
pub stops : (h : ℕ) (field : List ℕ) (i : ℕ) → 0 < h → i < length field → appended h (value_of h field i) (get_or field i 0) ≡ None → None ≡ digits_in h field
unfolding digits_in
stops h field i p l e =
    on-pick {A = Option ℕ} (λ r. None ≡ r) (is_number h field) _ _
    (λ t.
    let f = number-facts h field i p l t in
    absurd (none-some _ (sym (one_more h (value_of h field i) (get_or field i 0) f.0 f.1 ∙ e))))
    (λ t. refl)

one-appended : (h : ℕ) (field : List ℕ) (i v : ℕ) → are_digits h field i ≡ true → appended h (value_of h field i) (get_or field i 0) ≡ Some v → (v ≡ value_of h field (suc i)) × (are_digits h field (suc i) ≡ true) × (v < 18446744073709551616)
unfolding appended value_of every
one-appended h field i v d e =
    let q = value-of _ _ v e in
    let t = both _ _ q.0 in
    (q.1, join _ _ d t.0, omega (arith, q.1, ltb-true (value_of h field i * h + digit_value (get_or field i 0)) 18446744073709551616 t.1))

-- where it can, it is the value of one digit more
pub goes_on_lem : (h : ℕ) (field : List ℕ) (i v : ℕ) → are_digits h field i ≡ true → appended h (value_of h field i) (get_or field i 0) ≡ Some v → (v ≡ value_of h field (i + 1)) × (are_digits h field (i + 1) ≡ true) × (v < 18446744073709551616)
goes_on_lem h field i v d e =
    let q = one-appended h field i v d e in
    (q.0 ∙ ap (value_of h field) (sym (add-one i)), ap (λ k. are_digits h field k) (add-one i) ∙ q.1, q.2)

at-end : (h : ℕ) (field : List ℕ) (v : ℕ) → (length field ≡ 0 → ⊥) → are_digits h field (length field) ≡ true → v ≡ value_of h field (length field) → v < 18446744073709551616 → Some v ≡ digits_in h field
unfolding digits_in is_number
at-end h field v n d e l =
    ap Some e
    ∙ sym (pick_true _ _ _ (join _ _ (lt-ltb 0 (length field) (omega (arith, n))) (join _ _ d (lt-ltb (value_of h field (length field)) 18446744073709551616 (omega (arith, e, l))))))

-- at the field's end the value is the number's
pub ended : (h : ℕ) (field : List ℕ) (i v : ℕ) → (length field ≡ 0 → ⊥) → i ≡ length field → are_digits h field i ≡ true → v ≡ value_of h field i → v < 18446744073709551616 → Some v ≡ digits_in h field
ended h field i v n q d e l =
    at-end h field v n (ap (λ k. are_digits h field k) (sym q) ∙ d) (e ∙ ap (value_of h field) q) l

with-none : (x : Bool) → x && false ≡ false
with-none true = refl
with-none false = refl

with-two : (x y : Bool) → x && (y && true) ≡ (x and y)
unfolding ◌and◌
with-two true true = refl
with-two true false = refl
with-two false y = refl

-- the two first bytes are those that a number in hexadecimal begins with
prefix-is : (field : List ℕ) → pointwise nat_eq (take 2 field) (48 ∷ 120 ∷ []) ≡ is_prefixed field
unfolding is_prefixed ◌and◌
prefix-is [] = refl
prefix-is (a ∷ []) = with-none (nat_eq a 48)
prefix-is (a ∷ b ∷ l) = rw (le-leb 2 (length (a ∷ b ∷ l)) (omega arith)) (with-two (nat_eq a 48) (nat_eq b 120))

pub hexadecimal : (field digits : List ℕ) → pointwise nat_eq (take 2 field) (48 ∷ 120 ∷ []) ≡ true → digits ≡ drop 2 field → digits_in 16 digits ≡ number_in field
unfolding number_in
hexadecimal field digits p e = ap (digits_in 16) e ∙ sym (pick_true _ _ _ (sym (prefix-is field) ∙ p))

pub decimal : (field : List ℕ) → pointwise nat_eq (take 2 field) (48 ∷ 120 ∷ []) ≡ false → digits_in 10 field ≡ number_in field
unfolding number_in
decimal field p = sym (pick-false _ _ _ (sym (prefix-is field) ∙ p))
