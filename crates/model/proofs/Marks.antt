-- The bits of a word: one that is set or cleared, and the others as they were.
-- Assumes nothing.
use mathlib.Core.Path.{◌≡◌, refl}
use mathlib.Core.Bool.{Bool, true, false}
use Prim.Native.Nat.{ℕ, zero, suc, ◌+◌, ◌-◌, ◌*◌, ◌/◌, ◌%◌, ◌^◌, ◌<◌}
use native.Mathlib.Nat.{pow-suc, mul-mod_left, div_self, div-eq_of_lt, mul-div_cancel, zero-div, mod-eq_of_lt, mul-add-div_right, mul-add-mod_self_right, mul_assoc}
use native.Mathlib.Omega.{arith}
use lib.Dec.{ltb}
use lib.Pow.{pow-lt, pow-add, pow_pos, high}
use lib.Bits.{bit_and, bit_or, bit_xor, or_shr, or_mod, and_shr, and_mod, xor_shr, xor_mod, or_zero_r, and_zero_r, xor_zero_r, xor_self}
use borrow.Author.Tests.{ltb-true, ltb-false}
use Rattle.model.specs.Layout.{bit_of, bit_set, bit_cleared}

pub bit-few : (w p : ℕ) → bit_of w p < 2
unfolding bit_of
bit-few w p = omega arith

pub no-bit : (p : ℕ) → bit_of 0 p ≡ 0
unfolding bit_of
no-bit p = rw (zero-div (2 ^ p))

-- those of a power of two
own_power : (p : ℕ) → bit_of (2 ^ p) p ≡ 1
unfolding bit_of
own_power p = rw (div_self (pow_pos p))

other-power : (p q : ℕ) → (q ≡ p → ⊥) → bit_of (2 ^ p) q ≡ 0
unfolding bit_of
other-power p q n = go (ltb p q) refl
  where
    above : (d : ℕ) → 2 ^ (suc d + q) / 2 ^ q % 2 ≡ 0
    above d = rw (pow-add 2 (suc d) q, mul-div_cancel (2 ^ suc d) (pow_pos q), pow-suc 2 d) (mul-mod_left (2 ^ d) 2)

    go : (b : Bool) → ltb p q ≡ b → 2 ^ p / 2 ^ q % 2 ≡ 0
    go true e = rw (div-eq_of_lt (pow-lt (ltb-true p q e)))
    go false e =
        let l = ltb-false p q e in
        let s : p ≡ suc (p - q - 1) + q = omega arith in
        rw s (above (p - q - 1))

-- bit by bit
or-bit : (a b q : ℕ) → bit_of (bit_or a b) q ≡ bit_or (bit_of a q) (bit_of b q)
unfolding bit_of
or-bit a b q = rw (or_shr a b q) (or_mod (a / 2 ^ q) (b / 2 ^ q) 1)

and-bit : (a b q : ℕ) → bit_of (bit_and a b) q ≡ bit_and (bit_of a q) (bit_of b q)
unfolding bit_of
and-bit a b q = rw (and_shr a b q) (and_mod (a / 2 ^ q) (b / 2 ^ q) 1)

xor-bit : (a b q : ℕ) → bit_of (bit_xor a b) q ≡ bit_xor (bit_of a q) (bit_of b q)
unfolding bit_of
xor-bit a b q = rw (xor_shr a b q) (xor_mod (a / 2 ^ q) (b / 2 ^ q) 1)

or-one : (x : ℕ) → x < 2 → bit_or x 1 ≡ 1
or-one zero h = refl
or-one (suc zero) h = refl
or-one (suc (suc x)) h = absurd (omega arith)

and_one : (x : ℕ) → x < 2 → bit_and x 1 ≡ x
and_one zero h = refl
and_one (suc zero) h = refl
and_one (suc (suc x)) h = absurd (omega arith)

pub set_same : (w p : ℕ) → bit_of (bit_set w p) p ≡ 1
unfolding bit_set
set_same w p = rw (or-bit w (2 ^ p) p, own_power p) (or-one (bit_of w p) (bit-few w p))

pub set_other : (w p q : ℕ) → (q ≡ p → ⊥) → bit_of (bit_set w p) q ≡ bit_of w q
unfolding bit_set
set_other w p q n = rw (or-bit w (2 ^ p) q, other-power p q n) (or_zero_r (bit_of w q))

cleared-bit : (w p q : ℕ) → bit_of (bit_cleared w p) q ≡ bit_xor (bit_of w q) (bit_and (bit_of w q) (bit_of (2 ^ p) q))
unfolding bit_cleared
cleared-bit w p q = rw (xor-bit w (bit_and w (2 ^ p)) q, and-bit w (2 ^ p) q)

pub cleared-same : (w p : ℕ) → bit_of (bit_cleared w p) p ≡ 0
cleared-same w p = rw (cleared-bit w p p, own_power p, and_one (bit_of w p) (bit-few w p)) (xor_self (bit_of w p))

pub cleared-other : (w p q : ℕ) → (q ≡ p → ⊥) → bit_of (bit_cleared w p) q ≡ bit_of w q
cleared-other w p q n = rw (cleared-bit w p q, other-power p q n, and_zero_r (bit_of w q)) (xor_zero_r (bit_of w q))

-- a bit above a word of n bits, and the bits of that word
pub top_bit : (x w n : ℕ) → x < 2 → w < 2 ^ n → bit_of (x * 2 ^ n + w) n ≡ x
unfolding bit_of
top_bit x w n h l = rw (high x n l) (mod-eq_of_lt h)

pub low_bit : (x w n p : ℕ) → p < n → bit_of (x * 2 ^ n + w) p ≡ bit_of w p
unfolding bit_of
low_bit x w n p h =
    let e : n ≡ suc (n - p - 1) + p = omega arith in
    rw e (go (n - p - 1))
  where
    go : (d : ℕ) → (x * 2 ^ (suc d + p) + w) / 2 ^ p % 2 ≡ w / 2 ^ p % 2
    go d =
        rw (pow-add 2 (suc d) p, ← mul_assoc x (2 ^ suc d) (2 ^ p), mul-add-div_right (pow_pos p) (x * 2 ^ suc d) w, pow-suc 2 d, ← mul_assoc x (2 ^ d) 2)
        (mul-add-mod_self_right (x * 2 ^ d) 2 (w / 2 ^ p))
