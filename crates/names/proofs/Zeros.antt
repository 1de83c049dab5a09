-- The bytes of a word that are 0, all at once: 0x7f added to the low seven bits of each byte carries into its top bit, unless they are 0.
-- Assumes nothing.
use mathlib.Core.Path.{◌≡◌, refl, sym, ap, ◌∙◌}
use mathlib.Core.Bool.{Bool, true, false, not}
use Prim.Native.Nat.{ℕ, zero, suc, ◌+◌, ◌-◌, ◌*◌, ◌/◌, ◌%◌, ◌^◌, ◌<◌, ◌≤◌}
use native.Mathlib.Nat.{pow-suc, div-div-eq-div-mul, div-one, mul_comm, mod-eq_of_lt}
use native.Mathlib.Omega.{arith}
use lib.Dec.{eqb, ltb}
use lib.Bits.{or_shr, or_mod, and_shr, and_mod, and_mask, or_zero_r, bit_and, bit_or, bit_xor, and_block, or_block, xor_block, and_zero_r, and_le_l, and_le_r, or_add_and, or_lt}
use borrow.Author.Tests.{eq-eqb, ne_eqb, eqb-true, eqb-false, not-true, lt-ltb, le-ltb, ltb-true, ltb-false}
use Rattle.basics.specs.Choice.{pick, ◌and◌, every}
use Rattle.model.specs.Layout.{word_bytes, word_byte}
use Rattle.basics.proofs.Choice.{every-at, every-make, clash, join, pick_true, pick-false}
use Rattle.basics.proofs.Loops.{refute}
use Rattle.names.specs.NameWords.{whole_word, last_word}
use Rattle.names.proofs.Bytes.{test-same, whole-byte, last-before, last-after, zero-byte, zero_word}

-- the low seven bits of n bytes, and their top bits
abbrev pub low_bits : ℕ → ℕ
low_bits zero = 0
low_bits (suc n) = low_bits n * 256 + 127

abbrev pub top_bits : ℕ → ℕ
top_bits zero = 0
top_bits (suc n) = top_bits n * 256 + 128

-- the top bits of those of n bytes that are 0; of one byte
abbrev pub zero_bits : ℕ → ℕ → ℕ
zero_bits n w = bit_xor (bit_and (bit_or (bit_and w (low_bits n) + low_bits n) w) (top_bits n)) (top_bits n)

unfoldable zero_bit : ℕ → ℕ
zero_bit x = bit_xor (bit_and (bit_or (bit_and x 127 + 127) x) 128) 128

-- looked up, byte by byte
unfoldable alike : Bool → Bool → Bool
alike true b = b
alike false b = not b

alike_same : (a b : Bool) → alike a b ≡ true → a ≡ b
unfolding alike
alike_same true b e = sym e
alike_same false b e = sym (not-true b e)

looked-up : every 256 (λ x. alike (eqb (zero_bit x) 0) (not (eqb x 0))) ≡ true
unfolding every ◌and◌ alike zero_bit
looked-up = refl

byte-law : (x : ℕ) → x < 256 → eqb (zero_bit x) 0 ≡ not (eqb x 0)
byte-law x h = alike_same _ _ (every-at (λ x. alike (eqb (zero_bit x) 0) (not (eqb x 0))) 256 x looked-up h)

-- the lowest byte apart
split : (n a x : ℕ) → x < 256 → zero_bits (suc n) (a * 256 + x) ≡ zero_bits n a * 256 + zero_bit x
unfolding zero_bit
split n a x h =
    let l = and_le_r x 127 in
    let b : bit_and x 127 + 127 < 256 = omega (arith, l) in
    let sum : bit_and a (low_bits n) * 256 + bit_and x 127 + (low_bits n * 256 + 127) ≡ (bit_and a (low_bits n) + low_bits n) * 256 + (bit_and x 127 + 127) = omega arith in
    let o = or_lt 8 (bit_and x 127 + 127) x b h in
    let m = and_le_r (bit_or (bit_and x 127 + 127) x) 128 in
    rw (
      and_block 8 a (low_bits n) x 127 h (omega arith),
      sum,
      or_block 8 (bit_and a (low_bits n) + low_bits n) a (bit_and x 127 + 127) x b h,
      and_block 8 (bit_or (bit_and a (low_bits n) + low_bits n) a) (top_bits n) (bit_or (bit_and x 127 + 127) x) 128 o (omega arith),
    )
    (xor_block 8 (bit_and (bit_or (bit_and a (low_bits n) + low_bits n) a) (top_bits n)) (top_bits n) (bit_and (bit_or (bit_and x 127 + 127) x) 128) 128 (omega (arith, m)) (omega arith))

-- byte j of a word from its end on
abbrev low_byte : ℕ → ℕ → ℕ
low_byte w j = w / 256 ^ j % 256

lowest : (w : ℕ) → low_byte w 0 ≡ w % 256
lowest w = rw div-one

next-byte : (w j : ℕ) → low_byte (w / 256) j ≡ low_byte w (suc j)
next-byte w j = ap (λ (n : ℕ). n % 256) (div-div-eq-div-mul w 256 (256 ^ j) ∙ ap (λ (n : ℕ). w / n) (mul_comm 256 (256 ^ j) ∙ sym (pow-suc 256 j)))

parts : (w : ℕ) → w ≡ w / 256 * 256 + w % 256
parts w = omega arith

split-word : (n w : ℕ) → zero_bits (suc n) w ≡ zero_bits n (w / 256) * 256 + zero_bit (w % 256)
split-word n w = ap (zero_bits (suc n)) (parts w) ∙ split n (w / 256) (w % 256) (omega arith)

pub none-zero : (n w : ℕ) → zero_bits n w ≡ 0 → (j : ℕ) → j < n → low_byte w j ≡ 0 → ⊥
none-zero zero w e j h z = omega arith
none-zero (suc n) w e zero h z =
    let last : zero_bit (w % 256) ≡ 0 = omega (arith, split-word n w) in
    clash _ (not-true _ (sym (byte-law (w % 256) (omega arith)) ∙ eq-eqb _ 0 last)) (eq-eqb _ 0 (sym (lowest w) ∙ z))
none-zero (suc n) w e (suc j) h z =
    none-zero n (w / 256) (omega (arith, split-word n w)) j (omega arith) (next-byte w j ∙ z)

pub all-other : (n w : ℕ) → ((j : ℕ) → j < n → low_byte w j ≡ 0 → ⊥) → zero_bits n w ≡ 0
all-other zero w f = rw and_zero_r
all-other (suc n) w f =
    let rest = all-other n (w / 256) (λ j h z. f (suc j) (omega arith) (sym (next-byte w j) ∙ z)) in
    let last : zero_bit (w % 256) ≡ 0 = eqb-true _ 0 (byte-law (w % 256) (omega arith) ∙ ap not (ne_eqb (w % 256) 0 (λ z. f 0 (omega arith) (lowest w ∙ z)))) in
    split-word n w ∙ omega (arith, rest, last)

-- no byte of the word is 0
pub zeros_law : (w : ℕ) → eqb (zero_bits word_bytes w) 0 ≡ whole_word w
unfolding whole_word word_byte
zeros_law w =
    test-same _ _
    (λ e. every-make (λ k. not (eqb (w / 256 ^ (word_bytes - 1 - k) % 256) 0)) word_bytes (λ k h. ap not (ne_eqb _ 0 (none-zero word_bytes w (eqb-true _ 0 e) (word_bytes - 1 - k) (omega arith)))))
    (λ e. eq-eqb _ 0 (all-other word_bytes w (λ j h z. clash _ (not-true _ (every-at (λ k. not (eqb (w / 256 ^ (word_bytes - 1 - k) % 256) 0)) word_bytes (word_bytes - 1 - j) e (omega arith))) (eq-eqb _ 0 (from_end j h z)))))
  where
    from_end : (j : ℕ) → j < word_bytes → w / 256 ^ j % 256 ≡ 0 → w / 256 ^ (word_bytes - 1 - (word_bytes - 1 - j)) % 256 ≡ 0
    from_end j h z =
        let q : word_bytes - 1 - (word_bytes - 1 - j) ≡ j = omega arith in
        rw q z

-- no bit is set in either of two words
pub or-none : (a b : ℕ) → eqb (bit_or a b) 0 ≡ (eqb a 0 and eqb b 0)
unfolding ◌and◌
or-none a b = go (eqb a 0) refl
  where
    go : (x : Bool) → eqb a 0 ≡ x → eqb (bit_or a b) 0 ≡ (x and eqb b 0)
    go true e = rw (eqb-true a 0 e)
    go false e =
        let n = eqb-false a 0 e in
        ne_eqb (bit_or a b) 0 (λ (z : bit_or a b ≡ 0). n (omega (arith, or_add_and a b, and_le_r a b, z)))

-- so that the sum stays in a word
pub low-most : (w : ℕ) → bit_and w (low_bits word_bytes) ≤ low_bits word_bytes
low-most w = and_le_r w (low_bits word_bytes)

-- Bytes of words that are put together bit by bit.
module _ (v w : ℕ) where
  byte_or : (k : ℕ) → k < word_bytes → word_byte (bit_or v w) k ≡ bit_or (word_byte v k) (word_byte w k)
  unfolding word_byte
  byte_or zero h = rw (or_shr v w 56) (or_mod (v / 2 ^ 56) (w / 2 ^ 56) 8)
  byte_or (suc zero) h = rw (or_shr v w 48) (or_mod (v / 2 ^ 48) (w / 2 ^ 48) 8)
  byte_or (suc (suc zero)) h = rw (or_shr v w 40) (or_mod (v / 2 ^ 40) (w / 2 ^ 40) 8)
  byte_or (suc (suc (suc zero))) h = rw (or_shr v w 32) (or_mod (v / 2 ^ 32) (w / 2 ^ 32) 8)
  byte_or (suc (suc (suc (suc zero)))) h = rw (or_shr v w 24) (or_mod (v / 2 ^ 24) (w / 2 ^ 24) 8)
  byte_or (suc (suc (suc (suc (suc zero))))) h = rw (or_shr v w 16) (or_mod (v / 2 ^ 16) (w / 2 ^ 16) 8)
  byte_or (suc (suc (suc (suc (suc (suc zero)))))) h = rw (or_shr v w 8) (or_mod (v / 2 ^ 8) (w / 2 ^ 8) 8)
  byte_or (suc (suc (suc (suc (suc (suc (suc zero))))))) h = rw (or_shr v w 0) (or_mod (v / 2 ^ 0) (w / 2 ^ 0) 8)
  byte_or (suc (suc (suc (suc (suc (suc (suc (suc k)))))))) h = absurd (omega arith)

  byte-and : (k : ℕ) → k < word_bytes → word_byte (bit_and v w) k ≡ bit_and (word_byte v k) (word_byte w k)
  unfolding word_byte
  byte-and zero h = rw (and_shr v w 56) (and_mod (v / 2 ^ 56) (w / 2 ^ 56) 8)
  byte-and (suc zero) h = rw (and_shr v w 48) (and_mod (v / 2 ^ 48) (w / 2 ^ 48) 8)
  byte-and (suc (suc zero)) h = rw (and_shr v w 40) (and_mod (v / 2 ^ 40) (w / 2 ^ 40) 8)
  byte-and (suc (suc (suc zero))) h = rw (and_shr v w 32) (and_mod (v / 2 ^ 32) (w / 2 ^ 32) 8)
  byte-and (suc (suc (suc (suc zero)))) h = rw (and_shr v w 24) (and_mod (v / 2 ^ 24) (w / 2 ^ 24) 8)
  byte-and (suc (suc (suc (suc (suc zero))))) h = rw (and_shr v w 16) (and_mod (v / 2 ^ 16) (w / 2 ^ 16) 8)
  byte-and (suc (suc (suc (suc (suc (suc zero)))))) h = rw (and_shr v w 8) (and_mod (v / 2 ^ 8) (w / 2 ^ 8) 8)
  byte-and (suc (suc (suc (suc (suc (suc (suc zero))))))) h = rw (and_shr v w 0) (and_mod (v / 2 ^ 0) (w / 2 ^ 0) 8)
  byte-and (suc (suc (suc (suc (suc (suc (suc (suc k)))))))) h = absurd (omega arith)

-- the bits from byte `end` of a word on
abbrev pub rest_bits : ℕ → ℕ
rest_bits end = 18446744073709551615 / 2 ^ (end * 8)

unfoldable rest_test : ℕ → ℕ → Bool
rest_test end k = eqb (word_byte (rest_bits end) k) (pick (ltb k end) 0 255)

rest-looked-up : every word_bytes (λ end. every word_bytes (rest_test end)) ≡ true
unfolding every ◌and◌ rest_test word_byte pick
rest-looked-up = refl

module _ (end k : ℕ) (he : end < word_bytes) (hk : k < word_bytes) where
  rest-byte : word_byte (rest_bits end) k ≡ pick (ltb k end) 0 255
  unfolding rest_test
  rest-byte = eqb-true _ _ (every-at (rest_test end) word_bytes k (every-at (λ end. every word_bytes (rest_test end)) word_bytes end rest-looked-up he) hk)

  rest-before : k < end → word_byte (rest_bits end) k ≡ 0
  rest-before l = rest-byte ∙ pick_true _ _ _ (lt-ltb k end l)

  rest-after : end ≤ k → word_byte (rest_bits end) k ≡ 255
  rest-after l = rest-byte ∙ pick-false _ _ _ (le-ltb k end l)

byte_small : (w k : ℕ) → word_byte w k < 256
unfolding word_byte
byte_small w k = omega arith

-- the word with those bits set, and those bits of it
module _ (w end k : ℕ) (he : end < word_bytes) (hk : k < word_bytes) where
  or-before : k < end → word_byte (bit_or w (rest_bits end)) k ≡ word_byte w k
  or-before l = byte_or w (rest_bits end) k hk ∙ rw (rest-before end k he hk l, or_zero_r)

  or-after : end ≤ k → word_byte (bit_or w (rest_bits end)) k ≡ 0 → ⊥
  or-after l z =
      let q : bit_or (word_byte w k) 255 ≡ 0 = ap (bit_or (word_byte w k)) (sym (rest-after end k he hk l)) ∙ sym (byte_or w (rest_bits end) k hk) ∙ z in
      omega (arith, or_add_and (word_byte w k) 255, and_le_l (word_byte w k) 255, q)

  and-before : k < end → word_byte (bit_and w (rest_bits end)) k ≡ 0
  and-before l = byte-and w (rest_bits end) k hk ∙ rw (rest-before end k he hk l, and_zero_r)

  and-after : end ≤ k → word_byte (bit_and w (rest_bits end)) k ≡ word_byte w k
  and-after l =
      byte-and w (rest_bits end) k hk
      ∙ rw (rest-after end k he hk l) (and_mask (word_byte w k) 8 ∙ mod-eq_of_lt (byte_small w k))

-- The last word of a name.
pub rest-fails : (w end : ℕ) → end < word_bytes → (bit_and w (rest_bits end) ≡ 0 → ⊥) → w < 256 ^ word_bytes → false ≡ last_word w end
rest-fails w end he n small =
    refute _
    (λ t. n (zero_word (bit_and w (rest_bits end)) (omega (arith, and_le_l w (rest_bits end)))
    (λ k hk. go t k hk (ltb k end) refl)))
  where
    go : last_word w end ≡ true → (k : ℕ) → k < word_bytes → (b : Bool) → ltb k end ≡ b → word_byte (bit_and w (rest_bits end)) k ≡ 0
    go t k hk true e = and-before w end k he hk (ltb-true k end e)
    go t k hk false e =
        let l = ltb-false k end e in
        let q : end + (k - end) ≡ k = omega arith in
        and-after w end k he hk l ∙ rw q at (last-after w end (k - end) t (omega arith))

pub rest-law : (w end : ℕ) → end < word_bytes → bit_and w (rest_bits end) ≡ 0 → whole_word (bit_or w (rest_bits end)) ≡ last_word w end
rest-law w end he z = test-same _ _ there back
  where
    there : whole_word (bit_or w (rest_bits end)) ≡ true → last_word w end ≡ true
    there t =
        unfold last_word in
        (join _ _
        (every-make (λ k. not (eqb (word_byte w k) 0)) end (λ k l. rw (sym (or-before w end k he (omega arith) l)) (whole-byte (bit_or w (rest_bits end)) k t (omega arith))))
        (every-make (λ k. eqb (word_byte w (end + k)) 0) (word_bytes - end)
        (λ k l. eq-eqb _ 0 (sym (and-after w end (end + k) he (omega arith) (omega arith)) ∙ ap (λ (x : ℕ). word_byte x (end + k)) z ∙ zero-byte (end + k)))))

    other : last_word w end ≡ true → (k : ℕ) → k < word_bytes → (b : Bool) → ltb k end ≡ b → not (eqb (word_byte (bit_or w (rest_bits end)) k) 0) ≡ true
    other t k hk true e = rw (or-before w end k he hk (ltb-true k end e)) (last-before w end k t (ltb-true k end e))
    other t k hk false e = ap not (ne_eqb _ 0 (or-after w end k he hk (ltb-false k end e)))

    back : last_word w end ≡ true → whole_word (bit_or w (rest_bits end)) ≡ true
    back t = unfold whole_word in (every-make _ word_bytes (λ k hk. other t k hk (ltb k end) refl))
