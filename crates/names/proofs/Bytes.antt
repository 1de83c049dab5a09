-- The bytes of a word: those of a word before the last of a name, of the last one, and of words that are the same.
-- Assumes nothing.
use mathlib.Core.Path.{◌≡◌, refl, sym, ap, ◌∙◌}
use mathlib.Core.Bool.{Bool, true, false, not, ◌&&◌}
use mathlib.Core.List.{List, [], ◌++◌}
use Prim.Native.Nat.{ℕ, ◌+◌, ◌-◌, ◌*◌, ◌/◌, ◌%◌, ◌^◌, ◌<◌}
use native.Mathlib.Nat.{zero-div, mod-eq_of_lt, mod-mod, mul-add-mod_self_right}
use native.Mathlib.Numerals.{add-one}
use native.Mathlib.Omega.{arith}
use lib.Arith.{digits_div}
use lib.Dec.{eqb}
use borrow.Author.Tests.{eq-eqb, eqb-true}
use Rattle.wire.specs.BigEndian.{byte_at, number_at, bytes_of}
use Rattle.wire.proofs.Laws.{number-split, number_bound, number-of-bytes}
use Rattle.basics.specs.Choice.{◌and◌, tabulate}
use Rattle.model.specs.Layout.{word_bytes, word_byte}
use Rattle.basics.proofs.Choice.{both, every-at, every-make, every-same, tabulate-same}
use Rattle.basics.proofs.Loops.{refute, every-fails}
use Rattle.names.specs.NameWords.{whole_word, last_word, same_bytes}

-- two tests that follow from each other are the same
pub test-same : (a b : Bool) → (a ≡ true → b ≡ true) → (b ≡ true → a ≡ true) → a ≡ b
test-same true b f g = sym (f refl)
test-same false true f g = g refl
test-same false false f g = refl

-- both tests, as the definitions say it
pub both-pass : (a b : Bool) → (a && b) ≡ (a and b)
unfolding ◌and◌
both-pass true b = refl
both-pass false b = refl

-- past a test that passed, the next decides
pub and-next : (a b : Bool) → a ≡ true → (a and b) ≡ b
unfolding ◌and◌
and-next a b e = rw e

pub whole-fails : (w k : ℕ) → k < word_bytes → word_byte w k ≡ 0 → false ≡ whole_word w
unfolding whole_word
whole-fails w k h e =
    every-fails (λ (j : ℕ). not (eqb (word_byte w j) 0)) word_bytes k h (rw (eq-eqb (word_byte w k) 0 e))

-- the bytes of such words
pub whole-byte : (w k : ℕ) → whole_word w ≡ true → k < word_bytes → not (eqb (word_byte w k) 0) ≡ true
unfolding whole_word
whole-byte w k e h = every-at (λ (j : ℕ). not (eqb (word_byte w j) 0)) word_bytes k e h

module _ (w end k : ℕ) (e : last_word w end ≡ true) where
  pub last-before : k < end → not (eqb (word_byte w k) 0) ≡ true
  unfolding last_word
  last-before h = every-at (λ (j : ℕ). not (eqb (word_byte w j) 0)) end k (both _ _ e).0 h

  pub last-after : k < word_bytes - end → word_byte w (end + k) ≡ 0
  unfolding last_word
  last-after h = eqb-true _ 0 (every-at (λ (j : ℕ). eqb (word_byte w (end + j)) 0) (word_bytes - end) k (both _ _ e).1 h)

-- Byte j of a word from the last one on, and its division by 256 that many times.
abbrev pub low_byte : ℕ → ℕ → ℕ
low_byte w j = w / 256 ^ j % 256

low-byte : (w k j : ℕ) → k + j ≡ word_bytes - 1 → word_byte w k ≡ low_byte w j
unfolding word_byte
low-byte w k j e =
    let q : word_bytes - 1 - k ≡ j = omega arith in
    ap (λ (n : ℕ). w / 256 ^ n % 256) q

-- Words with the same bytes are the same.
bytes-are : (w : ℕ) → bytes_of word_bytes w ≡ tabulate (word_byte w) word_bytes
unfolding bytes_of tabulate word_byte
bytes-are w = refl

same_word : (v w : ℕ) → v < 256 ^ word_bytes → w < 256 ^ word_bytes → same_bytes v w ≡ true → v ≡ w
unfolding same_bytes
same_word v w hv hw t =
    sym (mod-eq_of_lt hv)
    ∙ sym (number-of-bytes word_bytes v [])
    ∙ ap (λ (l : List ℕ). number_at (l ++ []) 0 word_bytes)
    (bytes-are v
    ∙ tabulate-same (word_byte w) (word_byte v) word_bytes 0 (λ k h. eqb-true _ _ (every-at _ word_bytes k t h))
    ∙ sym (bytes-are w))
    ∙ number-of-bytes word_bytes w []
    ∙ mod-eq_of_lt hw

-- the bytes of 0, and a word whose bytes are all 0
pub zero-byte : (k : ℕ) → word_byte 0 k ≡ 0
unfolding word_byte
zero-byte k = rw zero-div

pub zero_word : (w : ℕ) → w < 256 ^ word_bytes → ((k : ℕ) → k < word_bytes → word_byte w k ≡ 0) → w ≡ 0
zero_word w h f =
    same_word w 0 h (omega arith) (unfold same_bytes in (every-make (λ k. eqb (word_byte w k) (word_byte 0 k)) word_bytes (λ k l. eq-eqb _ _ (f k l ∙ sym (zero-byte k)))))

pub words_same : (v w : ℕ) → v ≡ w → same_bytes v w ≡ true
unfolding same_bytes
words_same v w e = every-make _ word_bytes (λ k h. eq-eqb _ _ (ap (λ (x : ℕ). word_byte x k) e))

pub words-differ : (v w : ℕ) → v < 256 ^ word_bytes → w < 256 ^ word_bytes → (v ≡ w → ⊥) → same_bytes v w ≡ false
words-differ v w hv hw n = sym (refute _ (λ t. n (same_word v w hv hw t)))

-- a word in the place of another that has its bytes
pub bytes-instead : (w v u : ℕ) → ((k : ℕ) → k < word_bytes → word_byte v k ≡ word_byte u k) → same_bytes w v ≡ same_bytes w u
unfolding same_bytes
bytes-instead w v u h = every-same _ _ word_bytes (λ k m. ap (eqb (word_byte w k)) (h k m))

-- a byte of the number in eight bytes of a list
pub number-byte : (b : List ℕ) (at k : ℕ) → k < word_bytes → word_byte (number_at b at word_bytes) k ≡ byte_at b (at + k)
unfolding word_byte
number-byte b at k h =
    ap (λ (n : ℕ). n / 256 ^ (word_bytes - 1 - k) % 256) parts
    ∙ ap (λ (n : ℕ). n % 256) (digits_div (number_at b at (k + 1)) (number_bound b (at + (k + 1)) (word_bytes - 1 - k)))
    ∙ last
  where
    parts : number_at b at word_bytes ≡ number_at b at (k + 1) * 256 ^ (word_bytes - 1 - k) + number_at b (at + (k + 1)) (word_bytes - 1 - k)
    parts =
        let e : word_bytes ≡ k + 1 + (word_bytes - 1 - k) = omega arith in
        ap (number_at b at) e ∙ number-split b at (k + 1) (word_bytes - 1 - k)

    last : number_at b at (k + 1) % 256 ≡ byte_at b (at + k)
    last =
        unfold number_at byte_at in
        (rw (add-one k) (mul-add-mod_self_right _ 256 _ ∙ mod-mod _ 256))
