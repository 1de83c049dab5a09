-- A name by its words: the rules of a name, and names that are the same.
-- Assumes nothing.
use mathlib.Core.Path.{◌≡◌, refl, sym, ap, ◌∙◌}
use mathlib.Core.Bool.{Bool, true, false, not}
use mathlib.Core.List.{List, [], ◌∷◌}
use Prim.Native.Nat.{ℕ, ◌+◌, ◌-◌, ◌*◌, ◌/◌, ◌%◌, ◌<◌, ◌≤◌}
use native.Mathlib.Nat.{mod-mod}
use native.Mathlib.Omega.{arith}
use lib.ListN.{length, get_or, get_or-eq_default}
use lib.Dec.{ltb, eqb}
use borrow.Author.Tests.{eq-eqb, ne_eqb, eqb-true, eqb-false, le-leb, leb-true, ltb-true, ltb-false, not-true}
use Rattle.wire.specs.BigEndian.{byte_at, number_at}
use Rattle.basics.specs.Choice.{◌and◌, every, tabulate}
use Rattle.model.specs.Layout.{word_byte, word_bytes}
use Rattle.model.specs.Devices.{padding_bytes, same_name}
use Rattle.basics.proofs.Choice.{both, join, and-false, every-at, every-make, every-same, tabulate-at, tabulate-length, each_of}
use Rattle.names.specs.NameWords.{whole_word, last_word, same_bytes, held_byte, held_bytes, padded, holds_name}
use Rattle.names.proofs.Bytes.{test-same, whole-byte, last-before, last-after, bytes-instead, number-byte}

-- the byte of a list past its end
pub byte_past : (b : List ℕ) (k : ℕ) → length b ≤ k → byte_at b k ≡ 0
unfolding byte_at
byte_past b k h = ap (λ (n : ℕ). n % 256) (get_or-eq_default b 0 h)

-- the place of the zero in its word, and that word, of a name of n bytes
abbrev zero_place : ℕ → ℕ
zero_place n = (n - 1) % word_bytes

abbrev last_place : ℕ → ℕ
last_place n = (n - 1) / word_bytes

module _ (l : List ℕ) (from : ℕ) where
  held-byte : (x q k : ℕ) → x ≡ q * word_bytes + k → k < word_bytes → held_byte l from x ≡ word_byte (get_or l (from + q) 0) k
  unfolding held_byte
  held-byte x q k e h =
      let p : x / word_bytes ≡ q = omega arith in
      let r : x % word_bytes ≡ k = omega arith in
      rw (p, r)

  -- what follows n bytes in their last word
  after-name : (n : ℕ) → 1 ≤ n → padded l from n ≡ true → (x : ℕ) → n ≤ x → x < (last_place n + 1) * word_bytes → held_byte l from x ≡ 0
  unfolding padded
  after-name n some e x h k =
      let y : n + (x - n) ≡ x = omega arith in
      ap (held_byte l from) (sym y)
      ∙ eqb-true _ 0 (every-at (λ k. eqb (held_byte l from (n + k)) 0) _ (x - n) e (omega arith))

-- The rules of a name.
module _ (l : List ℕ) (from n most : ℕ) where
  pub record NameRules : Type 0 where
    pub some : 1 ≤ n
    pub few : n ≤ most
    pub ends : held_byte l from (n - 1) ≡ 0
    pub none : (x : ℕ) → x < n - 1 → held_byte l from x ≡ 0 → ⊥
    pub padding : padded l from n ≡ true

  pub name-rules : holds_name l from n most ≡ true → NameRules
  unfolding holds_name
  name-rules e =
      let h = each_of (_ ∷ _ ∷ _ ∷ _ ∷ _ ∷ []) e in
      record {
        some = omega (arith, leb-true);
        few = omega (arith, leb-true);
        ends = omega (arith, eqb-true);
        none = λ x k. eqb-false _ 0 (not-true _ (every-at (λ k. not (eqb (held_byte l from k) 0)) _ x (cc) k));
        padding = cc;
      }

  name-made : NameRules → holds_name l from n most ≡ true
  unfolding holds_name
  name-made r =
      join _ _ (le-leb _ _ r.some)
      (join _ _ (le-leb _ _ r.few)
      (join _ _ (eq-eqb _ 0 r.ends)
      (join _ _ (every-make (λ k. not (eqb (held_byte l from k) 0)) (n - 1) (λ k h. ap not (ne_eqb _ 0 (r.none k h))))
      r.padding)))

  -- its zero, and what follows it in its last word
  zeros : NameRules → (x : ℕ) → n - 1 ≤ x → x < (last_place n + 1) * word_bytes → held_byte l from x ≡ 0
  zeros r x h k = go (eqb x (n - 1)) refl
    where
      go : (b : Bool) → eqb x (n - 1) ≡ b → held_byte l from x ≡ 0
      go true d = ap (held_byte l from) (eqb-true x (n - 1) d) ∙ r.ends
      go false d =
          let m = eqb-false x (n - 1) d in
          after-name l from n r.some r.padding x (omega (arith, r.some)) k

  -- where its length is in bounds, its words decide
  module _ (some : 1 ≤ n) (few : n ≤ most) where
    abbrev words_keep : Bool
    words_keep =
        every (last_place n) (λ q. whole_word (get_or l (from + q) 0))
        and last_word (get_or l (from + last_place n) 0) (zero_place n)

    words-there : holds_name l from n most ≡ true → words_keep ≡ true
    unfolding whole_word last_word
    words-there e =
        let r = name-rules e in
        let none : (q k : ℕ) → k < word_bytes → q * word_bytes + k < n - 1 → not (eqb (word_byte (get_or l (from + q) 0) k) 0) ≡ true = λ q k h m. ap not (ne_eqb _ 0 (λ z. r.none (q * word_bytes + k) m (held-byte l from _ q k refl h ∙ z))) in
        join _ _ (every-make _ (last_place n) (λ q h. every-make _ word_bytes (λ k m. none q k m (omega arith))))
        (join _ _ (every-make _ (zero_place n) (λ k m. none (last_place n) k (omega arith) (omega arith)))
        (every-make _ _ (λ k m. eq-eqb _ 0 (sym (held-byte l from (last_place n * word_bytes + (zero_place n + k)) (last_place n) _ refl (omega arith)) ∙ zeros r _ (omega arith) (omega arith)))))

    none-back : words_keep ≡ true → (x : ℕ) → x < n - 1 → held_byte l from x ≡ 0 → ⊥
    none-back e x h z = go (ltb (x / word_bytes) (last_place n)) refl
      where
        at-word : (q : ℕ) → q ≡ x / word_bytes → not (eqb (word_byte (get_or l (from + q) 0) (x % word_bytes)) 0) ≡ true → ⊥
        at-word q d t = eqb-false _ 0 (not-true _ t) (sym (held-byte l from x q (x % word_bytes) (omega arith) (omega arith)) ∙ z)

        go : (b : Bool) → ltb (x / word_bytes) (last_place n) ≡ b → ⊥
        go true d =
            at-word (x / word_bytes) refl
            (whole-byte _ (x % word_bytes) (every-at _ _ (x / word_bytes) (both _ _ e).0 (ltb-true _ _ d)) (omega arith))
        go false d =
            let m = ltb-false (x / word_bytes) (last_place n) d in
            at-word (last_place n) (omega arith) (last-before _ _ (x % word_bytes) (both _ _ e).1 (omega arith))

    zeros-back : words_keep ≡ true → (x : ℕ) → n - 1 ≤ x → x < (last_place n + 1) * word_bytes → held_byte l from x ≡ 0
    zeros-back e x h k =
        held-byte l from x (last_place n) (zero_place n + (x % word_bytes - zero_place n)) (omega arith) (omega arith)
        ∙ last-after _ _ (x % word_bytes - zero_place n) (both _ _ e).1 (omega arith)

    words_back : words_keep ≡ true → holds_name l from n most ≡ true
    words_back e =
        name-made (record {
          some = some;
          few = few;
          ends = zeros-back e (n - 1) (omega arith) (omega arith);
          none = none-back e;
          padding = unfold padded in (every-make (λ k. eqb (held_byte l from (n + k)) 0) (padding_bytes n) (λ k h. eq-eqb _ 0 (zeros-back e (n + k) (omega arith) (omega arith))));
        })

    pub name-words : words_keep ≡ holds_name l from n most
    name-words = test-same _ _ words_back words-there

-- The bytes that are held are the list b.
byte-of-name : (f : ℕ → ℕ) (n x : ℕ) → x < n → byte_at (tabulate f n) x ≡ f x % 256
unfolding byte_at
byte-of-name f n x h = ap (λ (v : ℕ). v % 256) (tabulate-at f n x 0 h)

module _ (l : List ℕ) (from n : ℕ) where
  held-is-byte : (x : ℕ) → held_byte l from x % 256 ≡ held_byte l from x
  unfolding held_byte word_byte
  held-is-byte x = mod-mod _ 256

  held-long : length (held_bytes l from n) ≡ n
  unfolding held_bytes
  held-long = tabulate-length (held_byte l from) n

  pub length-differs : (b : List ℕ) → (n ≡ length b → ⊥) → false ≡ same_name (held_bytes l from n) b
  unfolding same_name
  length-differs b d = sym (and-false _ _ (ne_eqb _ _ (λ e. d (sym held-long ∙ e))))

  module _ (some : 1 ≤ n) (padding : padded l from n ≡ true) where
    -- byte x of the name, past its end too
    named-byte : (x : ℕ) → x < (last_place n + 1) * word_bytes → byte_at (held_bytes l from n) x ≡ held_byte l from x
    unfolding held_bytes
    named-byte x h = go (ltb x n) refl
      where
        go : (b : Bool) → ltb x n ≡ b → byte_at (tabulate (held_byte l from) n) x ≡ held_byte l from x
        go true d = byte-of-name _ _ x (ltb-true _ _ d) ∙ held-is-byte x
        go false d =
            let m = ltb-false x n d in
            byte_past _ x (omega (arith, tabulate-length (held_byte l from) n)) ∙ sym (after-name l from n some padding x (omega arith) h)

    module _ (b : List ℕ) (long : length b ≡ n) where
      abbrev same_words : Bool
      same_words = every (last_place n + 1) (λ q. same_bytes (get_or l (from + q) 0) (number_at b (q * word_bytes) word_bytes))

      same-there : same_name (held_bytes l from n) b ≡ true → same_words ≡ true
      unfolding same_name same_bytes
      same-there e =
          every-make _ _
          (λ q h. every-make _ word_bytes
          (λ k m. eq-eqb _ _
          (sym (held-byte l from (q * word_bytes + k) q k refl m) ∙ sym (named-byte (q * word_bytes + k) (omega arith)) ∙ byte-same (q * word_bytes + k) (ltb (q * word_bytes + k) n) refl ∙ sym (number-byte b (q * word_bytes) k m))))
        where
          byte-same : (x : ℕ) → (t : Bool) → ltb x n ≡ t → byte_at (held_bytes l from n) x ≡ byte_at b x
          byte-same x true d = let m = ltb-true x n d in eqb-true _ _ (every-at (λ k. eqb (byte_at (held_bytes l from n) k) (byte_at b k)) _ x (both _ _ e).1 (omega (arith, held-long)))
          byte-same x false d = let m = ltb-false x n d in byte_past _ x (omega (arith, held-long)) ∙ sym (byte_past b x (omega arith))

      same_back : same_words ≡ true → same_name (held_bytes l from n) b ≡ true
      unfolding same_name same_bytes
      same_back e =
          join _ _ (eq-eqb _ _ (held-long ∙ sym long))
          (every-make _ _
          (λ x h. eq-eqb _ _
          (let m : x < n = omega (arith, held-long) in
          let w : x / word_bytes * word_bytes + x % word_bytes ≡ x = omega arith in
          named-byte x (omega arith)
          ∙ held-byte l from x (x / word_bytes) (x % word_bytes) (omega arith) (omega arith)
          ∙ eqb-true _ _ (every-at _ word_bytes (x % word_bytes) (every-at _ _ (x / word_bytes) e (omega arith)) (omega arith))
          ∙ number-byte b (x / word_bytes * word_bytes) (x % word_bytes) (omega arith)
          ∙ ap (byte_at b) w)))

      pub same-words : same_words ≡ same_name (held_bytes l from n) b
      same-words = test-same _ _ same_back same-there

-- of two names in words, as many bytes each
pub lengths_differ : (l : List ℕ) (a n b m : ℕ) → (n ≡ m → ⊥) → false ≡ same_name (held_bytes l a n) (held_bytes l b m)
lengths_differ l a n b m d = length-differs l a n (held_bytes l b m) (λ e. d (e ∙ held-long l b m))

pub pair-words : (l : List ℕ) (a n b m : ℕ) → 1 ≤ n → padded l a n ≡ true → padded l b m ≡ true → n ≡ m
    → every (last_place n + 1) (λ q. same_bytes (get_or l (a + q) 0) (get_or l (b + q) 0)) ≡ same_name (held_bytes l a n) (held_bytes l b m)
pair-words l a n b m some p q e =
    every-same _ _ _
    (λ j h. sym (bytes-instead _ _ _
    (λ k t. number-byte _ (j * word_bytes) k t ∙ named-byte l b m (omega arith) q (j * word_bytes + k) (omega arith) ∙ held-byte l b (j * word_bytes + k) j k refl t)))
    ∙ same-words l a n some p (held_bytes l b m) (held-long l b m ∙ sym e)
