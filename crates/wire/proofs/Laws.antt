-- Laws of big-endian fields, each over the width, and of stores one after the other.
-- Assumes nothing.
use mathlib.Core.Path.{◌≡◌, refl, sym, ap, ap₂, ◌∙◌, subst}
use mathlib.Core.List.{List, [], ◌∷◌, ◌++◌, append_assoc, append-nil}
use Prim.Native.Nat.{ℕ, zero, suc, ◌+◌, ◌*◌, ◌/◌, ◌%◌, ◌^◌, ◌<◌, ◌≤◌}
use native.Mathlib.Nat.{add-zero, zero-add, add-suc, suc-add, add_assoc, add_comm, add-mul, mul_assoc}
use native.Mathlib.Nat.{pow-suc, pow-succ', zero-lt-suc, one-le-pow, mod-lt, mod-mod, mod-one, mod-eq_of_lt}
use native.Mathlib.Nat.{div-add-mod', div-div-eq-div-mul, mul-add-div_right, mul-add-mod_self_right}
use native.Mathlib.Numerals.{one-add, add-one}
use native.Mathlib.Omega.{arith}
use borrow.Rule.Slice.PartMut.{put_mid}
use lib.Arith.{mod-mul, digits_lt}
use lib.ListN.{length, get_or, set, take, drop, drop_of_length-le}
use lib.Pow.{pow-add}
use lib.Seq.{sets, sets-eq, drop-drop, get_or-append-add, length-take-le, take-suc}
use Rattle.wire.specs.BigEndian.{byte_at, number_at, bytes_of, written}

power_pos : (n : ℕ) → 0 < 256 ^ n
power_pos n = one-le-pow n 256 (zero-lt-suc 255)

-- ---- reading

-- an element that is a byte is the byte there
pub byte-at : (l : List ℕ) (i : ℕ) → get_or l i 0 < 256 → get_or l i 0 ≡ byte_at l i
unfolding byte_at
byte-at l i h = sym (mod-eq_of_lt h)

-- a number of n bytes fits them
pub number_bound : (l : List ℕ) (at n : ℕ) → number_at l at n < 256 ^ n
unfolding number_at byte_at
number_bound l at zero = zero-lt-suc 0
number_bound l at (suc n) =
    rw pow-suc (digits_lt (number_bound l at n) (mod-lt (get_or l (at + n) 0) (zero-lt-suc 255)))

-- a number of a + b bytes is one of a bytes, then one of b
pub number-split : (l : List ℕ) (at a b : ℕ)
    → number_at l at (a + b) ≡ number_at l at a * 256 ^ b + number_at l (at + a) b
unfolding number_at
number-split l at a zero = ap (number_at l at) (add-zero a) ∙ omega arith
number-split l at a (suc b) =
    ap (number_at l at) (add-suc a b)
    ∙ ap₂ (λ (x y : ℕ). x * 256 + byte_at l y) (number-split l at a b) (sym (add_assoc at a b))
    ∙ simp (add-mul, mul_assoc, add_assoc, pow-suc)

-- a field past a front is a field of what follows the front
pub number-after : (a l : List ℕ) (at n : ℕ) → number_at (a ++ l) (length a + at) n ≡ number_at l at n
unfolding number_at byte_at
number-after a l at zero = refl
number-after a l at (suc n) =
    ap₂ (λ (x y : ℕ). x * 256 + y % 256)
    (number-after a l at n)
    (ap (λ (k : ℕ). get_or (a ++ l) k 0) (add_assoc (length a) at n) ∙ get_or-append-add a l (at + n) 0)

-- ---- the bytes of a number

pub length-bytes : (n v : ℕ) → length (bytes_of n v) ≡ n
unfolding bytes_of
length-bytes zero v = refl
length-bytes (suc n) v = ap suc (length-bytes n v)

-- the a + b bytes of a number are the a bytes of its high part, then its low b bytes
pub bytes-split : (a b v : ℕ) → bytes_of (a + b) v ≡ bytes_of a (v / 256 ^ b) ++ bytes_of b v
unfolding bytes_of
bytes-split zero b v = ap (λ (k : ℕ). bytes_of k v) (zero-add b)
bytes-split (suc a) b v =
    ap (λ (k : ℕ). bytes_of k v) (suc-add a b)
    ∙ ap₂ (λ (x : ℕ) (r : List ℕ). x % 256 ∷ r) shifted (bytes-split a b v)
  where
    shifted : v / 256 ^ (a + b) ≡ v / 256 ^ b / 256 ^ a
    shifted =
        ap (λ (k : ℕ). v / 256 ^ k) (add_comm a b)
        ∙ ap (λ (x : ℕ). v / x) (pow-add 256 b a)
        ∙ sym (div-div-eq-div-mul v (256 ^ b) (256 ^ a))

-- the low n bytes do not depend on what lies above them
pub bytes-above : (n v w : ℕ) → bytes_of n (v * 256 ^ n + w) ≡ bytes_of n w
unfolding bytes_of
bytes-above zero v w = refl
bytes-above (suc n) v w =
    ap (λ (x : ℕ). bytes_of (suc n) (x + w)) regrouped
    ∙ ap₂ (λ (x : ℕ) (r : List ℕ). x ∷ r) top (bytes-above n (v * 256) w)
  where
    regrouped : v * 256 ^ suc n ≡ v * 256 * 256 ^ n
    regrouped = ap (λ (x : ℕ). v * x) (pow-succ' 256 n) ∙ sym (mul_assoc v 256 (256 ^ n))

    top : (v * 256 * 256 ^ n + w) / 256 ^ n % 256 ≡ w / 256 ^ n % 256
    top =
        ap (λ (x : ℕ). x % 256) (mul-add-div_right (power_pos n) (v * 256) w)
        ∙ mul-add-mod_self_right v 256 (w / 256 ^ n)

pub bytes_low : (n v : ℕ) → bytes_of n (v % 256 ^ n) ≡ bytes_of n v
bytes_low n v =
    sym (bytes-above n (v / 256 ^ n) (v % 256 ^ n)) ∙ ap (bytes_of n) (div-add-mod' v (256 ^ n))

-- what was written is read back
pub number-of-bytes : (n v : ℕ) (rest : List ℕ) → number_at (bytes_of n v ++ rest) 0 n ≡ v % 256 ^ n
unfolding number_at byte_at bytes_of
number-of-bytes zero v rest = sym (mod-one v)
number-of-bytes (suc n) v rest =
    ap (number_at (bytes_of (suc n) v ++ rest) 0) (sym (one-add n))
    ∙ number-split (bytes_of (suc n) v ++ rest) 0 1 n
    ∙ ap₂ (λ (x y : ℕ). x * 256 ^ n + y)
    (zero-add (v / 256 ^ n % 256 % 256) ∙ mod-mod (v / 256 ^ n) 256)
    (number-after (v / 256 ^ n % 256 ∷ []) (bytes_of n v ++ rest) 0 n ∙ number-of-bytes n v rest)
    ∙ sym (ap (λ (x : ℕ). v % x) (pow-succ' 256 n) ∙ mod-mul v (zero-lt-suc 255) (power_pos n))

-- ---- writing

-- a run of stores after a run is one run
pub sets-append {ℓ} : {A : Type ℓ} (l a b : List A) (i : ℕ)
    → sets (sets l i a) (i + length a) b ≡ sets l i (a ++ b)
sets-append l [] b i = ap (λ (k : ℕ). sets l k b) (add-zero i)
sets-append l (x ∷ a) b i =
    ap (λ (k : ℕ). sets (sets (set l i x) (suc i) a) k b) (add-suc i (length a) ∙ sym (suc-add i (length a)))
    ∙ sets-append (set l i x) a b (suc i)

-- k elements from `at` on, written as a part of the list, are a run of stores
pub part-stored : {A : Type 0} (l v : List A) (at k : ℕ) → at + k ≤ length l → length v ≡ k → put_mid at k l v ≡ sets l at v
part-stored {A} l v at k h e =
    sym
    (sets-eq v l at (omega (arith, e))
    ∙ append_assoc (take at l) v (drop (at + length v) l)
    ∙ ap (λ (m : ℕ). take at l ++ (v ++ drop (at + m) l)) e
    ∙ ap (λ (t : List A). take at l ++ (v ++ t)) (sym (drop-drop k at l)))

-- one store more of a run
pub sets_more : (l v : List ℕ) (at i : ℕ) {l₁ : List ℕ} → i < length v → l₁ ≡ sets l at (take i v) → set l₁ (at + i) (get_or v i 0) ≡ sets l at (take (i + 1) v)
sets_more l v at i h e =
    let n = length-take-le i v (omega arith) in
    rw (e, add-one i, take-suc v i 0 h)
    (ap (λ (k : ℕ). set (sets l at (take i v)) (at + k) (get_or v i 0)) (sym n)
    ∙ sets-append l (take i v) (get_or v i 0 ∷ []) at)

-- a run of stores from 0 is a reply at the start
pub sets-written : (msg l : List ℕ) → length msg ≤ length l → sets l 0 msg ≡ written msg l
unfolding written
sets-written msg l h =
    sets-eq msg l 0 (subst (λ (k : ℕ). k ≤ length l) (sym (zero-add (length msg))) h)
    ∙ ap (λ (k : ℕ). msg ++ drop k l) (zero-add (length msg))

-- a run of stores as long as the list replaces it
pub sets-whole : (v l : List ℕ) → length l ≡ length v → sets l 0 v ≡ v
unfolding written
sets-whole v l h =
    let past : length l ≤ length v = omega arith in
    sets-written v l (omega arith) ∙ ap (λ (t : List ℕ). v ++ t) (drop_of_length-le l past) ∙ append-nil v

-- the bytes of a number, stored as those of its high part h and then those of its low part
pub sets-parts : (l : List ℕ) (at a b v : ℕ) {h : ℕ} {l₁ l₂ : List ℕ} → h ≡ v / 256 ^ b
    → l₁ ≡ sets l at (bytes_of a h) → l₂ ≡ sets l₁ (at + a) (bytes_of b (v % 256 ^ b))
    → l₂ ≡ sets l at (bytes_of (a + b) v)
sets-parts l at a b v high first second =
    second
    ∙ ap₂ (λ (x y : List ℕ). sets x (at + a) y)
    (first ∙ ap (λ (x : ℕ). sets l at (bytes_of a x)) high)
    (bytes_low b v)
    ∙ ap (λ (k : ℕ). sets (sets l at top) (at + k) (bytes_of b v)) (sym (length-bytes a (v / 256 ^ b)))
    ∙ sets-append l top (bytes_of b v) at
    ∙ ap (sets l at) (sym (bytes-split a b v))
  where
    top : List ℕ
    top = bytes_of a (v / 256 ^ b)
