-- What a piece comes to, where it is cut in two.
-- Assumes nothing.
use Prim.Native.Nat.{ℕ, zero, suc, ◌+◌, ◌-◌, ◌≤◌, ◌<◌}
use native.Mathlib.Omega.{arith}
use mathlib.Core.Path.{◌≡◌, refl, sym, ap, ◌∙◌}
use mathlib.Core.Bool.{Bool, true, false}
use mathlib.Core.List.{List, [], ◌++◌, append_assoc, append-nil}
use lib.ListN.{length, take, drop, length-append, take-append-drop, get_or-append}
use lib.Seq.{take-append-le, take-append-add, take-length, length-take-le}
use lib.Dec.{ltb}
use Rattle.basics.proofs.Choice.{join, both, or-true}
use borrow.Author.Tests.{ltb-true, ltb-false, leb-true, lt-ltb, le-ltb, le-leb}
use Rattle.wire.specs.BigEndian.{byte_at, number_at}
use Rattle.basics.specs.Choice.{pick, ◌or◌}
use Rattle.model.specs.Layout.{ds_header_bytes}
use Rattle.model.specs.Messages.{most_payload, payload_length}
use Rattle.front_model.specs.Front.{Part, dropping, keeps, unfinished}
use Rattle.front_model.specs.Calls.{Taking, all, gives, taking_of, taking_after}
use Rattle.front_claims.specs.Cutting.{ToItsEnd, is_whole, is_long}

number-before : (a l : List ℕ) (at n : ℕ) → at + n ≤ length a → number_at (a ++ l) at n ≡ number_at a at n
unfolding number_at byte_at
number-before a l at zero h = refl
number-before a l at (suc n) h = rw (number-before a l at n (omega arith), get_or-append a l 0 (at + n) (omega arith))

-- the length of a message is in its first eight bytes
pub length-within : (a l : List ℕ) → ds_header_bytes ≤ length a → payload_length (a ++ l) ≡ payload_length a
length-within a l h = number-before a l 4 4 (omega arith)

-- the four ways
data Ways (m : List ℕ) (kept : ℕ) : Type 0 where
  short : length m < ds_header_bytes → taking_of m kept ≡ all (keeps m) → Ways m kept
  long : ds_header_bytes ≤ length m → most_payload < payload_length m → taking_of m kept ≡ gives (take ds_header_bytes m) (ds_header_bytes - kept) dropping → Ways m kept
  partial : ds_header_bytes ≤ length m → payload_length m ≤ most_payload → length m < ds_header_bytes + payload_length m → taking_of m kept ≡ all (keeps m) → Ways m kept
  whole : payload_length m ≤ most_payload → ds_header_bytes + payload_length m ≤ length m → taking_of m kept ≡ gives (take (ds_header_bytes + payload_length m) m) (ds_header_bytes + payload_length m - kept) (keeps []) → Ways m kept

ways : (m : List ℕ) (kept : ℕ) → Ways m kept
ways m kept = go (ltb (length m) ds_header_bytes) refl (ltb most_payload (payload_length m)) refl (ltb (length m) (ds_header_bytes + payload_length m)) refl
  where
    go : (x : Bool) → ltb (length m) ds_header_bytes ≡ x → (y : Bool) → ltb most_payload (payload_length m) ≡ y → (z : Bool) → ltb (length m) (ds_header_bytes + payload_length m) ≡ z → Ways m kept
    go true e y f z g = short (ltb-true _ _ e) (unfold taking_of pick in rw e)
    go false e true f z g = long (ltb-false _ _ e) (ltb-true _ _ f) (unfold taking_of pick in rw (e, f))
    go false e false f true g = partial (ltb-false _ _ e) (ltb-false _ _ f) (ltb-true _ _ g) (unfold taking_of pick in rw (e, f, g))
    go false e false f false g = whole (ltb-false _ _ f) (ltb-false _ _ g) (unfold taking_of pick in rw (e, f, g))

-- each way, whatever was kept before
module _ (m : List ℕ) (kept : ℕ) where
  short-value : length m < ds_header_bytes → taking_of m kept ≡ all (keeps m)
  unfolding taking_of pick
  short-value h = rw (lt-ltb (length m) ds_header_bytes h)

  long-value : ds_header_bytes ≤ length m → most_payload < payload_length m → taking_of m kept ≡ gives (take ds_header_bytes m) (ds_header_bytes - kept) dropping
  unfolding taking_of pick
  long-value h l = rw (le-ltb (length m) ds_header_bytes h, lt-ltb most_payload (payload_length m) l)

  partial-value : ds_header_bytes ≤ length m → payload_length m ≤ most_payload → length m < ds_header_bytes + payload_length m → taking_of m kept ≡ all (keeps m)
  unfolding taking_of pick
  partial-value h l k =
      rw (le-ltb (length m) ds_header_bytes h, le-ltb most_payload (payload_length m) l, lt-ltb (length m) (ds_header_bytes + payload_length m) k)

  whole-value : payload_length m ≤ most_payload → ds_header_bytes + payload_length m ≤ length m → taking_of m kept ≡ gives (take (ds_header_bytes + payload_length m) m) (ds_header_bytes + payload_length m - kept) (keeps [])
  unfolding taking_of pick
  whole-value l k =
      rw (le-ltb (length m) ds_header_bytes (omega arith), le-ltb most_payload (payload_length m) l, le-ltb (length m) (ds_header_bytes + payload_length m) k)

-- from a part of no byte: a whole message, and a header that tells too much
pub whole-given : (m : List ℕ) → length m ≡ ds_header_bytes + payload_length m → payload_length m ≤ most_payload → taking_after [] m ≡ gives m (length m) (keeps [])
whole-given m e l =
    let n : length m - 0 ≡ length m = omega arith in
    whole-value m 0 l (omega arith) ∙ rw (← e) (rw n (ap (λ (x : List ℕ). gives x (length m) (keeps [])) (take-length m)))

pub long-given : (m rest : List ℕ) → length m ≡ ds_header_bytes → most_payload < payload_length m → taking_after [] (m ++ rest) ≡ gives m ds_header_bytes dropping
long-given m rest e l =
    let t : payload_length (m ++ rest) ≡ payload_length m = length-within m rest (omega arith) in
    long-value (m ++ rest) 0 (omega (arith, length-append m rest)) (omega arith)
    ∙ ap (λ (x : List ℕ). gives x ds_header_bytes dropping) (take-append-le ds_header_bytes m rest (omega arith) ∙ ap (λ (n : ℕ). take n m) (sym e) ∙ take-length m)

-- a part that the front may keep
unfoldable pub PartSound : Part → Type 0
PartSound dropping = Unit {0}
PartSound (keeps p) = unfinished p ≡ true

pub unfinished-short : (p : List ℕ) → length p < ds_header_bytes → unfinished p ≡ true
unfolding unfinished ◌or◌
unfinished-short p h = rw (lt-ltb (length p) ds_header_bytes h)

unfinished-partial : (p : List ℕ) → payload_length p ≤ most_payload → length p < ds_header_bytes + payload_length p → unfinished p ≡ true
unfolding unfinished
unfinished-partial p h l = rw (join _ _ (le-leb (payload_length p) most_payload h) (lt-ltb (length p) (ds_header_bytes + payload_length p) l)) (or-true _)

-- what is unfinished has less than a message
unfinished-less : (p : List ℕ) → unfinished p ≡ true → ds_header_bytes ≤ length p → (payload_length p ≤ most_payload) × (length p < ds_header_bytes + payload_length p)
unfolding unfinished ◌or◌
unfinished-less p e h =
    let r = both _ _ (rw (le-ltb (length p) ds_header_bytes h) at e) in
    (leb-true _ _ r.0, ltb-true _ _ r.1)

-- no message is given: all is kept, and is unfinished
pub all-kept : (p b : List ℕ) (x : Part) → taking_after p b ≡ all x → (x ≡ keeps (p ++ b)) × (unfinished (p ++ b) ≡ true)
all-kept p b x e = go (ways (p ++ b) (length p))
  where
    go : Ways (p ++ b) (length p) → (x ≡ keeps (p ++ b)) × (unfinished (p ++ b) ≡ true)
    go (short h f) = let g : all x ≡ all (keeps (p ++ b)) = sym e ∙ f in (cc, unfinished-short (p ++ b) h)
    go (long h l f) = let g : all x ≡ gives (take ds_header_bytes (p ++ b)) (ds_header_bytes - length p) dropping = sym e ∙ f in absurd (let y : ◌≡◌ {A = ℕ} 0 1 = cc in omega arith)
    go (partial h l k f) = let g : all x ≡ all (keeps (p ++ b)) = sym e ∙ f in (cc, unfinished-partial (p ++ b) l k)
    go (whole l k f) = let g : all x ≡ gives (take (ds_header_bytes + payload_length (p ++ b)) (p ++ b)) (ds_header_bytes + payload_length (p ++ b) - length p) (keeps []) = sym e ∙ f in absurd (let y : ◌≡◌ {A = ℕ} 0 1 = cc in omega arith)

-- a message that a piece gives is given whatever follows the piece
pub gives_more : (p b d : List ℕ) (m : List ℕ) (i : ℕ) (q : Part) → taking_after p b ≡ gives m i q → taking_after p (b ++ d) ≡ gives m i q
gives_more p b d m i q e =
    ap (λ (l : List ℕ). taking_of l (length p)) (sym (append_assoc p b d)) ∙ more (p ++ b) (ways (p ++ b) (length p)) e
  where
    more : (w : List ℕ) → Ways w (length p) → taking_of w (length p) ≡ gives m i q → taking_of (w ++ d) (length p) ≡ gives m i q
    more w (short h f) g = let y : all (keeps w) ≡ gives m i q = sym f ∙ g in absurd (let z : ◌≡◌ {A = ℕ} 0 1 = cc in omega arith)
    more w (partial h l k f) g = let y : all (keeps w) ≡ gives m i q = sym f ∙ g in absurd (let z : ◌≡◌ {A = ℕ} 0 1 = cc in omega arith)
    more w (long h l f) g =
        let e : payload_length (w ++ d) ≡ payload_length w = length-within w d h in
        long-value (w ++ d) (length p) (omega (arith, length-append w d)) (omega arith)
        ∙ ap (λ (l : List ℕ). gives l (ds_header_bytes - length p) dropping) (take-append-le ds_header_bytes w d h)
        ∙ sym f
        ∙ g
    more w (whole l k f) g =
        let e : payload_length (w ++ d) ≡ payload_length w = length-within w d (omega arith) in
        whole-value (w ++ d) (length p) (omega arith) (omega (arith, length-append w d))
        ∙ rw e (ap (λ (l : List ℕ). gives l (ds_header_bytes + payload_length w - length p) (keeps [])) (take-append-le (ds_header_bytes + payload_length w) w d k))
        ∙ sym f
        ∙ g

-- what is kept has less than the message that it begins, once its length is known
data Beginning (p b : List ℕ) : Type 0 where
  few : length p < ds_header_bytes → Beginning p b
  more : payload_length (p ++ b) ≤ most_payload → length p < ds_header_bytes + payload_length (p ++ b) → Beginning p b

beginning : (p b : List ℕ) → unfinished p ≡ true → Beginning p b
beginning p b u = go (ltb (length p) ds_header_bytes) refl
  where
    go : (x : Bool) → ltb (length p) ds_header_bytes ≡ x → Beginning p b
    go true e = few (ltb-true _ _ e)
    go false e =
        let h = ltb-false _ _ e in
        let r = unfinished-less p u h in
        more (rw (length-within p b h) r.0) (rw (length-within p b h) r.1)

-- it takes a byte or more, and no more than the piece has
pub gives-count : (p b : List ℕ) (m : List ℕ) (i : ℕ) (q : Part) → unfinished p ≡ true → taking_after p b ≡ gives m i q → (1 ≤ i) × (i ≤ length b)
gives-count p b m i q u e = go (ways (p ++ b) (length p)) (beginning p b u)
  where
    go : Ways (p ++ b) (length p) → Beginning p b → (1 ≤ i) × (i ≤ length b)
    go (short h f) x = let y : all (keeps (p ++ b)) ≡ gives m i q = sym f ∙ e in absurd (let z : ◌≡◌ {A = ℕ} 0 1 = cc in omega arith)
    go (partial h l k f) x = let y : all (keeps (p ++ b)) ≡ gives m i q = sym f ∙ e in absurd (let z : ◌≡◌ {A = ℕ} 0 1 = cc in omega arith)
    go (long h l f) (few n) =
        let y : gives (take ds_header_bytes (p ++ b)) (ds_header_bytes - length p) dropping ≡ gives m i q = sym f ∙ e in
        let z : ds_header_bytes - length p ≡ i = cc in
        let t = length-append p b in
        (omega arith, omega arith)
    go (long h l f) (more n k) = absurd (omega arith)
    go (whole l k f) (few n) =
        let y : gives (take (ds_header_bytes + payload_length (p ++ b)) (p ++ b)) (ds_header_bytes + payload_length (p ++ b) - length p) (keeps []) ≡ gives m i q = sym f ∙ e in
        let z : ds_header_bytes + payload_length (p ++ b) - length p ≡ i = cc in
        let t = length-append p b in
        (omega arith, omega arith)
    go (whole l k f) (more n n') =
        let y : gives (take (ds_header_bytes + payload_length (p ++ b)) (p ++ b)) (ds_header_bytes + payload_length (p ++ b) - length p) (keeps []) ≡ gives m i q = sym f ∙ e in
        let z : ds_header_bytes + payload_length (p ++ b) - length p ≡ i = cc in
        let t = length-append p b in
        (omega arith, omega arith)

-- the message is what was kept and what is taken behind it, to its end
module _ (p b : List ℕ) (n : ℕ) (h : length p ≤ n) (l : n ≤ length (p ++ b)) where
  joined_bytes : take n (p ++ b) ≡ p ++ take (n - length p) b
  joined_bytes =
      let t : n ≡ length p + (n - length p) = omega arith in
      ap (λ (k : ℕ). take k (p ++ b)) t ∙ take-append-add p b (n - length p)

  joined-count : length (take n (p ++ b)) ≡ length p + (n - length p)
  joined-count = length-take-le n (p ++ b) l ∙ omega arith

  joined_length : ds_header_bytes ≤ n → payload_length (take n (p ++ b)) ≡ payload_length (p ++ b)
  joined_length k =
      sym (length-within (take n (p ++ b)) (drop n (p ++ b)) (omega (arith, length-take-le n (p ++ b) l)))
      ∙ ap payload_length (take-append-drop n (p ++ b))

pub gives-end : (p b : List ℕ) (m : List ℕ) (i : ℕ) (q : Part) → unfinished p ≡ true → taking_after p b ≡ gives m i q → ToItsEnd p b i m
gives-end p b m i q u e = go (ways (p ++ b) (length p)) (beginning p b u)
  where
    long-end : length p ≤ ds_header_bytes → ds_header_bytes ≤ length (p ++ b) → most_payload < payload_length (p ++ b) → ToItsEnd p b (ds_header_bytes - length p) (take ds_header_bytes (p ++ b))
    long-end n h l =
        let t = joined_length p b ds_header_bytes n h (omega arith) in
        record {
          bytes = joined_bytes p b ds_header_bytes n h;
          count = joined-count p b ds_header_bytes n h;
          one = is_long (length-take-le ds_header_bytes (p ++ b) h) (omega arith);
        }

    whole-end : length p ≤ ds_header_bytes + payload_length (p ++ b) → payload_length (p ++ b) ≤ most_payload → ds_header_bytes + payload_length (p ++ b) ≤ length (p ++ b) → ToItsEnd p b (ds_header_bytes + payload_length (p ++ b) - length p) (take (ds_header_bytes + payload_length (p ++ b)) (p ++ b))
    whole-end n l h =
        let t = joined_length p b (ds_header_bytes + payload_length (p ++ b)) n h (omega arith) in
        record {
          bytes = joined_bytes p b (ds_header_bytes + payload_length (p ++ b)) n h;
          count = joined-count p b (ds_header_bytes + payload_length (p ++ b)) n h;
          one = is_whole (record { long = length-take-le (ds_header_bytes + payload_length (p ++ b)) (p ++ b) h ∙ omega arith; bounded = omega arith });
        }

    go : Ways (p ++ b) (length p) → Beginning p b → ToItsEnd p b i m
    go (short h f) x = let y : all (keeps (p ++ b)) ≡ gives m i q = sym f ∙ e in absurd (let z : ◌≡◌ {A = ℕ} 0 1 = cc in omega arith)
    go (partial h l k f) x = let y : all (keeps (p ++ b)) ≡ gives m i q = sym f ∙ e in absurd (let z : ◌≡◌ {A = ℕ} 0 1 = cc in omega arith)
    go (long h l f) (few n) =
        let y : gives (take ds_header_bytes (p ++ b)) (ds_header_bytes - length p) dropping ≡ gives m i q = sym f ∙ e in
        let z : ds_header_bytes - length p ≡ i = cc in
        let t : take ds_header_bytes (p ++ b) ≡ m = cc in
        rw (← z, ← t) (long-end (omega arith) h l)
    go (long h l f) (more n k) = absurd (omega arith)
    go (whole l k f) x =
        let y : gives (take (ds_header_bytes + payload_length (p ++ b)) (p ++ b)) (ds_header_bytes + payload_length (p ++ b) - length p) (keeps []) ≡ gives m i q = sym f ∙ e in
        let z : ds_header_bytes + payload_length (p ++ b) - length p ≡ i = cc in
        let t : take (ds_header_bytes + payload_length (p ++ b)) (p ++ b) ≡ m = cc in
        rw (← z, ← t) (whole-end (within x) l k)
      where
        within : Beginning p b → length p ≤ ds_header_bytes + payload_length (p ++ b)
        within (few n) = omega arith
        within (more n n') = omega arith

-- the part that is left after a message is none, or is dropped
pub gives_part : (p b : List ℕ) (m : List ℕ) (i : ℕ) (q : Part) → taking_after p b ≡ gives m i q → PartSound q
gives_part p b m i q e = go (ways (p ++ b) (length p))
  where
    go : Ways (p ++ b) (length p) → PartSound q
    go (short h f) = let y : all (keeps (p ++ b)) ≡ gives m i q = sym f ∙ e in absurd (let z : ◌≡◌ {A = ℕ} 0 1 = cc in omega arith)
    go (partial h l k f) = let y : all (keeps (p ++ b)) ≡ gives m i q = sym f ∙ e in absurd (let z : ◌≡◌ {A = ℕ} 0 1 = cc in omega arith)
    go (long h l f) =
        let y : gives (take ds_header_bytes (p ++ b)) (ds_header_bytes - length p) dropping ≡ gives m i q = sym f ∙ e in
        let z : dropping ≡ q = cc in
        rw (← z) (unfold PartSound in tt)
    go (whole l k f) =
        let y : gives (take (ds_header_bytes + payload_length (p ++ b)) (p ++ b)) (ds_header_bytes + payload_length (p ++ b) - length p) (keeps []) ≡ gives m i q = sym f ∙ e in
        let z : keeps [] ≡ q = cc in
        rw (← z) (unfold PartSound in (unfinished-short [] (omega arith)))

-- no byte gives no message
pub none-given : (p : List ℕ) → unfinished p ≡ true → taking_after p [] ≡ all (keeps p)
none-given p u = ap (λ (l : List ℕ). taking_of l (length p)) (append-nil p) ∙ go (ways p (length p))
  where
    go : Ways p (length p) → taking_of p (length p) ≡ all (keeps p)
    go (short h f) = f
    go (partial h l k f) = f
    go (long h l f) = absurd (let r = unfinished-less p u h in omega arith)
    go (whole l k f) = absurd (let r = unfinished-less p u (omega arith) in omega arith)

-- a piece later: what it comes to with so many bytes before it
unfoldable pub later : ℕ → Taking → Taking
later k (all q) = all q
later k (gives m i q) = gives m (k + i) q

later-all : (k : ℕ) (q : Part) → later k (all q) ≡ all q
unfolding later
later-all k q = refl

later-gives : (k : ℕ) (m : List ℕ) (i : ℕ) (q : Part) → later k (gives m i q) ≡ gives m (k + i) q
unfolding later
later-gives k m i q = refl

-- bytes that give no message may be taken before those that follow
pub all_more : (p b d : List ℕ) (x : Part) → taking_after p b ≡ all x → taking_after p (b ++ d) ≡ later (length b) (taking_after (p ++ b) d)
all_more p b d x e =
    ap (λ (l : List ℕ). taking_of l (length p)) (sym (append_assoc p b d))
    ∙ go (ways ((p ++ b) ++ d) (length (p ++ b))) (beginning (p ++ b) d (all-kept p b x e).1)
  where
    go : Ways ((p ++ b) ++ d) (length (p ++ b)) → Beginning (p ++ b) d → taking_of ((p ++ b) ++ d) (length p) ≡ later (length b) (taking_of ((p ++ b) ++ d) (length (p ++ b)))
    go (short h f) y = rw f (short-value _ _ h ∙ sym (later-all _ _))
    go (partial h l k f) y = rw f (partial-value _ _ h l k ∙ sym (later-all _ _))
    go (long h l f) (few n) =
        let t : ds_header_bytes - length p ≡ length b + (ds_header_bytes - length (p ++ b)) = omega (arith, length-append p b) in
        rw f (long-value _ _ h l ∙ ap (λ (i : ℕ). gives (take ds_header_bytes ((p ++ b) ++ d)) i dropping) t ∙ sym (later-gives _ _ _ _))
    go (long h l f) (more n k) = absurd (omega arith)
    go (whole l k f) y =
        let t = left y in
        rw f (whole-value _ _ l k ∙ ap (λ (i : ℕ). gives (take (ds_header_bytes + payload_length ((p ++ b) ++ d)) ((p ++ b) ++ d)) i (keeps [])) t ∙ sym (later-gives _ _ _ _))
      where
        left : Beginning (p ++ b) d → ds_header_bytes + payload_length ((p ++ b) ++ d) - length p ≡ length b + (ds_header_bytes + payload_length ((p ++ b) ++ d) - length (p ++ b))
        left (few n) = omega (arith, length-append p b)
        left (more n n') = omega (arith, length-append p b)
