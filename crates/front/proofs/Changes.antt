-- One channel's words and bytes changed: every other channel's front is as it was.
-- Assumes nothing.
use mathlib.Core.Path.{◌≡◌, refl, sym, ap, ◌∙◌}
use mathlib.Core.Bool.{Bool, true, false, not}
use mathlib.Core.List.{List, [], ◌∷◌, ◌++◌, append_assoc}
use Prim.Native.Nat.{ℕ, suc, ◌+◌, ◌*◌, ◌<◌, ◌≤◌}
use native.Mathlib.Nat.{suc-add, add-suc}
use native.Mathlib.Omega.{arith}
use lib.ListN.{length, set, take, drop, length-drop, length-set}
use lib.Seq.{sets, sets-eq, length-sets, length-take-le, take-add, drop_at, drop-append-le, take-append-add, take-set-le, drop-set-lt, take-append_seam, get_or-set_same, get_or-set_other}
use lib.Dec.{eqb, ltb}
use Rattle.front.proofs.Sounds.{sound-keeping}
use borrow.Author.Tests.{le-leb, leb-true, ltb-true, ltb-false, eqb-true, eqb-false}
use Rattle.basics.specs.Choice.{pick, ◌and◌, ◌or◌}
use Rattle.model.specs.Layout.{channel_count, is_set}
use Rattle.basics.proofs.Choice.{both, join, or-true, every-at, every-make, tabulate-set}
use Rattle.front_model.specs.Front.{Front, dropping, keeps, part_words, most_message, most_kept, kept_at, dropping_at, bytes_at, part_of, parts_of, unfinished, front_sound_at, front_sound}
use Rattle.front.specs.Changes.{with_words, with_bytes, Fronts}

-- Stores behind a place leave what is before it, and stores before a place what is behind it.
take-sets : (v l : List ℕ) (n i : ℕ) → n ≤ i → take n (sets l i v) ≡ take n l
take-sets [] l n i h = refl
take-sets (x ∷ v) l n i h = take-sets v (set l i x) n (suc i) (omega arith) ∙ take-set-le n l i x h

drop-sets : (v l : List ℕ) (n i : ℕ) → i + length v ≤ n → drop n (sets l i v) ≡ drop n l
drop-sets [] l n i h = refl
drop-sets (x ∷ v) l n i h =
    drop-sets v (set l i x) n (suc i) (omega (arith, add-suc i (length v), suc-add i (length v))) ∙ drop-set-lt n l i x (omega (arith, add-suc i (length v)))

-- a run of a list is a part of its beginning
run_of : (a n : ℕ) (l : List ℕ) → a ≤ length l → take n (drop a l) ≡ drop a (take (a + n) l)
run_of a n l h = sym (rw (take-add a n l) (drop_at (take a l) (take n (drop a l)) a (length-take-le a l h)))

-- the first bytes of a room, with those stored behind them
pub room-here : (l v : List ℕ) (a n : ℕ) → a + n + length v ≤ length l → take (n + length v) (drop a (sets l (a + n) v)) ≡ take n (drop a l) ++ v
room-here l v a n h =
    rw (
      sets-eq v l (a + n) h,
      append_assoc (take (a + n) l) v rest,
      drop-append-le a (take (a + n) l) (v ++ rest) (omega (arith, length-take-le (a + n) l (omega arith))),
      ← run_of a n l (omega arith),
    )
    (ap (λ (k : ℕ). take (k + length v) (take n (drop a l) ++ (v ++ rest))) (sym size)
    ∙ take-append-add (take n (drop a l)) (v ++ rest) (length v)
    ∙ rw (take-append_seam v rest))
  where
    rest : List ℕ
    rest = drop (a + n + length v) l

    size : length (take n (drop a l)) ≡ n
    size = length-take-le n (drop a l) (omega (arith, length-drop a l))

-- a run before what is stored, and one behind it
room-before : (l v : List ℕ) (a i n : ℕ) → a + n ≤ i → a ≤ length l → take n (drop a (sets l i v)) ≡ take n (drop a l)
room-before l v a i n h m =
    run_of a n (sets l i v) (omega (arith, length-sets l i v)) ∙ ap (drop a) (take-sets v l (a + n) i h) ∙ sym (run_of a n l m)

-- what a channel has, by its words and bytes
same-part : (f f' : Front) (i : ℕ) → kept_at f' i ≡ kept_at f i → dropping_at f' i ≡ dropping_at f i → bytes_at f' i ≡ bytes_at f i → (part_of f' i ≡ part_of f i) × (front_sound_at f' i ≡ front_sound_at f i)
unfolding part_of front_sound_at
same-part f f' i k d b = (rw (b, d), rw (b, d, k))

-- no more bytes are kept than an unfinished message has
pub few-kept : (f : Front) (i : ℕ) → front_sound f ≡ true → i < channel_count → kept_at f i ≤ most_kept
unfolding front_sound front_sound_at
few-kept f i e h = leb-true _ _ (both _ _ (every-at _ _ i e h)).0

-- the channel's words and bytes are changed
pub record Changed (f f' : Front) (c kept drops n : ℕ) (v : List ℕ) : Type 0 where
  pub words : f'.words ≡ with_words f.words c kept drops
  pub bytes : f'.bytes ≡ with_bytes f.bytes c n v
  pub fits : n + length v ≤ most_message

module _ (f f' : Front) (c kept drops n : ℕ) (v : List ℕ) (s : Fronts f c) (h : Changed f f' c kept drops n v) where
  pub kept_here : kept_at f' c ≡ kept
  kept_here =
      rw h.words
      (get_or-set_other (set f.words (c * part_words) kept) (c * part_words + 1) (c * part_words) drops 0 (λ e. omega arith)
      ∙ get_or-set_same f.words (c * part_words) kept 0 (omega (arith, s.words, s.within)))

  pub dropping-here : dropping_at f' c ≡ drops
  dropping-here =
      rw h.words
      (get_or-set_same (set f.words (c * part_words) kept) (c * part_words + 1) drops 0
      (omega (arith, length-set f.words (c * part_words) kept, s.words, s.within)))

  -- the room's first bytes
  pub bytes-here : take (n + length v) (drop (c * most_message) f'.bytes) ≡ take n (drop (c * most_message) f.bytes) ++ v
  bytes-here = rw h.bytes (room-here f.bytes v (c * most_message) n (omega (arith, s.bytes, s.within, h.fits)))

  module _ (i : ℕ) (m : i < channel_count) (q : i ≡ c → ⊥) where
    kept_there : kept_at f' i ≡ kept_at f i
    kept_there =
        rw h.words
        (get_or-set_other (set f.words (c * part_words) kept) (c * part_words + 1) (i * part_words) drops 0 (λ e. omega arith)
        ∙ get_or-set_other f.words (c * part_words) (i * part_words) kept 0 (λ e. q (omega arith)))

    dropping-there : dropping_at f' i ≡ dropping_at f i
    dropping-there =
        rw h.words
        (get_or-set_other (set f.words (c * part_words) kept) (c * part_words + 1) (i * part_words + 1) drops 0 (λ e. q (omega arith))
        ∙ get_or-set_other f.words (c * part_words) (i * part_words + 1) kept 0 (λ e. omega arith))

    bytes-there : bytes_at f' i ≡ bytes_at f i
    bytes-there = rw (kept_there, h.bytes) (go (ltb i c) refl)
      where
        few : kept_at f i ≤ most_kept
        few = few-kept f i s.sounds m

        go : (b : Bool) → ltb i c ≡ b → take (kept_at f i) (drop (i * most_message) (with_bytes f.bytes c n v)) ≡ bytes_at f i
        go true e =
            let l : i < c = ltb-true i c e in
            room-before f.bytes v (i * most_message) (c * most_message + n) (kept_at f i) (omega (arith, few)) (omega (arith, s.bytes, s.within))
        go false e =
            let l : c < i = omega (arith, ltb-false i c e, q) in
            ap (take (kept_at f i)) (drop-sets v f.bytes (i * most_message) (c * most_message + n) (omega (arith, h.fits)))

    there : (part_of f' i ≡ part_of f i) × (front_sound_at f' i ≡ front_sound_at f i)
    there = same-part f f' i kept_there dropping-there bytes-there

  pub parts-changed : parts_of f' ≡ set (parts_of f) c (part_of f' c)
  unfolding parts_of
  parts-changed = tabulate-set (part_of f) (part_of f') channel_count dropping c (part_of f' c) (λ _. refl) (λ i l q. (there i l q).0)

  pub sound-changed : front_sound_at f' c ≡ true → front_sound f' ≡ true
  unfolding front_sound
  sound-changed e = every-make (λ i. front_sound_at f' i) channel_count (λ i l. go i l (eqb i c) refl)
    where
      go : (i : ℕ) → i < channel_count → (b : Bool) → eqb i c ≡ b → front_sound_at f' i ≡ true
      go i l true q = ap (front_sound_at f') (eqb-true i c q) ∙ e
      go i l false q = (there i l (eqb-false i c q)).1 ∙ every-at (λ i. front_sound_at f i) channel_count i s.sounds l

-- bytes kept, behind those that were
module _ (f f' : Front) (c n : ℕ) (v : List ℕ) (s : Fronts f c) (h : Changed f f' c (n + length v) 0 n v) where
  pub part-kept : part_of f' c ≡ keeps (take n (drop (c * most_message) f.bytes) ++ v)
  unfolding part_of pick
  part-kept =
      rw (dropping-here f f' c (n + length v) 0 n v s h, kept_here f f' c (n + length v) 0 n v s h, bytes-here f f' c (n + length v) 0 n v s h)

  pub sound-kept : n + length v ≤ most_kept → unfinished (take n (drop (c * most_message) f.bytes) ++ v) ≡ true → front_sound f' ≡ true
  sound-kept few e =
      let k = kept_here f f' c (n + length v) 0 n v s h in
      sound-changed f f' c (n + length v) 0 n v s h
      (sound-keeping f' c (omega arith) (dropping-here f f' c (n + length v) 0 n v s h)
      ∙ ap unfinished (rw k (bytes-here f f' c (n + length v) 0 n v s h))
      ∙ e)

-- none kept
module _ (f f' : Front) (c drops n : ℕ) (v : List ℕ) (s : Fronts f c) (h : Changed f f' c 0 drops n v) where
  pub part-empty : part_of f' c ≡ pick (is_set drops) dropping (keeps [])
  unfolding part_of
  part-empty = rw (dropping-here f f' c 0 drops n v s h, kept_here f f' c 0 drops n v s h)

  pub sound_empty : drops ≤ 1 → front_sound f' ≡ true
  unfolding front_sound_at ◌and◌ ◌or◌ unfinished
  sound_empty l =
      sound-changed f f' c 0 drops n v s h
      (rw (dropping-here f f' c 0 drops n v s h, kept_here f f' c 0 drops n v s h, le-leb _ _ l)
      (join _ _ (or-true (not (is_set drops))) refl))
