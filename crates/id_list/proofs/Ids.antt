-- The rules of ids: the bytes of an id are held in words, as a name is.
-- Assumes nothing.
use mathlib.Core.Path.{◌≡◌, refl, sym, ◌∙◌}
use mathlib.Core.Bool.{true}
use mathlib.Core.List.{List, [], ◌∷◌}
use Prim.Native.Nat.{ℕ, ◌+◌, ◌*◌, ◌/◌, ◌%◌, ◌<◌, ◌≤◌}
use native.Mathlib.Omega.{arith}
use lib.ListN.{length}
use borrow.Author.Tests.{eq-eqb, eqb-true, le-leb, leb-true}
use Rattle.basics.specs.Choice.{◌and◌, every}
use Rattle.model.specs.Layout.{highest_minor, id_byte_in, id_bytes_in, id_in, id_place, id_words, most_id_bytes, most_ids}
use Rattle.model.specs.Devices.{same_name}
use Rattle.model.specs.Peers.{accepted_ids, id_apart, id_bytes_keep, id_keeps, ids_keep}
use Rattle.basics.proofs.Choice.{both, every-at, each_of}
use Rattle.basics.proofs.Loops.{every-none}
use Rattle.names.specs.NameWords.{held_byte, held_bytes, padded, holds_name}
use Rattle.names.proofs.Bytes.{and-next}
use Rattle.names.proofs.Names.{NameRules, name-rules}

-- where the words of the bytes of id p stand
abbrev pub bytes_from : ℕ → ℕ → ℕ
bytes_from at p = at + p * id_words + id_place

module _ (l : List ℕ) (at p : ℕ) where
  bytes-keep : holds_name l (bytes_from at p) (id_bytes_in l at p) most_id_bytes ≡ id_bytes_keep l at p
  unfolding id_bytes_keep id_byte_in holds_name padded held_byte
  bytes-keep = refl

  bytes-held : held_bytes l (bytes_from at p) (id_bytes_in l at p) ≡ (id_in l at p).bytes
  unfolding id_in id_byte_in held_bytes held_byte
  bytes-held = refl

  pub id_same : (b : List ℕ) → same_name (held_bytes l (bytes_from at p) (id_bytes_in l at p)) b ≡ same_name (id_in l at p).bytes b
  id_same b = rw bytes-held

  -- its bytes are those of a name
  abbrev pub BytesRules : Type 0
  BytesRules = NameRules l (bytes_from at p) (id_bytes_in l at p) most_id_bytes

  pub bytes-rules : id_bytes_keep l at p ≡ true → BytesRules
  bytes-rules e = name-rules _ _ _ _ (bytes-keep ∙ e)

  pub record IdRules : Type 0 where
    pub major : (id_in l at p).major ≤ highest_minor
    pub minor : (id_in l at p).minor ≤ highest_minor
    pub bytes : id_bytes_keep l at p ≡ true

  pub id-rules : id_keeps l at p ≡ true → IdRules
  unfolding id_keeps
  id-rules e = let h = each_of (_ ∷ _ ∷ _ ∷ []) e in search (arith, leb-true)

  -- where its versions keep them, its bytes decide
  pub id-last : (id_in l at p).major ≤ highest_minor → (id_in l at p).minor ≤ highest_minor → holds_name l (bytes_from at p) (id_bytes_in l at p) most_id_bytes ≡ id_keeps l at p
  unfolding id_keeps ◌and◌
  id-last m n = bytes-keep ∙ rw (le-leb _ highest_minor m, le-leb _ highest_minor n)

pub pair_same : (l : List ℕ) (at p q : ℕ)
    → same_name (held_bytes l (bytes_from at q) (id_bytes_in l at q)) (held_bytes l (bytes_from at p) (id_bytes_in l at p)) ≡ same_name (id_in l at q).bytes (id_in l at p).bytes
pair_same l at p q = rw (bytes-held l at p) (id_same l at q _)

-- The rules of a list of ids.
pub id-at : (l : List ℕ) (at n p : ℕ) → every n (id_keeps l at) ≡ true → p < n → id_bytes_keep l at p ≡ true
id-at l at n p e h = (id-rules l at p (every-at _ n p e h)).bytes

module _ (l : List ℕ) (at n : ℕ) where
  pub record IdsRules : Type 0 where
    pub few : n ≤ most_ids
    pub each : every n (id_keeps l at) ≡ true
    pub apart : every n (id_apart l at) ≡ true

  pub ids-rules : ids_keep l at n ≡ true → IdsRules
  unfolding ids_keep
  ids-rules e = let h = each_of (_ ∷ _ ∷ _ ∷ []) e in search (arith, leb-true)

  -- past the rules of each, they must be apart
  pub ids-last : n ≤ most_ids → every n (id_keeps l at) ≡ true → every n (id_apart l at) ≡ ids_keep l at n
  unfolding ids_keep
  ids-last few each = sym (and-next _ _ (le-leb _ _ few) ∙ and-next _ _ each)

  pub ids-none : n ≡ 0 → ids_keep l at n ≡ true
  ids-none e = sym (ids-last (omega arith) (rw e (every-none (id_keeps l at)))) ∙ rw e (every-none (id_apart l at))

module _ (l : List ℕ) where
  pub accepted-rules : accepted_ids l ≡ true → (length l % id_words ≡ 0) × (length l / id_words ≤ most_ids)
  unfolding accepted_ids
  accepted-rules t = let u = both _ _ t in (eqb-true _ _ u.0, (ids-rules _ _ _ u.1).few)

  pub accepted-last : length l % id_words ≡ 0 → accepted_ids l ≡ ids_keep l 0 (length l / id_words)
  unfolding accepted_ids
  accepted-last e = and-next _ _ (eq-eqb _ _ e)
