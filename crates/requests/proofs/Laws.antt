-- The form of a request, from its tests.
-- Assumes nothing.
use mathlib.Core.Path.{◌≡◌, refl, sym}
use mathlib.Core.Bool.{Bool, true}
use mathlib.Core.List.{List, [], ◌∷◌}
use Prim.Native.Nat.{ℕ, ◌+◌, ◌*◌, ◌≤◌, ◌<◌}
use native.Mathlib.Omega.{arith}
use lib.ListN.{length}
use lib.Dec.{eqb}
use borrow.Author.Tests.{ne_eqb, le-leb, leb-true, eqb-true, le-ltb, lt-ltb}
use Rattle.basics.specs.Choice.{pick, ◌and◌}
use Rattle.model.specs.declared.Request.{Request}
use Rattle.model.specs.declared.Request.TheVariants.{Configure, Unconfigure, Query, Status, Cancel, Malformed}
use Rattle.model.specs.Memory.{request_type, argument_of, has_records, has_nothing, request_of, DR-MEM-CONFIGURE, DR-MEM-QUERY, DR-MEM-UNCONF-CANCEL, DR-MEM-UNCONF-STATUS, DR-MEM-UNCONFIGURE}
use Rattle.basics.proofs.Choice.{each_of}
use Rattle.model.specs.Layout.{memory_header_bytes, most_records, pair_bytes}

-- the numbers of a request with records
pub record Counted (b : List ℕ) : Type 0 where
  pub some : 1 ≤ argument_of b
  pub few : argument_of b ≤ most_records
  pub whole : length b ≡ memory_header_bytes + argument_of b * pair_bytes

pub counted : (b : List ℕ) → has_records b ≡ true → Counted b
unfolding has_records
counted b e = let h = each_of (_ ∷ _ ∷ _ ∷ []) e in omega (arith, leb-true, eqb-true)

-- where the argument is in range, the length decides
pub counted-last : (b : List ℕ) → 1 ≤ argument_of b → argument_of b ≤ most_records → has_records b ≡ eqb (length b) (memory_header_bytes + argument_of b * pair_bytes)
unfolding has_records ◌and◌
counted-last b some few = rw (le-leb _ _ some, le-leb _ _ few)

-- what a request with a header is, by its type and the two tests of its form
abbrev pub chosen : ℕ → Bool → Bool → ℕ → Request
chosen type records nothing n =
    pick (eqb type DR-MEM-CONFIGURE and records) (Configure n)
    (pick (eqb type DR-MEM-UNCONFIGURE and records) (Unconfigure n)
    (pick (eqb type DR-MEM-QUERY and records) (Query n)
    (pick (eqb type DR-MEM-UNCONF-STATUS and nothing) Status
    (pick (eqb type DR-MEM-UNCONF-CANCEL and nothing) Cancel
    Malformed))))

module _ (b : List ℕ) (long : memory_header_bytes ≤ length b) {type n : ℕ} (t : type ≡ request_type b) (a : n ≡ argument_of b) where
  pub chosen-is : {records nothing : Bool} → records ≡ has_records b → nothing ≡ has_nothing b → chosen type records nothing n ≡ request_of b
  unfolding request_of pick
  chosen-is r e = sym (rw (le-ltb _ _ long, ← t, ← a, ← r, ← e))

  pub other-is : (type ≡ DR-MEM-CONFIGURE → ⊥) × (type ≡ DR-MEM-UNCONFIGURE → ⊥) × (type ≡ DR-MEM-QUERY → ⊥) × (type ≡ DR-MEM-UNCONF-STATUS → ⊥) × (type ≡ DR-MEM-UNCONF-CANCEL → ⊥) → Malformed ≡ request_of b
  unfolding pick ◌and◌
  other-is d = rw (← chosen-is {records = has_records b} {nothing = has_nothing b} refl refl, ne_eqb _ _ d.0, ne_eqb _ _ d.1, ne_eqb _ _ d.2, ne_eqb _ _ d.3, ne_eqb _ _ d.4)

pub short-is : (b : List ℕ) → length b < memory_header_bytes → Malformed ≡ request_of b
unfolding request_of pick
short-is b h = rw (lt-ltb _ _ h)
