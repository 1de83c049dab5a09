-- The part that show gives, found by its length alone.
-- Assumes nothing.
use Prim.Native.Nat.{ℕ}
use native.Mathlib.Omega.{arith}
use mathlib.Core.Path.{◌≡◌, refl}
use mathlib.Core.Bool.{Bool, true, false}
use mathlib.Core.List.{List, []}
use lib.ListN.{length, take, drop}
use lib.Seq.{take_all}
use Rattle.basics.specs.Choice.{pick}
use Rattle.model.specs.Layout.{data_header_bytes}
use Rattle.model.specs.Calls.{is_shown, shown}

picked : (b : Bool) (l : List ℕ) → take (length (pick b l [])) l ≡ pick b l []
unfolding pick
picked true l = take_all (length l) l (omega arith)
picked false l = refl

pub part-shown : (s : List ℕ) (c : ℕ) (m : List ℕ) → take (length (shown s c m)) (drop data_header_bytes m) ≡ shown s c m
unfolding shown
part-shown s c m = picked (is_shown s c m) (drop data_header_bytes m)
