-- `messages::no_zero` meets its contract: `contains` takes one byte more, as the definition does.
-- Assumes nothing.
use mathlib.Core.Path.{◌≡◌, refl, sym, ap, ap₂, ◌∙◌}
use mathlib.Core.Bool.{Bool, true, false, not, ◌||◌}
use mathlib.Core.List.{List}
use Prim.Native.Nat.{ℕ, zero, suc, ◌+◌, ◌-◌, ◌≤◌, ◌<◌}
use native.Mathlib.Numerals.{add-one}
use native.Mathlib.Omega.{arith}
use lib.Dec.{eqb}
use lib.ListN.{length, get_or, take, drop, length-drop}
use Rattle.std.specs.List.{list_any}
use Rattle.std.proofs.lemmas.List.{get_or-drop}
use Rattle.std.proofs.lemmas.List.Folds.{list_any_more}
use Rattle.wire.proofs.Laws.{byte-at}
use Rattle.basics.specs.Choice.{◌and◌, every}
use Rattle.messages.specs.Id.{no_zero}
use Rattle.messages.proofs.no_zero.Goals as goal

neither : (a b : Bool) → not (a || b) ≡ (not a and not b)
unfolding ◌and◌
neither true b = refl
neither false b = refl

none_zero : (m : List ℕ) → ((i : ℕ) → get_or m i 0 < 256) → (n : ℕ) → 20 + n ≤ length m → not (list_any (λ y. eqb y 0) (take n (drop 20 m))) ≡ no_zero m n
unfolding every
none_zero m bytes zero h = refl
none_zero m bytes (suc n) h =
    let below : n < length (drop 20 m) = omega (arith, length-drop 20 m) in
    ap not (ap (λ (k : ℕ). list_any (λ y. eqb y 0) (take k (drop 20 m))) (sym (add-one n)) ∙ list_any_more (λ y. eqb y 0) (drop 20 m) n 0 below)
    ∙ neither _ _
    ∙ ap₂ (λ (a b : Bool). a and b)
    (none_zero m bytes n (omega arith))
    (ap (λ (x : ℕ). not (eqb x 0)) (get_or-drop 20 m n 0 ∙ byte-at m (20 + n) (bytes (20 + n))))

pub returns : goal.returns
returns c =
    let m = c.args.m.now in
    let count : 20 + c.args.count - 20 ≡ c.args.count = omega arith in
    ap not (c.contains.ensures.value ∙ rw count) ∙ none_zero m (λ i. (c.type_inv.m i).fits) c.args.count c.requires
