-- The table's rule, at each of its rows.
-- Assumes nothing.
use mathlib.Core.Path.{◌≡◌, sym, ap, ◌∙◌}
use mathlib.Core.Bool.{true}
use mathlib.Core.List.{List, [], ◌∷◌}
use Prim.Native.Nat.{ℕ, ◌<◌}
use native.Mathlib.Omega.{arith}
use lib.ListN.{get_or, get_or-map}
use borrow.Author.Tests.{leb-true, eqb-true}
use Rattle.model.specs.Messages.{Service, service_of, no_service}
use Rattle.basics.proofs.Choice.{every-at, each_of}
use Rattle.services.specs.declared.Row.{Row}
use Rattle.services.specs.Table.{service_in, row_fits, RowFits, no_row, TableRight, RowOf}
use Rattle.model.specs.Layout.{service_count}

row_fits_lem : {row : Row} → row_fits row ≡ true → RowFits row
unfolding row_fits
row_fits_lem test = let h = each_of (_ ∷ _ ∷ []) test in search (arith, leb-true, eqb-true)

pub rule-at : {rows : List Row} → TableRight rows → (v : ℕ) → v < service_count → RowOf (get_or rows v no_row) (service_of v)
rule-at {rows} rule v h =
    record {
      same =
          sym (get_or-map service_in rows v no_row) ∙ ap (λ (l : List Service). get_or l v no_service) rule.same;
      fits = row_fits_lem (every-at (λ k. row_fits (get_or rows k no_row)) service_count v rule.fits h);
    }
