-- "Four services, from a table": what a row of the code's table says, and the rule over all of its rows.
-- Assumes nothing.
use Rattle.std.specs.Prelude.{ℕ, ◌≤◌, ◌≡◌, Bool, true, false, not, List, [], ◌∷◌, map, length, get_or, leb, eqb}
use Rattle.basics.specs.Choice.{◌and◌, every}
use Rattle.model.specs.Messages.{Service, services}
use Rattle.services.specs.declared.Row.{Row}
use Rattle.model.specs.Layout.{service_count}

-- the service that a row tells of
abbrev pub service_in : Row → Service
service_in row = record { id = row.id.now; major = row.major; minor = row.minor }

-- the last byte is the only zero
unfoldable pub ends_in_zero : List ℕ → Bool
ends_in_zero [] = false
ends_in_zero (x ∷ []) = eqb x 0
ends_in_zero (x ∷ y ∷ rest) = not (eqb x 0) and ends_in_zero (y ∷ rest)

-- a row's id is at most 16 bytes and ends in its only zero: as a test, and as facts
unfoldable pub row_fits : Row → Bool
row_fits row = leb (length row.id.now) 16 and ends_in_zero row.id.now

pub record RowFits (row : Row) : Type 0 where
  pub room : length row.id.now ≤ 16
  pub zero : ends_in_zero row.id.now ≡ true

abbrev pub no_row : Row
no_row = record { id = record { ref_ptr = (0, 0); now = [] }; major = 0; minor = 0 }

-- the rule: the rows are the definition's services, and each fits
pub record TableRight (rows : List Row) : Type 0 where
  pub same : map service_in rows ≡ services
  pub fits : every service_count (λ v. row_fits (get_or rows v no_row)) ≡ true

-- what the rule says of one row and its service
pub record RowOf (row : Row) (service : Service) : Type 0 where
  pub same : service_in row ≡ service
  pub fits : RowFits row
