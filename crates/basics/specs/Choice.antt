-- Choices by a test, connectives, and tables of a function's values.
-- Assumes nothing.
use Rattle.std.specs.Prelude.{ℕ, zero, suc, ◌+◌, ◌/◌, Bool, true, false, List, [], ◌∷◌, ◌++◌, set, eqb, Option, Some, None}

infixr 35 ◌and◌
infixr 30 ◌or◌
-- a where the test is true, else b
unfoldable pub pick {ℓ} : {A : Type ℓ} → Bool → A → A → A
pick true a b = a
pick false a b = b

unfoldable pub ◌and◌ : Bool → Bool → Bool
true and b = b
false and b = false

unfoldable pub ◌or◌ : Bool → Bool → Bool
true or b = true
false or b = b

-- the test f passes at each number below n
unfoldable pub every : ℕ → (ℕ → Bool) → Bool
every zero f = true
every (suc n) f = every n f and f n

-- the first of two finds
unfoldable pub or_else : Option ℕ → Option ℕ → Option ℕ
or_else (Some i) g = Some i
or_else None g = g

-- the first number below n at which the test f passes, if there is one
unfoldable pub first_below : ℕ → (ℕ → Bool) → Option ℕ
first_below zero f = None
first_below (suc n) f = or_else (first_below n f) (pick (f n) (Some n) None)

-- a place was found, and whether it is this one
unfoldable pub is_found : Option ℕ → Bool
is_found (Some i) = true
is_found None = false

unfoldable pub is_at : ℕ → Option ℕ → Bool
is_at k (Some i) = eqb i k
is_at k None = false

-- f 0, f 1, and so on, n in all
unfoldable pub tabulate : {A : Type 0} → (ℕ → A) → ℕ → List A
tabulate f zero = []
tabulate f (suc n) = tabulate f n ++ (f n ∷ [])

-- n values from place k on made d
unfoldable pub cleared_from : {A : Type 0} → A → List A → ℕ → ℕ → List A
cleared_from d l k zero = l
cleared_from d l k (suc n) = set (cleared_from d l k n) (k + n) d

-- the lists f 0, f 1, and so on, n in all, one after the other
unfoldable pub joined : (ℕ → List ℕ) → ℕ → List ℕ
joined f zero = []
joined f (suc n) = joined f n ++ f n

-- how often n can be halved, rounded down, before it is 0: n turns are enough
abbrev pub halvings_within : ℕ → ℕ → ℕ
halvings_within zero n = 0
halvings_within (suc turns) zero = 0
halvings_within (suc turns) (suc n) = suc (halvings_within turns (suc n / 2))

abbrev pub halvings : ℕ → ℕ
halvings n = halvings_within n n
