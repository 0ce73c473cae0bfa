-- The order that a file asks for.
use Rattle.std.specs.Prelude.{ℕ, nat_eq, if◌then◌else◌, List, [], ◌∷◌, map}
use Rattle.std.specs.List.{flat_map}
use Rattle.definitions.specs.Quiver.{star}
use Rattle.quiver.specs.Declarations.{Declaration, quiver_of}
use Rattle.statement_names.specs.Types.{Name, Number, Statement, StatementKind, statement, Letter, OrderSpec, Degree, Weight, Block}
use Rattle.abbreviations.specs.Names.{letter_of}
use Rattle.statement_names.specs.Faults.{value_of}

abbrev pub letter : ℕ → Letter
letter a = record { 0 = a }

-- a letter and its adjoint, once where it is its own
abbrev pub with_star : List Declaration → ℕ → List Letter
with_star ds a = let s = star (quiver_of ds) a in if nat_eq s a then letter a ∷ [] else letter a ∷ letter s ∷ []

-- the letter of a map and its adjoint
abbrev pub letters_for : List Declaration → Name → List Letter
letters_for ds name = with_star ds (letter_of ds name)

-- their weight is the value of the literal
abbrev pub weights_of : List Declaration → Name × Number → List (Letter × ℕ)
weights_of ds pair = map (λ l. (l, value_of pair.1.value)) (letters_for ds pair.0)

-- the order of a statement, if it is one
abbrev pub order_or : List Declaration → StatementKind → OrderSpec → OrderSpec
order_or ds statement.Degree later = Degree
order_or ds (statement.Weight pairs) later = Weight (flat_map (weights_of ds) pairs)
order_or ds (statement.Eliminate names) later = Block (flat_map (letters_for ds) names)
order_or ds kind later = later

-- the one order of the file, or the default one where it has none
abbrev pub order_of : List Declaration → List Statement → OrderSpec
order_of ds [] = Degree
order_of ds (s ∷ statements) = order_or ds s.kind (order_of ds statements)
