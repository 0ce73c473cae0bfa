-- The letters that a file solves for.
use Rattle.std.specs.Prelude.{ℕ, Bool, false, nat_eq, List, [], ◌∷◌, map, filter, Option, Some}
use Rattle.std.specs.List.{flat_map, list_any, range_with_len}
use Rattle.statement_names.specs.Types.{Named, named, Name, Statement, StatementKind, statement, Letter}
use Rattle.quiver.specs.Declarations.{Declaration, letter_count, named_in}
use Rattle.statement_names.specs.Ordered.{letter}

-- the numbers below the first that pass the test, ascending
abbrev pub numbers_that : ℕ → (ℕ → Bool) → List ℕ
numbers_that count test = filter test (range_with_len 0 count)

-- the maps that a statement solves for: those that `solve` lists, and the second of an abbreviation
abbrev pub solved_in : StatementKind → List Name
solved_in (statement.Pinv a x) = x ∷ []
solved_in (statement.Inverse a x) = x ∷ []
solved_in (statement.Inner a x) = x ∷ []
solved_in (statement.Solve names) = names
solved_in kind = []

abbrev pub solved_names : List Statement → List Name
solved_names statements = flat_map (λ s. solved_in s.kind) statements

-- whether the name stands for the letter
abbrev pub is_the_letter : ℕ → Option Named → Bool
is_the_letter a (Some (named.Map b)) = nat_eq b.0 a
is_the_letter a found = false

abbrev pub names_letter : List Declaration → ℕ → Name → Bool
names_letter ds a name = is_the_letter a (named_in ds name.text)

abbrev pub is_solved : List Declaration → List Statement → ℕ → Bool
is_solved ds statements a = list_any (names_letter ds a) (solved_names statements)

-- their letters, each once, ascending
abbrev pub solved_of : List Declaration → List Statement → List Letter
solved_of ds statements = map letter (numbers_that (letter_count ds) (is_solved ds statements))
