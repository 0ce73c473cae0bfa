-- Which objects a file marks: those whose identity occurs in one of its equations.
use Rattle.std.specs.Prelude.{ℕ, Bool, ◌||◌, List, ◌++◌, map}
use Rattle.std.specs.List.{flat_map, list_any}
use Rattle.quiver.specs.Declarations.{Declaration, object_count}
use Rattle.abbreviations.specs.Occurrences.{has_identity}
use Rattle.statement_names.specs.Types.{Statement, Equation}
use Rattle.word_core.specs.declared.letter.Object.{Object}
use Rattle.statement_names.specs.Solved.{numbers_that}
use Rattle.abbreviations.specs.Written.{equations_of, claims_in}

-- the assumptions and claims of a statement, and of the file
abbrev pub stated_by : List Declaration → Statement → List Equation
stated_by ds s = equations_of ds s ++ claims_in s.kind

abbrev pub all_equations : List Declaration → List Statement → List Equation
all_equations ds statements = flat_map (stated_by ds) statements

-- whether the identity of an object occurs in an equation
abbrev pub writes_identity : List Declaration → ℕ → Equation → Bool
writes_identity ds v e = has_identity ds v e.left || has_identity ds v e.right

abbrev pub is_marked : List Declaration → List Statement → ℕ → Bool
is_marked ds statements v = list_any (writes_identity ds v) (all_equations ds statements)

abbrev pub an_object : ℕ → Object
an_object v = record { 0 = v }

-- those objects, ascending
abbrev pub marked_of : List Declaration → List Statement → List Object
marked_of ds statements = map an_object (numbers_that (object_count ds) (is_marked ds statements))
