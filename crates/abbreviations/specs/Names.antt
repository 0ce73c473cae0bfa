-- What the names in an expression stand for.
use Rattle.std.specs.Prelude.{ℕ, Bool, true, false, ◌&&◌, List, Option, Some, None, IsTrue}
use Rattle.quiver.specs.declared.named.Named.{Named}
use Rattle.quiver.specs.declared.named.Named.TheVariants.{Object, Map}
use Rattle.quiver.specs.Declarations.{Declaration, named_in}
use Rattle.statement_syntax.specs.declared.tree.Name.{Name}
use Rattle.statement_syntax.specs.declared.tree.Primary.{Primary, Letter, Identity, Bracket}
use Rattle.statement_syntax.specs.declared.tree.Term.{Term, Term', Row_of-Factor, end_of-Factor, more_of-Factor}
use Rattle.statement_syntax.specs.declared.tree.Sum.{Sum, Sum', Row_of-Term, end_of-Term, more_of-Term}

abbrev pub is_map : Option Named → Bool
is_map None = false
is_map (Some (Object v)) = false
is_map (Some (Map a)) = true

abbrev pub is_object : Option Named → Bool
is_object None = false
is_object (Some (Object v)) = true
is_object (Some (Map a)) = false

-- the number of a letter and of an object; 0 where there is none
abbrev pub letter_number : Option Named → ℕ
letter_number None = 0
letter_number (Some (Object v)) = 0
letter_number (Some (Map a)) = a.0

abbrev pub object_number : Option Named → ℕ
object_number None = 0
object_number (Some (Object v)) = v.0
object_number (Some (Map a)) = 0

-- the letter that a name stands for, and the object
abbrev pub letter_of : List Declaration → Name → ℕ
letter_of ds n = letter_number (named_in ds n.text)

abbrev pub object_of : List Declaration → Name → ℕ
object_of ds n = object_number (named_in ds n.text)

-- whether each name stands for a map, and each name in square brackets for an object
abbrev mutual
  pub are_names : List Declaration → Sum → Bool
  are_names ds (Sum' at shape terms) = are_names_of_terms ds terms

  pub are_names_of_terms : {m : _} → List Declaration → Row_of-Term m → Bool
  are_names_of_terms ds end_of-Term = true
  are_names_of_terms ds (more_of-Term t rest) = are_names_of_term ds t && are_names_of_terms ds rest

  pub are_names_of_term : List Declaration → Term → Bool
  are_names_of_term ds (Term' at negative literal shape factors) = are_names_of_factors ds factors

  pub are_names_of_factors : {m : _} → List Declaration → Row_of-Factor m → Bool
  are_names_of_factors ds end_of-Factor = true
  are_names_of_factors ds (more_of-Factor at primary marks rest) = are_names_of_primary ds primary && are_names_of_factors ds rest

  pub are_names_of_primary : List Declaration → Primary → Bool
  are_names_of_primary ds (Letter n) = is_map (named_in ds n.text)
  are_names_of_primary ds (Identity n) = is_object (named_in ds n.text)
  are_names_of_primary ds (Bracket s) = are_names ds s

-- Each name stands for a map, and each name in square brackets for an object.
abbrev pub AreNames : List Declaration → Sum → Type 0
AreNames ds sum = IsTrue (are_names ds sum)
