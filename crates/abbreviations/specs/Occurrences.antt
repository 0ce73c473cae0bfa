-- Whether a quote and whether the identity of an object occur in an expression.
use Rattle.std.specs.Prelude.{ℕ, Bool, true, false, ◌||◌, nat_eq, List, Option, Some, None}
use Rattle.std.specs.List.{list_any}
use Rattle.quiver.specs.declared.named.Named.{Named}
use Rattle.quiver.specs.declared.named.Named.TheVariants.{Object, Map}
use Rattle.quiver.specs.Declarations.{Declaration, named_in}
use Rattle.statement_syntax.specs.declared.tree.Mark.{Mark}
use Rattle.statement_syntax.specs.declared.tree.Mark.TheVariants.{Adjoint, Power}
use Rattle.statement_syntax.specs.declared.tree.Primary.{Primary, Letter, Identity, Bracket}
use Rattle.statement_syntax.specs.declared.tree.Term.{Term, Term', Row_of-Factor, end_of-Factor, more_of-Factor}
use Rattle.statement_syntax.specs.declared.tree.Sum.{Sum, Sum', Row_of-Term, end_of-Term, more_of-Term}

abbrev pub is_adjoint : Mark → Bool
is_adjoint Adjoint = true
is_adjoint (Power at exponent) = false

-- whether a factor has a quote among its marks
abbrev mutual
  pub has_quote : Sum → Bool
  has_quote (Sum' at shape terms) = has_quote_in_terms terms

  pub has_quote_in_terms : {m : _} → Row_of-Term m → Bool
  has_quote_in_terms end_of-Term = false
  has_quote_in_terms (more_of-Term t rest) = has_quote_in_term t || has_quote_in_terms rest

  pub has_quote_in_term : Term → Bool
  has_quote_in_term (Term' at negative literal shape factors) = has_quote_in_factors factors

  pub has_quote_in_factors : {m : _} → Row_of-Factor m → Bool
  has_quote_in_factors end_of-Factor = false
  has_quote_in_factors (more_of-Factor at primary marks rest) = (has_quote_in_primary primary || list_any is_adjoint marks) || has_quote_in_factors rest

  pub has_quote_in_primary : Primary → Bool
  has_quote_in_primary (Letter n) = false
  has_quote_in_primary (Identity n) = false
  has_quote_in_primary (Bracket s) = has_quote s

abbrev pub is_the_object : ℕ → Option Named → Bool
is_the_object v None = false
is_the_object v (Some (Object u)) = nat_eq u.0 v
is_the_object v (Some (Map a)) = false

-- whether the name of the object v is in square brackets
abbrev mutual
  pub has_identity : List Declaration → ℕ → Sum → Bool
  has_identity ds v (Sum' at shape terms) = has_identity_in_terms ds v terms

  pub has_identity_in_terms : {m : _} → List Declaration → ℕ → Row_of-Term m → Bool
  has_identity_in_terms ds v end_of-Term = false
  has_identity_in_terms ds v (more_of-Term t rest) = has_identity_in_term ds v t || has_identity_in_terms ds v rest

  pub has_identity_in_term : List Declaration → ℕ → Term → Bool
  has_identity_in_term ds v (Term' at negative literal shape factors) = has_identity_in_factors ds v factors

  pub has_identity_in_factors : {m : _} → List Declaration → ℕ → Row_of-Factor m → Bool
  has_identity_in_factors ds v end_of-Factor = false
  has_identity_in_factors ds v (more_of-Factor at primary marks rest) = has_identity_in_primary ds v primary || has_identity_in_factors ds v rest

  pub has_identity_in_primary : List Declaration → ℕ → Primary → Bool
  has_identity_in_primary ds v (Letter n) = false
  has_identity_in_primary ds v (Identity n) = is_the_object v (named_in ds n.text)
  has_identity_in_primary ds v (Bracket s) = has_identity ds v s
