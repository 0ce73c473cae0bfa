-- The equations that a statement stands for, abbreviations written out.
use Rattle.std.specs.Prelude.{ℕ, false, List, [], ◌∷◌, map, Option, Some, None}
use Rattle.std.specs.List.{flat_map}
use Rattle.statement_tokens.specs.declared.place.Spot.{Spot}
use Rattle.statement_syntax.specs.declared.tree.Factor.{Factor}
use Rattle.statement_syntax.specs.declared.tree.Mark.TheVariants.{Adjoint}
use Rattle.statement_syntax.specs.declared.tree.Name.{Name}
use Rattle.statement_syntax.specs.declared.tree.Primary.{Letter, Identity, Bracket}
use Rattle.statement_syntax.specs.declared.tree.Statement.{Statement}
use Rattle.statement_syntax.specs.declared.tree.StatementKind.{StatementKind}
use Rattle.statement_syntax.specs.declared.tree.StatementKind.TheVariants as statement
use Rattle.statement_syntax.specs.declared.tree.Sum.{Sum}
use Rattle.statement_syntax.specs.Nodes.{name_with, factor_of, term_of, sum_of}
use Rattle.definitions.specs.Quiver.{source, target}
use Rattle.quiver.specs.declared.named.Named.{Named}
use Rattle.quiver.specs.declared.named.Named.TheVariants.{Map}
use Rattle.quiver.specs.Declarations.{Declaration, quiver_of, named_in, object_name}
use Rattle.abbreviations.specs.declared.written.Equation.{Equation}

-- expressions, all of whose tokens are at one place
abbrev pub letter_at : Spot → List ℕ → Factor
letter_at at name = factor_of at (Letter (name_with name at)) []

abbrev pub identity_at : Spot → List ℕ → Factor
identity_at at name = factor_of at (Identity (name_with name at)) []

abbrev pub marked_letter : Spot → List ℕ → Factor
marked_letter at name = factor_of at (Letter (name_with name at)) (Adjoint ∷ [])

abbrev pub product_at : Spot → List Factor → Sum
product_at at factors = sum_of at (term_of at false None factors ∷ [])

-- the product of some letters, and its adjoint
abbrev pub word_at : Spot → List (List ℕ) → Sum
word_at at names = product_at at (map (letter_at at) names)

abbrev pub adjoint_at : Spot → List (List ℕ) → Sum
adjoint_at at names = product_at at (factor_of at (Bracket (word_at at names)) (Adjoint ∷ []) ∷ [])

-- the abbreviations
abbrev pub equation : Sum → Sum → Equation
equation left right = record { left = left; right = right }

-- a x a = a
abbrev pub inner_equation : Spot → List ℕ → List ℕ → Equation
inner_equation at a x = equation (word_at at (a ∷ x ∷ a ∷ [])) (word_at at (a ∷ []))

-- (a x)' = a x
abbrev pub adjoint_equation : Spot → List (List ℕ) → Equation
adjoint_equation at names = equation (adjoint_at at names) (word_at at names)

-- a x = [T]
abbrev pub identity_equation : Spot → List (List ℕ) → List ℕ → Equation
identity_equation at names v = equation (word_at at names) (product_at at (identity_at at v ∷ []))

-- the name of an end of a map; a name that stands for no map has none
abbrev pub end_name : List Declaration → (ℕ → ℕ) → Option Named → List ℕ
end_name ds end (Some (Map a)) = object_name ds (end a.0)
end_name ds end found = []

abbrev pub source_name : List Declaration → Name → List ℕ
source_name ds a = end_name ds (source (quiver_of ds)) (named_in ds a.text)

abbrev pub target_name : List Declaration → Name → List ℕ
target_name ds a = end_name ds (target (quiver_of ds)) (named_in ds a.text)

-- a x a = a, x a x = x, (a x)' = a x, (x a)' = x a
abbrev pub pinv_equations : Spot → List ℕ → List ℕ → List Equation
pinv_equations at a x =
    inner_equation at a x ∷ inner_equation at x a ∷ adjoint_equation at (a ∷ x ∷ []) ∷ adjoint_equation at (x ∷ a ∷ []) ∷ []

-- a x = [T], x a = [S], where a leads from S to T
abbrev pub inverse_equations : Spot → List ℕ → List ℕ → List ℕ → List ℕ → List Equation
inverse_equations at a x s t = identity_equation at (a ∷ x ∷ []) t ∷ identity_equation at (x ∷ a ∷ []) s ∷ []

-- p p = p, p' = p
abbrev pub projection_equations : Spot → List ℕ → List Equation
projection_equations at p =
    equation (word_at at (p ∷ p ∷ [])) (word_at at (p ∷ [])) ∷ equation (product_at at (marked_letter at p ∷ [])) (word_at at (p ∷ [])) ∷ []

abbrev pub abbreviation_of : List Declaration → Spot → StatementKind → List Equation
abbreviation_of ds at (statement.Pinv a x) = pinv_equations at a.text x.text
abbreviation_of ds at (statement.Inverse a x) = inverse_equations at a.text x.text (source_name ds a) (target_name ds a)
abbreviation_of ds at (statement.Inner a x) = inner_equation at a.text x.text ∷ []
abbreviation_of ds at (statement.Projection p) = projection_equations at p.text
abbreviation_of ds at kind = []

-- the assumptions of a statement, and of a file
abbrev pub equations_in : List Declaration → Spot → StatementKind → List Equation
equations_in ds at (statement.Assume left right) = equation left right ∷ []
equations_in ds at kind = abbreviation_of ds at kind

abbrev pub equations_of : List Declaration → Statement → List Equation
equations_of ds s = equations_in ds s.at s.kind

abbrev pub assumptions_of : List Declaration → List Statement → List Equation
assumptions_of ds statements = flat_map (equations_of ds) statements

-- the claims
abbrev pub claims_in : StatementKind → List Equation
claims_in (statement.Claim left right) = equation left right ∷ []
claims_in kind = []

abbrev pub claims_of : List Statement → List Equation
claims_of statements = flat_map (λ s. claims_in s.kind) statements
