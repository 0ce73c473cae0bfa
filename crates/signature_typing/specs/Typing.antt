-- The problem of a statement file, or its first fault.
use Rattle.std.specs.Prelude.{◌≡◌, List, [], ◌∷◌, ◌++◌, Option, Some, None, Result, Ok, Err}
use Rattle.std.specs.List.{flat_map}
use Rattle.std.specs.Option.{option_or, option_map}
use Rattle.definitions.specs.Poly.{Poly}
use Rattle.signature_typing.specs.Types.{PolyFault, Sig, Spot, Sum, Statement, Equation, SignatureFault, Parts, Problem, TypeFault}
use Rattle.quiver.specs.Declarations.{Declaration}
use Rattle.statement_names.specs.Faults.{name_fault_of}
use Rattle.statement_names.specs.Numbered.{declarations_of}
use Rattle.abbreviations.specs.Written.{equations_of, assumptions_of, claims_in, claims_of}
use Rattle.statement_names.specs.Ordered.{order_of}
use Rattle.statement_names.specs.Marked.{marked_of}
use Rattle.statement_names.specs.Starred.{is_starred}
use Rattle.statement_names.specs.Shapes.{shapes_of}
use Rattle.statement_names.specs.Solved.{solved_of}
use Rattle.expressions.specs.Signatures.{equation_signature}
use Rattle.expressions.specs.Polynomials.{equation_poly}
use Rattle.adjoint_rules.specs.Problem.{polynomials}
use Rattle.signature_typing.specs.First.{first_among}
use Rattle.signature_typing.specs.Fault.{told_name, told_signature, told_polynomial, no_claim}

-- equations
abbrev pub equation : Sum → Sum → Equation
equation left right = record { left = left; right = right }

abbrev pub signature_in : List Declaration → Equation → Result Sig SignatureFault
signature_in ds e = equation_signature ds e.left e.right

abbrev pub polynomial_in : List Declaration → Equation → Result Poly PolyFault
polynomial_in ds e = equation_poly ds e.left e.right

-- the fault of a result, as it is returned, or none
abbrev pub fault_in : {A E : Type 0} → (E → TypeFault) → Result A E → Option TypeFault
fault_in told (Ok x) = None
fault_in told (Err e) = Some (told e)

abbrev pub value_in : {A E : Type 0} → Result A E → List A
value_in (Ok x) = x ∷ []
value_in (Err e) = []

-- the assumptions and the claims of a statement
abbrev pub equations_in : List Declaration → Statement → List Equation
equations_in ds s = equations_of ds s ++ claims_in s.kind

-- the fault of an equation's signatures, and that of its arithmetic, where its statement begins at a place
abbrev pub signature_fault : List Declaration → Equation → Option TypeFault
signature_fault ds e = fault_in (told_signature ds) (signature_in ds e)

abbrev pub polynomial_fault : List Declaration → Spot → Equation → Option TypeFault
polynomial_fault ds at e = fault_in (told_polynomial at) (polynomial_in ds e)

-- A stage of equations: the values, and the fault, where the statement begins at a place.
pub record Made (V : Type 0) : Type 0 where
  pub values : List Declaration → Equation → List V
  pub fault : List Declaration → Spot → Equation → Option TypeFault

abbrev pub made_of : {V : Type 0} → Made V → List Declaration → List Equation → List V
made_of made ds es = flat_map (made.values ds) es

-- the first fault of a statement
abbrev pub wrong_in : {V : Type 0} → Made V → List Declaration → Statement → Option TypeFault
wrong_in made ds s = first_among (made.fault ds s.at) (equations_in ds s)

-- signatures, and polynomials
abbrev pub signature_stage : Made Sig
signature_stage = record { values = λ ds e. value_in (signature_in ds e); fault = λ ds at e. signature_fault ds e }

abbrev pub polynomial_stage : Made Poly
polynomial_stage = record { values = λ ds e. value_in (polynomial_in ds e); fault = polynomial_fault }

abbrev pub signatures_of : List Declaration → List Equation → List Sig
signatures_of = made_of signature_stage

abbrev pub polynomials_of : List Declaration → List Equation → List Poly
polynomials_of = made_of polynomial_stage

abbrev pub wrong_signature : List Declaration → Statement → Option TypeFault
wrong_signature = wrong_in signature_stage

abbrev pub wrong_polynomial : List Declaration → Statement → Option TypeFault
wrong_polynomial = wrong_in polynomial_stage

-- the fault of a file without a claim
abbrev pub wrong_claims : List Equation → Option TypeFault
wrong_claims [] = Some no_claim
wrong_claims (e ∷ es) = None

-- Signatures are tested first, then arithmetic, and then the number of claims.
abbrev pub equation_fault : List Declaration → List Statement → Option TypeFault
equation_fault ds statements =
    option_or (first_among (wrong_signature ds) statements)
    (option_or (first_among (wrong_polynomial ds) statements)
    (wrong_claims (claims_of statements)))

-- Names are tested before equations.
abbrev pub fault_of : List Statement → Option TypeFault
fault_of statements = option_or (option_map told_name (name_fault_of statements)) (equation_fault (declarations_of statements) statements)

-- The parts of the problem of a file whose names, signatures and coefficients have no fault.
pub record ArePartsOf (statements : List Statement) (p : Parts) : Type 0 where
  pub quiver : p.quiver ≡ declarations_of statements
  pub order : p.order ≡ order_of p.quiver statements
  pub starred : p.starred ≡ is_starred statements
  pub marked : p.marked ≡ marked_of p.quiver statements
  -- the assumptions, each left minus right, with their signatures
  pub assumptions : polynomials p.assumptions ≡ polynomials_of p.quiver (assumptions_of p.quiver statements)
  pub signatures : p.sigs ≡ signatures_of p.quiver (assumptions_of p.quiver statements)
  -- the claims
  pub claims : polynomials p.claims ≡ polynomials_of p.quiver (claims_of statements)
  pub claim_signatures : p.claim_sigs ≡ signatures_of p.quiver (claims_of statements)
  -- the shapes of the models that are searched
  pub shapes : p.shapes ≡ shapes_of p.quiver statements
  pub solved : p.solved ≡ solved_of p.quiver statements

-- The problem of a file without a fault has these parts.
pub record IsProblemOf (statements : List Statement) (p : Problem) : Type 0 where
  pub no_fault : fault_of statements ≡ None
  pub parts : ArePartsOf statements p.parts
