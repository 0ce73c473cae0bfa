-- Each statement has a problem or a fault.
use Rattle.signature_typing.proofs.Prelude.{◌≡◌, ◌⊎◌, inl, inr, List, [], ◌∷◌, length, Option, Some, None, Result, Ok, Err, refl, rules, ⊤, AllByRecursion, option_or, option_map, Poly, IsQuiver, all-append, PolyFault, polynomial, Spot, Statement, Equation, Placed, SignatureFault, Parts, Problem, TypeFault, IsCanonical, Declaration, quiver_of, is_quiver, name_fault_of, IsReady, declarations_of, assumptions_of, claims_of, order_of, marked_of, is_starred, shapes_of, solved_of, both_none, file_ready, equations_are_typed, letters_are_written, units_in, few_closed, first_among, told_name, told_signature, told_polynomial, IsMemory, signature_in, polynomial_in, fault_in, value_in, signatures_of, polynomials_of, equations_in, signature_fault, polynomial_fault, wrong_signature, wrong_polynomial, wrong_claims, fault_of, ArePartsOf, IsProblemOf, equation_fault, EachStatementHasAProblemOrAFault}
use Rattle.nc_polynomial.specs.Faults as poly
use Rattle.signature_typing.proofs.Posed.{posed}
use Rattle.signature_typing.proofs.Results.{Gives, equation_poly-gives}
use Rattle.signature_typing.proofs.Generated.{Made, make, generators_exist}

-- no fault is want of memory
abbrev IsTold : Option TypeFault → Type 0
IsTold None = ⊤
IsTold (Some f) = IsMemory f → ⊥

told-or : (o p : Option TypeFault) → IsTold o → IsTold p → IsTold (option_or o p)
told-or None p h k = k
told-or (Some f) p h k = h

told-first : {A : Type 0} (f : A → Option TypeFault) → ((x : A) → IsTold (f x)) → (xs : List A) → IsTold (first_among f xs)
told-first f h [] = tt
told-first f h (x ∷ xs) = told-or (f x) (first_among f xs) (h x) (told-first f h xs)

-- of signatures
told-signatures : (ds : List Declaration) (e : Equation) → IsTold (signature_fault ds e)
told-signatures ds e = go (signature_in ds e)
  where
    go : {A : Type 0} (r : Result A SignatureFault) → IsTold (fault_in (told_signature ds) r)
    go (Ok x) = tt
    go (Err f) = λ m. m

-- of arithmetic
told-arithmetic : (at : Spot) (f : PolyFault) → (poly.IsMemory f → ⊥) → IsMemory (told_polynomial at f) → ⊥
told-arithmetic at (polynomial.Overflow o) h = λ m. m
told-arithmetic at (polynomial.Size s) h = λ m. m
told-arithmetic at (polynomial.Memory e) h = h

told-polynomials : (ds : List Declaration) → IsQuiver (quiver_of ds) → (at : Spot) (e : Equation) → IsTold (polynomial_fault ds at e)
told-polynomials ds quiver at e = go (polynomial_in ds e) (equation_poly-gives ds quiver e.left e.right)
  where
    go : (r : Result Poly PolyFault) → Gives IsCanonical r → IsTold (fault_in (told_polynomial at) r)
    go (Ok p) h = tt
    go (Err f) h = told-arithmetic at f h

-- equations without a fault have polynomials within the limits
values-canonical : (ds : List Declaration) → IsQuiver (quiver_of ds) → (es : List Equation) → AllByRecursion IsCanonical (polynomials_of ds es)
values-canonical ds quiver [] = tt
values-canonical ds quiver (e ∷ es) = all-append IsCanonical (value_in (polynomial_in ds e)) (polynomials_of ds es) (go (polynomial_in ds e) (equation_poly-gives ds quiver e.left e.right)) (values-canonical ds quiver es)
  where
    go : (r : Result Poly PolyFault) → Gives IsCanonical r → AllByRecursion IsCanonical (value_in r)
    go (Ok p) h = (h, tt)
    go (Err f) h = tt

-- what is known of a file without a fault
module _ (statements : List Statement) (fine : fault_of statements ≡ None) where
  abbrev declared : List Declaration
  declared = declarations_of statements

  behind : (option_map told_name (name_fault_of statements) ≡ None) × (equation_fault declared statements ≡ None)
  behind = both_none (option_map told_name (name_fault_of statements)) (equation_fault declared statements) fine

  pub names_clean : name_fault_of statements ≡ None
  names_clean = go (name_fault_of statements) behind.0
    where
      go : (o : Option Placed) → option_map told_name o ≡ None → o ≡ None
      go None h = refl
      go (Some f) h = absurd cc

  pub none_wrong : (first_among (wrong_signature (declarations_of statements)) statements ≡ None) × (first_among (wrong_polynomial (declarations_of statements)) statements ≡ None)
  none_wrong =
      let polys = first_among (wrong_polynomial declared) statements in
      let claims = wrong_claims (claims_of statements) in
      let later = both_none (first_among (wrong_signature declared) statements) (option_or polys claims) behind.1 in
      (later.0, (both_none polys claims later.1).0)

-- a file whose names are in order
module _ (statements : List Statement) (clean : name_fault_of statements ≡ None) where
  abbrev ds : List Declaration
  ds = declarations_of statements

  ready : IsReady ds statements
  ready = file_ready statements clean

  quiver : IsQuiver (quiver_of ds)
  quiver = is_quiver ds ready.declared ready.objects_first

  told : IsTold (equation_fault ds statements)
  told =
      told-or (first_among (wrong_signature ds) statements) _
      (told-first (wrong_signature ds) (λ s. told-first (signature_fault ds) (told-signatures ds) (equations_in ds s)) statements)
      (told-or (first_among (wrong_polynomial ds) statements) _
      (told-first (wrong_polynomial ds) (λ s. told-first (polynomial_fault ds s.at) (told-polynomials ds quiver s.at) (equations_in ds s)) statements)
      (claims (claims_of statements)))
    where
      claims : (es : List Equation) → IsTold (wrong_claims es)
      claims [] = λ m. m
      claims (e ∷ es) = tt

  -- where there is no other fault either
  module _ (fine : fault_of statements ≡ None) where
    made : (es : List Equation) → Made (polynomials_of ds es)
    made es = make _ (values-canonical ds quiver es)

    parts : Parts
    parts = record {
      quiver = ds;
      order = order_of ds statements;
      starred = is_starred statements;
      marked = marked_of ds statements;
      assumptions = (made (assumptions_of ds statements)).polys;
      sigs = signatures_of ds (assumptions_of ds statements);
      claims = (made (claims_of statements)).polys;
      claim_sigs = signatures_of ds (claims_of statements);
      shapes = shapes_of ds statements;
      solved = solved_of ds statements;
    }

    are_parts : ArePartsOf statements parts
    unfolding parts
    are_parts = search (rules, (made (assumptions_of ds statements)).are, (made (claims_of statements)).are)

    problem : (p : Problem) × IsProblemOf statements p
    unfolding parts
    problem =
        let is_posed = posed equations_are_typed letters_are_written statements parts are_parts ready (none_wrong statements fine).0 (none_wrong statements fine).1 in
        let g = generators_exist parts is_posed in (
          record {
            parts = parts;
            generators = g.list;
            unit_count = length (units_in parts);
            posed = is_posed;
            closed = g.closed;
            few = few_closed parts g.list is_posed g.closed;
            counted = refl;
          },
          record { no_fault = fine; parts = are_parts },
        )

-- no fault of a file is want of memory
file_told : (statements : List Statement) (o : Option Placed) → name_fault_of statements ≡ o
    → IsTold (option_or (option_map told_name o) (equation_fault (declarations_of statements) statements))
file_told statements None clean = told statements clean
file_told statements (Some f) is = λ m. m

pub each_statement_has_a_problem_or_a_fault : EachStatementHasAProblemOrAFault
each_statement_has_a_problem_or_a_fault statements = by (fault_of statements) refl (file_told statements (name_fault_of statements) refl)
  where
    by : (o : Option TypeFault) → fault_of statements ≡ o → IsTold o
        → ((fault : TypeFault) × (fault_of statements ≡ Some fault) × (IsMemory fault → ⊥)) ⊎ ((p : Problem) × IsProblemOf statements p)
    by None fine h = inr (problem statements (names_clean statements fine) fine)
    by (Some f) is h = inl (f, is, h)
