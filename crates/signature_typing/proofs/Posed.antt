-- The parts of a file without a fault can be made a problem.
use Rattle.signature_typing.proofs.Prelude.{◌≡◌, ◌≢◌, List, [], ◌∷◌, ◌++◌, length, Some, None, refl, sym, ap, ap₂, subst, ◌∙◌, append-nil, arith, map-id, All, AllByRecursion, AllZip, get_or-map, length-map, All-from_recursion, recursion_from_All, All-weaker, All-head, Poly, Declaration, Spot, Sum, Statement, Equation, Parts, StatementKind, statement, marked_of, is_starred, HasNames, IsReady, equations_of, assumptions_of, claims_in, claims_of, abbreviation_of, EquationsAreTyped, LettersAreWritten, IsWritten, polynomials, numbers, IsInPlay, HasLettersInPlay, HasObjects, IsTypedOf, IsPosed, first_among, told_signature, told_polynomial, no_claim, signature_in, polynomial_in, signatures_of, polynomials_of, equations_in, wrong_signature, wrong_polynomial, wrong_claims, ArePartsOf, AreNamed}
use Rattle.nc_polynomial.specs.declared.poly.Poly as made
use Rattle.abbreviations.specs.Written as written
use Rattle.signature_typing.proofs.Each.{each_part, each_with_both}
use Rattle.signature_typing.proofs.Ends.{signature_has_objects}
use Rattle.signature_typing.proofs.InPlay.{IsCounted, assumptions_counted, claims_counted, letter_in_play}
use Rattle.signature_typing.proofs.Values.{AreValues, all_values, length-values, each_value, zipped}

-- the names in all equations of each statement
pub named : (ds : List Declaration) (statements : List Statement) → IsReady ds statements → AreNamed ds statements
named ds statements ready =
    All-weaker (λ s. AllByRecursion (HasNames ds) (equations_in ds s)) (λ s. All (HasNames ds) (equations_in ds s)) (λ s each. All-from_recursion (HasNames ds) (equations_in ds s) each) statements
    (All-from_recursion (λ s. AllByRecursion (HasNames ds) (equations_in ds s)) statements
    (each_part (HasNames ds) (equations_of ds) (λ s. claims_in s.kind) statements
    (recursion_from_All (HasNames ds) (assumptions_of ds statements) ready.assumptions) (recursion_from_All (HasNames ds) (claims_of statements) ready.claims)))

-- those in the equation of a statement that writes one alone
pub named_equation : (ds : List Declaration) (s : Statement) (kind : StatementKind) (e : Equation) → s.kind ≡ kind
    → equations_in ds (record { at = s.at; kind = kind }) ≡ e ∷ [] → All (HasNames ds) (equations_in ds s) → HasNames ds e
named_equation ds s kind e is alone named =
    All-head (HasNames ds) e [] (subst (All (HasNames ds)) (ap (λ k. equations_in ds (record { at = s.at; kind = k })) is ∙ alone) named)

-- a statement that writes no equation itself stands for those of its abbreviation
pub other_equations : (ds : List Declaration) (at : Spot) (kind : StatementKind) → ((left right : Sum) → kind ≢ statement.Assume left right)
    → ((left right : Sum) → kind ≢ statement.Claim left right) → (written.equations_in ds at kind ≡ abbreviation_of ds at kind) × (claims_in kind ≡ [])
other_equations ds at (statement.Assume left right) no_assumption no_claim = absurd (no_assumption left right refl)
other_equations ds at (statement.Claim left right) no_assumption no_claim = absurd (no_claim left right refl)
other_equations ds at kind no_assumption no_claim = (refl, refl)

pub other_named : (ds : List Declaration) (s : Statement) → ((left right : Sum) → s.kind ≢ statement.Assume left right)
    → ((left right : Sum) → s.kind ≢ statement.Claim left right) → equations_in ds s ≡ abbreviation_of ds s.at s.kind
other_named ds s no_assumption no_claim =
    let other = other_equations ds s.at s.kind no_assumption no_claim in
    ap₂ (λ xs ys. xs ++ ys) other.0 other.1 ∙ append-nil (abbreviation_of ds s.at s.kind)

-- equations that have a signature and a polynomial
module _ (typed : EquationsAreTyped) (written : LettersAreWritten) (ds : List Declaration) (statements : List Statement) (ready : IsReady ds statements) where
  -- what is known of an equation of the file
  abbrev IsKnown : Equation → Type 0
  IsKnown e = HasNames ds e × IsCounted ds statements e

  module _ (es : List Equation) (known : All IsKnown es) (have_signatures : AreValues (signature_in ds) es) (have_polynomials : AreValues (polynomial_in ds) es)
      (ps : List made.Poly) (are : polynomials ps ≡ polynomials_of ds es) where
    equations_typed : AllZip (IsTypedOf ds) ps (signatures_of ds es)
    equations_typed =
        zipped (polynomial_in ds) (signature_in ds) (λ p. p.terms) IsKnown (IsTypedOf ds)
        (λ e p s is poly sig. typed ds e.left e.right s p.terms ready.declared ready.objects_first is.0.left is.0.right sig poly) es ps known have_polynomials have_signatures are

    equation_ends : All (HasObjects ds) (signatures_of ds es)
    equation_ends =
        each_value (signature_in ds) IsKnown (HasObjects ds)
        (λ e s is sig. signature_has_objects ds ready.declared e.left e.right s is.0.left is.0.right sig) es known have_signatures

    -- the terms have letters in play
    abbrev IsPlayed : Poly → Type 0
    IsPlayed p = All (λ t. All (IsInPlay ds (is_starred statements) (numbers (marked_of ds statements))) t.1) p

    equation_letters : All (HasLettersInPlay ds (is_starred statements) (numbers (marked_of ds statements))) ps
    equation_letters =
        unmapped (subst (All IsPlayed) (sym are) (each_value (polynomial_in ds) IsKnown IsPlayed
        (λ e p is poly. All-weaker (λ t. All (IsWritten ds e.left e.right) t.1) _
        (λ t letters. All-weaker (IsWritten ds e.left e.right) _ (λ a wrote. letter_in_play ds statements e a is.1 wrote) t.1 letters) p
        (written ds e.left e.right p ready.declared ready.objects_first is.0.left is.0.right poly)) es known have_polynomials))
      where
        unmapped : All IsPlayed (polynomials ps) → All (λ p. IsPlayed p.terms) ps
        unmapped each k p below = subst IsPlayed (get_or-map (λ q. q.terms) ps k p p.terms below) (each k p.terms (omega (arith, below, length-map ps (λ q. q.terms))))

    equation_count : length ps ≡ length es
    equation_count = sym (length-map ps (λ p. p.terms)) ∙ ap length are ∙ length-values (polynomial_in ds) es have_polynomials

-- that the equations have signatures and polynomials
module _ (ds : List Declaration) (statements : List Statement) (no_signature : first_among (wrong_signature ds) statements ≡ None) (no_polynomial : first_among (wrong_polynomial ds) statements ≡ None) where
  have_signatures : AreValues (signature_in ds) (assumptions_of ds statements) × AreValues (signature_in ds) (claims_of statements)
  have_signatures = all_values (signature_in ds) (λ s. told_signature ds) (equations_of ds) (λ s. claims_in s.kind) statements no_signature

  have_polynomials : AreValues (polynomial_in ds) (assumptions_of ds statements) × AreValues (polynomial_in ds) (claims_of statements)
  have_polynomials = all_values (polynomial_in ds) (λ s. told_polynomial s.at) (equations_of ds) (λ s. claims_in s.kind) statements no_polynomial

  -- there are as many polynomials of claims as claims
  pub claim_count : (ps : List made.Poly) → polynomials ps ≡ polynomials_of ds (claims_of statements) → length ps ≡ length (claims_of statements)
  claim_count ps are = sym (length-map ps (λ p. p.terms)) ∙ ap length are ∙ length-values (polynomial_in ds) (claims_of statements) have_polynomials.1

pub posed : EquationsAreTyped → LettersAreWritten → (statements : List Statement) (p : Parts) → ArePartsOf statements p → IsReady p.quiver statements
    → first_among (wrong_signature p.quiver) statements ≡ None → first_among (wrong_polynomial p.quiver) statements ≡ None → IsPosed p
posed typed written statements p parts ready no_signature no_polynomial =
    let ds = p.quiver in
    let signatures = have_signatures ds statements no_signature no_polynomial in
    let polys = have_polynomials ds statements no_signature no_polynomial in
    let assumed = assumptions_of ds statements in
    let claimed = claims_of statements in
    let known_assumed = each_with_both (HasNames ds) (IsCounted ds statements) assumed ready.assumptions (assumptions_counted ds statements) in
    let known_claimed = each_with_both (HasNames ds) (IsCounted ds statements) claimed ready.claims (claims_counted ds statements) in
    record {
      declared = ready.declared;
      objects_first = ready.objects_first;
      order = rw parts.order ready.order;
      marked_objects = rw parts.marked ready.marked_objects;
      marked_ascending = rw parts.marked ready.marked_ascending;
      few_assumptions = omega (arith, ready.few_assumptions, equation_count typed written ds statements ready assumed known_assumed signatures.0 polys.0 p.assumptions parts.assumptions);
      assumptions_typed = rw parts.signatures (equations_typed typed written ds statements ready assumed known_assumed signatures.0 polys.0 p.assumptions parts.assumptions);
      assumption_ends = rw parts.signatures (equation_ends typed written ds statements ready assumed known_assumed signatures.0 polys.0 p.assumptions parts.assumptions);
      assumption_letters = rw (parts.starred, parts.marked) (equation_letters typed written ds statements ready assumed known_assumed signatures.0 polys.0 p.assumptions parts.assumptions);
      few_claims = omega (arith, ready.few_claims, equation_count typed written ds statements ready claimed known_claimed signatures.1 polys.1 p.claims parts.claims);
      claims_typed = rw parts.claim_signatures (equations_typed typed written ds statements ready claimed known_claimed signatures.1 polys.1 p.claims parts.claims);
      claim_ends = rw parts.claim_signatures (equation_ends typed written ds statements ready claimed known_claimed signatures.1 polys.1 p.claims parts.claims);
      claim_letters = rw (parts.starred, parts.marked) (equation_letters typed written ds statements ready claimed known_claimed signatures.1 polys.1 p.claims parts.claims);
      some_shape = rw parts.shapes ready.some_shape;
      few_shapes = rw parts.shapes ready.few_shapes;
      shapes = rw parts.shapes ready.shapes;
      solved_maps = rw parts.solved ready.solved_maps;
      solved_ascending = rw parts.solved ready.solved_ascending;
    }

pub some_claims : (es : List Equation) → length es ≢ 0 → wrong_claims es ≡ None
some_claims [] some = absurd (some refl)
some_claims (e ∷ es) some = refl

pub no_claims : (es : List Equation) → length es ≡ 0 → wrong_claims es ≡ Some no_claim
no_claims [] none = refl
no_claims (e ∷ es) none = absurd (omega arith)

-- what is known of a file by whether it has claims
pub ruleset ends = (claim_count, some_claims, no_claims, map-id)
