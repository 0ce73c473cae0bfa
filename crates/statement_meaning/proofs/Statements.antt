-- The assumptions and the claims of a statement are zero exactly where its equations hold.
use Rattle.statement_meaning.proofs.Prelude.{◌≡◌, true, ◌↔◌, List, [], ◌∷◌, None, Result, Ok, Err, refl, sym, ap, subst, ◌∙◌, true≢false, All, AllByRecursion, AllZip, Structure, PreadditiveLaws, Representation, Represents, HasValueZero, Sig, Declaration, quiver_of, is_quiver, Statement, Equation, equations_of, assumptions_of, claims_in, claims_of, SignatureFault, Problem, polynomials, is_starred, HasNames, IsReady, file_ready, first_among, told_signature, told_polynomial, signature_in, polynomial_in, polynomials_of, wrong_signature, wrong_polynomial, IsProblemOf, names_clean, none_wrong, each_with_both, IsCounted, assumptions_counted, claims_counted, IsValue, AreValues, all_values, values, zipped, Holds, reading, AreRead, IsRead, StatementsAreRead, StarredStatementsAreRead}
use Rattle.nc_polynomial.specs.declared.poly.Poly as made
use Rattle.statement_meaning.proofs.Adjoints.{value-adjoint}
use Rattle.statement_meaning.proofs.Equations.{equation_is_read}
use Rattle.statement_meaning.proofs.Marks.{AdjointsAre}

-- the elements themselves as results
abbrev itself : Equation → Result Equation SignatureFault
itself e = Ok e

values-itself : (es : List Equation) → values itself es ≡ es
values-itself [] = refl
values-itself (e ∷ es) = ap (λ rest. e ∷ rest) (values-itself es)

are_values-itself : (es : List Equation) → AreValues itself es
are_values-itself [] = tt
are_values-itself (e ∷ es) = (tt, are_values-itself es)

module _ {Object Arrow : Type 0} {s : Structure Object Arrow} (laws : PreadditiveLaws s) (involution : Arrow → Arrow) (ds : List Declaration) (statements : List Statement) (ready : IsReady ds statements)
    (f : Representation Object Arrow) (rep : Represents s (quiver_of ds) f) (adjoints : is_starred statements ≡ true → AdjointsAre s involution (quiver_of ds) f) where
  -- an equation of the file, with a signature
  abbrev IsKnown : Equation → Type 0
  IsKnown e = (HasNames ds e × IsCounted ds statements e) × IsValue (signature_in ds e)

  abbrev Reads : made.Poly → Equation → Type 0
  Reads p e = HasValueZero s (quiver_of ds) f p.terms ↔ Holds (reading s involution ds f) e.left e.right

  one : (e : Equation) (p : made.Poly) → IsKnown e → polynomial_in ds e ≡ Ok p.terms → Reads p e
  one e p known poly = go (signature_in ds e) refl known.1
    where
      go : (x : Result Sig SignatureFault) → signature_in ds e ≡ x → IsValue x → Reads p e
      go (Ok t) sig fine =
          equation_is_read laws involution ds e.left e.right t p.terms f
          (record { declared = ready.declared; objects_first = ready.objects_first; left_names = known.0.0.left; right_names = known.0.0.right; signature = sig; polynomial = poly })
          rep (λ mark. adjoints (known.0.1.starred mark))
      go (Err x) sig fine = absurd fine

  all : (es : List Equation) (ps : List made.Poly) → All (HasNames ds) es → AllByRecursion (IsCounted ds statements) es → AreValues (signature_in ds) es → AreValues (polynomial_in ds) es
      → polynomials ps ≡ polynomials_of ds es → AreRead s involution ds f ps es
  all es ps names counted have_signatures have_polynomials are =
      subst (AllZip Reads ps) (values-itself es)
      (zipped (polynomial_in ds) itself (λ p. p.terms) IsKnown Reads (λ e p y known poly same. subst (Reads p) (is e y same) (one e p known poly)) es ps
      (each_with_both (λ e. HasNames ds e × IsCounted ds statements e) (λ e. IsValue (signature_in ds e)) es (each_with_both (HasNames ds) (IsCounted ds statements) es names counted) have_signatures)
      have_polynomials (are_values-itself es) are)
    where
      is : (e y : Equation) → itself e ≡ Ok y → e ≡ y
      is e y same = cc

  pub file_is_read : (problem : Problem) → problem.parts.quiver ≡ ds → polynomials problem.parts.assumptions ≡ polynomials_of ds (assumptions_of ds statements)
      → polynomials problem.parts.claims ≡ polynomials_of ds (claims_of statements)
      → first_among (wrong_signature ds) statements ≡ None → first_among (wrong_polynomial ds) statements ≡ None
      → AreRead s involution ds f problem.parts.assumptions (assumptions_of ds statements) × AreRead s involution ds f problem.parts.claims (claims_of statements)
  file_is_read problem same assumed claimed no_signature no_polynomial =
      let signatures = all_values (signature_in ds) (λ t. told_signature ds) (equations_of ds) (λ t. claims_in t.kind) statements no_signature in
      let polys = all_values (polynomial_in ds) (λ t. told_polynomial t.at) (equations_of ds) (λ t. claims_in t.kind) statements no_polynomial in (
        all (assumptions_of ds statements) problem.parts.assumptions ready.assumptions (assumptions_counted ds statements) signatures.0 polys.0 assumed,
        all (claims_of statements) problem.parts.claims ready.claims (claims_counted ds statements) signatures.1 polys.1 claimed,
      )

module _ {Object Arrow : Type 0} {s : Structure Object Arrow} (laws : PreadditiveLaws s) (involution : Arrow → Arrow) (statements : List Statement) (problem : Problem)
    (f : Representation Object Arrow) (stated : IsProblemOf statements problem) (rep : Represents s (quiver_of problem.parts.quiver) f) where
  pub problem_is_read : (is_starred statements ≡ true → AdjointsAre s involution (quiver_of problem.parts.quiver) f) → IsRead s involution f statements problem
  problem_is_read adjoints =
      let parts = stated.parts in
      let ready : IsReady problem.parts.quiver statements = subst (λ ds. IsReady ds statements) (sym parts.quiver) (file_ready statements (names_clean statements stated.no_fault)) in
      let none = none_wrong statements stated.no_fault in
      let both =
      file_is_read laws involution problem.parts.quiver statements ready f rep adjoints problem refl parts.assumptions parts.claims
      (subst (λ ds. first_among (wrong_signature ds) statements ≡ None) (sym parts.quiver) none.0)
      (subst (λ ds. first_among (wrong_polynomial ds) statements ≡ None) (sym parts.quiver) none.1) in
      record { assumptions = both.0; claims = both.1 }

pub statements_are_read : {Object Arrow : Type 0} {s : Structure Object Arrow} → PreadditiveLaws s → StatementsAreRead s
statements_are_read laws involution statements problem f stated unstarred rep =
    problem_is_read laws involution statements problem f stated rep (λ is. absurd (true≢false (sym is ∙ sym stated.parts.starred ∙ unstarred)))

pub starred_statements_are_read : {Object Arrow : Type 0} {s : Structure Object Arrow} → PreadditiveLaws s → StarredStatementsAreRead s
starred_statements_are_read laws involution star_laws statements problem f stated rep =
    problem_is_read laws involution statements problem f stated rep.represents
    (λ starred u v in_u in_v p paths. value-adjoint laws star_laws (quiver_of problem.parts.quiver) (is_quiver problem.parts.quiver problem.posed.declared problem.posed.objects_first) f rep u v in_u in_v p paths)
