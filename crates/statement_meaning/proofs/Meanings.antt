-- What the answers on a claim say of the equations of its file.
use Rattle.statement_meaning.proofs.Prelude.{◌≡◌, ℕ, zero, suc, ◌↔◌, List, [], ◌∷◌, get_or, slice_get, Option, Some, sym, subst, ◌∙◌, AllByRecursion, Structure, PreadditiveLaws, Representation, Represents, StarRepresents, HasValueZero, Declaration, quiver_of, matrices, transpose, matrices_laws, transpose_laws, Model, Statement, Equation, assumptions_of, claims_of, Problem, polynomials, claim_at, representation_of, Holds, declarations_of, reading, AreRead, IsRead, IsClaim, AssumptionsHold, ClaimHolds, ProvedClaimsHold, RefutedClaimsFail}
use Rattle.nc_polynomial.specs.declared.poly.Poly as made
use Rattle.statement_meaning.proofs.Statements.{statements_are_read, starred_statements_are_read}

module _ {Object Arrow : Type 0} (s : Structure Object Arrow) (involution : Arrow → Arrow) (ds : List Declaration) (f : Representation Object Arrow) where
  abbrev IsHeld : Equation → Type 0
  IsHeld e = Holds (reading s involution ds f) e.left e.right

  -- where all equations hold, all polynomials are zero, and the other way round
  pub zeros_from_held : (ps : List made.Poly) (es : List Equation) → AreRead s involution ds f ps es → AllByRecursion IsHeld es → AllByRecursion (HasValueZero s (quiver_of ds) f) (polynomials ps)
  zeros_from_held [] es read held = tt
  zeros_from_held (p ∷ ps) [] read held = absurd read
  zeros_from_held (p ∷ ps) (e ∷ es) read held = (read.0.1 held.0, zeros_from_held ps es read.1 held.1)

  held_from_zeros : (ps : List made.Poly) (es : List Equation) → AreRead s involution ds f ps es → AllByRecursion (HasValueZero s (quiver_of ds) f) (polynomials ps) → AllByRecursion IsHeld es
  held_from_zeros [] [] read zeros = tt
  held_from_zeros [] (e ∷ es) read zeros = absurd read
  held_from_zeros (p ∷ ps) [] read zeros = tt
  held_from_zeros (p ∷ ps) (e ∷ es) read zeros = (read.0.0 zeros.0, held_from_zeros ps es read.1 zeros.1)

  -- the polynomial and the equation at one place
  read_at : (ps : List made.Poly) (es : List Equation) → AreRead s involution ds f ps es → (n : ℕ) (e : Equation) → slice_get es n ≡ Some e
      → HasValueZero s (quiver_of ds) f (get_or (polynomials ps) n []) ↔ IsHeld e
  read_at [] [] read n e there = absurd (cc)
  read_at [] (x ∷ es) read n e there = absurd read
  read_at (p ∷ ps) [] read n e there = absurd read
  read_at (p ∷ ps) (x ∷ es) read zero e there = subst (λ y. HasValueZero s (quiver_of ds) f p.terms ↔ IsHeld y) (some_is there) read.0
    where
      some_is : ◌≡◌ {A = Option Equation} (Some x) (Some e) → x ≡ e
      some_is same = cc
  read_at (p ∷ ps) (x ∷ es) read (suc n) e there = read_at ps es read.1 n e there

  pub claim_is_read : (statements : List Statement) (problem : Problem) → AreRead s involution ds f problem.parts.claims (claims_of statements) → (number : ℕ) (e : Equation) → IsClaim statements number e
      → HasValueZero s (quiver_of ds) f (claim_at problem number) ↔ IsHeld e
  claim_is_read statements problem read zero e is = absurd is
  claim_is_read statements problem read (suc n) e is = read_at problem.parts.claims (claims_of statements) read n e is

-- what a model says of the file, where these are its declarations
record RefutesBy (ds : List Declaration) (statements : List Statement) (number : ℕ) (m : Model) : Type 0 where
  represents : StarRepresents (matrices m.modulus) (transpose m.modulus) (quiver_of ds) (representation_of (quiver_of ds) m)
  assumptions : AssumptionsHold (reading (matrices m.modulus) (transpose m.modulus) ds (representation_of (quiver_of ds) m)) statements
  claim : (e : Equation) → IsClaim statements number e → Holds (reading (matrices m.modulus) (transpose m.modulus) ds (representation_of (quiver_of ds) m)) e.left e.right → ⊥

pub proved_claims_hold : {Object Arrow : Type 0} {s : Structure Object Arrow} → PreadditiveLaws s → ProvedClaimsHold s
proved_claims_hold {Object} {Arrow} {s} laws statements problem number d stated means =
    let same : problem.parts.quiver ≡ declarations_of statements = stated.parts.quiver in
    let held_in : (involution : Arrow → Arrow) (f : Representation Object Arrow) → IsRead s involution f statements problem
    → (AllByRecursion (HasValueZero s (quiver_of problem.parts.quiver) f) (polynomials problem.parts.assumptions) → HasValueZero s (quiver_of problem.parts.quiver) f (claim_at problem number))
    → AssumptionsHold (reading s involution (declarations_of statements) f) statements → ClaimHolds (reading s involution (declarations_of statements) f) statements number =
    λ involution f read zero held.
    let claimed : AssumptionsHold (reading s involution problem.parts.quiver f) statements → ClaimHolds (reading s involution problem.parts.quiver f) statements number =
    λ assumed. record {
      at = λ e is. (claim_is_read s involution problem.parts.quiver f statements problem read.claims number e is).0
          (zero (zeros_from_held s involution problem.parts.quiver f problem.parts.assumptions (assumptions_of problem.parts.quiver statements) read.assumptions assumed));
    } in
    subst (λ ds. AssumptionsHold (reading s involution ds f) statements → ClaimHolds (reading s involution ds f) statements number) same claimed held in
    record {
      by_star = λ involution star_laws f rep cancels.
          let represents = subst (λ ds. StarRepresents s involution (quiver_of ds) f) (sym same) rep in
          held_in involution f (starred_statements_are_read laws involution star_laws statements problem f stated represents) (means.by_star.zero involution star_laws f represents cancels);
      plain = λ unstarred involution f rep cancels.
          let represents = subst (λ ds. Represents s (quiver_of ds) f) (sym same) rep in
          let plain = stated.parts.starred ∙ unstarred in
          held_in involution f (statements_are_read laws involution statements problem f stated plain represents) ((means.plain plain).zero f represents cancels);
    }

pub refuted_claims_fail : RefutedClaimsFail
refuted_claims_fail statements problem number m stated means =
    let s = matrices m.modulus in
    let star = transpose m.modulus in
    let refutes : (ds : List Declaration) → problem.parts.quiver ≡ ds → RefutesBy ds statements number m = λ ds same. subst (λ ds. RefutesBy ds statements number m) same
    (let ds = problem.parts.quiver in
    let f = representation_of (quiver_of ds) m in
    let read = starred_statements_are_read (matrices_laws m.modulus) star (transpose_laws m.modulus) statements problem f stated means.represents in
    record {
      represents = means.represents;
      assumptions = held_from_zeros s star ds f problem.parts.assumptions (assumptions_of ds statements) read.assumptions means.assumptions;
      claim = λ e is held. means.claim.other
          (((claim_is_read s star ds f statements problem read.claims number e is).1 held).at means.claim.source means.claim.target means.claim.source_is_object means.claim.target_is_object means.claim.typed);
    }) in
    let r = refutes (declarations_of statements) stated.parts.quiver in
    record { represents = r.represents; assumptions = r.assumptions; claim = r.claim }
