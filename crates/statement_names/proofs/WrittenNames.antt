-- The names in equations stand for maps and objects.
use Rattle.statement_names.proofs.Prelude.{◌≡◌, ℕ, ◌<◌, true, false, ◌&&◌, IsTrue, List, [], ◌∷◌, ◌++◌, map, Option, Some, None, refl, ap, ap₂, sym, subst, ◌∙◌, list_all, flat_map, Declaration, object_count, letter_count, named_in, quiver_of, IsDeclared, is_map, is_object, are_names, are_names_of_terms, are_names_of_term, are_names_of_factors, are_names_of_primary, AreNames, are_names_of_factor, names-term, names-sum, Spot, Primary, Identity, Bracket, Factor, Adjoint, Term, Term', out-roll-Term, Row_of-Factor, end_of-Factor, more_of-Factor, Sum, Sum', out-roll-Sum, Row_of-Term, end_of-Term, more_of-Term, Statement, StatementKind, statement, Named, named, Kind, Object, Map, factor_of, term_of, IsQuiver, source, target, letters-quiver_of, is_named, is_quiver, is_kind, kind_within, name_fault_of, declarations_of, mark_occurrences, primary_occurrences, factors_occurrences, term_occurrences, terms_occurrences, sum_occurrences, sides_occurrences, kind_occurrences, statement_occurrences, HasNames, word_at, adjoint_at, product_at, identity_at, marked_letter, equation, inner_equation, adjoint_equation, identity_equation, projection_equations, end_name, source_name, target_name, equations_in, equations_of, assumptions_of, claims_in, claims_of}
use Rattle.abbreviations.specs.Written.{letter_at}
use Rattle.statement_names.proofs.Clean.{IsGood, AreGood}
use Rattle.statement_names.proofs.Each.{Each, Each-left, Each-right, Each-weaker, Each-flat_map}
use Rattle.statement_names.proofs.FileDeclared.{statements_good, file_declared, file_objects_first}
use Rattle.statement_names.proofs.Found.{named_object}
use Rattle.statement_names.proofs.Fresh.{apart_of}
use Rattle.statement_names.proofs.NamedKinds.{map_named, object_named}

module _ (ds : List Declaration) (kind : List ℕ → Option Kind) (maps : (q : List ℕ) → is_kind (kind q) Map ≡ true → IsTrue (is_map (named_in ds q)))
    (objects : (q : List ℕ) → is_kind (kind q) Object ≡ true → IsTrue (is_object (named_in ds q))) where
  mutual
    sum_named : (s : Sum) → Each (IsGood kind) (sum_occurrences s) → are_names ds s ≡ true
    sum_named (Sum' at shape terms) good = terms_named terms good

    terms_named : {m : _} (row : Row_of-Term m) → Each (IsGood kind) (terms_occurrences row) → are_names_of_terms ds row ≡ true
    terms_named end_of-Term good = refl
    terms_named (more_of-Term t rest) good =
        ap₂ (λ b c. b && c) (term_named t (Each-left (IsGood kind) (term_occurrences t) (terms_occurrences rest) good))
        (terms_named rest (Each-right (IsGood kind) (term_occurrences t) (terms_occurrences rest) good))

    term_named : (t : Term) → Each (IsGood kind) (term_occurrences t) → are_names_of_term ds t ≡ true
    term_named (Term' at negative literal shape factors) good = factors_named factors good

    factors_named : {m : _} (row : Row_of-Factor m) → Each (IsGood kind) (factors_occurrences row) → are_names_of_factors ds row ≡ true
    factors_named end_of-Factor good = refl
    factors_named (more_of-Factor at primary marks rest) good =
        let exponents = flat_map mark_occurrences marks in
        let factor = primary_occurrences primary ++ exponents in
        ap₂ (λ b c. b && c)
        (primary_named primary (Each-left (IsGood kind) (primary_occurrences primary) exponents (Each-left (IsGood kind) factor (factors_occurrences rest) good)))
        (factors_named rest (Each-right (IsGood kind) factor (factors_occurrences rest) good))

    primary_named : (primary : Primary) → Each (IsGood kind) (primary_occurrences primary) → are_names_of_primary ds primary ≡ true
    primary_named (Primary.Letter n) good = maps n.text good.0
    primary_named (Identity n) good = objects n.text good.0
    primary_named (Bracket s) good = sum_named s good

  pub are_named : (s : Sum) → Each (IsGood kind) (sum_occurrences s) → AreNames ds s
  are_named s good = sum_named s good

-- expressions that are written out
module _ (ds : List Declaration) where
  module _ (at : Spot) where
    product_named : (factors : List Factor) → list_all (are_names_of_factor ds) factors ≡ true → AreNames ds (product_at at factors)
    product_named factors named =
        let t = term_of at false None factors in
        let term : are_names_of_term ds t ≡ true =
        names-term ds t ∙ ap (λ r. list_all (are_names_of_factor ds) r.factors) (out-roll-Term (record { at = at; negative = false; literal = None; factors = factors })) ∙ named in
        names-sum ds (product_at at factors) ∙ ap (λ r. list_all (are_names_of_term ds) r.terms) (out-roll-Sum (record { at = at; terms = t ∷ [] })) ∙ ap (λ b. b && true) term

    letters_named : (names : List (List ℕ)) → Each (λ q. IsTrue (is_map (named_in ds q))) names → list_all (are_names_of_factor ds) (map (letter_at at) names) ≡ true
    letters_named [] maps = refl
    letters_named (q ∷ names) maps = ap₂ (λ b c. b && c) maps.0 (letters_named names maps.1)

    word_named : (names : List (List ℕ)) → Each (λ q. IsTrue (is_map (named_in ds q))) names → AreNames ds (word_at at names)
    word_named names maps = product_named (map (letter_at at) names) (letters_named names maps)

    adjoint_named : (names : List (List ℕ)) → Each (λ q. IsTrue (is_map (named_in ds q))) names → AreNames ds (adjoint_at at names)
    adjoint_named names maps = product_named (factor_of at (Bracket (word_at at names)) (Adjoint ∷ []) ∷ []) (ap (λ b. b && true) (word_named names maps))

    identity_named : (v : List ℕ) → IsTrue (is_object (named_in ds v)) → AreNames ds (product_at at (identity_at at v ∷ []))
    identity_named v is = product_named (identity_at at v ∷ []) (ap (λ b. b && true) is)

    marked_named : (q : List ℕ) → IsTrue (is_map (named_in ds q)) → AreNames ds (product_at at (marked_letter at q ∷ []))
    marked_named q is = product_named (marked_letter at q ∷ []) (ap (λ b. b && true) is)

    -- the equations of abbreviations
    module _ (a x : List ℕ) (first : IsTrue (is_map (named_in ds a))) (second : IsTrue (is_map (named_in ds x))) where
      inner_named : HasNames ds (inner_equation at a x)
      inner_named = record { left = word_named (a ∷ x ∷ a ∷ []) (first, (second, (first, tt))); right = word_named (a ∷ []) (first, tt) }

      adjoint_equation_named : HasNames ds (adjoint_equation at (a ∷ x ∷ []))
      adjoint_equation_named = record { left = adjoint_named (a ∷ x ∷ []) (first, (second, tt)); right = word_named (a ∷ x ∷ []) (first, (second, tt)) }

      identity_equation_named : (v : List ℕ) → IsTrue (is_object (named_in ds v)) → HasNames ds (identity_equation at (a ∷ x ∷ []) v)
      identity_equation_named v is = record { left = word_named (a ∷ x ∷ []) (first, (second, tt)); right = identity_named v is }

    projection_named : (p : List ℕ) → IsTrue (is_map (named_in ds p)) → Each (HasNames ds) (projection_equations at p)
    projection_named p is = (
      record { left = word_named (p ∷ p ∷ []) (is, (is, tt)); right = word_named (p ∷ []) (is, tt) },
      (record { left = marked_named p is; right = word_named (p ∷ []) (is, tt) }, tt),
    )

  -- the ends of a map are objects of the quiver, whose names stand for them
  end_named : IsDeclared ds → (end : ℕ → ℕ) → ((a : ℕ) → a < letter_count ds → end a < object_count ds) → (q : List ℕ) → IsTrue (is_map (named_in ds q)) → IsTrue (is_object (named_in ds (end_name ds end (named_in ds q))))
  end_named declared end ends q is = go (named_in ds q) refl is
    where
      go : (found : Option Named) → named_in ds q ≡ found → IsTrue (is_map found) → IsTrue (is_object (named_in ds (end_name ds end found)))
      go (Some (named.Map a)) found e =
          ap is_object (named_object ds (apart_of ds declared.distinct) (end a.0) (ends a.0 (is_named ds q (named.Map a) found).0))
      go (Some (named.Object v)) found e = absurd (cc)
      go None found e = absurd (cc)

-- in a file in whose names nothing is wrong
module _ (statements : List Statement) (clean : name_fault_of statements ≡ None) where
  abbrev all : List Declaration
  all = declarations_of statements

  sides_named : (left right : Sum) → AreGood statements (sides_occurrences left right) → HasNames all (equation left right)
  sides_named left right good = record {
    left =
        are_named all (kind_within statements) (map_named statements clean) (object_named statements clean) left
        (Each-left (IsGood (kind_within statements)) (sum_occurrences left) (sum_occurrences right) good);
    right =
        are_named all (kind_within statements) (map_named statements clean) (object_named statements clean) right
        (Each-right (IsGood (kind_within statements)) (sum_occurrences left) (sum_occurrences right) good);
  }

  quiver_is : IsQuiver (quiver_of all)
  quiver_is = is_quiver all (file_declared statements clean) (file_objects_first statements)

  source_in : (a : ℕ) → a < letter_count all → source (quiver_of all) a < object_count all
  source_in a below = quiver_is.source_is_object a (subst (λ n. a < n) (sym (letters-quiver_of all)) below)

  target_in : (a : ℕ) → a < letter_count all → target (quiver_of all) a < object_count all
  target_in a below = quiver_is.target_is_object a (subst (λ n. a < n) (sym (letters-quiver_of all)) below)

  equations_named : (at : Spot) (k : StatementKind) → AreGood statements (kind_occurrences at k) → Each (HasNames all) (equations_in all at k)
  equations_named at (statement.Assume left right) good = (sides_named left right good.1, tt)
  equations_named at (statement.Pinv a x) good =
      let first = map_named statements clean a.text good.1.0 in
      let second = map_named statements clean x.text good.1.1.0 in (
        inner_named all at a.text x.text first second,
        (
          inner_named all at x.text a.text second first,
          (adjoint_equation_named all at a.text x.text first second, (adjoint_equation_named all at x.text a.text second first, tt)),
        ),
      )
  equations_named at (statement.Inverse a x) good =
      let first = map_named statements clean a.text good.1.0 in
      let second = map_named statements clean x.text good.1.1.0 in (
        identity_equation_named all at a.text x.text first second (target_name all a) (end_named all (file_declared statements clean) (target (quiver_of all)) target_in a.text first),
        (identity_equation_named all at x.text a.text second first (source_name all a) (end_named all (file_declared statements clean) (source (quiver_of all)) source_in a.text first), tt),
      )
  equations_named at (statement.Inner a x) good = (inner_named all at a.text x.text (map_named statements clean a.text good.1.0) (map_named statements clean x.text good.1.1.0), tt)
  equations_named at (statement.Projection p) good = projection_named all at p.text (map_named statements clean p.text good.1.0)
  equations_named at k good = tt

  claims_named : (at : Spot) (k : StatementKind) → AreGood statements (kind_occurrences at k) → Each (HasNames all) (claims_in k)
  claims_named at (statement.Claim left right) good = (sides_named left right good.1, tt)
  claims_named at k good = tt

  pub assumptions_named : Each (HasNames (declarations_of statements)) (assumptions_of (declarations_of statements) statements)
  assumptions_named =
      Each-flat_map (HasNames all) (equations_of all) statements
      (Each-weaker (λ s. AreGood statements (statement_occurrences s)) (λ s. Each (HasNames all) (equations_of all s)) statements
      (λ s good. equations_named s.at s.kind good) (statements_good statements clean))

  pub all_claims_named : Each (HasNames (declarations_of statements)) (claims_of statements)
  all_claims_named =
      Each-flat_map (HasNames all) (λ s. claims_in s.kind) statements
      (Each-weaker (λ s. AreGood statements (statement_occurrences s)) (λ s. Each (HasNames all) (claims_in s.kind)) statements
      (λ s good. claims_named s.at s.kind good) (statements_good statements clean))
