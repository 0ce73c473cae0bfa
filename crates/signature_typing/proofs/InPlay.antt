-- The letters of an equation of a file are in play.
use Rattle.signature_typing.proofs.Prelude.{◌≡◌, ◌<◌, ℕ, Bool, true, false, cond, ◌&&◌, ◌||◌, nat_eq, nat_lt, nat_le, List, [], ◌∷◌, map, get_or, None, refl, zero-add, eq-eqb, eqb-true, ltb-true, ap, subst, ◌∙◌, rules, tests, arith, AllByRecursion, flat_map, list_any, range_with_len, or_left, or_right, lt-ltb, or-false, list_any-append, list_any_at, length-range_with_len, get_or-range_with_len, any-filter_same, star, Declaration, object_count, letter_count, quiver_of, Spot, Factor, Statement, StatementKind, statement, out-roll-Term, out-roll-Sum, Equation, term_of, stated_by, all_equations, writes_identity, is_marked, an_object, marked_of, is_starred_in, is_starred, numbers_that, product_at, equation, equations_of, assumptions_of, claims_in, claims_of, has_quote, has_quote_in_term, has_quote_in_factor, mark-sum, mark-term, IsWritten, numbers, IsInPlay, Each-append, Each-weaker}
use Rattle.abbreviations.specs.Written.{equations_in}

-- whether a side has a mark
abbrev pub is_starred_equation : Equation → Bool
is_starred_equation e = has_quote e.left || has_quote e.right

-- The marks of the equation make the file starred, and the objects whose identities it writes are marked.
pub record IsCounted (ds : List Declaration) (statements : List Statement) (e : Equation) : Type 0 where
  pub starred : is_starred_equation e ≡ true → is_starred statements ≡ true
  pub marked : (v : ℕ) → writes_identity ds v e ≡ true → is_marked ds statements v ≡ true

-- a product has a mark where a factor has one
product_mark : (at : Spot) (factors : List Factor) → has_quote (product_at at factors) ≡ list_any has_quote_in_factor factors
product_mark at factors =
    let term = term_of at false None factors in
    mark-sum (product_at at factors) ∙ ap (λ r. list_any has_quote_in_term r.terms) (out-roll-Sum (record { at = at; terms = term ∷ [] }))
    ∙ or-false (has_quote_in_term term) ∙ mark-term term
    ∙ ap (λ r. list_any has_quote_in_factor r.factors) (out-roll-Term (record { at = at; negative = false; literal = None; factors = factors }))

-- two products without marks
unmarked : (at : Spot) (factors others : List Factor) → list_any has_quote_in_factor factors ≡ false → list_any has_quote_in_factor others ≡ false → is_starred_equation (equation (product_at at factors) (product_at at others)) ≡ false
unmarked at factors others none no_other =
    ap (λ b. b || has_quote (product_at at others)) (product_mark at factors ∙ none) ∙ product_mark at others ∙ no_other

never : (b : Bool) {P : Type 0} → b ≡ false → b ≡ true → P
never b none is = absurd cc

-- the equations of a statement have no mark that it does not count
abbrev AreStarred : StatementKind → List Equation → Type 0
AreStarred kind es = AllByRecursion (λ e. is_starred_equation e ≡ true → is_starred_in kind ≡ true) es

equations_starred : (ds : List Declaration) (at : Spot) (kind : StatementKind) → AreStarred kind (equations_in ds at kind)
equations_starred ds at (statement.Assume left right) = (λ is. is, tt)
equations_starred ds at (statement.Pinv a x) = (λ _. refl, (λ _. refl, (λ _. refl, (λ _. refl, tt))))
equations_starred ds at (statement.Inverse a x) = (never _ (unmarked at _ _ refl refl), (never _ (unmarked at _ _ refl refl), tt))
equations_starred ds at (statement.Inner a x) = (never _ (unmarked at _ _ refl refl), tt)
equations_starred ds at (statement.Projection p) = (λ _. refl, (λ _. refl, tt))
equations_starred ds at kind = tt

claims_starred : (kind : StatementKind) → AreStarred kind (claims_in kind)
claims_starred (statement.Claim left right) = (λ is. is, tt)
claims_starred kind = tt

module _ (ds : List Declaration) where
  -- what a statement counts of an equation
  record IsCountedIn (s : Statement) (e : Equation) : Type 0 where
    starred : is_starred_equation e ≡ true → is_starred_in s.kind ≡ true
    marked : (v : ℕ) → writes_identity ds v e ≡ true → list_any (writes_identity ds v) (stated_by ds s) ≡ true

  counted_in : (s : Statement) (es : List Equation) → AreStarred s.kind es
      → ((v : ℕ) → list_any (writes_identity ds v) es ≡ true → list_any (writes_identity ds v) (stated_by ds s) ≡ true) → AllByRecursion (IsCountedIn s) es
  counted_in s [] starred marked = tt
  counted_in s (e ∷ es) starred marked = (
    record { starred = starred.0; marked = λ v is. marked v (or_left _ _ is) },
    counted_in s es starred.1 (λ v is. marked v (or_right (writes_identity ds v e) _ is)),
  )

  -- what each statement counts of a part of it is counted by the file
  all_counted : (part : Statement → List Equation) → ((s : Statement) → AllByRecursion (IsCountedIn s) (part s)) → (xs : List Statement)
      → AllByRecursion (IsCounted ds xs) (flat_map part xs)
  all_counted part each [] = tt
  all_counted part each (x ∷ xs) =
      Each-append (IsCounted ds (x ∷ xs)) (part x) (flat_map part xs)
      (Each-weaker (IsCountedIn x) (IsCounted ds (x ∷ xs)) (part x) (λ e here. record {
        starred = λ mark. or_left (is_starred_in x.kind) (is_starred xs) (here.starred mark);
        marked = λ v is. list_any-append (writes_identity ds v) (stated_by ds x) (all_equations ds xs) ∙ or_left _ _ (here.marked v is);
      }) (each x))
      (Each-weaker (IsCounted ds xs) (IsCounted ds (x ∷ xs)) (flat_map part xs) (λ e later. record {
        starred = λ mark. or_right (is_starred_in x.kind) (is_starred xs) (later.starred mark);
        marked = λ v is. list_any-append (writes_identity ds v) (stated_by ds x) (all_equations ds xs) ∙ or_right _ _ (later.marked v is);
      }) (all_counted part each xs))

module _ (ds : List Declaration) (statements : List Statement) where
  pub assumptions_counted : AllByRecursion (IsCounted ds statements) (assumptions_of ds statements)
  assumptions_counted = all_counted ds (equations_of ds) (λ s. counted_in ds s (equations_of ds s) (equations_starred ds s.at s.kind)
      (λ v is. list_any-append (writes_identity ds v) (equations_of ds s) (claims_in s.kind) ∙ or_left _ _ is)) statements

  pub claims_counted : AllByRecursion (IsCounted ds statements) (claims_of statements)
  claims_counted = all_counted ds (λ s. claims_in s.kind) (λ s. counted_in ds s (claims_in s.kind) (claims_starred s.kind)
      (λ v is. list_any-append (writes_identity ds v) (equations_of ds s) (claims_in s.kind) ∙ or_right _ _ is)) statements

  -- letters
  numbers_of_objects : (xs : List ℕ) → numbers (map an_object xs) ≡ xs
  numbers_of_objects [] = refl
  numbers_of_objects (x ∷ xs) = ap (λ ys. x ∷ ys) (numbers_of_objects xs)

  -- a marked object is among the marked ones
  marked_listed : (a : ℕ) → a < object_count ds → is_marked ds statements a ≡ true → list_any (nat_eq a) (numbers (marked_of ds statements)) ≡ true
  marked_listed a in_range is =
      let all = range_with_len 0 (object_count ds) in
      let at_a : get_or all a 0 ≡ a = get_or-range_with_len 0 (object_count ds) a 0 in_range ∙ zero-add a in
      ap (list_any (nat_eq a)) (numbers_of_objects (numbers_that (object_count ds) (is_marked ds statements)))
      ∙ any-filter_same (nat_eq a) (is_marked ds statements) true (λ k same. subst (λ v. is_marked ds statements v ≡ true) (eqb-true a k same) is) all
      ∙ list_any_at (nat_eq a) all a 0 (omega (arith, length-range_with_len 0 (object_count ds))) (ap (nat_eq a) at_a ∙ eq-eqb a a refl)

  pub letter_in_play : (e : Equation) (a : ℕ) → IsCounted ds statements e → IsWritten ds e.left e.right a → IsInPlay ds (is_starred statements) (numbers (marked_of ds statements)) a
  letter_in_play e a count written =
      ap (λ b. b && cond (nat_lt a (object_count ds)) (list_any (nat_eq a) (numbers (marked_of ds statements))) (is_starred statements || nat_le a (star (quiver_of ds) a))) (lt-ltb a (letter_count ds) written.letter)
      ∙ go (nat_lt a (object_count ds)) refl
    where
      adjoint : (c : Bool) → nat_le a (star (quiver_of ds) a) ≡ c → (is_starred statements || c) ≡ true
      adjoint true is = or_right (is_starred statements) true refl
      adjoint false is = or_left (is_starred statements) false (count.starred (written.adjoint (search (rules, tests))))

      go : (b : Bool) → nat_lt a (object_count ds) ≡ b → cond b (list_any (nat_eq a) (numbers (marked_of ds statements))) (is_starred statements || nat_le a (star (quiver_of ds) a)) ≡ true
      go true is = let in_range = ltb-true a (object_count ds) is in marked_listed a in_range (count.marked a (written.identity in_range))
      go false is = adjoint (nat_le a (star (quiver_of ds) a)) refl
