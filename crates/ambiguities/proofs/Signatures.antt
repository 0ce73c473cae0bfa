-- The overlap word of typed rules is a path, and the S-polynomial is typed of its signature.
use Rattle.ambiguities.proofs.Prelude.{◌≡◌, ◌≢◌, ◌<◌, ◌<ℤ◌, ℕ, ℤ, pos, true, List, [], ◌∷◌, ◌++◌, length, take, sym, ap, ap₂, ◌∙◌, subst, arith, All, ints, length-append, take_at, All-map, Term, coefficient_of, poly_between, Quiver, IsPath, leads, is_path, step, split, leads-append, fits_from_path, path_from_fits, OverlapsAt, Compare, distinct-descending, words_listed, recursion_from_IsDescending, Rule, IsRule, IsTypedRule, rule_at-all, rule_at-polynomial, words_with_coefficients, Kind, Overlap, Inclusion, MeetsAs, joined_word, overlap_word_of, first_row, second_row, EachOfRow, SPolynomialsAreTyped, all_two}
use Rattle.ambiguities.proofs.Joined.{overlap_word-is, first_splits, second_splits}
use Rattle.ambiguities.proofs.Multiples.{leading_coefficient}
use Rattle.ambiguities.proofs.Bounds.{of_either, coefficient_of-s_polynomial}

-- paths
leads_from_path : (q : Quiver) (u v : ℕ) (w : List ℕ) → is_path q u v w ≡ true → leads q u v w ≡ true
leads_from_path q u v [] path = absurd (cc)
leads_from_path q u v (a ∷ w) path = path

path_from_leads : (q : Quiver) (u v : ℕ) (w : List ℕ) → 0 < length w → leads q u v w ≡ true → is_path q u v w ≡ true
path_from_leads q u v [] some path = absurd (omega arith)
path_from_leads q u v (a ∷ w) some path = path

-- a word that is not empty leads to one object
target_unique : (q : Quiver) (u u' v v' : ℕ) (w : List ℕ) → 0 < length w → leads q u v w ≡ true → leads q u' v' w ≡ true → v ≡ v'
target_unique q u u' v v' [] some path other = absurd (omega arith)
target_unique q u u' v v' (a ∷ w) some path other = sym (step q u v a w path).target ∙ (step q u' v' a w other).target

-- s o and o t are paths, and so is s o t
joined_path : (q : Quiver) (u v u' v' : ℕ) (s o t : List ℕ) → 0 < length o → leads q u v (s ++ o) ≡ true → leads q u' v' (o ++ t) ≡ true → leads q u' v (s ++ (o ++ t)) ≡ true
joined_path q u v u' v' s o t some left right =
    let first = split q u v s o left in
    let second = split q u' v' o t right in
    let meet : v' ≡ first.middle = target_unique q second.middle u v' first.middle o some second.left first.right in
    leads-append q u' first.middle v s (o ++ t) first.left (subst (λ x. leads q u' x (o ++ t) ≡ true) meet right)

record Path (q : Quiver) (w : List ℕ) : Type 0 where
  source : ℕ
  target : ℕ
  is : IsPath q source target w

overlap_path : (q : Quiver) (p r : List ℕ) (place : ℕ) → Path q p → Path q r → OverlapsAt p r place → Path q (take place p ++ r)
overlap_path q p r place left right at =
    let front : take place p ≡ at.before = ap (take place) at.left_splits ∙ take_at at.before at.shared place at.at_place in
    let whole : take place p ++ r ≡ at.before ++ (at.shared ++ at.after) = ap₂ ◌++◌ front at.right_splits in
    let left_leads = subst (λ w. leads q left.source left.target w ≡ true) at.left_splits (leads_from_path q left.source left.target p left.is) in
    let right_leads = subst (λ w. leads q right.source right.target w ≡ true) at.right_splits (leads_from_path q right.source right.target r right.is) in
    let joined = joined_path q left.source left.target right.source right.target at.before at.shared at.after at.shared_letters left_leads right_leads in
    let some : 0 < length (at.before ++ (at.shared ++ at.after)) = omega (arith, length-append at.before (at.shared ++ at.after), at.before_letters) in
    record {
      source = right.source;
      target = left.target;
      is = subst (IsPath q right.source left.target) (sym whole) (path_from_leads q right.source left.target (at.before ++ (at.shared ++ at.after)) some joined);
    }

joined_is_path : (q : Quiver) (kind : Kind) (i j : ℕ) (p r : List ℕ) (place : ℕ) → Path q p → Path q r → MeetsAs kind i j p r place → Path q (joined_word kind p r place)
joined_is_path q Overlap i j p r place left right meets = overlap_path q p r place left right meets
joined_is_path q Inclusion i j p r place left right meets = left

-- the words of a typed rule between two words
module _ (q : Quiver) (letters : ℕ) (compare : Compare) (g : Rule) (is_rule : IsRule letters compare g) (typed : IsTypedRule q g) where
  lead_path : IsPath q typed.source typed.target g.lead
  lead_path = typed.typed.at g.lead (λ none. nonzero g.leading is_rule.positive (sym (leading_coefficient compare g.poly.terms (g.leading, g.lead) g.poly.canonical.shaped is_rule.leading) ∙ none))
    where
      nonzero : (k : ℤ) → pos 0 <ℤ k → k ≡ pos 0 → ⊥
      nonzero k above none = omega (arith, ints, above, none)

  module _ (u v : ℕ) (l r word : List ℕ) (splits : word ≡ l ++ (g.lead ++ r)) (path : IsPath q u v word) where
    row_paths : (w : List ℕ) → coefficient_of g.poly.terms w ≢ pos 0 → IsPath q u v (l ++ (w ++ r))
    row_paths w some =
        path_from_fits q u v typed.source typed.target l w r
        (fits_from_path q u v typed.source typed.target l g.lead r lead_path (subst (IsPath q u v) splits path)) (typed.typed.at w some)

    multiple_paths : (w : List ℕ) → coefficient_of (poly_between l g.poly.terms r) w ≢ pos 0 → IsPath q u v w
    multiple_paths = words_with_coefficients (IsPath q u v) (poly_between l g.poly.terms r) (All-map (λ (t : Term). IsPath q u v t.1) (λ (t : Term). (t.0, l ++ (t.1 ++ r))) g.poly.terms each)
      where
        each : All (λ t. IsPath q u v (l ++ (t.1 ++ r))) g.poly.terms
        each = words_listed (λ w. IsPath q u v (l ++ (w ++ r))) g.poly.terms (distinct-descending g.poly.terms (recursion_from_IsDescending g.poly.terms g.poly.canonical.shaped.descending)) g.poly.canonical.shaped.nonzero row_paths

-- the law
pub s_polynomials_are_typed : SPolynomialsAreTyped
s_polynomials_are_typed q letters compare rules a p each typed is ends =
    let one = first_row rules a in
    let two = second_row rules a in
    let first_rule = rule_at-all (IsRule letters compare) rules a.i is.first is.first_numbered each in
    let second_rule = rule_at-all (IsRule letters compare) rules a.j is.second is.second_numbered each in
    let first_typed = rule_at-all (IsTypedRule q) rules a.i is.first is.first_numbered typed in
    let second_typed = rule_at-all (IsTypedRule q) rules a.j is.second is.second_numbered typed in
    let first_path : Path q is.first.lead = record { source = first_typed.source; target = first_typed.target; is = lead_path q letters compare is.first first_rule first_typed } in
    let second_path : Path q is.second.lead = record { source = second_typed.source; target = second_typed.target; is = lead_path q letters compare is.second second_rule second_typed } in
    let whole = subst (Path q) (sym (overlap_word-is rules a is)) (joined_is_path q a.kind a.i a.j is.first.lead is.second.lead a.place first_path second_path is.meets) in
    let u = whole.source in
    let v = whole.target in
    let word = overlap_word_of rules a in
    record {
      source = u;
      target = v;
      word_is_path = whole.is;
      typed = record {
        at = of_either one.coef two.coef (poly_between one.left is.first.poly.terms one.right) (poly_between two.left is.second.poly.terms two.right) p (coefficient_of-s_polynomial rules a is p ends) (IsPath q u v)
            (multiple_paths q letters compare is.first first_rule first_typed u v one.left one.right word (first_splits rules a is) whole.is)
            (multiple_paths q letters compare is.second second_rule second_typed u v two.left two.right word (second_splits rules a is) whole.is);
      };
      rows_are_typed = all_two (EachOfRow (IsPath q u v) rules) one two
          (subst (λ (f : List Term). (w : List ℕ) → coefficient_of f w ≢ pos 0 → IsPath q u v (one.left ++ (w ++ one.right))) (sym (rule_at-polynomial rules a.i is.first is.first_numbered))
          (row_paths q letters compare is.first first_rule first_typed u v one.left one.right word (first_splits rules a is) whole.is))
          (subst (λ (f : List Term). (w : List ℕ) → coefficient_of f w ≢ pos 0 → IsPath q u v (two.left ++ (w ++ two.right))) (sym (rule_at-polynomial rules a.j is.second is.second_numbered))
          (row_paths q letters compare is.second second_rule second_typed u v two.left two.right word (second_splits rules a is) whole.is));
    }
