-- What the definitions of names and of what occurs say of a sum and of a term, by lists in place of rows.
use Rattle.abbreviations.proofs.Prelude.{◌≡◌, ℕ, ◌<◌, length, get_or, Bool, true, false, ◌&&◌, ◌||◌, List, refl, sym, ap, ◌∙◌, list_all, list_any, true_from_ne_false, list_all_at, Declaration, Factor, Term, Term', out-Term, outs-Term', Row_of-Factor, end_of-Factor, more_of-Factor, items-the_row-Factor, items_shown-the_row-Factor-1, Sum, Sum', out-Sum, outs-Sum', Row_of-Term, end_of-Term, more_of-Term, items-the_row-Term, items_shown-the_row-Term-0, are_names, are_names_of_terms, are_names_of_term, are_names_of_factors, are_names_of_primary, is_adjoint, has_quote, has_quote_in_terms, has_quote_in_term, has_quote_in_factors, has_quote_in_primary, has_identity, has_identity_in_terms, has_identity_in_term, has_identity_in_factors, has_identity_in_primary}

-- one factor
abbrev pub are_names_of_factor : List Declaration → Factor → Bool
are_names_of_factor ds f = are_names_of_primary ds f.primary

abbrev pub has_quote_in_factor : Factor → Bool
has_quote_in_factor f = has_quote_in_primary f.primary || list_any is_adjoint f.marks

abbrev pub has_identity_in_factor : List Declaration → ℕ → Factor → Bool
has_identity_in_factor ds v f = has_identity_in_primary ds v f.primary

-- sums and terms
module _ {X : Type 0} where
  -- what holds of the list of a row holds of the list of the sum or the term
  pub of_sum : (g : List Term → X) (at : _) (shape : _) (terms : _) → g (items-the_row-Term _ terms) ≡ g (out-Sum (Sum' at shape terms)).terms
  of_sum g at shape terms = ap g (sym (items_shown-the_row-Term-0 shape terms)) ∙ ap (λ r. g r.terms) (sym (outs-Sum' at shape terms))

  pub of_term : (g : List Factor → X) (at : _) (negative : _) (literal : _) (shape : _) (factors : _) → g (items-the_row-Factor _ factors) ≡ g (out-Term (Term' at negative literal shape factors)).factors
  of_term g at negative literal shape factors = ap g (sym (items_shown-the_row-Factor-1 shape factors)) ∙ ap (λ r. g r.factors) (sym (outs-Term' at negative literal shape factors))

-- names
names-factors : (ds : List Declaration) (n : _) (k : Row_of-Factor n) → are_names_of_factors ds k ≡ list_all (are_names_of_factor ds) (items-the_row-Factor n k)
names-factors ds n end_of-Factor = refl
names-factors ds n (more_of-Factor at primary marks rest) = ap (λ b. are_names_of_primary ds primary && b) (names-factors ds _ rest)

names-terms : (ds : List Declaration) (n : _) (k : Row_of-Term n) → are_names_of_terms ds k ≡ list_all (are_names_of_term ds) (items-the_row-Term n k)
names-terms ds n end_of-Term = refl
names-terms ds n (more_of-Term t rest) = ap (λ b. are_names_of_term ds t && b) (names-terms ds _ rest)

pub names-term : (ds : List Declaration) (t : Term) → are_names_of_term ds t ≡ list_all (are_names_of_factor ds) (out-Term t).factors
names-term ds (Term' at negative literal shape factors) = names-factors ds _ factors ∙ of_term (list_all (are_names_of_factor ds)) at negative literal shape factors

pub names-sum : (ds : List Declaration) (s : Sum) → are_names ds s ≡ list_all (are_names_of_term ds) (out-Sum s).terms
names-sum ds (Sum' at shape terms) = names-terms ds _ terms ∙ of_sum (list_all (are_names_of_term ds)) at shape terms

all_at : {X : Type 0} (test : X → Bool) (xs : List X) (i : ℕ) (x : X) → list_all test xs ≡ true → i < length xs → x ≡ get_or xs i x → test x ≡ true
all_at test xs i x all inside item = ap test item ∙ true_from_ne_false (test (get_or xs i x)) (λ none. false_ne_true (sym (list_all_at test xs i x inside none) ∙ all))
  where
    false_ne_true : ◌≡◌ {A = Bool} false true → ⊥
    false_ne_true e = cc

pub names_of_the_term : (ds : List Declaration) (s : Sum) (terms : List Term) (i : ℕ) (t : Term) → are_names ds s ≡ true → terms ≡ (out-Sum s).terms → i < length terms → t ≡ get_or terms i t → are_names_of_term ds t ≡ true
names_of_the_term ds s terms i t known items inside item =
    all_at (are_names_of_term ds) terms i t (ap (list_all (are_names_of_term ds)) items ∙ sym (names-sum ds s) ∙ known) inside item

pub names_of_the_factor : (ds : List Declaration) (t : Term) (factors : List Factor) (i : ℕ) (f : Factor) → are_names_of_term ds t ≡ true → factors ≡ (out-Term t).factors → i < length factors → f ≡ get_or factors i f → are_names_of_primary ds f.primary ≡ true
names_of_the_factor ds t factors i f known items inside item =
    all_at (are_names_of_factor ds) factors i f (ap (list_all (are_names_of_factor ds)) items ∙ sym (names-term ds t) ∙ known) inside item

-- marks
mark-factors : (n : _) (k : Row_of-Factor n) → has_quote_in_factors k ≡ list_any has_quote_in_factor (items-the_row-Factor n k)
mark-factors n end_of-Factor = refl
mark-factors n (more_of-Factor at primary marks rest) = ap (λ b. (has_quote_in_primary primary || list_any is_adjoint marks) || b) (mark-factors _ rest)

mark-terms : (n : _) (k : Row_of-Term n) → has_quote_in_terms k ≡ list_any has_quote_in_term (items-the_row-Term n k)
mark-terms n end_of-Term = refl
mark-terms n (more_of-Term t rest) = ap (λ b. has_quote_in_term t || b) (mark-terms _ rest)

pub mark-term : (t : Term) → has_quote_in_term t ≡ list_any has_quote_in_factor (out-Term t).factors
mark-term (Term' at negative literal shape factors) = mark-factors _ factors ∙ of_term (list_any has_quote_in_factor) at negative literal shape factors

pub mark-sum : (s : Sum) → has_quote s ≡ list_any has_quote_in_term (out-Sum s).terms
mark-sum (Sum' at shape terms) = mark-terms _ terms ∙ of_sum (list_any has_quote_in_term) at shape terms

-- identities
identity-factors : (ds : List Declaration) (v : ℕ) (n : _) (k : Row_of-Factor n) → has_identity_in_factors ds v k ≡ list_any (has_identity_in_factor ds v) (items-the_row-Factor n k)
identity-factors ds v n end_of-Factor = refl
identity-factors ds v n (more_of-Factor at primary marks rest) = ap (λ b. has_identity_in_primary ds v primary || b) (identity-factors ds v _ rest)

identity-terms : (ds : List Declaration) (v : ℕ) (n : _) (k : Row_of-Term n) → has_identity_in_terms ds v k ≡ list_any (has_identity_in_term ds v) (items-the_row-Term n k)
identity-terms ds v n end_of-Term = refl
identity-terms ds v n (more_of-Term t rest) = ap (λ b. has_identity_in_term ds v t || b) (identity-terms ds v _ rest)

pub identity-term : (ds : List Declaration) (v : ℕ) (t : Term) → has_identity_in_term ds v t ≡ list_any (has_identity_in_factor ds v) (out-Term t).factors
identity-term ds v (Term' at negative literal shape factors) = identity-factors ds v _ factors ∙ of_term (list_any (has_identity_in_factor ds v)) at negative literal shape factors

pub identity-sum : (ds : List Declaration) (v : ℕ) (s : Sum) → has_identity ds v s ≡ list_any (has_identity_in_term ds v) (out-Sum s).terms
identity-sum ds v (Sum' at shape terms) = identity-terms ds v _ terms ∙ of_sum (list_any (has_identity_in_term ds v)) at shape terms
