-- The tokens of a tree, by lists in place of rows.
use Rattle.statement_syntax.proofs.Prelude.{◌≡◌, Bool, true, false, List, [], ◌++◌, ◌∷◌, refl, sym, ap, ◌∙◌, flat_map, TokenKind, Term, out-Term, Sum, out-Sum, Term', outs-Term', Row_of-Factor, end_of-Factor, more_of-Factor, items-the_row-Factor, items_shown-the_row-Factor-1, Sum', outs-Sum', Row_of-Term, end_of-Term, more_of-Term, items-the_row-Term, items_shown-the_row-Term-0, literal_kinds, sign_kinds, mark_kinds, primary_kinds, factor_kinds, factors_kinds, term_kinds, terms_kinds, sum_kinds}

-- the tokens of terms, of which the first is the sum's first or not
abbrev pub terms_of : Bool → List Term → List TokenKind
terms_of leading [] = []
terms_of leading (t ∷ ts) = term_kinds leading t ++ terms_of false ts

factors-flat : (n : _) (k : Row_of-Factor n) → factors_kinds k ≡ flat_map factor_kinds (items-the_row-Factor n k)
factors-flat n end_of-Factor = refl
factors-flat n (more_of-Factor at primary marks rest) = ap (λ x. (primary_kinds primary ++ flat_map mark_kinds marks) ++ x) (factors-flat _ rest)

terms-flat : (n : _) (leading : Bool) (k : Row_of-Term n) → terms_kinds leading k ≡ terms_of leading (items-the_row-Term n k)
terms-flat n leading end_of-Term = refl
terms-flat n leading (more_of-Term t rest) = ap (λ x. term_kinds leading t ++ x) (terms-flat _ false rest)

pub term-flat : (leading : Bool) (t : Term) → term_kinds leading t ≡ sign_kinds leading (out-Term t).negative ++ literal_kinds (out-Term t).literal ++ flat_map factor_kinds (out-Term t).factors
term-flat leading (Term' at negative literal shape factors) =
    ap (λ x. sign_kinds leading negative ++ literal_kinds literal ++ x) (factors-flat _ factors ∙ ap (flat_map factor_kinds) (sym (items_shown-the_row-Factor-1 shape factors)))
    ∙ ap (λ r. sign_kinds leading r.negative ++ literal_kinds r.literal ++ flat_map factor_kinds r.factors) (sym (outs-Term' at negative literal shape factors))

pub sum-flat : (s : Sum) → sum_kinds s ≡ terms_of true (out-Sum s).terms
sum-flat (Sum' at shape terms) =
    terms-flat _ true terms ∙ ap (terms_of true) (sym (items_shown-the_row-Term-0 shape terms))
    ∙ ap (λ r. terms_of true r.terms) (sym (outs-Sum' at shape terms))
