-- Where the arithmetic of an S-polynomial ends.
use Rattle.ambiguities.proofs.Prelude.{◌≡◌, List, Result, Ok, Some, sym, ap, ◌∙◌, subst, Term, PolyFault, Explains, moved_result, and_then, combined, Row, Rule, rule_at, rule_at-polynomial, Ambiguity, first_row, second_row, row_multiple, s_polynomial_of}
use Rattle.nc_polynomial.specs.declared.fault.PolyFault.TheVariants as fault

-- a fault of the first call is that of both
explains-and_then : (r : Result (List Term) PolyFault) (next : List Term → Result (List Term) PolyFault) (e : PolyFault) → Explains r e → Explains (and_then r next) e
explains-and_then r next (fault.Overflow o) why = ap (λ s. and_then s next) why
explains-and_then r next (fault.Size s) why = ap (λ s. and_then s next) why
explains-and_then r next (fault.Memory m) why = tt

-- the rules as the call reads them, and the multiple of the first one
module _ (all rules : List Rule) (same : all ≡ rules) (a : Ambiguity) {g : Rule} (g_is : rule_at all a.i ≡ Some g) {one : Row} (one_is : one ≡ first_row all a) where
  abbrev left : Result (List Term) PolyFault
  left = moved_result one.left g.poly.terms one.right

  abbrev rest : List Term → Result (List Term) PolyFault
  rest m = and_then (row_multiple all (second_row all a)) (λ n. combined one.coef m (second_row all a).coef n)

  whole : s_polynomial_of rules a ≡ and_then left rest
  whole =
      ap (λ rs. s_polynomial_of rs a) (sym same)
      ∙ (λ i.
      and_then (moved_result (sym one_is i).left (rule_at-polynomial all a.i g g_is i) (sym one_is i).right) (λ m.
      and_then (row_multiple all (second_row all a)) (λ n. combined (sym one_is i).coef m (second_row all a).coef n)))

  pub exit_left : (e : PolyFault) → Explains left e → Explains (s_polynomial_of rules a) e
  exit_left e why = subst (λ r. Explains r e) (sym whole) (explains-and_then left rest e why)

  module _ (m : List Term) (left_is : left ≡ Ok m) {h : Rule} (h_is : rule_at all a.j ≡ Some h) {two : Row} (two_is : two ≡ second_row all a) where
    abbrev right : Result (List Term) PolyFault
    right = moved_result two.left h.poly.terms two.right

    abbrev last : List Term → Result (List Term) PolyFault
    last n = combined one.coef m two.coef n

    after_left : s_polynomial_of rules a ≡ and_then right last
    after_left =
        whole ∙ ap (λ r. and_then r rest) left_is
        ∙ (λ i. and_then (moved_result (sym two_is i).left (rule_at-polynomial all a.j h h_is i) (sym two_is i).right) (λ n. combined one.coef m (sym two_is i).coef n))

    pub exit_right : (e : PolyFault) → Explains right e → Explains (s_polynomial_of rules a) e
    exit_right e why = subst (λ r. Explains r e) (sym after_left) (explains-and_then right last e why)

    module _ (n : List Term) (right_is : right ≡ Ok n) where
      pub after_both : s_polynomial_of rules a ≡ last n
      after_both = after_left ∙ ap (λ r. and_then r last) right_is
