-- The rules of a basis, and what they leave of each part of its check.
use Rattle.std.specs.Prelude.{◌<◌, ◌<ℤ◌, pos, List, length, IsSomeAnd, Result, Ok, Err, option_to_list}
use Rattle.std.specs.List.{All, flat_map}
use Rattle.definitions.specs.Poly.{Term}
use Rattle.definitions.specs.Combination.{generator_at}
use Rattle.word_orders.specs.Admissible.{Compare}
use Rattle.word_orders.specs.Specified.{asked_cmp}
use Rattle.nc_polynomial.specs.Content.{IsContent}
use Rattle.nc_polynomial.specs.declared.poly.Poly.{Poly}
use Rattle.nc_polynomial.specs.declared.fault.PolyFault.{PolyFault}
use Rattle.rule_reduce.specs.declared.rule.Rule.{Rule}
use Rattle.rule_reduce.specs.declared.state.State.{State}
use Rattle.rule_reduce.specs.declared.fault.ReduceFault.{ReduceFault}
use Rattle.rule_reduce.specs.Leading.{leading_term}
use Rattle.rule_reduce.specs.RuleLists.{rule_from}
use Rattle.rule_reduce.specs.NormalForms.{normal_form_of, halt_of}
use Rattle.ambiguities.specs.SPolynomials.{s_polynomial_of}
use Rattle.adjoint_rules.specs.declared.problem.Problem.{Problem}
use Rattle.adjoint_rules.specs.Problem.{polynomials}
use Rattle.adjoint_rules.specs.declared.basis.Basis.{Basis}
use Rattle.closed_checker.specs.declared.part.Part.{Part}
use Rattle.closed_checker.specs.declared.part.Part.TheVariants as part
use Rattle.closed_checker.specs.Limits.{step_limit}

-- the order of words that the problem asks for
abbrev pub order_of : Problem → Compare
order_of problem = asked_cmp problem.parts.order

-- The polynomial may be a rule: its content is 1, which that of zero is not, its leading coefficient is positive, and no word of it is empty.
pub record MayBeRule (compare : Compare) (p : Poly) : Type 0 where
  pub primitive : IsContent p.terms (pos 1)
  pub positive : IsSomeAnd (leading_term compare p.terms) (λ t. pos 0 <ℤ t.0)
  pub nonempty : All (λ t. 0 < length t.1) p.terms

-- the rules of polynomials, in their order; the polynomial zero has none
abbrev pub rules_from : Compare → List Poly → List Rule
rules_from compare polys = flat_map (λ p. option_to_list (rule_from compare p)) polys

-- those of the basis, in the order of words that the problem asks for
abbrev pub rules_of : Problem → Basis → List Rule
rules_of problem b = rules_from (order_of problem) b.rules

-- the rest of a reduction, or its fault
abbrev pub rest_in : Result State ReduceFault → Result (List Term) ReduceFault
rest_in (Ok s) = Ok s.rest
rest_in (Err e) = Err e

-- what the rules leave of a polynomial within the limit of steps, or a fault: that of the polynomial comes first
abbrev pub rest_by : Compare → List Rule → Result (List Term) PolyFault → Result (List Term) ReduceFault
rest_by compare rules (Ok p) = rest_in (normal_form_of compare rules p step_limit)
rest_by compare rules (Err e) = Err (halt_of e)

-- the claim that the basis names, counted from 1
abbrev pub claim_of : Problem → Basis → List Term
claim_of problem b = generator_at (polynomials problem.parts.claims) b.claim

-- what is reduced in a part of the check: a generator, the S-polynomial of an ambiguity of the rules, or the claim
abbrev pub polynomial_of : Problem → Basis → Part → Result (List Term) PolyFault
polynomial_of problem b (part.Generator number) = Ok (generator_at (polynomials problem.generators) number)
polynomial_of problem b (part.Ambiguity a) = s_polynomial_of (rules_of problem b) a
polynomial_of problem b part.Claim = Ok (claim_of problem b)

-- what the rules of the basis leave of it, or its fault
abbrev pub rest_of : Problem → Basis → Part → Result (List Term) ReduceFault
rest_of problem b p = rest_by (order_of problem) (rules_of problem b) (polynomial_of problem b p)
