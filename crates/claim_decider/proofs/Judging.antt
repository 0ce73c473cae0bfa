-- What the rules say of a claim.
use Rattle.claim_decider.proofs.Prelude.{◌≡◌, ◌<◌, ℕ, zero, suc, List, [], ◌∷◌, length, None, Result, Ok, refl, sym, subst, ap, ◌∙◌, All, All-weaker, IsCoefficient, Term, Compare, AnyOrder, OrderSpec, made_cmp, asked_cmp, Row, Made, Format, Cause, IsRecord, IsAmongFirst, Rule, State, ReduceFault, choice_from, choice_of, IsRule, ExplainsHalt, normal_form_of, reduction, start_of, IsByRule, rows_are_by_rules, multipliers_are_positive, Setting, IsCauseOf, among_first, Outcome, halted_at, record_of, IsProved, IsLeft, IsDoneWith, IsDoneBy}
use Rattle.cofactor_trace.specs.declared.halt.Place.TheVariants as place
use Rattle.rule_reduce.specs.declared.fault.ReduceFault.TheVariants as fault

-- the order that was made is the one that was asked for
pub same_order : (order : AnyOrder) (asked : OrderSpec) → ((u v : List ℕ) → made_cmp order u v ≡ asked_cmp asked u v) → made_cmp order ≡ asked_cmp asked
same_order order asked same = λ i u v. same u v i

pub same_reduction : (order : AnyOrder) (asked : OrderSpec) (rules : List Rule) (p q : List Term) (steps : ℕ) → ((u v : List ℕ) → made_cmp order u v ≡ asked_cmp asked u v)
    → q ≡ p → normal_form_of (made_cmp order) rules p steps ≡ normal_form_of (asked_cmp asked) rules q steps
same_reduction order asked rules p q steps same is =
    ap (λ compare. normal_form_of compare rules p steps) (same_order order asked same) ∙ ap (λ x. normal_form_of (asked_cmp asked) rules x steps) (sym is)

-- no rules
no_choice : (compare : Compare) (p : List Term) → choice_from compare [] None p ≡ None
no_choice compare [] = refl
no_choice compare (t ∷ p) = no_choice compare p

no_step : (limit steps : ℕ) (compare : Compare) (s : State) → choice_of compare [] s.rest ≡ None → reduction limit compare [] steps s ≡ Ok s
no_step limit zero compare s none = rw none refl
no_step limit (suc steps) compare s none = rw none refl

pub no_rules : (compare : Compare) (p : List Term) (steps : ℕ) → normal_form_of compare [] p steps ≡ Ok (start_of p)
no_rules compare p steps = no_step steps steps compare (start_of p) (no_choice compare p)

-- what is left
pub left : (setting : Setting) (rules : List Rule) (claim rest : List Term) (s : State) → normal_form_of setting.compare rules claim setting.budget.steps ≡ Ok s
    → s.rest ≡ rest → 0 < length rest → IsLeft setting rules claim rest
left setting rules claim rest s ends is some = record { reduced = s; reduction = ends; rest_is = is; nonzero = some }

-- the outcome
pub done_by_fault : (form : Format) (number round : ℕ) (made : List Made) (r : Result State ReduceFault) (e : ReduceFault) (c : Cause)
    → ExplainsHalt r e → IsCauseOf e c → IsDoneBy form number round made r (halted_at (place.Claim round) c)
done_by_fault form number round made r (fault.Steps limit) c is why =
    subst (λ x. IsDoneBy form number round made x (halted_at (place.Claim round) c)) (sym is) (record { reason = c; reason_of = why; halts = refl })
done_by_fault form number round made r (fault.Overflow o) c is why =
    subst (λ x. IsDoneBy form number round made x (halted_at (place.Claim round) c)) (sym is) (record { reason = c; reason_of = why; halts = refl })
done_by_fault form number round made r (fault.Size s) c is why =
    subst (λ x. IsDoneBy form number round made x (halted_at (place.Claim round) c)) (sym is) (record { reason = c; reason_of = why; halts = refl })
done_by_fault form number round made r (fault.Memory e) c is why = absurd why

pub done_by_zero : (form : Format) (number round : ℕ) (made : List Made) (r : Result State ReduceFault) (s : State) (o : Outcome)
    → r ≡ Ok s → s.rest ≡ [] → IsProved form number (place.Certificate round) made (record_of s) o → IsDoneBy form number round made r o
done_by_zero form number round made r s o ends zero_rest proved =
    subst (λ x. IsDoneBy form number round made x o) (sym ends)
    (subst (λ rest. IsDoneWith form number round made s rest o) (sym zero_rest) proved)

-- the record of a claim
pub claim_record : (letters : ℕ) (compare : Compare) (rules : List Rule) (p : List Term) (steps : ℕ) (s : State) → All (IsRule letters compare) rules
    → normal_form_of compare rules p steps ≡ Ok s → IsCoefficient s.multiplier → All (λ row. IsCoefficient row.coef) s.rows → IsRecord (length rules) (record_of s)
claim_record letters compare rules p steps s are_rules ends multiplier rows = record {
  positive = multipliers_are_positive letters compare rules p steps s are_rules ends;
  scale_in = multiplier;
  coefficients_in = rows;
  earlier = All-weaker (λ (row : Row). IsByRule (length rules) row.from) (λ (row : Row). IsAmongFirst (length rules) row.from) (λ row. among_first (length rules) row.from) s.rows (rows_are_by_rules compare rules p steps s ends);
}
