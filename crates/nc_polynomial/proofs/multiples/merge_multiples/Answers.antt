use Rattle.nc_polynomial.proofs.Prelude.{rules, FitsSigned, ℤ, ◌≡◌, ◌++◌, [], ◌∷◌, ◌+ℤ◌, ◌*ℤ◌, Ok, Err, sym, ap, ◌∙◌, subst, to_z, of_z, w128, to_z-of_z, append-nil, IsCoefficient, sum_of, poly_multiple, aligned, keep}
use Rattle.nc_polynomial.specs.declared.fault.PolyFault.TheVariants as fault
use Rattle.nc_polynomial.proofs.Checked.{join, join-none, total_from}
use Rattle.nc_polynomial.proofs.AlignedMultiples.{AreInRange, multiplied_pairs, aligned-multiples, in_range-aligned, next-in_range, next-fits, next-overflows}
use Rattle.nc_polynomial.proofs.multiples.merge_multiples.Goals as goal

-- what is known of the numbers as the code holds them is known of the arguments
at_arguments : (P : ℤ → ℤ → Type 0) (a b : ℤ) → FitsSigned w128 a → FitsSigned w128 b → P (to_z w128 (of_z w128 a)) (to_z w128 (of_z w128 b)) → P a b
at_arguments P a b a_in b_in h = subst (λ x. P x b) (to_z-of_z w128 a a_in) (subst (λ y. P (to_z w128 (of_z w128 a)) y) (to_z-of_z w128 b b_in) h)

pub loop-next-init : goal.loop-next-init
loop-next-init c =
    let a = c.args.a in
    let b = c.args.b in
    let p = c.args.p.now in
    let q = c.args.q.now in
    let a_is : to_z w128 (of_z w128 a) ≡ a = to_z-of_z w128 a c.ranges.a in
    let b_is : to_z w128 (of_z w128 b) ≡ b = to_z-of_z w128 b c.ranges.b in
    let in_range : AreInRange (multiplied_pairs a b (aligned p q)) =
    subst AreInRange (aligned-multiples a b p q) (in_range-aligned (poly_multiple a p) (poly_multiple b q) c.requires.left_in c.requires.right_in) in
    let same : join c.new-sum.result (total_from (multiplied_pairs a b (aligned p q))) ≡ total_from (multiplied_pairs a b (aligned p q)) =
    ap (λ l. join l (total_from (multiplied_pairs a b (aligned p q)))) c.new-sum.ensures ∙ join-none (total_from (multiplied_pairs a b (aligned p q))) in
    rw (a_is, b_is) (record { in_range = in_range; same = same })

pub overflow_mul-a : goal.overflow_mul-a
overflow_mul-a c =
    let a = c.args.a in
    let b = c.args.b in
    let n = c.in-Some.next in
    let pairs = aligned c.loop-next.left.now c.loop-next.right.now in
    let rest = aligned n.left_rest.now n.right_rest.now in
    let next : pairs ≡ (n.left, n.right, n.word.now) ∷ rest = c.in-Some.ensures.next in
    let in_range : AreInRange (multiplied_pairs a b pairs) =
    at_arguments (λ x y. AreInRange (multiplied_pairs x y pairs)) a b c.ranges.a c.ranges.b c.loop-next.invariant.in_range in
    let fits : IsCoefficient (a *ℤ n.left) = (next-in_range a b pairs rest (n.left, n.right, n.word.now) next in_range).0.0 in
    search rules

pub overflow_mul-b : goal.overflow_mul-b
overflow_mul-b c =
    let a = c.args.a in
    let b = c.args.b in
    let n = c.in-Some.next in
    let pairs = aligned c.loop-next.left.now c.loop-next.right.now in
    let rest = aligned n.left_rest.now n.right_rest.now in
    let next : pairs ≡ (n.left, n.right, n.word.now) ∷ rest = c.in-Some.ensures.next in
    let in_range : AreInRange (multiplied_pairs a b pairs) =
    at_arguments (λ x y. AreInRange (multiplied_pairs x y pairs)) a b c.ranges.a c.ranges.b c.loop-next.invariant.in_range in
    let fits : IsCoefficient (b *ℤ n.right) = (next-in_range a b pairs rest (n.left, n.right, n.word.now) next in_range).0.1 in
    search rules

pub returns-in_err-total : goal.returns-in_err-total
returns-in_err-total c =
    let a = c.args.a in
    let b = c.args.b in
    let p = c.args.p.now in
    let q = c.args.q.now in
    let out = c.loop-next.sum in
    let n = c.in-Some.next in
    let pairs = aligned c.loop-next.left.now c.loop-next.right.now in
    let rest = aligned n.left_rest.now n.right_rest.now in
    let next : pairs ≡ (n.left, n.right, n.word.now) ∷ rest = c.in-Some.ensures.next in
    let same : join out (total_from (multiplied_pairs a b pairs)) ≡ total_from (multiplied_pairs a b (aligned p q)) =
    at_arguments (λ x y. join out (total_from (multiplied_pairs x y pairs)) ≡ total_from (multiplied_pairs x y (aligned p q))) a b c.ranges.a c.ranges.b c.loop-next.invariant.same in
    let misses : IsCoefficient (a *ℤ n.left +ℤ b *ℤ n.right) → ⊥ = search rules in
    let overflow = c.in_err-total.field-0.0 in
    let given : c.from_residual.result ≡ Err (fault.Overflow overflow) = search rules in
    let operands : overflow ≡ sum_of (a *ℤ n.left) (b *ℤ n.right) = search rules in
    rw given (ap total_from (aligned-multiples a b p q) ∙ sym same ∙ next-overflows a b pairs rest (n.left, n.right, n.word.now) next out misses ∙ ap (λ o. Err (fault.Overflow o)) (sym operands))

pub loop-next-preserved : goal.loop-next-preserved
loop-next-preserved c =
    let a = c.args.a in
    let b = c.args.b in
    let p = c.args.p.now in
    let q = c.args.q.now in
    let a_is : to_z w128 (of_z w128 a) ≡ a = to_z-of_z w128 a c.ranges.a in
    let b_is : to_z w128 (of_z w128 b) ≡ b = to_z-of_z w128 b c.ranges.b in
    let out = c.loop-next.sum in
    let n = c.in-Some.next in
    let pairs = aligned c.loop-next.left.now c.loop-next.right.now in
    let rest = aligned n.left_rest.now n.right_rest.now in
    let next : pairs ≡ (n.left, n.right, n.word.now) ∷ rest = c.in-Some.ensures.next in
    let in_range : AreInRange (multiplied_pairs a b pairs) =
    at_arguments (λ x y. AreInRange (multiplied_pairs x y pairs)) a b c.ranges.a c.ranges.b c.loop-next.invariant.in_range in
    let same : join out (total_from (multiplied_pairs a b pairs)) ≡ total_from (multiplied_pairs a b (aligned p q)) =
    at_arguments (λ x y. join out (total_from (multiplied_pairs x y pairs)) ≡ total_from (multiplied_pairs x y (aligned p q))) a b c.ranges.a c.ranges.b c.loop-next.invariant.same in
    let total : c.in_ok-total.total ≡ a *ℤ n.left +ℤ b *ℤ n.right = search rules in
    let fits : IsCoefficient (a *ℤ n.left +ℤ b *ℤ n.right) = search rules in
    let pushed : c.push_copy.new.terms ≡ out ++ keep c.in_ok-total.total n.word.now [] = search rules in
    rw (a_is, b_is) (record {
      in_range = (next-in_range a b pairs rest (n.left, n.right, n.word.now) next in_range).1;
      same =
          ap (λ l. join l (total_from (multiplied_pairs a b rest))) (pushed ∙ ap (λ z. out ++ keep z n.word.now []) total)
          ∙ next-fits a b pairs rest (n.left, n.right, n.word.now) next out fits
          ∙ same;
    })

pub returns : goal.returns
returns c =
    let a = c.args.a in
    let b = c.args.b in
    let p = c.args.p.now in
    let q = c.args.q.now in
    let out = c.loop-next.sum in
    let pairs = aligned c.loop-next.left.now c.loop-next.right.now in
    let gone : pairs ≡ [] = search rules in
    let same : join out (total_from (multiplied_pairs a b pairs)) ≡ total_from (multiplied_pairs a b (aligned p q)) =
    at_arguments (λ x y. join out (total_from (multiplied_pairs x y pairs)) ≡ total_from (multiplied_pairs x y (aligned p q))) a b c.ranges.a c.ranges.b c.loop-next.invariant.same in
    ap total_from (aligned-multiples a b p q) ∙ sym same ∙ ap (λ l. join out (total_from (multiplied_pairs a b l))) gone ∙ ap Ok (append-nil out)
