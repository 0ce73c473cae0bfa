use Rattle.adjoint_rules.proofs.Prelude.{◌≡◌, ◌+◌, ◌++◌, length, sym, ap, subst, append_assoc, arith, AllZip, length-append, length-map, SamePolynomial, polynomials, IsClosed, generators_in, adjoints_in, units_in, AllZip-append}
use Rattle.adjoint_rules.proofs.NewAdjoints.{each_same}
use Rattle.adjoint_rules.proofs.problem.generators_of.Goals as goal
use Rattle.adjoint_rules.proofs.problem.generators_of.Goals.{After-len}

closed : (c : After-len) → IsClosed c.args.parts.now c.push_all_units.new.generators
closed c =
    let p = c.args.parts.now in
    let ps = polynomials p.assumptions in
    let adjoint = polynomials c.push_adjoints.new.generators in
    let start : AllZip SamePolynomial (polynomials c.in_ok-generators.generators) ps =
    subst (λ gs. AllZip SamePolynomial (polynomials gs) ps) (sym c.in_ok-generators.ensures.same) (each_same ps) in
    let whole : AllZip SamePolynomial (adjoint ++ units_in p) ((ps ++ adjoints_in p) ++ units_in p) =
    AllZip-append SamePolynomial adjoint (units_in p) (ps ++ adjoints_in p) (units_in p) (c.in_default.ensures ps start) (each_same (units_in p)) in
    let in_order : AllZip SamePolynomial (adjoint ++ units_in p) (generators_in p) =
    subst (AllZip SamePolynomial (adjoint ++ units_in p)) (append_assoc ps (adjoints_in p) (units_in p)) whole in
    record { same = subst (λ gs. AllZip SamePolynomial gs (generators_in p)) (sym c.in_default-push_all_units.ensures) in_order }

-- the relations of identities are what is appended last
longer : (c : After-len) → length c.push_all_units.new.generators ≡ length c.push_adjoints.new.generators + length (units_in c.args.parts.now)
longer c =
    omega (
      arith,
      ap length c.in_default-push_all_units.ensures,
      length-append (polynomials c.push_adjoints.new.generators) (units_in c.args.parts.now),
      length-map c.push_adjoints.new.generators (λ f. f.terms),
      length-map c.push_all_units.new.generators (λ f. f.terms),
    )

pub returns-clause-closed : goal.returns-clause-closed
returns-clause-closed c = closed c

pub returns-clause-counted : goal.returns-clause-counted
returns-clause-counted c = omega (arith, longer c, c.len-others.ensures, c.len.ensures)
