use Rattle.cofactor_checker.proofs.Prelude.{rules, ◌≡◌, Some, None, IsTrue, inl, inr, refl, to_z, of_z, first_overflow, products, ArePositive}
use mir.Syntax.{w128}
use Rattle.cofactor_checker.proofs.RowSums.{Names, named}
use Rattle.cofactor_checker.proofs.start.posed_claim.Given.{Over}
use Rattle.cofactor_checker.proofs.start.posed_claim.Goals as goal
use Rattle.cofactor_checker.proofs.start.posed_claim.Goals.{In-Some, Else-not-are_positive}

-- the number names the claim
names : (g : Over) (c : In-Some g) → Names c.args.claims.now c.args.number c.in-Some.claim.now
names g c = named c.args.claims.now c.args.number c.in-Some.claim.now c.in-Some.ensures.in_range c.in-Some.ensures.found

-- the scales are positive
positive : (g : Over) (c : Else-not-are_positive g) → ArePositive g.I.Scaled.positive c.args.denominator c.args.items.now c.args.goal.now
positive g c =
    let is : to_z w128 (of_z w128 c.args.denominator) ≡ c.args.denominator = search rules in
    let yes : IsTrue c.are_positive.result = search rules in
    rw is at c.are_positive.ensures.0 yes

pub returns-in-Some-loose_scale-clause-refused : goal.returns-in-Some-loose_scale-clause-refused
returns-in-Some-loose_scale-clause-refused g c =
    let passed = goal.at.returns-in-Some-loose_scale-clause-refused g c in
    let is : to_z w128 (of_z w128 c.args.denominator) ≡ c.args.denominator = search rules in
    inr ((names g passed.In-Some).number, inr (positive g passed.Else-not-are_positive, inl (c.in-Some-loose_scale.lemma, refl, rw is at c.in-Some-loose_scale.ensures.loose)))

pub returns-in-Some-overflow_of_multiple-clause-refused : goal.returns-in-Some-overflow_of_multiple-clause-refused
returns-in-Some-overflow_of_multiple-clause-refused g c =
    let passed = goal.at.returns-in-Some-overflow_of_multiple-clause-refused g c in
    let is : to_z w128 (of_z w128 c.args.denominator) ≡ c.args.denominator = search rules in
    let it = names g passed.In-Some in
    let first : first_overflow (products c.args.goal.now.scale c.in-Some.claim.now.terms) ≡ Some c.in-Some-overflow_of_multiple.overflow = search rules in
    inr (it.number, inr (positive g passed.Else-not-are_positive, inr ((rw is at c.in_default-loose_scale.ensures.tight), (c.in-Some-overflow_of_multiple.overflow, refl, rw it.terms at first))))

pub returns-clause-claim : goal.returns-clause-claim
returns-clause-claim g c = (names g (goal.at.returns-clause-claim g c).In-Some).terms

pub returns-clause-starts : goal.returns-clause-starts
returns-clause-starts g c =
    let passed = goal.at.returns-clause-starts g c in
    let is : to_z w128 (of_z w128 c.args.denominator) ≡ c.args.denominator = search rules in
    let it = names g passed.In-Some in
    let none : first_overflow (products c.args.goal.now.scale c.in-Some.claim.now.terms) ≡ None = search rules in
    (it.number, (positive g passed.Else-not-are_positive, ((rw is at c.in_default-loose_scale.ensures.tight), rw it.terms at none)))
