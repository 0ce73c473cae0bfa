-- A file has one problem.
use Rattle.signature_typing.proofs.Prelude.{◌≡◌, refl, sym, ◌∙◌, polynomials, generators_in, generators_are_unique, ProblemIsUnique}

pub problem_is_unique : ProblemIsUnique
problem_is_unique statements p q of_p of_q =
    let quiver : p.parts.quiver ≡ q.parts.quiver = of_p.parts.quiver ∙ sym of_q.parts.quiver in
    let starred : p.parts.starred ≡ q.parts.starred = of_p.parts.starred ∙ sym of_q.parts.starred in
    let marked : p.parts.marked ≡ q.parts.marked = cc (of_p.parts.marked, of_q.parts.marked) in
    let assumptions : polynomials p.parts.assumptions ≡ polynomials q.parts.assumptions = cc (of_p.parts.assumptions, of_q.parts.assumptions) in
    -- what generators are is said by the parts that are the same
    let generators : generators_in p.parts ≡ generators_in q.parts = rw (quiver, starred, marked, assumptions) refl in
    record {
      quiver = quiver;
      order = cc (of_p.parts.order, of_q.parts.order);
      starred = starred;
      marked = marked;
      assumptions = assumptions;
      signatures = cc (of_p.parts.signatures, of_q.parts.signatures);
      claims = cc (of_p.parts.claims, of_q.parts.claims);
      claim_signatures = cc (of_p.parts.claim_signatures, of_q.parts.claim_signatures);
      shapes = cc (of_p.parts.shapes, of_q.parts.shapes);
      solved = cc (of_p.parts.solved, of_q.parts.solved);
      generators = generators_are_unique p.parts p.generators q.generators p.closed (record { same = rw generators q.closed.same });
    }
