-- Problems that say the same are one.
use Rattle.stated_problem.proofs.Prelude.{◌≡◌, ◌≤◌, ℕ, List, [], ◌∷◌, length, refl, sym, ap, subst, ◌∙◌, Term, IsCanonical, Poly, Parts, Problem, generator_limit, units_in, polynomials, IsPosed, IsClosed, props, AreSame}
use Rattle.std.proofs.Props as std

-- facts that types keep have one proof
canonical-prop : (p : List Term) → IsProp (IsCanonical p)
canonical-prop p = Prim.hlevel std.props

posed-prop : (parts : Parts) → IsProp (IsPosed parts)
posed-prop parts = Prim.hlevel props

closed-prop : (parts : Parts) (generators : List Poly) → IsProp (IsClosed parts generators)
closed-prop parts generators = Prim.hlevel props

few-prop : (generators : List Poly) → IsProp (length generators ≤ generator_limit)
few-prop generators = Prim.hlevel std.props

counted-prop : (count : ℕ) (parts : Parts) → IsProp (count ≡ length (units_in parts))
counted-prop count parts = Prim.hlevel std.props

-- so what has them is what it says
same_polynomial : (p q : Poly) → p.terms ≡ q.terms → p ≡ q
same_polynomial p q same =
    subst (λ (terms : List Term). (c : IsCanonical terms) → ◌≡◌ {A = Poly} p (record { terms = terms; canonical = c })) same
    (λ c. λ i. record { terms = p.terms; canonical = canonical-prop p.terms p.canonical c i }) q.canonical

same_polynomials : (ps qs : List Poly) → polynomials ps ≡ polynomials qs → ps ≡ qs
same_polynomials [] [] same = refl
same_polynomials [] (q ∷ qs) same = absurd cc
same_polynomials (p ∷ ps) [] same = absurd cc
same_polynomials (p ∷ ps) (q ∷ qs) same =
    let head : p.terms ≡ q.terms = cc in
    let tail : polynomials ps ≡ polynomials qs = cc in
    let one = same_polynomial p q head in
    let more = same_polynomials ps qs tail in
    λ i. one i ∷ more i

-- a problem is any with its parts, its generators and its count, whatever the proofs of its facts are
abbrev IsThe : Problem → Parts → List Poly → ℕ → Type 0
IsThe p parts generators count =
    (posed : IsPosed parts) (closed : IsClosed parts generators) (few : length generators ≤ generator_limit) (counted : count ≡ length (units_in parts))
    → ◌≡◌ {A = Problem} p (record { parts = parts; generators = generators; unit_count = count; posed = posed; closed = closed; few = few; counted = counted })

itself : (p : Problem) → IsThe p p.parts p.generators p.unit_count
itself p posed closed few counted =
    λ i. record {
      parts = p.parts;
      generators = p.generators;
      unit_count = p.unit_count;
      posed = posed-prop p.parts p.posed posed i;
      closed = closed-prop p.parts p.generators p.closed closed i;
      few = few-prop p.generators p.few few i;
      counted = counted-prop p.unit_count p.parts p.counted counted i;
    }

module _ (p q : Problem) (same : AreSame p q) where
  same_parts : p.parts ≡ q.parts
  same_parts =
      let assumptions = same_polynomials p.parts.assumptions q.parts.assumptions same.assumptions in
      let claims = same_polynomials p.parts.claims q.parts.claims same.claims in
      λ i. record {
        quiver = same.quiver i;
        order = same.order i;
        starred = same.starred i;
        marked = same.marked i;
        assumptions = assumptions i;
        sigs = same.signatures i;
        claims = claims i;
        claim_sigs = same.claim_signatures i;
        shapes = same.shapes i;
        solved = same.solved i;
      }

  same_count : p.unit_count ≡ q.unit_count
  same_count = p.counted ∙ ap (λ parts. length (units_in parts)) same_parts ∙ sym q.counted

  pub one_problem : p ≡ q
  one_problem =
      let by_count : IsThe p p.parts p.generators q.unit_count = subst (IsThe p p.parts p.generators) same_count (itself p) in
      let generators = same_polynomials p.generators q.generators same.generators in
      let by_generators : IsThe p p.parts q.generators q.unit_count = subst (λ gs. IsThe p p.parts gs q.unit_count) generators by_count in
      subst (λ parts. IsThe p parts q.generators q.unit_count) same_parts by_generators q.posed q.closed q.few q.counted
