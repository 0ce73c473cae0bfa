-- What holds of the bases that are read, and bases by their terms.
use Rattle.block_lines.proofs.Prelude.{◌≡◌, ◌≤◌, ℕ, List, [], ◌∷◌, arith, length, refl, ap, ap₂, subst, map, All, AllZip, length-map, get_or-map, All-nil, All-cons, All-head, All-tail, All-weaker, Terms, Poly, IsCanonical, IsOver, Declaration, letter_count, IsPolynomialLine, PolynomialTokens, polynomial_line, IsPolynomialTokens, IsPolynomialOf, IsBlocks, values_are, is_canonical, is_over, zip_length, PolynomialBound, names, writing, numbers, terms, words, KeepsPolynomial, Basis, Bound, on_polynomial, BasisTerms, basis_kind, by_terms, AreCanonical, IsBases, IsBasisOver, rule_limit, basis_steps}
use Rattle.std.proofs.Props as std
use Rattle.block_lines.specs.BasisLines.{rules}
use Rattle.block_lines.proofs.Reader.{reader}

-- polynomials by their terms
canonical-prop : (p : Terms) → IsProp (IsCanonical p)
canonical-prop p = Prim.hlevel std.props

same_poly : (a b : Poly) → a.terms ≡ b.terms → a ≡ b
same_poly a b same =
    subst (λ (p : Terms). (c : IsCanonical p) → ◌≡◌ {A = Poly} a (record { terms = p; canonical = c })) same
    (λ c. λ i. record { terms = a.terms; canonical = canonical-prop a.terms a.canonical c i }) b.canonical

module _ {A B : Type 0} (f : A → B) (once : (a b : A) → f a ≡ f b → a ≡ b) where
  pub same_lists : (xs ys : List A) → map f xs ≡ map f ys → xs ≡ ys
  same_lists [] [] same = refl
  same_lists [] (y ∷ ys) same = absurd (cc)
  same_lists (x ∷ xs) [] same = absurd (cc)
  same_lists (x ∷ xs) (y ∷ ys) same =
      let first : f x ≡ f y = cc in
      let rest : map f xs ≡ map f ys = cc in
      ap₂ (λ v vs. v ∷ vs) (once x y first) (same_lists xs ys rest)

pub same_basis : (a b : Basis) → by_terms a ≡ by_terms b → a ≡ b
same_basis a b same =
    let lists = same_lists (λ (p : Poly). p.terms) same_poly a.rules b.rules (ap (λ (v : BasisTerms). v.1.0) same) in
    let rest = same_poly a.rest b.rest (ap (λ (v : BasisTerms). v.1.1.0) same) in
    λ j. record { claim = (same j).0; rules = lists j; rest = rest j }

-- lists of what each of these is made of
lists_with : {A B : Type 0} (f : A → B) (P : B → Type 0) → ((y : B) → P y → (x : A) × (f x ≡ y)) → (ys : List B) → All P ys → (xs : List A) × (map f xs ≡ ys)
lists_with f P one [] each = ([], refl)
lists_with f P one (y ∷ ys) each =
    let first = one y (All-head P y ys each) in
    let more = lists_with f P one ys (All-tail P y ys each) in
    (first.0 ∷ more.0, ap₂ (λ v vs. v ∷ vs) first.1 more.1)

basis_with : (v : BasisTerms) → AreCanonical v → (b : Basis) × (by_terms b ≡ v)
basis_with v are =
    let found = lists_with (λ (p : Poly). p.terms) IsCanonical (λ p canonical. (record { terms = p; canonical = canonical }, refl)) v.1.0 are.rules in
    (record { claim = v.0; rules = found.0; rest = record { terms = v.1.1.0; canonical = are.rest } }, λ j. (v.0, (found.1 j, v.1.1)))

pub bases_with : (vs : List BasisTerms) → All AreCanonical vs → (bases : List Basis) × (map by_terms bases ≡ vs)
bases_with vs each = lists_with by_terms AreCanonical basis_with vs each

-- what a tree says
module _ (ds : List Declaration) where
  abbrev KeepsAll : PolynomialTokens → Type 0
  KeepsAll t = (bound : PolynomialBound) → KeepsPolynomial ds bound t

  abbrev Tree : Type 0
  Tree = (basis_kind ds).Tree

  -- what holds of the terms of a polynomial that keeps all bounds
  module _ (P : Terms → Type 0) (each : (t : PolynomialTokens) (p : Terms) → IsPolynomialLine ds (polynomial_line t) p → P p) where
    one_says : (t : PolynomialTokens) (p : Terms) → IsPolynomialTokens t → KeepsAll t → IsPolynomialOf ds t p → P p
    one_says t p is keeps says =
        each t p (record { tokens = t; are = refl; fit = is; known = keeps names; written = keeps writing; numbers = keeps numbers; few = keeps terms; short = keeps words; says = says })

    all_say : (ts : List PolynomialTokens) (ps : List Terms) → All IsPolynomialTokens ts → ((bound : PolynomialBound) → All (KeepsPolynomial ds bound) ts) → AllZip (IsPolynomialOf ds) ts ps → All P ps
    all_say [] [] are keep say = All-nil P
    all_say [] (p ∷ ps) are keep say = absurd say
    all_say (t ∷ ts) [] are keep say = absurd say
    all_say (t ∷ ts) (p ∷ ps) are keep say =
        All-cons P p ps (one_says t p (All-head IsPolynomialTokens t ts are) (λ bound. All-head (KeepsPolynomial ds bound) t ts (keep bound)) say.0)
        (all_say ts ps (All-tail IsPolynomialTokens t ts are) (λ bound. All-tail (KeepsPolynomial ds bound) t ts (keep bound)) say.1)

    said : (b : Tree) (v : BasisTerms) → (basis_kind ds).IsTree b → ((bound : Bound) → (basis_kind ds).Keeps bound b) → (basis_kind ds).Says b v → All P v.1.0 × P v.1.1.0
    said b v is keeps says = (
      all_say b.1.0 v.1.0 is.1.0 (λ bound. (keeps (on_polynomial bound)).1.0) says.1.0,
      one_says b.1.1.0 v.1.1.0 is.1.1.0 (λ bound. (keeps (on_polynomial bound)).1.2.0) says.1.1.0,
    )

  -- the letters of the polynomials are letters of the quiver, and there are not too many rules
  record AreOver (v : BasisTerms) : Type 0 where
    rules : All (λ p. All (λ t. IsOver (letter_count ds) t.1) p) v.1.0
    rest : All (λ t. IsOver (letter_count ds) t.1) v.1.1.0
    few : length v.1.0 ≤ rule_limit

  tree_canonical : (b : Tree) (v : BasisTerms) → (basis_kind ds).IsTree b → ((bound : Bound) → (basis_kind ds).Keeps bound b) → (basis_kind ds).Says b v → AreCanonical v
  tree_canonical b v is keeps says =
      let found = said IsCanonical (λ t p spelled. is_canonical ds (polynomial_line t) p spelled) b v is keeps says in record { rules = found.0; rest = found.1 }

  tree_over : (b : Tree) (v : BasisTerms) → (basis_kind ds).IsTree b → ((bound : Bound) → (basis_kind ds).Keeps bound b) → (basis_kind ds).Says b v → AreOver v
  tree_over b v is keeps says =
      let found = said (λ p. All (λ t. IsOver (letter_count ds) t.1) p) (λ t p spelled. is_over ds (polynomial_line t) p spelled) b v is keeps says in
      let count : length b.1.0 ≡ length v.1.0 = zip_length (IsPolynomialOf ds) b.1.0 v.1.0 says.1.0 in
      record { rules = found.0; rest = found.1; few = omega (arith, count, (keeps rules).1.1 refl) }

  unmapped : {A B : Type 0} (P : B → Type 0) (f : A → B) (xs : List A) → All P (map f xs) → All (λ x. P (f x)) xs
  unmapped P f xs each k d below = subst P (get_or-map f xs k d (f d) below) (each k (f d) (omega (arith, length-map xs f, below)))

  -- the bases of a text
  pub are_canonical : (bytes : List ℕ) (vs : List BasisTerms) → IsBlocks (basis_kind ds) bytes vs → All AreCanonical vs
  are_canonical bytes vs is = values_are (basis_kind ds) (basis_steps ds) (reader ds) AreCanonical tree_canonical bytes vs is

  all_over : (bytes : List ℕ) (bases : List Basis) → IsBases ds bytes bases → All (λ b. AreOver (by_terms b)) bases
  all_over bytes bases is = unmapped AreOver by_terms bases (values_are (basis_kind ds) (basis_steps ds) (reader ds) AreOver tree_over bytes (map by_terms bases) is)

  basis_over : (b : Basis) → AreOver (by_terms b) → IsBasisOver ds b
  basis_over b over = record { rules = unmapped (λ p. All (λ t. IsOver (letter_count ds) t.1) p) (λ (p : Poly). p.terms) b.rules over.rules; rest = over.rest }

  pub are_over : (bytes : List ℕ) (bases : List Basis) → IsBases ds bytes bases → All (IsBasisOver ds) bases
  are_over bytes bases is = All-weaker (λ b. AreOver (by_terms b)) (IsBasisOver ds) basis_over bases (all_over bytes bases is)

  pub are_few : (bytes : List ℕ) (bases : List Basis) → IsBases ds bytes bases → All (λ b. length b.rules ≤ rule_limit) bases
  are_few bytes bases is =
      All-weaker (λ b. AreOver (by_terms b)) (λ b. length b.rules ≤ rule_limit) (λ b over. omega (arith, over.few, length-map b.rules (λ (p : Poly). p.terms))) bases (all_over bytes bases is)
