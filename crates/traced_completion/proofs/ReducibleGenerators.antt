-- The generators of a problem can be reduced: no word is empty, and all letters are in range.
use Rattle.traced_completion.proofs.Prelude.{◌≡◌, ◌<◌, ◌≤◌, ℕ, true, List, [], ◌∷◌, length, arith, get_or, All, AllByRecursion, All-nil, All-cons, Quiver, IsPath, letters, source, leads, is_path, HasSignature, step, IsOver, Poly, distinct-descending, words_listed, recursion_from_IsDescending, letter_count, quiver_of, letters-quiver_of, Problem, polynomials, generators_have_signatures, IsReducible}

leads_over : (q : Quiver) (u v : ℕ) (w : List ℕ) → leads q u v w ≡ true → IsOver (letters q) w
leads_over q u v [] path = All-nil (λ a. a < letters q)
leads_over q u v (a ∷ w) path = let first = step q u v a w path in All-cons (λ b. b < letters q) a w first.letter (leads_over q u (source q a) w first.rest)

path_over : (q : Quiver) (u v : ℕ) (w : List ℕ) → is_path q u v w ≡ true → IsOver (letters q) w
path_over q u v [] path = All-nil (λ a. a < letters q)
path_over q u v (a ∷ w) path = leads_over q u v (a ∷ w) path

path_nonempty : (q : Quiver) (u v : ℕ) (w : List ℕ) → is_path q u v w ≡ true → 0 < length w
path_nonempty q u v [] path = absurd (cc)
path_nonempty q u v (a ∷ w) path = omega arith

module _ (q : Quiver) (n : ℕ) (most : letters q ≤ n) where
  one_reducible : (p : Poly) → HasSignature q p.terms → IsReducible n p
  one_reducible p typed =
      let paths =
      words_listed (IsPath q typed.source typed.target) p.terms (distinct-descending p.terms (recursion_from_IsDescending p.terms p.canonical.shaped.descending))
      p.canonical.shaped.nonzero typed.typed.at in
      record {
        nonempty = λ i t k. path_nonempty q typed.source typed.target (get_or p.terms i t).1 (paths i t k);
        over = λ i t k j a within. omega (arith, most, path_over q typed.source typed.target (get_or p.terms i t).1 (paths i t k) j a within);
      }

  all_reducible : (ps : List Poly) → AllByRecursion (HasSignature q) (polynomials ps) → All (IsReducible n) ps
  all_reducible [] each = All-nil (IsReducible n)
  all_reducible (p ∷ ps) each = All-cons (IsReducible n) p ps (one_reducible p each.0) (all_reducible ps each.1)

pub generators_reducible : (problem : Problem) (n : ℕ) → letter_count problem.parts.quiver ≤ n → All (IsReducible n) problem.generators
generators_reducible problem n most =
    let q = quiver_of problem.parts.quiver in
    all_reducible q n (omega (arith, letters-quiver_of problem.parts.quiver, most)) problem.generators (generators_have_signatures problem.parts problem.posed problem.generators problem.closed)
