-- Whether a candidate breaks a claim: its model has all that a model needs, and no other model is the candidate.
use Rattle.model_search.proofs.Prelude.{◌≡◌, ℕ, ◌<◌, List, Option, Some, None, refl, sym, ap, subst, ◌∙◌, arith, same_Some, Quiver, letters, object_count, quiver_of, Model, Shape, Problem, IsShape, posed_quiver, IsModel, HaveMatrices, IsClaimNumber, IsFitting, Refutes, digits, model_by, candidate_count, IsShapeOf, IsCandidate, naming, Breaks, BreaksAt, NoneBreaksAt, candidate_is_unique, modulus_of_shape, model_by_is_model, model_by_has_matrices, AreGiven, quiver, digits_are_values, shape_is_one, shape_is}

-- values of the entries make the model
pub record IsMade (problem : Problem) (s : Shape) (m : Model) : Type 0 where
  pub values : List ℕ
  pub given : AreGiven problem s values
  pub made : m ≡ model_by (quiver_of problem.parts.quiver) s 0 values

pub candidate_is_made : (problem : Problem) (number : ℕ) (s : Shape) (seed k : ℕ) (m : Model)
    → IsShape (object_count problem.parts.quiver) s → IsCandidate problem number s seed k (Some m) → IsMade problem s m
candidate_is_made problem number s seed k m shape (IsCandidate.numbered exhaustive is) =
    let q = quiver_of problem.parts.quiver in
    let least = (modulus_of_shape q s (posed_quiver problem.parts problem.posed) shape).at_least in
    record {
      values = digits q s k;
      given = record { shape = shape; entries = digits_are_values problem s k (omega (arith, least)) };
      made = same_Some m (model_by q s 0 (digits q s k)) is;
    }
candidate_is_made problem number s seed k m shape (IsCandidate.drawn other values greedy is) = record {
  values = values;
  given = record { shape = shape; entries = record { one_each = greedy.solution.one_each; below = greedy.solution.below } };
  made = same_Some m (model_by (quiver_of problem.parts.quiver) s 0 values) is;
}
candidate_is_made problem number s seed k m shape (IsCandidate.unsolvable other none is) = absurd (cc)

module _ (problem : Problem) (claim number seed k : ℕ) (s : Shape) (of : IsShapeOf problem number s) where
  abbrev q : Quiver
  q = quiver_of problem.parts.quiver

  module _ (m : Model) (is : IsCandidate problem number s seed k (Some m)) where
    own : IsMade problem s m
    own = candidate_is_made problem number s seed k m (shape_is problem number s of) is

    pub named_model : IsModel q (naming claim m)
    named_model =
        subst (λ x. IsModel q (naming claim x)) (sym own.made)
        (model_by_is_model q s (quiver own.given) own.given.shape claim own.values)

    pub named_matrices : HaveMatrices q (naming claim m) (letters q)
    named_matrices =
        subst (λ x. HaveMatrices q (naming claim x) (letters q)) (sym own.made)
        (model_by_has_matrices q s (quiver own.given) own.given.shape own.values own.given.entries.one_each own.given.entries.below claim)

    pub named_fits : IsClaimNumber problem claim → IsFitting problem (naming claim m)
    named_fits claim_is = record { claim = claim_is; maps = named_matrices }

    -- whether it breaks the claim
    pub breaks_where_it_refutes : k < candidate_count q s → Refutes problem (naming claim m)
        → Breaks problem claim seed number k (naming claim m)
    breaks_where_it_refutes in_range refutes = record {
      shape = s;
      numbered = of;
      in_range = in_range;
      candidate = m;
      is_candidate = is;
      named = refl;
      refutes = refutes;
    }

  -- what breaks is the one candidate
  breaking_candidate : (c : Option Model) (m : Model) → IsCandidate problem number s seed k c → (b : Breaks problem claim seed number k m)
      → c ≡ Some b.candidate
  breaking_candidate c m is b =
      candidate_is_unique problem number s seed k c (Some b.candidate) is
      (subst (λ t. IsCandidate problem number t seed k (Some b.candidate))
      (shape_is_one problem number b.shape s b.numbered of) b.is_candidate)

  pub none_without_model : IsCandidate problem number s seed k None → NoneBreaksAt problem claim seed number k
  none_without_model is m b = let same = breaking_candidate None m is b in absurd (cc)

  pub none_where_it_does_not : (m : Model) → IsCandidate problem number s seed k (Some m) → ¬ Refutes problem (naming claim m)
      → NoneBreaksAt problem claim seed number k
  none_where_it_does_not m is other n b =
      let same = same_Some m b.candidate (breaking_candidate (Some m) n is b) in
      other (subst (Refutes problem) (b.named ∙ ap (naming claim) (sym same)) b.refutes)

-- a breaking candidate of a shape is one model
pub breaking_model_is_one : (problem : Problem) (claim number seed k : ℕ) (m n : Model) → Breaks problem claim seed number k m
    → Breaks problem claim seed number k n → m ≡ n
breaking_model_is_one problem claim number seed k m n one other =
    let same = same_Some one.candidate other.candidate
    (breaking_candidate problem claim number seed k one.shape one.numbered (Some one.candidate) n one.is_candidate other) in
    one.named ∙ ap (naming claim) same ∙ sym other.named

-- where one breaks the claim, the candidate is a model, and this breaks it
module _ (problem : Problem) (claim number seed k : ℕ) (c : Option Model) (is : (s : Shape) → IsShapeOf problem number s → IsCandidate problem number s seed k c)
    (breaks : BreaksAt problem claim seed number k) where
  there : c ≡ Some breaks.1.candidate
  there =
      let b = breaks.1 in
      candidate_is_unique problem number b.shape seed k c (Some b.candidate) (is b.shape b.numbered) b.is_candidate

  pub breaks_as_named : (m : Model) → c ≡ Some m → Breaks problem claim seed number k (naming claim m)
  breaks_as_named m some =
      let same = same_Some breaks.1.candidate m (sym there ∙ some) in
      subst (Breaks problem claim seed number k) (breaks.1.named ∙ ap (naming claim) same) breaks.1
