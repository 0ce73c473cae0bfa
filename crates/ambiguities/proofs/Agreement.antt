-- Words that agree from a place on occur in one another, or overlap, there.
use Rattle.ambiguities.proofs.Prelude.{◌≡◌, ℕ, ◌+◌, ◌<◌, ◌≤◌, List, ◌++◌, length, take, drop, get_or, sym, ap, ap₂, ◌∙◌, arith, take-append-drop, length-take-le, length-drop, length-append, get_or-drop, get_or-append-add, get_or_append_left, OccursAt, OverlapsAt, Agree}
use Rattle.ambiguities.proofs.Occurrences.{front_is}

module _ (word other : List ℕ) (place : ℕ) where
  pub occurs_by_agreement : place + length other ≤ length word → Agree word other place → OccursAt word other place
  occurs_by_agreement fits agree = record {
    before = take place word;
    after = drop (length other) (drop place word);
    splits = sym (take-append-drop place word)
        ∙ ap (λ rest. take place word ++ rest) (sym (take-append-drop (length other) (drop place word)) ∙ ap (λ front. front ++ drop (length other) (drop place word))
        (front_is word other place fits (λ k inside. agree k (omega (arith, fits, inside)) inside)));
    at_place = length-take-le place word (omega (arith, fits));
  }

  pub agreement_by_occurrence : OccursAt word other place → Agree word other place
  agreement_by_occurrence at k in_word in_other =
      ap₂ (λ w n. get_or w (n + k) 0) at.splits (sym at.at_place)
      ∙ get_or-append-add at.before (other ++ at.after) k 0
      ∙ get_or_append_left other at.after 0 k in_other

  pub overlaps_by_agreement : 0 < place → place < length word → length word < place + length other → Agree word other place → OverlapsAt word other place
  overlaps_by_agreement above inside longer agree = record {
    before = take place word;
    shared = rest;
    after = drop (length rest) other;
    left_splits = sym (take-append-drop place word);
    right_splits = sym (take-append-drop (length rest) other) ∙ ap (λ front. front ++ drop (length rest) other) begun;
    at_place = length-take-le place word (omega (arith, inside));
    before_letters = omega (arith, length-take-le place word (omega (arith, inside)), above);
    shared_letters = omega (arith, rest_length, inside);
    after_letters = omega (arith, rest_length, longer, length-drop (length rest) other);
  }
    where
      rest : List ℕ
      rest = drop place word

      rest_length : length rest + place ≡ length word
      rest_length = omega (arith, length-drop place word, inside)

      no_more : (k : ℕ) → 0 + k ≡ k
      no_more k = omega arith

      begun : take (length rest) other ≡ rest
      begun = front_is other rest 0 (omega (arith, rest_length, longer))
          (λ k k_in. ap (λ n. get_or other n 0) (no_more k) ∙ sym (get_or-drop place word k 0 ∙ agree k (omega (arith, rest_length, k_in)) (omega (arith, rest_length, longer, k_in))))

  pub agreement_by_overlap : OverlapsAt word other place → Agree word other place
  agreement_by_overlap at k in_word in_other =
      let shared_in : k < length at.shared = omega (arith, in_word, at.at_place, ap length at.left_splits, length-append at.before at.shared) in
      ap₂ (λ w n. get_or w (n + k) 0) at.left_splits (sym at.at_place)
      ∙ get_or-append-add at.before at.shared k 0
      ∙ sym (ap (λ w. get_or w k 0) at.right_splits ∙ get_or_append_left at.shared at.after 0 k shared_in)
