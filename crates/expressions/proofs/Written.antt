-- The letters of an equation's polynomial are those that the equation writes.
use Rattle.expressions.proofs.Prelude.{◌≡◌, ◌<◌, ℕ, true, ◌||◌, List, Some, sym, subst, ◌∙◌, arith, or_left, or_right, All, star, letters, Letter, Map, Declaration, named_in, object_count, letter_count, quiver_of, identity_in, ObjectsFirst, IsDeclared, letters-quiver_of, is_named, identity_in_range, identity_is, is_quiver, Sum, are_names, has_quote, has_identity, sum_poly, equation_poly, IsWritten, LettersAreWritten}
use Rattle.expressions.proofs.Sequences.{OfValue, value-bind}
use Rattle.expressions.proofs.Words.{Words, words-difference}
use Rattle.expressions.proofs.Letters.{over-sum}
use Rattle.expressions.proofs.Maps.{map_after_objects, map_before_adjoint}
use Rattle.expressions.proofs.Range.{star_in_range}

module _ (ds : List Declaration) (declared : IsDeclared ds) (first : ObjectsFirst ds) (left right : Sum) where
  written_map : (name : List ℕ) (m : Letter) → named_in ds name ≡ Some (Map m) → IsWritten ds left right m.0
  written_map name m found = record {
    letter = (is_named ds name (Map m) found).0;
    identity = λ below. absurd (omega (arith, below, map_after_objects ds first name m found));
    adjoint = λ below. absurd (omega (arith, below, map_before_adjoint ds first name m found));
  }

  -- an identity is its own adjoint
  own_adjoint : (v : ℕ) → v < object_count ds → star (quiver_of ds) v ≡ v
  own_adjoint v below = (is_quiver ds declared first).identity_star v below

  written_identity : (v : ℕ) → v < object_count ds → (has_identity ds v left || has_identity ds v right) ≡ true → IsWritten ds left right (identity_in ds v)
  written_identity v below occurs =
      let same = identity_is ds first v below in
      subst (IsWritten ds left right) (sym same) (record {
        letter = subst (λ a. a < letter_count ds) same (identity_in_range ds v below);
        identity = λ _. occurs;
        adjoint = λ less. absurd (omega (arith, less, own_adjoint v below));
      })

  written_adjoint : (has_quote left || has_quote right) ≡ true → (a : ℕ) → IsWritten ds left right a → IsWritten ds left right (star (quiver_of ds) a)
  written_adjoint occurs a h =
      let q = quiver_of ds in
      let in_quiver : a < letters q = subst (λ n. a < n) (sym (letters-quiver_of ds)) h.letter in
      record {
        letter = star_in_range ds declared a h.letter;
        identity = λ below.
            let same : a ≡ star q a = sym ((is_quiver ds declared first).star_star a in_quiver) ∙ own_adjoint (star q a) below in
            subst (λ v. (has_identity ds v left || has_identity ds v right) ≡ true) same (h.identity (subst (λ v. v < object_count ds) (sym same) below));
        adjoint = λ _. occurs;
      }

  letters_written : are_names ds left ≡ true → are_names ds right ≡ true → OfValue (equation_poly ds left right) (λ p. All (λ t. All (IsWritten ds left right) t.1) p)
  letters_written left_names right_names =
      let L = IsWritten ds left right in
      value-bind (Words (All L)) (Words (All L)) (sum_poly ds left) _ (over-sum ds L written_map left left_names (λ v below h. written_identity v below (or_left _ _ h)) (λ h. written_adjoint (or_left _ _ h))) (λ m on_left.
      value-bind (Words (All L)) (Words (All L)) (sum_poly ds right) _ (over-sum ds L written_map right right_names (λ v below h. written_identity v below (or_right _ _ h)) (λ h. written_adjoint (or_right _ _ h))) (λ n on_right.
      λ p e. words-difference (All L) m n p on_left on_right e))

pub letters_are_written : LettersAreWritten
letters_are_written ds left right p declared first left_names right_names e = letters_written ds declared first left right left_names right_names p e
