-- The letters of a polynomial are letters of the quiver.
use Rattle.expressions.proofs.Prelude.{◌≡◌, ◌<◌, ℕ, Bool, true, false, cond, List, Ok, Some, sym, subst, All, Poly, star, Letter, IsOver, Map, Declaration, named_in, letter_count, letter_at, quiver_of, IsDeclared, is_named, identity_in_range, letter_is, in_range_from_table, star-quiver_of, Mark, Adjoint, Primary, are_names_of_primary, mark_poly, primary_poly, Marked, due_poly}
use Rattle.expressions.proofs.Sequences.{same_value}
use Rattle.expressions.proofs.Letters.{over-primary, over-mark_poly}

module _ (ds : List Declaration) (declared : IsDeclared ds) where
  pub star_in_range : (a : ℕ) → a < letter_count ds → star (quiver_of ds) a < letter_count ds
  star_in_range a h =
      let entry = letter_is ds declared a h in
      subst (λ b. b < letter_count ds) (sym (star-quiver_of ds a h)) (in_range_from_table ds (letter_at ds a).star entry.star_is_letter)

  abbrev pub AllOver : Poly → Type 0
  AllOver p = All (λ t. IsOver (letter_count ds) t.1) p

  abbrev IsLetter : ℕ → Type 0
  IsLetter a = a < letter_count ds

  maps_in_range : (name : List ℕ) (a : Letter) → named_in ds name ≡ Some (Map a) → IsLetter a.0
  maps_in_range name a e = (is_named ds name (Map a) e).0

  pub in_range-primary : (x : Primary) (p : Poly) → are_names_of_primary ds x ≡ true → primary_poly ds x ≡ Ok p → AllOver p
  in_range-primary x p known e = over-primary ds IsLetter maps_in_range x known (λ v below h. identity_in_range ds v below) (λ h. star_in_range) p e

  pub in_range-mark_poly : (m : Mark) (p r : Poly) → AllOver p → mark_poly (quiver_of ds) m p ≡ Ok r → AllOver r
  in_range-mark_poly m p r h e = over-mark_poly ds IsLetter maps_in_range m (λ adjoint. star_in_range) p h r e

  -- of the polynomial of which an adjoint may be due
  pub in_range-due : (m : Marked) (r : Poly) → AllOver m.poly.terms → due_poly (quiver_of ds) m ≡ Ok r → AllOver r
  in_range-due m r h e = go m.due e
    where
      go : (due : Bool) → cond due (mark_poly (quiver_of ds) Adjoint m.poly.terms) (Ok m.poly.terms) ≡ Ok r → AllOver r
      go true k = in_range-mark_poly Adjoint m.poly.terms r h k
      go false k = subst AllOver (same_value m.poly.terms r k) h
