use Rattle.model_checker.proofs.Prelude.{◌≡◌, ◌<◌, get_or, None, ap, sym, subst, ◌∙◌, true≢false, eqb-true, eq-eqb, get_or_from_slice_get, star, quiver_of, letters-quiver_of, transpose, HasEnds}
use Rattle.model_checker.proofs.maps.check_map.Goals as goal
use Rattle.model_checker.proofs.maps.check_map.Goals.{else-eq-via-then-eq+in_ok-is_self_transposed+else-not-branch, else-eq-via-else-eq}

pub has_ends-requires-clause-letter : goal.has_ends-requires-clause-letter
has_ends-requires-clause-letter c = subst (λ n. c.args.letter.0 < n) (letters-quiver_of c.args.quiver.now) c.requires.map.letter

pub returns-then-not-has_ends-clause-refused : goal.returns-then-not-has_ends-clause-refused
returns-then-not-has_ends-clause-refused c =
    let maps = c.args.model.now.maps in
    record {
      at = record { map = c.requires.map; earlier = c.requires.earlier };
      matrix = c.in-Some.matrix;
      there = ap (λ i. get_or maps i None) (sym c.from.ensures) ∙ get_or_from_slice_get maps c.from.result c.at.result.now None c.at.ensures ∙ c.in-Some.is;
      other = λ ends. true≢false (sym (c.has_ends.ensures.1 ends) ∙ c.if-not-has_ends.true);
    }

pub star_of-requires : goal.star_of-requires
star_of-requires c = subst (λ n. c.args.letter.0 < n) (letters-quiver_of c.args.quiver.now) c.requires.map.letter

-- the star of the letter is read, and compared with it
pub returns-then-not-branch-clause-refused : goal.returns-then-not-branch-clause-refused
returns-then-not-branch-clause-refused c =
    let maps = c.args.model.now.maps in
    let ends : HasEnds (quiver_of c.args.quiver.now) c.args.model.now c.args.letter.0 c.in-Some.matrix = c.has_ends.ensures.0 c.if-not-has_ends.false in
    let itself : star (quiver_of c.args.quiver.now) c.args.letter.0 ≡ c.args.letter.0 = sym c.star_of.ensures.star ∙ eqb-true c.star_of.result.0 c.args.letter.0 (sym c.eq.ensures ∙ c.if-eq.true) in
    record {
      at = record { map = c.requires.map; earlier = c.requires.earlier };
      matrix = c.in-Some.matrix;
      there = ap (λ i. get_or maps i None) (sym c.from.ensures) ∙ get_or_from_slice_get maps c.from.result c.at.result.now None c.at.ensures ∙ c.in-Some.is;
      ends = ends;
      other = λ self.
          true≢false (sym (c.in_ok-is_self_transposed.ensures.1 (ap (λ n. transpose n c.in-Some.matrix) ends.matrix.modulus_is ∙ self.same itself)) ∙ c.if-not-branch.true);
    }

pub returns-clause-fitting : goal.returns-clause-fitting
returns-clause-fitting c =
    let maps = c.args.model.now.maps in
    let ends : HasEnds (quiver_of c.args.quiver.now) c.args.model.now c.args.letter.0 c.in-Some.matrix = c.has_ends.ensures.0 c.if-not-has_ends.false in
    record {
      matrix = c.in-Some.matrix;
      there = ap (λ i. get_or maps i None) (sym c.from.ensures) ∙ get_or_from_slice_get maps c.from.result c.at.result.now None c.at.ensures ∙ c.in-Some.is;
      ends = ends;
      self_transposed = elim c.else-eq.branch [
        | else-eq-via-then-eq+in_ok-is_self_transposed+else-not-branch w ↦ record {
          same = λ itself. ap (λ n. transpose n c.in-Some.matrix) (sym ends.matrix.modulus_is) ∙ w.in_ok-is_self_transposed.ensures.0 w.if-not-branch.false;
        }
        | else-eq-via-else-eq w ↦ record {
          same = λ itself. absurd (true≢false (sym (c.eq.ensures ∙ eq-eqb c.star_of.result.0 c.args.letter.0 (c.star_of.ensures.star ∙ itself)) ∙ w.if-eq.false));
        }
      ];
    }
