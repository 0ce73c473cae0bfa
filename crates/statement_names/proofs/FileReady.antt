-- A file in whose names nothing is wrong is ready for the stages after.
use Rattle.statement_names.proofs.Prelude.{◌≡◌, ◌<◌, ◌≤◌, List, None, refl, sym, subst, object_count, letter_count, Statement, Assumptions, Claims, name_fault_of, an_object, is_marked, declarations_of, letter, HasNames, IsReady, is_solved, solved_names, assumptions_of, claims_of, assumption_limit, claim_limit, IsDeclaredMap}
use Rattle.statement_names.proofs.Ascending.{numbers_ascend, numbers_hold}
use Rattle.statement_names.proofs.Bridge.{within_limits}
use Rattle.statement_names.proofs.Each.{Each-at}
use Rattle.statement_names.proofs.FileDeclared.{file_declared, file_objects_first}
use Rattle.statement_names.proofs.SolvedMaps.{solved_declared}
use Rattle.statement_names.proofs.SoundOrder.{order_sound}
use Rattle.statement_names.proofs.SoundShapes.{shapes_sound}
use Rattle.statement_names.proofs.Tally.{length-assumptions, length-claims}
use Rattle.statement_names.proofs.WrittenNames.{assumptions_named, all_claims_named}

pub file_ready : (statements : List Statement) → name_fault_of statements ≡ None → IsReady (declarations_of statements) statements
file_ready statements clean =
    let ds = declarations_of statements in
    let limits = within_limits statements clean in
    let first = file_objects_first statements in
    let shapes = shapes_sound statements clean in
    record {
      declared = file_declared statements clean;
      objects_first = first;
      order = order_sound statements clean;
      few_assumptions = subst (λ n. n ≤ assumption_limit) (sym (length-assumptions ds statements)) (limits Assumptions);
      assumptions = Each-at (HasNames ds) (assumptions_of ds statements) (assumptions_named statements clean);
      few_claims = subst (λ n. n ≤ claim_limit) (sym (length-claims statements)) (limits Claims);
      claims = Each-at (HasNames ds) (claims_of statements) (all_claims_named statements clean);
      marked_objects = numbers_hold an_object (object_count ds) (is_marked ds statements) (λ v. v.0 < object_count ds) (λ k below is. below);
      marked_ascending = numbers_ascend an_object (object_count ds) (is_marked ds statements) (λ v. v.0) (λ k. refl);
      some_shape = shapes.some;
      few_shapes = shapes.few;
      shapes = shapes.each_shape;
      solved_maps = numbers_hold letter (letter_count ds) (is_solved ds statements) (IsDeclaredMap ds) (λ a below is. solved_declared ds first a (solved_names statements) is);
      solved_ascending = numbers_ascend letter (letter_count ds) (is_solved ds statements) (λ a. a.0) (λ k. refl);
    }
