-- Equations that are added to pivots, one list of them after another.
use Rattle.matrix_models.proofs.Prelude.{◌≡◌, List, ◌++◌, All, length, sym, ap, subst, take-append_seam, append_assoc, All-take, LinearRow, System, Holds, HasNoSolution, Pivots, StandFor, Add, AreAgainst, with_equations}

abbrev with_rows : System → List LinearRow → System
with_rows s rows = record { modulus = s.modulus; unknowns = s.unknowns; rows = rows }

with_both : (s : System) (xs ys : List LinearRow) → with_equations (with_equations s xs) ys ≡ with_equations s (xs ++ ys)
with_both s xs ys = ap (with_rows s) (append_assoc s.rows xs ys)

pub add-both : (xs ys : List LinearRow) (p q r : Pivots) → Add xs p q → Add ys q r → Add (xs ++ ys) p r
add-both xs ys p q r first second s stand = subst (StandFor r) (with_both s xs ys) (second (with_equations s xs) (first s stand))

-- what contradicts pivots contradicts what they came from, with what was added
pub against-behind : (xs ys : List LinearRow) (p q : Pivots) → Add xs p q → AreAgainst ys q → AreAgainst (xs ++ ys) p
against-behind xs ys p q added against s stand = subst HasNoSolution (with_both s xs ys) (against (with_equations s xs) (added s stand))

-- and whatever comes behind it
pub against-before : (xs ys : List LinearRow) (p : Pivots) → AreAgainst xs p → AreAgainst (xs ++ ys) p
against-before xs ys p against s stand values solves = against s stand values (record {
  are_values = record { one_each = solves.are_values.one_each; below = solves.are_values.below };
  each_holds = subst (All (Holds s.modulus values)) (take-append_seam (s.rows ++ xs) ys)
      (All-take (Holds s.modulus values) (length (s.rows ++ xs)) ((s.rows ++ xs) ++ ys)
      (subst (All (Holds s.modulus values)) (sym (append_assoc s.rows xs ys)) solves.each_holds));
})
