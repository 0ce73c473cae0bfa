use Rattle.matrix_models.proofs.Prelude.{◌≡◌, ◌+◌, length, sym, subst, arith, AreRows, StandFor, no_equations}
use Rattle.matrix_models.proofs.Reduction.{stand_for-none, are_rows-none}
use Rattle.matrix_models.proofs.pivots.Pivots.new.Goals as goal

-- there is no pivot, and a place for each unknown
pub invariant_of-result : goal.invariant_of-result
invariant_of-result c =
    let places = c.in_ok-vec.field-0.items in
    let wide = c.in_ok-vec-2.field-0.items in
    let size : length places ≡ c.args.unknowns = omega (arith, c.in_ok-vec.ensures.len) in
    let room : length wide ≡ c.args.unknowns + 1 = omega (arith, c.in_ok-vec-2.ensures.len) in
    subst (λ rows. AreRows (record { modulus = c.args.modulus; rows = rows }) places wide) (sym c.in_ok-no_rows.ensures)
    (are_rows-none c.args.modulus c.args.unknowns places wide c.requires c.ranges.unknowns.fits size room)

pub returns : goal.returns
returns c =
    subst (λ rows. StandFor (record { modulus = c.args.modulus; rows = rows }) (no_equations c.args.modulus c.args.unknowns))
    (sym c.in_ok-no_rows.ensures) (stand_for-none c.args.modulus c.args.unknowns c.requires)
