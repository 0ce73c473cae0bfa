-- The numbers of the claims of a problem.
use Rattle.report_readback.proofs.Prelude.{◌<◌, arith, length, All, length-range_with_len, get_or-range_with_len, IsNumberUpTo, Problem, claim_numbers}

pub numbers_there : (problem : Problem) → All (IsNumberUpTo (length problem.parts.claims)) (claim_numbers problem)
numbers_there problem = λ k d below.
    let count = length-range_with_len 1 (length problem.parts.claims) in
    let within : k < length problem.parts.claims = omega (arith, below, count) in
    let is = get_or-range_with_len 1 (length problem.parts.claims) k d within in
    record { least = omega (arith, is); most = omega (arith, is, within) }
