use Rattle.quiver.proofs.Prelude.{arith, ◌≡◌, ◌≤◌, letter_count, letter_limit}
use Rattle.quiver.proofs.Counts.{few_letters}
use Rattle.quiver.proofs.Fields.{are_declared, letters_len}
use Rattle.quiver.proofs.quiver.Quiver.letters.Goals as goal

count : (c : goal.After-len) → c.len.result ≡ letter_count c.args.self.now
count c = omega (arith, c.len.ensures, letters_len c.self.inside c.args.self.now c.self.view_is c.self.invariant)

-- an identity for each object, and two letters for each map
few : (c : goal.After-len) → c.len.result ≤ letter_limit
few c =
    let declared = are_declared c.self.inside c.args.self.now c.self.view_is c.self.invariant in
    omega (arith, count c, declared.few_objects, declared.few_maps, few_letters c.args.self.now)

pub overflow_cast-result : goal.overflow_cast-result
overflow_cast-result c = omega (arith, few c)

pub returns-clause-count : goal.returns-clause-count
returns-clause-count c = count c

pub returns-clause-few : goal.returns-clause-few
returns-clause-few c = few c
