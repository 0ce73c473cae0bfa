use Rattle.flow_io.proofs.Prelude.{arith, ◌≡◌, length, common_steps, place_of}
use Rattle.flow_io.proofs.FileLemmas.{file_under-at}
use Rattle.flow_io.proofs.memory_shelf.place_in.Goals as goal

-- the file that has the name is at the place
pub returns-then-eq-clause-found : goal.returns-then-eq-clause-found
returns-then-eq-clause-found c =
    let is : c.loop-place.place ≡ place_of c.args.files.now c.args.name.now = grind (arith, common_steps) in
    file_under-at c.args.files.now c.args.name.now _ is

-- no file has the name, and there is none at the end
pub returns-clause-found : goal.returns-clause-found
returns-clause-found c =
    let is : length c.args.files.now ≡ place_of c.args.files.now c.args.name.now = grind (arith, common_steps) in
    file_under-at c.args.files.now c.args.name.now _ is
