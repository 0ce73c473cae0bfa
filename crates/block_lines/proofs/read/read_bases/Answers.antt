use Rattle.block_lines.proofs.Prelude.{rules, subst, sym, ◌≡◌, List, ℕ, Ok, Declaration, all_values, IsBlocks, values_read, fault_told, BasisTerms, basis_kind, basis_steps}
use Rattle.block_lines.proofs.BasisValues.{are_canonical, are_over}
use Rattle.block_lines.proofs.Reader.{reader}
use Rattle.block_lines.proofs.read.read_bases.Goals as goal

-- the terms that were read are those of the bytes
are_bases : (ds : List Declaration) (bytes : List ℕ) (vs : List BasisTerms) → all_values (basis_steps ds) bytes ≡ Ok vs → IsBlocks (basis_kind ds) bytes vs
are_bases ds bytes vs read = values_read (basis_kind ds) (basis_steps ds) (reader ds) bytes vs read

pub bases_of-requires : goal.bases_of-requires
bases_of-requires c = are_canonical c.args.quiver.now c.args.bytes.now c.in_ok-blocks.blocks (are_bases c.args.quiver.now c.args.bytes.now c.in_ok-blocks.blocks (rw c.basis_blocks.ensures at c.in_ok-blocks.ensures))

pub returns-in_err-blocks-clause-exact : goal.returns-in_err-blocks-clause-exact
returns-in_err-blocks-clause-exact c =
    let told = fault_told (basis_kind c.args.quiver.now) (basis_steps c.args.quiver.now) (reader c.args.quiver.now) c.args.bytes.now c.in_err-blocks.field-0.0 (rw c.basis_blocks.ensures at c.in_err-blocks.ensures) in
    search rules

pub returns-clause-exact : goal.returns-clause-exact
returns-clause-exact c =
    subst (IsBlocks (basis_kind c.args.quiver.now) c.args.bytes.now) (sym c.in_ok-bases_of.ensures)
    (are_bases c.args.quiver.now c.args.bytes.now c.in_ok-blocks.blocks (rw c.basis_blocks.ensures at c.in_ok-blocks.ensures))

pub returns-clause-checkable : goal.returns-clause-checkable
returns-clause-checkable c = are_over c.args.quiver.now c.args.bytes.now c.in_ok-bases_of.field-0 (returns-clause-exact c)
