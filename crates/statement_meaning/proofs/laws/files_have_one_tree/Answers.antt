use Rattle.statement_meaning.proofs.OneTree.{files_have_one_tree}
use Rattle.statement_meaning.proofs.laws.files_have_one_tree.Goals as goal

pub returns : goal.returns
returns c = files_have_one_tree
