use Rattle.definitions.proofs.Projection as certificates
use Rattle.representations.proofs.laws.typed_rows_suffice.Goals as goal

pub returns : goal.returns
returns c = certificates.typed_rows_suffice
