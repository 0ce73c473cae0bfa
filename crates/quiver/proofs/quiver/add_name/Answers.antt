use Rattle.quiver.proofs.Prelude.{rules}
use Rattle.quiver.proofs.quiver.add_name.Goals as goal

pub returns-clause-added : goal.returns-clause-added
returns-clause-added c = record { key = c.in_ok-key.key; key_is = search rules; entries = search rules }
