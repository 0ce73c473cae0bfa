use Rattle.statement_names.proofs.Prelude.{◌∙◌, ap, lookup, bytes_eq}
use Rattle.statement_names.proofs.Keys.{lookup-bytes}
use Rattle.statement_names.proofs.kinds.Kinds.kind_of.Goals as goal

pub returns : goal.returns
returns c = c.copied.ensures ∙ c.get.ensures.value ∙ lookup-bytes c.args.name.now c.self.inside.kinds.entries ∙ ap (lookup (bytes_eq c.args.name.now)) c.self.view_is
