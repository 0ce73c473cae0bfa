use Rattle.signature_typing.proofs.Prelude.{rules, equations_are_typed, letters_are_written}
use Rattle.signature_typing.proofs.Posed.{named, posed}
use Rattle.signature_typing.proofs.stages.parts_of.Goals as goal

pub typed-requires : goal.typed-requires
typed-requires c = rw c.as_slice.ensures (named c.in_ok-names.names.quiver c.args.tree.now.statements c.in_ok-names.ensures.ready)

pub returns-clause-posed : goal.returns-clause-posed
returns-clause-posed c =
    let typed = rw c.as_slice.ensures at c.in_ok-signatures.ensures in
    posed equations_are_typed letters_are_written c.args.tree.now.statements _ (search rules) c.in_ok-names.ensures.ready typed.typed typed.fits
