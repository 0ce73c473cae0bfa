use Rattle.evidence_commands.proofs.cancel.put_names.Goals as goal

pub put_name-requires : goal.put_name-requires
put_name-requires c = c.requires c.loop-letter.letter-index (record { 0 = 0 }) c.loop-letter-test.true
