use Rattle.command_runs.proofs.Prelude.{seen}
use Rattle.command_runs.proofs.Endings.{reported, sink_failed, cut_short, never_six, only_usage, told_other_words, not_loaded, told_missing, told_too_long, answered, complete, meaning, meant}
use Rattle.command_runs.proofs.whole_run.run.Goals as goal

pub returns-in-Ok-clause-reported : goal.returns-in-Ok-clause-reported
returns-in-Ok-clause-reported g c other _ = reported c.args.words.now (seen g.L.Shelf.file g.L.Shelf.faults g.K.Sink.written g.K.Sink.is_finished g.K.Sink.faults c.args.shelf.now c.ending_of.new.shelf c.args.sink.now c.put_ending.new.sink) _ _ c.in-Ok.ensures c.put_ending.ensures other

pub returns-in-Ok-clause-sink_failed : goal.returns-in-Ok-clause-sink_failed
returns-in-Ok-clause-sink_failed g c = sink_failed c.args.words.now (seen g.L.Shelf.file g.L.Shelf.faults g.K.Sink.written g.K.Sink.is_finished g.K.Sink.faults c.args.shelf.now c.ending_of.new.shelf c.args.sink.now c.put_ending.new.sink) _ _ c.in-Ok.ensures c.put_ending.ensures

pub returns-in-Ok-clause-cut_short : goal.returns-in-Ok-clause-cut_short
returns-in-Ok-clause-cut_short g c = cut_short c.args.words.now (seen g.L.Shelf.file g.L.Shelf.faults g.K.Sink.written g.K.Sink.is_finished g.K.Sink.faults c.args.shelf.now c.ending_of.new.shelf c.args.sink.now c.put_ending.new.sink) _ _ c.in-Ok.ensures c.put_ending.ensures

pub returns-in-Ok-clause-nothing_put : goal.returns-in-Ok-clause-nothing_put
returns-in-Ok-clause-nothing_put g c six = absurd (never_six c.args.words.now (seen g.L.Shelf.file g.L.Shelf.faults g.K.Sink.written g.K.Sink.is_finished g.K.Sink.faults c.args.shelf.now c.ending_of.new.shelf c.args.sink.now c.put_ending.new.sink) _ _ c.in-Ok.ensures c.put_ending.ensures six)

pub returns-in-Ok-clause-usage : goal.returns-in-Ok-clause-usage
returns-in-Ok-clause-usage g c = only_usage c.args.words.now (seen g.L.Shelf.file g.L.Shelf.faults g.K.Sink.written g.K.Sink.is_finished g.K.Sink.faults c.args.shelf.now c.ending_of.new.shelf c.args.sink.now c.put_ending.new.sink) _ _ c.in-Ok.ensures c.put_ending.ensures

pub returns-in-Ok-clause-other_words : goal.returns-in-Ok-clause-other_words
returns-in-Ok-clause-other_words g c = told_other_words c.args.words.now (seen g.L.Shelf.file g.L.Shelf.faults g.K.Sink.written g.K.Sink.is_finished g.K.Sink.faults c.args.shelf.now c.ending_of.new.shelf c.args.sink.now c.put_ending.new.sink) _ _ c.in-Ok.ensures c.put_ending.ensures

pub returns-in-Ok-clause-not_loaded : goal.returns-in-Ok-clause-not_loaded
returns-in-Ok-clause-not_loaded g c = not_loaded c.args.words.now (seen g.L.Shelf.file g.L.Shelf.faults g.K.Sink.written g.K.Sink.is_finished g.K.Sink.faults c.args.shelf.now c.ending_of.new.shelf c.args.sink.now c.put_ending.new.sink) _ _ c.in-Ok.ensures c.put_ending.ensures

pub returns-in-Ok-clause-missing : goal.returns-in-Ok-clause-missing
returns-in-Ok-clause-missing g c call is is_missing _ = told_missing c.args.words.now (seen g.L.Shelf.file g.L.Shelf.faults g.K.Sink.written g.K.Sink.is_finished g.K.Sink.faults c.args.shelf.now c.ending_of.new.shelf c.args.sink.now c.put_ending.new.sink) _ _ c.in-Ok.ensures c.put_ending.ensures call is is_missing

pub returns-in-Ok-clause-past_limit : goal.returns-in-Ok-clause-past_limit
returns-in-Ok-clause-past_limit g c call file is past _ = told_too_long c.args.words.now (seen g.L.Shelf.file g.L.Shelf.faults g.K.Sink.written g.K.Sink.is_finished g.K.Sink.faults c.args.shelf.now c.ending_of.new.shelf c.args.sink.now c.put_ending.new.sink) _ _ c.in-Ok.ensures c.put_ending.ensures call file is past

pub returns-in-Ok-clause-answered : goal.returns-in-Ok-clause-answered
returns-in-Ok-clause-answered g c not_two not_four other _ = answered c.args.words.now (seen g.L.Shelf.file g.L.Shelf.faults g.K.Sink.written g.K.Sink.is_finished g.K.Sink.faults c.args.shelf.now c.ending_of.new.shelf c.args.sink.now c.put_ending.new.sink) _ _ c.in-Ok.ensures c.put_ending.ensures not_two not_four other

pub returns-in-Ok-clause-complete : goal.returns-in-Ok-clause-complete
returns-in-Ok-clause-complete g c call contents ending is are steady _ answer = complete c.args.words.now (seen g.L.Shelf.file g.L.Shelf.faults g.K.Sink.written g.K.Sink.is_finished g.K.Sink.faults c.args.shelf.now c.ending_of.new.shelf c.args.sink.now c.put_ending.new.sink) _ _ c.in-Ok.ensures c.put_ending.ensures call contents ending is are steady answer

pub returns-in-Ok-clause-meaning : goal.returns-in-Ok-clause-meaning
returns-in-Ok-clause-meaning g c _ = meaning c.args.words.now (seen g.L.Shelf.file g.L.Shelf.faults g.K.Sink.written g.K.Sink.is_finished g.K.Sink.faults c.args.shelf.now c.ending_of.new.shelf c.args.sink.now c.put_ending.new.sink) _ _ c.in-Ok.ensures c.put_ending.ensures (g.C.Preadditive.laws c.args.category.now) c.sound.ensures.rows c.sound.ensures.lemmas c.cancellation_sound.ensures

pub returns-in-Ok-clause-promises : goal.returns-in-Ok-clause-promises
returns-in-Ok-clause-promises g c not_two not_three not_four not_five not_six = meant c.args.words.now (seen g.L.Shelf.file g.L.Shelf.faults g.K.Sink.written g.K.Sink.is_finished g.K.Sink.faults c.args.shelf.now c.ending_of.new.shelf c.args.sink.now c.put_ending.new.sink) _ _ c.in-Ok.ensures c.put_ending.ensures (g.C.Preadditive.laws c.args.category.now) c.sound.ensures.rows c.sound.ensures.lemmas c.cancellation_sound.ensures c.says_equations.ensures not_two not_three not_four not_five not_six
