-- How a step of a run ends it.
use Rattle.std.specs.Prelude.{Result, MatchResult}
use Rattle.lists.specs.Stop.{Explains}
use Rattle.lists.specs.declared.stop.Stop.{Stop}
use Rattle.command_shape.specs.Ending.{Ending}

-- a run that stops ends so, with this status and this report; want of memory has no ending
abbrev pub StopsBy : (Ending → Type 0) → Stop Ending → Type 0
StopsBy may = Explains may

-- a step gives an ending, or stops with one, and it is one of these
abbrev pub EndsAs : (Ending → Type 0) → Result Ending (Stop Ending) → Type 0
EndsAs may result = MatchResult result may (StopsBy may)
