use Rattle.ambiguities.proofs.Prelude.{◌≡◌, map, take, first_of}
use Rattle.ambiguities.proofs.marks.first_letters.Given as goal

-- those of the rules that were passed
abbrev pub invariant-loop-rule : goal.invariant-loop-rule
invariant-loop-rule l = l.letters.items ≡ map (λ g. first_of g.lead) (take l.rule-index l.rules)
