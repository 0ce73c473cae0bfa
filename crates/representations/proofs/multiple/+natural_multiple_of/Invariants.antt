use Rattle.representations.proofs.multiple.+natural_multiple_of.Given as goal

abbrev pub decreases-natural_multiple_of : goal.decreases-natural_multiple_of
decreases-natural_multiple_of g l = l.n
