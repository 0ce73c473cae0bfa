use Rattle.expressions.proofs.powers.+repeated_word.Given as goal

abbrev pub decreases-repeated_word : goal.decreases-repeated_word
decreases-repeated_word l = l.times
