use Rattle.confluence.proofs.PlaceLaws.{places_of_one_word}
use Rattle.confluence.proofs.laws.places_of_one_word.Goals as goal

pub returns : goal.returns
returns c = places_of_one_word
