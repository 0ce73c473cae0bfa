use Rattle.model_search.proofs.SearchAnswers.{each_search_has_an_answer}
use Rattle.model_search.proofs.laws.each_search_has_an_answer.Goals as goal

pub returns : goal.returns
returns c = each_search_has_an_answer
