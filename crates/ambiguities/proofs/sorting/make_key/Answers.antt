use Rattle.ambiguities.proofs.Prelude.{◌≡◌, ◌≤◌, length, sym, subst, measured_letters, overlap_word_of}
use Rattle.ambiguities.proofs.Short.{overlap_words-short}
use Rattle.ambiguities.proofs.sorting.make_key.Goals as goal

pub measure-measure-requires : goal.measure-measure-requires
measure-measure-requires g c =
    let given = c.args.rules.now in
    let word : c.in_ok-word.word ≡ overlap_word_of given.rules c.args.which.now = c.in_ok-word.ensures.exact in
    record {
      short = subst (λ w. length w ≤ measured_letters) (sym word)
          (overlap_words-short (g.O.WordOrder.letters given.order) (g.O.WordOrder.compare given.order) given.rules c.args.which.now given.each c.requires);
    }
