use Rattle.cancel_rules.proofs.Prelude.{◌<◌, [], ◌∷◌, ◌++◌, true, get_or, set, take, sym, subst, ◌∙◌, length-set, take_more, Letter, MarksLetters}
use Rattle.cancel_rules.proofs.Marking.{one_more}
use Rattle.cancel_rules.proofs.marks.marks_of.Goals as goal

pub loop-letter-preserved : goal.loop-letter-preserved
loop-letter-preserved c =
    let letters = c.args.letters.now in
    let i = c.loop-letter.letter-index in
    let marks = c.loop-letter.marks.items in
    let none : Letter = record { 0 = 0 } in
    let a : Letter = get_or letters i none in
    let long = c.loop-letter.invariant.long in
    let inside : a.0 < c.args.count = c.requires i none c.loop-letter-test.true in
    let marked : MarksLetters (take i letters ++ a ∷ []) (set marks a.0 true) = one_more (take i letters) a marks (subst (λ n. a.0 < n) (sym long) inside) c.loop-letter.invariant.marked in
    record {
      long = length-set marks c.from.result true ∙ long;
      marked = subst (λ xs. MarksLetters xs (set marks c.from.result true)) (sym (take_more letters i none c.loop-letter-test.true))
          (subst (λ n. MarksLetters (take i letters ++ a ∷ []) (set marks n true)) (sym c.from.ensures) marked);
    }
