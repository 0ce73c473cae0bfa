use Rattle.cofactor_checker.proofs.Prelude.{◌≡◌, ◌≤◌, length, polynomials, term_total}
use Rattle.cofactor_checker.proofs.LemmaSteps.{LemmasUpTo}
use Rattle.cofactor_checker.proofs.lemmas.make_lemmas.Given as goal

abbrev pub invariant-loop-lemma : goal.invariant-loop-lemma
invariant-loop-lemma l = record {
  numbered : l.number ≡ l.lemma-index;
  made : length l.polynomials ≡ l.lemma-index;
  kept : l.kept ≡ term_total (polynomials l.polynomials);
  few : l.kept ≤ 1000000;
  so_far : LemmasUpTo (polynomials l.generators) (polynomials l.polynomials) l.lemmas l.rows l.lemma-index;
}
