use Rattle.nc_polynomial.proofs.Prelude.{rules, ◌≡◌, ◌++◌, [], ◌∷◌, ap, ◌∙◌, reversed, keep}
use Rattle.nc_polynomial.proofs.Tables.{reversed-step}
use Rattle.nc_polynomial.proofs.table.descending.Goals as goal

pub loop-word-preserved : goal.loop-word-preserved
loop-word-preserved c =
    let w = c.in-Some.word in
    let z = c.in-Some.coefficient in
    let out = c.loop-word.terms in
    let old = c.loop-word.table.entries in
    let new = c.pop_last.new.self.entries in
    let removed : old ≡ new ++ (w, z) ∷ [] = search rules in
    let pushed : c.push_nonzero.new.terms ≡ out ++ keep z w [] = search rules in
    ap (λ l. l ++ reversed new []) pushed ∙ reversed-step old new w z out removed ∙ c.loop-word.invariant
