use Rattle.model_text.proofs.Prelude.{List, ℕ, sym, ap, ◌∙◌}
use Rattle.model_text.proofs.Rows.{cut_at, never_cut}
use Rattle.model_text.proofs.entry.first_row.Goals as goal

pub returns-in-Some-clause-row : goal.returns-in-Some-clause-row
returns-in-Some-clause-row c = sym (ap (λ (p : List (List ℕ) × List (List (List ℕ))). p.0) (cut_at c.args.line.now c.in-Some.place (sym c.sign_place.ensures.first ∙ c.in-Some.is) c.in-Some.ensures.within))

pub returns-in-Some-clause-rest : goal.returns-in-Some-clause-rest
returns-in-Some-clause-rest c = sym (ap (λ (p : List (List ℕ) × List (List (List ℕ))). p.1) (cut_at c.args.line.now c.in-Some.place (sym c.sign_place.ensures.first ∙ c.in-Some.is) c.in-Some.ensures.within))

pub returns-in-None-clause-row : goal.returns-in-None-clause-row
returns-in-None-clause-row c = sym (ap (λ (p : List (List ℕ) × List (List (List ℕ))). p.0) (never_cut c.args.line.now (sym c.sign_place.ensures.first ∙ c.in-None.is)))

pub returns-in-None-clause-rest : goal.returns-in-None-clause-rest
returns-in-None-clause-rest c = sym (ap (λ (p : List (List ℕ) × List (List (List ℕ))). p.1) (never_cut c.args.line.now (sym c.sign_place.ensures.first ∙ c.in-None.is)))
