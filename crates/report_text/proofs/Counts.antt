-- How many rows lemmas have.
use Rattle.report_text.proofs.Prelude.{List, flat_map, Lemma, LemmaRow}

-- the rows of lemmas
abbrev pub rows_in : List Lemma → List LemmaRow
rows_in ls = flat_map (λ l. l.rows) ls
