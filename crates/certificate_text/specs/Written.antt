-- How evidence of both formats is written.
use Rattle.std.specs.Prelude.{ℕ, suc, List, [], ◌∷◌, ◌++◌, decimal, ℤ, codes}
use Rattle.std.specs.Fmt.{signed_decimal}
use Rattle.std.specs.List.{All, flat_map}
use Rattle.quiver.specs.Declarations.{Declaration}
use Rattle.traced_rows.specs.declared.certificate.CertRow.{CertRow}
use Rattle.traced_rows.specs.declared.certificate.Certificate.{Certificate}
use Rattle.traced_rows.specs.declared.evidence.CertFrom.{CertFrom}
use Rattle.traced_rows.specs.declared.evidence.CertFrom.TheVariants as over
use Rattle.traced_rows.specs.declared.evidence.LemmaRow.{LemmaRow}
use Rattle.traced_rows.specs.declared.evidence.Lemma.{Lemma}
use Rattle.traced_rows.specs.declared.evidence.LemmaCertificate.{LemmaCertificate}
use Rattle.traced_rows.specs.declared.evidence.Evidence.{Evidence}
use Rattle.traced_rows.specs.declared.evidence.Evidence.TheVariants.{Plain, Lemmas}
use Rattle.block_text.specs.Written.{word_text}
use Rattle.certificate_text.specs.Evidence.{IsRowOver, IsLemmaRowOver}

-- the first lines of a certificate, of which the first ends with `claim`
abbrev pub opening_text : List ℕ → ℕ → ℤ → List ℕ
opening_text head claim denominator = head ++ decimal claim ++ codes "\ndenominator " ++ signed_decimal denominator ++ codes "\n"

abbrev pub row_text : List Declaration → CertRow → List ℕ
row_text ds row =
    codes "row " ++ signed_decimal row.coef ++ codes " (" ++ word_text ds row.left ++ codes ") " ++ decimal row.generator ++ codes " ("
    ++ word_text ds row.right ++ codes ")\n"

abbrev pub certificate_text : List Declaration → Certificate → List ℕ
certificate_text ds c =
    opening_text (codes "certificate 1\nclaim ") c.claim c.denominator ++ flat_map (row_text ds) c.rows ++ codes "end\n"

-- a generator by its number, a lemma with the word before it
abbrev pub origin_text : CertFrom → List ℕ
origin_text (over.Generator n) = decimal n
origin_text (over.Lemma n) = codes "lemma " ++ decimal n

abbrev pub lemma_row_text : List Declaration → LemmaRow → List ℕ
lemma_row_text ds row =
    codes "row " ++ signed_decimal row.coef ++ codes " (" ++ word_text ds row.left ++ codes ") " ++ origin_text row.from ++ codes " ("
    ++ word_text ds row.right ++ codes ")\n"

-- the scale of a lemma or of the goal, and its rows
abbrev pub scaled_text : List Declaration → Lemma → List ℕ
scaled_text ds l = codes " scale " ++ signed_decimal l.scale ++ codes "\n" ++ flat_map (lemma_row_text ds) l.rows

-- the lemma with this number
abbrev pub lemma_text : List Declaration → ℕ → Lemma → List ℕ
lemma_text ds number l = codes "lemma " ++ decimal number ++ scaled_text ds l

-- the text of the first, with this number, and of the later ones, with the next numbers
abbrev pub numbered_texts : {X : Type 0} → (ℕ → X → List ℕ) → ℕ → List X → List ℕ
numbered_texts text_of number [] = []
numbered_texts text_of number (x ∷ xs) = text_of number x ++ numbered_texts text_of (suc number) xs

-- the lemmas with this number and the next ones
abbrev pub lemmas_text : List Declaration → ℕ → List Lemma → List ℕ
lemmas_text ds number lemmas = numbered_texts (lemma_text ds) number lemmas

-- the goal, and the end of the block
abbrev pub goal_text : List Declaration → Lemma → List ℕ
goal_text ds l = codes "goal" ++ scaled_text ds l ++ codes "end\n"

abbrev pub lemma_certificate_text : List Declaration → LemmaCertificate → List ℕ
lemma_certificate_text ds c =
    opening_text (codes "certificate 2\nclaim ") c.claim c.denominator ++ lemmas_text ds 1 c.lemmas ++ goal_text ds c.goal

-- evidence of either format
abbrev pub evidence_text : List Declaration → Evidence → List ℕ
evidence_text ds (Plain c) = certificate_text ds c
evidence_text ds (Lemmas c) = lemma_certificate_text ds c

abbrev pub IsLemmaOver : List Declaration → Lemma → Type 0
IsLemmaOver ds l = All (IsLemmaRowOver ds) l.rows

abbrev pub IsEvidenceOver : List Declaration → Evidence → Type 0
IsEvidenceOver ds (Plain c) = All (IsRowOver ds) c.rows
IsEvidenceOver ds (Lemmas c) = All (IsLemmaOver ds) c.lemmas × IsLemmaOver ds c.goal
