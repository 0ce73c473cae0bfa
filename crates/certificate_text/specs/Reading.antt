-- What a reader makes of the lines of a certificate. Only the reader's functions and proofs use it; evidence texts are defined in Evidence.
use Rattle.std.specs.Prelude.{⊤, ℕ, List, [], ◌∷◌, ◌++◌, length, ℤ, Option, Some, None, Result, Ok, if◌then◌else◌, codes}
use Rattle.quiver.specs.Declarations.{Declaration}
use Rattle.traced_rows.specs.declared.certificate.CertRow.{CertRow}
use Rattle.traced_rows.specs.declared.certificate.Certificate.{Certificate}
use Rattle.traced_rows.specs.declared.evidence.Lemma.{Lemma}
use Rattle.traced_rows.specs.declared.evidence.LemmaRow.{LemmaRow}
use Rattle.traced_rows.specs.declared.evidence.LemmaCertificate.{LemmaCertificate}
use Rattle.traced_rows.specs.declared.evidence.Evidence.{Evidence}
use Rattle.traced_rows.specs.declared.evidence.Evidence.TheVariants as block
use Rattle.traced_rows.specs.declared.evidence.Format.{Format}
use Rattle.traced_rows.specs.declared.evidence.Format.TheVariants.{Plain, Lemmas}
use Rattle.block_text.specs.declared.fault.Flaw.{Flaw}
use Rattle.certificate_text.specs.declared.place.Size.{Size}
use Rattle.certificate_text.specs.declared.place.Opened.{Opened}
use Rattle.certificate_text.specs.declared.place.Stage.{Stage}
use Rattle.certificate_text.specs.declared.place.Stage.TheVariants as at
use Rattle.block_text.specs.Steps.{Steps}
use Rattle.certificate_text.specs.Evidence.{other_words}
use Rattle.block_text.specs.Fault.{◌>>=◌}
use Rattle.block_text.specs.Lines.{Line, begins, claim_of}
use Rattle.certificate_text.specs.Lines.{is_plain_head, is_lemmas_head, denominator_of, lemma_scale_of, goal_scale_of, row_of, lemma_row_of, no_rows, grown}

-- the block is of format 1
abbrev pub IsPlain : Evidence → Type 0
IsPlain (block.Plain c) = ⊤
IsPlain (block.Lemmas c) = ⊥

-- one of format 2, where that format is read
abbrev pub lemmas_headed : Format → Option Stage
lemmas_headed Plain = None
lemmas_headed Lemmas = Some (at.Headed Lemmas)

abbrev pub begin : Format → Line → Option Stage
begin most line = if is_plain_head line then Some (at.Headed Plain) else if is_lemmas_head line then lemmas_headed most else None

-- a certificate with these rows
abbrev pub certificate_of : ℕ → ℤ → List CertRow → Certificate
certificate_of claim denominator rows = record { claim = claim; denominator = denominator; rows = rows }

abbrev pub opened_of : ℕ → ℤ → List Lemma → Size → Opened
opened_of claim denominator lemmas size = record { claim = claim; denominator = denominator; lemmas = lemmas; size = size }

-- after the denominator
abbrev pub begun : Format → ℕ → ℤ → Stage
begun Plain claim denominator = at.Rows (certificate_of claim denominator []) no_rows
begun Lemmas claim denominator = at.Opened (opened_of claim denominator [] no_rows)

-- one more row
abbrev pub in_rows : List Declaration → Certificate → Size → Line → Result Stage Flaw
in_rows ds c size line =
    row_of ds line >>= λ row. (grown size row.left row.right >>= λ size. Ok (at.Rows (certificate_of c.claim c.denominator (c.rows ++ row ∷ [])) size))

abbrev pub lemma_of : ℤ → List LemmaRow → Lemma
lemma_of scale rows = record { scale = scale; rows = rows }

-- the same with one lemma more
abbrev pub closed_by : Opened → Lemma → Opened
closed_by o l = opened_of o.claim o.denominator (o.lemmas ++ l ∷ []) o.size

-- the same with another size
abbrev pub resized : Opened → Size → Opened
resized o size = opened_of o.claim o.denominator o.lemmas size

-- the rows of the next lemma, or of the goal, begin
abbrev pub scaled : Opened → Line → Result Stage Flaw
scaled o line =
    if begins (codes "goal") line then (goal_scale_of line >>= λ scale. Ok (at.Goal o (lemma_of scale [])))
    else lemma_scale_of (length o.lemmas) line >>= λ scale. Ok (at.Lemma o (lemma_of scale []))

-- one more row of a lemma or of the goal, in a block of this size
abbrev pub lemma_row : List Declaration → Size → Lemma → Line → Result (Size × Lemma) Flaw
lemma_row ds size l line =
    lemma_row_of ds line >>= λ row. (grown size row.left row.right >>= λ larger.
    Ok (larger, lemma_of l.scale (l.rows ++ row ∷ [])))

-- a row of the lemma, or the next lemma or the goal
abbrev pub in_lemma : List Declaration → Opened → Lemma → Line → Result Stage Flaw
in_lemma ds o l line =
    if begins (codes "row") line then (lemma_row ds o.size l line >>= λ next. Ok (at.Lemma (resized o next.0) next.1))
    else scaled (closed_by o l) line

-- the certificate with this goal
abbrev pub lemma_certificate_of : Opened → Lemma → LemmaCertificate
lemma_certificate_of o goal = record { claim = o.claim; denominator = o.denominator; lemmas = o.lemmas; goal = goal }

-- a row of the goal
abbrev pub in_goal : List Declaration → Opened → Lemma → Line → Result Stage Flaw
in_goal ds o goal line = lemma_row ds o.size goal line >>= λ next. Ok (at.Goal (resized o next.0) next.1)

abbrev pub next : List Declaration → Stage → Line → Result Stage Flaw
next ds (at.Headed form) line = claim_of line >>= λ n. Ok (at.Claimed form n)
next ds (at.Claimed form n) line = denominator_of line >>= λ d. Ok (begun form n d)
next ds (at.Rows c size) line = in_rows ds c size line
next ds (at.Opened o) line = scaled o line
next ds (at.Lemma o l) line = in_lemma ds o l line
next ds (at.Goal o goal) line = in_goal ds o goal line

abbrev pub finish : Stage → Option Evidence
finish (at.Headed form) = None
finish (at.Claimed form n) = None
finish (at.Rows c size) = Some (block.Plain c)
finish (at.Opened o) = None
finish (at.Lemma o l) = None
finish (at.Goal o goal) = Some (block.Lemmas (lemma_certificate_of o goal))

abbrev pub certificate_steps : Format → List Declaration → Steps Stage Evidence
certificate_steps most ds = record { others = other_words; begin = begin most; next = next ds; finish = finish }
