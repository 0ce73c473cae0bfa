-- The refusals that rows give, over generators alone or over generators and lemmas.
use Rattle.std.specs.Prelude.{◌≡◌, ℕ, List, map, slice_get, Some}
use Rattle.coef_int.specs.declared.Overflow.{Overflow}
use Rattle.definitions.specs.Poly.{Poly}
use Rattle.definitions.specs.Combination.{Row}
use Rattle.traced_rows.specs.declared.certificate.CertRow.{CertRow}
use Rattle.traced_rows.specs.declared.evidence.CertFrom.{CertFrom}
use Rattle.traced_rows.specs.declared.evidence.CertFrom.TheVariants as cert
use Rattle.cofactor_checker.specs.Rows.{LacksGenerator, Overflows, Outgrows}
use Rattle.cofactor_checker.specs.Acceptance.{IsMemory}
use Rattle.cofactor_checker.specs.declared.refusal.Refusal.{Refusal}
use Rattle.cofactor_checker.specs.declared.refusal.Refusal.TheVariants as refusal

-- what is told of a row of a certificate that is over no generator
abbrev pub tell_generator : ℕ → CertRow → Refusal
tell_generator n row = refusal.NoSuchGenerator n

-- what is told of a row of a lemma or of the goal
abbrev pub tell_lacking : CertFrom → ℕ → Refusal
tell_lacking (cert.Generator n) row = refusal.NoSuchGenerator row
tell_lacking (cert.Lemma n) row = refusal.NoSuchLemma row

-- Rows of any kind over one list of polynomials, numbered in this way: the first that does not pass. What is told of one that is over none
-- of these, the row itself tells.
module _ (all : List Poly) {X : Type 0} (as_row : X → Row) (tell : ℕ → X → Refusal) (numbers : ℕ → ℕ) (items : List X) where
  pub data StopsAt (e : Refusal) : Type 0 where
    lacks : (n : ℕ) (x : X) → e ≡ tell (numbers n) x → (h : LacksGenerator all (map as_row items) n) → slice_get items h.before ≡ Some x → StopsAt e
    overflows : (n : ℕ) (o : Overflow) → e ≡ refusal.Overflow (numbers n) o → Overflows all (map as_row items) n o → StopsAt e
    outgrows : (n : ℕ) → e ≡ refusal.Size (numbers n) → Outgrows all (map as_row items) n → StopsAt e
    memory : IsMemory e → StopsAt e
