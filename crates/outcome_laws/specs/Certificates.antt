-- How a certificate is made of records, and what stops it.
use Rattle.std.specs.Prelude.{◌≡◌, ◌<◌, ◌⊎◌, ℕ, pos, Bool, true, false, List, [], ◌∷◌, ◌++◌, map, length, Contains, Ok}
use Rattle.std.specs.List.{Any}
use Rattle.std.specs.BTreeMap.{insert_entry}
use Rattle.std.specs.Ordering.{nat_cmp}
use Rattle.coef_int.specs.declared.Overflow.{Overflow}
use Rattle.nc_polynomial.specs.Limits.{word_limit}
use Rattle.traced_rows.specs.declared.Made.{Made}
use Rattle.traced_rows.specs.declared.certificate.CertRow.{CertRow}
use Rattle.traced_rows.specs.declared.certificate.Cofactors.{Cofactors}
use Rattle.traced_rows.specs.declared.evidence.Lemma.{Lemma}
use Rattle.cofactor_trace.specs.Limits.{row_limit, letter_limit}
use Rattle.cofactor_trace.specs.Expansion.{common_denominator, denominator_products, joined, joined_products, letter_count, multiple_products, record_expansion}
use Rattle.cofactor_trace.specs.Gathered.{sums_of_gathering}
use Rattle.cofactor_trace.specs.Needed.{Numbered, Expansions, needed_rules, known_from}
use Rattle.cofactor_trace.specs.Lemmas.{naming_of, lemma_of, lemma_records, row_count}
use Rattle.cofactor_trace.specs.Lemmas as lemmas

-- A record is expanded to rows over generators, and then what comes later.
pub record Expands (start : Expansions) (number : ℕ) (m : Made) (Later : Expansions → Type 0) : Type 0 where
  pub rows : Cofactors
  pub expands : record_expansion (known_from start) m ≡ Ok rows
  pub later : Later (insert_entry nat_cmp start number rows)

-- Records are expanded one after another, those of rules and finally that of the target. It is the turn of this one, where the earlier rules have
-- these expansions.
abbrev pub HasTurn : Made → Expansions → Made → List Numbered → Expansions → Type 0
HasTurn target expansions now [] start = (expansions ≡ start) × (now ≡ target)
HasTurn target expansions now (e ∷ rest) start = ((expansions ≡ start) × (now ≡ e.1)) ⊎ Expands start e.0 e.1 (HasTurn target expansions now rest)

-- a record whose turn it is, of those that the target needs
pub record Turn (made : List Made) (target : Made) : Type 0 where
  pub expansions : Expansions
  pub now : Made
  pub turn : HasTurn target expansions now (needed_rules made target) []

-- the rows before rows with equal words and generator are added up
abbrev pub joined_at : {made : List Made} {target : Made} → Turn made target → List CertRow
joined_at t = joined (known_from t.expansions) (common_denominator (known_from t.expansions) t.now.rows) t.now.rows

-- the lemmas of a certificate with lemmas, and its goal
abbrev pub lemmas_and_goal : List Made → Made → List Lemma
lemmas_and_goal made target = map (lemma_of (naming_of made target)) (lemma_records made target) ++ lemma_of (naming_of made target) target ∷ []

-- One of the products and sums of a certificate: of the denominator of a record, of its rows and of their sums; or, with lemmas, of
-- the least common multiple of the scales.
pub data IsOfCertificate (made : List Made) (target : Made) (o : Overflow) : Type 0 where
  of_denominator : (t : Turn made target) → Contains (denominator_products (known_from t.expansions) t.now) o → IsOfCertificate made target o
  of_rows : (t : Turn made target) → Contains (joined_products (known_from t.expansions) (common_denominator (known_from t.expansions) t.now.rows) t.now.rows) o
      → IsOfCertificate made target o
  of_sums : (t : Turn made target) → Contains (sums_of_gathering (joined_at t)) o → IsOfCertificate made target o
  of_scales : Contains (multiple_products (pos 1) (map (λ l. l.scale) (lemmas_and_goal made target))) o → IsOfCertificate made target o

-- A row of an expansion has a word with more letters than the limit.
pub record HasLongRow (made : List Made) (target : Made) : Type 0 where
  pub turn : Turn made target
  pub long : Any (λ r. (word_limit < length r.left) ⊎ (word_limit < length r.right)) (joined_at turn)

-- more letters than the limit of a certificate, or else more rows
abbrev pub PassesLimit : Bool → ℕ → ℕ → Type 0
PassesLimit true rows letters = letter_limit < letters
PassesLimit false rows letters = row_limit < rows

-- The rows of an expansion, or those of lemmas and goal, exceed a limit.
pub data HasManyRows (made : List Made) (target : Made) (letters : Bool) : Type 0 where
  of_expansion : (t : Turn made target) → PassesLimit letters (length (joined_at t)) (letter_count (joined_at t)) → HasManyRows made target letters
  of_lemmas : PassesLimit letters (row_count (lemmas_and_goal made target)) (lemmas.letter_count (lemmas_and_goal made target))
      → HasManyRows made target letters
