-- A block says one certificate.
use Rattle.certificate_text.proofs.Prelude.{◌≡◌, List, Option, Some, Result, Ok, sym, ap, ◌∙◌, Declaration, Certificate, LemmaRow, Lemma, LemmaCertificate, Evidence, Flaw, number_limit, integer_of, RowTokens, row_values, over_lemma, number_within, ScaledTokens, PlainTokens, LemmasTokens, BlockTokens, plain, lemmas, IsLemmaRowOf, IsScaledOf, IsPlainOf, IsLemmasOf, IsCertificateOf, AllZip-unique}
use Rattle.traced_rows.specs.declared.evidence.Evidence.TheVariants as evidence

pub same_value : {A : Type 0} (o : Option A) (x y : A) → o ≡ Some x → o ≡ Some y → x ≡ y
same_value o x y left right = cc

pub same_result : {A : Type 0} (r : Result A Flaw) (x y : A) → r ≡ Ok x → r ≡ Ok y → x ≡ y
same_result r x y left right = cc

module _ (ds : List Declaration) where
  same_lemma_row : (r : RowTokens) (x y : LemmaRow) → IsLemmaRowOf ds r x → IsLemmaRowOf ds r y → x ≡ y
  same_lemma_row r x y left right = left.2 ∙ ap (over_lemma r.lemma) (same_result (row_values ds r) left.0 right.0 left.1 right.1) ∙ sym right.2

  pub same_scaled : (s : ScaledTokens) (x y : Lemma) → IsScaledOf ds s x → IsScaledOf ds s y → x ≡ y
  same_scaled s x y left right =
      let scale = same_result (integer_of s.scale) x.scale y.scale left.scale right.scale in
      let rows = AllZip-unique (IsLemmaRowOf ds) same_lemma_row s.rows x.rows y.rows left.rows right.rows in λ j. record { scale = scale j; rows = rows j }

  same_plain : (b : PlainTokens) (x y : Certificate) → IsPlainOf ds b x → IsPlainOf ds b y → x ≡ y
  same_plain b x y left right =
      let claim = same_value (number_within number_limit b.claim) x.claim y.claim left.claim right.claim in
      let denominator = same_result (integer_of b.denominator) x.denominator y.denominator left.denominator right.denominator in
      let rows = AllZip-unique (λ r row. row_values ds r ≡ Ok row) (λ r. same_result (row_values ds r)) b.rows x.rows y.rows left.rows right.rows in
      λ j. record { claim = claim j; denominator = denominator j; rows = rows j }

  same_lemmas : (b : LemmasTokens) (x y : LemmaCertificate) → IsLemmasOf ds b x → IsLemmasOf ds b y → x ≡ y
  same_lemmas b x y left right =
      let claim = same_value (number_within number_limit b.claim) x.claim y.claim left.claim right.claim in
      let denominator = same_result (integer_of b.denominator) x.denominator y.denominator left.denominator right.denominator in
      let each = AllZip-unique (λ l lemma. IsScaledOf ds l.scaled lemma) (λ l. same_scaled l.scaled) b.lemmas x.lemmas y.lemmas left.lemmas right.lemmas in
      let goal = same_scaled b.goal x.goal y.goal left.goal right.goal in λ j. record { claim = claim j; denominator = denominator j; lemmas = each j; goal = goal j }

  pub same_certificate : (b : BlockTokens) (x y : Evidence) → IsCertificateOf ds b x → IsCertificateOf ds b y → x ≡ y
  same_certificate (plain b) (evidence.Plain x) (evidence.Plain y) left right = ap evidence.Plain (same_plain b x y left right)
  same_certificate (plain b) (evidence.Plain x) (evidence.Lemmas y) left right = absurd right
  same_certificate (plain b) (evidence.Lemmas x) y left right = absurd left
  same_certificate (lemmas b) (evidence.Lemmas x) (evidence.Lemmas y) left right = ap evidence.Lemmas (same_lemmas b x y left right)
  same_certificate (lemmas b) (evidence.Lemmas x) (evidence.Plain y) left right = absurd right
  same_certificate (lemmas b) (evidence.Plain x) y left right = absurd left
