-- The certificates that are read can be checked.
use Rattle.certificate_text.proofs.Prelude.{◌≡◌, ◌≤◌, ◌+◌, ℕ, zero, suc, ℤ, pos, Bool, true, false, List, [], ◌∷◌, Some, Ok, arith, refl, sym, ap₂, ◌∙◌, subst, length, map, IfOk, Result, All, flat_map, AllZip, length-append, length-map, get_or-map, All-nil, All-cons, IsCoefficient, Declaration, CertRow, Certificate, Lemma, LemmaCertificate, Evidence, Format, row_limit, UnknownName, NumberTooLarge, asked, ReadsText, number_within, is_negative, digits_of, signed, integer_within, word_of, integer_of, integer_limit, number_limit, RowTokens, row_values, IsRowOver, IsLemmaRowOver, IsCheckable, IsCheckableLemma, IsCheckableByLemmas, IsCheckableEvidence, certificate_kind, IsEvidence, bind_ok, asked_ok, ok_has, option_map_some, word_is_over, within_limit, CertFault, all_values, ScaledTokens, LemmaTokens, PlainTokens, LemmasTokens, BlockTokens, IsBlock, Bound, rows, rows_in, KeepsOne, IsLemmaRowOf, IsScaledOf, IsPlainOf, IsLemmasOf, IsCertificateOf, IsPlain, certificate_steps, values_are, read_values_are, zip_length, zip_right}
use Rattle.traced_rows.specs.declared.evidence.Evidence.TheVariants as block
use Rattle.traced_rows.specs.declared.evidence.Format.TheVariants as format
use Rattle.certificate_text.specs.Blocks as tokens
use Rattle.certificate_text.proofs.Reader.{reader}

-- numbers
number_is_within : (digits : List ℕ) (n : ℕ) → number_within integer_limit digits ≡ Some n → n ≤ integer_limit
number_is_within digits n read = let found = within_limit integer_limit digits n read in omega arith

signed_in_range : (negative : Bool) (n : ℕ) → n ≤ integer_limit → IsCoefficient (signed negative n)
signed_in_range true zero small = omega (arith, small)
signed_in_range true (suc n) small = omega (arith, small)
signed_in_range false n small = omega (arith, small)

integer_in_range : (token : List ℕ) (z : ℤ) → integer_within integer_limit token ≡ Some z → IsCoefficient z
integer_in_range token z read =
    option_map_some (signed (is_negative token)) (number_within integer_limit (digits_of token)) z read
    (λ n is same. subst IsCoefficient same (signed_in_range (is_negative token) n (number_is_within (digits_of token) n is)))

pub positive_in_range : (digits : List ℕ) (z : ℤ) → integer_of digits ≡ Ok z → IsCoefficient z
positive_in_range digits z read =
    option_map_some pos (number_within integer_limit digits) z (asked_ok NumberTooLarge _ z read)
    (λ n within same. subst IsCoefficient same (signed_in_range false n (number_is_within digits n within)))

-- rows
record IsGoodRow (ds : List Declaration) (row : CertRow) : Type 0 where
  coefficient : IsCoefficient row.coef
  letters : IsRowOver ds row

values_are_good : (ds : List Declaration) (r : RowTokens) (row : CertRow) → row_values ds r ≡ Ok row → IsGoodRow ds row
values_are_good ds r row read_left =
    bind_ok (asked UnknownName (word_of ds r.left)) _ row read_left (λ left left_is read_right.
    bind_ok (asked UnknownName (word_of ds r.right)) _ row read_right (λ right right_is read_coefficient.
    bind_ok (asked NumberTooLarge (integer_within integer_limit r.coefficient)) _ row read_coefficient (λ coefficient coefficient_is read_number.
    bind_ok (asked NumberTooLarge (number_within number_limit r.number)) _ row read_number (λ number number_is made.
    ok_has (IsGoodRow ds) (record { coef = coefficient; left = left; generator = number; right = right }) row made (record {
      coefficient = integer_in_range r.coefficient coefficient (asked_ok NumberTooLarge _ coefficient coefficient_is);
      letters = record {
        left = word_is_over ds r.left left (asked_ok UnknownName _ left left_is);
        right = word_is_over ds r.right right (asked_ok UnknownName _ right right_is);
      };
    })))))

module _ (ds : List Declaration) where
  plain_checkable : (b : PlainTokens) (c : Certificate) → length b.rows ≤ row_limit → IsPlainOf ds b c → IsCheckable ds c
  plain_checkable b c few says = record {
    few = omega (arith, few, zip_length (λ r row. row_values ds r ≡ Ok row) b.rows c.rows says.rows);
    denominator = positive_in_range b.denominator c.denominator says.denominator;
    coefficients = zip_right _ (λ row. IsCoefficient row.coef) (λ r row said. (values_are_good ds r row said).coefficient) b.rows c.rows says.rows;
    letters = zip_right _ (IsRowOver ds) (λ r row said. (values_are_good ds r row said).letters) b.rows c.rows says.rows;
  }

  pub scaled_checkable : (s : ScaledTokens) (l : Lemma) → IsScaledOf ds s l → IsCheckableLemma ds l
  scaled_checkable s l says = record {
    scale = positive_in_range s.scale l.scale says.scale;
    coefficients = zip_right (IsLemmaRowOf ds) (λ row. IsCoefficient row.coef) (λ r row said. rw said.2 (values_are_good ds r said.0 said.1).coefficient) s.rows l.rows says.rows;
    letters = zip_right (IsLemmaRowOf ds) (IsLemmaRowOver ds) (λ r row said. let good = (values_are_good ds r said.0 said.1).letters in rw said.2 (record { left = good.left; right = good.right })) s.rows l.rows says.rows;
  }

  abbrev Each : LemmaTokens → Lemma → Type 0
  Each l lemma = IsScaledOf ds l.scaled lemma

  -- there are as many rows in the lemmas as in their tokens
  rows_count : (ls : List LemmaTokens) (lemmas : List Lemma) → AllZip Each ls lemmas → length (flat_map (λ l. l.scaled.rows) ls) ≡ length (flat_map (λ l. l.rows) lemmas)
  rows_count [] [] zipped = refl
  rows_count [] (l ∷ lemmas) zipped = absurd zipped
  rows_count (l ∷ ls) [] zipped = absurd zipped
  rows_count (l ∷ ls) (lemma ∷ lemmas) zipped =
      length-append l.scaled.rows (flat_map (λ k. k.scaled.rows) ls)
      ∙ ap₂ (λ (m n : ℕ). m + n) (zip_length (IsLemmaRowOf ds) l.scaled.rows lemma.rows zipped.0.rows) (rows_count ls lemmas zipped.1)
      ∙ sym (length-append lemma.rows (flat_map (λ k. k.rows) lemmas))

  lemmas_checkable : (b : LemmasTokens) (c : LemmaCertificate) → length (rows_in (tokens.lemmas b)) ≤ row_limit → length b.lemmas ≤ row_limit → IsLemmasOf ds b c → IsCheckableByLemmas ds c
  lemmas_checkable b c few few_lemmas says = record {
    few_lemmas = omega (arith, few_lemmas, zip_length Each b.lemmas c.lemmas says.lemmas);
    few_rows =
        omega (arith, few, length-append (flat_map (λ l. l.scaled.rows) b.lemmas) b.goal.rows, rows_count b.lemmas c.lemmas says.lemmas, zip_length (IsLemmaRowOf ds) b.goal.rows c.goal.rows says.goal.rows);
    denominator = positive_in_range b.denominator c.denominator says.denominator;
    lemmas = zip_right Each (IsCheckableLemma ds) (λ l lemma scaled. scaled_checkable l.scaled lemma scaled) b.lemmas c.lemmas says.lemmas;
    goal = scaled_checkable b.goal c.goal says.goal;
  }

  pub tree_checkable : (b : BlockTokens) (e : Evidence) → ((bound : Bound) → KeepsOne ds bound b) → IsCertificateOf ds b e → IsCheckableEvidence ds e
  tree_checkable (tokens.plain b) (block.Plain c) keeps says = plain_checkable b c (keeps rows).0 says
  tree_checkable (tokens.plain b) (block.Lemmas c) keeps says = absurd says
  tree_checkable (tokens.lemmas b) (block.Lemmas c) keeps says = lemmas_checkable b c (keeps rows).0 (keeps rows).1 says
  tree_checkable (tokens.lemmas b) (block.Plain c) keeps says = absurd says

  pub are_checkable : (most : Format) (bytes : List ℕ) (es : List Evidence) → IsEvidence most ds bytes es → All (IsCheckableEvidence ds) es
  are_checkable most bytes es is = values_are (certificate_kind most ds) (certificate_steps most ds) (reader most ds) (IsCheckableEvidence ds) (λ b e block keeps says. tree_checkable b e keeps says) bytes es is

  pub checkable_told : (most : Format) (bytes : List ℕ) (r : Result (List Evidence) CertFault) → ReadsText (λ es. es) r (all_values (certificate_steps most ds) bytes) → IfOk r (All (IsCheckableEvidence ds))
  checkable_told most bytes r read =
      read_values_are (certificate_kind most ds) (certificate_steps most ds) (reader most ds) (IsCheckableEvidence ds) (λ b e block keeps says. tree_checkable b e keeps says) bytes r read

  -- where format 1 alone is read, each block is of format 1
  tree_plain : (b : BlockTokens) (e : Evidence) → IsBlock format.Plain b → IsCertificateOf ds b e → IsPlain e
  tree_plain (tokens.plain b) (block.Plain c) is says = tt
  tree_plain (tokens.plain b) (block.Lemmas c) is says = absurd says
  tree_plain (tokens.lemmas b) e is says = absurd is

  pub are_plain : (bytes : List ℕ) (es : List Evidence) → IsEvidence format.Plain ds bytes es → All IsPlain es
  are_plain bytes es is = values_are (certificate_kind format.Plain ds) (certificate_steps format.Plain ds) (reader format.Plain ds) IsPlain (λ b e block keeps says. tree_plain b e block says) bytes es is

-- what holds of the blocks of format 1 holds of their certificates
pub all_plain : (ds : List Declaration) (cs : List Certificate) → All (IsCheckableEvidence ds) (map block.Plain cs) → All (IsCheckable ds) cs
all_plain ds cs each k d below = subst (IsCheckableEvidence ds) (get_or-map block.Plain cs k d (block.Plain d) below) (each k (block.Plain d) (omega (arith, length-map cs block.Plain, below)))
