-- A text has at most one list of chains, and so chains that are written differ if their values do.
use Rattle.equation_chain.proofs.Prelude.{◌≡◌, true, false, List, [], ◌∷◌, ◌++◌, Some, Ok, refl, sym, ap, ap₂, ◌∙◌, subst, map, All, AllByRecursion, AllZip, flat_map, append_assoc, All-head, All-tail, Declaration, CertRow, Block, own, other_block, own_in, block_lines, IsBlock, number_within, is_end, end_line, number_limit, integer_of, IsPolynomialLine, text_of_block, polynomial_there, AllZip-unique, RowTokens, row_values, row_line, IsPlainRow, row_line_read, ChainTerms, StepTokens, ChainTokens, said_line, use_line, step_lines, chain_lines, IsChainBlock, lines_in, SaysChain, HasChains, ChainsAreUnique, TextsTellChains}
use Rattle.definitions.specs.Poly.{Poly}
use Rattle.block_text.specs.Lines.{Line}
use Rattle.certificate_text.specs.Lines.{row_of}
use Rattle.equation_chain.proofs.ChainsBack.{chain_written}

-- Lines up to the first `end` are determined by the text, and so are those after it.
body_unique : (xs ys rest more : List Line) → AllByRecursion (λ line. is_end line ≡ false) xs → AllByRecursion (λ line. is_end line ≡ false) ys → xs ++ end_line ∷ rest ≡ ys ++ end_line ∷ more
    → (xs ≡ ys) × (rest ≡ more)
body_unique [] [] rest more left right same = let after : rest ≡ more = cc in (refl, after)
body_unique [] (y ∷ ys) rest more left right same =
    let first : end_line ≡ y = cc in
    let none : is_end end_line ≡ false = subst (λ line. is_end line ≡ false) (sym first) right.0 in
    absurd (cc)
body_unique (x ∷ xs) [] rest more left right same =
    let first : end_line ≡ x = cc in
    let none : is_end end_line ≡ false = subst (λ line. is_end line ≡ false) (sym first) left.0 in
    absurd (cc)
body_unique (x ∷ xs) (y ∷ ys) rest more left right same =
    let first : x ≡ y = cc in
    let others : xs ++ end_line ∷ rest ≡ ys ++ end_line ∷ more = cc in
    let both = body_unique xs ys rest more left.1 right.1 others in
    (ap₂ (λ v vs. v ∷ vs) first both.0, both.1)

-- no line of a chain ends it
said_goes_on : (line : Line) → is_end (said_line line) ≡ false
said_goes_on [] = refl
said_goes_on (token ∷ line) = refl

steps_go_on : (steps : List StepTokens) → AllByRecursion (λ line. is_end line ≡ false) (flat_map step_lines steps)
steps_go_on [] = tt
steps_go_on (s ∷ steps) = (refl, (said_goes_on s.line, steps_go_on steps))

chain_goes_on : (b : ChainTokens) → AllByRecursion (λ line. is_end line ≡ false) (chain_lines b)
chain_goes_on b = (refl, (refl, (refl, (said_goes_on b.first, steps_go_on b.steps))))

module _ (ds : List Declaration) where
  -- steps
  row_unique : (r s : RowTokens) (one other : CertRow) → IsPlainRow r → IsPlainRow s → use_line r ≡ use_line s → row_values ds r ≡ Ok one → row_values ds s ≡ Ok other → one ≡ other
  row_unique r s one other first second same left right =
      let whole : row_line r ≡ row_line s = (let tokens = same in cc) in
      let both : row_values ds r ≡ row_values ds s = sym (row_line_read ds r first) ∙ ap (row_of ds) whole ∙ row_line_read ds s second in
      let results : Ok one ≡ Ok other = sym left ∙ both ∙ right in
      cc

  abbrev IsPlain : StepTokens → Type 0
  IsPlain s = IsPlainRow s.step

  steps_unique : (xs ys : List StepTokens) (one other : List CertRow) → All IsPlain xs → All IsPlain ys → flat_map step_lines xs ≡ flat_map step_lines ys
      → AllZip (λ s step. row_values ds s.step ≡ Ok step) xs one → AllZip (λ s step. row_values ds s.step ≡ Ok step) ys other → one ≡ other
  steps_unique [] [] [] [] first second same left right = refl
  steps_unique [] [] (a ∷ one) other first second same left right = absurd left
  steps_unique [] [] [] (b ∷ other) first second same left right = absurd right
  steps_unique [] (y ∷ ys) one other first second same left right = absurd (cc)
  steps_unique (x ∷ xs) [] one other first second same left right = absurd (cc)
  steps_unique (x ∷ xs) (y ∷ ys) [] other first second same left right = absurd left
  steps_unique (x ∷ xs) (y ∷ ys) (a ∷ one) [] first second same left right = absurd right
  steps_unique (x ∷ xs) (y ∷ ys) (a ∷ one) (b ∷ other) first second same left right =
      let used : use_line x.step ≡ use_line y.step = cc in
      let rest : flat_map step_lines xs ≡ flat_map step_lines ys = cc in
      ap₂ (λ v vs. v ∷ vs) (row_unique x.step y.step a b (All-head IsPlain x xs first) (All-head IsPlain y ys second) used left.0 right.0)
      (steps_unique xs ys one other (All-tail IsPlain x xs first) (All-tail IsPlain y ys second) rest left.1 right.1)

  -- lines
  polynomial_unique : (line : Line) (p q : Poly) → IsPolynomialLine ds line p → IsPolynomialLine ds line q → p ≡ q
  polynomial_unique line p q left right =
      let both : Ok p ≡ Ok q = sym (polynomial_there ds line p left) ∙ polynomial_there ds line q right in
      cc

  later_same : (xs ys : List StepTokens) → flat_map step_lines xs ≡ flat_map step_lines ys → map (λ s. s.line) xs ≡ map (λ s. s.line) ys
  later_same [] [] same = refl
  later_same [] (y ∷ ys) same = absurd (cc)
  later_same (x ∷ xs) [] same = absurd (cc)
  later_same (x ∷ xs) (y ∷ ys) same =
      let said : x.line ≡ y.line = cc in
      let rest : flat_map step_lines xs ≡ flat_map step_lines ys = cc in
      ap₂ (λ v vs. v ∷ vs) said (later_same xs ys rest)

  -- a block
  chain_unique : (t u : ChainTokens) (one other : ChainTerms) → IsChainBlock t → IsChainBlock u → chain_lines t ≡ chain_lines u → SaysChain ds t one → SaysChain ds u other → one ≡ other
  chain_unique t u one other first second same left right =
      let claims : t.claim ≡ u.claim = cc in
      let denominators : t.denominator ≡ u.denominator = cc in
      let firsts : t.first ≡ u.first = cc in
      let rest : flat_map step_lines t.steps ≡ flat_map step_lines u.steps = cc in
      let claim : one.claim ≡ other.claim = (let both : Some one.claim ≡ Some other.claim = sym left.claim ∙ ap (number_within number_limit) claims ∙ right.claim in cc) in
      let denominator : one.denominator ≡ other.denominator = (let both : Ok one.denominator ≡ Ok other.denominator = sym left.denominator ∙ ap integer_of denominators ∙ right.denominator in cc) in
      let steps = steps_unique t.steps u.steps one.steps other.steps first.steps second.steps rest left.steps right.steps in
      let lines_same : lines_in t ≡ lines_in u = ap₂ (λ v vs. v ∷ vs) firsts (later_same t.steps u.steps rest) in
      let lines = AllZip-unique (IsPolynomialLine ds) polynomial_unique (lines_in u) one.lines other.lines (subst (λ ls. AllZip (IsPolynomialLine ds) ls one.lines) lines_same left.lines) right.lines in
      λ j. record { claim = claim j; denominator = denominator j; steps = steps j; lines = lines j }

  -- blocks
  abbrev Lines : List (Block ChainTokens) → List Line
  Lines text = flat_map (block_lines chain_lines) text

  abbrev AreChains : List (Block ChainTokens) → Type 0
  AreChains text = All (IsBlock IsChainBlock []) text

  first_block : (t : ChainTokens) (text : List (Block ChainTokens)) → Lines (own t ∷ text) ≡ chain_lines t ++ end_line ∷ Lines text
  first_block t text = append_assoc (chain_lines t) (end_line ∷ []) (Lines text)

  chains_unique : (xs ys : List (Block ChainTokens)) (one other : List ChainTerms) → AreChains xs → AreChains ys → Lines xs ≡ Lines ys
      → AllZip (SaysChain ds) (own_in xs) one → AllZip (SaysChain ds) (own_in ys) other → one ≡ other
  chains_unique [] [] [] [] first second same left right = refl
  chains_unique [] [] (c ∷ one) other first second same left right = absurd left
  chains_unique [] [] [] (d ∷ other) first second same left right = absurd right
  chains_unique (other_block b ∷ xs) ys one other first second same left right = let none : false ≡ true = (All-head (IsBlock IsChainBlock []) (other_block b) xs first).head in absurd (cc)
  chains_unique xs (other_block b ∷ ys) one other first second same left right = let none : false ≡ true = (All-head (IsBlock IsChainBlock []) (other_block b) ys second).head in absurd (cc)
  chains_unique [] (own u ∷ ys) one other first second same left right = absurd (cc)
  chains_unique (own t ∷ xs) [] one other first second same left right = absurd (cc)
  chains_unique (own t ∷ xs) (own u ∷ ys) [] other first second same left right = absurd left
  chains_unique (own t ∷ xs) (own u ∷ ys) (c ∷ one) [] first second same left right = absurd right
  chains_unique (own t ∷ xs) (own u ∷ ys) (c ∷ one) (d ∷ other) first second same left right =
      let parts = body_unique (chain_lines t) (chain_lines u) (Lines xs) (Lines ys) (chain_goes_on t) (chain_goes_on u) (sym (first_block t xs) ∙ same ∙ first_block u ys) in
      ap₂ (λ v vs. v ∷ vs) (chain_unique t u c d (All-head (IsBlock IsChainBlock []) (own t) xs first) (All-head (IsBlock IsChainBlock []) (own u) ys second) parts.0 left.0 right.0)
      (chains_unique xs ys one other (All-tail (IsBlock IsChainBlock []) (own t) xs first) (All-tail (IsBlock IsChainBlock []) (own u) ys second) parts.1 left.1 right.1)

pub chains_are_unique : ChainsAreUnique
chains_are_unique ds bytes one other left right =
    chains_unique ds left.blocks right.blocks one other left.are_blocks.each right.are_blocks.each
    (sym left.are_blocks.are ∙ right.are_blocks.are) left.says right.says

pub texts_tell_chains : TextsTellChains
texts_tell_chains ds one other declared known first second same =
    let left : HasChains ds _ (one ∷ []) = text_of_block _ _ one (chain_written ds declared known one first) in
    let right = text_of_block _ _ other (chain_written ds declared known other second) in
    let both : one ∷ [] ≡ other ∷ [] = chains_are_unique ds _ (one ∷ []) (other ∷ []) left (subst (λ text. HasChains ds text (other ∷ [])) (sym same) right) in
    cc
