-- Worked texts, over the objects U and V and a map a : U -> V.
use Rattle.equation_chain.proofs.Prelude.{◌≡◌, ℕ, pos, negsuc, false, List, [], ◌∷◌, ◌++◌, arith, refl, codes, decimal_digit, lines, Declaration, object, arrow, content, end_line, word_text, ChainTerms, chain_lines, text_of}

abbrev declared : List Declaration
declared = object (codes "U") ∷ object (codes "V") ∷ arrow (codes "a") 0 1 false ∷ []

-- of one step; what is left after it is zero
abbrev chain : ChainTerms
chain = record {
  claim = 1;
  denominator = pos 2;
  steps = record { coef = negsuc 2; left = []; generator = 1; right = 2 ∷ [] } ∷ [];
  lines = ((pos 2, 3 ∷ 2 ∷ []) ∷ (negsuc 0, 0 ∷ []) ∷ []) ∷ [] ∷ [];
}

abbrev text : List ℕ
text = codes "chain 1\nclaim 1\ndenominator 2\nline 2 a' a - [U]\nuse -3 () 1 (a)\nline 0\nend\n"

written : text_of declared chain ≡ text
written = rw (decimal_digit 1 (omega arith), decimal_digit 2 (omega arith), decimal_digit 3 (omega arith)) refl

-- its lines
are_lines : content (lines text)
    ≡ chain_lines (record {
      claim = codes "1";
      denominator = codes "2";
      first = codes "2" ∷ codes "a'" ∷ codes "a" ∷ codes "-" ∷ codes "[U]" ∷ [];
      steps = record { step = record { coefficient = codes "-3"; left = []; lemma = false; number = codes "1"; right = codes "a" ∷ [] }; line = codes "0" ∷ [] } ∷ [];
    })
    ++ end_line ∷ []
are_lines = refl

-- With names that are none of the language two words may have the same text.
abbrev odd : List Declaration
odd = object (codes "U") ∷ arrow (codes "a") 0 0 false ∷ arrow (codes "b") 0 0 false ∷ arrow (codes "a b") 0 0 false ∷ []

same_text : word_text odd (1 ∷ 3 ∷ []) ≡ word_text odd (5 ∷ [])
same_text = refl
