-- The grammar of evidence text: blocks as trees of tokens, and the lines of each.
use Rattle.std.specs.Prelude.{◌≡◌, ⊤, ℕ, ◌+◌, ◌∷◌, ◌++◌, false, IsTrue, List, [], map, codes, if◌then◌else◌}
use Rattle.std.specs.List.{All, flat_map}
use Rattle.traced_rows.specs.declared.evidence.Format.{Format}
use Rattle.traced_rows.specs.declared.evidence.Format.TheVariants.{Plain, Lemmas}
use Rattle.block_text.specs.Letters.{is_number}
use Rattle.block_text.specs.Lines.{Line, claim_line}
use Rattle.certificate_text.specs.Lines.{RowTokens, is_value, is_row}

-- scale S and the rows after it
pub record ScaledTokens : Type 0 where
  pub scale : List ℕ
  pub rows : List RowTokens

-- lemma K with its scale and its rows
pub record LemmaTokens : Type 0 where
  pub number : List ℕ
  pub scaled : ScaledTokens

-- a certificate of format 1
pub record PlainTokens : Type 0 where
  pub claim : List ℕ
  pub denominator : List ℕ
  pub rows : List RowTokens

-- a certificate of format 2
pub record LemmasTokens : Type 0 where
  pub claim : List ℕ
  pub denominator : List ℕ
  pub lemmas : List LemmaTokens
  pub goal : ScaledTokens

-- a certificate of either format
pub data BlockTokens : Type 0 where
  plain : PlainTokens → BlockTokens
  lemmas : LemmasTokens → BlockTokens

-- a number, or `lemma` and a number
abbrev pub origin_tokens : RowTokens → Line
origin_tokens r = if r.lemma then codes "lemma" ∷ r.number ∷ [] else r.number ∷ []

-- row C (LETTERS) G (LETTERS), or with lemma K for G
abbrev pub row_line : RowTokens → Line
row_line r = codes "row" ∷ r.coefficient ∷ codes "(" ∷ (r.left ++ (codes ")" ∷ (origin_tokens r ++ (codes "(" ∷ (r.right ++ codes ")" ∷ [])))))

-- certificate 1, or certificate 2
abbrev pub head_line : Format → Line
head_line Plain = codes "certificate" ∷ codes "1" ∷ []
head_line Lemmas = codes "certificate" ∷ codes "2" ∷ []

-- denominator D
abbrev pub denominator_line : List ℕ → Line
denominator_line d = codes "denominator" ∷ d ∷ []

-- lemma K scale S, and its rows
abbrev pub lemma_lines : LemmaTokens → List Line
lemma_lines l = (codes "lemma" ∷ l.number ∷ codes "scale" ∷ l.scaled.scale ∷ []) ∷ map row_line l.scaled.rows

-- goal scale S, and its rows
abbrev pub goal_lines : ScaledTokens → List Line
goal_lines g = (codes "goal" ∷ codes "scale" ∷ g.scale ∷ []) ∷ map row_line g.rows

-- all but the line that ends it
abbrev pub certificate_lines : BlockTokens → List Line
certificate_lines (plain b) = head_line Plain ∷ claim_line b.claim ∷ denominator_line b.denominator ∷ map row_line b.rows
certificate_lines (lemmas b) = head_line Lemmas ∷ claim_line b.claim ∷ denominator_line b.denominator ∷ (flat_map lemma_lines b.lemmas ++ goal_lines b.goal)

-- numbers and letters are at their places, and the row is over a generator
pub record IsPlainRow (r : RowTokens) : Type 0 where
  pub row : IsTrue (is_row r)
  pub generator : r.lemma ≡ false

-- a number after scale, and rows over generators and lemmas
pub record IsScaled (s : ScaledTokens) : Type 0 where
  pub scale : IsTrue (is_number s.scale)
  pub rows : All (λ r. IsTrue (is_row r)) s.rows

-- each lemma has the number after that of the lemma before it
abbrev pub AreLemmas : ℕ → List LemmaTokens → Type 0
AreLemmas number [] = ⊤
AreLemmas number (l ∷ ls) = IsTrue (is_value number l.number) × IsScaled l.scaled × AreLemmas (number + 1) ls

-- a claim and a denominator, and rows over generators
pub record IsPlainBlock (b : PlainTokens) : Type 0 where
  pub claim : IsTrue (is_number b.claim)
  pub denominator : IsTrue (is_number b.denominator)
  pub rows : All IsPlainRow b.rows

-- a claim and a denominator, lemmas numbered from 1, and a goal
pub record IsLemmasBlock (b : LemmasTokens) : Type 0 where
  pub claim : IsTrue (is_number b.claim)
  pub denominator : IsTrue (is_number b.denominator)
  pub lemmas : AreLemmas 1 b.lemmas
  pub goal : IsScaled b.goal

-- a block of a text that may have certificates of this format and of the earlier ones
abbrev pub IsBlock : Format → BlockTokens → Type 0
IsBlock most (plain b) = IsPlainBlock b
IsBlock Plain (lemmas b) = ⊥
IsBlock Lemmas (lemmas b) = IsLemmasBlock b
