-- Texts of blocks: those of one kind, as trees, and those of other kinds, whose lines aren't read.
use Rattle.std.specs.Prelude.{◌≡◌, ◌≤◌, ℕ, Bool, false, IsTrue, List, [], ◌∷◌, ◌++◌, length, map}
use Rattle.std.specs.List.{All, flat_map, list_any}
use Rattle.block_text.specs.declared.fault.Flaw.{Flaw}
use Rattle.block_text.specs.declared.fault.Flaw.TheVariants.{TooMany}
use Rattle.block_text.specs.Lines.{Line, OtherTokens, block_limit, begins, is_end, end_line}
use Rattle.block_text.specs.Kind.{Kind}

-- whether the line begins with one of these words, so that a block of another kind begins
abbrev pub is_other_head : List (List ℕ) → Line → Bool
is_other_head others line = list_any (λ word. begins word line) others

-- none of its lines is `end`
pub record IsOtherBlock (others : List (List ℕ)) (b : OtherTokens) : Type 0 where
  pub head : IsTrue (is_other_head others b.head)
  pub lines : All (λ line. is_end line ≡ false) b.lines

-- a block of the kind, or of another kind
pub data Block (Tree : Type 0) : Type 0 where
  own : Tree → Block Tree
  other : OtherTokens → Block Tree

-- the blocks of the kind
abbrev pub own_in : {Tree : Type 0} → List (Block Tree) → List Tree
own_in [] = []
own_in (own t ∷ blocks) = t ∷ own_in blocks
own_in (other b ∷ blocks) = own_in blocks

abbrev pub block_lines : {Tree : Type 0} → (Tree → List Line) → Block Tree → List Line
block_lines lines_of (own t) = lines_of t ++ end_line ∷ []
block_lines lines_of (other b) = b.head ∷ (b.lines ++ end_line ∷ [])

abbrev pub IsBlock : {Tree : Type 0} → (Tree → Type 0) → List (List ℕ) → Block Tree → Type 0
IsBlock IsTree others (own t) = IsTree t
IsBlock IsTree others (other b) = IsOtherBlock others b

-- a bound on each block of the kind, or that on their number
pub data TextBound (Bound : Type 0) : Type 0 where
  on_block : Bound → TextBound Bound
  on_count : TextBound Bound

abbrev pub told_for : {Bound : Type 0} → (Bound → Flaw) → TextBound Bound → Flaw
told_for flaw_of (on_block bound) = flaw_of bound
told_for flaw_of on_count = TooMany block_limit

abbrev pub KeepsText : {Tree Bound : Type 0} → (Bound → Tree → Type 0) → List (Block Tree) → TextBound Bound → Type 0
KeepsText Keeps text (on_block bound) = All (Keeps bound) (own_in text)
KeepsText Keeps text on_count = length (own_in text) ≤ block_limit

-- that on their number is tested last
abbrev pub text_bounds : {Bound : Type 0} → List Bound → List (TextBound Bound)
text_bounds bounds = map on_block bounds ++ on_count ∷ []

module _ {Value : Type 0} (kind : Kind Value) where
  -- The lines are these blocks, one after another.
  pub record AreBlocks (lines : List Line) (blocks : List (Block kind.Tree)) : Type 0 where
    pub are : lines ≡ flat_map (block_lines kind.lines_of) blocks
    pub each : All (IsBlock kind.IsTree kind.others) blocks

  -- The blocks are within the bound.
  abbrev pub Keeps : List (Block kind.Tree) → TextBound kind.Bound → Type 0
  Keeps text bound = KeepsText kind.Keeps text bound

  abbrev pub bounds : List (TextBound kind.Bound)
  bounds = text_bounds kind.bounds

  -- the flaw of a line that exceeds the bound
  abbrev pub flaw_of : TextBound kind.Bound → Flaw
  flaw_of bound = told_for kind.flaw_of bound
