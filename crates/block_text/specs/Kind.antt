-- A kind of block of evidence text, by its grammar, its bounds and its values.
use Rattle.std.specs.Prelude.{ℕ, List}
use Rattle.block_text.specs.declared.fault.Flaw.{Flaw}
use Rattle.block_text.specs.Lines.{Line}

-- A block is a tree of tokens.
pub record Kind (Value : Type 0) : Type 1 where
  pub Tree : Type 0
  -- its lines without the line `end`
  pub lines_of : Tree → List Line
  -- what its tokens may be
  pub IsTree : Tree → Type 0
  -- the words that blocks of the other kinds begin with, which aren't read
  pub others : List (List ℕ)
  -- the bounds on a block in the order in which they are tested, and the flaw of a line that exceeds one
  pub Bound : Type 0
  pub bounds : List Bound
  pub flaw_of : Bound → Flaw
  pub Keeps : Bound → Tree → Type 0
  -- what it says
  pub Says : Tree → Value → Type 0

-- The kind whose blocks are these trees, by the lines of each, what its tokens may be, the words that blocks of the other
-- kinds begin with, the bounds in their order, the flaw and the meaning of each, and what a tree says.
abbrev pub kind_of : {Tree Bound Value : Type 0} → (Tree → List Line) → (Tree → Type 0) → List (List ℕ)
    → List Bound → (Bound → Flaw) → (Bound → Tree → Type 0) → (Tree → Value → Type 0) → Kind Value
kind_of {Tree} {Bound} lines_of IsTree others bounds flaw_of Keeps Says = record {
  Tree = Tree;
  lines_of = lines_of;
  IsTree = IsTree;
  others = others;
  Bound = Bound;
  bounds = bounds;
  flaw_of = flaw_of;
  Keeps = Keeps;
  Says = Says;
}
