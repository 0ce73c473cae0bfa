-- Lines of a block one after another, and the blocks that begin with two words and continue with such lines.
use Rattle.std.specs.Prelude.{◌≡◌, ◌≢◌, ◌≤◌, AllPairs, ⊤, ℕ, List, [], ◌∷◌, ◌++◌, length, map}
use Rattle.std.specs.List.{All, AllZip}
use Rattle.block_text.specs.declared.fault.Flaw.{Flaw}
use Rattle.block_text.specs.Lines.{Line}
use Rattle.block_text.specs.Kind.{Kind}
use Rattle.block_lines.specs.LineKinds.{LineKind}

-- Lines of a block: their trees of tokens, the bounds of these, and what they say.
pub record Section (Bound Value : Type 0) : Type 1 where
  pub Tree : Type 0
  pub lines_of : Tree → List Line
  pub IsTree : Tree → Type 0
  pub Keeps : Bound → Tree → Type 0
  pub Says : Tree → Value → Type 0

-- no more lines
abbrev pub no_lines : {Bound : Type 0} → Section Bound ⊤
no_lines = record { Tree = ⊤; lines_of = λ t. []; IsTree = λ t. ⊤; Keeps = λ bound t. ⊤; Says = λ t v. ⊤ }

module _ {Bound V W : Type 0} (line : LineKind Bound V) where
  -- a line, and others after it that hang on its tokens
  abbrev pub line_by : {C : Type 0} → (line.Tokens → C) → (C → Section Bound W) → Section Bound (V × W)
  line_by by rest = record {
    Tree = (t : line.Tokens) × (rest (by t)).Tree;
    lines_of = λ t. line.line_of t.0 ∷ (rest (by t.0)).lines_of t.1;
    IsTree = λ t. line.IsLine t.0 × (rest (by t.0)).IsTree t.1;
    Keeps = λ bound t. line.Keeps bound t.0 × (rest (by t.0)).Keeps bound t.1;
    Says = λ t v. line.Says t.0 v.0 × (rest (by t.0)).Says t.1 v.1;
  }

  -- a line, and others after it
  abbrev pub line_then : Section Bound W → Section Bound (V × W)
  line_then rest = line_by (λ t. tt) (λ (c : ⊤). rest)

  -- lines of the kind, at most so many by this bound, and others after them
  abbrev pub lines_then : Section Bound W → Bound → ℕ → Section Bound (List V × W)
  lines_then rest count limit = record {
    Tree = List line.Tokens × rest.Tree;
    lines_of = λ t. map line.line_of t.0 ++ rest.lines_of t.1;
    IsTree = λ t. All line.IsLine t.0 × rest.IsTree t.1;
    Keeps = λ bound t. All (line.Keeps bound) t.0 × (bound ≡ count → length t.0 ≤ limit) × rest.Keeps bound t.1;
    Says = λ t v. AllZip line.Says t.0 v.0 × rest.Says t.1 v.1;
  }

-- lines of the kind up to the end, no two of which have the same name
abbrev pub named_lines : {Bound V : Type 0} (line : LineKind Bound V) → (line.Tokens → List ℕ) → Section Bound (List V)
named_lines line name = record {
  Tree = List line.Tokens;
  lines_of = map line.line_of;
  IsTree = λ ts. All line.IsLine ts × AllPairs (λ x y. x ≢ y) (map name ts);
  Keeps = λ bound ts. All (line.Keeps bound) ts;
  Says = AllZip line.Says;
}

-- the same lines, which together say this
abbrev pub said_as : {Bound V W : Type 0} (section : Section Bound V) → (section.Tree → W → Type 0) → Section Bound W
said_as section Says = record { Tree = section.Tree; lines_of = section.lines_of; IsTree = section.IsTree; Keeps = section.Keeps; Says = Says }

-- Blocks that begin with two words and continue with these lines.
abbrev pub block_kind : {Bound V : Type 0} → List ℕ → List ℕ → List (List ℕ) → List Bound → (Bound → Flaw) → Section Bound V → Kind V
block_kind {Bound} first second others bounds flaw_of section = record {
  Tree = section.Tree;
  lines_of = λ t. (first ∷ second ∷ []) ∷ section.lines_of t;
  IsTree = section.IsTree;
  others = others;
  Bound = Bound;
  bounds = bounds;
  flaw_of = flaw_of;
  Keeps = section.Keeps;
  Says = section.Says;
}
