-- Evidence text of a kind: the values of bytes, or their first fault.
use Rattle.std.specs.Prelude.{◌≡◌, ◌<◌, ℕ, ◌+◌, true, false, List, [], ◌∷◌, ◌++◌, length}
use Rattle.std.specs.List.{All, AllZip}
use Rattle.std.specs.Str.{is_utf8}
use Rattle.std.specs.Str.Lines.{lines}
use Rattle.block_text.specs.declared.fault.Flaw.{Flaw}
use Rattle.block_text.specs.declared.fault.Flaw.TheVariants.{BadLine}
use Rattle.block_text.specs.Fault.{Fault, in_line, not_utf8, truncated, no_block}
use Rattle.block_text.specs.Tokens.{tokens_of, is_skipped}
use Rattle.block_text.specs.Lines.{Line, content}
use Rattle.block_text.specs.Kind.{Kind}
use Rattle.block_text.specs.Blocks.{Block, own_in, AreBlocks, TextBound, Keeps, bounds, flaw_of}

module _ {Value : Type 0} (kind : Kind Value) where
  -- The bytes are UTF-8, their lines are blocks within all bounds, and the blocks of the kind say these values.
  pub record HasBlocks (bytes : List ℕ) (values : List Value) : Type 0 where
    pub utf8 : is_utf8 bytes ≡ true
    pub blocks : List (Block kind.Tree)
    pub are_blocks : AreBlocks kind (content (lines bytes)) blocks
    pub within : All (Keeps kind blocks) (bounds kind)
    pub says : AllZip kind.Says (own_in blocks) values

  -- There is at least one.
  pub record IsBlocks (bytes : List ℕ) (values : List Value) : Type 0 where
    pub has : HasBlocks bytes values
    pub some : 0 < length values

  -- The lines are the first lines of blocks within these bounds.
  pub record GoesOn (within : List (TextBound kind.Bound)) (ls : List Line) : Type 0 where
    pub more : List Line
    pub blocks : List (Block kind.Tree)
    pub are_blocks : AreBlocks kind (ls ++ more) blocks
    pub keeps : All (Keeps kind blocks) within

  -- After the lines before it no blocks continue with this line; or some do, but none that are within the bounds before one are within that one.
  pub data IsFlawed (front : List Line) (line : Line) (flaw : Flaw) : Type 0 where
    misfit : flaw ≡ BadLine → (GoesOn [] (front ++ line ∷ []) → ⊥) → IsFlawed front line flaw
    passes : (earlier later : List (TextBound kind.Bound)) (bound : TextBound kind.Bound) → bounds kind ≡ earlier ++ bound ∷ later → flaw ≡ flaw_of kind bound
        → GoesOn earlier (front ++ line ∷ []) → (GoesOn (earlier ++ bound ∷ []) (front ++ line ∷ []) → ⊥) → IsFlawed front line flaw

  -- A line: those before it are the first ones of blocks within all bounds, and it is flawed.
  pub record IsFirstFlaw (ls : List (List ℕ)) (number : ℕ) (flaw : Flaw) : Type 0 where
    pub front : List (List ℕ)
    pub line : List ℕ
    pub behind : List (List ℕ)
    pub splits : ls ≡ front ++ line ∷ behind
    pub numbered : number ≡ length front + 1
    pub stands : is_skipped (tokens_of line) ≡ false
    pub sound : GoesOn (bounds kind) (content front)
    pub flawed : IsFlawed (content front) (tokens_of line) flaw

  -- The lines are the first ones of blocks within all bounds, but no whole blocks.
  pub record IsCutOff (ls : List Line) : Type 0 where
    pub sound : GoesOn (bounds kind) ls
    pub cut : (blocks : List (Block kind.Tree)) → AreBlocks kind ls blocks → ⊥

  -- All the lines are blocks of other kinds.
  pub record HasNone (ls : List Line) : Type 0 where
    pub blocks : List (Block kind.Tree)
    pub are_blocks : AreBlocks kind ls blocks
    pub none : own_in blocks ≡ []

  -- the first fault of the bytes: their encoding, a line, that they end inside a block, or that they have no block of the kind
  pub data IsFirstFault (bytes : List ℕ) (fault : Fault) : Type 0 where
    encoding : is_utf8 bytes ≡ false → fault ≡ not_utf8 → IsFirstFault bytes fault
    line : (number : ℕ) (flaw : Flaw) → is_utf8 bytes ≡ true → IsFirstFlaw (lines bytes) number flaw → fault ≡ in_line number flaw → IsFirstFault bytes fault
    end : is_utf8 bytes ≡ true → IsCutOff (content (lines bytes)) → fault ≡ truncated → IsFirstFault bytes fault
    none : is_utf8 bytes ≡ true → HasNone (content (lines bytes)) → fault ≡ no_block → IsFirstFault bytes fault
