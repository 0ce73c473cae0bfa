-- A kind of block whose values are seen as others.
use Rattle.block_lines.proofs.Prelude.{ℕ, false, List, [], ◌∷◌, ◌≡◌, map, AllZip, list_any, Kind, own_in, AreReadBack, HasBlocks, begins_comment, IsWritten, are_read_back}

module _ {V W : Type 0} (kind : Kind V) (f : W → V) where
  -- the same blocks, of which each says what is seen as its value
  abbrev seen : Kind W
  seen = record {
    Tree = kind.Tree;
    lines_of = kind.lines_of;
    IsTree = kind.IsTree;
    others = kind.others;
    Bound = kind.Bound;
    bounds = kind.bounds;
    flaw_of = kind.flaw_of;
    Keeps = kind.Keeps;
    Says = λ t w. kind.Says t (f w);
  }

  zip_seen : (ts : List kind.Tree) (ws : List W) → AllZip seen.Says ts ws → AllZip kind.Says ts (map f ws)
  zip_seen [] [] zipped = tt
  zip_seen [] (w ∷ ws) zipped = absurd zipped
  zip_seen (t ∷ ts) [] zipped = absurd zipped
  zip_seen (t ∷ ts) (w ∷ ws) zipped = (zipped.0, zip_seen ts ws zipped.1)

  seen_zip : (ts : List kind.Tree) (ws : List W) → AllZip kind.Says ts (map f ws) → AllZip seen.Says ts ws
  seen_zip [] [] zipped = tt
  seen_zip [] (w ∷ ws) zipped = absurd zipped
  seen_zip (t ∷ ts) [] zipped = absurd zipped
  seen_zip (t ∷ ts) (w ∷ ws) zipped = (zipped.0, seen_zip ts ws zipped.1)

  has_seen : {bytes : List ℕ} {ws : List W} → HasBlocks seen bytes ws → HasBlocks kind bytes (map f ws)
  has_seen {bytes} {ws} has =
      record { utf8 = has.utf8; blocks = has.blocks; are_blocks = record { are = has.are_blocks.are; each = has.are_blocks.each }; within = has.within; says = zip_seen (own_in has.blocks) ws has.says }

  seen_has : {bytes : List ℕ} {ws : List W} → HasBlocks kind bytes (map f ws) → HasBlocks seen bytes ws
  seen_has {bytes} {ws} has =
      record { utf8 = has.utf8; blocks = has.blocks; are_blocks = record { are = has.are_blocks.are; each = has.are_blocks.each }; within = has.within; says = seen_zip (own_in has.blocks) ws has.says }

  -- values that are seen as those of written blocks are read back
  pub seen_are_read_back : (text_of : W → List ℕ) (IsGood : W → Type 0) → list_any begins_comment kind.others ≡ false → ((w : W) → IsGood w → IsWritten kind (text_of w) (f w))
      → AreReadBack (λ bytes ws. HasBlocks kind bytes (map f ws)) text_of IsGood kind.others
  seen_are_read_back text_of IsGood words written =
      let back = are_read_back seen text_of IsGood words (λ w good. let is = written w good in record { tree = is.tree; text_is = is.text_is; is_tree = is.is_tree; keeps = is.keeps; says = is.says }) in
      record {
        between = λ w before after first last good whole front end few. has_seen (back.between w before after first last good whole (seen_has front) (seen_has end) few);
        in_parts = λ parts each few. has_seen (back.in_parts parts each few);
      }
