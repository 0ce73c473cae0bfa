-- Rows of texts with their tokens or their first faults.
use Rattle.statement_tokens.proofs.Prelude.{[], ◌∷◌, Err, refl, arith, pos, codes, is_xid_start-ascii, kind, BadToken, AreTokens, IsFirstScanFault, item_in}
use Rattle.statement_tokens.proofs.Reading.{tokens_from}
use Rattle.statement_tokens.proofs.Scanning.{spot}
use Rattle.statement_tokens.proofs.TokenLaws.{are_read, tells}

-- no line, no token
empty : AreTokens [] []
unfolding tokens_from
empty = are_read [] [] refl

-- a line without a token has no end
blanks : AreTokens (codes " # 1 (\n\n") []
unfolding tokens_from item_in
blanks = are_read _ _ refl

-- leading zeros are digits too, and a comment ends no line
literal : AreTokens (codes "\n 007#") (record { at = spot 2 2; kind = kind.Literal (pos 7) } ∷ record { at = spot 2 5; kind = kind.End } ∷ [])
unfolding tokens_from item_in
literal = are_read _ _ (rw (is_xid_start-ascii 48 (omega arith)) refl)

-- `->` is one token, the longest that begins there; `- >` is none
arrow : AreTokens (codes "-->") (record { at = spot 1 1; kind = kind.Minus } ∷ record { at = spot 1 2; kind = kind.Arrow } ∷ record { at = spot 1 4; kind = kind.End } ∷ [])
unfolding tokens_from item_in
arrow = are_read _ _ (rw (is_xid_start-ascii 45 (omega arith), is_xid_start-ascii 45 (omega arith)) refl)

greater : IsFirstScanFault (codes "- >") BadToken (spot 1 3)
unfolding tokens_from item_in
greater = tells _ (Err _) (rw (is_xid_start-ascii 45 (omega arith), is_xid_start-ascii 62 (omega arith)) refl)

-- a return is read before the end of a line alone
returns : AreTokens (codes "(\r\n)") (record { at = spot 1 1; kind = kind.Open } ∷ record { at = spot 1 2; kind = kind.End } ∷ record { at = spot 2 1; kind = kind.Close } ∷ record { at = spot 2 2; kind = kind.End } ∷ [])
unfolding tokens_from item_in
returns = are_read _ _ (rw (is_xid_start-ascii 40 (omega arith), is_xid_start-ascii 41 (omega arith)) refl)

lone_return : IsFirstScanFault (codes "(\r)") BadToken (spot 1 2)
unfolding tokens_from item_in
lone_return = tells _ (Err _) (rw (is_xid_start-ascii 40 (omega arith), is_xid_start-ascii 13 (omega arith)) refl)

-- a caret is no token where no first line names the second language
caret : IsFirstScanFault (codes "#^\n1^1") BadToken (spot 2 2)
unfolding tokens_from item_in
caret = tells _ (Err _) (rw (is_xid_start-ascii 49 (omega arith), is_xid_start-ascii 94 (omega arith)) refl)
