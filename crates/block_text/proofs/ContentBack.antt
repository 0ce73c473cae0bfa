-- Texts of whole lines, and the lines of tokens that they are.
use Rattle.block_text.proofs.Prelude.{◌≡◌, ℕ, Bool, true, false, not, List, [], ◌∷◌, ◌++◌, refl, ap, ◌∙◌, subst, map, filter, IsUtf8, lines, map-append, filter-append, IsUtf8-nil, IsUtf8-append, tokens_of, is_skipped, Line, content, is_whole, IsLineText}
use Rattle.block_text.proofs.LinesBack.{line_is, lines_append}
use Rattle.block_text.proofs.TextsBack.{ascii}

-- neither blank nor a comment
abbrev stands : Line → Bool
stands line = not (is_skipped line)

pub content-append : (xs ys : List (List ℕ)) → content (xs ++ ys) ≡ content xs ++ content ys
content-append xs ys = ap (filter stands) (map-append tokens_of xs ys) ∙ filter-append stands (map tokens_of xs) (map tokens_of ys)

-- whole lines
pub whole_append : (xs ys : List ℕ) → is_whole xs ≡ true → is_whole ys ≡ true → is_whole (xs ++ ys) ≡ true
whole_append [] ys left right = right
whole_append (c ∷ []) [] left right = left
whole_append (c ∷ []) (d ∷ ds) left right = right
whole_append (c ∷ d ∷ cs) ys left right = whole_append (d ∷ cs) ys left right

pub whole_line : (text : List ℕ) → is_whole (text ++ 10 ∷ []) ≡ true
whole_line [] = refl
whole_line (c ∷ []) = refl
whole_line (c ∷ d ∷ cs) = whole_line (d ∷ cs)

-- The text is whole lines, and these are the ones among them that are neither blank nor comments.
pub record IsTextOf (text : List ℕ) (ls : List Line) : Type 0 where
  pub utf8 : IsUtf8 text
  pub whole : is_whole text ≡ true
  pub are : content (lines text) ≡ ls

pub no_text : IsTextOf [] []
no_text = record { utf8 = IsUtf8-nil; whole = refl; are = refl }

pub text-append : (xs ys : List ℕ) (ls ms : List Line) → IsTextOf xs ls → IsTextOf ys ms → IsTextOf (xs ++ ys) (ls ++ ms)
text-append xs ys ls ms left right = record {
  utf8 = IsUtf8-append xs ys left.utf8 right.utf8;
  whole = whole_append xs ys left.whole right.whole;
  are = rw (lines_append xs ys left.whole, content-append (lines xs) (lines ys), left.are, right.are) refl;
}

-- one line that is ended by LF
pub text_of_line : (text : List ℕ) → IsLineText text → IsTextOf (text ++ 10 ∷ []) (content (text ∷ []))
text_of_line text line = record {
  utf8 = IsUtf8-append text (10 ∷ []) line.utf8 (ascii (10 ∷ []) refl);
  whole = whole_line text;
  are = ap content (line_is text [] line.inside);
}

-- the same of a line that isn't skipped
pub text_of_tokens : (text : List ℕ) (line : Line) → IsLineText text → tokens_of text ≡ line → is_skipped line ≡ false → IsTextOf (text ++ 10 ∷ []) (line ∷ [])
text_of_tokens text line inside tokens known =
    let stays : content (text ∷ []) ≡ line ∷ [] = rw (tokens, known) refl in
    subst (IsTextOf (text ++ 10 ∷ [])) stays (text_of_line text inside)
