-- What is written of a tree is in the language, and its tree is the same but for its places.
use Rattle.statement_syntax.proofs.Prelude.{◌≡◌, ℕ, zero, suc, ◌+◌, ◌≤◌, true, List, [], ◌∷◌, ◌++◌, inl, inr, length, Result, Ok, refl, sym, ap, ap₂, subst, ◌∙◌, append_assoc, arith, pos, codes, IsUtf8, chars, encode_utf8_all, scalars, map-append, encode_ascii, chars_from_encodes, scalars-chars, Spot, Token, kind, Language, First, Second, Statement, Placed, end_of, item_in, tokens_from, tokens_of, with_front, Stated, listed, second_language, stated_tokens, StatedLine, NamesLanguage, IsFileOf, file_tokens, FileFits, file_tree, HasText, bare_stated, bare_file, ReadsBackAs, tree_text, spot, read_are, are_read}
use Rattle.statement_tokens.proofs.Reading.{◌>>=◌}
use Rattle.statement_syntax.proofs.Moved.{kinds, file_moved}
use Rattle.statement_syntax.proofs.FirstLine.{file_language}
use Rattle.statement_syntax.proofs.Carets.{HasCarets, Allows, carets_stay, language_by}
use Rattle.statement_syntax.proofs.Spelled.{IsFileToken, AllKinds, tokens_are}
use Rattle.statement_syntax.proofs.BareTokens.{AreTokensOf, AllSpelled, file_are}
use Rattle.statement_syntax.proofs.StatedKinds.{kinds-append, stated-kinds}
use Rattle.statement_syntax.proofs.ReadBack.{ReadAs, characters, characters-bytes, characters-scalars, line_read}

-- the characters of all lines
abbrev file_characters : (language : Language) (ls : List StatedLine) → AllSpelled language ls → List ℕ
file_characters language [] all = []
file_characters language (l ∷ ls) all = characters language (kinds (stated_tokens (bare_stated l.stated))) all.0 true (10 ∷ file_characters language ls all.1)

file-bytes : (language : Language) (ls : List StatedLine) (all : AllSpelled language ls) → encode_utf8_all (file_characters language ls all) ≡ tree_text (file_tree ls)
file-bytes language [] all = refl
file-bytes language (l ∷ ls) all =
    let ks = kinds (stated_tokens (bare_stated l.stated)) in
    let more = file_characters language ls all.1 in
    characters-bytes language ks all.0 true (10 ∷ more)
    ∙ rw (← stated-kinds l.stated, encode_ascii 10 (omega arith), file-bytes language ls all.1) (simp append_assoc)

file-scalars : (language : Language) (ls : List StatedLine) (all : AllSpelled language ls) → scalars (file_characters language ls all) ≡ true
file-scalars language [] all = refl
file-scalars language (l ∷ ls) all =
    characters-scalars language (kinds (stated_tokens (bare_stated l.stated))) all.0 true (10 ∷ file_characters language ls all.1) (file-scalars language ls all.1)

-- the tokens
end-kinds : (line past : ℕ) → 1 ≤ past → kinds (end_of line past) ≡ kind.End ∷ []
end-kinds line zero some = absurd (omega (arith, some))
end-kinds line (suc past) some = refl

-- a statement has a token
some_tokens : (s : Stated) → 1 ≤ 0 + length (kinds (stated_tokens s))
some_tokens (listed w at n ns) = omega arith
some_tokens s = omega arith

-- after these tokens the characters are read as tokens of the statements' kinds
record FileRead (before : List Token) (ls : List StatedLine) (text : List ℕ) (line : ℕ) : Type 0 where
  pub tokens : List Token
  pub read : tokens_from before text 0 (spot line 1) 0 ≡ Ok tokens
  pub are : kinds tokens ≡ kinds (file_tokens (bare_file ls))

-- a line whose statement has been read
module _ (before : List Token) (s : Stated) (text rest : List ℕ) (line : ℕ) (r : ReadAs before text (kinds (stated_tokens (bare_stated s))) (10 ∷ rest) line 1 0) where
  -- it has a token
  some_read : 1 ≤ r.past'
  some_read = r.kept (some_tokens (bare_stated s))

  -- the tokens before the next line
  abbrev behind : List Token
  behind = (before ++ r.tokens) ++ end_of line r.past'

  line_and_more : (end : Spot) (ls : List StatedLine) → FileRead behind ls rest (line + 1) → FileRead before (record { stated = s; end = end } ∷ ls) text line
  unfolding tokens_from item_in
  line_and_more end ls more = record {
    tokens = r.tokens ++ (end_of line r.past' ++ more.tokens);
    read = r.reads ∙ ap (with_front r.tokens) (ap (λ (x : Result (List Token) Placed). x >>= λ ts. Ok (end_of line r.past' ++ ts)) more.read);
    are = simp (map-append, r.are, end-kinds line r.past' some_read, more.are, append_assoc);
  }

-- lines of a language, after tokens that determine it
lines_read : (language : Language) (ls : List StatedLine) (all : AllSpelled language ls) (before : List Token) (line : ℕ) → Allows language before → FileRead before ls (file_characters language ls all) line
unfolding tokens_from
lines_read language [] all before line allowed = record { tokens = []; read = refl; are = refl }
lines_read language (l ∷ ls) all before line allowed =
    let rest = file_characters language ls all.1 in
    let r = line_read language (kinds (stated_tokens (bare_stated l.stated))) all.0 true (10 ∷ rest) before line 1 0 allowed (inr (inl refl)) in
    let more = lines_read language ls all.1 (behind before l.stated _ rest line r) (line + 1) (λ has. carets_stay (before ++ r.tokens) (end_of line r.past') (carets_stay before r.tokens (allowed has))) in
    line_and_more before l.stated _ rest line r l.end ls more

-- the line that names the second language, and the lines after it
second_read : (s : Stated) (end : Spot) (ls : List StatedLine) (here : AreTokensOf Second (stated_tokens (bare_stated s))) (all : AllSpelled Second ls) → NamesLanguage s → (line : ℕ)
    → FileRead [] (record { stated = s; end = end } ∷ ls) (characters Second (kinds (stated_tokens (bare_stated s))) here true (10 ∷ file_characters Second ls all)) line
second_read (second_language word number) end ls here all named line =
    let s : Stated = second_language word number in
    let rest = file_characters Second ls all in
    let r = line_read First (kinds (stated_tokens (bare_stated s))) here true (10 ∷ rest) [] line 1 0 (λ has. has) (inr (inl refl)) in
    let before = behind [] s _ rest line r in
    let first : kinds before ≡ kind.Name (codes "language") ∷ kind.Literal (pos 2) ∷ kind.End ∷ [] =
    kinds-append r.tokens (end_of line r.past') ∙ ap₂ (λ x y. x ++ y) r.are (end-kinds line r.past' (some_read [] s _ rest line r)) in
    line_and_more [] s _ rest line r end ls (lines_read Second ls all before (line + 1) (λ has. subst HasCarets (sym (language_by before _ _ _ _ first)) tt))
second_read s end ls here all named line = absurd named

file_read : (language : Language) (ls : List StatedLine) (all : AllSpelled language ls) → IsFileOf language ls → (line : ℕ) → FileRead [] ls (file_characters language ls all) line
file_read First ls all speaks line = lines_read First ls all [] line (λ has. has)
file_read Second [] all speaks line = absurd speaks
file_read Second (l ∷ ls) all speaks line = second_read l.stated l.end ls all.0 all.1 speaks.0 line

-- the tree
written_back : (language : Language) (ls : List StatedLine) → AllSpelled language ls → IsFileOf language ls → FileFits ls → ReadsBackAs (tree_text (file_tree ls)) (file_tree ls)
written_back language ls all speaks fits =
    let bytes = tree_text (file_tree ls) in
    let text = file_characters language ls all in
    let utf8 : IsUtf8 bytes = (text, (file-scalars language ls all, file-bytes language ls all)) in
    let are : text ≡ chars bytes = chars_from_encodes text bytes utf8 (file-bytes language ls all) in
    let r = file_read language ls all speaks 1 in
    let m = file_moved ls r.tokens r.are in (
      file_tree m.moved,
      (
        m.moved,
        record {
          utf8 = utf8;
          tokens = are_read (chars bytes) _ (ap tokens_of (sym are) ∙ r.read ∙ ap (λ x. Ok x) m.are);
          language = language;
          speaks = m.speaks language speaks;
          fits = m.fits fits;
        },
        refl,
      ),
      (ls, m.moved, refl, refl, sym m.same),
    )

-- the tree of some text is written as a text that reads back
pub reads_back : (statements : List Statement) → HasText statements → ReadsBackAs (tree_text statements) statements
reads_back statements some_text =
    let bytes = some_text.0 in
    let ls = some_text.1.0 in
    let is = some_text.1.1 in
    let spelled = tokens_are [] (chars bytes) 0 (spot 1 1) 0 (file_tokens ls) (scalars-chars bytes is.utf8) (read_are (chars bytes) (file_tokens ls) is.tokens) in
    let all = file_are is.language ls (subst (λ language. AllKinds (IsFileToken language) (kinds (file_tokens ls))) (file_language is.language ls is.speaks) spelled) in
    subst (λ x. ReadsBackAs (tree_text x) x) (sym some_text.1.2) (written_back is.language ls all is.speaks is.fits)
