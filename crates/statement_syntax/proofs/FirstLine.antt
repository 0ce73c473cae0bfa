-- The first line of a file of the second language: its tokens determine the language, and lines of the language follow it.
use Rattle.statement_syntax.proofs.Prelude.{◌≡◌, Bool, true, false, List, [], ◌∷◌, ◌++◌, refl, sym, ap, subst, ◌∙◌, append_assoc, ◌&&◌, if◌then◌else◌, pos, codes, bytes_eq-Decides, Decides-int_eq, Spot, Token, TokenKind, kind, Language, First, Second, statement, Eliminate, Assume, Pinv, is_language_word, is_two, is_end, language_of, sign_token, number_token, word_token, two_at, Stated, listed, sides, paired, second_language, stated_tokens, IsOf, NamesLanguage, StatedLine, AreLinesOf, IsFileOf, file_tokens, FileFits, file_tree, first_statements, behind_first}

-- the tokens of a file determine its language
abbrev chosen : Bool → Language
chosen b = if b then Second else First

abbrev IsLedOtherwise : List Token → Type 0
IsLedOtherwise [] = Unit {0}
IsLedOtherwise (t ∷ ts) = is_language_word t.kind ≡ false

led_otherwise : (ts : List Token) → IsLedOtherwise ts → language_of ts ≡ First
led_otherwise (t ∷ u ∷ v ∷ ts) other = ap (λ b. chosen (b && is_two u.kind && is_end v.kind)) other
led_otherwise ts other = refl

stated_first : (s : Stated) (ts : List Token) → IsOf First s → language_of (stated_tokens s ++ ts) ≡ First
stated_first (listed Eliminate at n ns) ts speaks = absurd speaks
stated_first (sides Assume at d equals e) ts speaks = led_otherwise (stated_tokens (sides Assume at d equals e) ++ ts) refl
stated_first (paired Pinv at m n) ts speaks = led_otherwise (stated_tokens (paired Pinv at m n) ++ ts) refl
stated_first (second_language at number) ts speaks = absurd speaks
stated_first s ts speaks = led_otherwise (stated_tokens s ++ ts) refl

named_second : (s : Stated) (end : Spot) (ts : List Token) → NamesLanguage s → language_of (stated_tokens s ++ sign_token kind.End end ∷ ts) ≡ Second
named_second (second_language at number) end ts names = refl
named_second s end ts names = absurd names

pub file_language : (language : Language) (lines : List StatedLine) → IsFileOf language lines → language_of (file_tokens lines) ≡ language
file_language First [] speaks = refl
file_language First (l ∷ ls) speaks = ap language_of (append_assoc (stated_tokens l.stated) (sign_token kind.End l.end ∷ []) (file_tokens ls)) ∙ stated_first l.stated (sign_token kind.End l.end ∷ file_tokens ls) speaks.0
file_language Second [] speaks = absurd speaks
file_language Second (l ∷ ls) speaks = ap language_of (append_assoc (stated_tokens l.stated) (sign_token kind.End l.end ∷ []) (file_tokens ls)) ∙ named_second l.stated l.end (file_tokens ls) speaks.0

-- such lines of a file after these
pub record Behind (language : Language) (lines ls : List StatedLine) (more : List Token) : Type 0 where
  pub others : List StatedLine
  pub speak : AreLinesOf language others
  pub are : more ≡ file_tokens others
  pub trees : file_tree ls ≡ file_tree lines ++ file_tree others
  pub fits : FileFits ls → FileFits others

-- a file's tokens are those of the line that names its language, if there is one, and of lines after it
pub record Divided (language : Language) (ts : List Token) : Type 0 where
  pub lines : List StatedLine
  pub fits : FileFits lines
  pub trees : first_statements language ts ≡ file_tree lines
  pub are : ts ≡ file_tokens lines ++ behind_first language ts
  -- a file is they and lines of the language
  pub joins : (ls : List StatedLine) → AreLinesOf language ls → IsFileOf language (lines ++ ls)
  pub parts : (ls : List StatedLine) → IsFileOf language ls → (more : List Token) → file_tokens lines ++ more ≡ file_tokens ls → Behind language lines ls more

abbrev language_line : Spot → Spot → Spot → StatedLine
language_line at number end = record { stated = second_language at number; end = end }

parts_by : (at number end : Spot) (s : Stated) (to : Spot) (ls : List StatedLine) (more : List Token) → NamesLanguage s → AreLinesOf Second ls
    → word_token (codes "language") at ∷ number_token (two_at number) ∷ sign_token kind.End end ∷ more ≡ file_tokens (record { stated = s; end = to } ∷ ls)
    → Behind Second (language_line at number end ∷ []) (record { stated = s; end = to } ∷ ls) more
parts_by at number end (second_language to_at to_number) to ls more names speak is =
    let word : word_token (codes "language") at ≡ word_token (codes "language") to_at = cc in
    let rest : more ≡ file_tokens ls = cc in
    record {
      others = ls;
      speak = speak;
      are = rest;
      trees = ap (λ (t : Token). record { at = t.at; kind = statement.Language } ∷ file_tree ls) (sym word);
      fits = λ fits. fits.1;
    }
parts_by at number end s to ls more names speak is = absurd names

parts_of : (at number end : Spot) (ls : List StatedLine) → IsFileOf Second ls → (more : List Token)
    → word_token (codes "language") at ∷ number_token (two_at number) ∷ sign_token kind.End end ∷ more ≡ file_tokens ls → Behind Second (language_line at number end ∷ []) ls more
parts_of at number end [] speaks more is = absurd speaks
parts_of at number end (l ∷ ls) speaks more is = parts_by at number end l.stated l.end ls more speaks.0 speaks.1 is

second_divided : (at number end : Spot) (ts : List Token) → Divided Second (word_token (codes "language") at ∷ number_token (two_at number) ∷ sign_token kind.End end ∷ ts)
second_divided at number end ts = record {
  lines = language_line at number end ∷ [];
  fits = (tt, tt);
  trees = refl;
  are = refl;
  joins = λ ls speak. (tt, speak);
  parts = parts_of at number end;
}

word_is : (k : TokenKind) → is_language_word k ≡ true → k ≡ kind.Name (codes "language")
word_is (kind.Name x) is = ap kind.Name ((bytes_eq-Decides x (codes "language")).0 is)
word_is k is = absurd cc

two_is : (k : TokenKind) → is_two k ≡ true → k ≡ kind.Literal (pos 2)
two_is (kind.Literal n) is = ap kind.Literal ((Decides-int_eq n (pos 2)).0 is)
two_is k is = absurd cc

end_is : (k : TokenKind) → is_end k ≡ true → k ≡ kind.End
end_is kind.End is = refl
end_is k is = absurd cc

all_are : (b c d : Bool) → chosen (b && c && d) ≡ Second → (b ≡ true) × (c ≡ true) × (d ≡ true)
all_are true true true is = (refl, refl, refl)
all_are b c d is = absurd cc

by_kinds : (t u v : Token) (ts : List Token) → t.kind ≡ kind.Name (codes "language") → u.kind ≡ kind.Literal (pos 2) → v.kind ≡ kind.End → Divided Second (t ∷ u ∷ v ∷ ts)
by_kinds t u v ts word two end =
    subst (λ k. Divided Second (sign_token k t.at ∷ u ∷ v ∷ ts)) (sym word) (subst (λ k. Divided Second (word_token (codes "language") t.at ∷ sign_token k u.at ∷ v ∷ ts)) (sym two)
    (subst (λ k. Divided Second (word_token (codes "language") t.at ∷ number_token (two_at u.at) ∷ sign_token k v.at ∷ ts)) (sym end) (second_divided t.at u.at v.at ts)))

pub divided : (language : Language) (ts : List Token) → language_of ts ≡ language → Divided language ts
divided First ts is = record {
  lines = [];
  fits = tt;
  trees = refl;
  are = refl;
  joins = λ ls speak. speak;
  parts = λ ls speak more is. record { others = ls; speak = speak; are = is; trees = refl; fits = λ fits. fits };
}
divided Second (t ∷ u ∷ v ∷ ts) is =
    let are = all_are (is_language_word t.kind) (is_two u.kind) (is_end v.kind) is in
    by_kinds t u v ts (word_is t.kind are.0) (two_is u.kind are.1) (end_is v.kind are.2)
divided Second ts is = absurd cc
