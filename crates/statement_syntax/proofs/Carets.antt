-- Carets are tokens of the second language alone, which is determined by the tokens of a file's first line.
use Rattle.statement_syntax.proofs.Prelude.{◌≡◌, ◌&&◌, List, ◌∷◌, ◌++◌, refl, if◌then◌else◌, Token, TokenKind, Language, First, Second, is_language_word, is_two, is_end, language_of}
use Rattle.statement_syntax.proofs.Moved.{kinds}

-- a caret is a token of the language
abbrev pub HasCarets : Language → Type 0
HasCarets First = ⊥
HasCarets Second = Unit {0}

pub carets_second : (l : Language) → HasCarets l → l ≡ Second
carets_second First has = absurd has
carets_second Second has = refl

-- where a caret is a token of the language, it is one after these tokens
abbrev pub Allows : Language → List Token → Type 0
Allows language before = HasCarets language → HasCarets (language_of before)

-- it stays one after more tokens
pub carets_stay : (before more : List Token) → HasCarets (language_of before) → HasCarets (language_of (before ++ more))
carets_stay (a ∷ b ∷ c ∷ before) more has = has
carets_stay before more has = absurd has

-- the first three kinds determine the language
pub language_by : (ts : List Token) (a b c : TokenKind) (ks : List TokenKind) → kinds ts ≡ a ∷ b ∷ c ∷ ks → language_of ts ≡ (if is_language_word a && is_two b && is_end c then Second else First)
language_by (t ∷ u ∷ v ∷ ts) a b c ks given =
    let one : t.kind ≡ a = cc in
    let two : u.kind ≡ b = cc in
    let three : v.kind ≡ c = cc in
    rw (one, two, three) refl
language_by ts a b c ks given = absurd cc
