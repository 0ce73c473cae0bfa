-- The two statement languages, and that of a file, which is determined by its first line.
use Rattle.std.specs.Prelude.{Bool, true, false, ◌&&◌, List, ◌∷◌, pos, bytes_eq, codes, if◌then◌else◌}
use Rattle.std.specs.Ordering.{int_eq}
use Rattle.statement_tokens.specs.Types.{Token, TokenKind, TokenKind as kind, Language, First, Second}

abbrev pub is_language_word : TokenKind → Bool
is_language_word (kind.Name text) = bytes_eq text (codes "language")
is_language_word k = false

abbrev pub is_two : TokenKind → Bool
is_two (kind.Literal value) = int_eq value (pos 2)
is_two k = false

abbrev pub is_end : TokenKind → Bool
is_end kind.End = true
is_end k = false

-- a file is of the second language where its first line is `language 2`, and of the first otherwise
abbrev pub language_of : List Token → Language
language_of (word ∷ number ∷ end ∷ more) = if is_language_word word.kind && is_two number.kind && is_end end.kind then Second else First
language_of tokens = First
