-- What the scanner takes a character for: an item, and how many more characters belong to it.
use Rattle.std.specs.Prelude.{ℕ, ◌^◌, ◌==◌, ◌&&◌, ◌||◌, Bool, false, List, [], ◌∷◌, length, nat_lt, nat_le, Result, Ok, Err, pos, if◌then◌else◌}
use Rattle.std.specs.List.{take_while, prefix_len}
use Rattle.std.specs.Str.{encode_utf8_all}
use Rattle.unicode_ident.specs.Ident.{is_xid_continue}
use Rattle.statement_tokens.specs.Limits.{name_limit}
use Rattle.statement_tokens.specs.Language.{language_of}
use Rattle.statement_tokens.specs.Pieces.{starts_name, is_digit, is_inside_line}
use Rattle.statement_tokens.specs.Tokens.{value_from}
use Rattle.statement_tokens.specs.Types.{Token, TokenKind as kind, Language, First, Second, Class, Class as class, Item, Item as item, Fault, BadToken}
use Rattle.statement_tokens.specs.Types.{LiteralTooLarge}

-- whether the character continues a token or a comment
abbrev pub is_in : Class → ℕ → Bool
is_in class.Name = is_xid_continue
is_in class.Digit = is_digit
is_in class.Comment = is_inside_line

abbrev pub begins_with : ℕ → List ℕ → Bool
begins_with c [] = false
begins_with c (d ∷ ds) = d == c

abbrev pub name_of : List ℕ → ℕ → Result Item Fault
name_of text more = if nat_le (length text) name_limit then Ok (item.Token (kind.Name text) more) else Err BadToken

abbrev pub literal_of : ℕ → ℕ → Result Item Fault
literal_of value more = if nat_lt value (2 ^ 127) then Ok (item.Token (kind.Literal (pos value)) more) else Err LiteralTooLarge

-- only the second language has carets as tokens
abbrev pub caret_in : Language → Result Item Fault
caret_in First = Err BadToken
caret_in Second = Ok (item.Token kind.Caret 0)

-- a sign of the language
abbrev pub sign_in : Language → ℕ → Result Item Fault
sign_in language c =
    if c == 58 then Ok (item.Token kind.Colon 0)
    else (if c == 61 then Ok (item.Token kind.Equals 0)
    else (if c == 43 then Ok (item.Token kind.Plus 0)
    else (if c == 40 then Ok (item.Token kind.Open 0)
    else (if c == 41 then Ok (item.Token kind.Close 0)
    else (if c == 91 then Ok (item.Token kind.OpenSquare 0)
    else (if c == 93 then Ok (item.Token kind.CloseSquare 0)
    else (if c == 39 then Ok (item.Token kind.Quote 0)
    else (if c == 94 then caret_in language
    else Err BadToken))))))))

unfoldable pub item_in : Language → ℕ → List ℕ → Result Item Fault
item_in language c rest =
    if c == 10 then Ok item.NewLine
    else (if (c == 32) || (c == 9) || ((c == 13) && begins_with 10 rest) then Ok (item.Gap 0)
    else (if c == 35 then Ok (item.Gap (prefix_len is_inside_line rest))
    else (if starts_name c then name_of (encode_utf8_all (c ∷ take_while is_xid_continue rest)) (prefix_len is_xid_continue rest)
    else (if is_digit c then literal_of (value_from 0 (c ∷ take_while is_digit rest)) (prefix_len is_digit rest)
    else (if c == 45 then (if begins_with 62 rest then Ok (item.Token kind.Arrow 1) else Ok (item.Token kind.Minus 0))
    else sign_in language c)))))

-- after these tokens, which determine the language
abbrev pub item_at : List Token → ℕ → List ℕ → Result Item Fault
item_at before c rest = item_in (language_of before) c rest

-- how many more characters belong to it
abbrev pub more_of : Item → ℕ
more_of item.NewLine = 0
more_of (item.Gap n) = n
more_of (item.Token k n) = n
