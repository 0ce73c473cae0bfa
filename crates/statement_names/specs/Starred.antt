-- Whether a file is starred: it has adjoints.
use Rattle.std.specs.Prelude.{Bool, true, false, ◌||◌, List}
use Rattle.std.specs.List.{list_any}
use Rattle.abbreviations.specs.Occurrences.{has_quote}
use Rattle.statement_names.specs.Types.{Statement, StatementKind, statement}

-- whether a quote or the word `self` occurs in a statement, abbreviations written out
abbrev pub is_starred_in : StatementKind → Bool
is_starred_in (statement.Maps names source target selfmade) = selfmade
is_starred_in (statement.Assume left right) = has_quote left || has_quote right
is_starred_in (statement.Claim left right) = has_quote left || has_quote right
is_starred_in (statement.Pinv a x) = true
is_starred_in (statement.Projection p) = true
is_starred_in kind = false

abbrev pub is_starred : List Statement → Bool
is_starred statements = list_any (λ s. is_starred_in s.kind) statements
