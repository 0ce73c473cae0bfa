-- What the proofs here take from std, from the crates below and from this crate's definitions, each name once.
pub use Rattle.std.proofs.Common.{Bool, Err, List, None, Ok, Option, Result, Some, [], ap, append-nil, append_assoc, ap₂, arith, cond, drop, eqb, false, get_or, inl, inr, length, length-append, length-drop, not, refl, subst, suc, sym, take, true, zero, ℕ, ◌%◌, ◌&&◌, ◌*◌, ◌++◌, ◌+◌, ◌-◌, ◌<◌, ◌==◌, ◌^◌, ◌||◌, ◌∙◌, ◌∷◌, ◌≡◌, ◌≤◌, ◌⊎◌}
pub use Rattle.std.proofs.lemmas.Bool.{and_parts, and_right, both_ways, eqb-true, false_from_ne_true, le-leb, leb-true, lt-leb, lt-ltb, ltb-true, ne_eqb, not-true, or_cases, or_parts}
pub use Rattle.std.proofs.lemmas.Fmt.{decimal_by_steps_wide}
pub use Rattle.std.proofs.lemmas.Grind.{common_steps}
pub use Rattle.std.proofs.lemmas.List.{drop_at, drop_more, nil_from_length, take-append-drop, take_at, take_rest}
pub use Rattle.std.proofs.lemmas.List.Folds.{length-prefix_len}
pub use Rattle.std.proofs.lemmas.List.Sums.{prefix_len-le-length}
pub use Rattle.std.proofs.lemmas.Result.{IfOk-at_ok, IfOk-from_err}
pub use Rattle.std.proofs.lemmas.Str.{chars_from_encodes, length-le-encodes}
pub use Rattle.std.specs.Char.{is_ascii_alphabetic, is_ascii_alphanumeric}
pub use Rattle.std.specs.List.{list_all, list_any, prefix_len, take_while}
pub use Rattle.std.specs.Prelude.{MatchOption, codes, decimal, if◌then◌else◌, nat_le, nat_lt, pos}
pub use Rattle.std.specs.Result.{IfOk}
pub use Rattle.std.specs.Str.{IsUtf8, chars, encode_utf8_all}
pub use Rattle.unicode_ident.proofs.IdentLemmas.{is_xid_continue-ascii, is_xid_start-ascii}
pub use Rattle.unicode_ident.specs.Ident.{is_xid_continue}
pub use Rattle.lists.specs.Stop.{Gives}
pub use Rattle.statement_tokens.specs.Items.{begins_with, caret_in, is_in, item_at, literal_of, more_of, name_of}
unfoldable pub use Rattle.statement_tokens.specs.Items.{item_in}
pub use Rattle.statement_tokens.specs.Language.{is_language_word, is_two, language_of}
pub use Rattle.statement_tokens.specs.Laws.{EachTextHasTokensOrFault, FirstScanFaultsAreUnique, HasTokensOrFault, TokensAreUnique, TokensHaveNoFault}
pub use Rattle.statement_tokens.specs.Limits.{name_limit}
pub use Rattle.statement_tokens.specs.Pieces.{BeginsNone, IsLongest, Piece, blank, comment, is_digit, is_inside_line, is_piece, is_some, line_feed, literal, name, piece_text, pieces_text, return_and_line_feed, sign, sign_text, starts_name, tab}
pub use Rattle.statement_tokens.specs.Scanned.{Hands, Leaves, Lessens, Tells, TellsBehind, most_tokens, one_if_some, with_front}
pub use Rattle.statement_tokens.specs.Tokens.{AreGood, AreTokens, Begins, IsFirstScanFault, behind, below, end_of, fault_of, past_behind, place_behind, right_of, sign_fault, tokens_at, tokens_with, value_from}
pub use Rattle.statement_tokens.specs.Types.{BadToken, Fault, First, Item, Item as item, Language, LiteralTooLarge, Placed, Scanner, Second, Spot, Stop, Token, TokenKind, TokenKind as kind, stop}
