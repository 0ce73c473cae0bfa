-- What the proofs here take from std, from the crates below and from this crate's definitions, each name once.
pub use Rattle.std.proofs.Common.{Bool, Err, List, MatchResult, None, Ok, Option, Result, Some, [], ap, append_assoc, ap₂, arith, cond, drop, false, get_or, inl, inr, length, length-append, map, refl, rules, subst, suc, sym, take, true, true≢false, zero, ℕ, ◌&&◌, ◌++◌, ◌+◌, ◌<◌, ◌==◌, ◌^◌, ◌||◌, ◌∙◌, ◌∷◌, ◌≡◌, ◌≤◌, ◌⊎◌}
pub use Rattle.std.proofs.Math.Logic.{∥∥₁_map}
pub use Rattle.std.proofs.Math.Path.{transport}
pub use Rattle.std.proofs.Math.Utf8.{scalar, scalars}
pub use Rattle.std.proofs.lemmas.Bool.{le-leb, le-ltb, leb-true, lt-ltb, ltb-true}
pub use Rattle.std.proofs.lemmas.Bool.Decides.{Decides-int_eq}
pub use Rattle.std.proofs.lemmas.Grind.{common_steps, flat_map-append}
pub use Rattle.std.proofs.lemmas.List.{append-nil, map-append}
pub use Rattle.std.proofs.lemmas.Slice.Eq.{bytes_eq-Decides}
pub use Rattle.std.proofs.lemmas.Str.{IsUtf8-from_is_utf8, chars_from_encodes, encode_ascii, encodes-append, is_utf8-from_IsUtf8, scalars-chars}
pub use Rattle.std.specs.Fmt.{signed_decimal}
pub use Rattle.std.specs.List.{flat_map, prefix_len, take_while}
pub use Rattle.std.specs.Prelude.{bytes_eq, codes, decimal, if◌then◌else◌, nat_le, nat_lt, negsuc, pos, ℤ}
pub use Rattle.std.specs.Result.{IfErr, IsErrAnd}
pub use Rattle.std.specs.Str.{IsUtf8, chars, encode_utf8_all, is_utf8}
pub use Rattle.std.specs.Str.Lossy.{utf8_valid_len}
pub use Rattle.std.specs.Vec.Iter.{into_iter_items, into_iter_len}
pub use Rattle.unicode_ident.specs.Ident.{is_xid_continue}
pub use Rattle.lists.specs.Stop.{Explains}
pub use Rattle.statement_tokens.proofs.EachCharacter.{EachIs, EachIs-take_while, and_first, and_second}
pub use Rattle.statement_tokens.proofs.Literals.{Digits, decimal_digits, literal_back, plain_digit}
pub use Rattle.statement_tokens.proofs.Pieces.{front_none}
pub use Rattle.statement_tokens.proofs.Reading.{placed, tokens_of, unread, with_front}
unfoldable pub use Rattle.statement_tokens.proofs.Reading.{tokens_from}
pub use Rattle.statement_tokens.proofs.Rescan.{Ender, EndsBefore, arrow_back, caret_back, close_back, close_square_back, colon_back, equals_back, minus_back, name_back, one_token, open_back, open_square_back, plus_back, quote_back, stops_digits, stops_name}
pub use Rattle.statement_tokens.proofs.Scanning.{spot}
pub use Rattle.statement_tokens.proofs.TokenLaws.{are_read, each_text_has_tokens_or_fault, fronts, handed, leaves, leaves_unread, read_are, tokens_are_unique, tokens_have_no_fault, unread_is}
pub use Rattle.statement_tokens.proofs.Values.{chars_short}
pub use Rattle.statement_tokens.specs.Items.{begins_with, caret_in, item_at, literal_of, name_of, sign_in}
unfoldable pub use Rattle.statement_tokens.specs.Items.{item_in}
pub use Rattle.statement_tokens.specs.Language.{is_end, is_language_word, is_two, language_of}
pub use Rattle.statement_tokens.specs.Laws.{HasTokensOrFault}
pub use Rattle.statement_tokens.specs.Limits.{name_limit}
pub use Rattle.statement_tokens.specs.Pieces.{is_digit, starts_name}
pub use Rattle.statement_tokens.specs.Scanned.{Hands, HasWhole, Leaves, Tells, most_tokens}
pub use Rattle.statement_tokens.specs.Tokens.{AreTokens, IsFirstScanFault, below, end_of, right_of, value_from}
pub use Rattle.statement_tokens.specs.declared.fault.Fault.TheVariants.{NotUtf8}
pub use Rattle.statement_syntax.specs.Fault.{GoesOn, GoesOnWithin, IsFirstFault, IsMisfit, IsWantOfMemory, TellsFirstFault, TellsScan, expected, fault_at, no_token, not_utf8, too_deep}
pub use Rattle.statement_syntax.specs.Grammar.{AreLinesOf, Ending, Expr, ExprFits, Factors, FactorsFit, FileFits, IsFileOf, IsOf, Lead, Marked, MarkedFits, NamesLanguage, Prime, PrimeFits, Product, ProductFits, Sign, Stated, StatedFits, StatedLine, beside, bracket, by_degree, by_weight, ending_tokens, expr_tokens, factors, factors_tokens, file_tokens, first, identity, joined, lead_minus, lead_plus, lead_tokens, line_tokens, list_text, listed, literal_tokens, mapped, marked, marked_tokens, minus, modelled, name, name_token, names_tokens, no_sign, no_word, number_token, one, pair_text, paired, pairs_tokens, plain, plus, prime_tokens, product_tokens, projected, raised, second_language, self_word, sides, sides_text, sign_token, signed_token, stated_tokens, two_at, word_token, zero_alone, zero_at}
pub use Rattle.statement_syntax.specs.Laws.{EachTextIsRead}
pub use Rattle.statement_syntax.specs.Limits.{bracket_limit}
pub use Rattle.statement_syntax.specs.Lines.{Lined, colon_after, common_opening, ended, file_step, line_end, line_step, named, opened, opening_in, pairs_by, pairs_end, sides_step, start_reading, statement_by, weights_by}
pub use Rattle.statement_syntax.specs.Nodes.{sum_of, term_of}
pub use Rattle.statement_syntax.specs.Places.{ReadsBackAs, bare, bare_ending, bare_factors, bare_file, bare_lead, bare_line, bare_literal, bare_marked, bare_name, bare_names, bare_number, bare_pairs, bare_prime, bare_product, bare_sign, bare_stated, somewhere}
pub use Rattle.statement_syntax.specs.Stages.{AllRead, Goes, IsFault, IsFront, IsReadSoFar, IsRefusal, LeavesFault, Refused, StoppedAt, TextRead, begun, behind_first, first_statements, left}
pub use Rattle.statement_syntax.specs.Steps.{focus_step, token_step, whole_sum, ◌>>=◌}
unfoldable pub use Rattle.statement_syntax.specs.Steps.{run}
pub use Rattle.statement_syntax.specs.Texts.{HasText, IsStatements, IsTreeOf}
pub use Rattle.statement_syntax.specs.Tree.{expr_at, expr_terms, expr_tree, factors_at, file_tree, front_trees, is_minus, is_negative, is_self, last_tree, literal_or, marked_tree, prime_at, prime_tree, product_at, product_tree, sides_kind, stated_kind, stated_tree}
pub use Rattle.statement_syntax.specs.Types.{Adjoint, Assume, BadToken, Bracket, Eliminate, Expected, Factor, Fault, Fault as fault, First, Focus, Focus as focus, Head, Item, Item as item, Language, Level, Line, Line as line, ListWord, MapRest, MapRest as rest, Mark, Name, Number, Object, OpenProduct, Opening, Opening as opening, Pairs, Part, Part as part, Pinv, Placed, Power, Progress, Reading, Scanner, Second, SidesWord, Spot, Statement, StatementKind as statement, Stop, Sum, SyntaxFault, SyntaxFault as refusal, Term, Token, TokenKind, TokenKind as kind, TooDeep, out-Sum, out-Term, out-roll-Sum, out-roll-Term, stop}
pub use Rattle.statement_syntax.specs.Written.{closes, factor_kinds, factors_kinds, gap, kind_text, literal_kinds, mark_kinds, name_kinds, opens, pair_kinds, primary_kinds, self_kinds, sign_kinds, statement_kinds, sum_kinds, term_kinds, terms_kinds, text_from, tree_text}
pub use Rattle.statement_syntax.specs.declared.tree.Sum.{Row_of-Term, Sum', end_of-Term, items-the_row-Term, items_shown-the_row-Term-0, more_of-Term, outs-Sum'}
pub use Rattle.statement_syntax.specs.declared.tree.Term.{Row_of-Factor, Term', end_of-Factor, items-the_row-Factor, items_shown-the_row-Factor-1, more_of-Factor, outs-Term'}
