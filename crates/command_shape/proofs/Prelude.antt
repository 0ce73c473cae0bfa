-- What the proofs here take from std, from the crates below and from this crate's definitions, each name once.
unfoldable pub use Rattle.clap.proofs.OnLiterals.{clap_on_literals}
pub use Rattle.clap.proofs.ValueTestLemmas.{Accepts-accepts, accepts-Accepts}
pub use Rattle.clap.proofs.WalkLemmas.{first_value-rows, one_text-rows}
pub use Rattle.clap.specs.Facts.{parser_of_value, unwrap_or_range}
pub use Rattle.clap.specs.Faults.{action_fault, bundle_fault, bundle_step_fault, check_fault, entered_fault, flag_word_fault, given_default_fault, level_fault, long_fault, positional_fault, react_fault, repeat_fault, set_fault, settle_fault, step_fault, stray_fault, turn_fault, use_fault, values_fault, word_fault}
unfoldable pub use Rattle.clap.specs.Faults.{defaults_fault, flags_fault, walk_fault}
pub use Rattle.clap.specs.Kinds.{Kinds, check_kinds, or_else, range_kinds, value_kinds}
pub use Rattle.clap.specs.Lexer.{long_of, short_of}
pub use Rattle.clap.specs.Matches.{ReadsOne}
pub use Rattle.clap.specs.Simple.{App, Shape, app_of_fields, argument_words, built, built_leaf, entered, filled, inherited, label_of, marked_built, names_of, rows_at, shape_of, subcommand_of, with_index, with_leaf_noted}
pub use Rattle.clap.specs.Takes.{is_given}
pub use Rattle.clap.specs.ValueTests.{accepts}
pub use Rattle.clap.specs.Values.{Accepts, IsUnsignedIn, reading_of}
pub use Rattle.clap.specs.Walk.{Held, Outcome, Row, Rule, Step, Text, Waiting, Walk, action_of, after_flag, after_step, answers_to, arg_by_id, arg_by_index, arg_by_long, at_row, bundle, bundle_step, default_rows, done, finished, has_long, has_row, has_short, idle, is_empty, is_multiple, is_pending, long_met, long_or_other, more_values, most_values, next, next_position, nothing_held, one_of, option, option_word, plain, plain_word, positional, positional_held, pushed, reacted, reading_by, row_text, rows_after, settled, settled_rows, short_or_plain, stop_after, subcommand, subcommand_met, takes_several, takes_values, to_positional, trailing, used, used_by_id, value, values_or_missing, waits, walk, walk as whole_walk, walk_from, with_default, with_values, without, word_met}
unfoldable pub use Rattle.clap.specs.Walk.{bundle_met, walked}
pub use Rattle.clap.specs.Words.{HasKind, app_of, fault_of, first_of, found_of, is_simple, is_simple_and_free, kind_of, new_app, rows_of}
pub use Rattle.clap.specs.declared.builder.ArgAction.{ArgAction}
pub use Rattle.clap.specs.declared.builder.ArgAction.TheVariants.{Set, SetTrue}
pub use Rattle.clap.specs.declared.builder.command.Command.{Command}
pub use Rattle.clap.specs.declared.builder.command.Command.TheOpen.{Command-F}
pub use Rattle.clap.specs.declared.builder.command.Command.TheViews.{out-Command as fields_of}
pub use Rattle.clap.specs.declared.builder.range.ValueRange.{ValueRange}
pub use Rattle.clap.specs.declared.builder.value_parser.Reading.{Reading}
pub use Rattle.clap.specs.declared.builder.value_parser.Reading.TheVariants.{AsWritten}
pub use Rattle.clap.specs.declared.builder.value_parser.ValueParser.{ValueParser}
pub use Rattle.clap.specs.declared.error.Error.{Error}
pub use Rattle.clap.specs.declared.error.kind.ErrorKind.TheVariants.{OutOfMemory}
pub use Rattle.clap.specs.declared.parser.matches.ValueSource.TheVariants.{CommandLine, DefaultValue}
pub use Rattle.std.proofs.Common.{Bool, Err, IfErr, IfOk, List, None, Ok, OnOk, Option, Result, Some, [], ap, arith, codes, cond, decimal, drop, false, flat_map, fold, get_or, inl, inr, length, map, not, refl, rules, string_bytes, subst, suc, sym, take, true, zero, ℕ, ⊎_elim, ◌&&◌, ◌++◌, ◌+◌, ◌<◌, ◌==◌, ◌^◌, ◌||◌, ◌∙◌, ◌∷◌, ◌≡◌, ◌≢◌, ◌≤◌, ◌⊎◌}
pub use Rattle.std.proofs.lemmas.Bool.{ne_eqb}
pub use Rattle.std.proofs.lemmas.Fmt.{decimal_digit, decimal_is_IsNumeral}
pub use Rattle.std.proofs.lemmas.List.{append-nil, append_assoc, take_more}
pub use Rattle.std.proofs.lemmas.List.Elements.{All-cons, All-head, All-nil, All-tail}
pub use Rattle.std.proofs.lemmas.List.Sums.{fold_push}
pub use Rattle.std.proofs.lemmas.Simd.{map-map}
pub use Rattle.std.proofs.lemmas.Slice.Eq.{bytes_eq-Decides}
pub use Rattle.std.proofs.lemmas.Str.Parse.{digit_from_value}
pub use Rattle.std.specs.Borrow.{Bor}
pub use Rattle.std.specs.List.{All, AllByRecursion, list_any}
pub use Rattle.std.specs.Option.{IsSome, option_map_or}
pub use Rattle.std.specs.Prelude.{find, if◌then◌else◌, is_some, option_and_then, option_map, slice_get, unwrap_or, ⊤}
pub use Rattle.std.specs.Result.{IsErr, IsErrAnd}
pub use Rattle.std.specs.Str.{bytes_eq, chars}
pub use Rattle.std.specs.Str.Parse.{ExplainsUnsignedError, HasUnsignedDigitsIfOk, IsNumeral, ParsesUnsigned, digits_value, without_leading_plus}
pub use Rattle.lists.specs.Stop.{IsMemory}
pub use Rattle.lists.specs.declared.stop.Stop.{Stop}
pub use Rattle.in_order_parallel.specs.Limits.{worker_limit}
pub use Rattle.block_text.specs.Fault.{Fault}
pub use Rattle.command_shape.specs.Accepted.{AreOptions, Given, IsAllowed, IsFileWord, IsNotGiven, Span, flag, given_id, given_words, is_flag, number, number_or, option_of}
pub use Rattle.command_shape.specs.Blocks.{AcceptsBlock, Judges, JudgesFrom, OverEvidence, RefusesBlock, accepted, block_text, faulty, lines_on, read, refused, refused_text}
pub use Rattle.command_shape.specs.Calls.{GivesBench, GivesCall, GivesPair, GivesProve, GivesRefute, IsInRange, IsWithin, MatchesGive, Names, NamesBench, NamesPair, NamesProve, NamesRefute, bench_spans, flag_of, number_of, prove_spans, refute_spans}
pub use Rattle.command_shape.specs.CommandSet.{bare_command, bench_command, flag_option, name_of, number_option, pair_command, prove_command, refute_command, required_word, with_evidence}
unfoldable pub use Rattle.command_shape.specs.CommandSet.{IsTaken, command_set}
pub use Rattle.command_shape.specs.Ending.{Ending, line, refused_evidence}
pub use Rattle.command_shape.specs.Judged.{Tells}
pub use Rattle.command_shape.specs.Limits.{default_format_word, default_pairs, default_pairs_word, default_seed_word, default_steps, default_steps_word, default_workers_word, format_limit, pair_limit, seed_limit, size_limit, step_limit}
pub use Rattle.command_shape.specs.Present.{HasBench, HasCommand, HasFlag, HasNumber, HasPair, HasProve, HasRefute, HasText, IsEvidenceName, MatchesHave}
pub use Rattle.command_shape.specs.Stop.{EndsAs, StopsBy}
pub use Rattle.command_shape.specs.Texts.{evidence_fault}
pub use Rattle.command_shape.specs.Usage.{names_after}
pub use Rattle.command_shape.specs.declared.call.BenchCall.{BenchCall}
pub use Rattle.command_shape.specs.declared.call.Call.{Call}
pub use Rattle.command_shape.specs.declared.call.Call.TheVariants.{Bench, Evidence, Prove, Refute}
pub use Rattle.command_shape.specs.declared.call.PairCall.{PairCall}
pub use Rattle.command_shape.specs.declared.call.ProveCall.{ProveCall}
pub use Rattle.command_shape.specs.declared.call.RefuteCall.{RefuteCall}
pub use Rattle.command_shape.specs.declared.evidence.EvidenceCommand.{EvidenceCommand}
pub use Rattle.command_shape.specs.declared.evidence.EvidenceCommand.TheVariants.{Cancel, Check, Confirm, Explain, Model}
pub use Rattle.command_shape.specs.declared.read.Refusal.{Refusal}
pub use Rattle.command_shape.specs.declared.read.Refusal.TheVariants.{Memory, Words}
