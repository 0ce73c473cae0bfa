-- What the proofs here take from std, from the crates below and from this crate's definitions, each name once.
pub use Rattle.std.proofs.Common.{Bool, Global, IfNone, IfSome, IsSome, List, MatchOption, None, Option, Some, Vec, [], ap, ap₂, arith, cond, drop, eq-eqb, eqb-true, false, get_or, get_or-set_other, get_or-set_same, inl, inr, length, min, nat_eq, nat_lt, refl, rules, set, subst, suc, sym, take, true, zero, ℕ, ◌&&◌, ◌++◌, ◌+◌, ◌-◌, ◌<◌, ◌||◌, ◌∙◌, ◌∷◌, ◌≡◌, ◌≢◌, ◌≤◌, ◌⊎◌}
pub use Rattle.std.proofs.Math.Seq.{take-append_seam, take-length}
pub use Rattle.std.proofs.lemmas.Bool.{and_parts, cases_Bool, cases_lt, cond_both, false_from_ne_true, ltb-false, ltb-true, or_cases, or_left, or_parts, or_right}
pub use Rattle.std.proofs.lemmas.Bool.Decides.{eqb_tells, nat_tests}
pub use Rattle.std.proofs.lemmas.List.{append-nil, append_assoc, get_or-take, get_or_append_left, get_or_past, get_or_push, get_or_read, length-drop, length-set, length-take, length-take-le, length_push, same_from_push, take-append-le, take_all, take_more, with_items_is}
pub use Rattle.std.proofs.lemmas.List.Elements.{All-cons, All-push, All-tail, All-weaker}
pub use Rattle.std.proofs.lemmas.List.FromFn.{get_or-range_with_len, length-range_with_len}
pub use Rattle.std.proofs.lemmas.List.Quantifiers.{all_pairs_push}
pub use Rattle.std.proofs.lemmas.Option.{get_or_from_slice_get}
pub use Rattle.std.specs.List.{All, range_with_len}
pub use Rattle.std.specs.Option.{option_map}
pub use Rattle.std.specs.Vec.{with_items}
pub use Rattle.word_core.specs.Occurrence.{IsFirstPlace, OccursNowhere}
pub use Rattle.rule_index.specs.Automaton.{HasLetters, HasRoom, IsAdvanced, IsChained, IsChild, IsEnds, IsGrowing, IsGrown, IsInserted, IsLettered, IsLinked, IsLongest, IsMarked, IsMarkedAt, IsRelinked, IsSame, IsSpelled, IsStarts, IsThreaded, IsTree, IsWithin, Lists, ListsBelow, added_node, bucket_at, ends_with, first_of, grown, longest, marked, node_at, occurs, relinked, root, sooner, words_of}
unfoldable pub use Rattle.rule_index.specs.Automaton.{bucket_of, letter_bucket_of}
pub use Rattle.rule_index.specs.Cuts.{IsCounted, IsCut, IsKept, IsLinkedFrom, earlier}
pub use Rattle.rule_index.specs.Matches.{HasNoMatch, IsAscending, IsLeastMatch, begins_with, match_of, match_or, place_in}
pub use Rattle.rule_index.specs.Prefixes.{IsPrefixCount, has, is_prefix, same_word, word_at}
pub use Rattle.rule_index.specs.declared.tree.Node.{Node}
pub use Rattle.rule_index.specs.declared.tree.Tree.{Tree}
