-- What the proofs here take from std, from the crates below and from this crate's definitions, each name once.
pub use Rattle.std.proofs.Common.{Bool, Err, List, MatchResult, None, Option, Some, [], ap, ap₂, arith, count_by, drop, false, get_or, if◌then◌else◌, inl, inr, is_some, length, map, nat_eq, nat_le, nat_lt, refl, replicate, rules, set, subst, suc, sum_by, sym, take, true, zero, ℕ, ◌*◌, ◌++◌, ◌<◌, ◌||◌, ◌∙◌, ◌∷◌, ◌≡◌, ◌≢◌, ◌≤◌, ◌⊎◌}
pub use Rattle.std.proofs.Math.Seq.{drop-cons}
pub use Rattle.std.proofs.lemmas.Bool.Decides.{eqb_tells, leb_tells, nat_tests}
pub use Rattle.std.proofs.lemmas.Grind.{get_or-set_at}
pub use Rattle.std.proofs.lemmas.List.{get_or-set_other, length-append, length-replicate, length-set, take-append-drop, take_more}
pub use Rattle.std.proofs.lemmas.List.Folds.{find-append, list_any-append}
pub use Rattle.std.specs.List.{find}
pub use Rattle.std.specs.Option.{option_map, option_or}
pub use Rattle.word_core.specs.declared.letter.Letter.{Letter}
pub use Rattle.word_orders.specs.Faults.{Explains, HasNoFault, IsFirstFault, block_fault, entry_fault, letter_fault, weight_fault}
pub use Rattle.word_orders.specs.Limits.{weight_limit}
pub use Rattle.word_orders.specs.Lists.{is_listed, listed_weight, weight_of}
pub use Rattle.word_orders.specs.Measured.{block_cmp, weight_cmp}
pub use Rattle.word_orders.specs.Specified.{asked_cmp}
pub use Rattle.word_orders.specs.Tables.{fault_in, fault_in_block, is_in, weight_in}
pub use Rattle.word_orders.specs.declared.fault.OrderFault.{OrderFault}
pub use Rattle.word_orders.specs.declared.fault.OrderFault.TheVariants.{BadWeight, Memory, NoSuchLetter, RepeatedLetter}
