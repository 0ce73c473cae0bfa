-- What the proofs here take from std, from the crates below and from this crate's definitions, each name once.
pub use Rattle.std.proofs.Common.{Bool, List, OnOk, [], ap, arith, codes, false, get_or, if◌then◌else◌, inl, inr, length, refl, rules, suc, sym, take, true, zero, ℕ, ◌*◌, ◌++◌, ◌+◌, ◌-◌, ◌<◌, ◌∙◌, ◌∷◌, ◌≡◌, ◌≤◌, ◌⊎◌}
pub use Rattle.std.proofs.lemmas.Grind.{flat_map-append}
pub use Rattle.std.proofs.lemmas.List.{append-nil, append_assoc, length-take-le, take_more}
pub use Rattle.std.specs.Fmt.{signed_decimal}
pub use Rattle.std.specs.List.{flat_map, list_all, list_any, range_with_len}
pub use Rattle.traced_rows.specs.declared.evidence.Lemma.{Lemma}
pub use Rattle.traced_rows.specs.declared.evidence.LemmaRow.{LemmaRow}
pub use Rattle.nc_polynomial.specs.declared.poly.Poly.{Poly}
pub use Rattle.quiver.specs.Declarations.{Declaration}
pub use Rattle.block_text.proofs.Puts.{three_put}
pub use Rattle.report_text.specs.Bench.{assumption_of_step, maps_of_step, numbered}
pub use Rattle.report_text.specs.Heads.{head_line}
pub use Rattle.report_text.specs.Report.{block_text, heads_from, is_not_refuted, is_proved, is_refuted, is_undecided, report_from, status_of}
pub use Rattle.report_text.specs.declared.verdict.Verdict.{Verdict}
