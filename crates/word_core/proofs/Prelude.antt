-- What the proofs here take from std, from the crates below and from this crate's definitions, each name once.
pub use Rattle.std.proofs.Common.{Bool, IfOk, List, [], ap, arith, cond, drop, false, filter, inl, inr, length, nat_eq, refl, rules, subst, suc, sym, take, true, zero, ℕ, ◌++◌, ◌+◌, ◌-◌, ◌<◌, ◌↔◌, ◌∙◌, ◌∷◌, ◌≡◌, ◌≢◌, ◌≤◌, ◌⊎◌}
pub use Rattle.std.proofs.Math.Seq.{drop-append_seam, take-append_seam}
pub use Rattle.std.proofs.lemmas.Bool.Decides.{Decides-and, Decides-eqb, Decides-like, Decides-ltb, eqb_tells}
pub use Rattle.std.proofs.lemmas.List.{append-nil, length-append, length-drop, length-take-le, map-id, take-append-drop}
pub use Rattle.std.proofs.lemmas.List.Elements.{All-contains, All-filter, All-from_get_or, Contains-append_right, filter-append, filter_passes}
pub use Rattle.std.proofs.lemmas.List.FromFn.{get_or-range_with_len, length-range_with_len, map-range_with_len_more}
pub use Rattle.std.proofs.lemmas.Result.{IfOk-weaker}
pub use Rattle.std.proofs.lemmas.Slice.Eq.{slice_eq-Decides}
pub use Rattle.std.specs.Bool.{Decides}
pub use Rattle.std.specs.List.{All, Contains, range_with_len}
pub use Rattle.word_core.specs.Occurrence.{OccursAt}
pub use Rattle.word_core.specs.Overlap.{OverlapsAt, overlap_places, overlaps_at}
