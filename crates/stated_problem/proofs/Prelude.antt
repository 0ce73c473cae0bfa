-- What the proofs here take from std, from the crates below and from this crate's definitions, each name once.
pub use Rattle.std.proofs.Common.{Err, List, None, Ok, Option, Result, Some, [], ap, arith, inl, inr, length, refl, rules, subst, sym, ℕ, ◌++◌, ◌∙◌, ◌∷◌, ◌≡◌, ◌≢◌, ◌≤◌, ◌⊎◌}
pub use Rattle.std.proofs.lemmas.List.{append_assoc}
pub use Rattle.std.specs.Str.{chars}
pub use Rattle.definitions.specs.Category.{PreadditiveLaws, Structure}
pub use Rattle.definitions.specs.Poly.{Term}
pub use Rattle.definitions.specs.Soundness.{IsSound}
pub use Rattle.lists.specs.declared.stop.Stop.{Stop}
pub use Rattle.representations.specs.Evidence.{IsEvidenceSound}
pub use Rattle.nc_polynomial.specs.Shape.{IsCanonical}
pub use Rattle.nc_polynomial.specs.declared.poly.Poly.{Poly}
pub use Rattle.cancel_rules.specs.Meaning.{IsCancellationSound}
pub use Rattle.command_shape.proofs.Stops.{ended_by, ends_weaker, stops_weaker}
pub use Rattle.command_shape.specs.Ending.{Ending, refused_statement}
pub use Rattle.command_shape.specs.Stop.{EndsAs, StopsBy}
pub use Rattle.command_shape.specs.Texts.{statement_fault}
pub use Rattle.statement_tokens.proofs.TokenLaws.{first_scan_faults_are_unique, tokens_are_unique, tokens_have_no_fault}
pub use Rattle.statement_tokens.specs.Fault.{code_of}
pub use Rattle.statement_tokens.specs.Language.{language_of}
pub use Rattle.statement_tokens.specs.declared.fault.Fault.{Fault}
pub use Rattle.statement_tokens.specs.declared.language.Language.{Language}
pub use Rattle.statement_tokens.specs.declared.place.Spot.{Spot}
pub use Rattle.statement_tokens.specs.declared.token.Token.{Token}
pub use Rattle.statement_syntax.proofs.EachText.{each_text_is_read}
pub use Rattle.statement_syntax.proofs.FileReads.{in_file, lines_run}
pub use Rattle.statement_syntax.proofs.FirstLine.{Behind, Divided, divided, file_language}
pub use Rattle.statement_syntax.proofs.Run.{Upto}
pub use Rattle.statement_syntax.proofs.Stopping.{is_only, no_first}
pub use Rattle.statement_syntax.specs.Fault.{GoesOn, GoesOnPast, GoesOnWithin, IsFirstFault, IsMisfit, TellsFirstFault, expected, no_token, not_utf8, too_deep}
pub use Rattle.statement_syntax.specs.Grammar.{FileFits, IsFileOf, StatedLine, file_tokens}
pub use Rattle.statement_syntax.specs.Lines.{file_step}
pub use Rattle.statement_syntax.specs.Stages.{AllRead, begun, first_statements, left}
pub use Rattle.statement_syntax.specs.Steps.{run}
pub use Rattle.statement_syntax.specs.Texts.{IsStatements, IsTreeOf}
pub use Rattle.statement_syntax.specs.Tree.{file_tree}
pub use Rattle.statement_syntax.specs.declared.tree.Statement.{Statement}
pub use Rattle.adjoint_rules.specs.Limits.{generator_limit}
pub use Rattle.adjoint_rules.specs.Parts.{units_in}
pub use Rattle.adjoint_rules.specs.Problem.{IsClosed, IsPosed, polynomials}
pub use Rattle.adjoint_rules.specs.Props.{props}
pub use Rattle.adjoint_rules.specs.declared.parts.Parts.{Parts}
pub use Rattle.adjoint_rules.specs.declared.problem.Problem.{Problem}
pub use Rattle.signature_typing.proofs.EachStatement.{each_statement_has_a_problem_or_a_fault}
pub use Rattle.signature_typing.proofs.Unique.{problem_is_unique}
pub use Rattle.signature_typing.specs.Fault.{IsMemory}
pub use Rattle.signature_typing.specs.Typing.{IsProblemOf, fault_of}
pub use Rattle.signature_typing.specs.Unique.{AreSame}
pub use Rattle.signature_typing.specs.declared.fault.TypeFault.{TypeFault}
pub use Rattle.stated_problem.specs.Stated.{IsStated}
pub use Rattle.stated_problem.specs.Statement.{IsRefusedStatement, OverStatement, faulty, no_problem, no_tree, stated, typing_text}
