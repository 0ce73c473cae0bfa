use Rattle.statement_syntax.proofs.Prelude.{rules, ◌∙◌, ap, length, arith, TellsFirstFault, IsWantOfMemory, chars_short}
use Rattle.statement_syntax.proofs.Stopping.{want_alone}
use Rattle.statement_syntax.proofs.Streamed.{text_found, text_only, text_first}
use Rattle.statement_syntax.proofs.read.read_tree.Goals as goal

pub returns-in_err-text-clause-refused : goal.returns-in_err-text-clause-refused
returns-in_err-text-clause-refused c lines is =
    let want : IsWantOfMemory c.in_err-text.field-0.0 = want_alone c.args.bytes.now lines c.in_err-text.field-0.0 c.in_err-text.ensures is in
    search rules

pub returns-in_err-statements-clause-refused : goal.returns-in_err-statements-clause-refused
returns-in_err-statements-clause-refused c lines is =
    let first : TellsFirstFault c.args.bytes.now c.in_err-statements.field-0.0 =
    text_first c.args.bytes.now _ c.in_err-statements.field-0.0 c.in_ok-text.ensures.0 (c.deref.ensures.value ∙ c.in_ok-text.ensures.1) c.in_err-statements.ensures in
    let want : IsWantOfMemory c.in_err-statements.field-0.0 = want_alone c.args.bytes.now lines c.in_err-statements.field-0.0 first is in
    search rules

pub returns-in_err-statements-clause-first : goal.returns-in_err-statements-clause-first
returns-in_err-statements-clause-first c =
    let first : TellsFirstFault c.args.bytes.now c.in_err-statements.field-0.0 =
    text_first c.args.bytes.now _ c.in_err-statements.field-0.0 c.in_ok-text.ensures.0 (c.deref.ensures.value ∙ c.in_ok-text.ensures.1) c.in_err-statements.ensures in
    search rules

pub invariant_of-result : goal.invariant_of-result
invariant_of-result c =
    record { spelled = ∣ (c.args.bytes.now, text_found c.args.bytes.now _ c.in_ok-statements.statements c.in_ok-text.ensures.0 (c.deref.ensures.value ∙ c.in_ok-text.ensures.1) c.in_ok-statements.ensures) ∣₁ }

pub returns-clause-found : goal.returns-clause-found
returns-clause-found c =
    text_found c.args.bytes.now _ c.in_ok-statements.statements c.in_ok-text.ensures.0 (c.deref.ensures.value ∙ c.in_ok-text.ensures.1) c.in_ok-statements.ensures

pub returns-clause-only : goal.returns-clause-only
returns-clause-only c lines is =
    text_only c.args.bytes.now _ c.in_ok-statements.statements (c.deref.ensures.value ∙ c.in_ok-text.ensures.1) c.in_ok-statements.ensures lines is

pub statements-requires : goal.statements-requires
statements-requires c =
    omega (arith, ap length (c.deref.ensures.value ∙ c.in_ok-text.ensures.1), chars_short c.args.bytes.now c.in_ok-text.ensures.0, c.requires)
