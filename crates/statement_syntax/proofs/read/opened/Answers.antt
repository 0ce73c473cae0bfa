use Rattle.statement_syntax.proofs.Prelude.{◌≡◌, ◌∷◌, [], length, sym, ap, ap₂, subst, ◌∙◌, rules, arith, append_assoc, Ok, into_iter_items, into_iter_len, language_of, run, file_step, first_statements, behind_first}
use Rattle.statement_syntax.proofs.Stopping.{goes_on}
use Rattle.statement_syntax.proofs.read.opened.Goals as goal

pub loop-token-init : goal.loop-token-init
unfolding run
loop-token-init c =
    let language : c.args.language ≡ language_of c.args.tokens.items = c.requires in
    let items : into_iter_items c.into_iter-tokens.result ≡ c.args.tokens.items = c.into_iter-tokens.ensures.rest in
    let same : c.into_iter-token-iterator.result ≡ c.first_statements.new.tokens = search rules in
    record {
      splits = ap into_iter_items same ∙ c.in-Ok.ensures.tokens ∙ ap₂ behind_first language items;
      left = ap into_iter_len same ∙ c.first_statements.ensures.left ∙ ap (λ i. length (into_iter_items i)) (sym same);
      ran = ap Ok (ap (λ s. record { statements = s; line = _ }) (sym (c.in-Ok.ensures.statements ∙ ap₂ first_statements language items)));
    }

pub loop-token-preserved : goal.loop-token-preserved
loop-token-preserved c =
    let at = c.loop-token in
    let language : c.args.language ≡ language_of c.args.tokens.items = c.requires in
    let steps : into_iter_items at.token-iterator ≡ c.in-Some.token ∷ into_iter_items c.next.new.self = c.in-Some.ensures.steps.0 in
    let stepped : file_step c.args.language at.progress c.in-Some.token ≡ Ok c.file_step.new.progress = search rules in
    record {
      splits = append_assoc at.yielded (c.in-Some.token ∷ []) _ ∙ rw (← steps) at.invariant.splits;
      left = let was = at.invariant.left in let gone = c.in-Some.ensures.steps.1 in let short = ap length steps in omega arith;
      ran = goes_on c.args.tokens.items at.yielded c.in-Some.token at.progress c.file_step.new.progress at.invariant.ran
          (subst (λ l. file_step l at.progress c.in-Some.token ≡ Ok c.file_step.new.progress) language stepped);
    }
