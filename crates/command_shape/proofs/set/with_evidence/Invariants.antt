use Rattle.command_shape.proofs.Prelude.{◌≡◌, IfOk, false, take, App, app_of, fields_of, with_evidence, fold}
use Rattle.command_shape.proofs.set.with_evidence.Given as goal

-- the commands so far are below it
abbrev pub invariant-loop-other : goal.invariant-loop-other
invariant-loop-other l = record {
  app : (a : App) → IfOk l.initial.set (λ c. app_of c ≡ a) → IfOk l.set (λ c. app_of c ≡ fold with_evidence a (take l.other-index l.below));
  local : IfOk l.set (λ c. (fields_of c).has_globals ≡ false);
}
