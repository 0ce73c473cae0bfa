use Rattle.command_shape.proofs.Prelude.{◌≡◌, ap, sym, subst, refl, map, string_bytes, Err, subcommand_of, command_set, MatchesGive, MatchesHave, Refusal, Words, Memory}
use Rattle.command_shape.proofs.Commands.{accepted}
use Rattle.command_shape.proofs.Entered.{taken_has}
use Rattle.command_shape.proofs.Unique.{one_call}
use Rattle.command_shape.proofs.Getters.{call_in_range}
use Rattle.command_shape.proofs.read.read_words.Goals as goal

memory_left : (r : Refusal) → (r ≡ Words → ⊥) → r ≡ Memory
memory_left Words h = absurd (h refl)
memory_left Memory h = refl

pub returns-in-Err-clause-accepted : goal.returns-in-Err-clause-accepted
returns-in-Err-clause-accepted c = λ call names.
    memory_left c.in-Err.refusal (λ is. c.in-Err.ensures.refused (ap (λ e. Err e) is) (accepted (map string_bytes c.args.words.now) call names).0)

pub command_of-requires : goal.command_of-requires
command_of-requires c = subst MatchesHave (sym c.in-Ok.ensures.rows) (taken_has (map string_bytes c.args.words.now) c.in-Ok.ensures.taken)

pub returns-in-Ok-command_of-clause-ranges : goal.returns-in-Ok-command_of-clause-ranges
returns-in-Ok-command_of-clause-ranges c =
    call_in_range (subcommand_of command_set (map string_bytes c.args.words.now)) c.in-Ok-command_of.call
    (taken_has (map string_bytes c.args.words.now) c.in-Ok.ensures.taken)
    (subst (λ o. MatchesGive o c.in-Ok-command_of.call) c.in-Ok.ensures.rows c.in-Ok-command_of.ensures)

pub returns-in-Ok-command_of-clause-accepted : goal.returns-in-Ok-command_of-clause-accepted
returns-in-Ok-command_of-clause-accepted c = λ call names.
    one_call (subcommand_of command_set (map string_bytes c.args.words.now)) c.in-Ok-command_of.call call
    (subst (λ o. MatchesGive o c.in-Ok-command_of.call) c.in-Ok.ensures.rows c.in-Ok-command_of.ensures)
    (accepted (map string_bytes c.args.words.now) call names).1
