use Rattle.command_shape.proofs.Prelude.{◌≡◌, true, map, string_bytes, ap, sym, ◌∙◌, App, app_of, is_simple, is_simple_and_free, fault_of, subcommand_of, [], inl, inr, HasKind, kind_of, Error, OutOfMemory, command_set, IsTaken}
use Rattle.command_shape.proofs.Simple.{set_is_simple, set_is_free}
use Rattle.command_shape.proofs.read.matches_of.Goals as goal

pub returns-in-Ok-try_get_matches_from-clause-taken : goal.returns-in-Ok-try_get_matches_from-clause-taken
unfolding IsTaken
returns-in-Ok-try_get_matches_from-clause-taken c =
    let same : app_of c.in-Ok.set ≡ command_set = c.in-Ok.ensures in
    let free : is_simple_and_free (app_of c.in-Ok.set) ≡ true = ap is_simple_and_free same ∙ set_is_free in
    ap (λ (a : App). fault_of a (map string_bytes c.args.words.now)) (sym same) ∙ c.in-Ok-try_get_matches_from.ensures.kinds free

pub returns-in-Ok-try_get_matches_from-clause-rows : goal.returns-in-Ok-try_get_matches_from-clause-rows
returns-in-Ok-try_get_matches_from-clause-rows c =
    let same : app_of c.in-Ok.set ≡ command_set = c.in-Ok.ensures in
    (c.in-Ok-try_get_matches_from.ensures.matches (ap is_simple same ∙ set_is_simple)).1
    ∙ ap (λ (a : App). subcommand_of a (map string_bytes c.args.words.now)) same

only_memory : (e : Error) → HasKind [] e → kind_of e ≡ OutOfMemory
only_memory e (inl h) = h
only_memory e (inr h) = absurd h

pub returns-in-Err-try_get_matches_from-clause-refused : goal.returns-in-Err-try_get_matches_from-clause-refused
unfolding IsTaken
returns-in-Err-try_get_matches_from-clause-refused c = λ refused taken.
    let same : app_of c.in-Ok.set ≡ command_set = c.in-Ok.ensures in
    let free : is_simple_and_free (app_of c.in-Ok.set) ≡ true = ap is_simple_and_free same ∙ set_is_free in
    let none : fault_of (app_of c.in-Ok.set) (map string_bytes c.args.words.now) ≡ [] = ap (λ (a : App). fault_of a (map string_bytes c.args.words.now)) same ∙ taken in
    let kinds = rw none at (c.in-Err-try_get_matches_from.ensures.kinds free) in
    let memory = c.refusal_of.ensures (only_memory c.in-Err-try_get_matches_from.error kinds) in
    cc
