-- A command that is taken has its words, and its numbers are in range.
use Rattle.command_shape.proofs.Prelude.{◌≡◌, refl, false, List, [], Option, Some, None, find, option_map, is_some, option_map_or, Row, Text, Held, nothing_held, walk_from, settled, answers_to, finished, stop_after, whole_walk, Shape, subcommand_of, built, names_of, entered, label_of, rows_at, argument_words, check_fault, level_fault, entered_fault, settle_fault, walk_fault, defaults_fault, command_set, IsTaken, MatchesHave}
use Rattle.command_shape.proofs.Found.{found}
use Rattle.command_shape.proofs.Rows.{both_none}
use Rattle.command_shape.proofs.Members.{IsRead, all_read}

-- a command was entered, since one is required
wants_command : (rows : List Row) → check_fault (built command_set).top rows false ≡ [] → ⊥
unfolding command_set
wants_command rows e = absurd cc

entered_has : (rows : List Row) (stop : Option (Text × List Text)) → entered_fault (built command_set) stop ≡ []
    → check_fault (built command_set).top rows (is_some (entered (built command_set) stop)) ≡ [] → MatchesHave (entered (built command_set) stop)
entered_has rows None below check = wants_command rows check
entered_has rows (Some p) below check = go (find (λ s. answers_to p.0 (label_of s)) (built command_set).subs) refl below check
  where
    go : (o : Option Shape) → find (λ s. answers_to p.0 (label_of s)) (built command_set).subs ≡ o
        → option_map_or (λ s. level_fault s [] nothing_held p.1 false []) o [] ≡ []
        → check_fault (built command_set).top rows (is_some (option_map (λ s. rows_at s p.1) o)) ≡ [] → MatchesHave (option_map (λ s. rows_at s p.1) o)
    go None is b c = wants_command rows c
    go (Some s) is b c = (found IsRead (λ x. answers_to p.0 (label_of x)) (built command_set).subs s all_read is).0 p.1 b

pub taken_has : (words : List Text) → IsTaken words → MatchesHave (subcommand_of command_set words)
unfolding IsTaken
taken_has words taken =
    let s : Shape = (built command_set).top in
    let names = names_of (built command_set) in
    let given = argument_words command_set words in
    let end : Held = (whole_walk s.rules names nothing_held given).held in
    let stop = stop_after s.rules names given in
    let a = both_none (walk_fault s names (walk_from nothing_held) given) _ taken in
    let b = both_none (entered_fault (built command_set) stop) _ a.1 in
    let c = both_none (settle_fault s.rules s.args_override_self end) _ b.1 in
    let d = both_none (defaults_fault (settled s.rules end).rows s.rules) _ c.1 in
    entered_has (finished s.rules end) stop b.0 d.1
