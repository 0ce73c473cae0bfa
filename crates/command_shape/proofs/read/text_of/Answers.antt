use Rattle.command_shape.proofs.Prelude.{◌≡◌, ◌∙◌, ap, sym, Some, List, ℕ, option_map, Bor, rows_of, found_of, first_of, first_value-rows}
use Rattle.command_shape.proofs.Getters.{some_text}
use Rattle.command_shape.proofs.read.text_of.Goals as goal

pub unwrap-text-requires : goal.unwrap-text-requires
unwrap-text-requires c =
    some_text c.get_str.result c.requires.0 (c.get_str.ensures ∙ first_value-rows (found_of c.args.matches.now) c.args.id.now ∙ c.requires.1)

pub returns : goal.returns
returns c =
    let read : option_map (λ (s : Bor (List ℕ)). s.now) c.get_str.result ≡ first_of c.args.id.now (rows_of (found_of c.args.matches.now)) =
    c.get_str.ensures ∙ first_value-rows (found_of c.args.matches.now) c.args.id.now in
    sym read ∙ ap (option_map (λ (s : Bor (List ℕ)). s.now)) c.unwrap-text.ensures
    ∙ ap Some (sym (c.from_string.ensures ∙ c.in_ok-from_str.ensures.ok))
