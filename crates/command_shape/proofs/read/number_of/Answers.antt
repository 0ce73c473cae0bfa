use Rattle.command_shape.proofs.Prelude.{rules, ◌≡◌, ◌∙◌, ap, sym, Some, option_map, ParsesUnsigned, ExplainsUnsignedError, HasUnsignedDigitsIfOk, digits_value, without_leading_plus, found_of, one_text-rows}
use Rattle.command_shape.proofs.Getters.{got_number, some_number}
use Rattle.command_shape.proofs.read.number_of.Goals as goal

pub unwrap-requires : goal.unwrap-requires
unwrap-requires c =
    let t = c.requires.0 in
    let one = c.get_one.ensures.value t (one_text-rows (found_of c.args.matches.now) c.args.id.now ∙ c.requires.1) in
    some_number c.get_one.result (digits_value 10 (without_leading_plus t))
    (got_number _ (λ bs r. ParsesUnsigned 64 10 bs r × ExplainsUnsignedError 10 bs r × HasUnsignedDigitsIfOk bs r) _ _ t c.get_one.result one (λ u x g. g.0) c.requires.2)

pub returns : goal.returns
returns c =
    let t = c.requires.0 in
    let one = c.get_one.ensures.value t (one_text-rows (found_of c.args.matches.now) c.args.id.now ∙ c.requires.1) in
    let read = got_number _ (λ bs r. ParsesUnsigned 64 10 bs r × ExplainsUnsignedError 10 bs r × HasUnsignedDigitsIfOk bs r) _ _ t c.get_one.result one (λ u x g. g.0) c.requires.2 in
    let some : c.get_one.result ≡ Some c.unwrap.result = search rules in
    ap (option_map (λ text. digits_value 10 (without_leading_plus text))) c.requires.1 ∙ (sym read ∙ some)
