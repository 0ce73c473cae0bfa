use Rattle.command_shape.proofs.Prelude.{◌∙◌, ap, sym, Some, codes, ⊎_elim, option_map, bytes_eq, found_of, one_text-rows}
use Rattle.command_shape.proofs.read.flag_of.Goals as goal

pub returns : goal.returns
returns c =
    let same = one_text-rows (found_of c.args.matches.now) c.args.id.now in
    ⊎_elim
    (λ yes. ap (option_map (λ text. bytes_eq text (codes "true"))) yes ∙ ap Some (sym (c.get_flag.ensures.value (same ∙ yes))))
    (λ no. ap (option_map (λ text. bytes_eq text (codes "true"))) no ∙ ap Some (sym (c.get_flag.ensures.other (same ∙ no))))
    c.requires
