use Rattle.block_text.proofs.Prelude.{◌≡◌, ◌-◌, length, arith, rules, sym, ap, ◌∙◌, word_cmp, is_greater}
use Rattle.block_text.proofs.PolynomialOrder.{greater_is, follows_last}
use Rattle.block_text.proofs.polynomial.may_follow.Goals as goal

pub returns-in-len1-up : goal.returns-in-len1-up
returns-in-len1-up c =
    let compared : c.cmp_degree.result ≡ word_cmp c.last-item.result.1 c.args.word.now = search rules in
    c.eq.ensures ∙ greater_is c.cmp_degree.result ∙ ap is_greater compared
    ∙ sym (follows_last c.args.terms.now (length c.args.terms.now - 1) c.last-item.result c.args.word.now (omega (arith, c.in-len1-up.len_at_least)) c.last-item.is)
