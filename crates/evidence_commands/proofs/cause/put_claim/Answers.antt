use Rattle.evidence_commands.proofs.Prelude.{◌≡◌, ◌∙◌, ◌++◌, ℕ, List, OnOk, ap, codes, decimal, rules, signed_decimal, two_put}
use Rattle.evidence_commands.proofs.cause.put_claim.Goals as goal

pub returns : goal.returns
returns c =
    let before : List ℕ = c.args.out.now.items in
    let accepted = c.args.accepted.now in
    let number : c.from.result ≡ accepted.claim = search rules in
    let claim : c.put_labelled.new.out.items ≡ before ++ (codes "accepted claim " ++ decimal accepted.claim) =
    c.in_ok-put_labelled.ensures ∙ ap (λ (n : ℕ). before ++ (codes "accepted claim " ++ decimal n)) number in
    let denominator : OnOk c.put_signed.result (c.put_signed.new.out.items ≡ c.put_labelled.new.out.items ++ (codes " denominator " ++ signed_decimal accepted.denominator)) =
    search rules in
    two_put c.put_signed.result before (codes "accepted claim " ++ decimal accepted.claim) (codes " denominator " ++ signed_decimal accepted.denominator)
    c.put_labelled.new.out.items c.put_signed.new.out.items claim denominator
