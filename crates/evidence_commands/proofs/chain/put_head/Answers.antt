use Rattle.evidence_commands.proofs.Prelude.{rules, ◌≡◌, ◌++◌, ◌∙◌, ℕ, List, OnOk, codes, decimal, ap, refl, subst, append_assoc, signed_decimal, four_put}
use Rattle.evidence_commands.proofs.chain.put_head.Goals as goal

grouped : (a claim b denominator d steps end : List ℕ) → (((a ++ claim) ++ (b ++ denominator)) ++ (d ++ steps)) ++ end ≡ a ++ (claim ++ (b ++ (denominator ++ (d ++ (steps ++ end)))))
grouped a claim b denominator d steps end = simp append_assoc refl

pub returns : goal.returns
returns c =
    let before : List ℕ = c.args.out.now.items in
    let certificate = c.args.certificate.now in
    let same : c.from.result ≡ certificate.claim = search rules in
    let claim : c.put_labelled.new.out.items ≡ before ++ (codes "explained claim " ++ decimal certificate.claim) = c.in_ok-put_labelled.ensures ∙ ap (λ (n : ℕ). before ++ (codes "explained claim " ++ decimal n)) same in
    let denominator : c.put_signed.new.out.items ≡ c.put_labelled.new.out.items ++ (codes " denominator " ++ signed_decimal certificate.denominator) = search rules in
    let steps : c.put_labelled-2.new.out.items ≡ c.put_signed.new.out.items ++ (codes " steps " ++ decimal c.args.steps) = search rules in
    let end : OnOk c.put.result (c.put.new.out.items ≡ c.put_labelled-2.new.out.items ++ codes "\n") = search rules in
    subst (λ (t : List ℕ). OnOk c.put.result (c.put.new.out.items ≡ before ++ t))
    (grouped (codes "explained claim ") (decimal certificate.claim) (codes " denominator ") (signed_decimal certificate.denominator) (codes " steps ") (decimal c.args.steps) (codes "\n"))
    (four_put c.put.result before (codes "explained claim " ++ decimal certificate.claim) (codes " denominator " ++ signed_decimal certificate.denominator) (codes " steps " ++ decimal c.args.steps) (codes "\n")
    c.put_labelled.new.out.items c.put_signed.new.out.items c.put_labelled-2.new.out.items c.put.new.out.items claim denominator steps end)
