use Rattle.evidence_commands.proofs.Prelude.{rules, ◌≡◌, ◌++◌, ℕ, List, OnOk, codes, decimal, refl, subst, append_assoc, four_put, kind_text}
use Rattle.evidence_commands.proofs.confirm.put_ambiguity.Goals as goal

grouped : (kind blank i j place : List ℕ) → ((kind ++ (blank ++ i)) ++ (blank ++ j)) ++ (blank ++ place) ≡ kind ++ (blank ++ (i ++ (blank ++ (j ++ (blank ++ place)))))
grouped kind blank i j place = simp append_assoc refl

pub returns : goal.returns
returns c =
    let before : List ℕ = c.args.out.now.items in
    let a = c.args.which.now in
    let blank : List ℕ = codes " " in
    let kind : c.put_kind.new.out.items ≡ before ++ kind_text a.kind = search rules in
    let first : c.put_labelled.new.out.items ≡ c.put_kind.new.out.items ++ (blank ++ decimal a.i) = search rules in
    let second : c.put_labelled-2.new.out.items ≡ c.put_labelled.new.out.items ++ (blank ++ decimal a.j) = search rules in
    let place : OnOk c.put_labelled-3.result (c.put_labelled-3.new.out.items ≡ c.put_labelled-2.new.out.items ++ (blank ++ decimal a.place)) = search rules in
    subst (λ (t : List ℕ). OnOk c.put_labelled-3.result (c.put_labelled-3.new.out.items ≡ before ++ t)) (grouped (kind_text a.kind) blank (decimal a.i) (decimal a.j) (decimal a.place))
    (four_put c.put_labelled-3.result before (kind_text a.kind) (blank ++ decimal a.i) (blank ++ decimal a.j) (blank ++ decimal a.place)
    c.put_kind.new.out.items c.put_labelled.new.out.items c.put_labelled-2.new.out.items c.put_labelled-3.new.out.items kind first second place)
