use Rattle.certificate_text.proofs.Prelude.{◌≡◌, ◌++◌, ◌∷◌, [], length, map, sym, ap, ◌∙◌, rules, arith, into_iter_items, map-append, All-rest, IsPlain}
use Rattle.std.proofs.Common.{append_assoc}
use Rattle.traced_rows.specs.declared.evidence.Evidence.TheVariants as block
use Rattle.certificate_text.proofs.read.plain_certificates.Goals as goal

-- one more certificate is taken
pub loop-block-preserved : goal.loop-block-preserved
loop-block-preserved c =
    let at = c.loop-block in
    let certificate = c.in-Plain.certificate in
    let rest = into_iter_items c.next.new.self in
    let steps : into_iter_items at.block-iterator ≡ c.in-Some.block ∷ rest = c.in-Some.ensures.steps.0 in
    let is : c.in-Some.block ≡ block.Plain certificate = search rules in
    let pushed : c.push.new.self ≡ at.certificates ++ certificate ∷ [] = search rules in
    record {
      plain = All-rest IsPlain c.in-Some.block rest (into_iter_items at.block-iterator) steps at.invariant.plain;
      left = let was = at.invariant.left in let gone = c.in-Some.ensures.steps.1 in let short = ap length steps in omega arith;
      same =
          ap (λ cs. map block.Plain cs ++ rest) pushed ∙ ap (λ es. es ++ rest) (map-append block.Plain at.certificates (certificate ∷ []))
          ∙ append_assoc (map block.Plain at.certificates) (block.Plain certificate ∷ []) rest
          ∙ ap (λ es. map block.Plain at.certificates ++ es) (sym (steps ∙ ap (λ b. b ∷ rest) is)) ∙ at.invariant.same;
    }
