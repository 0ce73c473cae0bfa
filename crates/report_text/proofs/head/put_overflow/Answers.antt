use Rattle.report_text.proofs.Prelude.{rules, ◌≡◌, ◌++◌, OnOk, codes, if◌then◌else◌, ap, ◌∙◌, signed_decimal, three_put}
use Rattle.report_text.proofs.head.put_overflow.Goals.{then-overflow, else-overflow}
use Rattle.report_text.proofs.head.put_overflow.Goals as goal

pub returns : goal.returns
returns c =
    let o = c.args.overflow.now in
    let left : c.put_integer.new.out.items ≡ c.args.out.now.items ++ signed_decimal o.left = search rules in
    let right : OnOk c.put_integer-2.result (c.put_integer-2.new.out.items ≡ c.put.new.out.items ++ signed_decimal o.right) = search rules in
    let sign : c.if-overflow.put.now ≡ (if o.product then codes " times " else codes " plus ") =
    elim c.if-overflow.branch [
      | then-overflow w ↦ rw w.if-overflow.true (ap (λ put. put.now) w.put-is)
      | else-overflow w ↦ rw w.if-overflow.false (ap (λ put. put.now) w.put-is)
    ]
    in
    three_put c.put_integer-2.result c.args.out.now.items (signed_decimal o.left) (if o.product then codes " times " else codes " plus ") (signed_decimal o.right) c.put_integer.new.out.items c.put.new.out.items
    c.put_integer-2.new.out.items left (c.in_ok-put.ensures ∙ ap (λ text. c.put_integer.new.out.items ++ text) sign) right
