use Rattle.evidence_commands.proofs.Prelude.{rules, ◌≡◌, ◌++◌, ◌∙◌, ℕ, List, OnOk, codes, decimal, ap, refl, subst, append_assoc, signed_decimal, four_put, operation_text}
use Rattle.evidence_commands.proofs.cause.put_overflow.Goals as goal

grouped : (place number blank left operation right : List ℕ)
    → (((place ++ number) ++ (blank ++ left)) ++ operation) ++ right ≡ place ++ (number ++ (blank ++ (left ++ (operation ++ right))))
grouped place number blank left operation right = simp append_assoc refl

pub returns : goal.returns
returns c =
    let before : List ℕ = c.args.out.now.items in
    let place : List ℕ = c.args.place.now in
    let overflow = c.args.overflow.now in
    let same : c.from.result ≡ c.args.number = search rules in
    let number : c.put_labelled.new.out.items ≡ before ++ (place ++ decimal c.args.number) = c.in_ok-put_labelled.ensures ∙ ap (λ (n : ℕ). before ++ (place ++ decimal n)) same in
    let left : c.put_signed.new.out.items ≡ c.put_labelled.new.out.items ++ (codes " " ++ signed_decimal overflow.left) = search rules in
    let operation : c.put_operation.new.out.items ≡ c.put_signed.new.out.items ++ operation_text overflow.product = search rules in
    let right : OnOk c.put_integer.result (c.put_integer.new.out.items ≡ c.put_operation.new.out.items ++ signed_decimal overflow.right) = search rules in
    subst (λ (t : List ℕ). OnOk c.put_integer.result (c.put_integer.new.out.items ≡ before ++ t))
    (grouped place (decimal c.args.number) (codes " ") (signed_decimal overflow.left) (operation_text overflow.product) (signed_decimal overflow.right))
    (four_put c.put_integer.result before (place ++ decimal c.args.number) (codes " " ++ signed_decimal overflow.left) (operation_text overflow.product) (signed_decimal overflow.right)
    c.put_labelled.new.out.items c.put_signed.new.out.items c.put_operation.new.out.items c.put_integer.new.out.items number left operation right)
