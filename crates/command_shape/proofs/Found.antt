-- what a search finds
use Rattle.command_shape.proofs.Prelude.{◌≡◌, Bool, true, false, List, [], ◌∷◌, Some, cond, subst, refl, find, AllByRecursion}

-- it has what each element has, and passes the test
pub found : {X : Type 0} (P : X → Type 0) (test : X → Bool) (xs : List X) (x : X) → AllByRecursion P xs → find test xs ≡ Some x → P x × (test x ≡ true)
found P test [] x h e = absurd cc
found P test (y ∷ xs) x h e = go (test y) refl (found P test xs x h.1) e
  where
    go : (b : Bool) → test y ≡ b → (find test xs ≡ Some x → P x × (test x ≡ true)) → cond b (Some y) (find test xs) ≡ Some x → P x × (test x ≡ true)
    go true hit below same =
        let is : y ≡ x = cc in
        subst (λ z. P z × (test z ≡ true)) is (h.0, hit)
    go false hit below same = below same
