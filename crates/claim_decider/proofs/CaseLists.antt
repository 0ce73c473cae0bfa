-- Lists of claims, of which one takes a step.
use Rattle.claim_decider.proofs.Prelude.{◌≡◌, ◌<◌, ℕ, zero, suc, ◌+◌, List, [], ◌∷◌, ◌++◌, length, map, take, drop, set, get_or, refl, sym, ap, subst, ◌∙◌, arith, All, AllZip, range_with_len, take_more, take_more_set, drop_more, drop-set-lt, AllZip-push, All-nil, All-cons, All-tail}

-- an item of a list whose rest is that of another
same_heads : {X : Type 0} (x y : X) (xs ys : List X) → x ∷ xs ≡ y ∷ ys → x ≡ y
same_heads x y xs ys e = cc

same_tails : {X : Type 0} (x y : X) (xs ys : List X) → x ∷ xs ≡ y ∷ ys → xs ≡ ys
same_tails x y xs ys e = cc

cons_drop : {X : Type 0} (xs olds : List X) (i : ℕ) (d : X) → i < length xs → length xs ≡ length olds → drop i xs ≡ drop i olds
    → get_or xs i d ∷ drop (i + 1) xs ≡ get_or olds i d ∷ drop (i + 1) olds
cons_drop xs olds i d below long same = sym (drop_more xs i d below) ∙ same ∙ drop_more olds i d (omega arith)

pub same_item : {X : Type 0} (xs olds : List X) (i : ℕ) (d : X) → i < length xs → length xs ≡ length olds → drop i xs ≡ drop i olds → get_or xs i d ≡ get_or olds i d
same_item xs olds i d below long same = same_heads (get_or xs i d) (get_or olds i d) (drop (i + 1) xs) (drop (i + 1) olds) (cons_drop xs olds i d below long same)

-- the other items stay
pub others_stay : {X : Type 0} (xs olds : List X) (i : ℕ) (d y : X) → i < length xs → length xs ≡ length olds → drop i xs ≡ drop i olds → drop (i + 1) (set xs i y) ≡ drop (i + 1) olds
others_stay xs olds i d y below long same =
    drop-set-lt (i + 1) xs i y (omega arith) ∙ same_tails (get_or xs i d) (get_or olds i d) (drop (i + 1) xs) (drop (i + 1) olds) (cons_drop xs olds i d below long same)

-- one more item has taken the step
pub one_more : {X : Type 0} (R : X → X → Type 0) (xs olds : List X) (i : ℕ) (old new : X) → i < length xs → length xs ≡ length olds → drop i xs ≡ drop i olds
    → AllZip R (take i olds) (take i xs) → get_or olds i old ≡ old → R old new → AllZip R (take (i + 1) olds) (take (i + 1) (set xs i new))
one_more R xs olds i old new below long same before is step =
    let olds_more : take (i + 1) olds ≡ take i olds ++ old ∷ [] = take_more olds i old (omega arith) ∙ ap (λ x. take i olds ++ x ∷ []) is in
    let news_more : take (i + 1) (set xs i new) ≡ take i xs ++ new ∷ [] = take_more_set xs i new below in
    subst (λ l. AllZip R l (take (i + 1) (set xs i new))) (sym olds_more)
    (subst (AllZip R (take i olds ++ old ∷ [])) (sym news_more) (AllZip-push R (take i olds) (take i xs) old new before step))

-- the next number
pub range_with_len-more : (a n : ℕ) → range_with_len a (n + 1) ≡ range_with_len a n ++ (a + n) ∷ []
range_with_len-more a zero = let same : a ≡ a + 0 = omega arith in ap (λ k. k ∷ []) same
range_with_len-more a (suc n) =
    let same : a + 1 + n ≡ a + suc n = omega arith in
    let more : suc n + 1 ≡ suc (n + 1) = omega arith in
    rw more (ap (λ l. a ∷ l) (range_with_len-more (a + 1) n ∙ ap (λ k. range_with_len (a + 1) n ++ k ∷ []) same))

-- what holds of pairs of items holds of a list and its last items
pub AllZip-mapped : {X Y Z : Type 0} (f : X → Z) (R : X → Y → Type 0) (S : Z → Y → Type 0) (P : X → Type 0) (xs : List X) (ys : List Y)
    → ((x : X) (y : Y) → P x → R x y → S (f x) y) → All P xs → AllZip R xs ys → AllZip S (map f xs) ys
AllZip-mapped f R S P [] [] each all zipped = tt
AllZip-mapped f R S P [] (y ∷ ys) each all zipped = absurd zipped
AllZip-mapped f R S P (x ∷ xs) [] each all zipped = absurd zipped
AllZip-mapped f R S P (x ∷ xs) (y ∷ ys) each all zipped = (each x y (all 0 x (omega arith)) zipped.0, AllZip-mapped f R S P xs ys each (All-tail P x xs all) zipped.1)

pub AllZip-kept : {X : Type 0} (P Q : X → Type 0) (R : X → X → Type 0) (xs ys : List X) → ((x y : X) → P x → R x y → Q y) → All P xs → AllZip R xs ys → All Q ys
AllZip-kept P Q R [] [] each all zipped = All-nil Q
AllZip-kept P Q R [] (y ∷ ys) each all zipped = absurd zipped
AllZip-kept P Q R (x ∷ xs) [] each all zipped = absurd zipped
AllZip-kept P Q R (x ∷ xs) (y ∷ ys) each all zipped = All-cons Q y ys (each x y (all 0 x (omega arith)) zipped.0) (AllZip-kept P Q R xs ys each (All-tail P x xs all) zipped.1)

pub AllZip-same_map : {X Y : Type 0} (f : X → Y) (R : X → X → Type 0) (xs ys : List X) → ((x y : X) → R x y → f y ≡ f x) → AllZip R xs ys → map f ys ≡ map f xs
AllZip-same_map f R [] [] each zipped = refl
AllZip-same_map f R [] (y ∷ ys) each zipped = absurd zipped
AllZip-same_map f R (x ∷ xs) [] each zipped = absurd zipped
AllZip-same_map f R (x ∷ xs) (y ∷ ys) each zipped = ap (λ z. z ∷ map f ys) (each x y zipped.0) ∙ ap (λ l. f x ∷ l) (AllZip-same_map f R xs ys each zipped.1)
