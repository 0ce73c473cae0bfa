-- The first entry whose word passes a test, and the first that occurs.
use Rattle.rule_index.proofs.Prelude.{◌≡◌, ℕ, suc, ◌<◌, ◌||◌, Bool, true, false, List, [], ◌∷◌, ◌++◌, length, get_or, Option, Some, None, IsSome, MatchOption, cond, refl, sym, subst, ap, ◌∙◌, arith, option_map, All, All-tail, begins_with, place_in, match_of, match_or, same_word, has, longest, ends_with, first_of, occurs, sooner}
use Rattle.rule_index.proofs.Suffixes.{ends-longest}

begins-push : (t w : List ℕ) (c : ℕ) → begins_with (t ++ c ∷ []) w ≡ (begins_with t w || same_word (t ++ c ∷ []) w)
begins-push t [] c = refl
begins-push [] (z ∷ []) c = refl
begins-push [] (z ∷ (x ∷ w)) c = refl
begins-push (y ∷ t) (z ∷ w) c = let rest = begins-push t w c in grind arith

pub occurs-push : (t w : List ℕ) (c : ℕ) → occurs (t ++ c ∷ []) w ≡ (occurs t w || ends_with (t ++ c ∷ []) w)
occurs-push [] w c = let here = begins-push [] w c in let same : begins_with [] w ≡ same_word [] w = nil w in grind arith
  where
    nil : (w : List ℕ) → begins_with [] w ≡ same_word [] w
    nil [] = refl
    nil (x ∷ w) = refl
occurs-push (y ∷ t) w c = let here = begins-push (y ∷ t) w c in let rest = occurs-push t w c in grind arith

-- tests that agree on the entries
pub same_first : (p q : List ℕ → Bool) (entries : List (List ℕ × ℕ)) → All (λ e. p e.0 ≡ q e.0) entries → first_of p entries ≡ first_of q entries
same_first p q [] h = refl
same_first p q (e ∷ entries) h =
    let here : p e.0 ≡ q e.0 = h 0 e (omega arith) in
    let rest = same_first p q entries (All-tail (λ (f : List ℕ × ℕ). p f.0 ≡ q f.0) e entries h) in
    rw here (ap (λ r. cond (q e.0) (Some 0) (option_map suc r)) rest)

-- either of two tests
sooner_suc : (r s : Option ℕ) → sooner (option_map suc r) (option_map suc s) ≡ option_map suc (sooner r s)
sooner_suc None s = refl
sooner_suc (Some x) None = refl
sooner_suc (Some x) (Some y) = ap Some (omega arith)

first_sooner : (p q : List ℕ → Bool) (entries : List (List ℕ × ℕ)) → sooner (first_of p entries) (first_of q entries) ≡ first_of (λ w. p w || q w) entries
first_sooner p q [] = refl
first_sooner p q (e ∷ entries) = go (p e.0) (q e.0) (first_of p entries) (first_of q entries) (first_of (λ w. p w || q w) entries) (first_sooner p q entries)
  where
    left : (r : Option ℕ) → sooner (Some 0) (option_map suc r) ≡ Some 0
    left None = refl
    left (Some x) = ap Some (omega arith)

    right : (r : Option ℕ) → sooner (option_map suc r) (Some 0) ≡ Some 0
    right None = refl
    right (Some x) = ap Some (omega arith)

    go : (b d : Bool) (r s t : Option ℕ) → sooner r s ≡ t
        → sooner (cond b (Some 0) (option_map suc r)) (cond d (Some 0) (option_map suc s)) ≡ cond (b || d) (Some 0) (option_map suc t)
    go true true r s t h = refl
    go true false r s t h = left s
    go false true r s t h = right r
    go false false r s t h = sooner_suc r s ∙ ap (option_map suc) h

-- one more letter: the first that occurs so far, or that ends here
pub first-more : (words : List (List ℕ)) (entries : List (List ℕ × ℕ)) (t : List ℕ) (c : ℕ) → All (λ e. has words e.0 ≡ true) entries
    → sooner (first_of (occurs t) entries) (first_of (ends_with (longest words (t ++ c ∷ []))) entries) ≡ first_of (occurs (t ++ c ∷ [])) entries
first-more words entries t c listed =
    let u = t ++ c ∷ [] in
    ap (sooner (first_of (occurs t) entries)) (same_first (ends_with (longest words u)) (ends_with u) entries (λ i e k. ends-longest words u (get_or entries i e).0 (listed i e k)))
    ∙ first_sooner (occurs t) (ends_with u) entries
    ∙ same_first (λ w. occurs t w || ends_with u w) (occurs u) entries (λ i e k. sym (occurs-push t (get_or entries i e).0 c))

abbrev none : Option ℕ
none = None

-- the first that occurs, in place of the first match
occurs-place : (t w : List ℕ) → (occurs t w ≡ false → place_in t w ≡ None) × (occurs t w ≡ true → IsSome (place_in t w))
occurs-place [] w = go (begins_with [] w)
  where
    go : (b : Bool) → (b ≡ false → cond b (Some 0) none ≡ none) × (b ≡ true → IsSome (cond b (Some 0) none))
    go true = (λ e. absurd (cc), λ e. refl)
    go false = (λ e. refl, λ e. absurd (cc))
occurs-place (y ∷ t) w = go (begins_with (y ∷ t) w) (occurs t w) (place_in t w) (occurs-place t w)
  where
    some : (r : Option ℕ) → IsSome r → IsSome (option_map suc r)
    some None h = h
    some (Some x) h = refl

    go : (b d : Bool) (r : Option ℕ) → (d ≡ false → r ≡ None) × (d ≡ true → IsSome r)
        → ((b || d) ≡ false → cond b (Some 0) (option_map suc r) ≡ None) × ((b || d) ≡ true → IsSome (cond b (Some 0) (option_map suc r)))
    go true d r h = (λ e. absurd (cc), λ e. refl)
    go false d r h = (λ e. ap (option_map suc) (h.0 e), λ e. some r (h.1 e))

abbrev pub entry_at : List (List ℕ × ℕ) → ℕ → List ℕ × ℕ
entry_at entries k = get_or entries k ([], 0)

abbrev pub IsFirstIn : List (List ℕ × ℕ) → List ℕ → ℕ → Type 0
IsFirstIn entries t k = (k < length entries) × (match_of entries t ≡ match_or (entry_at entries k).1 (place_in t (entry_at entries k).0) None)

pub match-from_first : (t : List ℕ) (entries : List (List ℕ × ℕ)) → MatchOption (first_of (occurs t) entries) (match_of entries t ≡ None) (IsFirstIn entries t)
match-from_first t [] = refl
match-from_first t (e ∷ entries) = go (occurs t e.0) (place_in t e.0) (first_of (occurs t) entries) refl (occurs-place t e.0) (match-from_first t entries)
  where
    go : (b : Bool) (r : Option ℕ) (f : Option ℕ) → r ≡ place_in t e.0 → (b ≡ false → r ≡ None) × (b ≡ true → IsSome r)
        → MatchOption f (match_of entries t ≡ None) (IsFirstIn entries t)
        → MatchOption (cond b (Some 0) (option_map suc f)) (match_or e.1 r (match_of entries t) ≡ None) (λ k. (k < length (e ∷ entries)) × (match_or e.1 r (match_of entries t) ≡ match_or (entry_at (e ∷ entries) k).1 (place_in t (entry_at (e ∷ entries) k).0) None))
    go true None f is h m = let k : false ≡ true = h.1 refl in absurd (cc)
    go true (Some p) f is h m = (omega arith, ap (λ r. match_or e.1 r None) is)
    go false (Some p) f is h m = let k : Some p ≡ None = h.0 refl in absurd (cc)
    go false None None is h m = m
    go false None (Some k) is h m = (omega (arith, m.0), m.1)

pub match-none : (t : List ℕ) (entries : List (List ℕ × ℕ)) → None ≡ first_of (occurs t) entries → None ≡ match_of entries t
match-none t entries e = sym (subst (λ f. MatchOption f (match_of entries t ≡ None) (IsFirstIn entries t)) (sym e) (match-from_first t entries))

pub match-some : (t : List ℕ) (entries : List (List ℕ × ℕ)) (k : ℕ) → Some k ≡ first_of (occurs t) entries → IsFirstIn entries t k
match-some t entries k e = subst (λ f. MatchOption f (match_of entries t ≡ None) (IsFirstIn entries t)) (sym e) (match-from_first t entries)
