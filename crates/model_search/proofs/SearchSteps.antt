-- What is known of claims after each block of a shape, and after each shape.
use Rattle.model_search.proofs.Prelude.{◌≡◌, ℕ, ◌+◌, ◌<◌, ◌≤◌, List, [], ◌∷◌, ◌++◌, length, get_or, Option, Some, None, IfSome, IfNone, IsNone, MatchOption, ◌⊎◌, inl, inr, refl, sym, ap, subst, ◌∙◌, arith, suc, set, not, false, true≢false, is_none, AllZip, list_any, length-set, get_or-set_same, get_or-set_other, list_any_at, cases_lt, slice_get_within, quiver_of, Shape, Problem, Found, IsShapeOf, candidate_count, Breaks, IsEarlier, IsLeastBreaking, NoneBreaks, NoneBreaksAt, IsFirstFrom, NoneBefore, IsSearchedTo, AreSearchedTo}

module _ (problem : Problem) (claim seed : ℕ) where
  abbrev None_in : ℕ → ℕ → Type 0
  None_in number k = NoneBreaksAt problem claim seed number k

  -- a block
  none_further : (number first to : ℕ) → NoneBefore problem claim seed number first → ((k : ℕ) → first ≤ k → k < to → None_in number k)
      → NoneBefore problem claim seed number to
  none_further number first to before block i j (inl earlier) = before i j (inl earlier)
  none_further number first to before block i j (inr same) = elim (cases_lt j first) [
    | inl h ↦ before i j (inr (same.0, h))
    | inr h ↦ subst (λ x. None_in x j) (sym same.0) (block j h same.1)
  ]

  least_here : (number first : ℕ) (f : Found) → NoneBefore problem claim seed number first → IsFirstFrom problem claim seed number first f
      → IsLeastBreaking problem claim seed f.shape f.candidate f.model
  least_here number first f before is = record {
    breaks = subst (λ n. Breaks problem claim seed n f.candidate f.model) (sym is.found.shape_is) is.found.breaks;
    least = λ i j m earlier. none_further number first f.candidate before is.earlier i j
        (subst (λ n. IsEarlier i j n f.candidate) is.found.shape_is earlier) m;
  }

  pub searched_further : (number first n : ℕ) (old new : Option Found) → IsNone old → IsSearchedTo problem claim seed number first old
      → MatchOption new ((k : ℕ) → first ≤ k → k < first + n → None_in number k) (IsFirstFrom problem claim seed number first)
      → IsSearchedTo problem claim seed number (first + n) new
  searched_further number first n (Some f) new free before is = absurd (cc)
  searched_further number first n None None free before is = none_further number first (first + n) before is
  searched_further number first n None (Some f) free before is = least_here number first f before is

  -- what is found stays
  pub searched_once : (number k i j : ℕ) (found : Option Found) → (IsNone found → ⊥) → IsSearchedTo problem claim seed number k found
      → IsSearchedTo problem claim seed i j found
  searched_once number k i j None there is = absurd (there refl)
  searched_once number k i j (Some f) there is = is

  -- all candidates of a shape
  pub searched_shape : (number count : ℕ) (found : Option Found)
      → ((s : Shape) → IsShapeOf problem number s → count ≡ candidate_count (quiver_of problem.parts.quiver) s)
      → IsSearchedTo problem claim seed number count found → IsSearchedTo problem claim seed (number + 1) 0 found
  searched_shape number count (Some f) exact is = is
  searched_shape number count None exact is = none
    where
      none : NoneBefore problem claim seed (number + 1) 0
      none i j (inr same) = absurd (omega (arith, same.1))
      none i j (inl earlier) = elim (cases_lt i number) [
        | inl h ↦ is i j (inl h)
        | inr h ↦ λ m b.
            let same : i ≡ number = omega (arith, h, earlier) in
            let there : IsShapeOf problem number b.shape = subst (λ n. IsShapeOf problem n b.shape) same b.numbered in
            is i j (inr (same, subst (λ n. j < n) (sym (exact b.shape there)) b.in_range)) m b
      ]

  -- after all shapes
  pub least_found : (number k : ℕ) (found : Option Found) → IsSearchedTo problem claim seed number k found
      → IfSome found (λ f. IsLeastBreaking problem claim seed f.shape f.candidate f.model)
  least_found number k None is = tt
  least_found number k (Some f) is = is

  pub none_breaks : (number : ℕ) (found : Option Found) → length problem.parts.shapes < number → IsSearchedTo problem claim seed number 0 found
      → IfNone found (NoneBreaks problem claim seed)
  none_breaks number (Some f) past is = tt
  none_breaks number None past is = none
    where
      none : NoneBreaks problem claim seed
      none i j m b =
          let inside = slice_get_within problem.parts.shapes b.numbered.before b.shape b.numbered.there in
          is i j (inl (omega (arith, b.numbered.numbered, inside, past))) m b

pub zip_by_places : (R : ℕ → Option Found → Type 0) (claims : List ℕ) (found : List (Option Found)) → length found ≡ length claims
    → ((place : ℕ) → place < length claims → R (get_or claims place 0) (get_or found place None)) → AllZip R claims found
zip_by_places R [] [] long each = tt
zip_by_places R [] (f ∷ found) long each = absurd (omega (arith, long))
zip_by_places R (c ∷ claims) [] long each = absurd (omega (arith, long))
zip_by_places R (c ∷ claims) (f ∷ found) long each =
    (each 0 (omega arith), zip_by_places R claims found (omega (arith, long)) (λ place within. each (suc place) (omega (arith, within))))

-- of lists of one item
pub only_one : (R : ℕ → Option Found → Type 0) (claim : ℕ) (found front : List (Option Found)) (one : Option Found) → AllZip R (claim ∷ []) found
    → found ≡ front ++ one ∷ [] → R claim one
only_one R claim found front one zipped splits = go front (subst (AllZip R (claim ∷ [])) splits zipped)
  where
    go : (front : List (Option Found)) → AllZip R (claim ∷ []) (front ++ one ∷ []) → R claim one
    go [] is = is.0
    go (x ∷ []) is = absurd is.1
    go (x ∷ y ∷ front) is = absurd is.1

-- where no claim is without a candidate, all shapes are searched
pub none_open : (found : List (Option Found)) → list_any is_none found ≡ false → (place : ℕ) → place < length found → IsNone (get_or found place None) → ⊥
none_open found none place within free =
    true≢false (sym (list_any_at is_none found place None within (ap not free)) ∙ none)

pub searched_whole : (problem : Problem) (seed number k i j : ℕ) (claims : List ℕ) (found : List (Option Found)) → list_any is_none found ≡ false
    → AreSearchedTo problem seed number k claims found → AreSearchedTo problem seed i j claims found
searched_whole problem seed number k i j claims found none is = record {
  one_each = is.one_each;
  each = λ place within. searched_once problem (get_or claims place 0) seed number k i j (get_or found place None)
      (none_open found none place (omega (arith, within, is.one_each))) (is.each place within);
}

-- claims that are noted one after the other
pub record AreNoted (problem : Problem) (seed number to : ℕ) (claims : List ℕ) (old found : List (Option Found)) (count : ℕ) : Type 0 where
  pub one_each : length found ≡ length claims
  pub passed : (place : ℕ) → place < count → IsSearchedTo problem (get_or claims place 0) seed number to (get_or found place None)
  pub others : (place : ℕ) → count ≤ place → get_or found place None ≡ get_or old place None

module _ (problem : Problem) (seed number to : ℕ) (claims : List ℕ) (old found : List (Option Found)) (count : ℕ) (is : AreNoted problem seed number to claims old found count) where
  pub noted_more : (new : List (Option Found)) (one : Option Found) → new ≡ set found count one → count < length claims
      → IsSearchedTo problem (get_or claims count 0) seed number to one → AreNoted problem seed number to claims old new (count + 1)
  noted_more new one made within searched = subst (λ os. AreNoted problem seed number to claims old os (count + 1)) (sym made) (record {
    one_each = length-set found count one ∙ is.one_each;
    passed = λ place below. go place below (cases_lt place count);
    others = λ place past. get_or-set_other found count place one None (λ same. absurd (omega (arith, past, same))) ∙ is.others place (omega (arith, past));
  })
    where
      go : (place : ℕ) → place < count + 1 → (place < count) ⊎ (count ≤ place)
          → IsSearchedTo problem (get_or claims place 0) seed number to (get_or (set found count one) place None)
      go place below (inl h) = subst (IsSearchedTo problem (get_or claims place 0) seed number to)
          (sym (get_or-set_other found count place one None (λ same. absurd (omega (arith, h, same))))) (is.passed place h)
      go place below (inr h) =
          let same : count ≡ place = omega (arith, below, h) in
          subst (λ p. IsSearchedTo problem (get_or claims p 0) seed number to (get_or (set found count one) p None)) same
          (subst (IsSearchedTo problem (get_or claims count 0) seed number to)
          (sym (get_or-set_same found count one None (omega (arith, within, is.one_each)))) searched)

  pub noted_same : (new : List (Option Found)) → new ≡ found → IsSearchedTo problem (get_or claims count 0) seed number to (get_or found count None)
      → AreNoted problem seed number to claims old new (count + 1)
  noted_same new made searched = subst (λ os. AreNoted problem seed number to claims old os (count + 1)) (sym made) (record {
    one_each = is.one_each;
    passed = λ place below. go place below (cases_lt place count);
    others = λ place past. is.others place (omega (arith, past));
  })
    where
      go : (place : ℕ) → place < count + 1 → (place < count) ⊎ (count ≤ place)
          → IsSearchedTo problem (get_or claims place 0) seed number to (get_or found place None)
      go place below (inl h) = is.passed place h
      go place below (inr h) =
          subst (λ p. IsSearchedTo problem (get_or claims p 0) seed number to (get_or found p None)) (omega (arith, below, h)) searched
