-- A line is flawed in one way at most.
use Rattle.block_text.proofs.Prelude.{◌≡◌, List, [], ◌∷◌, ◌++◌, refl, sym, ap, ap₂, ◌∙◌, subst, length, All, take-append_seam, All-nil, All-take, All-contains, Contains-push, Flaw, Line, Kind, Keeps, TextBound, bounds, flaw_of, GoesOn, IsFlawed, misfit}
use Rattle.std.proofs.Common.{append_assoc}
use Rattle.block_text.specs.Texts.{passes}

-- the last of some
pub last_kept : {B : Type 0} (K : B → Type 0) (front : List B) (b : B) → All K (front ++ b ∷ []) → K b
last_kept K front b all = All-contains K (front ++ b ∷ []) b all (Contains-push front b)

-- the first ones of some
pub first_kept : {B : Type 0} (K : B → Type 0) (front back : List B) → All K (front ++ back) → All K front
first_kept K front back all = subst (All K) (take-append_seam front back) (All-take K (length front) (front ++ back) all)

-- up to one of some
pub up_to_kept : {B : Type 0} (K : B → Type 0) (all earlier later : List B) (b : B) → all ≡ earlier ++ b ∷ later → All K all → All K (earlier ++ b ∷ [])
up_to_kept K all earlier later b splits kept = first_kept K (earlier ++ b ∷ []) later (subst (All K) (splits ∙ sym (append_assoc earlier (b ∷ []) later)) kept)

-- two places in one list: they are the same, or one is before the other
data Places {B : Type 0} (a b : B) (front back : List B) : Type 0 where
  same : front ≡ back → a ≡ b → Places a b front back
  before : (more : List B) → back ≡ (front ++ a ∷ []) ++ more → Places a b front back
  behind : (more : List B) → front ≡ (back ++ b ∷ []) ++ more → Places a b front back

places_of : {B : Type 0} (front back later last : List B) (a b : B) → front ++ a ∷ later ≡ back ++ b ∷ last → Places a b front back
places_of [] [] later last a b is = same refl (cc)
places_of [] (c ∷ back) later last a b is = before back (let head : a ≡ c = cc in rw head refl)
places_of (c ∷ front) [] later last a b is = behind front (let head : c ≡ b = cc in rw head refl)
places_of (c ∷ front) (d ∷ back) later last a b is =
    let head : c ≡ d = cc in
    let rest : front ++ a ∷ later ≡ back ++ b ∷ last = cc in
    by_cases head (places_of front back later last a b rest)
  where
    by_cases : c ≡ d → Places a b front back → Places a b (c ∷ front) (d ∷ back)
    by_cases head (same fronts is_same) = same (ap₂ (λ x xs. x ∷ xs) head fronts) is_same
    by_cases head (before more is_front) = before more (ap₂ (λ x xs. x ∷ xs) (sym head) is_front)
    by_cases head (behind more is_back) = behind more (ap₂ (λ x xs. x ∷ xs) head is_back)

module _ {Value : Type 0} (kind : Kind Value) where
  -- within fewer bounds
  goes_on_less : (T S : List (TextBound kind.Bound)) (ls : List Line) → ((K : TextBound kind.Bound → Type 0) → All K S → All K T) → GoesOn kind S ls → GoesOn kind T ls
  goes_on_less T S ls fewer goes = record { more = goes.more; blocks = goes.blocks; are_blocks = goes.are_blocks; keeps = fewer (Keeps kind goes.blocks) goes.keeps }

  pub goes_on_within_none : (S : List (TextBound kind.Bound)) (ls : List Line) → GoesOn kind S ls → GoesOn kind [] ls
  goes_on_within_none S ls goes = goes_on_less [] S ls (λ K all. All-nil K) goes

  pub goes_on_up_to : (earlier later : List (TextBound kind.Bound)) (b : TextBound kind.Bound) (ls : List Line) → bounds kind ≡ earlier ++ b ∷ later → GoesOn kind (bounds kind) ls → GoesOn kind (earlier ++ b ∷ []) ls
  goes_on_up_to earlier later b ls splits goes = goes_on_less (earlier ++ b ∷ []) (bounds kind) ls (λ K all. up_to_kept K (bounds kind) earlier later b splits all) goes

  -- a line is flawed in one way
  pub one_flaw : (front : List Line) (line : Line) (f g : Flaw) → IsFlawed kind front line f → IsFlawed kind front line g → f ≡ g
  one_flaw front line f g (misfit f_is stops) (misfit g_is stops_too) = f_is ∙ sym g_is
  one_flaw front line f g (misfit f_is stops) (passes earlier later b splits g_is goes stops_b) = absurd (stops (goes_on_within_none earlier (front ++ line ∷ []) goes))
  one_flaw front line f g (passes earlier later a splits f_is goes stops_a) (misfit g_is stops) = absurd (stops (goes_on_within_none earlier (front ++ line ∷ []) goes))
  one_flaw front line f g (passes earlier later a splits f_is goes_a stops_a) (passes others last b others_split g_is goes_b stops_b) =
      by_places (places_of earlier others later last a b (sym splits ∙ others_split))
    where
      ls : List Line
      ls = front ++ line ∷ []

      by_places : Places a b earlier others → f ≡ g
      by_places (same fronts is_same) = f_is ∙ ap (flaw_of kind) is_same ∙ sym g_is
      by_places (before more is) = absurd (stops_a (goes_on_less (earlier ++ a ∷ []) others ls (λ K all. first_kept K (earlier ++ a ∷ []) more (subst (All K) is all)) goes_b))
      by_places (behind more is) = absurd (stops_b (goes_on_less (others ++ b ∷ []) earlier ls (λ K all. first_kept K (others ++ b ∷ []) more (subst (All K) is all)) goes_a))
