-- The sum over the terms of a typed polynomial, term by term.
use Rattle.representations.proofs.Prelude.{◌≡◌, ◌<◌, ℕ, ℤ, ◌+◌, true, List, [], ◌∷◌, ◌++◌, get_or, take, refl, Some, IsSome, slice_get, sym, ap, ap₂, subst, ◌∙◌, take_more, get_or_from_slice_get, slice_get_within, All-get_or, Structure, IsArrow, PreadditiveLaws, Quiver, is_path, IsTyped, signature_of, multiple, word_value, value_at, signature_from_path, word_value_is_arrow, IsCanonical, listed, IsRepresentation}
use Rattle.representations.proofs.TypedTerms.{words_are_paths}
use Rattle.representations.proofs.TermSums.{value_is_arrow, value_at-push}

-- the term at a place has a path of the signature
pub term_is_path : (q : Quiver) (u v : ℕ) (p : List (ℤ × List ℕ)) → IsCanonical p → IsTyped q u v p
    → (k : ℕ) (t : ℤ × List ℕ) → slice_get p k ≡ Some t → is_path q u v t.1 ≡ true
term_is_path q u v p canonical typed k t found =
    subst (λ r. is_path q u v r.1 ≡ true) (get_or_from_slice_get p k t t found)
    (All-get_or (λ r. is_path q u v r.1 ≡ true) p k t (slice_get_within p k t found) (words_are_paths q u v p canonical typed))

pub path_has_signature : (q : Quiver) (u v : ℕ) (w : List ℕ) → is_path q u v w ≡ true → IsSome (signature_of q w)
path_has_signature q u v w path = subst IsSome (sym (signature_from_path q u v w path)) refl

-- the object of an object of the quiver is one
pub object_is_object : {Object Arrow : Type 0} {s : Structure Object Arrow} {q : Quiver} {objects : List Object} {arrows : List Arrow} → IsRepresentation s q objects arrows
    → (u : ℕ) → u < q.objects → (x : Object) → ((o : Object) → x ≡ get_or objects u o) → s.is_object x
object_is_object {s = s} rep u in_u x x_is = subst s.is_object (sym (x_is x)) ((rep.represents x (s.zero x x)).objects u in_u)

module _ {Object Arrow : Type 0} {s : Structure Object Arrow} (laws : PreadditiveLaws s) {q : Quiver} {objects : List Object} {arrows : List Arrow}
    (rep : IsRepresentation s q objects arrows) (u v : ℕ) (in_u : u < q.objects) (in_v : v < q.objects) where
  -- the ends of the value of some terms, and of a path
  pub sum_arrow : (p : List (ℤ × List ℕ)) (x : Arrow) → ((o : Object) (a : Arrow) → x ≡ value_at s q (listed objects arrows o a) u v p)
      → (o : Object) → IsArrow s (get_or objects u o) (get_or objects v o) x
  sum_arrow p x x_is o =
      subst (IsArrow s (get_or objects u o) (get_or objects v o)) (sym (x_is o x)) (value_is_arrow laws q (listed objects arrows o x) (rep.represents o x) u v in_u in_v p)

  pub path_arrow : (w : List ℕ) → is_path q u v w ≡ true → (x : Arrow) → ((o : Object) (a none : Arrow) → x ≡ word_value s (listed objects arrows o a) none w)
      → (o : Object) → IsArrow s (get_or objects u o) (get_or objects v o) x
  path_arrow w path x x_is o =
      subst (IsArrow s (get_or objects u o) (get_or objects v o)) (sym (x_is o x x)) (word_value_is_arrow laws q (listed objects arrows o x) (rep.represents o x) u v w x path)

  pub same_source : (x y z : Arrow) → ((o : Object) → IsArrow s (get_or objects u o) (get_or objects v o) x) → ((o : Object) → IsArrow s (get_or objects u o) (get_or objects v o) y)
      → IsArrow s (s.source y) (s.target y) z → s.source x ≡ s.source z
  same_source x y z x_ends y_ends z_ends = (x_ends (s.source x)).source ∙ sym (y_ends (s.source x)).source ∙ sym z_ends.source

  pub same_target : (x y z : Arrow) → ((o : Object) → IsArrow s (get_or objects u o) (get_or objects v o) x) → ((o : Object) → IsArrow s (get_or objects u o) (get_or objects v o) y)
      → IsArrow s (s.source y) (s.target y) z → s.target x ≡ s.target z
  same_target x y z x_ends y_ends z_ends = (x_ends (s.source x)).target ∙ sym (y_ends (s.source x)).target ∙ sym z_ends.target

  -- one more term
  pub value_with_next : (p : List (ℤ × List ℕ)) (k : ℕ) (t : ℤ × List ℕ) → slice_get p k ≡ Some t → is_path q u v t.1 ≡ true → (x y z sum : Arrow)
      → ((o : Object) (a : Arrow) → x ≡ value_at s q (listed objects arrows o a) u v (take k p))
      → ((o : Object) (a none : Arrow) → y ≡ word_value s (listed objects arrows o a) none t.1)
      → z ≡ multiple s t.0 y → sum ≡ s.add x z
      → (o : Object) (a : Arrow) → sum ≡ value_at s q (listed objects arrows o a) u v (take (k + 1) p)
  value_with_next p k t found path x y z sum x_is y_is z_is sum_is o a =
      sum_is ∙ ap₂ s.add (x_is o a) (z_is ∙ ap (multiple s t.0) (y_is o a a))
      ∙ sym (value_at-push laws q (listed objects arrows o a) (rep.represents o a) u v in_u in_v (take k p) t a path)
      ∙ ap (value_at s q (listed objects arrows o a) u v) (ap (λ r. take k p ++ r ∷ []) (sym (get_or_from_slice_get p k t t found)) ∙ sym (take_more p k t (slice_get_within p k t found)))
