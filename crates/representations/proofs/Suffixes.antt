-- The letters of a path from a place on.
use Rattle.representations.proofs.Prelude.{◌≡◌, ℕ, zero, suc, ◌<◌, true, List, [], ◌∷◌, length, get_or, drop, Option, Some, None, IsSome, sym, refl, subst, arith, Structure, Quiver, letters, source, target, is_path, signature_of, Representation, word_value, step, path_from_signature}

-- a word with a signature is a path
pub record HasPath (q : Quiver) (w : List ℕ) : Type 0 where
  pub source : ℕ
  pub target : ℕ
  pub path : is_path q source target w ≡ true

pub has_path : (q : Quiver) (w : List ℕ) → IsSome (signature_of q w) → HasPath q w
has_path q w some = go (signature_of q w) refl some
  where
    go : (s : Option (ℕ × ℕ)) → signature_of q w ≡ s → IsSome s → HasPath q w
    go (Some s) is h = record { source = s.0; target = s.1; path = path_from_signature q s.0 s.1 w is }
    go None is h = absurd (cc)

pub path_not_empty : {q : Quiver} {w : List ℕ} → HasPath q w → 0 < length w
path_not_empty {q} {w} whole = go w whole.path
  where
    go : (x : List ℕ) → is_path q whole.source whole.target x ≡ true → 0 < length x
    go [] path = absurd (cc)
    go (a ∷ x) path = omega arith

module _ (q : Quiver) (u : ℕ) where
  -- what is left of a path is one
  pub suffix_path : (v : ℕ) (w : List ℕ) (place : ℕ) → is_path q u v w ≡ true → place < length w → is_path q u (target q (get_or w place 0)) (drop place w) ≡ true
  suffix_path v [] place path within = absurd (omega arith)
  suffix_path v (a ∷ w) zero path within = subst (λ t. is_path q u t (a ∷ w) ≡ true) (sym (step q u v a w path).target) path
  suffix_path v (a ∷ []) (suc place) path within = absurd (omega arith)
  suffix_path v (a ∷ b ∷ w) (suc place) path within = suffix_path (source q a) (b ∷ w) place (step q u v a (b ∷ w) path).rest (omega arith)

  pub letter_within : (v : ℕ) (w : List ℕ) (place : ℕ) → is_path q u v w ≡ true → place < length w → get_or w place 0 < letters q
  letter_within v [] place path within = absurd (omega arith)
  letter_within v (a ∷ w) zero path within = (step q u v a w path).letter
  letter_within v (a ∷ []) (suc place) path within = absurd (omega arith)
  letter_within v (a ∷ b ∷ w) (suc place) path within = letter_within (source q a) (b ∷ w) place (step q u v a (b ∷ w) path).rest (omega arith)

  -- a letter and the next one meet
  pub letters_meet : (v : ℕ) (w : List ℕ) (place : ℕ) → is_path q u v w ≡ true → suc place < length w → source q (get_or w place 0) ≡ target q (get_or w (suc place) 0)
  letters_meet v [] place path within = absurd (omega arith)
  letters_meet v (a ∷ []) place path within = absurd (omega arith)
  letters_meet v (a ∷ b ∷ w) zero path within = sym (step q u (source q a) b w (step q u v a (b ∷ w) path).rest).target
  letters_meet v (a ∷ b ∷ w) (suc place) path within = letters_meet (source q a) (b ∷ w) place (step q u v a (b ∷ w) path).rest (omega arith)

-- the value of the last letter, and that of a letter and those after it
module _ {Object Arrow : Type 0} (s : Structure Object Arrow) (f : Representation Object Arrow) (none : Arrow) where
  pub value-last : (w : List ℕ) (place : ℕ) → suc place ≡ length w → word_value s f none (drop place w) ≡ f.arrow (get_or w place 0)
  value-last [] place last = absurd (omega arith)
  value-last (a ∷ []) zero last = refl
  value-last (a ∷ b ∷ w) zero last = absurd (omega arith)
  value-last (a ∷ w) (suc place) last = value-last w place (omega arith)

  pub value-next : (w : List ℕ) (place : ℕ) → suc place < length w → word_value s f none (drop place w) ≡ s.compose (f.arrow (get_or w place 0)) (word_value s f none (drop (suc place) w))
  value-next [] place within = absurd (omega arith)
  value-next (a ∷ []) place within = absurd (omega arith)
  value-next (a ∷ b ∷ w) zero within = refl
  value-next (a ∷ b ∷ w) (suc place) within = value-next (b ∷ w) place (omega arith)
