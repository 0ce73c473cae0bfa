-- The signature of a word, read letter by letter from the left.
use Rattle.quiver.proofs.Prelude.{◌≡◌, ◌≢◌, ℕ, ◌+◌, ◌<◌, ◌≤◌, length, drop, get_or, Bool, true, false, cond, ◌&&◌, List, [], ◌∷◌, Option, Some, None, option_map, sym, refl, ap, ◌∙◌, nat_eq, lt-ltb, eq-eqb, ne_eqb, drop_more, drop_all, Quiver, letters, source, target, signature_of}

-- the signature of the word whose beginning has these ends, and whose rest this is
abbrev pub continued : Quiver → ℕ × ℕ → List ℕ → Option (ℕ × ℕ)
continued q s [] = Some s
continued q s (b ∷ w) = cond (nat_eq s.0 (target q b)) (option_map (λ t. (t.0, s.1)) (signature_of q (b ∷ w))) None

signature_of-first : (q : Quiver) (a : ℕ) (w : List ℕ) → a < letters q → signature_of q (a ∷ w) ≡ continued q (source q a, target q a) w
signature_of-first q a [] in_range = ap (λ b. cond b (Some (source q a, target q a)) None) (lt-ltb a (letters q) in_range)
signature_of-first q a (b ∷ w) in_range =
    ap (λ c. cond (c && nat_eq (source q a) (target q b)) (option_map (λ t. (t.0, target q a)) (signature_of q (b ∷ w))) None) (lt-ltb a (letters q) in_range)

-- the target is that of the beginning
abbrev with_target : ℕ → ℕ × ℕ → ℕ × ℕ
with_target v t = (t.0, v)

continued-target : (q : Quiver) (x y v : ℕ) (w : List ℕ) → option_map (with_target v) (continued q (x, y) w) ≡ continued q (x, v) w
continued-target q x y v [] = refl
continued-target q x y v (b ∷ w) = go (nat_eq x (target q b)) (signature_of q (b ∷ w))
  where
    go : (c : Bool) (o : Option (ℕ × ℕ)) → option_map (with_target v) (cond c (option_map (with_target y) o) None) ≡ cond c (option_map (with_target v) o) None
    go true (Some t) = refl
    go true None = refl
    go false o = refl

-- a letter that fits goes to the beginning, and with one that doesn't there is no signature
continued-fits : (q : Quiver) (s : ℕ × ℕ) (b : ℕ) (w : List ℕ) → b < letters q → s.0 ≡ target q b → continued q s (b ∷ w) ≡ continued q (source q b, s.1) w
continued-fits q s b w in_range fits =
    ap (λ c. cond c (option_map (λ t. (t.0, s.1)) (signature_of q (b ∷ w))) None) (eq-eqb s.0 (target q b) fits)
    ∙ ap (option_map (λ t. (t.0, s.1))) (signature_of-first q b w in_range)
    ∙ continued-target q (source q b) (target q b) s.1 w

continued-apart : (q : Quiver) (s : ℕ × ℕ) (b : ℕ) (w : List ℕ) → s.0 ≢ target q b → continued q s (b ∷ w) ≡ None
continued-apart q s b w apart = ap (λ c. cond c (option_map (λ t. (t.0, s.1)) (signature_of q (b ∷ w))) None) (ne_eqb s.0 (target q b) apart)

-- the same at a place of the word
module _ (q : Quiver) (w : List ℕ) where
  -- the first letter has its own ends
  pub signature_of-begun : (s : ℕ × ℕ) → 0 < length w → get_or w 0 0 < letters q → s.0 ≡ source q (get_or w 0 0) → s.1 ≡ target q (get_or w 0 0) → signature_of q w ≡ continued q s (drop 1 w)
  signature_of-begun s some in_range source target =
      ap (signature_of q) (drop_more w 0 0 some)
      ∙ signature_of-first q (get_or w 0 0) (drop 1 w) in_range
      ∙ (λ j. continued q (sym source j, sym target j) (drop 1 w))

  pub continued-next : (s : ℕ × ℕ) (x i : ℕ) → i < length w → get_or w i 0 < letters q → s.0 ≡ target q (get_or w i 0) → x ≡ source q (get_or w i 0) → continued q s (drop i w) ≡ continued q (x, s.1) (drop (i + 1) w)
  continued-next s x i below in_range fits source =
      ap (continued q s) (drop_more w i 0 below)
      ∙ continued-fits q s (get_or w i 0) (drop (i + 1) w) in_range fits
      ∙ ap (λ y. continued q (y, s.1) (drop (i + 1) w)) (sym source)

  pub continued-stops : (s : ℕ × ℕ) (i : ℕ) → i < length w → s.0 ≢ target q (get_or w i 0) → continued q s (drop i w) ≡ None
  continued-stops s i below apart = ap (continued q s) (drop_more w i 0 below) ∙ continued-apart q s (get_or w i 0) (drop (i + 1) w) apart

  pub continued-ends : (s : ℕ × ℕ) (i : ℕ) → length w ≤ i → continued q s (drop i w) ≡ Some s
  continued-ends s i past = ap (continued q s) (drop_all i w past)
