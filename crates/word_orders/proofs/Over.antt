-- Words over the letters below a number: their parts, and what is put together of them.
use Rattle.std.proofs.Common.{◌≡◌, ◌⊎◌, inl, inr, ◌<◌, ◌≤◌, ℕ, true, false, List, [], ◌∷◌, ◌++◌, length, nat_le, subst, arith}
use Rattle.std.proofs.Math.Seq.{drop-append_seam, take-append_seam}
use Rattle.std.proofs.lemmas.Bool.Decides.{leb_tells}
use Rattle.std.proofs.lemmas.List.Elements.{All-append, All-cons, All-drop, All-head, All-nil, All-tail, All-take}
use Rattle.word_core.specs.Letters.{IsOver}

module _ (letters : ℕ) where
  abbrev below : ℕ → Type 0
  below letter = letter < letters

  pub IsOver-append : (u v : List ℕ) → IsOver letters u → IsOver letters v → IsOver letters (u ++ v)
  IsOver-append u v u_over v_over = All-append below u v u_over v_over

  pub IsOver-front : (u v : List ℕ) → IsOver letters (u ++ v) → IsOver letters u
  IsOver-front u v over = subst (IsOver letters) (take-append_seam u v) (All-take below (length u) (u ++ v) over)

  pub IsOver-back : (u v : List ℕ) → IsOver letters (u ++ v) → IsOver letters v
  IsOver-back u v over = subst (IsOver letters) (drop-append_seam u v) (All-drop below (length u) (u ++ v) over)

  -- a word is over the letters or it isn't
  pub IsOver-decided : (u : List ℕ) → IsOver letters u ⊎ (IsOver letters u → ⊥)
  IsOver-decided [] = inl (All-nil below)
  IsOver-decided (x ∷ u) = go (leb_tells letters x) (IsOver-decided u)
    where
      go : ((nat_le letters x ≡ true) × (letters ≤ x)) ⊎ ((nat_le letters x ≡ false) × (x < letters)) → IsOver letters u ⊎ (IsOver letters u → ⊥) → IsOver letters (x ∷ u) ⊎ (IsOver letters (x ∷ u) → ⊥)
      go (inl above) rest = inr (λ over. let first : x < letters = All-head below x u over in omega (arith, above.1))
      go (inr first) (inl rest) = inl (All-cons below x u first.1 rest)
      go (inr first) (inr rest) = inr (λ over. rest (All-tail below x u over))
