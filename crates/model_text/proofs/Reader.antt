-- A reader of models is a reader of blocks.
use Rattle.model_text.proofs.Prelude.{arith, ◌≡◌, ◌≤◌, ◌&&◌, ◌∷◌, [], ℕ, List, Some, IsTrue, refl, sym, ap₂, ◌∙◌, subst, nat_le, codes, and_parts, nat_tests, cond_some, Declaration, NumberTooLarge, is_number, number_within, Line, number_limit, is, bound_of, is_word, IsReader, within_limit, number_found, said_line, named_lines, IsJudged, AreTokens, named_fit, named_read, number_read, block_read, IsLineReader, IsSectionReader, said_reader, line_read, line_read_by, said_as_read, modulus_limit, modulus_line, name_of, is_modulus, Bound, names, numbers, bounds, flaw_of, value_of, model_value, entry_kind, other_words, model_kind, entry_tokens, entry_value, model_of, modulus_digits, modulus_of, entry_steps, model_steps}
use Rattle.model_text.proofs.EntryLines.{entry_is, entry_read, entry_goes_on}
use Rattle.model_text.proofs.EntryValues.{entry_judged, says_once, model_is}

-- each has a bound of its own
told : (b : Bound) → bound_of flaw_of bounds (flaw_of b) ≡ Some b
told names = refl
told b = refl

modulus_is : (line : Line) (digits : List ℕ) → modulus_digits line ≡ Some digits → (line ≡ modulus_line digits) × IsTrue (is_modulus digits)
modulus_is [] digits read = absurd (cc)
modulus_is (word ∷ []) digits read = absurd (cc)
modulus_is (word ∷ m ∷ []) digits read =
    let found = cond_some (is (codes "modulus") word && is_modulus m) m digits read in
    let parts = and_parts (is (codes "modulus") word) (is_modulus m) found.0 in
    (ap₂ (λ (x y : List ℕ). x ∷ y ∷ []) (is_word (codes "modulus") word parts.0) found.1, subst (λ k. IsTrue (is_modulus k)) found.1 parts.1)
modulus_is (word ∷ m ∷ token ∷ tokens) digits read = absurd (cc)

modulus_read : IsLineReader flaw_of bounds (said_line numbers modulus_line (λ m. IsTrue (is_modulus m)) (number_within modulus_limit)) modulus_of
modulus_read =
    let two = number_found modulus_limit (codes "2") (omega arith) in
    said_reader flaw_of bounds numbers NumberTooLarge modulus_line (λ m. IsTrue (is_modulus m)) modulus_digits (number_within modulus_limit) refl modulus_is (λ m fits. rw fits refl) (λ m fits. refl) (codes "2") refl two.0 two.1

module _ (ds : List Declaration) where
  entries_known : (m : ℕ) → AreTokens flaw_of bounds (entry_kind ds m) entry_tokens
  entries_known m = record { are = entry_is; there = entry_read; unended = entry_goes_on; unique = says_once ds m }

  -- the lines after a modulus
  entries_read : (t : List ℕ) → IsTrue (is_modulus t) → (m : ℕ) → number_within modulus_limit t ≡ Some m → IsSectionReader flaw_of bounds (named_lines (entry_kind ds (value_of t)) name_of) (entry_steps ds m)
  entries_read t is m read =
      let parts = and_parts (is_number t) (nat_le 2 (value_of t)) is in
      let some : 1 ≤ value_of t = grind (arith, nat_tests, parts.1) in
      named_read flaw_of bounds (entry_kind ds (value_of t)) name_of entry_tokens (entry_value ds m) (entries_known (value_of t))
      (λ e. subst (λ k. IsJudged flaw_of bounds (entry_kind ds (value_of t)) e (entry_value ds k e)) (within_limit modulus_limit t m read).0 (entry_judged ds (value_of t) e some))

  pub reader : IsReader (model_kind ds) (model_steps ds)
  reader =
      block_read flaw_of bounds (codes "model") (codes "1") other_words
      (said_as_read flaw_of bounds
      (line_read flaw_of bounds (number_read flaw_of bounds numbers (codes "claim") number_limit refl)
      (line_read_by flaw_of bounds (λ m. named_lines (entry_kind ds m) name_of) (entry_steps ds) modulus_read value_of (λ t. named_fit flaw_of bounds (entry_kind ds (value_of t)) name_of entry_tokens (entries_known (value_of t))) entries_read))
      (model_of ds) (λ b m. m ≡ model_value ds b) (λ t v w one two. one ∙ sym two)
      (λ t v _ says. model_is ds t v (within_limit number_limit t.0 v.0 says.0).0 (within_limit modulus_limit t.1.0 v.1.0 says.1.0).0 says.1.1))
      told (refl, refl) refl refl
