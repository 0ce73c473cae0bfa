-- The proofs that are read can be checked.
use Rattle.cancellation_text.proofs.Prelude.{◌≡◌, ℕ, List, [], ◌∷◌, Option, Some, None, Result, arith, refl, subst, sym, length, length-append, IfOk, All, AllZip, cons_option, All-nil, All-cons, Letter, Declaration, Lemma, Side, Left, Right, Item, Cancellation, IsLetterOf, IsRowOver, IsReadableLemma, IsReadableItem, IsReadableCancellation, row_total, CertFault, ReadsText, letter_of, all_values, read_values_are, values_are, letter_in_range, option_map_some, zip_length, zip_right, ScaledTokens, IsLemmaRowOf, IsScaledOf, IsLemmaRowOver, positive_in_range, scaled_checkable, All-weaker, CalledTokens, ItemTokens, lemma, cancel, CancellationTokens, known_letter, called_on, called_letters, Bound, rows, item_rows, KeepsOne, IsItemOf, IsCancellationOf, cancellation_kind, IsCancellations, cancellation_steps, called_of}
use Rattle.cancel_rules.specs.declared.cancellation.Item.TheVariants as item
use Rattle.cancellation_text.proofs.Parts.{rows_of}
use Rattle.cancellation_text.proofs.Reader.{reader}

module _ (ds : List Declaration) where
  -- letters
  known_in_range : (token : List ℕ) (a : Letter) → known_letter ds token ≡ Some a → IsLetterOf ds a
  known_in_range token a read =
      option_map_some (λ n. record { 0 = n }) (letter_of ds token) a read (λ n found same. subst (IsLetterOf ds) same (letter_in_range ds token n found))

  on_in_range : (side own : Side) (token : List ℕ) (found : Option Letter) → called_on ds side (called_of token own) ≡ found → (rest : List Letter) → All (IsLetterOf ds) rest → All (IsLetterOf ds) (cons_option found rest)
  on_in_range side own token None is rest each = each
  on_in_range Left Left token (Some a) is rest each = All-cons (IsLetterOf ds) a rest (known_in_range token a is) each
  on_in_range Left Right token (Some a) is rest each = absurd (cc)
  on_in_range Right Left token (Some a) is rest each = absurd (cc)
  on_in_range Right Right token (Some a) is rest each = All-cons (IsLetterOf ds) a rest (known_in_range token a is) each

  called_in_range : (side : Side) (called : List CalledTokens) → All (IsLetterOf ds) (called_letters ds side called)
  called_in_range side [] = All-nil (IsLetterOf ds)
  called_in_range side (c ∷ called) = on_in_range side c.side c.letter (called_on ds side c) refl (called_letters ds side called) (called_in_range side called)

  -- items
  scaled_readable : (s : ScaledTokens) (l : Lemma) → IsScaledOf ds s l → IsReadableLemma ds l
  scaled_readable s l says =
      let good = scaled_checkable ds s l says in
      record {
        ranged = record { scale = good.scale; rows = good.coefficients };
        letters = All-weaker (IsLemmaRowOver ds) (IsRowOver ds) (λ row over. record { left = over.left; right = over.right }) l.rows good.letters;
      }

  item_readable : (i : ItemTokens) (v : Item) → IsItemOf ds i v → IsReadableItem ds v
  item_readable (lemma l) (item.Lemma v) says = scaled_readable l.scaled v says
  item_readable (lemma l) (item.Cancel a side n) says = absurd says
  item_readable (cancel c) v says = subst (IsReadableItem ds) (sym says.is) (known_in_range c.letter says.letter says.letter_is)

  item_count : (i : ItemTokens) (v : Item) → IsItemOf ds i v → length (item_rows i) ≡ row_total (v ∷ [])
  item_count (lemma l) (item.Lemma v) says = omega (arith, zip_length (IsLemmaRowOf ds) l.scaled.rows v.rows says.rows)
  item_count (lemma l) (item.Cancel a side n) says = absurd says
  item_count (cancel c) v says = rw says.is refl

  -- there are as many rows in the items as in their tokens
  rows_count : (items : List ItemTokens) (found : List Item) → AllZip (IsItemOf ds) items found → length (rows_of items) ≡ row_total found
  rows_count [] [] zipped = refl
  rows_count [] (v ∷ found) zipped = absurd zipped
  rows_count (i ∷ items) [] zipped = absurd zipped
  rows_count (i ∷ items) (v ∷ found) zipped =
      let here : length (item_rows i) ≡ row_total (v ∷ []) = item_count i v zipped.0 in
      omega (arith, length-append (item_rows i) (rows_of items), here, rows_count items found zipped.1)

  -- proofs
  block_readable : (b : CancellationTokens) (proof : Cancellation) → ((bound : Bound) → KeepsOne ds bound b) → IsCancellationOf ds b proof → IsReadableCancellation ds proof
  block_readable b proof keeps says = record {
    denominator = positive_in_range b.denominator proof.denominator says.denominator;
    monic = subst (All (IsLetterOf ds)) says.monic (called_in_range Left b.called);
    epic = subst (All (IsLetterOf ds)) says.epic (called_in_range Right b.called);
    items = zip_right (IsItemOf ds) (IsReadableItem ds) item_readable b.items proof.items says.items;
    goal = scaled_readable b.goal proof.goal says.goal;
    few_items = omega (arith, (keeps rows).0, zip_length (IsItemOf ds) b.items proof.items says.items);
    few_rows = omega (arith, (keeps rows).1, length-append (rows_of b.items) b.goal.rows, rows_count b.items proof.items says.items, zip_length (IsLemmaRowOf ds) b.goal.rows proof.goal.rows says.goal.rows);
  }

  pub readable_told : (bytes : List ℕ) (r : Result (List Cancellation) CertFault) → ReadsText (λ proofs. proofs) r (all_values (cancellation_steps ds) bytes) → IfOk r (All (IsReadableCancellation ds))
  readable_told bytes r read =
      read_values_are (cancellation_kind ds) (cancellation_steps ds) (reader ds) (IsReadableCancellation ds) (λ b proof block keeps says. block_readable b proof keeps says) bytes r read

  -- the proofs of a text can be checked
  pub proofs_are_readable : (bytes : List ℕ) (proofs : List Cancellation) → IsCancellations ds bytes proofs → All (IsReadableCancellation ds) proofs
  proofs_are_readable bytes proofs is =
      values_are (cancellation_kind ds) (cancellation_steps ds) (reader ds) (IsReadableCancellation ds) (λ b proof block keeps says. block_readable b proof keeps says) bytes proofs is
