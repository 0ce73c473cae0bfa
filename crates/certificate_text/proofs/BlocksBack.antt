-- A certificate of format 1 that is written is a block of evidence text.
use Rattle.certificate_text.proofs.Prelude.{◌≡◌, List, Ok, refl, IsTrue, All, list_all, length-map, All-weaker, All-map, Declaration, IsDeclared, CertRow, Certificate, LemmaRow, Format, RowTokens, row_values, IsPlainRow, certificate_kind, certificate_text, is_named, IsWritableRow, IsWritable, IsWritableLemmaRow, text-append, IsWritten, integer_read, end_is_text, word_written, letters_written}
use Rattle.traced_rows.specs.declared.evidence.Evidence.TheVariants as evidence
use Rattle.traced_rows.specs.declared.evidence.Format.TheVariants as format
use Rattle.certificate_text.proofs.RowsBack.{row_tree, over_generator, IsWrittenRow, row_is_row, row_says, rows_within, zip_by, trees, rows_are_text, rows_are_rows, letters_in-trees}
use Rattle.certificate_text.proofs.SizesBack.{size_written, head_written, opening_is_text}
use Rattle.certificate_text.proofs.OpenBlocks.{IsHead, plain_place}

-- rows
module _ (ds : List Declaration) (declared : IsDeclared ds) (known : IsTrue (list_all is_named ds)) where
  pub lemma_row_written : (row : LemmaRow) → IsWritableLemmaRow ds row → IsWrittenRow ds row
  lemma_row_written row writable = record {
    coefficient = integer_read row.coef writable.coefficient;
    number = writable.number;
    left = word_written ds row.left (letters_written ds declared known row.left writable.letters.left);
    right = word_written ds row.right (letters_written ds declared known row.right writable.letters.right);
    short_left = writable.short_left;
    short_right = writable.short_right;
  }

  row_written : (row : CertRow) → IsWritableRow ds row → IsWrittenRow ds (over_generator row)
  row_written row writable =
      lemma_row_written (over_generator row) (record {
        coefficient = writable.coefficient;
        number = writable.generator;
        letters = record { left = writable.letters.left; right = writable.letters.right };
        short_left = writable.short_left;
        short_right = writable.short_right;
      })

  pub rows_written : (c : Certificate) → IsWritable ds c → All (λ row. IsWrittenRow ds (over_generator row)) c.rows
  rows_written c writable = All-weaker (IsWritableRow ds) (λ row. IsWrittenRow ds (over_generator row)) row_written c.rows writable.rows

-- the block
module _ (ds : List Declaration) (c : Certificate) (writable : IsWritable ds c) (each : All (λ row. IsWrittenRow ds (over_generator row)) c.rows) where
  abbrev head : IsHead c.claim c.denominator
  head = head_written c.claim c.denominator writable.claim (size_written c.denominator writable.denominator)

  abbrev rows_of : List RowTokens
  rows_of = trees ds over_generator c.rows

  -- what holds of each row that is written
  along : {P : CertRow → Type 0} → ((row : CertRow) → IsWrittenRow ds (over_generator row) → P row) → All P c.rows
  along {P} holds = All-weaker (λ row. IsWrittenRow ds (over_generator row)) P holds c.rows each

  pub plain_written : (most : Format) → IsWritten (certificate_kind most ds) (certificate_text ds c) (evidence.Plain c)
  plain_written most =
      let place = plain_place most ds head in
      let opening = opening_is_text format.Plain c.claim c.denominator writable.claim (size_written c.denominator writable.denominator) in record {
        tree = place.block rows_of;
        text_is = text-append _ _ _ _ (text-append _ _ _ _ opening (rows_are_text ds over_generator c.rows each)) end_is_text;
        is_tree = place.is_block rows_of (All-map IsPlainRow (λ row. row_tree ds (over_generator row)) c.rows (along {P = λ row. IsPlainRow (row_tree ds (over_generator row))} (λ row written. record { row = row_is_row ds (over_generator row) written; generator = refl })));
        keeps = λ bound. place.keeps bound rows_of (rows_within ds rows_of (rows_are_rows ds over_generator c.rows each) (rw length-map writable.few) (rw (letters_in-trees ds over_generator c.rows) writable.letters) bound);
        says = record {
          claim = head.claim_value;
          denominator = head.denominator_value;
          rows = zip_by (λ (r : RowTokens) row. row_values ds r ≡ Ok row) (λ row. row_tree ds (over_generator row)) c.rows (along (λ row. row_says ds (over_generator row)));
        };
      }
