-- The table of rows lists each multiple once, ascending, with the sum of its coefficients or the first overflow on the way to it.
use Rattle.cofactor_trace.proofs.Prelude.{◌≡◌, ℤ, pos, ◌+ℤ◌, Bool, true, false, ◌||◌, cond, List, [], ◌∷◌, ◌++◌, map, Option, Some, None, Result, Ok, Err, unwrap_or, refl, sym, ap, ap₂, subst, ◌∙◌, arith, append_assoc, ranked, tied_itself, append-nil, map-append, fold-append, word_cmp, word_cmp-same, AllByRecursion, fold, flat_map, list_any, IsStrictlySortedBy, lookup, insert_entry, is_at, insert_key, is_eq, match_ordering, ordering_reverse, ordering_then, nat_cmp, Ordering, Less, Equal, Greater, cond_both, nat_tests, All-from_recursion, All-weaker, recursion_from_All, All-insert_key, Overflow, is_coefficient, sum_of, first_overflow, or_first, first-append, CertRow, Multiple, multiple_of, multiple_cmp, multiple_cmp_total, multiples_of, coefficients_at, kept_row, gathered, running_sums, sums_of_gathering, Sum, IsInRange, added, Entries, sum_in, with_row, with_rows, before, rows_in}

pub added-in_range : (s : Sum) (c : ℤ) → IsInRange (added s c)
added-in_range (Err o) c = tt
added-in_range (Ok so_far) c = cond_both (is_coefficient (so_far +ℤ c)) _ _ IsInRange (λ e. grind (arith, nat_tests)) (λ e. tt)

-- sums
abbrev pub sum_from : Sum → List ℤ → Sum
sum_from = fold added

-- a value, unless there is an overflow
abbrev pub unless_overflow : {A : Type 0} → Option Overflow → A → Result A Overflow
unless_overflow None x = Ok x
unless_overflow (Some o) x = Err o

stays : (o : Overflow) (cs : List ℤ) → sum_from (Err o) cs ≡ Err o
stays o [] = refl
stays o (c ∷ cs) = stays o cs

pub sum_from-running : (z : ℤ) (cs : List ℤ) → sum_from (Ok z) cs ≡ unless_overflow (first_overflow (running_sums z cs)) (fold ◌+ℤ◌ z cs)
sum_from-running z [] = refl
sum_from-running z (c ∷ cs) =
    elim (is_coefficient (z +ℤ c)) as (λ b. sum_from (cond b (Ok (z +ℤ c)) (Err (sum_of z c))) cs
    ≡ unless_overflow (cond b (first_overflow (running_sums (z +ℤ c) cs)) (Some (sum_of z c))) (fold ◌+ℤ◌ (z +ℤ c) cs))
    [ true ↦ sum_from-running (z +ℤ c) cs | false ↦ stays (sum_of z c) cs ]

-- the sum of each of some multiples
abbrev pub sums_at : (Multiple → Sum) → List Multiple → Entries
sums_at f ms = map (λ m. (m, f m)) ms

-- what the entries give
module _ (coefficients : Multiple → List ℤ) where
  total : Multiple → ℤ
  total m = fold ◌+ℤ◌ (pos 0) (coefficients m)

  pub rows_in-sums : (ms : List Multiple) → rows_in (sums_at (λ m. sum_from (Ok (pos 0)) (coefficients m)) ms)
      ≡ unless_overflow (first_overflow (flat_map (λ m. running_sums (pos 0) (coefficients m)) ms)) (flat_map (λ m. kept_row (fold ◌+ℤ◌ (pos 0) (coefficients m)) m) ms)
  rows_in-sums [] = refl
  rows_in-sums (m ∷ ms) =
      let here = running_sums (pos 0) (coefficients m) in
      let z = fold ◌+ℤ◌ (pos 0) (coefficients m) in
      let later = flat_map (λ m. running_sums (pos 0) (coefficients m)) ms in
      let rows = flat_map (λ m. kept_row (fold ◌+ℤ◌ (pos 0) (coefficients m)) m) ms in
      ap₂ (λ s r. before s m r) (sum_from-running (pos 0) (coefficients m)) (rows_in-sums ms)
      ∙ both (first_overflow here) (first_overflow later) z rows
      ∙ ap (λ f. unless_overflow f (kept_row z m ++ rows)) (sym (first-append here later))
    where
      both : (f g : Option Overflow) (z : ℤ) (rows : List CertRow) → before (unless_overflow f z) m (unless_overflow g rows) ≡ unless_overflow (or_first f g) (kept_row z m ++ rows)
      both (Some o) g z rows = refl
      both None (Some o) z rows = refl
      both None None z rows = refl

-- whether the multiple is one of them
abbrev pub is_among : List Multiple → Multiple → Bool
is_among ms m = list_any (is_at (multiple_cmp m)) ms

both_equal : (o p : Ordering) → ordering_then o p ≡ Equal → (o ≡ Equal) × (p ≡ Equal)
both_equal o p h = grind arith

-- equal in the order is equal
pub equal : (m n : Multiple) → multiple_cmp m n ≡ Equal → m ≡ n
equal m n h =
    let outer = both_equal (nat_cmp m.generator n.generator) (ordering_then (word_cmp m.left n.left) (word_cmp m.right n.right)) h in
    let inner = both_equal (word_cmp m.left n.left) (word_cmp m.right n.right) outer.1 in
    let generators : m.generator ≡ n.generator = ranked m.generator n.generator Equal (sym outer.0) in
    let lefts : m.left ≡ n.left = word_cmp-same m.left n.left inner.0 in
    let rights : m.right ≡ n.right = word_cmp-same m.right n.right inner.1 in
    λ i. record { generator = generators i; left = lefts i; right = rights i }

pub itself : (m : Multiple) → multiple_cmp m m ≡ Equal
itself m = tied_itself multiple_cmp_total m

sum_in-sums : (f : Multiple → Sum) (ms : List Multiple) (m : Multiple) → sum_in (sums_at f ms) m ≡ cond (is_among ms m) (f m) (Ok (pos 0))
sum_in-sums f [] m = refl
sum_in-sums f (k ∷ ks) m =
    (elim (multiple_cmp m k) as (λ o. multiple_cmp m k ≡ o → unwrap_or (cond (is_eq o) (Some (f k)) (lookup (is_at (multiple_cmp m)) (sums_at f ks))) (Ok (pos 0)) ≡ cond (is_eq o || is_among ks m) (f m) (Ok (pos 0)))
    [ Less ↦ λ e. sum_in-sums f ks m | Equal ↦ λ e. ap f (sym (equal m k e)) | Greater ↦ λ e. sum_in-sums f ks m ]) refl

-- ascending lists of multiples
pub all_inserted : (P : Multiple → Type 0) (ms : List Multiple) (m : Multiple) → AllByRecursion P ms → P m → AllByRecursion P (insert_key multiple_cmp ms m)
all_inserted P ms m h p = recursion_from_All P _ (All-insert_key multiple_cmp m P ms (All-from_recursion P ms h) p)

pub all_below : (m k : Multiple) (ks : List Multiple) → multiple_cmp m k ≡ Less → AllByRecursion (λ q. multiple_cmp k q ≡ Less) ks → AllByRecursion (λ q. multiple_cmp m q ≡ Less) ks
all_below m k ks e h = recursion_from_All _ ks (All-weaker _ _ (λ q. multiple_cmp_total.trans m k q e) ks (All-from_recursion _ ks h))

sorted_inserted : (ms : List Multiple) (m : Multiple) → IsStrictlySortedBy multiple_cmp ms → IsStrictlySortedBy multiple_cmp (insert_key multiple_cmp ms m)
unfolding IsStrictlySortedBy
sorted_inserted [] m h = (tt, tt)
sorted_inserted (k ∷ ks) m h =
    (elim (multiple_cmp m k) as (λ o. multiple_cmp m k ≡ o → IsStrictlySortedBy multiple_cmp (match_ordering o (m ∷ (k ∷ ks)) (k ∷ ks) (k ∷ insert_key multiple_cmp ks m))) [
      | Less ↦ λ e. ((e, all_below m k ks e h.0), h)
      | Equal ↦ λ e. h
      | Greater ↦ λ e. (all_inserted (λ q. multiple_cmp k q ≡ Less) ks m h.0 (multiple_cmp_total.antisymm k m ∙ ap ordering_reverse e), sorted_inserted ks m h.1)
    ]) refl

sorted_all : (ms : List Multiple) (keys : List Multiple) → IsStrictlySortedBy multiple_cmp ms → IsStrictlySortedBy multiple_cmp (fold (insert_key multiple_cmp) ms keys)
sorted_all ms [] h = h
sorted_all ms (k ∷ keys) h = sorted_all (insert_key multiple_cmp ms k) keys (sorted_inserted ms k h)

pub sorted-multiples : (rows : List CertRow) → IsStrictlySortedBy multiple_cmp (multiples_of rows)
unfolding IsStrictlySortedBy
sorted-multiples rows = sorted_all [] (map multiple_of rows) tt

-- sums that differ at one multiple alone are the same above it
same_above : (f g : Multiple → Sum) (m : Multiple) (ms : List Multiple) → ((k : Multiple) → is_eq (multiple_cmp m k) ≡ false → g k ≡ f k) → AllByRecursion (λ q. multiple_cmp m q ≡ Less) ms → sums_at f ms ≡ sums_at g ms
same_above f g m [] other h = refl
same_above f g m (k ∷ ks) other h = ap₂ (λ s es. (k, s) ∷ es) (sym (other k (ap is_eq h.0))) (same_above f g m ks other h.1)

inserted : (f g : Multiple → Sum) (m : Multiple) (ms : List Multiple) → IsStrictlySortedBy multiple_cmp ms → ((k : Multiple) → is_eq (multiple_cmp m k) ≡ false → g k ≡ f k)
    → insert_entry multiple_cmp (sums_at f ms) m (g m) ≡ sums_at g (insert_key multiple_cmp ms m)
unfolding IsStrictlySortedBy
inserted f g m [] h other = refl
inserted f g m (k ∷ ks) h other = go (multiple_cmp m k) refl (inserted f g m ks h.1 other)
  where
    go : (o : Ordering) → multiple_cmp m k ≡ o → insert_entry multiple_cmp (sums_at f ks) m (g m) ≡ sums_at g (insert_key multiple_cmp ks m)
        → match_ordering o ((m, g m) ∷ ((k, f k) ∷ sums_at f ks)) ((k, g m) ∷ sums_at f ks) ((k, f k) ∷ insert_entry multiple_cmp (sums_at f ks) m (g m))
        ≡ sums_at g (match_ordering o (m ∷ (k ∷ ks)) (k ∷ ks) (k ∷ insert_key multiple_cmp ks m))
    go Less e rest = ap (λ es. (m, g m) ∷ es) (same_above f g m (k ∷ ks) other (e, all_below m k ks e h.0))
    go Equal e rest =
        let same = equal m k e in
        ap₂ (λ s es. (k, s) ∷ es) (ap g same) (same_above f g m ks other (subst (λ x. AllByRecursion (λ q. multiple_cmp x q ≡ Less) ks) (sym same) h.0))
    go Greater e rest = ap₂ (λ s es. (k, s) ∷ es) (sym (other k (ap is_eq e))) rest

-- which multiples are listed
pub among_inserted : (ms : List Multiple) (m q : Multiple) → is_among (insert_key multiple_cmp ms m) q ≡ is_eq (multiple_cmp q m) || is_among ms q
among_inserted [] m q = refl
among_inserted (k ∷ ks) m q =
    let rest = among_inserted ks m q in
    (elim (multiple_cmp m k) as (λ o. multiple_cmp m k ≡ o → is_among (match_ordering o (m ∷ (k ∷ ks)) (k ∷ ks) (k ∷ insert_key multiple_cmp ks m)) q ≡ is_eq (multiple_cmp q m) || (is_eq (multiple_cmp q k) || is_among ks q)) [
      | Less ↦ λ e. refl
      | Equal ↦ λ e. rw (equal m k e) (grind arith)
      | Greater ↦ λ e. grind arith
    ]) refl

pub among_all : (rows : List CertRow) (ms : List Multiple) (q : Multiple)
    → is_among (fold (insert_key multiple_cmp) ms (map multiple_of rows)) q ≡ is_among ms q || list_any (λ r. is_eq (multiple_cmp q (multiple_of r))) rows
among_all [] ms q = grind arith
among_all (r ∷ rows) ms q =
    let rest = among_all rows (insert_key multiple_cmp ms (multiple_of r)) q in
    let here = among_inserted ms (multiple_of r) q in
    grind arith

none_listed : (q : Multiple) (rows : List CertRow) → list_any (λ r. is_eq (multiple_cmp q (multiple_of r))) rows ≡ false → coefficients_at q rows ≡ []
none_listed q [] h = refl
none_listed q (r ∷ rows) h = let rest = none_listed q rows in grind arith

-- one more row
coefficients_more : (q : Multiple) (done : List CertRow) (r : CertRow) → coefficients_at q (done ++ r ∷ []) ≡ coefficients_at q done ++ cond (is_eq (multiple_cmp q (multiple_of r))) (r.coef ∷ []) []
coefficients_more q [] r = grind arith
coefficients_more q (d ∷ done) r = let rest = coefficients_more q done r in grind arith

-- the sum that a multiple has in rows
abbrev pub sum_of_rows : List CertRow → Multiple → Sum
sum_of_rows rows m = sum_from (Ok (pos 0)) (coefficients_at m rows)

-- the table of rows
abbrev pub table_of : List CertRow → Entries
table_of rows = sums_at (sum_of_rows rows) (multiples_of rows)

sum_more : (q : Multiple) (done : List CertRow) (r : CertRow) → sum_of_rows (done ++ r ∷ []) q ≡ cond (is_eq (multiple_cmp q (multiple_of r))) (added (sum_of_rows done q) r.coef) (sum_of_rows done q)
sum_more q done r =
    ap (sum_from (Ok (pos 0))) (coefficients_more q done r)
    ∙ fold-append added (Ok (pos 0)) (coefficients_at q done) (cond (is_eq (multiple_cmp q (multiple_of r))) (r.coef ∷ []) [])
    ∙ elim (is_eq (multiple_cmp q (multiple_of r))) as (λ b. fold added (sum_of_rows done q) (cond b (r.coef ∷ []) []) ≡ cond b (added (sum_of_rows done q) r.coef) (sum_of_rows done q))
    [ true ↦ refl | false ↦ refl ]

sum_in-table : (done : List CertRow) (m : Multiple) → sum_in (table_of done) m ≡ sum_of_rows done m
sum_in-table done m =
    sum_in-sums (sum_of_rows done) (multiples_of done) m
    ∙ cond_both (is_among (multiples_of done) m) _ _ (λ s. s ≡ sum_of_rows done m) (λ e. refl) (λ e. ap (sum_from (Ok (pos 0))) (sym (none_listed m done (sym (among_all done [] m) ∙ e))))

multiples_more : (done : List CertRow) (r : CertRow) → multiples_of (done ++ r ∷ []) ≡ insert_key multiple_cmp (multiples_of done) (multiple_of r)
multiples_more done r =
    ap (fold (insert_key multiple_cmp) []) (map-append multiple_of done (r ∷ []))
    ∙ fold-append (insert_key multiple_cmp) [] (map multiple_of done) (multiple_of r ∷ [])

pub turned_round : (m k : Multiple) → is_eq (multiple_cmp m k) ≡ false → is_eq (multiple_cmp k m) ≡ false
turned_round m k h = let other = multiple_cmp_total.antisymm k m in grind arith

table-more : (done : List CertRow) (r : CertRow) → with_row (table_of done) r ≡ table_of (done ++ r ∷ [])
table-more done r =
    let m = multiple_of r in
    let f = sum_of_rows done in
    let g = sum_of_rows (done ++ r ∷ []) in
    let here : g m ≡ added (f m) r.coef = sum_more m done r ∙ ap (λ o. cond (is_eq o) (added (f m) r.coef) (f m)) (itself m) in
    let other = λ (k : Multiple) (h : is_eq (multiple_cmp m k) ≡ false). sum_more k done r ∙ ap (λ b. cond b (added (f k) r.coef) (f k)) (turned_round m k h) in
    ap (λ s. insert_entry multiple_cmp (table_of done) m (added s r.coef)) (sum_in-table done m)
    ∙ ap (insert_entry multiple_cmp (table_of done) m) (sym here)
    ∙ inserted f g m (multiples_of done) (sorted-multiples done) other
    ∙ ap (sums_at g) (sym (multiples_more done r))

table-all : (done rows : List CertRow) → with_rows (table_of done) rows ≡ table_of (done ++ rows)
table-all done [] = ap table_of (sym (append-nil done))
table-all done (r ∷ rows) =
    ap (λ es. with_rows es rows) (table-more done r) ∙ table-all (done ++ r ∷ []) rows ∙ ap table_of (append_assoc done (r ∷ []) rows)

-- the rows of the table are the gathered rows, unless a sum of gathering overflows
pub rows_in-with_rows : (rows : List CertRow) → rows_in (with_rows [] rows) ≡ unless_overflow (first_overflow (sums_of_gathering rows)) (gathered rows)
rows_in-with_rows rows = ap rows_in (table-all [] rows) ∙ rows_in-sums (λ m. coefficients_at m rows) (multiples_of rows)
