-- Nothing is wrong with the order of a file in whose names nothing is wrong.
use Rattle.statement_names.proofs.Prelude.{◌≡◌, ◌≢◌, ℕ, ◌<◌, Bool, true, false, ◌&&◌, if◌then◌else◌, IsTrue, List, [], ◌∷◌, ◌++◌, map, Option, Some, None, refl, ap, ap₂, sym, subst, ◌∙◌, arith, flat_map, option_or, lt-ltb, le-leb, nat_tests, bytes_eq, map-append, IsDistinct-head, IsDistinct-tail, Letter, OrderSpec, Named, named, Name, Number, Statement, StatementKind, statement, BadWeight, RepeatedLetter, NoSuchLetter, is_weight, letter_fault, block_fault, entry_fault, HasNoFault, is_listed, IsSound, Declaration, letter_count, letter_name, named_in, is_map, letter_number, letter_of, weight_limit, value_of, name_fault_of, declarations_of, letters_for, weights_of, order_or, order_of}
use Rattle.statement_names.proofs.Apart.{differ_by}
use Rattle.statement_names.proofs.Each.{Each, Each-right, Each-append, Each-weaker}
use Rattle.statement_names.proofs.Found.{letters_from_number, IsLetterOf, HasLetters, map_letters}
use Rattle.statement_names.proofs.Stated.{IsBetween, AreBetween, Once, named_by, AreListed, IsMapIn, IsStated, all_stated}

-- letters of a list, each once
abbrev Spread : List Letter → Type 0
Spread [] = Unit {0}
Spread (l ∷ ls) = Each (λ m. l.0 ≢ m.0) ls × Spread ls

Spread-append : (xs ys : List Letter) → Spread xs → Spread ys → Each (λ l. Each (λ m. l.0 ≢ m.0) ys) xs → Spread (xs ++ ys)
Spread-append [] ys spread later apart = later
Spread-append (x ∷ xs) ys spread later apart = (Each-append (λ m. x.0 ≢ m.0) xs ys spread.0 apart.0, Spread-append xs ys spread.1 later apart.1)

-- a letter is none of those before it
not_before : (xs : List Letter) (l : Letter) (ys : List Letter) → Spread (xs ++ l ∷ ys) → is_listed xs l.0 ≡ false
not_before [] l ys spread = refl
not_before (x ∷ xs) l ys spread =
    let differ : x.0 ≢ l.0 = (Each-right (λ m. x.0 ≢ m.0) xs (l ∷ ys) spread.0).0 in
    grind (arith, nat_tests, not_before xs l ys spread.1, differ)

letter_good : (letters : ℕ) (l : Letter) (repeated : Bool) → l.0 < letters → repeated ≡ false → letter_fault letters repeated l ≡ None
letter_good letters l repeated below new =
    ap₂ (λ b c. if b then (if c then Some (RepeatedLetter l) else None) else Some (NoSuchLetter l)) (lt-ltb l.0 letters below) new

-- nothing is wrong with such a block
block_good : (letters : ℕ) (block : List Letter) → Each (λ l. l.0 < letters) block → Spread block → HasNoFault (block_fault letters) block
block_good letters block in_range spread before l after split =
    letter_good letters l (is_listed before l.0) (Each-right (λ m. m.0 < letters) before (l ∷ after) (subst (Each (λ m. m.0 < letters)) split in_range)).0
    (not_before before l after (subst Spread split spread))

-- nor with weights of such letters
abbrev IsWeighed : Letter × ℕ → Type 0
IsWeighed e = IsBetween weight_limit e.1

abbrev letters_in : List (Letter × ℕ) → List Letter
letters_in es = map (λ e. e.0) es

entries_good : (letters : ℕ) (es : List (Letter × ℕ)) → Each (λ l. l.0 < letters) (letters_in es) → Each IsWeighed es → Spread (letters_in es) → HasNoFault (entry_fault letters) es
entries_good letters es in_range weights spread before e after split =
    let letters_split : letters_in es ≡ letters_in before ++ e.0 ∷ letters_in after = ap letters_in split ∙ map-append (λ f. f.0) before (e ∷ after) in
    let weight = (Each-right IsWeighed before (e ∷ after) (subst (Each IsWeighed) split weights)).0 in
    let is : is_weight e.1 ≡ true = ap₂ (λ b c. b && c) (le-leb 1 e.1 weight.0) (le-leb e.1 weight_limit weight.1) in
    ap₂ option_or
    (letter_good letters e.0 (is_listed (letters_in before) e.0.0)
    (Each-right (λ m. m.0 < letters) (letters_in before) (e.0 ∷ letters_in after) (subst (Each (λ m. m.0 < letters)) letters_split in_range)).0
    (not_before (letters_in before) e.0 (letters_in after) (subst Spread letters_split spread)))
    (ap (λ b. if b then None else Some (BadWeight e.0)) is)

-- the letters of maps
map_is : (found : Option Named) → IsTrue (is_map found) → found ≡ Some (named.Map (record { 0 = letter_number found }))
map_is (Some (named.Map a)) e = refl
map_is (Some (named.Object v)) e = absurd (cc)
map_is None e = absurd (cc)

module _ (ds : List Declaration) where
  abbrev IsMapName : Name → Type 0
  IsMapName n = IsMapIn ds n.text

  letters_of_map : (n : Name) → IsMapName n → HasLetters ds n.text (letter_of ds n)
  letters_of_map n is = map_letters ds n.text (letter_of ds n) (map_is (named_in ds n.text) is)

  own_letters : (n : Name) → IsMapName n → Each (λ l. IsLetterOf ds n.text l.0) (letters_for ds n)
  own_letters n is = let has = letters_of_map n is in subst (Each (λ l. IsLetterOf ds n.text l.0)) (sym has.letters_are) has.each_letter

  own_spread : (n : Name) → IsMapName n → Spread (letters_for ds n)
  own_spread n is = let has = letters_of_map n is in subst Spread (sym has.letters_are) (go has.selfmade)
    where
      go : (own : Bool) → Spread (letters_from_number own (letter_of ds n))
      go true = (tt, tt)
      go false = (((λ same. let bad : ⊥ = omega arith in bad), tt), (tt, tt))

  letters_in_range : (names : List Name) → Each IsMapName names → Each (λ l. l.0 < letter_count ds) (flat_map (letters_for ds) names)
  letters_in_range [] maps = tt
  letters_in_range (n ∷ names) maps =
      Each-append (λ l. l.0 < letter_count ds) (letters_for ds n) (flat_map (letters_for ds) names)
      (Each-weaker (λ l. IsLetterOf ds n.text l.0) (λ l. l.0 < letter_count ds) (letters_for ds n) (λ l is. is.in_range) (own_letters n maps.0))
      (letters_in_range names maps.1)

  others_named : (q : List ℕ) (names : List Name) → Each IsMapName names → Each (λ p. q ≢ p) (map (λ m. m.text) names)
      → Each (λ l. q ≢ letter_name ds l.0) (flat_map (letters_for ds) names)
  others_named q [] maps differ = tt
  others_named q (m ∷ names) maps differ =
      Each-append (λ l. q ≢ letter_name ds l.0) (letters_for ds m) (flat_map (letters_for ds) names)
      (Each-weaker (λ l. IsLetterOf ds m.text l.0) (λ l. q ≢ letter_name ds l.0) (letters_for ds m) (λ l is. λ same. differ.0 (same ∙ is.named)) (own_letters m maps.0))
      (others_named q names maps.1 differ.1)

  letters_spread : (names : List Name) → Each IsMapName names → Once names → Spread (flat_map (letters_for ds) names)
  letters_spread [] maps once = tt
  letters_spread (n ∷ names) maps once =
      let texts = map (λ m. m.text) names in
      let differ =
      Each-weaker (λ q. bytes_eq n.text q ≡ false) (λ q. n.text ≢ q) texts (λ q other. differ_by n.text q other) (IsDistinct-head bytes_eq n.text texts once) in
      Spread-append (letters_for ds n) (flat_map (letters_for ds) names) (own_spread n maps.0)
      (letters_spread names maps.1 (IsDistinct-tail bytes_eq n.text texts once))
      (Each-weaker (λ l. IsLetterOf ds n.text l.0) (λ l. Each (λ m. l.0 ≢ m.0) (flat_map (letters_for ds) names)) (letters_for ds n)
      (λ l is. Each-weaker (λ m. n.text ≢ letter_name ds m.0) (λ m. l.0 ≢ m.0) (flat_map (letters_for ds) names)
      (λ m other. λ same. other (sym is.named ∙ ap (letter_name ds) same)) (others_named n.text names maps.1 differ))
      (own_letters n maps.0))

  -- the block of some maps
  block_sound : (names : List Name) → AreListed (IsMapIn ds) names → HasNoFault (block_fault (letter_count ds)) (flat_map (letters_for ds) names)
  block_sound names listed =
      block_good (letter_count ds) (flat_map (letters_for ds) names) (letters_in_range names listed.named) (letters_spread names listed.named listed.once)

  -- and their weights
  letters_weighed : (w : ℕ) (ls : List Letter) → letters_in (map (λ l. (l, w)) ls) ≡ ls
  letters_weighed w [] = refl
  letters_weighed w (l ∷ ls) = ap (λ ms. l ∷ ms) (letters_weighed w ls)

  weighed_letters : (pairs : List (Name × Number)) → letters_in (flat_map (weights_of ds) pairs) ≡ flat_map (letters_for ds) (named_by pairs)
  weighed_letters [] = refl
  weighed_letters (p ∷ pairs) =
      map-append (λ e. e.0) (weights_of ds p) (flat_map (weights_of ds) pairs)
      ∙ ap₂ (λ xs ys. xs ++ ys) (letters_weighed (value_of p.1.value) (letters_for ds p.0)) (weighed_letters pairs)

  weight_each : (w : ℕ) (ls : List Letter) → IsBetween weight_limit w → Each IsWeighed (map (λ l. (l, w)) ls)
  weight_each w [] is = tt
  weight_each w (l ∷ ls) is = (is, weight_each w ls is)

  weights_between : (pairs : List (Name × Number)) → AreBetween weight_limit pairs → Each IsWeighed (flat_map (weights_of ds) pairs)
  weights_between [] weights = tt
  weights_between (p ∷ pairs) weights =
      Each-append IsWeighed (weights_of ds p) (flat_map (weights_of ds) pairs) (weight_each (value_of p.1.value) (letters_for ds p.0) weights.0) (weights_between pairs weights.1)

  weights_sound : (pairs : List (Name × Number)) → AreListed (IsMapIn ds) (named_by pairs) → AreBetween weight_limit pairs
      → HasNoFault (entry_fault (letter_count ds)) (flat_map (weights_of ds) pairs)
  weights_sound pairs listed weights =
      entries_good (letter_count ds) (flat_map (weights_of ds) pairs)
      (subst (Each (λ l. l.0 < letter_count ds)) (sym (weighed_letters pairs)) (letters_in_range (named_by pairs) listed.named))
      (weights_between pairs weights)
      (subst Spread (sym (weighed_letters pairs)) (letters_spread (named_by pairs) listed.named listed.once))

  kind_sound : (k : StatementKind) (later : OrderSpec) → IsStated ds k → IsSound (letter_count ds) later → IsSound (letter_count ds) (order_or ds k later)
  kind_sound statement.Degree later stated sound = tt
  kind_sound (statement.Weight pairs) later stated sound = weights_sound pairs stated.0 stated.1
  kind_sound (statement.Eliminate names) later stated sound = block_sound names stated
  kind_sound k later stated sound = sound

  each_sound : (ss : List Statement) → Each (λ s. IsStated ds s.kind) ss → IsSound (letter_count ds) (order_of ds ss)
  each_sound [] stated = tt
  each_sound (s ∷ ss) stated = kind_sound s.kind (order_of ds ss) stated.0 (each_sound ss stated.1)

-- in a file in whose names nothing is wrong
pub order_sound : (statements : List Statement) → name_fault_of statements ≡ None
    → IsSound (letter_count (declarations_of statements)) (order_of (declarations_of statements) statements)
order_sound statements clean = each_sound (declarations_of statements) statements (all_stated statements clean)
