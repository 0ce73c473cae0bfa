-- What a reader tests of the terms of a line is what they are bound to.
use Rattle.block_text.proofs.Prelude.{◌≡◌, ◌<◌, ◌≤◌, ◌-◌, ℕ, Bool, true, false, not, cond, ◌&&◌, List, [], ◌∷◌, ◌++◌, Option, Some, None, arith, refl, sym, ap, ap₂, ◌∙◌, subst, length, take, codes, IsTrue, nat_eq, nat_le, eqb-true, is_some, All, list_all, starts_with, ends_with, option_and_then, digits_value, and_parts, false_from_ne_true, leb-true, leb-false, lt-leb, length-append, take_at, All-nil, All-cons, All-head, All-tail, option_and_then_some, cond_some, bytes_eq-Decides, Named, Object, Map, Declaration, named_in, letter_name, is_name, is_number, number_within, letter_of, is, is_term_letter, is_bracketed, is_adjoint, is_spelling, is_written_as, written_letter, is_above_one, spelled_as, letter_text}
use Rattle.block_text.proofs.LettersBack.{ended_by, without_last}
use Rattle.block_text.proofs.LineTrees.{is_word}
use Rattle.block_text.proofs.NameBytes.{name_text}
use Rattle.block_text.proofs.Results.{cond_option}

module _ {X : Type 0} (p : X → Bool) (P : X → Type 0) where
  pub all_from : ((x : X) → p x ≡ true → P x) → (xs : List X) → list_all p xs ≡ true → All P xs
  all_from each [] all = All-nil P
  all_from each (x ∷ xs) all = let parts : (p x ≡ true) × (list_all p xs ≡ true) = and_parts _ _ all in All-cons P x xs (each x parts.0) (all_from each xs parts.1)

  pub all_to : ((x : X) → P x → p x ≡ true) → (xs : List X) → All P xs → list_all p xs ≡ true
  all_to each [] all = refl
  all_to each (x ∷ xs) all = rw (each x (All-head P x xs all), all_to each xs (All-tail P x xs all)) refl

-- of two facts, one by the other
pub all_with : {X : Type 0} (P Q R : X → Type 0) → ((x : X) → P x → Q x → R x) → (xs : List X) → All P xs → All Q xs → All R xs
all_with P Q R each [] ps qs = All-nil R
all_with P Q R each (x ∷ xs) ps qs = All-cons R x xs (each x (All-head P x xs ps) (All-head Q x xs qs)) (all_with P Q R each xs (All-tail P x xs ps) (All-tail Q x xs qs))

pub some_of : {X : Type 0} (o : Option X) → is_some o ≡ true → (x : X) × (o ≡ Some x)
some_of (Some x) there = (x, refl)
some_of None there = absurd (cc)

-- numbers
pub within_by : (v most : ℕ) (b : Bool) → nat_le v most ≡ b → is_some (cond b (Some v) None) ≡ true → v ≤ most
within_by v most true small there = leb-true v most small
within_by v most false small there = absurd (cc)

above_by : (v most : ℕ) (b : Bool) → nat_le v most ≡ b → not (is_some (cond b (Some v) None)) ≡ true → most < v
above_by v most true small there = absurd (cc)
above_by v most false small there = leb-false v most small

pub above_one : (digits : List ℕ) → is_above_one digits ≡ true → IsTrue (is_number digits) × (1 < digits_value 10 digits)
above_one digits known =
    let parts = and_parts (is_number digits) (not (is_some (number_within 1 digits))) known in
    (parts.0, above_by (digits_value 10 digits) 1 _ refl parts.1)

pub above_one_from : (digits : List ℕ) → IsTrue (is_number digits) → 1 < digits_value 10 digits → is_above_one digits ≡ true
above_one_from digits number above = let known : is_number digits ≡ true = number in rw (known, lt-leb (digits_value 10 digits) 1 above) refl

-- letters as they are written
pub is_same : (word : List ℕ) → is word word ≡ true
is_same word = (bytes_eq-Decides word word).1 refl

record HasLast (token : List ℕ) : Type 0 where
  front : List ℕ
  last : ℕ
  is : token ≡ front ++ last ∷ []

has_last : (x : ℕ) (xs : List ℕ) → HasLast (x ∷ xs)
has_last x [] = record { front = []; last = x; is = refl }
has_last x (y ∷ ys) = let rest = has_last y ys in record { front = x ∷ rest.front; last = rest.last; is = ap (λ zs. x ∷ zs) rest.is }

eq_mark : (mark last : ℕ) (b : Bool) → nat_eq mark last ≡ b → (b && true) ≡ true → last ≡ mark
eq_mark mark last true same both = sym (eqb-true mark last same)
eq_mark mark last false same both = absurd (cc)

cond_both : (a b : Bool) → cond a b false ≡ true → (a ≡ true) × (b ≡ true)
cond_both true b known = (refl, known)
cond_both false b known = absurd (cc)

adjoint_of : (name front : List ℕ) (last : ℕ) → is_adjoint name (front ++ last ∷ []) ≡ true → name ++ codes "'" ≡ front ++ last ∷ []
adjoint_of name front last known =
    let parts : (ends_with nat_eq (front ++ last ∷ []) (codes "'") ≡ true) × (is name (take (length (front ++ last ∷ []) - 1) (front ++ last ∷ [])) ≡ true) = cond_both _ _ known in
    let mark : last ≡ 39 = eq_mark 39 last _ refl (sym (ended_by front last 39) ∙ parts.0) in
    let same : front ≡ name = sym (without_last front last) ∙ is_word name (take (length (front ++ last ∷ []) - 1) (front ++ last ∷ [])) parts.1 in
    ap₂ (λ xs x. xs ++ x ∷ []) (sym same) (sym mark)

adjoint_is : (name token : List ℕ) → is_adjoint name token ≡ true → name ++ codes "'" ≡ token
adjoint_is name [] known = absurd (cc)
adjoint_is name (x ∷ xs) known =
    let whole = has_last x xs in
    subst (λ (t : List ℕ). is_adjoint name t ≡ true → name ++ codes "'" ≡ t) (sym whole.is) (adjoint_of name whole.front whole.last) known

bracketed_of : (name front : List ℕ) (last : ℕ) → is_bracketed name (91 ∷ (front ++ last ∷ [])) ≡ true → codes "[" ++ name ++ codes "]" ≡ 91 ∷ (front ++ last ∷ [])
bracketed_of name front last known =
    let token = 91 ∷ (front ++ last ∷ []) in
    let parts : ((starts_with nat_eq token (codes "[") && ends_with nat_eq token (codes "]")) ≡ true) × (is name (take (length token - 2) (front ++ last ∷ [])) ≡ true) = cond_both _ _ known in
    let marks : (starts_with nat_eq token (codes "[") ≡ true) × (ends_with nat_eq token (codes "]") ≡ true) = and_parts _ _ parts.0 in
    let mark : last ≡ 93 = eq_mark 93 last _ refl (sym (ended_by (91 ∷ front) last 93) ∙ marks.1) in
    let inner : take (length token - 2) (front ++ last ∷ []) ≡ front = take_at front (last ∷ []) (length token - 2) (omega (arith, length-append front (last ∷ []))) in
    let same : front ≡ name = sym inner ∙ is_word name (take (length token - 2) (front ++ last ∷ [])) parts.1 in
    ap₂ (λ xs x. 91 ∷ (xs ++ x ∷ [])) (sym same) (sym mark)

bracketed_by : (name : List ℕ) (x : ℕ) (xs : List ℕ) (b : Bool) → nat_eq 91 x ≡ b → is_bracketed name (x ∷ xs) ≡ true → codes "[" ++ name ++ codes "]" ≡ x ∷ xs
bracketed_by name x [] b opens known = absurd (one_mark x _ refl known)
  where
    one_mark : (x : ℕ) (b : Bool) → nat_eq 91 x ≡ b → is_bracketed name (x ∷ []) ≡ true → ⊥
    one_mark x true opens known =
        let same : x ≡ 91 = sym (eqb-true 91 x opens) in
        let read : is_bracketed name (91 ∷ []) ≡ true = subst (λ (y : ℕ). is_bracketed name (y ∷ []) ≡ true) same known in cc
    one_mark x false opens known = let no : is_bracketed name (x ∷ []) ≡ false = rw opens refl in cc
bracketed_by name x (y ∷ ys) true opens known =
    let whole = has_last y ys in
    let same : x ≡ 91 = sym (eqb-true 91 x opens) in
    subst (λ (t : List ℕ). is_bracketed name t ≡ true → codes "[" ++ name ++ codes "]" ≡ t) (sym (ap₂ (λ z zs. z ∷ zs) same whole.is)) (bracketed_of name whole.front whole.last) known
bracketed_by name x (y ∷ ys) false opens known = let no : is_bracketed name (x ∷ y ∷ ys) ≡ false = rw opens refl in absurd (cc)

bracketed_is : (name token : List ℕ) → is_bracketed name token ≡ true → codes "[" ++ name ++ codes "]" ≡ token
bracketed_is name [] known = absurd (cc)
bracketed_is name (x ∷ xs) known = bracketed_by name x xs _ refl known

map_spelling : (name token : List ℕ) (b : Bool) → cond b (is name token) (is_adjoint name token) ≡ true → cond b name (name ++ codes "'") ≡ token
map_spelling name token true known = sym (is_word name token known)
map_spelling name token false known = adjoint_is name token known

spelling_is : (name : List ℕ) (a : ℕ) (found : Option Named) (token : List ℕ) → is_spelling name a found token ≡ true → spelled_as name a found ≡ token
spelling_is name a (Some (Object v)) token known = bracketed_is name token known
spelling_is name a (Some (Map b)) token known = map_spelling name token (nat_eq a b.0) known
spelling_is name a None token known = absurd (cc)

bracketed_there : (name : List ℕ) → is_bracketed name (codes "[" ++ name ++ codes "]") ≡ true
bracketed_there name =
    let inner : take (length (91 ∷ (name ++ 93 ∷ [])) - 2) (name ++ 93 ∷ []) ≡ name = take_at name (93 ∷ []) (length (91 ∷ (name ++ 93 ∷ [])) - 2) (omega (arith, length-append name (93 ∷ []))) in
    rw (ended_by (91 ∷ name) 93 93, inner, is_same name) refl

adjoint_there : (name : List ℕ) → is_adjoint name (name ++ codes "'") ≡ true
adjoint_there name = rw (ended_by name 39 39, without_last name 39, is_same name) refl

map_there : (name : List ℕ) (b : Bool) → cond b (is name (cond b name (name ++ codes "'"))) (is_adjoint name (cond b name (name ++ codes "'"))) ≡ true
map_there name true = is_same name
map_there name false = adjoint_there name

spelling_there : (name : List ℕ) (a : ℕ) (found : Option Named) → 0 < length (spelled_as name a found) → is_spelling name a found (spelled_as name a found) ≡ true
spelling_there name a (Some (Object v)) some = bracketed_there name
spelling_there name a (Some (Map b)) some = map_there name (nat_eq a b.0)
spelling_there name a None some = absurd (omega (arith, some))

-- what is known of a letter as it is written
pub record IsWritten (ds : List Declaration) (token : List ℕ) (a : ℕ) : Type 0 where
  pub letter : is_term_letter token ≡ true
  pub found : letter_of ds token ≡ Some a
  pub written : letter_text ds a ≡ token

pub written_is : (ds : List Declaration) (token : List ℕ) (a : ℕ) → written_letter ds token ≡ Some a → IsWritten ds token a
written_is ds token a read =
    let known = cond_option (is_term_letter token) (option_and_then_written (letter_of ds token)) a read in
    option_and_then_some (λ b. cond (is_written_as ds b token) (Some b) None) (letter_of ds token) a known.1 (λ b found kept.
    let test = cond_some (is_written_as ds b token) b a kept in
    subst (IsWritten ds token) test.1 (record { letter = known.0; found = found; written = spelling_is (letter_name ds b) b (named_in ds (letter_name ds b)) token test.0 }))
  where
    option_and_then_written : Option ℕ → Option ℕ
    option_and_then_written o = option_and_then (λ b. cond (is_written_as ds b token) (Some b) None) o

nothing_no_name : is_name [] ≡ false
nothing_no_name = false_from_ne_true (is_name []) (λ name. omega (arith, (name_text [] name).some))

nothing_no_letter : is_term_letter [] ≡ false
nothing_no_letter = rw nothing_no_name refl

letter_is_some : (token : List ℕ) → is_term_letter token ≡ true → 0 < length token
letter_is_some [] letter = absurd (let none : is_term_letter [] ≡ false = nothing_no_letter in cc)
letter_is_some (x ∷ xs) letter = omega arith

pub written_there : (ds : List Declaration) (token : List ℕ) (a : ℕ) → is_term_letter token ≡ true → letter_of ds token ≡ Some a → letter_text ds a ≡ token → written_letter ds token ≡ Some a
written_there ds token a letter found written =
    let some : 0 < length (letter_text ds a) = subst (λ (t : List ℕ). 0 < length t) (sym written) (letter_is_some token letter) in
    let test : is_written_as ds a token ≡ true = subst (λ (t : List ℕ). is_written_as ds a t ≡ true) written (spelling_there (letter_name ds a) a (named_in ds (letter_name ds a)) some) in
    rw (letter, found, test) refl
