-- Tokens that come one after another, and what has been read of a file that begins with them.
use Rattle.statement_syntax.proofs.Prelude.{◌≡◌, ◌<◌, ℕ, List, [], ◌∷◌, ◌++◌, ◌⊎◌, inl, inr, length, Some, None, Result, Ok, Err, MatchResult, refl, sym, ap, ap₂, subst, ◌∙◌, append_assoc, length-append, ◌+◌, arith, Token, Language, First, Second, Placed, Stop, stop, Scanner, Statement, line, Progress, SyntaxFault, refusal, language_of, AreTokens, Tells, Leaves, HasWhole, Hands, with_front, unread, front_none, fronts, leaves, leaves_unread, unread_is, handed, run, file_step, TellsFirstFault, IsWantOfMemory, TellsScan, IsStatements, IsTreeOf, IsErrAnd, IfErr, IsUtf8, chars, StatedLine, file_tree, first_statements, behind_first, begun, left, Refused, IsReadSoFar, Goes, IsFault, IsFront, LeavesFault, TextRead}
use Rattle.std.proofs.Common.{append-nil}
use Rattle.statement_syntax.proofs.Stopping.{goes_on, stops_at, is_found, is_only, is_first, told_scanned}

-- the tokens are three or more, and determine the language
abbrev pub IsLong : List Token → Type 0
IsLong (a ∷ b ∷ c ∷ more) = Unit {0}
IsLong ts = ⊥

pub short_first : (ts : List Token) → length ts < 3 → language_of ts ≡ First
short_first (a ∷ b ∷ c ∷ more) short = absurd (omega (arith, short))
short_first ts short = refl

three_long : (ts : List Token) → length ts ≡ 3 → IsLong ts
three_long (a ∷ b ∷ c ∷ more) three = tt
three_long ts three = absurd (omega (arith, three))

-- one token more after three and others
module _ (a b c : Token) (more : List Token) (t : Token) where
  abbrev front : List Token
  front = a ∷ b ∷ c ∷ more

  abbrev longer : List Token
  longer = a ∷ b ∷ c ∷ (more ++ t ∷ [])

  first_same : (language : Language) → first_statements language longer ≡ first_statements language front
  first_same First = refl
  first_same Second = refl

  left_more : (language : Language) → behind_first language longer ≡ behind_first language front ++ t ∷ []
  left_more First = refl
  left_more Second = refl

  begun_same : begun longer ≡ begun front
  begun_same = ap (λ statements. record { statements = statements; line = line.Start }) (first_same (language_of front))

  stays : (e : SyntaxFault) → Refused front e → Refused longer e
  stays (refusal.Memory e) stopped = tt
  stays (refusal.Fault code l column) stopped = record {
    front = stopped.front;
    token = stopped.token;
    rest = stopped.rest ++ t ∷ [];
    splits = left_more (language_of front) ∙ ap (λ x. x ++ t ∷ []) stopped.splits ∙ append_assoc stopped.front (stopped.token ∷ stopped.rest) (t ∷ []);
    progress = stopped.progress;
    ran = ap (λ p. run (file_step (language_of front)) p stopped.front) begun_same ∙ stopped.ran;
    misfit = stopped.misfit;
    stops = stopped.stops;
    tells = stopped.tells;
  }

  one_more : (read next : Result Progress SyntaxFault) → IsReadSoFar front read → Goes (language_of front) read t next → IsReadSoFar longer next
  one_more (Ok p) (Ok next) ran goes =
      ap₂ (λ p xs. run (file_step (language_of front)) p xs) begun_same (left_more (language_of front)) ∙ goes_on front (left front) t p next ran goes
  one_more (Ok p) (Err e) ran (error, fails, tells) =
      stops_at longer (left front) t [] p error e (left_more (language_of front))
      (ap (λ q. run (file_step (language_of front)) q (left front)) begun_same ∙ ran) fails tells
  one_more (Err e) next stopped same = subst (IsReadSoFar longer) (sym same) (stays e stopped)

read_more : (front : List Token) (t : Token) → IsLong front → (read next : Result Progress SyntaxFault) → IsReadSoFar front read
    → Goes (language_of front) read t next → IsReadSoFar (front ++ t ∷ []) next
read_more (a ∷ b ∷ c ∷ more) t long = one_more a b c more t
read_more ts t long = absurd long

long_more : (front more : List Token) → IsLong front → IsLong (front ++ more)
long_more (a ∷ b ∷ c ∷ ts) more long = tt
long_more ts more long = absurd long

language_more : (front more : List Token) → IsLong front → language_of (front ++ more) ≡ language_of front
language_more (a ∷ b ∷ c ∷ ts) more long = refl
language_more ts more long = absurd long

no_token : (t : Token) (rest : Result (List Token) Placed) → with_front (t ∷ []) rest ≡ Ok [] → ⊥
no_token t (Ok ts) is = absurd cc
no_token t (Err e) is = absurd cc

-- the text's tokens so far, and what has been read of them
pub record FrontRead (text : List ℕ) (scanner : Scanner) (language : Language) (read : Result Progress SyntaxFault) : Type 0 where
  pub front : List Token
  pub tells : Tells text (with_front front (unread front scanner))
  pub speaks : language_of front ≡ language
  pub settled : IsLong front ⊎ (unread front scanner ≡ Ok [])
  pub so_far : IsReadSoFar front read

pub begins : (text : List ℕ) (start scanner : Scanner) (ts : List Token) (read : Result Progress SyntaxFault) → HasWhole text start
    → IsFront ts start scanner → IsReadSoFar ts read → FrontRead text scanner (language_of ts) read
begins text start scanner ts read whole is so_far = record {
  front = ts;
  tells = whole (with_front ts (unread ts scanner)) (is.0 (unread ts scanner) (leaves_unread ts scanner));
  speaks = refl;
  settled = by is.1;
  so_far = so_far;
}
  where
    by : (length ts ≡ 3) ⊎ Leaves ts scanner (Ok []) → IsLong ts ⊎ (unread ts scanner ≡ Ok [])
    by (inl three) = inl (three_long ts three)
    by (inr all) = inr (unread_is ts scanner (Ok []) all)

pub goes_further : (text : List ℕ) (old new : Scanner) (language : Language) (t : Token) (read next : Result Progress SyntaxFault)
    → FrontRead text old language read → ((before : List Token) → language_of before ≡ language → Hands before old (Ok (Some t)) new)
    → Goes language read t next → FrontRead text new language next
goes_further text old new language t read next is hands goes = by is.settled
  where
    one : unread is.front old ≡ with_front (t ∷ []) (unread (is.front ++ t ∷ []) new)
    one = handed is.front old (Ok (Some t)) new (hands is.front is.speaks)

    by : IsLong is.front ⊎ (unread is.front old ≡ Ok []) → FrontRead text new language next
    by (inl long) = record {
      front = is.front ++ t ∷ [];
      tells = subst (Tells text) (ap (with_front is.front) one ∙ fronts is.front (t ∷ []) (unread (is.front ++ t ∷ []) new)) is.tells;
      speaks = language_more is.front (t ∷ []) long ∙ is.speaks;
      settled = inl (long_more is.front (t ∷ []) long);
      so_far = read_more is.front t long read next is.so_far (subst (λ l. Goes l read t next) (sym is.speaks) goes);
    }
    by (inr all) = absurd (no_token t (unread (is.front ++ t ∷ []) new) (sym one ∙ all))

pub ends : (text : List ℕ) (old new : Scanner) (language : Language) (read : Result Progress SyntaxFault) (r : Result (List Statement) SyntaxFault)
    → FrontRead text old language read → ((before : List Token) → language_of before ≡ language → Hands before old (Ok None) new)
    → MatchResult read (λ p. r ≡ Ok p.statements) (λ e. r ≡ Err e) → TextRead text r
ends text old new language read r is hands told = by read is.so_far told
  where
    are : AreTokens text is.front
    are =
        let none = handed is.front old (Ok None) new (hands is.front is.speaks) in
        subst (AreTokens text) (append-nil is.front) (subst (λ rest. Tells text (with_front is.front rest)) none.0 is.tells)

    by : (read : Result Progress SyntaxFault) → IsReadSoFar is.front read → MatchResult read (λ p. r ≡ Ok p.statements) (λ e. r ≡ Err e) → TextRead text r
    by (Ok p) so_far told = subst (TextRead text) (sym told) (is.front, are, (p, so_far, refl))
    by (Err e) so_far told = subst (TextRead text) (sym told) (inr (is.front, are, so_far))

-- the fault that a scanner finds is returned
pub is_fault : (whole : Result (List Token) Placed) (front : List Token) (old new : Scanner) (error : Stop Placed) (e : SyntaxFault)
    → whole ≡ with_front front (unread front old) → Hands front old (Err error) new → TellsScan error e → IsFault whole e
is_fault whole ts old new (stop.Fault placed) e same hands tells =
    subst (IsFault whole) (sym tells) (placed, same ∙ ap (with_front ts) (handed ts old (Err (stop.Fault placed)) new hands), refl)
is_fault whole ts old new (stop.Memory error) (refusal.Memory e) same hands tells = tt
is_fault whole ts old new (stop.Memory error) (refusal.Fault code l column) same hands tells = absurd tells

pub faulted : (text : List ℕ) (old new : Scanner) (language : Language) (read : Result Progress SyntaxFault) (error : Stop Placed) (e : SyntaxFault)
    → FrontRead text old language read → ((before : List Token) → language_of before ≡ language → Hands before old (Err error) new)
    → TellsScan error e → TextRead text (Err e)
faulted text old new language read error e is hands tells =
    let whole = with_front is.front (unread is.front old) in
    inl (whole, is.tells, is_fault whole is.front old new error e refl (hands is.front is.speaks) tells)

-- the clauses of the reader, of a text that is these characters
module _ (bytes : List ℕ) (text : List ℕ) where
  pub text_found : (statements : List Statement) → IsUtf8 bytes → text ≡ chars bytes → TextRead text (Ok statements) → IsTreeOf bytes statements
  text_found statements utf8 is (ts, are, all) = is_found bytes ts statements utf8 (subst (λ cs. AreTokens cs ts) is are) all

  pub text_only : (statements : List Statement) → text ≡ chars bytes → TextRead text (Ok statements) → (lines : List StatedLine) → IsStatements bytes lines
      → statements ≡ file_tree lines
  text_only statements is (ts, are, all) lines stated = is_only bytes ts statements (subst (λ cs. AreTokens cs ts) is are) all lines stated

  by_fault : (e : SyntaxFault) (whole : Result (List Token) Placed) → IsUtf8 bytes → Tells (chars bytes) whole → IsFault whole e → TellsFirstFault bytes e
  by_fault (refusal.Memory e) whole utf8 tells fault = tt
  by_fault (refusal.Fault code l column) whole utf8 tells (placed, is, told) =
      told_scanned bytes (refusal.Fault code l column) placed.fault placed.at told utf8 (subst (Tells (chars bytes)) is tells)

  pub text_first : (e : SyntaxFault) → IsUtf8 bytes → text ≡ chars bytes → TextRead text (Err e) → TellsFirstFault bytes e
  text_first e utf8 is (inl (whole, tells, fault)) = by_fault e whole utf8 (subst (λ cs. Tells cs whole) is tells) fault
  text_first e utf8 is (inr (ts, are, stopped)) = is_first bytes ts e utf8 (subst (λ cs. AreTokens cs ts) is are) stopped

-- the first tokens of a text, one for each turn
pub record OpeningRead (start scanner : Scanner) (ts : List Token) (turns : ℕ) : Type 0 where
  pub same : unread [] start ≡ with_front ts (unread ts scanner)
  pub count : length ts ≡ turns

pub none_read : (start : Scanner) → OpeningRead start start [] 0
none_read start = record { same = sym (front_none (unread [] start)); count = refl }

pub front_left : (start scanner : Scanner) (ts : List Token) → unread [] start ≡ with_front ts (unread ts scanner) → (read : Result (List Token) Placed)
    → Leaves ts scanner read → Leaves [] start (with_front ts read)
front_left start scanner ts same read left = leaves [] start (with_front ts read) (same ∙ ap (with_front ts) (unread_is ts scanner read left))

module _ (start old new : Scanner) (ts : List Token) (turns : ℕ) (few : turns < 3) (is : OpeningRead start old ts turns) where
  speaks_first : language_of ts ≡ First
  speaks_first = short_first ts (omega (arith, few, is.count))

  pub opening_more : (t : Token) → ((before : List Token) → language_of before ≡ First → Hands before old (Ok (Some t)) new)
      → OpeningRead start new (ts ++ t ∷ []) (turns + 1)
  opening_more t hands = record {
    same = is.same ∙ ap (with_front ts) (handed ts old (Ok (Some t)) new (hands ts speaks_first)) ∙ fronts ts (t ∷ []) (unread (ts ++ t ∷ []) new);
    count = omega (arith, is.count, length-append ts (t ∷ []));
  }

  pub opening_all : ((before : List Token) → language_of before ≡ First → Hands before old (Ok None) new)
      → IsFront ts start new
  opening_all hands =
      let none = handed ts old (Ok None) new (hands ts speaks_first) in
      (front_left start new ts (is.same ∙ ap (with_front ts) (none.0 ∙ sym none.1)), inr (leaves ts new (Ok []) none.1))

  pub opening_fault : (error : Stop Placed) (e : SyntaxFault) → ((before : List Token) → language_of before ≡ First → Hands before old (Err error) new)
      → TellsScan error e → LeavesFault start e
  opening_fault error e hands tells =
      (unread [] start, leaves_unread [] start, is_fault (unread [] start) ts old new error e is.same (hands ts speaks_first) tells)

pub memory_left : (start : Scanner) (e : SyntaxFault) → IsWantOfMemory e → LeavesFault start e
memory_left start (refusal.Memory e) want = (unread [] start, leaves_unread [] start, tt)
memory_left start (refusal.Fault code l column) want = absurd want

pub if_err : {A : Type 0} (r : Result A SyntaxFault) (P Q : SyntaxFault → Type 0) → IsErrAnd r P → ((e : SyntaxFault) → P e → Q e) → IfErr r Q
if_err (Ok x) P Q is goes = tt
if_err (Err e) P Q is goes = goes e is
