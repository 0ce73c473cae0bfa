-- two accepted lists, written out
use Rattle.command_shape.proofs.Prelude.{refl, inl, inr, false, [], ◌∷◌, arith, codes, number, flag, Names, Check, Prove, Evidence, ProveCall, PairCall, decimal_digit}

pub call : ProveCall
call = record { file = codes "f"; pairs = 7; steps = 20000; workers = 4; seed = 1; format = 2; models = false }

pub two_options : Names (codes "prove" ∷ codes "f" ∷ codes "--no-models" ∷ codes "--pairs" ∷ codes "7" ∷ []) (Prove call)
unfolding call
two_options = record {
  given = flag (codes "no-models") ∷ number (codes "pairs") 7 ∷ [];
  words_are = rw (decimal_digit 7 (omega arith)) refl;
  file = λ e. cc;
  options = (inr (inr (inr (inr (inr (inl refl))))), ((λ e. cc), tt), (inl (7, refl, omega arith, omega arith), tt, tt));
  pairs = refl;
  steps = refl;
  workers = refl;
  seed = refl;
  format = refl;
  models = refl;
}

pub files : PairCall
files = record { statement = codes "s"; evidence = codes "c" }

pub two_files : Names (codes "check" ∷ codes "s" ∷ codes "c" ∷ []) (Evidence Check files)
unfolding files
two_files = record { words_are = refl; statement = λ e. cc; evidence = λ e. cc }
