-- Rows before those that are left to gather.
use Rattle.cofactor_trace.proofs.Prelude.{◌≡◌, ℤ, zero, suc, pos, negsuc, List, [], ◌++◌, Result, Ok, Err, refl, sym, ap, append_assoc, All, All-nil, All-cons, Overflow, IsCoefficient, CertRow, Multiple, kept_row, before}

abbrev pub behind : List CertRow → Result (List CertRow) Overflow → Result (List CertRow) Overflow
behind out (Ok rows) = Ok (out ++ rows)
behind out (Err o) = Err o

pub behind-before : (out : List CertRow) (c : ℤ) (m : Multiple) (rest : Result (List CertRow) Overflow) → behind out (before (Ok c) m rest) ≡ behind (out ++ kept_row c m) rest
behind-before out c m (Ok rows) = ap Ok (sym (append_assoc out (kept_row c m) rows))
behind-before out c m (Err o) = refl

pub kept_row-in_range : (c : ℤ) (m : Multiple) → IsCoefficient c → All (λ (r : CertRow). IsCoefficient r.coef) (kept_row c m)
kept_row-in_range (pos zero) m h = All-nil (λ r. IsCoefficient r.coef)
kept_row-in_range (pos (suc n)) m h = All-cons (λ r. IsCoefficient r.coef) _ [] h (All-nil (λ r. IsCoefficient r.coef))
kept_row-in_range (negsuc n) m h = All-cons (λ r. IsCoefficient r.coef) _ [] h (All-nil (λ r. IsCoefficient r.coef))
