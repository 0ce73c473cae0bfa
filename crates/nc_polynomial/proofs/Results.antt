-- From what a callee returns to what its caller says of the value.
use Rattle.nc_polynomial.proofs.Prelude.{Result, Ok, Err, IfOk, IfErr, MatchResult, IsErrAnd}

pub ok_part : {X Y : Type 0} (r : Result X Y) {P Q : X → Type 0} (F : Y → Type 0) → ((x : X) → P x → Q x) → MatchResult r P F → IfOk r Q
ok_part (Ok x) F then m = then x m
ok_part (Err e) F then m = tt

pub err_part : {X Y : Type 0} → (r : Result X Y) {F G : Y → Type 0} (P : X → Type 0) → ((e : Y) → F e → G e) → MatchResult r P F → IfErr r G
err_part (Ok x) P then m = tt
err_part (Err e) P then m = then e m

pub err_whole : {X Y : Type 0} (r : Result X Y) (P : X → Type 0) {F G : Y → Type 0} → ((e : Y) → F e → G e) → IsErrAnd r F → MatchResult r P G
err_whole (Ok x) P then m = absurd m
err_whole (Err e) P then m = then e m
