-- What a `?` returns where a row of a certificate is added.
use Rattle.certificate_text.proofs.Prelude.{◌≡◌, Result, Ok, Err, sym, ap, subst, IsErrAnd, IsMemory, Gives, Stop, Flaw, ◌>>=◌}
use Rattle.lists.specs.declared.stop.Stop.TheVariants as stop

pub flaw_told : {X Y : Type 0} (view : X → Y) (r : Result X (Stop Flaw)) (read : Result Y Flaw) (f : Flaw) → IsErrAnd r (λ e. e ≡ stop.Fault f) → read ≡ Err f → Gives view r read
flaw_told view (Ok x) read f told is = absurd told
flaw_told view (Err e) read f told is = subst (λ e. Gives view (Err e) read) (sym told) is

pub memory_told : {X Y : Type 0} (view : X → Y) (r : Result X (Stop Flaw)) (read : Result Y Flaw) → IsErrAnd r IsMemory → Gives view r read
memory_told view (Ok x) read told = absurd told
memory_told view (Err (stop.Fault f)) read told = absurd told
memory_told view (Err (stop.Memory e)) read told = tt

pub told_on : {X A Y : Type 0} (view : X → Y) (r : Result X (Stop Flaw)) (read : Result A Flaw) (f : A → Result Y Flaw) (e : Stop Flaw) → IsErrAnd r (λ x. x ≡ e) → Gives (λ x. x) (Err e) read → Gives view r (read >>= f)
told_on view (Ok x) read f e told is = absurd told
told_on view (Err x) read f (stop.Fault flaw) told is = subst (λ y. Gives view (Err y) (read >>= f)) (sym told) (ap (λ r. r >>= f) is)
told_on view (Err x) read f (stop.Memory e) told is = subst (λ y. Gives view (Err y) (read >>= f)) (sym told) tt
