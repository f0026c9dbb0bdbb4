-- A value that is known, if there is one.
use Rattle.std.proofs.Common.{◌≡◌, Result, Ok, Err, IfOk, sym, subst}

pub if_ok_same : {A E : Type 0} (P : A → Type 0) (x : A) (r : Result A E) → IfOk r (λ y. y ≡ x) → P x → IfOk r P
if_ok_same P x (Ok y) same p = subst P (sym same) p
if_ok_same P x (Err e) same p = tt
