-- What follows from a fact of a result.
use Rattle.std.proofs.Common.{Err, IfErr, Ok, OnOk, Result}

module _ {X E : Type 0} where
  pub on_ok : (r : Result X E) → {A B : Type 0} → OnOk r A → (A → B) → OnOk r B
  on_ok (Ok x) h f = f h
  on_ok (Err e) h f = tt

  pub if_err : (r : Result X E) → {P Q : E → Type 0} → IfErr r P → ((e : E) → P e → Q e) → IfErr r Q
  if_err (Ok x) h f = tt
  if_err (Err e) h f = f e h
