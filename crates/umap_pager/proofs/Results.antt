-- What follows from a fact of a result.
use Rattle.std.proofs.Common.{◌≡◌, Err, Ok, OnOk, OnErr, IfOk, IfErr, Result, Some}

module _ {X E : Type 0} where
  pub on_ok : (r : Result X E) → {A B : Type 0} → OnOk r A → (A → B) → OnOk r B
  on_ok (Ok x) h f = f h
  on_ok (Err e) h f = tt

  pub both_ok : (r : Result X E) → {A B C : Type 0} → OnOk r A → OnOk r B → (A → B → C) → OnOk r C
  both_ok (Ok x) h k f = f h k
  both_ok (Err e) h k f = tt

  pub on_err : (r : Result X E) → {A B : Type 0} → OnErr r A → (A → B) → OnErr r B
  on_err (Ok x) h f = tt
  on_err (Err e) h f = f h

module _ {X E : Type 0} where
  pub if_ok : (r : Result X E) → {P Q : X → Type 0} → IfOk r P → ((x : X) → P x → Q x) → IfOk r Q
  if_ok (Ok x) h f = f x h
  if_ok (Err e) h f = tt

  pub if_err : (r : Result X E) → {P Q : E → Type 0} → IfErr r P → ((e : E) → P e → Q e) → IfErr r Q
  if_err (Ok x) h f = tt
  if_err (Err e) h f = f e h

pub same_some : {X : Type 0} (x y : X) → Some x ≡ Some y → x ≡ y
same_some x y e = cc
