-- Which fault is meant by what is next.
use Rattle.std.proofs.Common.{◌≡◌, Bool, true, false, cond, Option, Some, None, refl}
use Rattle.page_base.specs.declared.keys.Key.{Key}
use Rattle.page_base.specs.declared.keys.Raise.{Raise}
use Rattle.page_model.specs.declared.seen.Next.TheVariants as serve
use Rattle.page_model.specs.Faults.{is_protected_why}
use Rattle.page_model.specs.Serving.{chosen}

pub read_key : (stale servable : Option Raise) (waiting : Bool) (k : Key) → chosen stale servable waiting ≡ serve.Read k → (p : Raise) × (servable ≡ Some p) × (p.key ≡ k)
read_key (Some x) servable waiting k e = absurd cc
read_key None None true k e = absurd cc
read_key None None false k e = absurd cc
read_key None (Some p) waiting k e = by_test (is_protected_why p.why) e
  where
    by_test : (b : Bool) → cond b (serve.Open p.key) (serve.Read p.key) ≡ serve.Read k → (q : Raise) × (Some p ≡ Some q) × (q.key ≡ k)
    by_test true e = absurd cc
    by_test false e = (p, refl, cc)

pub open_key : (stale servable : Option Raise) (waiting : Bool) (k : Key) → chosen stale servable waiting ≡ serve.Open k → (p : Raise) × (servable ≡ Some p) × (p.key ≡ k)
open_key (Some x) servable waiting k e = absurd cc
open_key None None true k e = absurd cc
open_key None None false k e = absurd cc
open_key None (Some p) waiting k e = by_test (is_protected_why p.why) e
  where
    by_test : (b : Bool) → cond b (serve.Open p.key) (serve.Read p.key) ≡ serve.Open k → (q : Raise) × (Some p ≡ Some q) × (q.key ≡ k)
    by_test true e = (p, refl, cc)
    by_test false e = absurd cc

pub drop_key : (stale servable : Option Raise) (waiting : Bool) (k : Key) → chosen stale servable waiting ≡ serve.Drop k → (p : Raise) × (stale ≡ Some p) × (p.key ≡ k)
drop_key (Some p) servable waiting k e = (p, refl, cc)
drop_key None None true k e = absurd cc
drop_key None None false k e = absurd cc
drop_key None (Some p) waiting k e = by_test (is_protected_why p.why) e
  where
    by_test : (b : Bool) → cond b (serve.Open p.key) (serve.Read p.key) ≡ serve.Drop k → (q : Raise) × (None ≡ Some q) × (q.key ≡ k)
    by_test true e = absurd cc
    by_test false e = absurd cc

pub some_key : (r p : Raise) → Some r ≡ Some p → r.key ≡ p.key
some_key r p e = cc
