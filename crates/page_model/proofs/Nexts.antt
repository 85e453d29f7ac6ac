-- What is known of the fault that is served next.
use Rattle.std.proofs.Common.{Bool, None, Option, Some, cond, false, find, nat_lt, not, refl, true, ◌&&◌, ◌<◌, ◌≡◌}
use Rattle.std.proofs.lemmas.Bool.{and_parts, ltb-true, or_parts}
use Rattle.std.specs.List.{list_any}
use Rattle.histories.specs.Histories.{History}
use Rattle.page_base.specs.declared.keys.Key.{Key}
use Rattle.page_base.specs.declared.keys.Raise.{Raise}
use Rattle.page_model.specs.declared.entry.Entry.{Entry}
use Rattle.page_model.specs.Bits.{is_protected}
use Rattle.page_model.specs.Closings.{is_closing}
use Rattle.page_model.specs.Faults.{is_protected_why, pending}
use Rattle.page_model.specs.InFlight.{is_home}
use Rattle.page_model.specs.Residents.{free_frames, is_resident}
use Rattle.page_model.specs.Serving.{chosen, is_servable, is_stale, next_of, waits_for_room}
use Rattle.page_model.specs.Setups.{Setup}
use Rattle.page_model.proofs.Lists.{find_passes, none_found}
use Rattle.page_model.specs.declared.seen.Next.TheVariants as serve

-- ---- of a choice

open_or_read : (b : Bool) (j k : Key) → cond b (serve.Open j) (serve.Read j) ≡ serve.Read k → (b ≡ false) × (j ≡ k)
open_or_read true j k e = absurd cc
open_or_read false j k e = (refl, cc)

pub chosen_read : (a b : Option Raise) (w : Bool) (k : Key) → chosen a b w ≡ serve.Read k → (p : Raise) × (a ≡ None) × (b ≡ Some p) × (is_protected_why p.why ≡ false) × (p.key ≡ k)
chosen_read (Some p) b w k e = absurd cc
chosen_read None (Some p) w k e = let r = open_or_read (is_protected_why p.why) p.key k e in (p, refl, refl, r.0, r.1)
chosen_read None None true k e = absurd cc
chosen_read None None false k e = absurd cc

open_is_open : (b : Bool) (j k : Key) → cond b (serve.Open j) (serve.Read j) ≡ serve.Open k → (b ≡ true) × (j ≡ k)
open_is_open true j k e = (refl, cc)
open_is_open false j k e = absurd cc

pub chosen_open : (a b : Option Raise) (w : Bool) (k : Key) → chosen a b w ≡ serve.Open k → (p : Raise) × (a ≡ None) × (b ≡ Some p) × (is_protected_why p.why ≡ true) × (p.key ≡ k)
chosen_open (Some p) b w k e = absurd cc
chosen_open None (Some p) w k e = let r = open_is_open (is_protected_why p.why) p.key k e in (p, refl, refl, r.0, r.1)
chosen_open None None true k e = absurd cc
chosen_open None None false k e = absurd cc

no_drop : (b : Bool) (j k : Key) → cond b (serve.Open j) (serve.Read j) ≡ serve.Drop k → ⊥
no_drop true j k e = cc
no_drop false j k e = cc

pub chosen_drop : (a b : Option Raise) (w : Bool) (k : Key) → chosen a b w ≡ serve.Drop k → (p : Raise) × (a ≡ Some p) × (p.key ≡ k)
chosen_drop (Some p) b w k e = (p, refl, cc)
chosen_drop None (Some p) w k e = absurd (no_drop (is_protected_why p.why) p.key k e)
chosen_drop None None true k e = absurd cc
chosen_drop None None false k e = absurd cc

-- ---- of a history

servable_read : (b x y : Bool) → b ≡ false → cond b x y ≡ true → y ≡ true
servable_read b x y e t = rw e at t

servable_open : (b x y : Bool) → b ≡ true → cond b x y ≡ true → x ≡ true
servable_open b x y e t = rw e at t

-- the fault that a read or an opening serves
pub record Served (s : Setup) (h : History Entry) (k : Key) : Type 0 where
  pub raise : Raise
  pub none_stale : find (is_stale h) (pending h) ≡ None
  pub found : find (is_servable s h) (pending h) ≡ Some raise
  pub fresh : is_stale h raise ≡ false
  pub servable : is_servable s h raise ≡ true
  pub key : raise.key ≡ k

pub read_served : (s : Setup) (h : History Entry) (k : Key) → next_of s h ≡ serve.Read k → (x : Served s h k) × (is_protected_why x.raise.why ≡ false)
read_served s h k e =
    let n = chosen_read (find (is_stale h) (pending h)) (find (is_servable s h) (pending h)) (list_any (waits_for_room h) (pending h)) k e in
    (record { raise = n.0; none_stale = n.1; found = n.2; fresh = none_found (is_stale h) (is_servable s h) (pending h) n.0 n.1 n.2; servable = find_passes (is_servable s h) (pending h) n.0 n.2; key = n.4 }, n.3)

pub open_served : (s : Setup) (h : History Entry) (k : Key) → next_of s h ≡ serve.Open k → (x : Served s h k) × (is_protected_why x.raise.why ≡ true)
open_served s h k e =
    let n = chosen_open (find (is_stale h) (pending h)) (find (is_servable s h) (pending h)) (list_any (waits_for_room h) (pending h)) k e in
    (record { raise = n.0; none_stale = n.1; found = n.2; fresh = none_found (is_stale h) (is_servable s h) (pending h) n.0 n.1 n.2; servable = find_passes (is_servable s h) (pending h) n.0 n.2; key = n.4 }, n.3)

pub read_room : (s : Setup) (h : History Entry) (k : Key) → next_of s h ≡ serve.Read k → (0 < free_frames s h) × (is_home h k.region ≡ true)
read_room s h k e =
    let x = read_served s h k e in
    let parts = and_parts (nat_lt 0 (free_frames s h)) (is_home h x.0.raise.key.region) (servable_read (is_protected_why x.0.raise.why) (is_resident h x.0.raise.key && is_protected h x.0.raise.key) _ x.1 x.0.servable) in
    (ltb-true 0 (free_frames s h) parts.0, rw (← x.0.key) parts.1)

pub open_page_is : (s : Setup) (h : History Entry) (k : Key) → next_of s h ≡ serve.Open k → (is_resident h k ≡ true) × (is_protected h k ≡ true)
open_page_is s h k e =
    let x = open_served s h k e in
    let parts = and_parts (is_resident h x.0.raise.key) (is_protected h x.0.raise.key) (servable_open (is_protected_why x.0.raise.why) (is_resident h x.0.raise.key && is_protected h x.0.raise.key) _ x.1 x.0.servable) in
    (rw (← x.0.key) parts.0, rw (← x.0.key) parts.1)

-- a fault that isn't stale is of a region that isn't closing
pub served_open_region : (s : Setup) (h : History Entry) (k : Key) → Served s h k → is_closing h k.region ≡ false
served_open_region s h k x = rw (← x.key) (or_parts (is_closing h x.raise.key.region) (is_protected_why x.raise.why && not (is_resident h x.raise.key)) x.fresh).0
