-- What is served, by region and kind alone, where no fault is lost.
use Rattle.std.proofs.Common.{◌≡◌, ℕ, ◌%◌, ◌<◌, ◌≤◌, ◌==◌, Bool, true, false, not, cond, List, [], ◌∷◌, length, find, Option, Some, None, is_some, refl, sym, ap, ◌∙◌, arith, ◌||◌, ◌&&◌}
use Rattle.std.specs.Prelude.{nat_lt}
use Rattle.std.specs.List.{list_all, list_any}
use Rattle.std.proofs.lemmas.Bool.{and_parts}
use Rattle.page_base.specs.declared.keys.Key.{Key}
use Rattle.page_base.specs.declared.keys.Raise.{Raise}
use Rattle.page_base.specs.declared.keys.Why.{Why}
use Rattle.page_base.specs.declared.keys.Why.TheVariants.{Read, Write, Protected, Ahead}
use Rattle.soft_mmu.specs.declared.entry.PageEntry.{PageEntry}
use Rattle.soft_mmu.specs.declared.entry.PageEntry.TheVariants.{Absent, Present}
use Rattle.soft_mmu.specs.Entries.{table_entry, is_protected}
use Rattle.page_buffer.specs.Buffers.{BufferSeen}
use Rattle.fault_queue.specs.Queues.{opens, opens_why, group_region, passes_by}
use Rattle.page_model.specs.Faults.{is_protected_why}
use Rattle.page_model.specs.Core.{Core, Resident, page_at, protects, is_closing, is_home, is_guarded, is_present, is_stale, is_servable, waits_for_room, free_frames}
use Rattle.page_model.specs.Setups.{Setup, has_page}
use Rattle.stripe_core.specs.Parts.{Table}
use Rattle.stripe_core.specs.InsideServing.{in_closing, is_ready}
use Rattle.stripe_core.specs.InsideWaiting.{WaitingSeen, is_lost, LostWithin}
use Rattle.stripe_core.proofs.Looks.{at_entry}
use Rattle.stripe_core.proofs.Lost.{count_none}
use Rattle.stripe_core.proofs.Ended.{region_within}

-- tests that agree on a list find the same in it
pub find_same_in : {A : Type 0} (ok p q : A → Bool) (xs : List A) → list_all ok xs ≡ true → ((x : A) → ok x ≡ true → p x ≡ q x) → find p xs ≡ find q xs
find_same_in ok p q [] all same = refl
find_same_in ok p q (x ∷ xs) all same =
    let parts = and_parts (ok x) (list_all ok xs) all in
    let here = same x parts.0 in
    let rest = find_same_in ok p q xs parts.1 same in
    rw (here, rest) refl

pub any_same_in : {A : Type 0} (ok p q : A → Bool) (xs : List A) → list_all ok xs ≡ true → ((x : A) → ok x ≡ true → p x ≡ q x) → list_any p xs ≡ list_any q xs
any_same_in ok p q [] all same = refl
any_same_in ok p q (x ∷ xs) all same =
    let parts = and_parts (ok x) (list_all ok xs) all in
    let here = same x parts.0 in
    let rest = any_same_in ok p q xs parts.1 same in
    rw (here, rest) refl

-- ---- regions as groups

-- a page's region is its group
pub region_is : (s : Setup) (k : Key) → has_page s k ≡ true → length s.shapes ≤ 64 → k.region % 64 ≡ k.region
region_is s k has few = let within = region_within s k has in omega (arith, within, few)

pub region_fits : (s : Setup) (k : Key) → has_page s k ≡ true → k.region % 64 < length s.shapes
region_fits s k has = let within = region_within s k has in omega (arith, within)

pub by_closing : (c : Core) (s : Setup) (raises : List Raise) → list_all (λ (p : Raise). has_page s p.key) raises ≡ true → length s.shapes ≤ 64
    → find (passes_by (λ n b. is_closing c n)) raises ≡ find (in_closing c) raises
by_closing c s raises all few = find_same_in (λ (p : Raise). has_page s p.key) (passes_by (λ n b. is_closing c n)) (in_closing c) raises all (λ p has. ap (is_closing c) (region_is s p.key has few))

pub by_ready : (c : Core) (s : Setup) (raises : List Raise) → list_all (λ (p : Raise). has_page s p.key) raises ≡ true → length s.shapes ≤ 64
    → find (passes_by (λ n b. b || (nat_lt 0 (free_frames c) && is_home c n))) raises ≡ find (is_ready c) raises
by_ready c s raises all few =
    find_same_in (λ (p : Raise). has_page s p.key) (passes_by (λ n b. b || (nat_lt 0 (free_frames c) && is_home c n))) (is_ready c) raises all
    (λ p has. ap (λ n. opens p || (nat_lt 0 (free_frames c) && is_home c n)) (region_is s p.key has few))

-- a fault is for a protected page
pub opening : (why : Why) → opens_why why ≡ is_protected_why why
opening Read = refl
opening Write = refl
opening Protected = refl
opening Ahead = refl

pub by_waiting : (c : Core) (s : Setup) (raises : List Raise) → list_all (λ (p : Raise). has_page s p.key) raises ≡ true → length s.shapes ≤ 64
    → find (passes_by (λ n b. not b && is_home c n)) raises ≡ find (waits_for_room c) raises
by_waiting c s raises all few =
    find_same_in (λ (p : Raise). has_page s p.key) (passes_by (λ n b. not b && is_home c n)) (waits_for_room c) raises all
    (λ p has. ap (λ n. not (opens p) && is_home c n) (region_is s p.key has few) ∙ ap (λ b. not b && is_home c p.key.region) (opening p.why))

pub by_region : (s : Setup) (raises : List Raise) (region : ℕ) → list_all (λ (p : Raise). has_page s p.key) raises ≡ true → length s.shapes ≤ 64
    → list_any (λ (r : Raise). group_region r == region) raises ≡ list_any (λ (p : Raise). p.key.region == region) raises
by_region s raises region all few =
    any_same_in (λ (p : Raise). has_page s p.key) (λ (r : Raise). group_region r == region) (λ (p : Raise). p.key.region == region) raises all (λ p has. ap (λ n. n == region) (region_is s p.key has few))

-- ---- where no fault is lost

protects_entry : (b : BufferSeen) (k : Key) (e : PageEntry) → protects (at_entry b k e) ≡ is_protected e
protects_entry b k Absent = refl
protects_entry b k (Present p d f) = refl

there : (o : Option Resident) → protects o ≡ true → is_some o ≡ true
there None e = absurd cc
there (Some r) e = refl

or_nothing : (b : Bool) → b ≡ (b || false)
or_nothing true = refl
or_nothing false = refl

closing_stale : (c : Core) (p : Raise) → (opens p ≡ true → is_guarded c p.key ≡ true) → in_closing c p ≡ is_stale c p
closing_stale c p fits = by_test (opens p) refl
  where
    by_test : (b : Bool) → opens p ≡ b → in_closing c p ≡ is_stale c p
    by_test true e =
        let present : is_present c p.key ≡ true = there (page_at c p.key) (fits e) in
        let why : is_protected_why p.why ≡ true = sym (opening p.why) ∙ e in
        or_nothing (is_closing c p.key.region) ∙ ap (λ b. is_closing c p.key.region || b) (rw (why, present) refl)
    by_test false e =
        let why : is_protected_why p.why ≡ false = sym (opening p.why) ∙ e in
        or_nothing (is_closing c p.key.region) ∙ ap (λ b. is_closing c p.key.region || b) (rw why refl)

ready_servable : (c : Core) (p : Raise) → (opens p ≡ true → is_guarded c p.key ≡ true) → is_ready c p ≡ is_servable c p
ready_servable c p fits = by_test (opens p) refl
  where
    by_test : (b : Bool) → opens p ≡ b → is_ready c p ≡ is_servable c p
    by_test true e =
        let why : is_protected_why p.why ≡ true = sym (opening p.why) ∙ e in
        ap (λ b. b || (nat_lt 0 (free_frames c) && is_home c p.key.region)) e ∙ sym (ap (λ b. cond b (is_guarded c p.key) (nat_lt 0 (free_frames c) && is_home c p.key.region)) why ∙ fits e)
    by_test false e =
        let why : is_protected_why p.why ≡ false = sym (opening p.why) ∙ e in
        ap (λ b. b || (nat_lt 0 (free_frames c) && is_home c p.key.region)) e ∙ sym (ap (λ b. cond b (is_guarded c p.key) (nat_lt 0 (free_frames c) && is_home c p.key.region)) why)

module _ (c : Core) (t : Table) (b : BufferSeen) (q : WaitingSeen) (within : LostWithin t q) (none : q.lost ≡ 0) (at : (k : Key) → page_at c k ≡ at_entry b k (table_entry t k)) where
  kept : list_all (λ p. not (is_lost t p)) q.raises ≡ true
  kept = count_none (is_lost t) q.raises (omega (arith, within, none))

  fits : (p : Raise) → not (is_lost t p) ≡ true → opens p ≡ true → is_guarded c p.key ≡ true
  fits p found opening_ = ap protects (at p.key) ∙ (protects_entry b p.key (table_entry t p.key) ∙ by_tests (opens p) (is_protected (table_entry t p.key)) found opening_)
    where
      by_tests : (o g : Bool) → not (o && not g) ≡ true → o ≡ true → g ≡ true
      by_tests true true h e = refl
      by_tests true false h e = absurd cc
      by_tests false g h e = absurd cc

  pub none_stale : find (in_closing c) q.raises ≡ find (is_stale c) q.raises
  none_stale = find_same_in (λ p. not (is_lost t p)) (in_closing c) (is_stale c) q.raises kept (λ p found. closing_stale c p (fits p found))

  pub all_ready : find (is_ready c) q.raises ≡ find (is_servable c) q.raises
  all_ready = find_same_in (λ p. not (is_lost t p)) (is_ready c) (is_servable c) q.raises kept (λ p found. ready_servable c p (fits p found))

-- a fault that is raised for its page isn't lost
pub raised_fits : (c : Core) (t : Table) (b : BufferSeen) (p : Raise) → page_at c p.key ≡ at_entry b p.key (table_entry t p.key) → (opens p ≡ true → is_guarded c p.key ≡ true) → is_lost t p ≡ false
raised_fits c t b p at fits = by_tests (opens p) (is_protected (table_entry t p.key)) (λ e. sym (protects_entry b p.key (table_entry t p.key)) ∙ (sym (ap protects at) ∙ fits e))
  where
    by_tests : (o g : Bool) → (o ≡ true → g ≡ true) → (o && not g) ≡ false
    by_tests true true h = refl
    by_tests true false h = absurd (let e : false ≡ true = h refl in cc)
    by_tests false g h = refl
