-- That the events keep the sizes that the stripe was made with.
use Rattle.std.proofs.lemmas.Bool.{and_parts, and_from}
use Rattle.std.proofs.lemmas.List.Folds.{list_all-append}
use Rattle.std.proofs.Common.{Bool, arith, cond, false, get_or, ◌&&◌, ◌++◌, ◌<◌, ◌⊎◌, ◌∷◌, slice_set, suc, zero, List, Some, [], inl, inr, length, refl, slice_get, set, true, ℕ, ap, ◌∙◌, ◌≡◌, length-set}
use Rattle.page_base.specs.declared.keys.Key.{Key}
use Rattle.page_base.specs.declared.keys.Marks.{Marks}
use Rattle.page_base.specs.declared.keys.Raise.{Raise}
use Rattle.std.specs.List.{Contains, list_all, filter}
use Rattle.page_base.specs.Lanes.{LaneSeen}
use Rattle.soft_mmu.specs.declared.entry.PageEntry.{PageEntry}
use Rattle.soft_mmu.specs.Entries.{region_entries, with_entry, HasPage}
use Rattle.page_buffer.specs.Frames.{FrameSeen}
use Rattle.page_buffer.specs.Buffers.{BufferSeen, with_frame}
use Rattle.page_model.specs.Setups.{has_page}
use Rattle.stripe_core.specs.declared.config.StripeConfig.{StripeConfig}
use Rattle.stripe_core.specs.declared.region.Region.{Region}
use Rattle.stripe_core.specs.Configs.{setup_of}
use Rattle.stripe_core.specs.InsideReadFaults.{ReadFaultsSeen}
use Rattle.stripe_core.specs.Parts.{Table}
use Rattle.stripe_core.specs.InsideTied.{IsSized}
use Rattle.stripe_core.specs.InsideWaiting.{WaitingSeen, LostWithin}
use Rattle.stripe_core.proofs.Keys.{page_kept}

-- after a change of frames
pub resized : {S : Type 0} {c : StripeConfig} {lanes : List LaneSeen} {t : Table} {b : BufferSeen} {q : WaitingSeen} {gs : List (Region S)} {marks : Marks} (after : BufferSeen)
    → after.page_size ≡ b.page_size → after.regions ≡ b.regions → length after.frames ≡ length b.frames → IsSized c lanes t b q gs marks → IsSized c lanes t after q gs marks
resized after size regions frames z = record { table = z.table; rows = z.rows; page_size = size ∙ z.page_size; frames = frames ∙ z.frames; capacity = z.capacity; regions = z.regions; faults = z.faults; shares = z.shares; on = z.on; off = z.off; groups = regions ∙ z.groups; few = z.few; queued = z.queued; lost = z.lost }

-- after a change of one entry
pub retabled : {S : Type 0} {c : StripeConfig} {lanes : List LaneSeen} {t : Table} {b : BufferSeen} {q : WaitingSeen} {gs : List (Region S)} {marks : Marks} (j : Key) (e : PageEntry)
    → HasPage t j → LostWithin (with_entry t j e) q → IsSized c lanes t b q gs marks → IsSized c lanes (with_entry t j e) b q gs marks
retabled {t = t} j e has lost z = record { table = λ k h. page_kept t j k e has (z.table k h); rows = length-set t j.region (slice_set (region_entries t j.region) j.page e) ∙ z.rows; page_size = z.page_size; frames = z.frames; capacity = z.capacity; regions = z.regions; faults = z.faults; shares = z.shares; on = z.on; off = z.off; groups = z.groups; few = z.few; queued = z.queued; lost = lost }

-- after a change of the queue
pub requeued : {S : Type 0} {c : StripeConfig} {lanes : List LaneSeen} {t : Table} {b : BufferSeen} {q : WaitingSeen} {gs : List (Region S)} {marks : Marks} (new : WaitingSeen)
    → new.capacity ≡ q.capacity → list_all (λ (p : Raise). has_page (setup_of c lanes) p.key) new.raises ≡ true → LostWithin t new → IsSized c lanes t b q gs marks → IsSized c lanes t b new gs marks
requeued new same_capacity all lost z = record { table = z.table; rows = z.rows; page_size = z.page_size; frames = z.frames; capacity = same_capacity ∙ z.capacity; regions = z.regions; faults = z.faults; shares = z.shares; on = z.on; off = z.off; groups = z.groups; few = z.few; queued = all; lost = lost }

pub framed : (b : BufferSeen) (f : ℕ) (x : FrameSeen) → length (with_frame b f x).frames ≡ length b.frames
framed b f x = length-set b.frames f x

set_cases : {A : Type 0} (xs : List A) (r q : ℕ) (x y : A) → slice_get (set xs r x) q ≡ Some y → ((q ≡ r) × (x ≡ y)) ⊎ (slice_get xs q ≡ Some y)
set_cases [] r q x y e = inr e
set_cases (z ∷ zs) zero zero x y e = inl (refl, cc)
set_cases (z ∷ zs) zero (suc q) x y e = inr e
set_cases (z ∷ zs) (suc r) zero x y e = inr e
set_cases (z ∷ zs) (suc r) (suc q) x y e = elim (set_cases zs r q x y e) [ inl h ↦ inl (ap suc h.0, h.1) | inr h ↦ inr h ]

-- after a change of one region, which keeps how many pages it has, and which of them are the stripe's
pub refaulted : {S : Type 0} {c : StripeConfig} {lanes : List LaneSeen} {t : Table} {b : BufferSeen} {q : WaitingSeen} {gs : List (Region S)} {marks : Marks} (r : ℕ) (g new : Region S)
    → slice_get gs r ≡ Some g → new.read_faults.share ≡ g.read_faults.share → length new.read_faults.numbers ≡ length g.read_faults.numbers → IsSized c lanes t b q gs marks → IsSized c lanes t b q (slice_set gs r new) marks
refaulted {c = c} {gs = gs} r g new e share size z = record {
  table = z.table;
  rows = z.rows;
  page_size = z.page_size;
  frames = z.frames;
  capacity = z.capacity;
  regions = length-set gs r new ∙ z.regions;
  faults = λ q x is. elim (set_cases gs r q new x is) [
    | inl h ↦ rw (h.0, ← h.1) (size ∙ z.faults r g e)
    | inr old ↦ z.faults q x old
  ];
  shares = λ q x is. elim (set_cases gs r q new x is) [
    | inl h ↦ rw (h.0, ← h.1, share) (z.shares r g e)
    | inr old ↦ z.shares q x old
  ];
  on = z.on;
  off = z.off;
  groups = z.groups;
  few = z.few;
  queued = z.queued;
  lost = z.lost;
}

-- after a change of one region that keeps its read faults
pub rezoned : {S : Type 0} {c : StripeConfig} {lanes : List LaneSeen} {t : Table} {b : BufferSeen} {q : WaitingSeen} {gs : List (Region S)} {marks : Marks} (r : ℕ) (g new : Region S)
    → slice_get gs r ≡ Some g → new.read_faults ≡ g.read_faults → IsSized c lanes t b q gs marks → IsSized c lanes t b q (slice_set gs r new) marks
rezoned r g new e kept z = refaulted r g new e (ap (λ (f : ReadFaultsSeen). f.share) kept) (ap (λ (f : ReadFaultsSeen). length f.numbers) kept) z

-- the faults of other pages that wait
pub all_others : (ok : Raise → Bool) (p : Raise → Bool) (raises : List Raise) → list_all ok raises ≡ true → list_all ok (filter p raises) ≡ true
all_others ok p [] e = e
all_others ok p (x ∷ xs) e = let parts = and_parts (ok x) (list_all ok xs) e in go (p x) parts.0 (all_others ok p xs parts.1)
  where
    go : (b : Bool) → ok x ≡ true → list_all ok (filter p xs) ≡ true → list_all ok (cond b (x ∷ filter p xs) (filter p xs)) ≡ true
    go true here ih = and_from (ok x) (list_all ok (filter p xs)) here ih
    go false here ih = ih

pub all_and : (ok : Raise → Bool) (raises : List Raise) (x : Raise) → list_all ok raises ≡ true → ok x ≡ true → list_all ok (raises ++ x ∷ []) ≡ true
all_and ok raises x all here = list_all-append ok raises (x ∷ []) ∙ and_from (list_all ok raises) (ok x && true) all (and_from (ok x) true here refl)

pub all_at : (ok : Raise → Bool) (raises : List Raise) (x : Raise) → list_all ok raises ≡ true → Contains raises x → ok x ≡ true
all_at ok raises x e c = go raises c.0 e c.1 c.2
  where
    go : (xs : List Raise) (k : ℕ) → list_all ok xs ≡ true → k < length xs → get_or xs k x ≡ x → ok x ≡ true
    go [] k all lt is = absurd (omega arith)
    go (y ∷ ys) zero all lt is = let here = (and_parts (ok y) (list_all ok ys) all).0 in let yx : y ≡ x = is in rw (← yx) here
    go (y ∷ ys) (suc k) all lt is = go ys k (and_parts (ok y) (list_all ok ys) all).1 (omega arith) is
