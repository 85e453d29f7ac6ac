-- What table, frames and regions say of one page, and how the core says it.
use Rattle.std.proofs.Common.{Bool, List, None, Option, Some, [], ap, cond, false, length, map, refl, slice_range, sym, true, ℕ, ◌+◌, ◌∙◌, ◌∷◌, ◌≡◌, ◌||◌}
use Rattle.std.specs.List.{find}
use Rattle.std.specs.Option.{is_some}
use Rattle.page_base.specs.Pages.{same}
use Rattle.page_base.specs.declared.keys.Key.{Key}
use Rattle.soft_mmu.specs.declared.entry.PageEntry.{PageEntry}
use Rattle.soft_mmu.specs.declared.entry.PageEntry.TheVariants.{Absent, Present}
use Rattle.soft_mmu.specs.declared.entry.Wants.{Wants}
use Rattle.soft_mmu.specs.declared.entry.Wants.TheVariants as wants
use Rattle.soft_mmu.specs.declared.entry.Found.TheVariants.{Hit, Missing, Protected}
use Rattle.soft_mmu.specs.Entries.{table_entry, translation, bits_of}
use Rattle.page_buffer.specs.Frames.{FrameSeen, Free, Reserved, resident_key, is_resident, bytes_of}
use Rattle.page_buffer.specs.Frames as frame
use Rattle.page_buffer.specs.Buffers.{BufferSeen, frame_of}
use Rattle.page_model.specs.Core.{Resident, Core, page_at, is_present, is_guarded, protects, is_dirty, dirties, is_closing, is_pending, is_reading, is_full}
use Rattle.page_model.specs.Residents.{is_in}
use Rattle.page_model.specs.Events.{InPage, CanLoad}
use Rattle.stripe_core.specs.declared.answers.Look.TheVariants as look
use Rattle.page_model.specs.declared.entry.HintAnswer.{HintAnswer}
use Rattle.page_model.specs.declared.entry.HintAnswer.TheVariants as answer
use Rattle.page_model.specs.Steps.{hinted}
use Rattle.stripe_core.specs.declared.answers.Raise.TheVariants as raise
use Rattle.stripe_core.specs.Answers.{load_look, save_look, raise_answer, GivesBytes}
use Rattle.stripe_core.specs.Parts.{Table, page_in, page_seen, pages_seen}
use Rattle.stripe_core.specs.InsideParts.{ReadOut}
use Rattle.stripe_core.specs.InsideTied.{Tied, frame_in}
use Rattle.stripe_core.proofs.Keys.{same-true}

pub page_key : (b : BufferSeen) (k : Key) (e : PageEntry) → (page_in b k e).key ≡ k
page_key b k Absent = refl
page_key b k (Present protected dirty f) = refl

-- the page among the resident ones
pub found : (t : Table) (b : BufferSeen) (k : Key) (ks : List Key) → find (λ (r : Resident). same r.key k) (map (page_seen t b) ks) ≡ cond (is_in k ks) (Some (page_seen t b k)) None
found t b k [] = refl
found t b k (j ∷ ks) = let key : (page_seen t b j).key ≡ j = page_key b j (table_entry t j) in rw key (go (same j k) refl (found t b k ks))
  where
    go : (x : Bool) → same j k ≡ x → find (λ (r : Resident). same r.key k) (map (page_seen t b) ks) ≡ cond (is_in k ks) (Some (page_seen t b k)) None
        → cond x (Some (page_seen t b j)) (find (λ (r : Resident). same r.key k) (map (page_seen t b) ks)) ≡ cond (x || is_in k ks) (Some (page_seen t b k)) None
    go true e ih = let is : j ≡ k = same-true j k e in ap (λ i. Some (page_seen t b i)) is
    go false e ih = ih

abbrev pub at_entry : BufferSeen → Key → PageEntry → Option Resident
at_entry b k Absent = None
at_entry b k (Present protected dirty f) = Some (page_in b k (Present protected dirty f))

at_is : (b : BufferSeen) (k : Key) (e : PageEntry) → cond (is_some (frame_in e)) (Some (page_in b k e)) None ≡ at_entry b k e
at_is b k Absent = refl
at_is b k (Present protected dirty f) = refl

-- a page is resident where its entry is present, with the entry's bits and the frame's bytes
pub page_is : (t : Table) (b : BufferSeen) (outs : List (Option ReadOut)) (k : Key) → Tied t b outs → find (λ (r : Resident). same r.key k) (pages_seen t b) ≡ at_entry b k (table_entry t k)
page_is t b outs k tied = found t b k b.residents ∙ (ap (λ x. cond x (Some (page_seen t b k)) None) (tied.residents k) ∙ at_is b k (table_entry t k))

-- ---- what an access finds

pub record Held (e : PageEntry) (f : ℕ) : Type 0 where
  pub protected : Bool
  pub dirty : Bool
  pub is : e ≡ Present protected dirty f

pub hit_held : (e : PageEntry) (w : Wants) (f : ℕ) → Hit f ≡ translation e w → Held e f
hit_held Absent w f e = absurd cc
hit_held (Present true d g) wants.Write f e = absurd cc
hit_held (Present true d g) wants.Read f e = let same_frame : g ≡ f = cc in record { protected = true; dirty = d; is = ap (Present true d) same_frame }
hit_held (Present false d g) wants.Read f e = let same_frame : g ≡ f = cc in record { protected = false; dirty = d; is = ap (Present false d) same_frame }
hit_held (Present false d g) wants.Write f e = let same_frame : g ≡ f = cc in record { protected = false; dirty = d; is = ap (Present false d) same_frame }

pub hit_open : (e : PageEntry) (f : ℕ) → Hit f ≡ translation e wants.Write → (d : Bool) × (e ≡ Present false d f)
hit_open Absent f e = absurd cc
hit_open (Present true d g) f e = absurd cc
hit_open (Present false d g) f e = let same_frame : g ≡ f = cc in (d, ap (Present false d) same_frame)

pub missing_absent : (e : PageEntry) (w : Wants) → Missing ≡ translation e w → e ≡ Absent
missing_absent Absent w e = refl
missing_absent (Present true d g) wants.Write e = absurd cc
missing_absent (Present true d g) wants.Read e = absurd cc
missing_absent (Present false d g) wants.Read e = absurd cc
missing_absent (Present false d g) wants.Write e = absurd cc

pub protected_held : (e : PageEntry) → Protected ≡ translation e wants.Write → (d : Bool) × (f : ℕ) × (e ≡ Present true d f)
protected_held Absent e = absurd cc
protected_held (Present true d g) e = (d, g, refl)
protected_held (Present false d g) e = absurd cc

-- a present page's frame holds it
pub holds_page : (t : Table) (b : BufferSeen) (outs : List (Option ReadOut)) (k : Key) (p d : Bool) (f : ℕ) → Tied t b outs → table_entry t k ≡ Present p d f → resident_key (frame_of b f) ≡ Some k
holds_page t b outs k p d f tied e = tied.entries k f (ap frame_in e)

pub is_held : (x : FrameSeen) (k : Key) → resident_key x ≡ Some k → is_resident x ≡ true
is_held Free k e = absurd cc
is_held (Reserved j) k e = absurd cc
is_held (frame.Resident j bytes) k e = refl

-- ---- what the core answers

pub there : (c : Core) (b : BufferSeen) (k : Key) (e : PageEntry) (f : ℕ) → page_at c k ≡ at_entry b k e → (h : Held e f) → page_at c k ≡ Some (page_in b k (Present h.protected h.dirty f))
there c b k e f at h = at ∙ ap (at_entry b k) h.is

pub load_hit : (c : Core) (b : BufferSeen) (k : Key) (e : PageEntry) (f : ℕ) → is_closing c k.region ≡ false → page_at c k ≡ at_entry b k e → Held e f → look.Hit ≡ load_look c k
load_hit c b k e f calm at h = let is = there c b k e f at h in rw (calm, is) refl

pub load_miss : (c : Core) (b : BufferSeen) (k : Key) (e : PageEntry) → is_closing c k.region ≡ false → page_at c k ≡ at_entry b k e → e ≡ Absent → look.Missing ≡ load_look c k
load_miss c b k e calm at absent = let none : page_at c k ≡ None = at ∙ ap (at_entry b k) absent in rw (calm, none) refl

pub load_gives : (c : Core) (b : BufferSeen) (k : Key) (e : PageEntry) (f place : ℕ) (bytes : List ℕ) → page_at c k ≡ at_entry b k e → Held e f
    → bytes ≡ slice_range (bytes_of (frame_of b f)) place (place + length bytes) → GivesBytes c k place bytes
load_gives c b k e f place bytes at h is = record { there = page_in b k (Present h.protected h.dirty f); is = there c b k e f at h; gives = is }

pub save_hit : (c : Core) (b : BufferSeen) (k : Key) (e : PageEntry) (d : Bool) (f : ℕ) → is_closing c k.region ≡ false → page_at c k ≡ at_entry b k e → e ≡ Present false d f → look.Hit ≡ save_look c k
save_hit c b k e d f calm at held = let is : page_at c k ≡ Some (page_in b k (Present false d f)) = at ∙ ap (at_entry b k) held in rw (calm, is) refl

pub save_protected : (c : Core) (b : BufferSeen) (k : Key) (e : PageEntry) (d : Bool) (f : ℕ) → is_closing c k.region ≡ false → page_at c k ≡ at_entry b k e → e ≡ Present true d f → look.Protected ≡ save_look c k
save_protected c b k e d f calm at held = let is : page_at c k ≡ Some (page_in b k (Present true d f)) = at ∙ ap (at_entry b k) held in rw (calm, is) refl

pub save_miss : (c : Core) (b : BufferSeen) (k : Key) (e : PageEntry) → is_closing c k.region ≡ false → page_at c k ≡ at_entry b k e → e ≡ Absent → look.Missing ≡ save_look c k
save_miss c b k e calm at absent = let none : page_at c k ≡ None = at ∙ ap (at_entry b k) absent in rw (calm, none) refl

-- ---- that an access is one that the history may take

pub load_can : (c : Core) (k : Key) (place : ℕ) (bytes : List ℕ) → InPage c.setup k place (length bytes) → look.Hit ≡ load_look c k → GivesBytes c k place bytes → CanLoad c k place bytes
load_can c k place bytes page hit gives = record { in_page = page; not_closing = calm (is_closing c k.region) (is_present c k) hit; there = gives.there; is = gives.is; gives = gives.gives }
  where
    calm : (b d : Bool) → look.Hit ≡ cond b look.Closed (cond d look.Hit look.Missing) → b ≡ false
    calm true d e = absurd cc
    calm false d e = refl

pub record StoreHits (c : Core) (k : Key) : Type 0 where
  pub not_closing : is_closing c k.region ≡ false
  pub present : is_present c k ≡ true
  pub unguarded : is_guarded c k ≡ false

pub save_hits : (c : Core) (k : Key) → look.Hit ≡ save_look c k → StoreHits c k
save_hits c k hit = let all = go (is_closing c k.region) (is_present c k) (is_guarded c k) hit in record { not_closing = all.0; present = all.1; unguarded = all.2 }
  where
    go : (a b d : Bool) → look.Hit ≡ cond a look.Closed (cond b (cond d look.Protected look.Hit) look.Missing) → (a ≡ false) × (b ≡ true) × (d ≡ false)
    go true b d e = absurd cc
    go false false d e = absurd cc
    go false true true e = absurd cc
    go false true false e = (refl, refl, refl)

-- ---- readers

pub at_now : (c : Core) (t : Table) (b : BufferSeen) (outs : List (Option ReadOut)) (k : Key) → Tied t b outs → pages_seen t b ≡ c.pages → page_at c k ≡ at_entry b k (table_entry t k)
at_now c t b outs k tied pages = ap (find (λ (r : Resident). same r.key k)) (sym pages) ∙ page_is t b outs k tied

pub present_bit : (c : Core) (b : BufferSeen) (k : Key) (e : PageEntry) → page_at c k ≡ at_entry b k e → (bits_of e).present ≡ is_present c k
present_bit c b k Absent at = sym (ap is_some at)
present_bit c b k (Present p d f) at = sym (ap is_some at)

pub protected_bit : (c : Core) (b : BufferSeen) (k : Key) (e : PageEntry) → page_at c k ≡ at_entry b k e → (bits_of e).protected ≡ is_guarded c k
protected_bit c b k Absent at = sym (ap protects at)
protected_bit c b k (Present p d f) at = sym (ap protects at)

pub dirty_bit : (c : Core) (b : BufferSeen) (k : Key) (e : PageEntry) → page_at c k ≡ at_entry b k e → (bits_of e).dirty ≡ is_dirty c k
dirty_bit c b k Absent at = sym (ap dirties at)
dirty_bit c b k (Present p d f) at = sym (ap dirties at)

-- ---- faults that are raised

pub record FaultHits (c : Core) (k : Key) : Type 0 where
  pub not_pending : is_pending c k ≡ false
  pub not_reading : is_reading c k ≡ false
  pub room : is_full c ≡ false

pub raise_hits : (c : Core) (k : Key) → raise.Raised ≡ raise_answer c k → FaultHits c k
raise_hits c k hit = let all = go (is_pending c k) (is_reading c k) (is_full c) hit in record { not_pending = all.0; not_reading = all.1; room = all.2 }
  where
    go : (a b d : Bool) → raise.Raised ≡ cond (a || b) raise.Pending (cond d raise.QueueFull raise.Raised) → (a ≡ false) × (b ≡ false) × (d ≡ false)
    go true b d e = absurd cc
    go false true d e = absurd cc
    go false false true e = absurd cc
    go false false false e = (refl, refl, refl)

pub hint_fixed : (c : Core) (k : Key) (a : HintAnswer) → (hinted c k a).setup ≡ c.setup
hint_fixed c k answer.Present = refl
hint_fixed c k answer.Pending = refl
hint_fixed c k answer.Raised = refl
hint_fixed c k answer.Full = refl
hint_fixed c k answer.Closed = refl

pub absent_entry : (c : Core) (b : BufferSeen) (k : Key) (e : PageEntry) → page_at c k ≡ at_entry b k e → is_present c k ≡ false → e ≡ Absent
absent_entry c b k Absent at out = refl
absent_entry c b k (Present p d f) at out = let here : is_present c k ≡ true = ap is_some at in absurd cc
