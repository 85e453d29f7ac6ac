-- What ties the parts of a stripe to one another between calls. No contract cites this.
use Rattle.std.specs.Prelude.{ℕ, ◌+◌, ◌≡◌, ◌≤◌, List, length, count_by, slice_get, slice_index_or, Option, Some, None, is_some, Bool, not, true, false}
use Rattle.std.specs.List.{list_all}
use Rattle.page_base.specs.declared.keys.Key.{Key}
use Rattle.page_base.specs.declared.keys.Marks.{Marks}
use Rattle.page_base.specs.declared.keys.Raise.{Raise}
use Rattle.page_base.specs.declared.limits.TheConstants.{MOST_REGIONS}
use Rattle.page_base.specs.Lanes.{LaneSeen}
use Rattle.page_base.specs.Pages.{on_mark, off_mark}
use Rattle.soft_mmu.specs.declared.entry.PageEntry.{PageEntry}
use Rattle.soft_mmu.specs.declared.entry.PageEntry.TheVariants.{Absent, Present}
use Rattle.soft_mmu.specs.Entries.{table_entry, HasPage}
use Rattle.page_buffer.specs.Frames.{FrameSeen, Free, Reserved, Resident, resident_key}
use Rattle.page_buffer.specs.Buffers.{BufferSeen, frame_of, is_clean, reserved_frames}
use Rattle.page_model.specs.declared.seen.Counts.{Counts}
use Rattle.page_model.specs.Setups.{quota, has_page, pages_of}
use Rattle.page_model.specs.Residents.{is_in}
use Rattle.stripe_core.specs.declared.config.StripeConfig.{StripeConfig}
use Rattle.stripe_core.specs.declared.region.Region.{Region}
use Rattle.stripe_core.specs.Configs.{setup_of}
use Rattle.stripe_core.specs.Parts.{Table}
use Rattle.stripe_core.specs.InsideParts.{ReadOut}
use Rattle.stripe_core.specs.InsideReadFaults.{HasPagesOf}
use Rattle.stripe_core.specs.InsideWaiting.{WaitingSeen, LostWithin}

-- the frame that an entry names
abbrev pub frame_in : PageEntry → Option ℕ
frame_in Absent = None
frame_in (Present protected dirty frame) = Some frame

-- the page that a frame is kept for
abbrev pub reserved_key : FrameSeen → Option Key
reserved_key Free = None
reserved_key (Reserved key) = Some key
reserved_key (Resident key bytes) = None

abbrev pub read_at : List (Option ReadOut) → ℕ → Option ReadOut
read_at reads r = slice_index_or reads r None

-- the dirty bit of an entry
abbrev pub dirt : PageEntry → Bool
dirt Absent = false
dirt (Present protected dirty frame) = dirty

-- Table, frames and reads name one another: a present page's entry names the frame that holds it, and no other frame does; a
-- read that is out names the frame that is kept for its page, and no other frame is kept. A page is clean in the buffer where its
-- entry isn't dirty.
pub record Tied (t : Table) (b : BufferSeen) (outs : List (Option ReadOut)) : Type 0 where
  pub residents : (k : Key) → is_in k b.residents ≡ is_some (frame_in (table_entry t k))
  pub entries : (k : Key) (f : ℕ) → frame_in (table_entry t k) ≡ Some f → resident_key (frame_of b f) ≡ Some k
  pub frames : (f : ℕ) (k : Key) → resident_key (frame_of b f) ≡ Some k → frame_in (table_entry t k) ≡ Some f
  pub kept : (f : ℕ) (k : Key) → reserved_key (frame_of b f) ≡ Some k → read_at outs k.region ≡ Some (record { key = k; frame = f })
  pub reads : (r : ℕ) (o : ReadOut) → read_at outs r ≡ Some o → (o.key.region ≡ r) × (reserved_key (frame_of b o.frame) ≡ Some o.key)
  pub counted : reserved_frames b ≡ count_by is_some outs
  pub sizes : length b.clean ≡ length b.frames
  pub marks : (k : Key) (f : ℕ) → frame_in (table_entry t k) ≡ Some f → is_clean b f ≡ not (dirt (table_entry t k))

-- the parts have the sizes that the stripe was made with
-- no count is above the number of entries
abbrev pub CountsWithin : Counts → ℕ → Type 0
CountsWithin n events = n.fills + n.writes + n.evictions + n.faults ≤ events

pub record IsSized {S : Type 0} (c : StripeConfig) (lanes : List LaneSeen) (t : Table) (b : BufferSeen) (q : WaitingSeen) (gs : List (Region S)) (marks : Marks) : Type 0 where
  pub table : (k : Key) → has_page (setup_of c lanes) k ≡ true → HasPage t k
  pub rows : length t ≡ length c.shapes.items
  pub page_size : b.page_size ≡ c.layout.page_size
  pub frames : length b.frames ≡ quota (setup_of c lanes)
  pub capacity : q.capacity ≡ c.faults
  pub regions : length gs ≡ length c.shapes.items
  pub faults : (r : ℕ) (g : Region S) → slice_get gs r ≡ Some g → length g.read_faults.numbers ≡ pages_of (slice_get c.shapes.items r)
  pub shares : (r : ℕ) (g : Region S) → slice_get gs r ≡ Some g → HasPagesOf c r g.read_faults.share
  pub on : marks.on ≡ on_mark (quota (setup_of c lanes)) c.high
  pub off : marks.off ≡ off_mark (quota (setup_of c lanes)) c.low
  pub groups : b.regions ≡ length c.shapes.items
  pub few : length c.shapes.items ≤ MOST_REGIONS
  pub queued : list_all (λ (p : Raise). has_page (setup_of c lanes) p.key) q.raises ≡ true
  pub lost : LostWithin t q
