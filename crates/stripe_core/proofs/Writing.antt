-- The core and its history around a write, and what a change of the regions makes of the core.
use Rattle.std.proofs.Common.{Bool, List, ap, false, map, refl, true, ℕ, ◌+◌, ◌∙◌, ◌∷◌, ◌≡◌}
use Rattle.std.proofs.lemmas.Bool.{eq-eqb}
use Rattle.histories.specs.Histories.{History}
use Rattle.page_base.specs.Lanes.{LaneSeen}
use Rattle.page_base.specs.declared.keys.Key.{Key}
use Rattle.page_base.specs.declared.keys.Raise.{Raise}
use Rattle.page_buffer.specs.Buffers.{BufferSeen}
use Rattle.soft_mmu.specs.declared.entry.PageEntry.{PageEntry}
use Rattle.soft_mmu.specs.declared.entry.PageEntry.TheVariants.{Absent, Present}
use Rattle.soft_mmu.specs.declared.entry.Wants.TheVariants as wants
use Rattle.soft_mmu.specs.declared.entry.Found.TheVariants.{Hit}
use Rattle.soft_mmu.specs.Entries.{is_present, translation}
use Rattle.page_model.specs.declared.entry.Cause.{Cause}
use Rattle.page_model.specs.declared.entry.Entry.{Entry}
use Rattle.page_model.specs.declared.entry.Entry.TheVariants.{StartWrite}
use Rattle.page_model.specs.declared.seen.Counts.{Counts}
use Rattle.page_model.specs.Core.{Core, RegionSeen, Writing, place_passes}
use Rattle.page_model.specs.Core as core
use Rattle.page_model.specs.InFlight.{WritesTaken, before_start}
use Rattle.page_model.specs.Readers.{IsWriteOut, PagesShow}
use Rattle.page_model.specs.Setups.{Setup}
use Rattle.page_model.specs.Stands.{StandsFor}
use Rattle.page_model.specs.Steps.{on_region, placed}
use Rattle.page_model.specs.Trips.{Trip}
use Rattle.stripe_core.specs.declared.region.Region.{Region}
use Rattle.stripe_core.specs.Copies.{IsCopyOf}
use Rattle.stripe_core.specs.Parts.{Table, core_of, region_seen}
use Rattle.stripe_core.proofs.Keys.{same_self}

-- a copy that is taken as a write starts is what the page holds there
pub copy_taken : (show : PagesShow) (h : History Entry) (o : ℕ) (c : Core) (k : Key) (why : Cause) (bytes : List ℕ) → StandsFor h c → IsCopyOf c k bytes → WritesTaken c.setup ((o, StartWrite k why) ∷ h) k bytes
copy_taken show h o c k why bytes st copy =
    let seen = show.found h c k copy.there st copy.is in
    let here : before_start ((o, StartWrite k why) ∷ h) k.region ≡ h = rw (eq-eqb k.region k.region refl) refl in
    rw (here, copy.same_bytes) seen.bytes

pub is_write_out : (c : Core) (t : Trip) → IsWriteOut c t → core.is_writing c t.key ≡ true
is_write_out c t out = ap (place_passes (λ place. core.writes place t.key)) out.is ∙ (ap (λ place. core.writes place t.key) out.out ∙ same_self t.key)

-- a page that is present is found
pub found_there : (e : PageEntry) → is_present e ≡ true → (f : ℕ) × (translation e wants.Read ≡ Hit f)
found_there Absent h = absurd cc
found_there (Present true d f) h = (f, refl)
found_there (Present false d f) h = (f, refl)

-- one region changes
pub regions_step : {S : Type 0} (seen : S → LaneSeen) (setup : Setup) (t : Table) (b : BufferSeen) (q : List Raise) (gs new : List (Region S)) (evicting : Bool) (n : Counts) (events r : ℕ) (change : RegionSeen → RegionSeen) (c : Core)
    → core_of seen setup t b q gs evicting n events ≡ c → map (region_seen seen) new ≡ on_region r change (map (region_seen seen) gs)
    → core_of seen setup t b q new evicting n events ≡ record c { regions = on_region r change c.regions }
regions_step seen setup t b q gs new evicting n events r change c is changed = rw (← is) (cc changed)

-- one region's lane goes out for a write, which is an entry
pub write_step : {S : Type 0} (seen : S → LaneSeen) (setup : Setup) (t : Table) (b : BufferSeen) (q : List Raise) (gs new : List (Region S)) (evicting : Bool) (n : Counts) (events : ℕ) (k : Key) (c : Core)
    → core_of seen setup t b q gs evicting n events ≡ c → map (region_seen seen) new ≡ on_region k.region (placed (Writing k events)) (map (region_seen seen) gs)
    → core_of seen setup t b q new evicting n (events + 1) ≡ record c { regions = on_region k.region (placed (Writing k c.events)) c.regions; events = c.events + 1 }
write_step seen setup t b q gs new evicting n events k c is changed = rw (← is) (cc changed)
