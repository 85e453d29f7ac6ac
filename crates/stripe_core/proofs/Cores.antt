-- What the parts make of the core after an event, by what the event leaves of each.
use Rattle.std.proofs.Common.{Bool, List, Some, slice_get, [], ap, not, nat_le, map, length, sym, ℕ, ◌+◌, ◌++◌, ◌∙◌, ◌∷◌, ◌≡◌, ◌||◌}
use Rattle.page_base.specs.Lanes.{LaneSeen}
use Rattle.page_base.specs.Pages.{on_mark}
use Rattle.page_base.specs.declared.keys.Key.{Key}
use Rattle.page_base.specs.declared.keys.Raise.{Raise}
use Rattle.page_base.specs.declared.keys.Why.{Why}
use Rattle.page_buffer.specs.Buffers.{BufferSeen}
use Rattle.fault_queue.specs.Queues.{without}
use Rattle.page_model.specs.declared.seen.Counts.{Counts}
use Rattle.page_model.specs.Core.{Resident, Home, Reading, why_pending, why_out, why_of_place, frames_held}
use Rattle.page_model.specs.Faults.{is_write}
use Rattle.page_model.specs.Setups.{Setup}
use Rattle.page_model.specs.Steps.{on_region, placed, read_missed, filled_page}
use Rattle.page_model.specs.Steps as step
use Rattle.stripe_core.specs.declared.region.Lane.{Lane}
use Rattle.stripe_core.specs.declared.region.Lane.TheVariants as lane
use Rattle.stripe_core.specs.declared.region.Region.{Region}
use Rattle.stripe_core.proofs.Lanes.{seen_at}
use Rattle.stripe_core.specs.Parts.{Table, pages_seen, region_seen, core_of}

pub core_start : {S : Type 0} (seen : S → LaneSeen) (setup : Setup) (t : Table) (b after : BufferSeen) (queue : List Raise) (gs new : List (Region S)) (evicting : Bool) (counts : Counts) (events : ℕ) (k : Key)
    → pages_seen t after ≡ pages_seen t b
    → map (region_seen seen) new ≡ on_region k.region (placed (Reading k events (why_pending (core_of seen setup t b queue gs evicting counts events) k))) (map (region_seen seen) gs)
    → core_of seen setup t after (without k queue) new evicting counts (events + 1) ≡ step.start_read (core_of seen setup t b queue gs evicting counts events) k
core_start seen setup t b after queue gs new evicting counts events k pages regions = cc (pages, regions)

pub core_fill : {S : Type 0} (seen : S → LaneSeen) (setup : Setup) (t table : Table) (b after : BufferSeen) (queue : List Raise) (gs new : List (Region S)) (evicting now : Bool) (counts : Counts) (events : ℕ) (k : Key) (bytes : List ℕ) (home : LaneSeen)
    → pages_seen table after ≡ pages_seen t b ++ filled_page k (why_out (core_of seen setup t b queue gs evicting counts events) k) bytes ∷ []
    → map (region_seen seen) new ≡ on_region k.region (placed (Home home)) (map (region_seen seen) gs)
    → now ≡ (nat_le (on_mark (frames_held (core_of seen setup t b queue gs evicting counts events)) setup.high) (length (pages_seen t b) + 1) || evicting)
    → core_of seen setup table after queue new now (record counts { fills = counts.fills + 1 }) (events + 1) ≡ step.filled (core_of seen setup t b queue gs evicting counts events) k bytes home
core_fill seen setup t table b after queue gs new evicting now counts events k bytes home pages regions mark = cc (pages, regions, mark)

pub core_fail : {S : Type 0} (seen : S → LaneSeen) (setup : Setup) (t : Table) (b after : BufferSeen) (queue : List Raise) (gs new : List (Region S)) (evicting : Bool) (counts : Counts) (events : ℕ) (k : Key) (home : LaneSeen) (n : ℕ)
    → pages_seen t after ≡ pages_seen t b
    → map (region_seen seen) new ≡ on_region k.region (read_missed k home n) (map (region_seen seen) gs)
    → core_of seen setup t after queue new evicting (record counts { faults = counts.faults + 1 }) (events + 1) ≡ step.read_failed (core_of seen setup t b queue gs evicting counts events) k home n
core_fail seen setup t b after queue gs new evicting counts events k home n pages regions = cc (pages, regions)

-- a page as it is filled
pub page_made : (k : Key) (w : Bool) (x y : Why) (bytes : List ℕ) → w ≡ is_write y → x ≡ y → (let made : Resident = record { key = k; protected = not w; dirty = w; bytes = bytes } in made ≡ filled_page k x bytes)
page_made k w x y bytes e f =
    let writes : w ≡ is_write x = e ∙ sym (ap is_write f) in
    ap (λ b. record { key = k; protected = not b; dirty = b; bytes = bytes }) writes

-- why the read that is out is made
pub why_of_read : {S : Type 0} (seen : S → LaneSeen) (gs : List (Region S)) (r : ℕ) (g : Region S) (k : Key) (at : ℕ) (why : Why) (f : ℕ) → slice_get gs r ≡ Some g → g.lane ≡ lane.Reading k at why f
    → why_of_place (slice_get (map (region_seen seen) gs) r) ≡ why
why_of_read {S} seen gs r g k at why f is was = ap why_of_place (seen_at seen gs r g is) ∙ ap (λ (l : Lane S). why_of_place (Some (region_seen seen (record g { lane = l })))) was
