-- Pages that wait, and reads that are out.
use Rattle.std.proofs.Common.{Bool, List, None, Option, Some, [], ap, suc, get_or, arith, cond, false, length, map, refl, sym, true, ℕ, ◌+◌, ◌∙◌, ◌∷◌, ◌≡◌, ◌||◌}
use Rattle.std.specs.List.{list_any, find, filter, count_by}
use Rattle.std.specs.Option.{is_some, option_map}
use Rattle.page_base.specs.Pages.{same}
use Rattle.page_base.specs.declared.keys.Key.{Key}
use Rattle.page_base.specs.declared.keys.Raise.{Raise}
use Rattle.page_base.specs.declared.keys.Why.{Why}
use Rattle.page_base.specs.Lanes.{LaneSeen}
use Rattle.fault_queue.specs.Queues.{pending_why, is_of}
use Rattle.page_model.specs.Faults.{is_waiting}
use Rattle.page_model.specs.Core.{RegionSeen, Core, is_read_place, why_or_read, reads_out, free_frames}
use Rattle.page_model.specs.Setups.{quota}
use Rattle.page_buffer.specs.Frames.{FrameSeen, Free, Reserved, resident_key, is_for}
use Rattle.page_buffer.specs.Frames as frame
use Rattle.page_buffer.specs.Buffers.{BufferSeen, frame_of, reserved_frames, has_frame_for}
use Rattle.soft_mmu.specs.Entries.{table_entry}
use Rattle.soft_mmu.specs.declared.entry.PageEntry.TheVariants.{Absent}
use Rattle.std.proofs.lemmas.Bool.{or_from}
use Rattle.std.proofs.lemmas.List.{length-map}
use Rattle.stripe_core.specs.InsideTied.{Tied, frame_in, reserved_key, read_at}
use Rattle.stripe_core.proofs.Keys.{not_same}
use Rattle.stripe_core.specs.declared.region.Lane.{Lane}
use Rattle.stripe_core.specs.declared.region.Lane.TheVariants as lane
use Rattle.stripe_core.specs.declared.region.Region.{Region}
use Rattle.stripe_core.proofs.Counted.{count_cons}
use Rattle.stripe_core.specs.Parts.{Table, page_seen, pages_seen, region_seen, place_of}
use Rattle.stripe_core.specs.InsideParts.{ReadOut, reads_of, read_of}

pub pending_is : (raises : List Raise) (key : Key) → is_some (pending_why raises key) ≡ is_waiting key raises
pending_is [] key = refl
pending_is (p ∷ ps) key = go (same p.key key) (pending_is ps key)
  where
    go : (x : Bool) → is_some (pending_why ps key) ≡ is_waiting key ps → is_some (option_map (λ (r : Raise). r.why) (cond x (Some p) (find (is_of key) ps))) ≡ (x || is_waiting key ps)
    go true ih = refl
    go false ih = ih

pub why_is : (raises : List Raise) (key : Key) (why : Why) → pending_why raises key ≡ Some why → why_or_read (find (is_of key) raises) ≡ why
why_is raises key why e = go (find (is_of key) raises) e
  where
    go : (x : Option Raise) → option_map (λ (r : Raise). r.why) x ≡ Some why → why_or_read x ≡ why
    go None f = absurd cc
    go (Some p) f = cc

-- the core's reads are those of the regions
pub reads_out_are : {S : Type 0} (seen : S → LaneSeen) (gs : List (Region S)) → length (filter (λ (g : RegionSeen). is_read_place g.place) (map (region_seen seen) gs)) ≡ count_by is_some (reads_of gs)
reads_out_are seen [] = refl
reads_out_are {S} seen (g ∷ gs) = go g.lane (reads_out_are seen gs) ∙ sym (count_cons is_some (read_of g.lane) (reads_of gs))
  where
    go : (l : Lane S) → length (filter (λ (x : RegionSeen). is_read_place x.place) (map (region_seen seen) gs)) ≡ count_by is_some (reads_of gs)
        → length (cond (is_read_place (place_of seen l)) (region_seen seen g ∷ filter (λ (x : RegionSeen). is_read_place x.place) (map (region_seen seen) gs)) (filter (λ (x : RegionSeen). is_read_place x.place) (map (region_seen seen) gs))) ≡ cond (is_some (read_of l)) 1 0 + count_by is_some (reads_of gs)
    go (lane.Home s) ih = omega (arith, ih)
    go (lane.Reading key at why frame) ih = omega (arith, ih)
    go (lane.Writing key at) ih = omega (arith, ih)

-- how many frames are free
pub free_frames_are : {S : Type 0} (seen : S → LaneSeen) (c : Core) (t : Table) (b : BufferSeen) (gs : List (Region S)) (n : ℕ) → Tied t b (reads_of gs) → pages_seen t b ≡ c.pages → map (region_seen seen) gs ≡ c.regions
    → length b.frames ≡ quota c.setup → n + reserved_frames b + length b.residents ≡ length b.frames → n ≡ free_frames c
free_frames_are seen c t b gs n tied pages regions frames all =
    let size : length c.pages ≡ length b.residents = ap length (sym pages) ∙ length-map b.residents (page_seen t b) in
    let outs : reads_out c ≡ count_by is_some (reads_of gs) = ap (λ xs. length (filter (λ (x : RegionSeen). is_read_place x.place) xs)) (sym regions) ∙ reads_out_are seen gs in
    let kept = tied.counted in
    omega (arith, size, outs, kept, frames, all)

-- ---- a page that is neither resident nor being read has no frame

any_none : {A : Type 0} (p : A → Bool) (xs : List A) (d : A) → ((i : ℕ) → p (get_or xs i d) ≡ false) → list_any p xs ≡ false
any_none p [] d e = refl
any_none p (x ∷ xs) d e = or_from (p x) (list_any p xs) (e 0) (any_none p xs d (λ i. e (suc i)))

not_for : (x : FrameSeen) (k : Key) → (resident_key x ≡ Some k → ⊥) → (reserved_key x ≡ Some k → ⊥) → is_for k x ≡ false
not_for Free k held kept = refl
not_for (Reserved j) k held kept = not_same j k (λ e. kept (ap (λ i. Some i) e))
not_for (frame.Resident j bytes) k held kept = not_same j k (λ e. held (ap (λ i. Some i) e))

pub no_frame : (t : Table) (b : BufferSeen) (outs : List (Option ReadOut)) (k : Key) → Tied t b outs → table_entry t k ≡ Absent → read_at outs k.region ≡ None → has_frame_for b k ≡ false
no_frame t b outs k tied absent home =
    any_none (is_for k) b.frames Free (λ f. not_for (frame_of b f) k
    (λ held. let there = tied.frames f k held in let gone : frame_in (table_entry t k) ≡ None = ap frame_in absent in cc)
    (λ kept. let there = tied.kept f k kept in cc))

pub none_of : {A : Type 0} (o : Option A) → is_some o ≡ false → o ≡ None
none_of None e = refl
none_of (Some x) e = absurd cc
