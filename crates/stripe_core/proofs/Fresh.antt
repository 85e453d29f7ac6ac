-- A stripe that has just been made.
use Rattle.std.proofs.Common.{List, None, Option, Some, [], ap, arith, false, get_or, length, map, refl, replicate, slice_get, subst, suc, sym, true, zero, ℕ, ◌<◌, ◌∙◌, ◌∷◌, ◌≡◌, ◌≤◌}
use Rattle.std.proofs.lemmas.Bool.{and_parts, ltb-true}
use Rattle.std.proofs.lemmas.List.{length-map, length-replicate}
use Rattle.std.proofs.lemmas.Option.{slice_get-map, slice_get_within}
use Rattle.std.specs.List.{count_by, list_all}
use Rattle.std.specs.Option.{is_some, option_map, IfSome}
use Rattle.page_base.specs.Lanes.{LaneSeen, told_at}
use Rattle.page_base.specs.declared.keys.Key.{Key}
use Rattle.page_base.specs.declared.keys.RegionShape.{RegionShape}
use Rattle.soft_mmu.specs.declared.entry.PageEntry.{PageEntry}
use Rattle.soft_mmu.specs.declared.entry.PageEntry.TheVariants.{Absent}
use Rattle.soft_mmu.specs.Entries.{table_entry, HasPage, no_pages}
use Rattle.soft_mmu.specs.Entries as table
use Rattle.page_buffer.specs.Frames.{Free, resident_key, is_reserved}
use Rattle.page_buffer.specs.Buffers.{BufferSeen, all_free}
use Rattle.page_model.specs.Setups.{Setup, Fits, quota, has_page, is_page_of, base_of, told_in, pages_of}
use Rattle.page_model.specs.Steps.{fresh_regions, fresh}
use Rattle.page_model.specs.Tallies.{no_counts}
use Rattle.stripe_core.specs.InsideWaiting.{WaitingSeen, is_lost}
use Rattle.page_base.specs.Pages.{on_mark, off_mark}
use Rattle.page_base.specs.declared.keys.Marks.{Marks}
use Rattle.page_base.specs.declared.keys.Raise.{Raise}
use Rattle.stripe_core.specs.declared.config.StripeConfig.{StripeConfig}
use Rattle.stripe_core.specs.declared.region.Region.{Region}
use Rattle.stripe_core.specs.Configs.{setup_of, CanMake}
use Rattle.stripe_core.specs.InsideMade.{no_faults, regions_made, region_made}
use Rattle.stripe_core.specs.InsideReadFaults.{AreShares, HasPagesOf, ReadFaultsSeen}
use Rattle.stripe_core.specs.Parts.{page_seen, region_seen, core_of}
use Rattle.stripe_core.specs.InsideParts.{ReadOut, reads_of}
use Rattle.stripe_core.specs.InsideTied.{Tied, IsSized, frame_in, reserved_key, read_at}
use Rattle.stripe_core.proofs.Counted.{count_cons}

-- ---- nothing is resident, kept or out

rows_absent : (shapes : List RegionShape) (r : ℕ) → (n : ℕ) × (table.region_entries (no_pages shapes) r ≡ replicate n Absent)
rows_absent [] r = (0, refl)
rows_absent (s ∷ shapes) zero = (s.pages, refl)
rows_absent (s ∷ shapes) (suc r) = rows_absent shapes r

replicated : {A : Type 0} (n i : ℕ) (x : A) → get_or (replicate n x) i x ≡ x
replicated zero i x = refl
replicated (suc n) zero x = refl
replicated (suc n) (suc i) x = replicated n i x

pub none_present : (shapes : List RegionShape) (k : Key) → table_entry (no_pages shapes) k ≡ Absent
none_present shapes k =
    let row = rows_absent shapes k.region in
    ap (λ (xs : List PageEntry). get_or xs k.page Absent) row.1 ∙ replicated row.0 k.page Absent

none_out : {S : Type 0} (lanes : List S) (faults : List ReadFaultsSeen) (r : ℕ) → read_at (reads_of (regions_made lanes faults)) r ≡ None
none_out [] faults r = refl
none_out (s ∷ lanes) [] r = refl
none_out (s ∷ lanes) (f ∷ faults) zero = refl
none_out (s ∷ lanes) (f ∷ faults) (suc r) = none_out lanes faults r

no_reserved : (n : ℕ) → count_by is_reserved (replicate n Free) ≡ 0
no_reserved zero = refl
no_reserved (suc n) = count_cons is_reserved Free (replicate n Free) ∙ (let rest = no_reserved n in omega (arith, rest))

no_reads : {S : Type 0} (lanes : List S) (faults : List ReadFaultsSeen) → count_by is_some (reads_of (regions_made lanes faults)) ≡ 0
no_reads [] faults = refl
no_reads (s ∷ lanes) [] = refl
no_reads {S} (s ∷ lanes) (f ∷ faults) =
    let none : Option ReadOut = None in
    count_cons is_some none (reads_of (regions_made lanes faults)) ∙ (let rest = no_reads lanes faults in omega (arith, rest))

pub fresh_tied : {S : Type 0} (shapes : List RegionShape) (page_size n regions : ℕ) (lanes : List S) (faults : List ReadFaultsSeen)
    → Tied (no_pages shapes) (all_free n page_size regions) (reads_of (regions_made lanes faults))
fresh_tied shapes page_size n regions lanes faults = record {
  residents = λ k. sym (ap (λ e. is_some (frame_in e)) (none_present shapes k));
  entries = λ k f e. let none : frame_in (table_entry (no_pages shapes) k) ≡ None = ap frame_in (none_present shapes k) in absurd cc;
  frames = λ f k e. let none : resident_key (get_or (replicate n Free) f Free) ≡ None = ap resident_key (replicated n f Free) in absurd cc;
  kept = λ f k e. let none : reserved_key (get_or (replicate n Free) f Free) ≡ None = ap reserved_key (replicated n f Free) in absurd cc;
  reads = λ r o e. let none = none_out lanes faults r in absurd cc;
  counted = no_reserved n ∙ sym (no_reads lanes faults);
  sizes = length-replicate n false ∙ sym (length-replicate n Free);
  marks = λ k f e. let none : frame_in (table_entry (no_pages shapes) k) ≡ None = ap frame_in (none_present shapes k) in absurd cc;
}

-- ---- the regions

pub made_seen : {S : Type 0} (seen : S → LaneSeen) (lanes : List S) (faults : List ReadFaultsSeen) (shapes : List RegionShape) → map (λ (f : ReadFaultsSeen). f.numbers) faults ≡ map no_faults shapes → length lanes ≡ length shapes
    → map (region_seen seen) (regions_made lanes faults) ≡ fresh_regions shapes (map seen lanes)
made_seen seen [] faults [] e n = refl
made_seen seen [] faults (s ∷ shapes) e n = absurd (omega (arith, n))
made_seen seen (x ∷ lanes) faults [] e n = absurd (omega (arith, n))
made_seen seen (x ∷ lanes) [] (s ∷ shapes) e n = absurd cc
made_seen seen (x ∷ lanes) (f ∷ faults) (s ∷ shapes) e n =
    let here : f.numbers ≡ replicate s.pages 0 = cc in
    let tail : map (λ (f : ReadFaultsSeen). f.numbers) faults ≡ map no_faults shapes = cc in
    let rest = made_seen seen lanes faults shapes tail (omega (arith, n)) in
    cc (here, rest)

pub made_length : {S : Type 0} (lanes : List S) (faults : List ReadFaultsSeen) → length faults ≡ length lanes → length (regions_made lanes faults) ≡ length lanes
made_length [] faults e = refl
made_length (x ∷ lanes) [] e = absurd (omega (arith, e))
made_length (x ∷ lanes) (f ∷ faults) e = ap suc (made_length lanes faults (omega (arith, e)))

pub made_faults : {S : Type 0} (lanes : List S) (faults : List ReadFaultsSeen) (shapes : List RegionShape) → map (λ (f : ReadFaultsSeen). f.numbers) faults ≡ map no_faults shapes
    → (r : ℕ) (g : Region S) → slice_get (regions_made lanes faults) r ≡ Some g → length g.read_faults.numbers ≡ pages_of (slice_get shapes r)
made_faults [] faults shapes e r g is = absurd cc
made_faults (x ∷ lanes) [] shapes e r g is = absurd cc
made_faults (x ∷ lanes) (f ∷ faults) [] e r g is = absurd cc
made_faults (x ∷ lanes) (f ∷ faults) (s ∷ shapes) e zero g is =
    let here : f.numbers ≡ replicate s.pages 0 = cc in
    let same_region : region_made x f ≡ g = cc in
    rw (← same_region, here) (length-replicate s.pages 0)
made_faults (x ∷ lanes) (f ∷ faults) (s ∷ shapes) e (suc r) g is = made_faults lanes faults shapes (cc) r g is

pub made_shares : {S : Type 0} (c : StripeConfig) (lanes : List S) (faults : List ReadFaultsSeen) → AreShares c faults
    → (r : ℕ) (g : Region S) → slice_get (regions_made lanes faults) r ≡ Some g → HasPagesOf c r g.read_faults.share
made_shares {S} c lanes faults shares r g is = shares r g.read_faults (go lanes faults r is)
  where
    go : (ls : List S) (fs : List ReadFaultsSeen) (q : ℕ) → slice_get (regions_made ls fs) q ≡ Some g → slice_get fs q ≡ Some g.read_faults
    go [] fs q e = absurd cc
    go (x ∷ ls) [] q e = absurd cc
    go (x ∷ ls) (f ∷ fs) zero e = let same_region : region_made x f ≡ g = cc in ap (λ (y : Region S). Some y.read_faults) same_region
    go (x ∷ ls) (f ∷ fs) (suc q) e = go ls fs q e

-- ---- the setup

shape_there : (s : Setup) (k : Key) (x : Option RegionShape) → is_page_of s x k ≡ true → (shape : RegionShape) × (x ≡ Some shape) × (k.page < shape.pages)
shape_there s k None e = absurd cc
shape_there s k (Some shape) e = (shape, refl, ltb-true k.page shape.pages (and_parts _ _ e).0)

row_is : (shapes : List RegionShape) (r : ℕ) (s : RegionShape) → slice_get shapes r ≡ Some s → table.region_entries (no_pages shapes) r ≡ replicate s.pages Absent
row_is [] r s e = absurd cc
row_is (x ∷ shapes) zero s e = let same_shape : x ≡ s = cc in ap (λ (y : RegionShape). replicate y.pages Absent) same_shape
row_is (x ∷ shapes) (suc r) s e = row_is shapes r s e

pub fresh_has : (s : Setup) (k : Key) → has_page s k ≡ true → HasPage (no_pages s.shapes) k
fresh_has s k e =
    let there = shape_there s k (slice_get s.shapes k.region) e in
    let within = slice_get_within s.shapes k.region there.0 there.1 in
    record {
      region = rw (length-map s.shapes (λ (x : RegionShape). replicate x.pages Absent)) within;
      page = rw (row_is s.shapes k.region there.0 there.1, length-replicate there.0.pages Absent) there.2;
    }

-- the setup fits, where each lane's pages are whole
pub setup_fits : {S : Type 0} (seen : S → LaneSeen) (c : StripeConfig) (lanes : List S) → CanMake c (map seen lanes) → 1 ≤ quota (setup_of c (map seen lanes)) → 64 ≤ c.layout.page_size → c.layout.page_size ≤ 1048576
    → ((s : S) (page : ℕ) → IfSome (told_at (seen s).told page) (λ bytes. length bytes ≡ (seen s).origin.page_size)) → Fits (setup_of c (map seen lanes))
setup_fits {S} seen c lanes can frames size small whole = record {
  some_bytes = omega arith;
  few_bytes = small;
  some_frame = omega arith;
  some_fault = omega (arith, can.some_fault);
  marks = can.marks;
  percent = can.percent;
  lanes = can.lane_count;
  lane_of = can.lanes;
  page_bytes = λ k bytes has base.
      let there = shape_there (setup_of c (map seen lanes)) k (slice_get c.shapes.items k.region) has in
      go k bytes there.0 there.1 (slice_get lanes k.region) refl base;
}
  where
    go : (k : Key) (bytes : List ℕ) (shape : RegionShape) → slice_get c.shapes.items k.region ≡ Some shape → (x : Option S) → slice_get lanes k.region ≡ x
        → base_of (setup_of c (map seen lanes)) k ≡ Some bytes → length bytes ≡ c.layout.page_size
    go k bytes shape is None none base =
        let gone : slice_get (map seen lanes) k.region ≡ None = slice_get-map seen lanes k.region ∙ ap (option_map seen) none in
        let nothing : base_of (setup_of c (map seen lanes)) k ≡ None = rw gone refl in
        absurd cc
    go k bytes shape is (Some s) here base =
        let lane : slice_get (map seen lanes) k.region ≡ Some (seen s) = slice_get-map seen lanes k.region ∙ ap (option_map seen) here in
        let told : told_at (seen s).told k.page ≡ Some bytes = sym (ap (λ x. told_in x k.page) lane) ∙ base in
        let size_is : (seen s).origin.page_size ≡ c.layout.page_size = (can.lanes k.region shape (seen s) is lane).page_size in
        let P : Option (List ℕ) → Type 0 = λ t. IfSome t (λ b. length b ≡ (seen s).origin.page_size) in
        let whole_page : length bytes ≡ (seen s).origin.page_size = subst P told (whole s k.page) in
        whole_page ∙ size_is

pub faults_length : {S : Type 0} (lanes : List S) (seen : S → LaneSeen) (shapes : List RegionShape) (faults : List ReadFaultsSeen) → map (λ (f : ReadFaultsSeen). f.numbers) faults ≡ map no_faults shapes → length (map seen lanes) ≡ length shapes → length faults ≡ length lanes
faults_length lanes seen shapes faults e n = sym (length-map faults (λ (f : ReadFaultsSeen). f.numbers)) ∙ (ap length e ∙ (length-map shapes no_faults ∙ (sym n ∙ length-map lanes seen)))

pub fresh_sized : {S : Type 0} (seen : S → LaneSeen) (c : StripeConfig) (lanes : List S) (faults : List ReadFaultsSeen) (q : WaitingSeen) (marks : Marks) → CanMake c (map seen lanes) → map (λ (f : ReadFaultsSeen). f.numbers) faults ≡ map no_faults c.shapes.items → AreShares c faults
    → q.raises ≡ [] → q.capacity ≡ c.faults → marks.on ≡ on_mark (quota (setup_of c (map seen lanes))) c.high → marks.off ≡ off_mark (quota (setup_of c (map seen lanes))) c.low
    → IsSized c (map seen lanes) (no_pages c.shapes.items) (all_free (quota (setup_of c (map seen lanes))) c.layout.page_size (length c.shapes.items)) q (regions_made lanes faults) marks
fresh_sized seen c lanes faults q marks can e shares none capacity on off = record {
  table = λ k h. fresh_has (setup_of c (map seen lanes)) k h;
  rows = length-map c.shapes.items (λ (s : RegionShape). replicate s.pages Absent);
  page_size = refl;
  frames = length-replicate (quota (setup_of c (map seen lanes))) Free;
  capacity = capacity;
  regions = made_length lanes faults (faults_length lanes seen c.shapes.items faults e can.lane_count) ∙ (sym (length-map lanes seen) ∙ can.lane_count);
  faults = made_faults lanes faults c.shapes.items e;
  shares = made_shares c lanes faults shares;
  on = on;
  off = off;
  groups = refl;
  few = can.few_regions;
  queued = ap (list_all (λ (p : Raise). has_page (setup_of c (map seen lanes)) p.key)) none;
  lost = let none_lost : count_by (is_lost (no_pages c.shapes.items)) q.raises ≡ 0 = ap (count_by (is_lost (no_pages c.shapes.items))) none in omega (arith, none_lost);
}

pub core_fresh : {S : Type 0} (seen : S → LaneSeen) (c : StripeConfig) (lanes : List S) (faults : List ReadFaultsSeen) (b : BufferSeen) → b.residents ≡ [] → CanMake c (map seen lanes) → map (λ (f : ReadFaultsSeen). f.numbers) faults ≡ map no_faults c.shapes.items
    → core_of seen (setup_of c (map seen lanes)) (no_pages c.shapes.items) b [] (regions_made lanes faults) false no_counts 0 ≡ fresh (setup_of c (map seen lanes))
core_fresh seen c lanes faults b empty can e =
    let regions = made_seen seen lanes faults c.shapes.items e (sym (length-map lanes seen) ∙ can.lane_count) in
    let pages = ap (map (page_seen (no_pages c.shapes.items) b)) empty in
    cc (regions, pages)
