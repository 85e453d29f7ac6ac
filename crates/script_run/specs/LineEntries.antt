-- What each line of a run makes the stripes do: which entries, and where among them the failure that a fault tells of.
-- The entries of a stripe are a list, the newest first; entries of all stripes are given by the stripe's number, as are those
-- that stand behind a line's, `behind`.
use Rattle.std.specs.Prelude.{◌≡◌, ℕ, zero, suc, ◌+◌, ◌*◌, ◌<◌, ◌⊎◌, ◌==◌, ◌&&◌, ◌||◌, not, nat_lt, Bool, true, false, if◌then◌else◌, List, [], ◌∷◌, ◌++◌, filter, length, reverse}
use Rattle.std.specs.List.{list_all, range_with_len}
use Rattle.histories.specs.Histories.{by}
use Rattle.page_base.specs.KeyOrder.{is_below}
use Rattle.page_base.specs.declared.keys.Key.{Key}
use Rattle.page_base.specs.declared.keys.Why.{Why}
use Rattle.page_base.specs.declared.keys.Why.TheVariants.{Read, Write, Protected, Ahead}
use Rattle.page_model.specs.Bits.{is_dirty}
use Rattle.page_model.specs.Closings.{is_closing, is_unmapped}
use Rattle.page_model.specs.Flushed.{IsFlushed}
use Rattle.page_model.specs.Residents.{is_in}
use Rattle.page_model.specs.declared.entry.Cause.{Cause}
use Rattle.page_model.specs.declared.entry.Cause.TheVariants.{Pressure, Flush, Unmap}
use Rattle.page_model.specs.declared.entry.Entry.{Entry}
use Rattle.page_model.specs.declared.entry.Entry.TheVariants.{Load, Save, Raised, StartRead, Filled, ReadFailed, Opened, Dropped, StartWrite, Written, WriteFailed, Evicted, Hint, Closing, Unmapped}
use Rattle.page_model.specs.Entries.{is_access, of_stripe}
use Rattle.page_model.specs.Pieces.{AreBefore, loads, saves}
use Rattle.page_base.specs.declared.keys.Piece.{Piece}
use Rattle.region_table.specs.Pieces.{pieces_of}
use Rattle.serial_pager.specs.Unmappings.{leaves_region, drops}
use Rattle.serial_pager.specs.Writings.{tries, Falls}
use Rattle.workload_text.specs.Line.{Line, map_line, script_line, load_line, store_line, prefetch_line, flush_line, unmap_line}
use Rattle.script_run.specs.Replies.{Reply, nothing, begun, loaded, ok, unmapped, fault}
use Rattle.flat_lines.specs.Spreads.{Spread, stripe_in, piece_key}

-- ---- accesses

-- the loads of the pieces of a range before the one that begins behind `done` bytes
abbrev pub LoadsBefore : (page_size region off len done : ℕ) → List Entry → Type 0
LoadsBefore z r off len done es =
    (ps : List Piece) × (bytes : List ℕ) × AreBefore (pieces_of z r off len) done ps × (length bytes ≡ done) × (es ≡ loads ps bytes)

-- the stores of these bytes to those pieces
abbrev pub SavesBefore : (page_size region off : ℕ) → List ℕ → (done : ℕ) → List Entry → Type 0
SavesBefore z r off bytes done es = (ps : List Piece) × AreBefore (pieces_of z r off (length bytes)) done ps × (es ≡ saves ps bytes)

-- the accesses of a line that was answered so, in order: all its pieces, or those before the one that ended it
abbrev pub Accesses : (page_size : ℕ) → Line → Reply → List Entry → Type 0
Accesses z (load_line r off len) (loaded bytes) es = (length bytes ≡ len) × (es ≡ loads (pieces_of z r off len) bytes)
Accesses z (load_line r off len) (unmapped done) es = LoadsBefore z r off len done es
Accesses z (load_line r off len) (fault k count done) es = LoadsBefore z r off len done es
Accesses z (store_line r off bytes) ok es = es ≡ saves (pieces_of z r off (length bytes)) bytes
Accesses z (store_line r off bytes) (unmapped done) es = SavesBefore z r off bytes done es
Accesses z (store_line r off bytes) (fault k count done) es = SavesBefore z r off bytes done es
Accesses z l reply es = es ≡ []

-- ---- failures

-- the entry that a fault of an access tells of: a read of the page where the line ended failed, or a write that was to make room
abbrev pub Fails : (ended : Key) → Key → (count : ℕ) → Entry → Type 0
Fails ended k count e = ((k ≡ ended) × (e ≡ ReadFailed k count)) ⊎ (e ≡ WriteFailed k count)

-- The one entry that a line's fault tells of, or none. Of a flush or an unmapping it is a failed write.
abbrev pub Failure : (page_size : ℕ) → Line → Reply → List Entry → Type 0
Failure z (load_line r off len) (fault k count done) es = (e : Entry) × (es ≡ e ∷ []) × Fails (piece_key z r (off + done)) k count e
Failure z (store_line r off bytes) (fault k count done) es = (e : Entry) × (es ≡ e ∷ []) × Fails (piece_key z r (off + done)) k count e
Failure z flush_line (fault k count done) es = es ≡ WriteFailed k count ∷ []
Failure z (unmap_line r) (fault k count done) es = es ≡ WriteFailed k count ∷ []
Failure z l reply es = es ≡ []

-- ---- which entries a line may make

-- a byte of the page is one of this range
abbrev pub is_in_range : (page_size region off len : ℕ) → Key → Bool
is_in_range z r off len k = k.region == r && (nat_lt off (k.page * z + z) && nat_lt (k.page * z) (off + len))

-- the line loads from the page
abbrev pub loads_from : (page_size : ℕ) → Line → Key → Bool
loads_from z (map_line name backing size writable) k = false
loads_from z (script_line name) k = false
loads_from z (load_line r off len) k = is_in_range z r off len k
loads_from z (store_line r off bytes) k = false
loads_from z (prefetch_line r off len) k = false
loads_from z flush_line k = false
loads_from z (unmap_line r) k = false

-- the line stores to the page
abbrev pub stores_to : (page_size : ℕ) → Line → Key → Bool
stores_to z (map_line name backing size writable) k = false
stores_to z (script_line name) k = false
stores_to z (load_line r off len) k = false
stores_to z (store_line r off bytes) k = is_in_range z r off (length bytes) k
stores_to z (prefetch_line r off len) k = false
stores_to z flush_line k = false
stores_to z (unmap_line r) k = false

-- the line raises the page for this reason
abbrev pub raises : (page_size : ℕ) → Line → Key → Why → Bool
raises z l k Read = loads_from z l k
raises z l k Write = stores_to z l k
raises z l k Protected = stores_to z l k
raises z l k Ahead = false

-- the line may make page faults, which are served for it
abbrev pub makes_faults : Line → Bool
makes_faults (map_line name backing size writable) = false
makes_faults (script_line name) = false
makes_faults (load_line r off len) = true
makes_faults (store_line r off bytes) = true
makes_faults (prefetch_line r off len) = false
makes_faults flush_line = false
makes_faults (unmap_line r) = false

-- the line flushes
abbrev pub is_flush_line : Line → Bool
is_flush_line (map_line name backing size writable) = false
is_flush_line (script_line name) = false
is_flush_line (load_line r off len) = false
is_flush_line (store_line r off bytes) = false
is_flush_line (prefetch_line r off len) = false
is_flush_line flush_line = true
is_flush_line (unmap_line r) = false

-- the line unmaps this region
abbrev pub is_unmap_of : Line → (region : ℕ) → Bool
is_unmap_of (map_line name backing size writable) q = false
is_unmap_of (script_line name) q = false
is_unmap_of (load_line r off len) q = false
is_unmap_of (store_line r off bytes) q = false
is_unmap_of (prefetch_line r off len) q = false
is_unmap_of flush_line q = false
is_unmap_of (unmap_line r) q = r == q

-- the line may have faults dropped: those of pages that have left, and those of its region
abbrev pub may_drop : Line → Bool
may_drop (unmap_line r) = true
may_drop l = makes_faults l

-- a page of the region is written for the line by this cause
abbrev pub writes_for : Line → Cause → (region : ℕ) → Bool
writes_for l Pressure q = makes_faults l
writes_for l Flush q = is_flush_line l
writes_for l Unmap q = is_unmap_of l q

-- or is evicted
abbrev pub evicts_for : Line → Cause → (region : ℕ) → Bool
evicts_for l Pressure q = makes_faults l
evicts_for l Flush q = false
evicts_for l Unmap q = is_unmap_of l q

-- The line may make this entry before the failure that a fault tells of. Every entry is listed.
abbrev pub may_make : (page_size : ℕ) → Line → Entry → Bool
may_make z l (Load k place bytes) = loads_from z l k
may_make z l (Save k place bytes) = stores_to z l k
may_make z l (Raised k why) = raises z l k why
may_make z l (StartRead k) = makes_faults l
may_make z l (Filled k) = makes_faults l
may_make z l (ReadFailed k n) = makes_faults l
may_make z l (Opened k) = makes_faults l
may_make z l (Dropped k) = may_drop l
may_make z l (StartWrite k why) = writes_for l why k.region
may_make z l (Written k at bytes) = makes_faults l || (is_flush_line l || is_unmap_of l k.region)
may_make z l (WriteFailed k n) = false
may_make z l (Evicted k why) = evicts_for l why k.region
may_make z l (Hint k answer) = false
may_make z l (Closing r) = is_unmap_of l r
may_make z l (Unmapped r) = is_unmap_of l r

-- ---- closed stripes

-- the region closes in the stripe of the page that its byte `at` lies in
abbrev pub closes_by : Spread → (behind : ℕ → List Entry) → (region at : ℕ) → Bool
closes_by t behind r at = is_closing (by 0 (behind (stripe_in t (piece_key t.page_size r at)))) r

-- it does so at none of these first bytes of a range
abbrev pub IsOpenAll : Spread → (behind : ℕ → List Entry) → (region off count : ℕ) → Type 0
IsOpenAll t behind r off count = (i : ℕ) → i < count → closes_by t behind r (off + i) ≡ false

-- it does so first at the byte behind `done` of them
pub record FindsClosing (t : Spread) (behind : ℕ → List Entry) (region off done : ℕ) : Type 0 where
  pub before : IsOpenAll t behind region off done
  pub closes : closes_by t behind region (off + done) ≡ true

-- the region is unmapped in every stripe
abbrev pub is_gone_by : Spread → (behind : ℕ → List Entry) → (region : ℕ) → Bool
is_gone_by t behind r = list_all (λ s. is_unmapped (by 0 (behind s)) r) (range_with_len 0 t.stripes)

-- ---- flushing and unmapping one stripe

-- By these entries, behind others: each dirty page was written once and no other, in rising order of key, and whatever was
-- stored before stands below the start of a finished write of its page.
pub record FlushesBy (behind made : List Entry) : Type 0 where
  pub rising : Falls (tries made)
  pub each : (k : Key) → is_in k (tries made) ≡ is_dirty (by 0 behind) k
  pub flushed : IsFlushed (by 0 (made ++ behind)) (by 0 behind)

-- so it was up to one page, whose write failed
pub record FlushesUpTo (k : Key) (behind made : List Entry) : Type 0 where
  pub rising : Falls (tries made)
  pub each : (j : Key) → is_in j (tries made) ≡ (is_dirty (by 0 behind) j && not (is_below k j))

-- the entry that begins to close the region, where it doesn't close yet
abbrev pub begins_by : (behind : List Entry) → (region : ℕ) → List Entry
begins_by behind r = if is_closing (by 0 behind) r then [] else Closing r ∷ []

-- the region began to close where it didn't before, then faults were dropped, and then its pages were written and evicted
pub record ClearsBy (r : ℕ) (behind made : List Entry) : Type 0 where
  pub left : List Entry
  pub dropped : List Entry
  pub is : made ≡ left ++ (dropped ++ begins_by behind r)
  pub leave : list_all (leaves_region r) left ≡ true
  pub drop : list_all drops dropped ≡ true

-- and then it was unmapped
pub record ClearsAllBy (r : ℕ) (behind made : List Entry) : Type 0 where
  pub before : List Entry
  pub is : made ≡ Unmapped r ∷ before
  pub clears : ClearsBy r behind before

-- so the region was unmapped, unless it was so already and nothing was made
abbrev pub UnmapsBy : (region : ℕ) → (behind made : List Entry) → Type 0
UnmapsBy r behind made =
    ((is_unmapped (by 0 behind) r ≡ true) × (made ≡ [])) ⊎ ((is_unmapped (by 0 behind) r ≡ false) × ClearsAllBy r behind made)

-- or the write of one of its pages failed
pub record FailsToUnmapBy (r : ℕ) (k : Key) (count : ℕ) (behind made : List Entry) : Type 0 where
  pub mapped : is_unmapped (by 0 (made ++ behind)) r ≡ false
  pub before : List Entry
  pub is : made ≡ WriteFailed k count ∷ StartWrite k Unmap ∷ before
  pub clears : ClearsBy r behind before

-- ---- all stripes

-- each stripe did this
abbrev pub EachDoes : Spread → (How : (behind made : List Entry) → Type 0) → (behind made : ℕ → List Entry) → Type 0
EachDoes t How behind made = (s : ℕ) → s < t.stripes → How (behind s) (made s)

-- the stripes below one did this, that one failed so, and those above it made nothing
pub record EachUpTo (stripe : ℕ) (How Fails : (behind made : List Entry) → Type 0) (behind made : ℕ → List Entry) : Type 0 where
  pub before : (s : ℕ) → s < stripe → How (behind s) (made s)
  pub fails : Fails (behind stripe) (made stripe)
  pub above : (s : ℕ) → stripe < s → made s ≡ []

-- the region's unmapping ended in the stripe of its page k
pub record UnmapsUpTo (t : Spread) (r : ℕ) (k : Key) (count : ℕ) (behind made : ℕ → List Entry) : Type 0 where
  pub mapped : is_gone_by t behind r ≡ false
  pub region : k.region ≡ r
  pub stripes : EachUpTo (stripe_in t k) (UnmapsBy r) (FailsToUnmapBy r k count) behind made

-- a fault ended a range at a piece in an open stripe, and is of a page in that stripe
pub record FaultsInOpen (t : Spread) (behind : ℕ → List Entry) (region off done : ℕ) (k : Key) : Type 0 where
  pub stays : IsOpenAll t behind region off (done + 1)
  pub stripe : stripe_in t k ≡ stripe_in t (piece_key t.page_size region (off + done))

-- ---- one line

-- What else holds of a line that may be answered so. A line may be answered in no other way.
abbrev pub LineGoes : Spread → Line → Reply → (behind made : ℕ → List Entry) → Type 0
LineGoes t (map_line name backing size writable) nothing behind made = Unit {0}
LineGoes t (script_line name) (begun said) behind made = said ≡ name
LineGoes t (load_line r off len) (loaded bytes) behind made = IsOpenAll t behind r off len
LineGoes t (load_line r off len) (unmapped done) behind made = FindsClosing t behind r off done
LineGoes t (load_line r off len) (fault k count done) behind made = FaultsInOpen t behind r off done k
LineGoes t (store_line r off bytes) ok behind made = IsOpenAll t behind r off (length bytes)
LineGoes t (store_line r off bytes) (unmapped done) behind made = FindsClosing t behind r off done
LineGoes t (store_line r off bytes) (fault k count done) behind made = FaultsInOpen t behind r off done k
LineGoes t flush_line ok behind made = EachDoes t FlushesBy behind made
LineGoes t flush_line (fault k count done) behind made = EachUpTo (stripe_in t k) FlushesBy (FlushesUpTo k) behind made
LineGoes t (unmap_line r) ok behind made = (is_gone_by t behind r ≡ false) × EachDoes t (UnmapsBy r) behind made
LineGoes t (unmap_line r) (unmapped done) behind made = (is_gone_by t behind r ≡ true) × ((s : ℕ) → made s ≡ [])
LineGoes t (unmap_line r) (fault k count done) behind made = UnmapsUpTo t r k count behind made
LineGoes t l reply behind made = ⊥

-- These accesses were made in order, each in its page's stripe, and between them entries that pass a test, as they do; then the
-- failure, in its stripe behind all else
pub record MakesInOrder (stripe : Key → ℕ) (may : Entry → Bool) (accesses failure : List Entry) (made : ℕ → List Entry) : Type 0 where
  pub served : ℕ → List Entry
  pub made_are : (s : ℕ) → made s ≡ of_stripe stripe s failure ++ served s
  pub in_order : (s : ℕ) → filter is_access (served s) ≡ reverse (of_stripe stripe s accesses)
  pub serve : (s : ℕ) → list_all may (served s) ≡ true

-- what a line that was answered so made, behind what the stripes had made before
pub record Makes (t : Spread) (l : Line) (a : Reply) (behind made : ℕ → List Entry) : Type 0 where
  pub accesses : List Entry
  pub failure : List Entry
  pub accesses_are : Accesses t.page_size l a accesses
  pub failure_is : Failure t.page_size l a failure
  pub in_order : MakesInOrder (stripe_in t) (may_make t.page_size l) accesses failure made
  pub goes : LineGoes t l a behind made

-- ---- all lines

-- the lines that were answered so made these entries, line by line, behind others: the stripes had `behind` and have `all`
abbrev pub AllMake : Spread → List Line → List Reply → (behind all : ℕ → List Entry) → Type 0
AllMake t [] [] behind all = (s : ℕ) → all s ≡ behind s
AllMake t (l ∷ ls) (a ∷ more) behind all =
    (made : ℕ → List Entry) × Makes t l a behind made × AllMake t ls more (λ s. made s ++ behind s) all
AllMake t ls replies behind all = ⊥

-- the lines that unmap each of so many regions, in order of number
abbrev pub unmap_lines : (regions : ℕ) → List Line
unmap_lines zero = []
unmap_lines (suc n) = unmap_lines n ++ unmap_line n ∷ []
