-- What a serial run may answer and leave, where every call of a lane may fail: the serial meaning of `specs/Serial.antt`
-- with faults allowed.
use Rattle.std.specs.Prelude.{◌≡◌, ℕ, ◌+◌, ◌*◌, ◌%◌, ◌-◌, ◌^◌, ◌<◌, ◌≤◌, ◌⊎◌, ◌&&◌, ◌||◌, ◌==◌, max, nat_lt, Bool, true, false, if◌then◌else◌, List, [], ◌∷◌, length, take, drop, is_some, slice_index_or, sum}
use Rattle.std.specs.List.{flat_map, list_any, list_all, range_with_len}
use Rattle.page_base.specs.declared.keys.Key.{Key}
use Rattle.page_base.specs.declared.layout.Layout.{Layout}
use Rattle.page_base.specs.Lanes.{LaneSeen, Rose, told_at}
use Rattle.page_base.specs.Pages.{stripe_of}
use Rattle.workload_text.specs.Line.{Line, map_line, script_line, load_line, store_line, flush_line, unmap_line}
use Rattle.workload_text.specs.Grammar.{writable_at}
use Rattle.workload_text.specs.Accepted.{regions_of}
use Rattle.flat_lines.specs.Spreads.{Spread, stripe_in, piece_key}
use Rattle.flat_lines.specs.FlatRegions.{bytes_at, stored}
use Rattle.script_run.specs.Contents.{no_lane, pages_in, contents_of}
use Rattle.script_run.specs.Replies.{Reply, nothing, begun, loaded, ok, unmapped, fault, replies_text, is_fault_reply, bytes_shown}

-- pages go round one by one
abbrev pub spread_of : Layout → Spread
spread_of layout = record { page_size = layout.page_size; stripes = layout.stripes; group_of = λ region. 1 }

-- one stripe's lane of a region
abbrev pub lane_at : List (List LaneSeen) → (stripe region : ℕ) → LaneSeen
lane_at rows stripe region = slice_index_or (slice_index_or rows stripe []) region no_lane

-- the lanes tell each page of the region
abbrev pub region_is_told : List (List LaneSeen) → (region : ℕ) → Bool
region_is_told rows region =
    list_all (λ page. is_some (told_at (lane_at rows (stripe_of (length rows) 1 region page) region).told page)) (range_with_len 0 (slice_index_or (pages_in rows) region 0))

-- ---- what a run has come to

-- the bytes of every region, in order of region; of each region how many of its first stripes are closed, and whether an
-- `unmap` of it was `ok`
pub record RunState : Type 0 where
  pub regions : List (List ℕ)
  pub closed : (region : ℕ) → ℕ
  pub gone : (region : ℕ) → Bool

-- before anything runs
abbrev pub all_open : List (List ℕ) → RunState
all_open regions = record { regions = regions; closed = λ r. 0; gone = λ r. false }

-- the byte's page lies in a stripe in which its region is closed
abbrev pub is_closed_at : Spread → RunState → (region at : ℕ) → Bool
is_closed_at t x region at = nat_lt (stripe_in t (piece_key t.page_size region at)) (x.closed region)

-- none of these first bytes of a range does
abbrev pub AreOpen : Spread → RunState → (region off count : ℕ) → Type 0
AreOpen t x region off count = (i : ℕ) → i < count → is_closed_at t x region (off + i) ≡ false

-- ---- where a load or a store ends

-- a range of `len` bytes from `off` on ends at the piece that begins_by behind `done` of them
pub record EndsAt (page_size off len done : ℕ) : Type 0 where
  pub short : done < len
  pub border : (done ≡ 0) ⊎ ((off + done) % page_size ≡ 0)

-- at the first piece in a closed stripe
pub record EndsShut (t : Spread) (x : RunState) (region off len done : ℕ) : Type 0 where
  pub at : EndsAt t.page_size off len done
  pub before : AreOpen t x region off done
  pub shut : is_closed_at t x region (off + done) ≡ true

-- the line stores to this page, or would
abbrev pub StoresTo : (page_size : ℕ) → Key → Line → Type 0
StoresTo page_size k (store_line r off bytes) = (k.region ≡ r) × (off < k.page * page_size + page_size) × (k.page * page_size < off + length bytes)
StoresTo page_size k l = ⊥

-- one of these lines does
abbrev pub AnyStoresTo : (page_size : ℕ) → List Line → Key → Type 0
AnyStoresTo page_size [] k = ⊥
AnyStoresTo page_size (l ∷ ls) k = StoresTo page_size k l ⊎ AnyStoresTo page_size ls k

-- the fault names the page of the piece that it ends, or one of the piece's stripe that these lines store to
abbrev pub Names : Spread → List Line → (region at : ℕ) → Key → Type 0
Names t lines region at k =
    (k ≡ piece_key t.page_size region at)
    ⊎ ((stripe_in t k ≡ stripe_in t (piece_key t.page_size region at)) × AnyStoresTo t.page_size lines k)

-- at a piece in an open stripe, behind others, by a fault of this page
pub record EndsFaulted (t : Spread) (x : RunState) (lines : List Line) (region off len done : ℕ) (k : Key) : Type 0 where
  pub at : EndsAt t.page_size off len done
  pub open_ : AreOpen t x region off (done + 1)
  pub names : Names t lines region (off + done) k

-- ---- one line, and all lines

-- what a line may be answered where the run has come to this; `lines` are the lines up to this one, the newest first
abbrev pub MayAnswer : Spread → (told : ℕ → Bool) → (lines : List Line) → RunState → Line → Reply → Type 0
MayAnswer t told lines x (map_line name backing size writable) nothing = Unit {0}
MayAnswer t told lines x (script_line name) (begun said) = said ≡ name
MayAnswer t told lines x (load_line r off len) (loaded bytes) =
    AreOpen t x r off len × (length bytes ≡ len) × (told r ≡ true → bytes ≡ take len (drop off (bytes_at x.regions r)))
MayAnswer t told lines x (load_line r off len) (unmapped done) = EndsShut t x r off len done
MayAnswer t told lines x (load_line r off len) (fault k count done) = EndsFaulted t x lines r off len done k
MayAnswer t told lines x (store_line r off bytes) ok = AreOpen t x r off (length bytes)
MayAnswer t told lines x (store_line r off bytes) (unmapped done) = EndsShut t x r off (length bytes) done
MayAnswer t told lines x (store_line r off bytes) (fault k count done) = EndsFaulted t x lines r off (length bytes) done k
MayAnswer t told lines x flush_line ok = Unit {0}
MayAnswer t told lines x flush_line (fault k count done) = AnyStoresTo t.page_size lines k
MayAnswer t told lines x (unmap_line r) ok = x.gone r ≡ false
MayAnswer t told lines x (unmap_line r) (unmapped done) = x.gone r ≡ true
MayAnswer t told lines x (unmap_line r) (fault k count done) = (x.gone r ≡ false) × (k.region ≡ r) × AnyStoresTo t.page_size lines k
MayAnswer t told lines x l reply = ⊥

-- a store of these bytes
abbrev pub storing : RunState → Line → RunState
storing x l = record { regions = stored x.regions l; closed = x.closed; gone = x.gone }

-- the region closed in all stripes below this number, and in those in which it closed before
abbrev pub closed_below : RunState → (region stripes : ℕ) → (gone : Bool) → RunState
closed_below x r stripes gone = record {
  regions = x.regions;
  closed = λ q. if q == r then max (x.closed q) stripes else x.closed q;
  gone = λ q. if q == r then gone else x.gone q;
}

-- What the run has come to behind a line. A store that ended at a piece has done those before it. An `unmap` closes its region
-- in all stripes, or in those up to the page's whose write failed.
abbrev pub left : Spread → RunState → Line → Reply → RunState
left t x (store_line r off bytes) ok = storing x (store_line r off bytes)
left t x (store_line r off bytes) (unmapped done) = storing x (store_line r off (take done bytes))
left t x (store_line r off bytes) (fault k count done) = storing x (store_line r off (take done bytes))
left t x (unmap_line r) ok = closed_below x r t.stripes true
left t x (unmap_line r) (fault k count done) = closed_below x r (stripe_in t k + 1) false
left t x l reply = x

-- the replies answer the lines one by one, behind other lines
abbrev pub AllAnswer : Spread → (told : ℕ → Bool) → (before : List Line) → RunState → List Line → List Reply → Type 0
AllAnswer t told before x [] [] = Unit {0}
AllAnswer t told before x (l ∷ ls) (a ∷ more) = MayAnswer t told (l ∷ before) x l a × AllAnswer t told (l ∷ before) (left t x l a) ls more
AllAnswer t told before x ls replies = ⊥

abbrev pub left_by : Spread → RunState → List Line → List Reply → RunState
left_by t x (l ∷ ls) (a ∷ more) = left_by t (left t x l a) ls more
left_by t x ls replies = x

-- ---- counts

-- the count that a reply names for a lane, if it names one
abbrev pub fault_count_in : Spread → (stripe region : ℕ) → Reply → List ℕ
fault_count_in t stripe region (fault k count done) = if stripe_in t k == stripe && k.region == region then count ∷ [] else []
fault_count_in t stripe region reply = []

abbrev pub counts_named : Spread → (stripe region : ℕ) → List Reply → List ℕ
counts_named t stripe region replies = flat_map (fault_count_in t stripe region) replies

-- each count is above the one before it, or stands at the last value that it can show
abbrev pub Rising : ℕ → List ℕ → Type 0
Rising first [] = Unit {0}
Rising first (n ∷ ns) = Rose first n × Rising n ns

-- the last count, or the first where none is named
abbrev pub last_count : ℕ → List ℕ → ℕ
last_count first [] = first
last_count first (n ∷ ns) = last_count n ns

-- the counts that are named for a lane rise from its count at the start, and don't pass its count at the end
pub record CountsFit (first : ℕ) (named : List ℕ) (last : ℕ) : Type 0 where
  pub rising : Rising first named
  pub within : last_count first named ≤ last

-- no fault of the lane but those that are named: its count at the end is the last one named, and can still rise
pub record NoMore (first : ℕ) (named : List ℕ) (last : ℕ) : Type 0 where
  pub last_is : last ≡ last_count first named
  pub below : last < 2 ^ 64 - 1

-- ---- the run

-- what a run shows when it has ended, beside its lanes
pub record EndSeen : Type 0 where
  pub text : List ℕ
  pub faulted : Bool
  pub loaded : ℕ
  pub sum : ℕ

-- The lanes were `rows` and are `ends`
pub record FitsSerial (t : Spread) (lines : List Line) (rows ends : List (List LaneSeen)) (e : EndSeen) : Type 0 where
  pub replies : List Reply
  pub failed : Bool  -- the last unmapping of all regions, which no line asks for
  pub text_is : e.text ≡ replies_text (regions_of lines) replies
  pub answered : AllAnswer t (region_is_told rows) [] (all_open (contents_of rows)) lines replies
  pub flag : e.faulted ≡ (list_any is_fault_reply replies || failed)
  pub loaded_is : e.loaded ≡ length (flat_map bytes_shown replies)
  pub sum_is : e.sum ≡ sum (flat_map bytes_shown replies)
  pub counts : (s r : ℕ) → s < t.stripes → r < length (regions_of lines)
      → CountsFit (lane_at rows s r).count (counts_named t s r replies) (lane_at ends s r).count
  -- where the last unmapping failed, some lane's count rose above all that was named
  pub rose : failed ≡ true → (s r : ℕ) × (s < t.stripes) × (r < length (regions_of lines)) × Rose (last_count (lane_at rows s r).count (counts_named t s r replies)) (lane_at ends s r).count
  -- a region of which no lane had a fault but those named holds what the lines left
  pub holds : (r : ℕ) → r < length (regions_of lines) → region_is_told rows r ≡ true
      → ((s : ℕ) → s < t.stripes → NoMore (lane_at rows s r).count (counts_named t s r replies) (lane_at ends s r).count)
      → bytes_at (contents_of ends) r ≡ bytes_at (left_by t (all_open (contents_of rows)) lines replies).regions r
  -- so does one that a line unmapped
  pub unmapped_holds : (r : ℕ) → r < length (regions_of lines) → region_is_told rows r ≡ true
      → (left_by t (all_open (contents_of rows)) lines replies).gone r ≡ true
      → bytes_at (contents_of ends) r ≡ bytes_at (left_by t (all_open (contents_of rows)) lines replies).regions r
  -- and where the last unmapping didn't fail, every region does
  pub whole : failed ≡ false → (r : ℕ) → r < length (regions_of lines) → region_is_told rows r ≡ true
      → bytes_at (contents_of ends) r ≡ bytes_at (left_by t (all_open (contents_of rows)) lines replies).regions r
  pub read_only : (r : ℕ) → r < length (regions_of lines) → writable_at (regions_of lines) r ≡ false → region_is_told rows r ≡ true
      → bytes_at (contents_of ends) r ≡ bytes_at (contents_of rows) r
