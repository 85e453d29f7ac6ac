-- Running some lines: what they need, and what they do to the replies, to the pager and to the histories of its stripes.
use Rattle.std.specs.Prelude.{Some, ◌≡◌, ℕ, ◌+◌, ◌*◌, ◌/◌, ◌^◌, ◌<◌, ◌≤◌, ◌||◌, Bool, true, List, [], ◌∷◌, ◌++◌, map, length, sum}
use Rattle.std.specs.List.{flat_map, list_any}
use Rattle.histories.specs.Histories.{History, by}
use Rattle.page_base.specs.declared.keys.RegionShape.{RegionShape}
use Rattle.page_base.specs.Lanes.{LaneSeen}
use Rattle.page_model.specs.declared.entry.Entry.{Entry}
use Rattle.page_model.specs.Core.{Core}
use Rattle.page_model.specs.Setups.{Setup, regions}
use Rattle.page_model.specs.Laws.{CleanIsKept, FlushLaws}
use Rattle.page_model.specs.Readers.{ReadersAgree, PagesShow}
use Rattle.page_model.specs.Stands.{StandsFor}
use Rattle.region_table.specs.Regions.{TableSeen}
use Rattle.serial_pager.specs.Seen.{StripeSeen}
use Rattle.serial_pager.specs.Pagers as pagers
use Rattle.serial_pager.specs.Pagers.{PagerSeen, core_at, WentAll}
use Rattle.workload_text.specs.declared.limits.TheConstants.{MOST_STORED_BYTES, MOST_ACCESS_BYTES, MOST_LOADED_BYTES}
use Rattle.workload_text.specs.Line.{Line}
use Rattle.workload_text.specs.View.{lines_of, command_line}
use Rattle.workload_text.specs.declared.workload.Command.{Command}
use Rattle.workload_text.specs.declared.workload.Workload.{Workload}
use Rattle.workload_text.specs.Grammar.{Region, size_at}
use Rattle.workload_text.specs.Accepted.{AllFit, IsRunnable, regions_of, loaded_bytes, command_count}
use Rattle.workload_text.specs.Built.{is_built}
use Rattle.script_run.specs.Fits.{FitLanes, AreInRange}
use Rattle.script_run.specs.Tables.{table_of}
use Rattle.script_run.specs.InsideRooms.{rooms}
use Rattle.script_run.specs.Replies.{Reply, replies_text, is_fault_reply, bytes_shown}
use Rattle.flat_lines.specs.Spreads.{Spread}
use Rattle.script_run.specs.FitsSerial.{spread_of}
use Rattle.script_run.specs.FitsJournals.{setup_at}
use Rattle.script_run.specs.LineEntries.{AllMake}
use Rattle.script_run.specs.InsideRanges.{pages_at}
use Rattle.script_run.specs.declared.replies.Replies.{Replies}
use Rattle.script_run.specs.declared.settings.Settings.{Settings}

abbrev pub shape_of : (page_size : ℕ) → Region → RegionShape
shape_of page_size g = record { pages = g.size / page_size; group = 1; writable = g.writable }

-- what stripes show, and what a flush of one covers, by the histories that they stand for
pub record StripesAgree : Type 0 where
  pub readers : ReadersAgree
  pub pages : PagesShow
  pub clean : CleanIsKept
  pub flush : FlushLaws

module _ {J : Type 0} where
  -- the pager's pages and stripes are those of the regions
  pub record IsShaped (t : Spread) (gs : List Region) (p : PagerSeen J) : Type 0 where
    pub some : 0 < t.page_size
    pub some_stripe : 0 < t.stripes
    pub page_size : p.page_size ≡ t.page_size
    pub stripes : length p.stripes ≡ t.stripes
    pub groups : (r : ℕ) → t.group_of r ≡ 1
    pub shapes : p.shapes ≡ map (shape_of t.page_size) gs
    pub whole : (r : ℕ) → r < length gs → size_at gs r ≡ pages_at p r * p.page_size
    pub small : (r : ℕ) → size_at gs r ≤ MOST_STORED_BYTES
    pub known : (s : ℕ) (u : Setup) → pagers.setup_at p s ≡ Some u → regions u ≡ length gs

  -- the same regions, and the same stripes as they were made
  pub record StaysMade (old new : PagerSeen J) : Type 0 where
    pub page_size : new.page_size ≡ old.page_size
    pub shapes : new.shapes ≡ old.shapes
    pub stripes : length new.stripes ≡ length old.stripes
    pub setups : (s : ℕ) → pagers.setup_at new s ≡ pagers.setup_at old s

  -- each stripe stands for these entries, of owner 0
  abbrev pub StandsBy : PagerSeen J → (made : ℕ → List Entry) → Type 0
  StandsBy p made = (s : ℕ) (core : Core) → core_at p s ≡ Some core → StandsFor (by 0 (made s)) core

  -- the lines may run: they are built, their ranges lie inside the regions, and there is room for what they answer
  pub record MayRun (t : Spread) (gs : List Region) (lines : List Line) (replies : Replies) (p : PagerSeen J) : Type 0 where
    pub built : is_built lines ≡ true
    pub fit : AllFit gs lines
    pub shaped : IsShaped t gs p
    pub room : rooms gs lines ≤ replies.text.spare
    pub few : replies.loaded + loaded_bytes lines ≤ MOST_LOADED_BYTES
    pub pieces : p.spent + MOST_ACCESS_BYTES * command_count lines ≤ 2 ^ 44

  -- the stripes made what lines make that are answered so, on top of whatever they stand for
  pub record DidLines (has_noted : J → History Entry → Type 0) (t : Spread) (lines : List Line) (replies : List Reply) (p q : PagerSeen J) : Type 0 where
    pub same : StaysMade p q
    pub made : ℕ → List Entry
    pub went : WentAll 0 has_noted made p q
    pub make : (older : ℕ → List Entry) → StandsBy p older → AllMake t lines replies older (λ s. made s ++ older s)

  -- the lines ran
  pub record Ran (has_noted : J → History Entry → Type 0) (t : Spread) (gs : List Region) (lines : List Line) (old new : Replies) (p q : PagerSeen J) : Type 0 where
    pub replies : List Reply
    pub text : new.text.items ≡ old.text.items ++ replies_text gs replies
    pub spare : old.text.spare ≤ new.text.spare + rooms gs lines
    pub loaded : new.loaded ≡ old.loaded + length (flat_map bytes_shown replies)
    pub added : new.sum ≡ old.sum + sum (flat_map bytes_shown replies)
    pub within : length (flat_map bytes_shown replies) ≤ loaded_bytes lines
    pub faulted : new.faulted ≡ (old.faulted || list_any is_fault_reply replies)
    pub pieces : q.spent ≤ p.spent + MOST_ACCESS_BYTES * command_count lines
    pub did : DidLines has_noted t lines replies p q

  -- a run of these lines over these lanes may be opened, with a journal for each stripe
  pub record MayOpen (c : Settings) (table : TableSeen) (lines : List Line) (rows : List (List LaneSeen)) (journals : List J) : Type 0 where
    pub runnable : IsRunnable lines
    pub built : is_built lines ≡ true
    pub settings : AreInRange c
    pub table_is : table ≡ table_of c.layout.page_size lines
    pub lanes : FitLanes c.layout (regions_of lines) rows
    pub as_many : length journals ≡ c.layout.stripes

  -- the pager was opened over these lanes, for these regions, with these journals
  pub record OpensOn (c : Settings) (gs : List Region) (rows : List (List LaneSeen)) (journals : List J) (p : PagerSeen J) : Type 0 where
    pub shaped : IsShaped (spread_of c.layout) gs p
    pub spent : p.spent ≡ 0
    pub stands : (s : ℕ) (core : Core) → core_at p s ≡ Some core → StandsFor [] core
    pub made : (s : ℕ) → s < c.layout.stripes → pagers.setup_at p s ≡ Some (setup_at c p.shapes rows s)
    pub journals_are : map (λ (x : StripeSeen J). x.journal) p.stripes ≡ journals

  -- the same, for the regions of whatever lines it may be opened for
  abbrev pub OpensFor : Settings → TableSeen → (rows : List (List LaneSeen)) → List J → PagerSeen J → Type 0
  OpensFor c table rows journals p = (lines : List Line) → MayOpen c table lines rows journals → OpensOn c (regions_of lines) rows journals p

  -- ---- lines of a workload

  -- the lines may run, however its pages are spread
  abbrev pub MayRunOf : Workload → List Line → Replies → PagerSeen J → Type 0
  MayRunOf w lines replies p = (t : Spread) × MayRun t (regions_of (lines_of w)) lines replies p

  -- the lines ran
  abbrev pub RanOf : (has_noted : J → History Entry → Type 0) → Workload → List Line → (old new : Replies) → (p q : PagerSeen J) → Type 0
  RanOf has_noted w lines old new p q =
      (t : Spread) → IsShaped t (regions_of (lines_of w)) p → Ran has_noted t (regions_of (lines_of w)) lines old new p q

  -- one command did
  abbrev pub RanOne : (has_noted : J → History Entry → Type 0) → Workload → Command → (old new : Replies) → (p q : PagerSeen J) → Type 0
  RanOne has_noted w command old new p q = RanOf has_noted w (command_line command ∷ []) old new p q
