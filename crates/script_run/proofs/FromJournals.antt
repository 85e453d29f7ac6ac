-- What a serial run shows, by what its journals have noted.
use Rattle.std.proofs.Common.{◌≡◌, ℕ, ◌+◌, ◌*◌, ◌/◌, ◌%◌, ◌<◌, Bool, true, false, List, [], ◌∷◌, ◌++◌, map, length, get_or, Option, Some, is_some, slice_get, refl, sym, ap, ◌∙◌, arith}
use Rattle.std.specs.List.{filter}
use Rattle.std.specs.Option.{unwrap_or}
use Rattle.std.proofs.lemmas.List.{append_cancel_right, length-map, take_all}
use Rattle.std.proofs.lemmas.Nat.{mod_below}
use Rattle.std.proofs.Math.Nat.{div-one}
use Rattle.histories.specs.Histories.{History, by}
use Rattle.page_base.specs.Lanes.{LaneSeen, Origin, told_at}
use Rattle.page_base.specs.declared.keys.Key.{Key}
use Rattle.page_base.specs.declared.keys.RegionShape.{RegionShape}
use Rattle.page_model.specs.declared.entry.Entry.{Entry}
use Rattle.page_model.specs.Bits.{is_dirty}
use Rattle.page_model.specs.Closings.{is_unmapped}
use Rattle.page_model.specs.Entries.{is_access}
use Rattle.page_model.specs.Laws.{CleanIsKept, DirtyIsRaised, FaultsAreCounted, UnmappedIsEmptied}
use Rattle.page_model.specs.Legal.{IsLegal}
use Rattle.page_model.specs.Memory.{flat, kept}
use Rattle.page_model.specs.Setups.{Setup, is_told, may_write}
use Rattle.page_model.specs.Stands.{HomeLane}
use Rattle.page_model.specs.StoreFaults.{last_fault}
use Rattle.region_table.specs.Covers.{PiecesFollow}
use Rattle.region_table.specs.Regions.{TableSeen, shapes_of}
use Rattle.store_trait.specs.Memory.{page_bytes}
use Rattle.workload_text.specs.Line.{Line, load_line, store_line}
use Rattle.workload_text.specs.Grammar.{Region}
use Rattle.workload_text.specs.Accepted.{AllFit, regions_of}
use Rattle.flat_lines.specs.Flat.{BytesByPages, WereTold}
use Rattle.flat_lines.specs.FlatRegions.{bytes_at}
use Rattle.flat_lines.specs.Lines.{IsInside, AllInside}
use Rattle.flat_lines.specs.Spreads.{stripe_in, range_key}
use Rattle.flat_lines.specs.Worlds.{World, IsWorld, AllHold}
use Rattle.script_run.specs.Contents.{joined, pages_in, page_told, contents_of}
use Rattle.script_run.specs.Fits.{page_counts}
use Rattle.script_run.specs.FitsJournals.{setup_at, FitsJournals}
use Rattle.script_run.specs.FitsSerial.{all_open, spread_of, lane_at, region_is_told, left_by, counts_named, last_count, CountsFit, NoMore, EndSeen, FitsSerial}
use Rattle.script_run.specs.FlatJournals.{JournalsAreFlat, AreLinesFlat}
use Rattle.script_run.specs.FromJournals.{IsShown, IsGiven, FitsSo, FromJournals}
use Rattle.script_run.specs.InsideRunning.{shape_of}
use Rattle.script_run.specs.Replies.{Reply}
use Rattle.script_run.specs.declared.settings.Settings.{Settings}
use Rattle.script_run.proofs.Answered.{AreSized, AnswersAll, answers_all}
use Rattle.script_run.proofs.Contents.{AreWhole, joined-same, length-joined, page_of-joined, length-contents_by, get_or-contents_by}
use Rattle.script_run.proofs.FittedLanes.{pages_fit}
use Rattle.script_run.proofs.Counted.{first_named, rose_named}
use Rattle.script_run.proofs.Lasts.{Top, top_of, last_only, last_unmap, leaving_none, ends_gone}
use Rattle.script_run.proofs.NamedCounts.{last_grows, all_named, named_known, none_counted_by}
use Rattle.script_run.proofs.States.{state_first, unmapped_stays, each_gone}
use Rattle.script_run.specs.LineEntries.{unmap_lines}
use Rattle.script_run.proofs.Openings.{sizes_whole}
use Rattle.script_run.proofs.Raised.{AllEndWell, all_end, legal_tail}
use Rattle.script_run.proofs.ReadOnly.{left_by_alone}
use Rattle.script_run.proofs.Starts.{region_known, writable_is, first_is, has_it, base_is}
use Rattle.script_run.proofs.Tabled.{as_many, shapes_are}
use Rattle.script_run.proofs.ToldPages.{region_is}
use Rattle.script_run.proofs.Zeros.{joined-page_of}

-- the laws that it rests on
pub record Laws : Type 0 where
  pub pieces : PiecesFollow
  pub clean : CleanIsKept
  pub raised : DirtyIsRaised
  pub counted : FaultsAreCounted
  pub emptied : UnmappedIsEmptied
  pub bytes : BytesByPages
  pub flat : JournalsAreFlat

module _ (laws : Laws) {J : Type 0} (has_noted : J → History Entry → Type 0) (c : Settings) (table : TableSeen) (lines : List Line) (rows ends : List (List LaneSeen)) (replies : List Reply) (failed : Bool) (journals : List J) (given : IsGiven c table lines rows ends) (j : FitsJournals has_noted c table lines rows ends replies failed journals) where
  abbrev gs : List Region
  gs = regions_of lines

  abbrev z : ℕ
  z = c.layout.page_size

  -- what the stripes made in all
  abbrev h : ℕ → History Entry
  h s = by 0 (j.last s ++ j.by_lines s)

  shapes_is : shapes_of table ≡ map (shape_of c.layout.page_size) (regions_of lines)
  shapes_is = ap shapes_of given.table_is ∙ shapes_are c.layout.page_size lines given.built

  abbrev w : World
  w = record {
    spread = spread_of c.layout;
    pages = λ r. get_or (page_counts c.layout.page_size (regions_of lines)) r 0;
    setups = setup_at c (shapes_of table) rows;
    claimed = region_is_told rows;
  }

  fine : IsWorld w
  fine = record { some_byte = omega (arith, c.layout.large_pages); some_stripe = omega (arith, c.layout.some_stripe); sized = λ s. refl }

  its_stripe : (r page : ℕ) → stripe_in w.spread (range_key r page) < c.layout.stripes
  its_stripe r page = mod_below (r + page / 1) c.layout.stripes (omega (arith, c.layout.some_stripe))

  many : length (contents_of rows) ≡ length gs
  many = length-contents_by (pages_in rows) (page_told rows) ∙ ap length (pages_fit c.layout gs rows given.lanes) ∙ length-map gs (λ (g : Region). g.size / c.layout.page_size)

  -- ---- before the run

  were_told : (r : ℕ) → w.claimed r ≡ true → WereTold w r
  were_told r told page below = ap is_some (base_is c gs rows given.lanes (shapes_of table) r (region_known z gs r page below) page below told)

  module _ (r : ℕ) (known : r < length gs) (told : region_is_told rows r ≡ true) where
    pages_whole : AreWhole c.layout.page_size (get_or (page_counts c.layout.page_size (regions_of lines)) r 0) (page_told rows r)
    pages_whole = record {
      each = λ page below.
          (given.setups (stripe_in w.spread (range_key r page)) (its_stripe r page)).page_bytes (range_key r page) (page_told rows r page)
          (has_it c gs rows given.lanes (shapes_of table) r known page below shapes_is) (base_is c gs rows given.lanes (shapes_of table) r known page below told);
    }

    long : length (bytes_at (contents_of rows) r) ≡ w.pages r * w.spread.page_size
    long = ap length (region_is c.layout gs rows given.lanes r known told) ∙ length-joined z (w.pages r) (page_told rows r) pages_whole

    page_is : (page : ℕ) → page < w.pages r → page_bytes c.layout.page_size (bytes_at (contents_of rows) r) page ≡ page_told rows r page
    page_is page below = ap (λ xs. page_bytes z xs page) (region_is c.layout gs rows given.lanes r known told) ∙ page_of-joined z (w.pages r) (page_told rows r) page pages_whole below

  start : AllHold w (λ s. []) (contents_of rows)
  start r below told =
      let known : r < length gs = omega (arith, below, many) in
      laws.bytes.start w r (bytes_at (contents_of rows) r) fine (long r known told)
      (λ page lt its. base_is c gs rows given.lanes (shapes_of table) r known page lt told ∙ ap (λ b. Some b) (sym (page_is r known told page lt)))

  sized : AreSized laws.bytes w fine were_told (length (contents_of rows)) (contents_of rows)
  sized = record { many = refl; each = λ r below told. long r (omega (arith, below, many)) told }

  inside_one : (l : Line) → AllFit gs (l ∷ []) → IsInside w (length (contents_of rows)) l
  inside_one (load_line r off len) fit = (omega (arith, fit.0.known, many), omega (arith, fit.0.inside, sizes_whole z gs given.lanes.whole r fit.0.known))
  inside_one (store_line r off bytes) fit = (omega (arith, fit.0.range.known, many), omega (arith, fit.0.range.inside, sizes_whole z gs given.lanes.whole r fit.0.range.known))
  inside_one l fit = tt

  inside : (ls : List Line) → AllFit gs ls → AllInside w (length (contents_of rows)) ls
  inside [] fit = tt
  inside (l ∷ ls) fit = (inside_one l (fit.0, tt), inside ls fit.1)

  -- ---- the lines

  -- what the last unmapping made
  top : Top (spread_of c.layout) j.last_replies j.by_lines (λ s. j.last s ++ j.by_lines s)
  top = top_of (spread_of c.layout) (unmap_lines (length table.regions)) j.last_replies j.by_lines (λ s. j.last s ++ j.by_lines s) (last_only (length table.regions)) j.unmap

  no_access : (s : ℕ) → filter is_access (j.last s) ≡ []
  no_access s = ap (filter is_access) (append_cancel_right (j.last s) (top.top s) (j.by_lines s) (top.is s)) ∙ leaving_none (top.top s) (top.leaving s)

  by_legal : (s : ℕ) → s < c.layout.stripes → IsLegal (setup_at c (shapes_of table) rows s) (by 0 (j.by_lines s))
  by_legal s below = legal_tail (w.setups s) (j.last s) (j.by_lines s) (j.legal s below)

  flat_lines : AreLinesFlat w lines replies (λ s. j.last s ++ j.by_lines s) (contents_of rows)
  flat_lines = laws.flat w lines replies j.by_lines j.last (contents_of rows) fine (inside lines given.fit) j.lines_make no_access j.legal start

  module _ (e : EndSeen) (shown : IsShown lines replies failed e) where
    lines_end : AllEndWell (spread_of c.layout) [] lines replies
    lines_end = all_end laws.pieces laws.raised (spread_of c.layout) fine.some_byte fine.some_stripe w.setups [] lines replies (λ s. []) j.by_lines j.lines_make by_legal (λ s k r. absurd cc)

    answers : AnswersAll laws.bytes w fine were_told (length (contents_of rows)) laws.emptied [] (all_open (contents_of rows)) lines replies flat_lines.parts j.by_lines
    answers = answers_all laws.bytes w fine were_told (length (contents_of rows)) laws.emptied [] (all_open (contents_of rows)) lines replies flat_lines.parts (λ s. []) j.by_lines (inside lines given.fit) sized (state_first (spread_of c.layout) fine.some_stripe (contents_of rows)) j.lines_make by_legal flat_lines.parts_are flat_lines.flat lines_end

    abbrev left : List (List ℕ)
    left = (left_by (spread_of c.layout) (all_open (contents_of rows)) lines replies).regions

    -- ---- counts

    module _ (s r : ℕ) (stripe : s < c.layout.stripes) (known : r < length gs) where
      home : HomeLane (w.setups s) (h s) r (lane_at ends s r)
      home = (j.home s r stripe (omega (arith, known, as_many lines, ap (λ (t : TableSeen). length t.regions) given.table_is))).1

      named : CountsFit (lane_at rows s r).count (counts_named (spread_of c.layout) s r replies) (last_fault (w.setups s) (by 0 (j.by_lines s)) r)
      named = all_named laws.counted (w.setups s) r (spread_of c.layout) s lines replies (λ n. []) j.by_lines (lane_at rows s r).count j.lines_make (by_legal s stripe) (omega (arith, first_is c gs rows given.lanes (shapes_of table) r known s (omega (arith, stripe, given.lanes.stripes))))

      counts_fit : CountsFit (lane_at rows s r).count (counts_named (spread_of c.layout) s r replies) (lane_at ends s r).count
      counts_fit = record { rising = named.rising; within = omega (arith, named.within, last_grows laws.counted (w.setups s) r (j.last s) (j.by_lines s), home.count) }

      -- the counts of the last unmapping go on from those that are named
      last_named : CountsFit (last_count (lane_at rows s r).count (counts_named (spread_of c.layout) s r replies)) (counts_named (spread_of c.layout) s r j.last_replies) (lane_at ends s r).count
      last_named =
          let x = all_named laws.counted (w.setups s) r (spread_of c.layout) s (unmap_lines (length table.regions)) j.last_replies j.by_lines (λ n. j.last n ++ j.by_lines n) (last_count (lane_at rows s r).count (counts_named (spread_of c.layout) s r replies)) j.unmap (j.legal s stripe) named.within in
          record { rising = x.rising; within = omega (arith, x.within, home.count) }

      none_named : NoMore (lane_at rows s r).count (counts_named (spread_of c.layout) s r replies) (lane_at ends s r).count → counts_named (spread_of c.layout) s r j.last_replies ≡ []
      none_named no_more = go (counts_named (spread_of c.layout) s r j.last_replies) refl
        where
          go : (ns : List ℕ) → counts_named (spread_of c.layout) s r j.last_replies ≡ ns → counts_named (spread_of c.layout) s r j.last_replies ≡ []
          go [] e = e
          go (n ∷ ns) e = absurd (let rose = rose_named (last_count (lane_at rows s r).count (counts_named (spread_of c.layout) s r replies)) n (lane_at ends s r).count ns (counts_named (spread_of c.layout) s r j.last_replies) e last_named in omega (arith, rose, no_more.last_is, no_more.below))

    -- ---- contents

    ends_len : length ends ≡ c.layout.stripes
    ends_len = sym (length-map ends (λ (row : List LaneSeen). map (λ (l : LaneSeen). l.origin) row)) ∙ ap length given.origins ∙ length-map rows (λ (row : List LaneSeen). map (λ (l : LaneSeen). l.origin) row) ∙ given.lanes.stripes

    pages_end : pages_in ends ≡ page_counts z gs
    pages_end = ap (λ (os : List (List Origin)). map (λ (o : Origin). o.pages) (get_or os 0 [])) given.origins ∙ pages_fit c.layout gs rows given.lanes

    abbrev IsClean : (region page : ℕ) → Type 0
    IsClean r page = is_dirty (h (stripe_in w.spread (range_key r page))) (range_key r page) ≡ false

    module _ (r : ℕ) (known : r < length gs) (told : region_is_told rows r ≡ true) where
      -- what a clean page's lane tells in the end is what the lines left of it
      pages_follow : (page : ℕ) → page < w.pages r → IsClean r page
          → told_at (lane_at ends (stripe_in w.spread (range_key r page)) r).told page ≡ Some (page_bytes c.layout.page_size (bytes_at left r) page)
      pages_follow page below clean =
          let k : Key = range_key r page in
          let s : ℕ = stripe_in w.spread k in
          let u : Setup = w.setups s in
          let has = has_it c gs rows given.lanes (shapes_of table) r known page below shapes_is in
          let its : is_told u k ≡ true = were_told r told page below in
          let keeps : kept u (h s) k ≡ Some (flat u (h s) k) = laws.clean.kept u (h s) k (given.setups s (its_stripe r page)) (j.legal s (its_stripe r page)) has its clean in
          (home s r (its_stripe r page) known).kept page (flat u (h s) k) has its keeps
          ∙ ap (λ b. Some b) (flat_lines.hold r page (omega (arith, known, many, ap length answers.left_is, answers.sized.many)) told below its refl ∙ ap (λ x. page_bytes z (bytes_at x r) page) answers.left_is)

      -- so a region of which all pages are clean holds that
      region_follows : ((page : ℕ) → page < w.pages r → IsClean r page) → bytes_at (contents_of ends) r ≡ bytes_at left r
      region_follows clean =
          let b : List ℕ = bytes_at left r in
          let whole : length b ≡ w.pages r * z = answers.sized.each r (omega (arith, known, many)) told in
          get_or-contents_by (pages_in ends) (page_told ends) r [] (omega (arith, known, ap length pages_end, length-map gs (λ (g : Region). g.size / c.layout.page_size)))
          ∙ ap (λ (ps : List ℕ). joined (get_or ps r 0) (page_told ends r)) pages_end
          ∙ joined-same (w.pages r) (page_bytes z b) (page_told ends r)
          (λ p below.
          ap (λ n. unwrap_or (told_at (lane_at ends ((r + p) % n) r).told p) []) ends_len
          ∙ ap (λ q. unwrap_or (told_at (lane_at ends ((r + q) % c.layout.stripes) r).told p) []) (sym (div-one p))
          ∙ ap (λ (o : Option (List ℕ)). unwrap_or o []) (pages_follow p below (clean p below)))
          ∙ joined-page_of z (w.pages r) b (omega (arith, whole))
          ∙ take_all (w.pages r * z) b (omega (arith, whole))

    -- so does a region that is unmapped in the end
    gone_follows : (r : ℕ) → r < length gs → region_is_told rows r ≡ true → ((s : ℕ) → s < c.layout.stripes → is_unmapped (h s) r ≡ true) → bytes_at (contents_of ends) r ≡ bytes_at left r
    gone_follows r known told gone = region_follows r known told (λ page below.
        let s : ℕ = stripe_in w.spread (range_key r page) in
        (laws.emptied (w.setups s) (h s) r (j.legal s (its_stripe r page)) (gone s (its_stripe r page))).clean (range_key r page) refl)

    -- one is unless its last unmapping failed
    last_gone : (r : ℕ) → r < length gs → ((s : ℕ) → s < c.layout.stripes → counts_named (spread_of c.layout) s r j.last_replies ≡ []) → (s : ℕ) → s < c.layout.stripes → is_unmapped (h s) r ≡ true
    last_gone r known none = ends_gone (spread_of c.layout) fine.some_stripe r (unmap_lines (length table.regions)) j.last_replies j.by_lines (λ n. j.last n ++ j.by_lines n) j.unmap
        (last_unmap (length table.regions) r (omega (arith, known, as_many lines, ap (λ (t : TableSeen). length t.regions) given.table_is))) none

    shapes_len : (s : ℕ) → length (setup_at c (shapes_of table) rows s).shapes ≡ length gs
    shapes_len s = ap length shapes_is ∙ length-map gs (shape_of c.layout.page_size)

    fits : FitsSerial (spread_of c.layout) lines rows ends e
    fits = record {
      replies = replies;
      failed = failed;
      text_is = shown.text_is;
      answered = answers.answered;
      flag = shown.flag;
      loaded_is = shown.loaded_is;
      sum_is = shown.sum_is;
      counts = λ s r stripe known. counts_fit s r stripe known;
      rose = λ f.
          let named_known_ = named_known (spread_of c.layout) fine.some_stripe w.setups gs shapes_len (unmap_lines (length table.regions)) j.last_replies j.by_lines (λ n. j.last n ++ j.by_lines n) j.unmap j.legal in
          let x = first_named gs (spread_of c.layout) j.last_replies fine.some_stripe named_known_ (sym j.failed_is ∙ f) in
          (x.s, x.r, x.stripe, x.region, rose_named (last_count (lane_at rows x.s x.r).count (counts_named (spread_of c.layout) x.s x.r replies)) x.count (lane_at ends x.s x.r).count x.more (counts_named (spread_of c.layout) x.s x.r j.last_replies) x.named (last_named x.s x.r x.stripe x.region));
      holds = λ r known told none. gone_follows r known told (last_gone r known (λ s stripe. none_named s r stripe known (none s stripe)));
      unmapped_holds = λ r known told gone. gone_follows r known told (λ s stripe. unmapped_stays r (j.last s) (j.by_lines s) (each_gone (spread_of c.layout) j.by_lines r (answers.state.gone r ∙ gone) s stripe));
      whole = λ f r known told. gone_follows r known told (last_gone r known (λ s stripe. none_counted_by (spread_of c.layout) s r j.last_replies (sym j.failed_is ∙ f)));
      read_only = λ r known shut told.
          let cannot : may_write (slice_get (shapes_of table) r) ≡ false = ap (λ (ss : List RegionShape). may_write (slice_get ss r)) shapes_is ∙ writable_is z gs r ∙ shut in
          region_follows r known told (λ page below. laws.raised.read_only (w.setups (stripe_in w.spread (range_key r page))) (h (stripe_in w.spread (range_key r page))) (range_key r page) (j.legal (stripe_in w.spread (range_key r page)) (its_stripe r page)) cannot) ∙ left_by_alone gs r shut (spread_of c.layout) (all_open (contents_of rows)) lines replies given.fit;
    }

    pub fits_so : FitsSo c lines rows ends replies failed e
    unfolding fits
    fits_so = (fits, refl, refl)

pub from_journals : Laws → {J : Type 0} (has_noted : J → History Entry → Type 0) → FromJournals has_noted
from_journals laws has_noted c table lines rows ends replies failed journals e given shown j = fits_so laws has_noted c table lines rows ends replies failed journals given j e shown
