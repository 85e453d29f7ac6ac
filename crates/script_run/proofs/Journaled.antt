-- What a run was given, what it shows, and what its journals have noted when it has ended.
use Rattle.std.proofs.Common.{◌≡◌, ℕ, ◌<◌, ◌≤◌, Bool, true, false, ◌||◌, List, [], ◌++◌, length, map, Option, Some, slice_get, sym, ap, subst, ◌∙◌, arith, append-nil}
use Rattle.std.specs.List.{list_any}
use Rattle.std.specs.Option.{option_map}
use Rattle.std.proofs.lemmas.List.{length-map}
use Rattle.std.proofs.lemmas.Option.{slice_get_within, slice_get-map}
use Rattle.histories.specs.Histories.{History, by}
use Rattle.page_base.specs.Lanes.{LaneSeen}
use Rattle.page_base.specs.declared.keys.RegionShape.{RegionShape}
use Rattle.page_model.specs.declared.entry.Entry.{Entry}
use Rattle.page_model.specs.Core.{Core, LanePlace, Home}
use Rattle.page_model.specs.Setups.{Setup, Fits}
use Rattle.page_model.specs.Legal.{IsLegal}
use Rattle.page_model.specs.Stands.{StandsFor, PlaceStands}
use Rattle.page_model.specs.Readers.{IsHere}
use Rattle.region_table.specs.Regions.{TableSeen, shapes_of}
use Rattle.serial_pager.specs.Seen.{StripeSeen}
use Rattle.serial_pager.specs.Pagers as pagers
use Rattle.serial_pager.specs.Pagers.{PagerSeen, AreRowsOf, WentAll, core_in}
use Rattle.workload_text.specs.Line.{Line}
use Rattle.workload_text.specs.Accepted.{AllFit, IsRunnable, regions_of}
use Rattle.workload_text.specs.Built.{is_built}
use Rattle.script_run.specs.Contents.{origins_of}
use Rattle.script_run.specs.Fits.{FitLanes}
use Rattle.script_run.specs.FitsJournals.{setup_at, FitsJournals}
use Rattle.script_run.specs.FitsSerial.{spread_of, EndSeen}
use Rattle.script_run.specs.FromJournals.{IsShown, IsGiven}
use Rattle.script_run.specs.LineEntries.{AllMake, unmap_lines}
use Rattle.script_run.specs.Replies.{is_fault_reply, replies_text}
use Rattle.script_run.specs.Tables.{table_of}
use Rattle.script_run.specs.InsideRooms.{rooms}
use Rattle.script_run.specs.InsideRunning.{IsShaped, StaysMade, StandsBy, MayRun, Ran, DidLines, OpensOn}
use Rattle.script_run.specs.declared.replies.Replies.{Replies}
use Rattle.script_run.specs.declared.settings.Settings.{Settings}
use Rattle.script_run.proofs.LastUnmaps.{UnmapsLast}
use Rattle.script_run.proofs.EndedOn.{EndAt, end_at, origins_kept}
use Rattle.script_run.proofs.FittedLanes.{there, lane_there}
use Rattle.script_run.proofs.Lists.{some_is}
use Rattle.script_run.proofs.Makings.{all_more}
use Rattle.script_run.proofs.RanItems.{shaped_same}
use Rattle.script_run.proofs.RanLines.{make_all, stands_after}
use Rattle.script_run.proofs.Ranged.{stays_more}
use Rattle.script_run.proofs.Tabled.{as_many, shapes_are}

-- a pager that was just opened may run the lines of a workload
pub may_run : {J : Type 0} (c : Settings) (lines : List Line) (rows : List (List LaneSeen)) (journals : List J) → IsRunnable lines → is_built lines ≡ true → (r : Replies) (p : PagerSeen J) → OpensOn c (regions_of lines) rows journals p → rooms (regions_of lines) lines ≤ r.text.spare → r.loaded ≡ 0 → MayRun (spread_of c.layout) (regions_of lines) lines r p
may_run c lines rows journals can built r p opens room count = record {
  built = built;
  fit = can.fit;
  shaped = opens.shaped;
  room = room;
  few = omega (arith, count, can.loaded);
  pieces = omega (arith, opens.spent, can.commands);
}

-- The lines ran on a pager that was opened so, from p to q, and then its regions were unmapped, to z.
module _ {J : Type 0} (has_noted : J → History Entry → Type 0) (c : Settings) (table : TableSeen) (lines : List Line) (rows ends : List (List LaneSeen)) (journals : List J) (fit : FitLanes c.layout (regions_of lines) rows) (r0 r1 : Replies) (p q z : PagerSeen J) (opens : OpensOn c (regions_of lines) rows journals p) (ran : Ran has_noted (spread_of c.layout) (regions_of lines) lines r0 r1 p q) (failed : Bool) (last : UnmapsLast has_noted (length table.regions) failed q z) (are : AreRowsOf z ends)
    (table_is : table ≡ table_of c.layout.page_size lines) (built : is_built lines ≡ true) where
  stripes_p : length p.stripes ≡ c.layout.stripes
  stripes_p = opens.shaped.stripes

  shaped_q : IsShaped (spread_of c.layout) (regions_of lines) q
  shaped_q = shaped_same (spread_of c.layout) (regions_of lines) p q opens.shaped ran.did.same

  unmapped : DidLines has_noted (spread_of c.layout) (unmap_lines (length table.regions)) last.replies q z
  unmapped = last.did (spread_of c.layout) (regions_of lines) shaped_q

  both : StaysMade p z
  both = stays_more p q z ran.did.same unmapped.same

  shaped : IsShaped (spread_of c.layout) (regions_of lines) z
  shaped = shaped_same (spread_of c.layout) (regions_of lines) p z opens.shaped both

  made : (s : ℕ) → s < c.layout.stripes → pagers.setup_at z s ≡ Some (setup_at c z.shapes rows s)
  made s below = both.setups s ∙ opens.made s below ∙ ap (λ ss. Some (setup_at c ss rows s)) (sym both.shapes)

  ended : (s : ℕ) → s < length rows → EndAt c (regions_of lines) rows ends fit z shaped made are s
  ended = end_at c (regions_of lines) rows ends fit z shaped made are

  pub run_origins : origins_of ends ≡ origins_of rows
  run_origins = origins_kept c (regions_of lines) rows ends fit z shaped made are

  setup_is : (s : ℕ) → setup_at c z.shapes rows s ≡ setup_at c (shapes_of table) rows s
  setup_is s = ap (λ (ss : List RegionShape). setup_at c ss rows s) (both.shapes ∙ opens.shaped.shapes ∙ sym (ap shapes_of table_is ∙ shapes_are c.layout.page_size lines built))

  -- what the run shows
  pub run_shown : (e : EndSeen) → e.text ≡ r1.text.items → e.faulted ≡ (r1.faulted || failed) → e.loaded ≡ r1.loaded → e.sum ≡ r1.sum → r0.text.items ≡ [] → r0.faulted ≡ false → r0.loaded ≡ 0 → r0.sum ≡ 0 → IsShown lines ran.replies failed e
  run_shown e text flag count total text0 flag0 count0 total0 = record {
    text_is = text ∙ ran.text ∙ ap (λ (x : List ℕ). x ++ replies_text (regions_of lines) ran.replies) text0;
    flag = flag ∙ ap (λ b. b || failed) (ran.faulted ∙ ap (λ b. b || list_any is_fault_reply ran.replies) flag0);
    loaded_is = omega (arith, count, ran.loaded, count0);
    sum_is = omega (arith, total, ran.added, total0);
  }

  -- what the run was given
  pub run_given : AllFit (regions_of lines) lines → IsGiven c table lines rows ends
  run_given all = record {
    built = built;
    fit = all;
    table_is = table_is;
    lanes = fit;
    setups = λ s below.
        let x = there p.stripes s (omega (arith, below, stripes_p)) in
        let its : x.0.core.setup ≡ setup_at c p.shapes rows s = some_is (sym (ap (λ (o : Option (StripeSeen J)). option_map (λ (y : Core). y.setup) (core_in o)) x.1) ∙ opens.made s below) in
        subst Fits (its ∙ ap (λ (ss : List RegionShape). setup_at c ss rows s) (sym both.shapes) ∙ setup_is s) (opens.stands s x.0.core (ap core_in x.1)).fits;
    origins = run_origins;
  }

  module _ (empty : (s : ℕ) (journal : J) → slice_get journals s ≡ Some journal → has_noted journal []) where
    went : WentAll 0 has_noted (λ s. unmapped.made s ++ ran.did.made s) p z
    went = all_more has_noted ran.did.made unmapped.made p q z ran.did.same.stripes ran.did.went unmapped.went

    first : StandsBy p (λ s. [])
    first s core at = opens.stands s core at

    stands_q : StandsBy q (λ s. ran.did.made s ++ [])
    stands_q = stands_after has_noted p q ran.did.made (λ s. []) ran.did.same.stripes ran.did.went first

    noted_at : (s : ℕ) (y : StripeSeen J) → slice_get z.stripes s ≡ Some y → has_noted y.journal (by 0 (unmapped.made s ++ ran.did.made s))
    noted_at s y is =
        let x = there p.stripes s (omega (arith, slice_get_within z.stripes s y is, both.stripes)) in
        let first : slice_get journals s ≡ Some x.0.journal = ap (λ (js : List J). slice_get js s) (sym opens.journals_are) ∙ slice_get-map (λ (v : StripeSeen J). v.journal) p.stripes s ∙ ap (option_map (λ (v : StripeSeen J). v.journal)) x.1 in
        subst (λ (h : History Entry). has_noted y.journal h) (append-nil (by 0 (unmapped.made s ++ ran.did.made s))) ((went s x.0 y x.1 is).noted [] (empty s x.0.journal first))

    stands_at : (s : ℕ) (y : StripeSeen J) → slice_get z.stripes s ≡ Some y → StandsFor (by 0 (unmapped.made s ++ ran.did.made s)) y.core
    stands_at s y is =
        let x = there p.stripes s (omega (arith, slice_get_within z.stripes s y is, both.stripes)) in
        subst (λ (h : History Entry). StandsFor h y.core) (append-nil (by 0 (unmapped.made s ++ ran.did.made s))) ((went s x.0 y x.1 is).stands [] (opens.stands s x.0.core (ap core_in x.1)))

    -- a lane that a core has at home stands as one
    home_stands : (h : History Entry) (core : Core) (r : ℕ) (lane : LaneSeen) → StandsFor h core → IsHere core r lane → PlaceStands core.setup h r (Home lane)
    home_stands h core r lane stands here = subst (λ (place : LanePlace). PlaceStands core.setup h r place) here.home (stands.regions r here.region here.is).place

    pub fits_journals : (noted : List J) → noted ≡ map (λ (x : StripeSeen J). x.journal) z.stripes → FitsJournals has_noted c table lines rows ends ran.replies failed noted
    fits_journals noted are_noted = record {
      by_lines = ran.did.made;
      last = unmapped.made;
      last_replies = last.replies;
      lines_make = make_all (spread_of c.layout) lines ran.replies (λ s. []) (λ s. ran.did.made s ++ []) ran.did.made (λ s. sym (append-nil (ran.did.made s))) (ran.did.make (λ s. []) first);
      unmap = subst (λ (b : ℕ → List Entry). AllMake (spread_of c.layout) (unmap_lines (length table.regions)) last.replies b (λ s. unmapped.made s ++ b s)) (λ i s. append-nil (ran.did.made s) i) (unmapped.make (λ s. ran.did.made s ++ []) stands_q);
      failed_is = last.failed_is;
      noted = λ s journal e.
          let below = slice_get_within noted s journal e in
          let y = there z.stripes s (omega (arith, below, ap length are_noted, length-map z.stripes (λ (x : StripeSeen J). x.journal))) in
          let its : y.0.journal ≡ journal = let two : Some y.0.journal ≡ Some journal = sym (ap (λ (js : List J). slice_get js s) are_noted ∙ slice_get-map (λ (v : StripeSeen J). v.journal) z.stripes s ∙ ap (option_map (λ (v : StripeSeen J). v.journal)) y.1) ∙ e in cc in
          subst (λ (j : J). has_noted j (by 0 (unmapped.made s ++ ran.did.made s))) its (noted_at s y.0 y.1);
      legal = λ s below.
          let e = ended s (omega (arith, below, fit.stripes)) in
          subst (λ (u : Setup). IsLegal u (by 0 (unmapped.made s ++ ran.did.made s))) (e.setup ∙ setup_is s) (stands_at s e.stripe e.at).legal;
      home = λ s r below known.
          let e = ended s (omega (arith, below, fit.stripes)) in
          let lane = there e.end r (omega (arith, known, e.end_long, as_many lines, ap (λ (t : TableSeen). length t.regions) table_is)) in
          let its = home_stands (by 0 (unmapped.made s ++ ran.did.made s)) e.stripe.core r lane.0 (stands_at s e.stripe e.at) (e.lanes.here r lane.0 lane.1) in
          subst (λ (l : LaneSeen). PlaceStands (setup_at c (shapes_of table) rows s) (by 0 (unmapped.made s ++ ran.did.made s)) r (Home l)) (sym (lane_there ends s r e.end lane.0 e.is lane.1))
          (subst (λ (u : Setup). PlaceStands u (by 0 (unmapped.made s ++ ran.did.made s)) r (Home lane.0)) (e.setup ∙ setup_is s) its);
    }
