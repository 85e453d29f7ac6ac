use Rattle.std.proofs.Common.{◌≡◌, ◌++◌, List, length, map, take, drop, Option, sym, ap, subst, ◌∙◌, arith}
use Rattle.std.specs.Option.{IfSome}
use Rattle.std.proofs.lemmas.List.{length-map, length-replicate}
use Rattle.page_base.specs.Lanes.{LaneSeen}
use Rattle.file_store.specs.Parts.{WhereTold}
use Rattle.region_table.specs.Regions.{NamedRegion}
use Rattle.serial_pager.specs.Pagers.{rows_by}
use Rattle.workload_text.specs.View.{lines_of}
use Rattle.workload_text.specs.Accepted.{regions_of}
use Rattle.script_run.specs.Fits.{FitLanes}
use Rattle.script_run.specs.RegionRules.{named_region}
use Rattle.script_run.specs.Tables.{regions_seen}
use Rattle.region_lanes.specs.Closings.{rows_flat, AllOut, ClosesAll}
use Rattle.region_lanes.specs.Regions.{AreOpened, StopsAt, TakesOut}
use Rattle.region_lanes.specs.InsideOpened.{AreGood, OpensFirst}
use Rattle.region_lanes.specs.contracts.any_lane.AnyLaneStore.TheImpl.{ghosts}
use Rattle.region_lanes.proofs.Rules.{rules_good}
use Rattle.region_lanes.proofs.Fitting.{lanes_fit}
use Rattle.region_lanes.proofs.Ending.{taken_out, all_out, as_before, all_opened, stops, lent_back, rows_long}
use Rattle.region_lanes.proofs.open.open_lanes.Goals as goal

pub open_regions-requires-clause-good : goal.open_regions-requires-clause-good
open_regions-requires-clause-good g c =
    let w = c.args.workload.now in
    let z = c.args.settings.now.layout.page_size in
    subst (λ (gs : List NamedRegion). AreGood z gs) (c.regions_are_maps.ensures.seen w ∙ ap (map named_region) (sym c.as_slice-lines.ensures))
    (rules_good z (regions_seen (lines_of w)) c.requires.regions.rules c.requires.regions.no_folders)

pub close_rows-requires : goal.close_rows-requires
close_rows-requires g c =
    let seen = (ghosts g.row.F-Part g.F.Part.Part g.F.Part.Part-dict).seen in
    let w = c.args.workload.now in
    let layout = c.args.settings.now.layout in
    let regions : List NamedRegion = map named_region c.as_slice-lines.result.now in
    let good : AreGood layout.page_size regions = subst (λ (gs : List NamedRegion). AreGood layout.page_size gs) (c.regions_are_maps.ensures.seen w ∙ ap (map named_region) (sym c.as_slice-lines.ensures)) (rules_good layout.page_size (regions_seen (lines_of w)) c.requires.regions.rules c.requires.regions.no_folders) in
    let now = c.open_regions.new.rows in
    let opens : OpensFirst c.in-Err.stop.region layout regions (rows_by seen now) (g.F.Folder.seen c.args.folder.now) (g.F.Folder.seen c.open_regions.new.folder) = c.in-Err.ensures.opens in
    let long : length now ≡ layout.stripes = rows_long seen now layout.stripes opens.opened.lanes.count in
    let first : length c.in-Ok.rows.items ≡ c.stripes-stripes.result = rows_long seen c.in-Ok.rows.items c.stripes-stripes.result (ap length c.in-Ok.ensures.empty ∙ length-replicate c.stripes-stripes.result _) in
    let same = lent_back c.in-Ok.rows.items now c.in-Ok.rows.len (omega (arith, long, first, c.in-Ok.rows.ok.0, c.stripes-stripes.ensures)) in
    record {
      out = subst (λ rows. IfSome (g.F.Folder.seen c.open_regions.new.folder).told (λ s. AllOut (rows_flat (rows_by seen rows)) s.out)) (sym same)
          (all_out c.in-Err.stop.region layout regions (rows_by seen now) (g.F.Folder.seen c.args.folder.now) (g.F.Folder.seen c.open_regions.new.folder) good opens);
    }

pub returns-in-Ok-open_regions-clause-fit : goal.returns-in-Ok-open_regions-clause-fit
returns-in-Ok-open_regions-clause-fit g c =
    let seen = (ghosts g.row.F-Part g.F.Part.Part g.F.Part.Part-dict).seen in
    let w = c.args.workload.now in
    let layout = c.args.settings.now.layout in
    let lines = c.as_slice-lines.result.now in
    let regions : List NamedRegion = map named_region lines in
    let are : regions ≡ regions_seen (lines_of w) = sym (c.regions_are_maps.ensures.seen w ∙ ap (map named_region) (sym c.as_slice-lines.ensures)) in
    let now = c.open_regions.new.rows in
    let opens : OpensFirst (length lines) layout regions (rows_by seen now) (g.F.Folder.seen c.args.folder.now) (g.F.Folder.seen c.open_regions.new.folder) = c.in-Ok-open_regions.ensures.opens in
    let opened : AreOpened (g.F.Folder.seen c.args.folder.now).told layout.page_size layout.stripes (regions_seen (lines_of w)) (rows_by seen now) =
    subst (λ (gs : List NamedRegion). AreOpened (g.F.Folder.seen c.args.folder.now).told layout.page_size layout.stripes gs (rows_by seen now)) are
    (all_opened (length lines) layout regions (rows_by seen now) (g.F.Folder.seen c.args.folder.now) (g.F.Folder.seen c.open_regions.new.folder) (sym (length-map lines named_region)) opens) in
    let long : length now ≡ layout.stripes = rows_long seen now layout.stripes opens.opened.lanes.count in
    let first : length c.in-Ok.rows.items ≡ c.stripes-stripes.result = rows_long seen c.in-Ok.rows.items c.stripes-stripes.result (ap length c.in-Ok.ensures.empty ∙ length-replicate c.stripes-stripes.result _) in
    let same = lent_back c.in-Ok.rows.items now c.in-Ok.rows.len (omega (arith, long, first, c.in-Ok.rows.ok.0, c.stripes-stripes.ensures)) in
    subst (λ rows. FitLanes layout (regions_of (lines_of w)) (rows_by seen rows)) (sym (c.from_vec.ensures.items ∙ same))
    (lanes_fit layout (lines_of w) (rows_by seen now) opened.lanes (rules_good layout.page_size (regions_seen (lines_of w)) c.requires.regions.rules c.requires.regions.no_folders).size)

pub returns-in-Ok-open_regions-clause-out : goal.returns-in-Ok-open_regions-clause-out
returns-in-Ok-open_regions-clause-out g c =
    let seen = (ghosts g.row.F-Part g.F.Part.Part g.F.Part.Part-dict).seen in
    let w = c.args.workload.now in
    let layout = c.args.settings.now.layout in
    let lines = c.as_slice-lines.result.now in
    let regions : List NamedRegion = map named_region lines in
    let good : AreGood layout.page_size regions = subst (λ (gs : List NamedRegion). AreGood layout.page_size gs) (c.regions_are_maps.ensures.seen w ∙ ap (map named_region) (sym c.as_slice-lines.ensures)) (rules_good layout.page_size (regions_seen (lines_of w)) c.requires.regions.rules c.requires.regions.no_folders) in
    let now = c.open_regions.new.rows in
    let opens : OpensFirst (length lines) layout regions (rows_by seen now) (g.F.Folder.seen c.args.folder.now) (g.F.Folder.seen c.open_regions.new.folder) = c.in-Ok-open_regions.ensures.opens in
    let long : length now ≡ layout.stripes = rows_long seen now layout.stripes opens.opened.lanes.count in
    let first : length c.in-Ok.rows.items ≡ c.stripes-stripes.result = rows_long seen c.in-Ok.rows.items c.stripes-stripes.result (ap length c.in-Ok.ensures.empty ∙ length-replicate c.stripes-stripes.result _) in
    let same = lent_back c.in-Ok.rows.items now c.in-Ok.rows.len (omega (arith, long, first, c.in-Ok.rows.ok.0, c.stripes-stripes.ensures)) in
    subst (λ rows. WhereTold (TakesOut (rows_by seen rows)) (g.F.Folder.seen c.args.folder.now).told (g.F.Folder.seen c.open_regions.new.folder).told) (sym (c.from_vec.ensures.items ∙ same))
    (taken_out (length lines) layout regions (rows_by seen now) (g.F.Folder.seen c.args.folder.now) (g.F.Folder.seen c.open_regions.new.folder) good opens)

pub returns-in-Err-clause-stop : goal.returns-in-Err-clause-stop
returns-in-Err-clause-stop g c =
    let seen = (ghosts g.row.F-Part g.F.Part.Part g.F.Part.Part-dict).seen in
    let w = c.args.workload.now in
    let layout = c.args.settings.now.layout in
    let regions : List NamedRegion = map named_region c.as_slice-lines.result.now in
    let are : regions ≡ regions_seen (lines_of w) = sym (c.regions_are_maps.ensures.seen w ∙ ap (map named_region) (sym c.as_slice-lines.ensures)) in
    let old = g.F.Folder.seen c.args.folder.now in
    subst (λ (gs : List NamedRegion). IfSome old.told (λ s. StopsAt gs c.in-Err.stop s.files)) are
    (stops layout regions (rows_by seen c.open_regions.new.rows) old (g.F.Folder.seen c.open_regions.new.folder) c.in-Err.stop c.in-Err.ensures.opens c.in-Err.ensures.stop.shows)

pub returns-in-Err-clause-back : goal.returns-in-Err-clause-back
returns-in-Err-clause-back g c =
    let seen = (ghosts g.row.F-Part g.F.Part.Part g.F.Part.Part-dict).seen in
    let w = c.args.workload.now in
    let layout = c.args.settings.now.layout in
    let regions : List NamedRegion = map named_region c.as_slice-lines.result.now in
    let good : AreGood layout.page_size regions = subst (λ (gs : List NamedRegion). AreGood layout.page_size gs) (c.regions_are_maps.ensures.seen w ∙ ap (map named_region) (sym c.as_slice-lines.ensures)) (rules_good layout.page_size (regions_seen (lines_of w)) c.requires.regions.rules c.requires.regions.no_folders) in
    let now = c.open_regions.new.rows in
    let old = g.F.Folder.seen c.args.folder.now in
    let mid = g.F.Folder.seen c.open_regions.new.folder in
    let opens : OpensFirst c.in-Err.stop.region layout regions (rows_by seen now) old mid = c.in-Err.ensures.opens in
    let long : length now ≡ layout.stripes = rows_long seen now layout.stripes opens.opened.lanes.count in
    let first : length c.in-Ok.rows.items ≡ c.stripes-stripes.result = rows_long seen c.in-Ok.rows.items c.stripes-stripes.result (ap length c.in-Ok.ensures.empty ∙ length-replicate c.stripes-stripes.result _) in
    let same = lent_back c.in-Ok.rows.items now c.in-Ok.rows.len (omega (arith, long, first, c.in-Ok.rows.ok.0, c.stripes-stripes.ensures)) in
    as_before c.in-Err.stop.region layout regions (rows_by seen now) old mid good opens (g.F.Folder.seen c.close_rows.new.folder).told c.requires.none_out
    (subst (λ rows. WhereTold (ClosesAll (rows_flat (rows_by seen rows))) mid.told (g.F.Folder.seen c.close_rows.new.folder).told) same c.close_rows.ensures.closed)
