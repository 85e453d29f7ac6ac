use Rattle.std.proofs.Common.{◌≡◌, ◌+◌, ◌-◌, ◌<◌, List, length, map, slice_get, Some, sym, ap, subst, ◌∙◌, arith}
use Rattle.region_table.specs.Regions.{NamedRegion}
use Rattle.serial_pager.specs.Pagers.{rows_by}
use Rattle.script_run.specs.RegionRules.{named_region}
use Rattle.region_lanes.specs.InsideOpened.{HaveRoom}
use Rattle.region_lanes.specs.contracts.any_lane.AnyLaneStore.TheImpl.{ghosts}
use Rattle.region_lanes.proofs.Lists.{slice_get_at, map_at}
use Rattle.region_lanes.proofs.Stepping.{none_out, refusal_shown, one_more, stop_cause}
use Rattle.region_lanes.proofs.open.open_regions.Goals as goal

pub open_region-requires-clause-size : goal.open_region-requires-clause-size
open_region-requires-clause-size g c =
    let lines = c.args.lines.now in
    let i = c.loop-i.i in
    let line = c.index-lines-i.result in
    let below : i < length lines = omega arith in
    c.requires.good.size i (named_region line) (map_at named_region lines i line (slice_get_at lines i line below ∙ ap (λ x. Some x) (sym c.index-lines-i.is)))

pub open_region-requires-clause-built : goal.open_region-requires-clause-built
open_region-requires-clause-built g c =
    let lines = c.args.lines.now in
    let i = c.loop-i.i in
    let line = c.index-lines-i.result in
    let below : i < length lines = omega arith in
    c.requires.good.built i (named_region line) (map_at named_region lines i line (slice_get_at lines i line below ∙ ap (λ x. Some x) (sym c.index-lines-i.is)))

pub open_region-requires-clause-none_out : goal.open_region-requires-clause-none_out
open_region-requires-clause-none_out g c =
    let seen = (ghosts g.row.F-Part g.F.Part.Part g.F.Part.Part-dict).seen in
    let lines = c.args.lines.now in
    let i = c.loop-i.i in
    let line = c.index-lines-i.result in
    let below : i < length lines = omega arith in
    none_out c.args.layout.now (map named_region lines) c.requires.good i (named_region line) (map_at named_region lines i line (slice_get_at lines i line below ∙ ap (λ x. Some x) (sym c.index-lines-i.is)))
    (rows_by seen c.loop-i.rows) (g.F.Folder.seen c.args.folder.now) (g.F.Folder.seen c.loop-i.folder) c.loop-i.invariant.opens

pub returns-in-Err-clause-stop : goal.returns-in-Err-clause-stop
returns-in-Err-clause-stop g c =
    let seen = (ghosts g.row.F-Part g.F.Part.Part g.F.Part.Part-dict).seen in
    let lines = c.args.lines.now in
    let i = c.loop-i.i in
    let line = c.index-lines-i.result in
    let below : i < length lines = omega arith in
    record {
      shows = refusal_shown c.args.layout.now (map named_region lines) c.requires.good i (named_region line) (map_at named_region lines i line (slice_get_at lines i line below ∙ ap (λ x. Some x) (sym c.index-lines-i.is)))
          (rows_by seen c.loop-i.rows) (g.F.Folder.seen c.args.folder.now) (g.F.Folder.seen c.loop-i.folder) c.loop-i.invariant.opens c.in-Err.fault c.in-Err.ensures.shows;
      cause = stop_cause (g.F.Folder.seen c.args.folder.now).count (g.F.Folder.seen c.loop-i.folder).count (g.F.Folder.seen c.open_region.new.folder).count c.in-Err.fault c.loop-i.invariant.later c.in-Err.ensures.cause.failed;
    }

pub loop-i-preserved : goal.loop-i-preserved
loop-i-preserved g c =
    let seen = (ghosts g.row.F-Part g.F.Part.Part g.F.Part.Part-dict).seen in
    let lines = c.args.lines.now in
    let i = c.loop-i.i in
    let line = c.index-lines-i.result in
    let below : i < length lines = omega arith in
    let less : length lines - i ≡ length lines - (i + 1) + 1 = omega (arith, below) in
    record {
      opens = one_more c.args.layout.now (map named_region lines) c.requires.good i (named_region line) (map_at named_region lines i line (slice_get_at lines i line below ∙ ap (λ x. Some x) (sym c.index-lines-i.is)))
          (rows_by seen c.loop-i.rows) (g.F.Folder.seen c.args.folder.now) (g.F.Folder.seen c.loop-i.folder) c.loop-i.invariant.opens
          (rows_by seen c.put_lanes.new.rows) (map seen c.in-Ok.lanes.items) (g.F.Folder.seen c.open_region.new.folder)
          c.in-Ok.ensures.lanes (rw c.into_vec.ensures at c.put_lanes.ensures.puts) c.in-Ok.ensures.shows c.in-Ok.ensures.out;
      room = c.put_lanes.ensures.room (length lines - (i + 1)) (subst (λ n. HaveRoom n c.loop-i.rows) less c.loop-i.invariant.room);
      later = omega (arith, c.loop-i.invariant.later, c.in-Ok.ensures.cause.later);
    }
