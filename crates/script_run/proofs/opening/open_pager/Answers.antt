use Rattle.std.proofs.Common.{◌≡◌, length, map, refl, ap, ◌∙◌, arith}
use Rattle.region_table.specs.Regions.{shapes_of, page_count}
use Rattle.serial_pager.specs.Pagers.{rows_of, CanOpen}
use Rattle.serial_pager.specs.declared.pager.PagerConfig.{PagerConfig}
use Rattle.workload_text.specs.Accepted.{regions_of}
use Rattle.script_run.specs.InsideRunning.{MayOpen, shape_of}
use Rattle.script_run.proofs.Openings.{sizes_kept}
use Rattle.script_run.proofs.FittedLanes.{can_open}
use Rattle.script_run.proofs.OpenedOn.{opens_on}
use Rattle.script_run.proofs.Tabled.{shapes_are, few_of_table}
use Rattle.script_run.proofs.opening.open_pager.Goals as goal

pub open-requires : goal.open-requires
open-requires g c =
    let s = c.args.settings.now in
    let lines = c.requires.may.0 in
    let may : MayOpen s c.args.table.now lines (rows_of g.S.Store.seen c.args.lanes) c.args.journals.now.items = c.requires.may.1 in
    let gs = regions_of lines in
    let config : PagerConfig = record { layout = s.layout; faults = s.faults; high = s.high; low = s.low; shapes = c.in-Ok.shapes } in
    let shapes : c.in-Ok.shapes.items ≡ map (shape_of s.layout.page_size) gs = c.in-Ok.ensures.shapes ∙ ap shapes_of may.table_is ∙ shapes_are s.layout.page_size lines may.built in
    let few = few_of_table s.layout.page_size lines may.built (omega (arith, c.in-Ok.ensures.few, ap page_count may.table_is)) in
    record {
      can = can_open s.layout gs (rows_of g.S.Store.seen c.args.lanes) may.lanes s may.settings refl may.runnable.regions few config refl shapes
          (length c.replace-own.result.items) (omega (arith, may.as_many, ap (λ l. length l.items) c.replace-own.ensures.value));
    }

pub returns-in-Ok-open-clause-opened : goal.returns-in-Ok-open-clause-opened
returns-in-Ok-open-clause-opened g c = λ lines may.
    let s = c.args.settings.now in
    let rows = rows_of g.S.Store.seen c.args.lanes in
    let gs = regions_of lines in
    let config : PagerConfig = record { layout = s.layout; faults = s.faults; high = s.high; low = s.low; shapes = c.in-Ok.shapes } in
    let shapes : c.in-Ok.shapes.items ≡ map (shape_of s.layout.page_size) gs = c.in-Ok.ensures.shapes ∙ ap shapes_of may.table_is ∙ shapes_are s.layout.page_size lines may.built in
    let few = few_of_table s.layout.page_size lines may.built (omega (arith, c.in-Ok.ensures.few, ap page_count may.table_is)) in
    let own : c.replace-own.result.items ≡ c.args.journals.now.items = ap (λ l. l.items) c.replace-own.ensures.value in
    let can : CanOpen config rows (length c.args.journals.now.items) = can_open s.layout gs rows may.lanes s may.settings refl may.runnable.regions few config refl shapes (length c.args.journals.now.items) may.as_many in
    opens_on s.layout gs rows may.lanes
    s refl config refl c.args.journals.now.items can c.in-Ok-open.pager (rw own at c.in-Ok-open.ensures.opened) shapes may.lanes.whole (sizes_kept gs lines may.runnable.fit)
