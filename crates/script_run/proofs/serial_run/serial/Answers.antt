use Rattle.std.proofs.Common.{◌≡◌, ◌++◌, length, map, refl, sym, ap, subst, ◌∙◌, arith}
use Rattle.std.proofs.lemmas.Simd.{map-map}
use Rattle.histories.specs.Histories.{by}
use Rattle.region_table.specs.Regions.{TableSeen, shapes_of}
use Rattle.workload_text.specs.View.{lines_of}
use Rattle.workload_text.specs.Accepted.{regions_of}
use Rattle.serial_pager.specs.Pagers.{rows_of}
use Rattle.script_run.specs.FitsSerial.{spread_of, EndSeen}
use Rattle.script_run.specs.FitsJournals.{FitsJournals}
use Rattle.script_run.specs.InsideRunning.{MayOpen, OpensOn, Ran}
use Rattle.script_run.specs.Tables.{table_of}
use Rattle.script_run.proofs.Journaled.{may_run, run_origins, run_shown, run_given, fits_journals}
use Rattle.script_run.proofs.FittedLanes.{whole_rows}
use Rattle.script_run.proofs.LastUnmaps.{UnmapsLast, last_unmapped}
use Rattle.script_run.proofs.Tabled.{as_many, shapes_are}
use Rattle.script_run.proofs.Tellings.{stay_told}
use Rattle.script_run.proofs.serial_run.serial.Goals as goal

pub open_pager-requires : goal.open_pager-requires
open_pager-requires g c =
    let lines = lines_of c.args.workload.now in
    let set = c.args.settings.now in
    let rows = rows_of g.S.Store.seen c.args.lanes in
    let js = c.args.journals.now.items in
    let may : MayOpen set c.args.table lines rows js = record { runnable = c.requires.runnable; built = c.requires.built; settings = c.requires.settings; table_is = c.requires.table; lanes = c.requires.lanes; as_many = c.requires.journals } in
    record { may = (lines, may) }

pub run_scripts-requires-clause-table : goal.run_scripts-requires-clause-table
run_scripts-requires-clause-table g c =
    let lines = lines_of c.args.workload.now in
    let set = c.args.settings.now in
    let rows = rows_of g.S.Store.seen c.args.lanes in
    let js = c.args.journals.now.items in
    let may : MayOpen set c.args.table lines rows js = record { runnable = c.requires.runnable; built = c.requires.built; settings = c.requires.settings; table_is = c.requires.table; lanes = c.requires.lanes; as_many = c.requires.journals } in
    let opens : OpensOn set (regions_of lines) rows js c.in-Ok-open_pager.pager = c.in-Ok-open_pager.ensures.opened lines may in
    c.requires.table ∙ ap (λ z. table_of z lines) (sym opens.shaped.page_size)

pub run_scripts-requires-clause-may : goal.run_scripts-requires-clause-may
run_scripts-requires-clause-may g c =
    let lines = lines_of c.args.workload.now in
    let set = c.args.settings.now in
    let rows = rows_of g.S.Store.seen c.args.lanes in
    let js = c.args.journals.now.items in
    let may : MayOpen set c.args.table lines rows js = record { runnable = c.requires.runnable; built = c.requires.built; settings = c.requires.settings; table_is = c.requires.table; lanes = c.requires.lanes; as_many = c.requires.journals } in
    let opens : OpensOn set (regions_of lines) rows js c.in-Ok-open_pager.pager = c.in-Ok-open_pager.ensures.opened lines may in
    (spread_of set.layout, may_run set lines rows js c.requires.runnable c.requires.built c.in-Ok.replies c.in-Ok-open_pager.pager opens (omega (arith, c.in-Some.ensures, c.in-Ok.ensures.room)) c.in-Ok.ensures.loaded)

pub unmap_all-requires : goal.unmap_all-requires
unmap_all-requires g c =
    let lines = lines_of c.args.workload.now in
    let set = c.args.settings.now in
    let rows = rows_of g.S.Store.seen c.args.lanes in
    let js = c.args.journals.now.items in
    let may : MayOpen set c.args.table lines rows js = record { runnable = c.requires.runnable; built = c.requires.built; settings = c.requires.settings; table_is = c.requires.table; lanes = c.requires.lanes; as_many = c.requires.journals } in
    let opens : OpensOn set (regions_of lines) rows js c.in-Ok-open_pager.pager = c.in-Ok-open_pager.ensures.opened lines may in
    let ran : Ran g.J.Journal.has_noted (spread_of set.layout) (regions_of lines) lines c.in-Ok.replies c.run_scripts.new.replies c.in-Ok-open_pager.pager c.run_scripts.new.pager = c.run_scripts.ensures.ran (spread_of set.layout) opens.shaped in
    omega (arith, ran.pieces, opens.spent, c.requires.runnable.commands)

pub returns-clause-fits : goal.returns-clause-fits
returns-clause-fits g c =
    let lines = lines_of c.args.workload.now in
    let set = c.args.settings.now in
    let rows = rows_of g.S.Store.seen c.args.lanes in
    let js = c.args.journals.now.items in
    let may : MayOpen set c.args.table lines rows js = record { runnable = c.requires.runnable; built = c.requires.built; settings = c.requires.settings; table_is = c.requires.table; lanes = c.requires.lanes; as_many = c.requires.journals } in
    let opens : OpensOn set (regions_of lines) rows js c.in-Ok-open_pager.pager = c.in-Ok-open_pager.ensures.opened lines may in
    let ran : Ran g.J.Journal.has_noted (spread_of set.layout) (regions_of lines) lines c.in-Ok.replies c.run_scripts.new.replies c.in-Ok-open_pager.pager c.run_scripts.new.pager = c.run_scripts.ensures.ran (spread_of set.layout) opens.shaped in
    let p = c.in-Ok-open_pager.pager in
    let q = c.run_scripts.new.pager in
    let z = c.unmap_all.new.self in
    let failed = c.is_err-failed.result in
    let last : UnmapsLast g.J.Journal.has_noted (length c.args.table.regions) failed q z = last_unmapped g.J.Journal.has_noted set lines c.args.table p q z c.requires.table opens ran c.stripes_agree.ensures c.unmap_all.result c.unmap_all.ensures.unmapped c.is_err-failed.ensures.value in
    let ends = rows_of g.S.Store.seen c.into_parts-lanes.result.0 in
    let e : EndSeen = record { text = c.into_text.result.items; faulted = c.either-faulted.result; loaded = c.run_scripts.new.replies.loaded; sum = c.run_scripts.new.replies.sum } in
    let lanes = c.into_parts-lanes.ensures.lanes in
    let noted = c.put_journals.new.list.items in
    let r0 = c.in-Ok.replies in
    let r1 = c.run_scripts.new.replies in
    let journals = fits_journals g.J.Journal.has_noted set c.args.table lines rows ends js c.requires.lanes r0 r1 p q z opens ran failed last lanes c.requires.table c.requires.built c.requires.empty noted (c.put_journals.ensures ∙ c.into_parts-lanes.ensures.journals) in
    let given = run_given g.J.Journal.has_noted set c.args.table lines rows ends js c.requires.lanes r0 r1 p q z opens ran failed last lanes c.requires.table c.requires.built c.requires.runnable.fit in
    let shown = run_shown g.J.Journal.has_noted set c.args.table lines rows ends js c.requires.lanes r0 r1 p q z opens ran failed last lanes c.requires.table c.requires.built
    e (ap (λ (b : _). b.items) c.into_text.ensures) c.either-faulted.ensures refl refl c.in-Ok.ensures.empty c.in-Ok.ensures.faulted c.in-Ok.ensures.loaded c.in-Ok.ensures.sum in
    let run = c.from_journals.ensures set c.args.table lines rows ends ran.replies failed noted e given shown journals in
    let by_replies = subst (λ rs. FitsJournals g.J.Journal.has_noted set c.args.table lines rows ends rs failed noted) (sym run.1) journals in
    (run.0, subst (λ f. FitsJournals g.J.Journal.has_noted set c.args.table lines rows ends run.0.replies f noted) (sym run.2) by_replies)

pub returns-clause-origins : goal.returns-clause-origins
returns-clause-origins g c =
    let lines = lines_of c.args.workload.now in
    let set = c.args.settings.now in
    let rows = rows_of g.S.Store.seen c.args.lanes in
    let js = c.args.journals.now.items in
    let may : MayOpen set c.args.table lines rows js = record { runnable = c.requires.runnable; built = c.requires.built; settings = c.requires.settings; table_is = c.requires.table; lanes = c.requires.lanes; as_many = c.requires.journals } in
    let opens : OpensOn set (regions_of lines) rows js c.in-Ok-open_pager.pager = c.in-Ok-open_pager.ensures.opened lines may in
    let ran : Ran g.J.Journal.has_noted (spread_of set.layout) (regions_of lines) lines c.in-Ok.replies c.run_scripts.new.replies c.in-Ok-open_pager.pager c.run_scripts.new.pager = c.run_scripts.ensures.ran (spread_of set.layout) opens.shaped in
    let p = c.in-Ok-open_pager.pager in
    let q = c.run_scripts.new.pager in
    let z = c.unmap_all.new.self in
    let failed = c.is_err-failed.result in
    let last : UnmapsLast g.J.Journal.has_noted (length c.args.table.regions) failed q z = last_unmapped g.J.Journal.has_noted set lines c.args.table p q z c.requires.table opens ran c.stripes_agree.ensures c.unmap_all.result c.unmap_all.ensures.unmapped c.is_err-failed.ensures.value in
    run_origins g.J.Journal.has_noted set c.args.table lines rows (rows_of g.S.Store.seen c.into_parts-lanes.result.0) js c.requires.lanes c.in-Ok.replies c.run_scripts.new.replies p q z opens ran failed last c.into_parts-lanes.ensures.lanes c.requires.table c.requires.built

pub returns-clause-journals : goal.returns-clause-journals
returns-clause-journals g c =
    let lines = lines_of c.args.workload.now in
    let set = c.args.settings.now in
    let rows = rows_of g.S.Store.seen c.args.lanes in
    let js = c.args.journals.now.items in
    let may : MayOpen set c.args.table lines rows js = record { runnable = c.requires.runnable; built = c.requires.built; settings = c.requires.settings; table_is = c.requires.table; lanes = c.requires.lanes; as_many = c.requires.journals } in
    let opens : OpensOn set (regions_of lines) rows js c.in-Ok-open_pager.pager = c.in-Ok-open_pager.ensures.opened lines may in
    let p = c.in-Ok-open_pager.pager in
    let z = c.unmap_all.new.self in
    ap (map g.J.Journal.made_with) (c.put_journals.ensures ∙ c.into_parts-lanes.ensures.journals)
    ∙ map-map g.J.Journal.made_with (λ x. x.journal) z.stripes
    ∙ c.unmap_all.ensures.made
    ∙ c.run_scripts.ensures.journals
    ∙ sym (map-map g.J.Journal.made_with (λ x. x.journal) p.stripes)
    ∙ ap (map g.J.Journal.made_with) opens.journals_are

pub returns-clause-told : goal.returns-clause-told
returns-clause-told g c =
    let lines = lines_of c.args.workload.now in
    let set = c.args.settings.now in
    let ended = returns-clause-fits g c in
    let journals = ended.1 in
    let table = c.args.table in
    let shapes = ap shapes_of c.requires.table ∙ shapes_are set.layout.page_size lines c.requires.built in
    let many : length table.regions ≡ length (regions_of lines) = ap (λ (t : TableSeen). length t.regions) c.requires.table ∙ as_many lines in
    stay_told set (regions_of lines) (rows_of g.S.Store.seen c.args.lanes) (rows_of g.S.Store.seen c.into_parts-lanes.result.0) c.requires.lanes
    (whole_rows g.S.Store.seen (λ x page. g.met.S.Store.whole_pages x page) c.args.lanes.stripes.items)
    (whole_rows g.S.Store.seen (λ x page. g.met.S.Store.whole_pages x page) c.into_parts-lanes.result.0.stripes.items)
    (returns-clause-origins g c) (shapes_of table) shapes (λ s. by 0 (journals.last s ++ journals.by_lines s))
    (λ s r stripe known. journals.home s r stripe (omega (arith, known, many)))
