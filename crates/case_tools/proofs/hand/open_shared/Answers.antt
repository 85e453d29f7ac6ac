use Rattle.std.proofs.Common.{◌≡◌, ℕ, ◌<◌, ◌*◌, [], ◌∷◌, length, rules, refl, sym, ap, ◌∙◌}
use Rattle.region_table.specs.Regions.{TableSeen}
use Rattle.umap_pager.specs.declared.config.PagerConfig.{PagerConfig}
use Rattle.umap_pager.specs.Ended.{rows_seen}
use Rattle.case_tools.proofs.Hands.{put_only, rows_are, can_share}
use Rattle.case_tools.proofs.hand.open_shared.Goals as goal

pub open-requires-clause-can : goal.open-requires-clause-can
open-requires-clause-can g c =
    let row = put_only c.put.new.self.items c.reserve.new.self.items c.new-row.result.items c.args.lane c.put.ensures.items c.reserve.ensures.items c.new-row.ensures.items in
    let rows = put_only c.put-2.new.self.items c.reserve-2.new.self.items c.new-rows.result.items c.put.new.self c.put-2.ensures.items c.reserve-2.ensures.items c.new-rows.ensures.items in
    let journals = put_only c.put-3.new.self.items c.reserve-3.new.self.items c.new-journals.result.items c.args.journal c.put-3.ensures.items c.reserve-3.ensures.items c.new-journals.ensures.items in
    let config : PagerConfig = record { layout = c.args.layout; faults = 2; high = 90; low = 70; seats = 1; holds = c.args.holds } in
    let long : c.from.result * c.from-2.result ≡ c.args.pages * c.args.layout.page_size = cc (c.from.ensures, c.from-2.ensures, c.page_size-page_size.ensures) in
    let some : 0 < c.args.layout.page_size = search rules in
    can_share config c.in_ok-table.table (g.S.Store.seen c.args.lane) (rows_seen g.S.Store.seen c.put-2.new.self.items) (length c.put-3.new.self.items) c.args.pages c.page_size-page_size.result (c.from.result * c.from-2.result) c.args.writable c.requires.stripes c.in_ok-table.ensures c.page_size-page_size.ensures long some c.requires.lane (rows_are g.S.Store.seen c.args.lane c.put.new.self c.put-2.new.self.items row rows) (ap length journals) (refl, refl, refl, refl) c.requires.holds.0 c.requires.holds.1

pub invariant_of-result : goal.invariant_of-result
invariant_of-result g c =
    let row = put_only c.put.new.self.items c.reserve.new.self.items c.new-row.result.items c.args.lane c.put.ensures.items c.reserve.ensures.items c.new-row.ensures.items in
    let rows = put_only c.put-2.new.self.items c.reserve-2.new.self.items c.new-rows.result.items c.put.new.self c.put-2.ensures.items c.reserve-2.ensures.items c.new-rows.ensures.items in
    let journals = put_only c.put-3.new.self.items c.reserve-3.new.self.items c.new-journals.result.items c.args.journal c.put-3.ensures.items c.reserve-3.ensures.items c.new-journals.ensures.items in
    let config : PagerConfig = record { layout = c.args.layout; faults = 2; high = 90; low = 70; seats = 1; holds = c.args.holds } in
    let long : c.from.result * c.from-2.result ≡ c.args.pages * c.args.layout.page_size = cc (c.from.ensures, c.from-2.ensures, c.page_size-page_size.ensures) in
    let some : 0 < c.args.layout.page_size = search rules in
    let can = can_share config c.in_ok-table.table (g.S.Store.seen c.args.lane) (rows_seen g.S.Store.seen c.put-2.new.self.items) (length c.put-3.new.self.items) c.args.pages c.page_size-page_size.result (c.from.result * c.from-2.result) c.args.writable c.requires.stripes c.in_ok-table.ensures c.page_size-page_size.ensures long some c.requires.lane (rows_are g.S.Store.seen c.args.lane c.put.new.self c.put-2.new.self.items row rows) (ap length journals) (refl, refl, refl, refl) c.requires.holds.0 c.requires.holds.1 in
    let opened = c.in-Ok.ensures.opened in
    record {
      fit = opened.fit;
      may = c.calls_end_trips.ensures.opened config c.in_ok-table.table (rows_seen g.S.Store.seen c.put-2.new.self.items) c.put-3.new.self.items c.in-Ok.pager c.in-Ok.passes can opened;
      region = ap (λ (t : TableSeen). length t.regions) opened.table ∙ ap length c.in_ok-table.ensures.regions;
      stripe = ap (λ l. l.stripes) opened.layout ∙ c.requires.stripes;
      lock = opened.stripes ∙ c.requires.stripes;
    }
