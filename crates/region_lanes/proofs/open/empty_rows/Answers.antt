use Rattle.std.proofs.Common.{◌≡◌, ◌+◌, length, arith}
use Rattle.region_lanes.proofs.OneRegion.{one_row_more, room_more, pushed_len}
use Rattle.region_lanes.proofs.open.empty_rows.Goals as goal

pub stripes-preserved : goal.stripes-preserved
stripes-preserved g c =
    let longer : length c.put.new.self.items ≡ length c.stripes.rows.items + 1 = pushed_len c.stripes.rows.items c.put.new.self.items c.in_ok-row.row c.put.ensures.items in
    record {
      rows = one_row_more g.S.Store.seen c.stripes.rows.items c.put.new.self.items c.in_ok-row.row c.put.ensures.items c.in_ok-row.ensures.empty c.stripes.invariant.rows;
      have = room_more c.args.regions c.stripes.rows.items c.put.new.self.items c.in_ok-row.row c.put.ensures.items c.in_ok-row.ensures.room c.stripes.invariant.have;
      room = omega (arith, c.put.ensures.spare, c.stripes.invariant.room, longer);
      within = omega (arith, longer);
    }
