use Rattle.std.proofs.Common.{◌≤◌, ◌+◌, slice_index, ap, arith}
use Rattle.std.proofs.Math.Nat.{mul-le-mul_right}
use Rattle.region_table.specs.Regions.{TableSeen, lengths_of, page_count}
use Rattle.region_table.proofs.Keeping.{length_at}
use Rattle.region_table.proofs.table.RegionTable.pieces.Goals as goal

pub new-requires-clause-few : goal.new-requires-clause-few
new-requires-clause-few c =
    let sized : 1 ≤ c.self.inside.page_size = omega (arith, c.self.invariant.0) in
    let size = length_at c.self.inside.page_size c.self.inside.regions.items c.args.region sized in
    let same = ap (λ (t : TableSeen). slice_index (lengths_of t) c.args.region) c.self.view_is in
    let few : page_count (record { page_size = c.self.inside.page_size; regions = c.self.inside.regions.items }) + 1 ≤ 4294967296 = omega (arith, c.self.invariant.1, c.self.invariant.2) in
    omega (arith, size, same, mul-le-mul_right c.self.inside.page_size few, c.requires.inside)
