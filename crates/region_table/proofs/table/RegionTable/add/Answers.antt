use Rattle.std.proofs.Common.{List, length, length-append, ap, arith}
use Rattle.region_table.specs.Regions.{NamedRegion, TableSeen}
use Rattle.region_table.proofs.Keeping.{count_grown, rules_kept}
use Rattle.region_table.proofs.table.RegionTable.add.Goals as goal

pub invariant_of-self : goal.invariant_of-self
invariant_of-self c =
    let before = ap (λ (t : TableSeen). length t.regions) c.self.view_is in
    let after = ap (λ (l : List NamedRegion). length l) c.put.ensures.items in (
      c.self.invariant.0,
      c.in_ok-pages.ensures.1,
      count_grown c.args.self.now c.self.inside.page_size c.self.inside.regions.items c.put.new.self.items c.in_ok-region.region _ c.in_ok-pages.pages c.self.view_is c.in_ok-region.ensures c.put.ensures.items
          c.in_ok-pages.ensures.2,
      omega (arith, before, after, length-append {A = NamedRegion}, c.requires),
      omega (arith, before, after, length-append {A = NamedRegion}, c.self.invariant.4, c.put.ensures.spare),
      rules_kept c.args.self.now c.self.inside.page_size c.self.inside.regions.items c.put.new.self.items c.in_ok-region.region _ c.self.view_is c.in_ok-region.ensures c.put.ensures.items c.self.invariant.5
          c.in_ok-pages.ensures.0,
    )
