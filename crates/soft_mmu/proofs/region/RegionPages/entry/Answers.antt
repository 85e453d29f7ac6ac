use Rattle.std.proofs.Common.{◌<◌, length, arith}
use Rattle.soft_mmu.specs.InsideLeaves.{entries_of}
use Rattle.soft_mmu.proofs.Regions.{leaf_of_page, leaf_read, place_of_page, entry_of_page}
use Rattle.soft_mmu.proofs.region.RegionPages.entry.Goals as goal

within : (c : goal.After-self) → c.args.page < length (entries_of c.self.inside.leaves.items)
within c = rw (← c.self.view_is) at c.requires

pub index-leaf-requires : goal.index-leaf-requires
index-leaf-requires c =
    let leaves = c.self.inside.leaves in
    omega (arith, leaf_of_page leaves.items c.args.page c.self.invariant.cut (rw (← c.self.view_is) at c.requires), leaves.ok.0)

pub entry-requires : goal.entry-requires
entry-requires c =
    let within : c.args.page < length (entries_of c.self.inside.leaves.items) = rw (← c.self.view_is) at c.requires in
    rw (leaf_read c.self.inside.leaves.items c.args.page c.self.invariant.cut within c.index-leaf.result.now c.index-leaf.ensures)
    (place_of_page c.self.inside.leaves.items c.args.page c.self.invariant.cut within)

pub returns : goal.returns
returns c =
    let within : c.args.page < length (entries_of c.self.inside.leaves.items) = rw (← c.self.view_is) at c.requires in
    let entry = entry_of_page c.self.inside.leaves.items c.args.page c.self.invariant.cut within in
    rw (← c.self.view_is, c.entry.ensures, leaf_read c.self.inside.leaves.items c.args.page c.self.invariant.cut within c.index-leaf.result.now c.index-leaf.ensures) entry
