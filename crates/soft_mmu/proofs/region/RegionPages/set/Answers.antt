use Rattle.std.proofs.Common.{◌<◌, length, arith}
use Rattle.soft_mmu.specs.Entries.{is_present, is_dirty}
use Rattle.soft_mmu.specs.InsideLeaves.{entries_of}
use Rattle.soft_mmu.proofs.Regions.{leaf_of_page, leaf_read, place_of_page, added, set_of_page, counted_of_page, region_with}
use Rattle.soft_mmu.proofs.region.RegionPages.set.Goals as goal

pub index_mut-leaf-requires : goal.index_mut-leaf-requires
index_mut-leaf-requires c =
    let leaves = c.self.inside.leaves in
    omega (arith, leaf_of_page leaves.items c.args.page c.self.invariant.cut (rw (← c.self.view_is) at c.requires), leaves.ok.0)

pub replace-old-requires : goal.replace-old-requires
replace-old-requires c =
    let leaves = c.self.inside.leaves.items in
    let within : c.args.page < length (entries_of leaves) = rw (← c.self.view_is) at c.requires in
    rw (leaf_read leaves c.args.page c.self.invariant.cut within c.index_mut-leaf.result.now c.index_mut-leaf.ensures.value)
    (place_of_page leaves c.args.page c.self.invariant.cut within)

pub overflow_sub-self : goal.overflow_sub-self
overflow_sub-self c =
    let leaves = c.self.inside.leaves.items in
    let within : c.args.page < length (entries_of leaves) = rw (← c.self.view_is) at c.requires in
    let leaf = leaf_read leaves c.args.page c.self.invariant.cut within c.index_mut-leaf.result.now c.index_mut-leaf.ensures.value in
    let old = rw leaf at c.replace-old.ensures.old in
    rw (added is_present c.from.result c.is_present.result c.replace-old.result c.from.ensures c.is_present.ensures, old)
    (counted_of_page leaves c.args.page c.self.invariant.cut within is_present c.self.inside.present c.self.invariant.present)

pub overflow_sub-self-2 : goal.overflow_sub-self-2
overflow_sub-self-2 c =
    let leaves = c.self.inside.leaves.items in
    let within : c.args.page < length (entries_of leaves) = rw (← c.self.view_is) at c.requires in
    let leaf = leaf_read leaves c.args.page c.self.invariant.cut within c.index_mut-leaf.result.now c.index_mut-leaf.ensures.value in
    let old = rw leaf at c.replace-old.ensures.old in
    rw (added is_dirty c.from-3.result c.is_dirty.result c.replace-old.result c.from-3.ensures c.is_dirty.ensures, old)
    (counted_of_page leaves c.args.page c.self.invariant.cut within is_dirty c.self.inside.dirty c.self.invariant.dirty)

pub invariant_of-self : goal.invariant_of-self
invariant_of-self c =
    let leaves = c.self.inside.leaves.items in
    let within : c.args.page < length (entries_of leaves) = rw (← c.self.view_is) at c.requires in
    let leaf = leaf_read leaves c.args.page c.self.invariant.cut within c.index_mut-leaf.result.now c.index_mut-leaf.ensures.value in
    let old = rw leaf at c.replace-old.ensures.old in
    let new = rw leaf at c.replace-old.ensures.new in
    let one_present = added is_present c.from.result c.is_present.result c.replace-old.result c.from.ensures c.is_present.ensures in
    let one_dirty = added is_dirty c.from-3.result c.is_dirty.result c.replace-old.result c.from-3.ensures c.is_dirty.ensures in
    let now_present = added is_present c.from-2.result c.is_present-2.result c.args.entry c.from-2.ensures c.is_present-2.ensures in
    let now_dirty = added is_dirty c.from-4.result c.is_dirty-2.result c.args.entry c.from-4.ensures c.is_dirty-2.ensures in
    rw (new, one_present, one_dirty, now_present, now_dirty, old)
    (region_with leaves c.args.page c.self.invariant.cut within c.args.entry c.self.inside.present c.self.inside.dirty c.self.invariant)

pub returns : goal.returns
returns c =
    let leaves = c.self.inside.leaves.items in
    let within : c.args.page < length (entries_of leaves) = rw (← c.self.view_is) at c.requires in
    let leaf = leaf_read leaves c.args.page c.self.invariant.cut within c.index_mut-leaf.result.now c.index_mut-leaf.ensures.value in
    let new = rw leaf at c.replace-old.ensures.new in
    rw (new, ← c.self.view_is) (set_of_page leaves c.args.page c.self.invariant.cut within c.args.entry)
