use Rattle.std.proofs.Common.{◌≡◌, [], arith}
use Rattle.std.specs.Prelude.{slice_index_or}
use Rattle.std.proofs.lemmas.List.{get_or_read}
use Rattle.soft_mmu.specs.InsideLeaves.{IsFirstDirty, NoneDirtyFrom}
use Rattle.soft_mmu.proofs.NextDirty.{starts, goes_on, finds, ends}
use Rattle.soft_mmu.proofs.table.PageTable.next_dirty.Goals as goal

pub loop-region-init : goal.loop-region-init
loop-region-init c = rw c.behind-first.ensures (starts c.self.inside.regions.items c.args.after)

pub returns-in-Some-clause-next : goal.returns-in-Some-clause-next
returns-in-Some-clause-next c =
    let regions = c.self.inside.regions in
    let test = c.loop-region-test.true in
    let pages : c.index-pages.result.now ≡ slice_index_or regions.items c.loop-region.region [] = get_or_read regions.items c.loop-region.region c.index-pages.result.now (omega (arith, c.len-region-end.ensures, regions.ok.0)) c.index-pages.ensures [] in
    let first : IsFirstDirty (slice_index_or regions.items c.loop-region.region []) c.loop-region.from c.in-Some.page = rw pages at c.in-Some.ensures.first in
    rw (← c.self.view_is) (finds regions.items c.args.after c.loop-region.region c.loop-region.from c.loop-region.invariant c.in-Some.page first)

pub loop-region-preserved : goal.loop-region-preserved
loop-region-preserved c =
    let regions = c.self.inside.regions in
    let test = c.loop-region-test.true in
    let pages : c.index-pages.result.now ≡ slice_index_or regions.items c.loop-region.region [] = get_or_read regions.items c.loop-region.region c.index-pages.result.now (omega (arith, c.len-region-end.ensures, regions.ok.0)) c.index-pages.ensures [] in
    let none : NoneDirtyFrom (slice_index_or regions.items c.loop-region.region []) c.loop-region.from = rw pages at c.in_default.ensures.none in
    goes_on regions.items c.args.after c.loop-region.region c.loop-region.from c.loop-region.invariant none

pub returns-clause-none : goal.returns-clause-none
returns-clause-none c =
    let test = c.loop-region-test.false in
    rw (← c.self.view_is)
    (ends c.self.inside.regions.items c.args.after c.loop-region.region c.loop-region.from c.loop-region.invariant (omega (arith, c.len-region-end.ensures, c.self.inside.regions.ok.0)))
