use Rattle.std.proofs.Common.{◌≡◌, ◌+◌, ◌*◌, ◌<◌, [], length, arith}
use Rattle.std.specs.Prelude.{slice_index_or}
use Rattle.std.proofs.lemmas.List.{get_or_read}
use Rattle.soft_mmu.specs.InsideLeaves.{entries_of, IsFirstDirty, NoneDirtyFrom}
use Rattle.soft_mmu.proofs.Search.{found_page, found_first, none_more, none_at_all}
use Rattle.soft_mmu.proofs.region.RegionPages.next_dirty.Goals as goal
use Rattle.soft_mmu.proofs.region.RegionPages.next_dirty.Goals.{In-Some}

-- the page that was found is one of the region
within : (c : In-Some) → 512 * c.loop-at.at + c.in-Some.found < length (entries_of c.self.inside.leaves.items)
within c =
    let leaves = c.self.inside.leaves.items in
    let test = c.loop-at-test.true in
    let leaf : c.index-leaf.result.now ≡ slice_index_or leaves c.loop-at.at [] = get_or_read leaves c.loop-at.at c.index-leaf.result.now (omega (arith, c.len-at-end.ensures, c.self.inside.leaves.ok.0)) c.index-leaf.ensures [] in
    let first : IsFirstDirty (slice_index_or leaves c.loop-at.at []) c.loop-at.place c.in-Some.found = rw leaf at c.in-Some.ensures.first in
    let come = c.loop-at.invariant in
    found_page leaves c.self.invariant.cut c.loop-at.at c.args.from c.loop-at.place come.small come.come come.none c.in-Some.found first

pub overflow_mul-result : goal.overflow_mul-result
overflow_mul-result c = omega (arith, within c, c.self.invariant.few)

pub overflow_add-result : goal.overflow_add-result
overflow_add-result c = omega (arith, within c, c.self.invariant.few)

pub overflow_cast-result : goal.overflow_cast-result
overflow_cast-result c = omega (arith, within c, c.self.invariant.few)

pub returns-in-Some-clause-first : goal.returns-in-Some-clause-first
returns-in-Some-clause-first c =
    let leaves = c.self.inside.leaves.items in
    let test = c.loop-at-test.true in
    let leaf : c.index-leaf.result.now ≡ slice_index_or leaves c.loop-at.at [] = get_or_read leaves c.loop-at.at c.index-leaf.result.now (omega (arith, c.len-at-end.ensures, c.self.inside.leaves.ok.0)) c.index-leaf.ensures [] in
    let first : IsFirstDirty (slice_index_or leaves c.loop-at.at []) c.loop-at.place c.in-Some.found = rw leaf at c.in-Some.ensures.first in
    let come = c.loop-at.invariant in
    rw (← c.self.view_is) (found_first leaves c.self.invariant.cut c.loop-at.at c.args.from c.loop-at.place come.small come.come come.none c.in-Some.found first)

pub loop-at-preserved : goal.loop-at-preserved
loop-at-preserved c =
    let leaves = c.self.inside.leaves.items in
    let test = c.loop-at-test.true in
    let leaf : c.index-leaf.result.now ≡ slice_index_or leaves c.loop-at.at [] = get_or_read leaves c.loop-at.at c.index-leaf.result.now (omega (arith, c.len-at-end.ensures, c.self.inside.leaves.ok.0)) c.index-leaf.ensures [] in
    let clean : NoneDirtyFrom (slice_index_or leaves c.loop-at.at []) c.loop-at.place = rw leaf at c.in_default.ensures.none in
    let come = c.loop-at.invariant in
    let is_before = come.come in
    let is_small = come.small in
    record {
      small = omega arith;
      come = omega arith;
      none = none_more leaves c.self.invariant.cut c.loop-at.at c.args.from c.loop-at.place come.small come.come come.none clean;
    }

pub returns-clause-none : goal.returns-clause-none
returns-clause-none c =
    let leaves = c.self.inside.leaves.items in
    let test = c.loop-at-test.false in
    let come = c.loop-at.invariant in
    rw (← c.self.view_is)
    (none_at_all leaves c.self.invariant.cut c.loop-at.at c.args.from c.loop-at.place come.small come.come come.none (omega (arith, c.len-at-end.ensures, c.self.inside.leaves.ok.0)))
