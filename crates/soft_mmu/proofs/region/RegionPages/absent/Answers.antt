use Rattle.std.proofs.Common.{◌≡◌, ◌%◌, [], ◌∷◌, ◌++◌, replicate, refl, arith}
use Rattle.soft_mmu.specs.declared.entry.PageEntry.TheVariants.{Absent}
use Rattle.soft_mmu.proofs.Regions.{AbsentLeaves, absent_full, absent_rest, absent_region}
use Rattle.soft_mmu.proofs.region.RegionPages.absent.Goals as goal
use Rattle.soft_mmu.proofs.region.RegionPages.absent.Goals.{Joined-rest-gt0, then-rest-gt0+in_ok-leaf-2, else-rest-gt0}

made : (c : Joined-rest-gt0) → AbsentLeaves c.if-rest-gt0.leaves.items c.args.pages
made c =
    let full = c.loop-test.false in
    let no_more = c.loop.auto.counter-end in
    elim c.if-rest-gt0.branch [
      | then-rest-gt0+in_ok-leaf-2 w ↦
          let rest = w.if-rest-gt0.true in
          let is : c.if-rest-gt0.leaves.items ≡ replicate c.loop.counter (replicate 512 Absent) ++ replicate (c.args.pages % 512) Absent ∷ [] = rw (w.leaves-is, w.push_reserved-then-rest-gt0.ensures.items, c.loop.invariant.full, w.in_ok-leaf-2.ensures) refl in
          absent_rest c.if-rest-gt0.leaves.items c.loop.counter (c.args.pages % 512) c.args.pages is (omega arith) (omega arith) (omega arith)
      | else-rest-gt0 w ↦
          let rest = w.if-rest-gt0.false in
          let is : c.if-rest-gt0.leaves.items ≡ replicate c.loop.counter (replicate 512 Absent) = rw w.leaves-is c.loop.invariant.full in
          absent_full c.if-rest-gt0.leaves.items c.loop.counter c.args.pages is (omega arith)
    ]

pub invariant_of-result : goal.invariant_of-result
invariant_of-result c = absent_region c.if-rest-gt0.leaves.items c.args.pages c.requires (made c)

pub returns : goal.returns
returns c = (made c).absent
