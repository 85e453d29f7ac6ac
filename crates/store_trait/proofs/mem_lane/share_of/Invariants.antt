use Rattle.std.proofs.Common.{◌≡◌, ◌*◌, ◌-◌, ◌/◌, ◌%◌, length}
use Rattle.store_trait.specs.InsideMemory.{TakesShare}
use Rattle.store_trait.proofs.mem_lane.share_of.Given as goal

abbrev pub invariant-loop-page : goal.invariant-loop-page
invariant-loop-page l = record {
  residue : l.page % l.stripes ≡ l.first;
  len : length l.own.items ≡ l.page / l.stripes * l.page_size;
  share : TakesShare l.page_size l.page l.stripes l.first l.contents l.own.items;
}

abbrev pub decreases-loop-page : goal.decreases-loop-page
decreases-loop-page l = l.pages - l.page
