use Rattle.std.proofs.Common.{map, sym}
use Rattle.std.proofs.lemmas.List.{length-map}
use Rattle.sparse_store.specs.SparseLanes.{there_in}
use Rattle.sparse_store.proofs.LanePages.{page_is_placed}
use Rattle.sparse_store.proofs.lane.SparseLane.place_of.Goals as goal

pub returns : goal.returns
returns g c =
    let l = c.args.self.now in
    let placed = page_is_placed l.shape l.layout l.shaped l.whole l.dir.items l.region l.stripe (map g.P.Part.seen l.parts.items) l.files (there_in (map g.P.Part.seen l.first.value.items)) c.args.off c.requires.of_lane in
    rw (c.from-page_size.ensures, c.page_size.ensures, c.from.ensures, c.stripes.ensures, sym (length-map l.parts.items g.P.Part.seen)) placed
