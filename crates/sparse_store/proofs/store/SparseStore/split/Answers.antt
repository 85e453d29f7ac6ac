use Rattle.std.proofs.Common.{length, map, ap, ◌∙◌, arith}
use Rattle.sparse_store.specs.contracts.lane.SparseLaneStore.TheImpl.{ghosts}
use Rattle.sparse_store.proofs.LaneTells.{tell_pages, one_split}
use Rattle.sparse_store.proofs.PartLists.{written_over}
use Rattle.sparse_store.proofs.Splitting.{split_files, split_lanes, split_parts}
use Rattle.sparse_store.proofs.store.SparseStore.split.Goals as goal

pub lanes_of-requires-clause-files : goal.lanes_of-requires-clause-files
lanes_of-requires-clause-files g c =
    let a = c.args in
    let own = a.self in
    let old = c.into_vec-shares.result in
    let all_over = written_over old.len c.deal.new.shares old.items (omega (arith, old.ok.0)) (omega (arith, old.ok.0, c.deal.ensures.count, ap length c.as_mut_slice.ensures.value)) in
    split_files g.P.Part.seen own.dir.items own.shape a.layout.now a.region _ c.stripes-stripes.result own.parts c.into_vec.result.items c.in-Ok.shares.items c.as_mut_slice.result.now c.deal.new.shares _
    c.stripes-stripes.ensures c.in-Ok.ensures (c.as_mut_slice.ensures.value ∙ c.into_vec-shares.ensures) c.into_vec.ensures c.deal.ensures all_over own.files

pub returns-clause-lanes : goal.returns-clause-lanes
returns-clause-lanes g c =
    let a = c.args in
    let own = a.self in
    let old = c.into_vec-shares.result in
    let all_over = written_over old.len c.deal.new.shares old.items (omega (arith, old.ok.0)) (omega (arith, old.ok.0, c.deal.ensures.count, ap length c.as_mut_slice.ensures.value)) in
    c.lanes_of.ensures.seen
    ∙ split_lanes g.P.Part.seen own.dir.items own.shape a.layout.now a.region _ c.stripes-stripes.result own.parts c.into_vec.result.items c.in-Ok.shares.items c.as_mut_slice.result.now c.deal.new.shares _
    c.stripes-stripes.ensures c.in-Ok.ensures (c.as_mut_slice.ensures.value ∙ c.into_vec-shares.ensures) c.into_vec.ensures c.deal.ensures all_over

pub returns-clause-tells : goal.returns-clause-tells
returns-clause-tells g c =
    let view = (ghosts g.row.P g.P.Part g.P.Part-dict).seen in
    let a = c.args in
    let own = a.self in
    let old = c.into_vec-shares.result in
    let all_over = written_over old.len c.deal.new.shares old.items (omega (arith, old.ok.0)) (omega (arith, old.ok.0, c.deal.ensures.count, ap length c.as_mut_slice.ensures.value)) in
    tell_pages g.P.Part.seen g.met.P.Part.whole_pieces own.dir.items own.shape a.layout.now a.region own.parts.items own.shaped c.requires.whole own.files (map view c.lanes_of.result.items)
    (c.lanes_of.ensures.seen
    ∙ split_lanes g.P.Part.seen own.dir.items own.shape a.layout.now a.region _ c.stripes-stripes.result own.parts c.into_vec.result.items c.in-Ok.shares.items c.as_mut_slice.result.now c.deal.new.shares _
    c.stripes-stripes.ensures c.in-Ok.ensures (c.as_mut_slice.ensures.value ∙ c.into_vec-shares.ensures) c.into_vec.ensures c.deal.ensures all_over)

pub returns-clause-parts : goal.returns-clause-parts
returns-clause-parts g c =
    let a = c.args in
    let own = a.self in
    let old = c.into_vec-shares.result in
    let all_over = written_over old.len c.deal.new.shares old.items (omega (arith, old.ok.0)) (omega (arith, old.ok.0, c.deal.ensures.count, ap length c.as_mut_slice.ensures.value)) in
    c.lanes_of.ensures.parts
    ∙ split_parts g.P.Part.seen own.dir.items own.shape a.layout.now a.region _ c.stripes-stripes.result own.parts c.into_vec.result.items c.in-Ok.shares.items c.as_mut_slice.result.now c.deal.new.shares _
    c.stripes-stripes.ensures c.in-Ok.ensures (c.as_mut_slice.ensures.value ∙ c.into_vec-shares.ensures) c.into_vec.ensures c.deal.ensures all_over

pub returns-clause-one_split : goal.returns-clause-one_split
returns-clause-one_split g c =
    let view = (ghosts g.row.P g.P.Part g.P.Part-dict).seen in
    let a = c.args in
    let own = a.self in
    let old = c.into_vec-shares.result in
    let all_over = written_over old.len c.deal.new.shares old.items (omega (arith, old.ok.0)) (omega (arith, old.ok.0, c.deal.ensures.count, ap length c.as_mut_slice.ensures.value)) in
    one_split own.dir.items own.shape a.layout.now a.region (map g.P.Part.seen own.parts.items) (map view c.lanes_of.result.items)
    (c.lanes_of.ensures.seen
    ∙ split_lanes g.P.Part.seen own.dir.items own.shape a.layout.now a.region _ c.stripes-stripes.result own.parts c.into_vec.result.items c.in-Ok.shares.items c.as_mut_slice.result.now c.deal.new.shares _
    c.stripes-stripes.ensures c.in-Ok.ensures (c.as_mut_slice.ensures.value ∙ c.into_vec-shares.ensures) c.into_vec.ensures c.deal.ensures all_over)
