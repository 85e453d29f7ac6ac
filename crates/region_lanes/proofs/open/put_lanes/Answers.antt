use Rattle.std.proofs.Common.{◌≡◌, ◌+◌, ◌<◌, ◌++◌, ◌∷◌, [], List, length, get_or, slice_get, Some, sym, ap, ◌∙◌, arith, length-append}
use Rattle.region_lanes.proofs.Lists.{slice_get_at}
use Rattle.region_lanes.proofs.Putting.{puts_begin, puts_more}
use Rattle.region_lanes.proofs.OneRegion.{pushed_len}
use Rattle.region_lanes.proofs.open.put_lanes.Goals as goal

pub lanes-init : goal.lanes-init
lanes-init g c = puts_begin g.S.Store.seen c.args.lanes.items c.args.rows.now c.requires.each

pub put-requires : goal.put-requires
put-requires g c =
    let rows = c.lanes.rows in
    let k = c.len.result in
    let i = c.lanes.invariant in
    let left : length c.lanes.lanes.items ≡ length c.pop.new.self.items + 1 = pushed_len c.pop.new.self.items c.lanes.lanes.items c.in-Some.lane c.in-Some.ensures.items in
    let at : k ≡ length c.pop.new.self.items = omega (arith, c.len.ensures, c.pop.new.self.ok.0) in
    let all : length c.args.lanes.items ≡ length c.lanes.lanes.items + length i.done = ap length i.all ∙ length-append c.lanes.lanes.items i.done in
    let below : k < length rows = omega (arith, at, left, all, c.requires.each, i.count) in
    i.left_room 0 c.requires.room k (get_or rows k c.index-rows-len.result) (omega (arith, at, left)) (slice_get_at rows k c.index-rows-len.result below)

pub lanes-preserved : goal.lanes-preserved
lanes-preserved g c =
    let rows = c.lanes.rows in
    let k = c.len.result in
    let i = c.lanes.invariant in
    let lane = c.in-Some.lane in
    let left : length c.lanes.lanes.items ≡ length c.pop.new.self.items + 1 = pushed_len c.pop.new.self.items c.lanes.lanes.items lane c.in-Some.ensures.items in
    let at : k ≡ length c.pop.new.self.items = omega (arith, c.len.ensures, c.pop.new.self.ok.0) in
    let all : length c.args.lanes.items ≡ length c.lanes.lanes.items + length i.done = ap length i.all ∙ length-append c.lanes.lanes.items i.done in
    let below : k < length rows = omega (arith, at, left, all, c.requires.each, i.count) in
    puts_more g.S.Store.seen c.args.lanes.items c.lanes.lanes.items c.pop.new.self.items lane c.args.rows.now rows (get_or rows k c.index-rows-len.result) c.put.new.self k
    c.in-Some.ensures.items at below (ap (λ r. get_or rows k r) c.index-rows-len.is) c.put.ensures.items c.put.ensures.spare i
