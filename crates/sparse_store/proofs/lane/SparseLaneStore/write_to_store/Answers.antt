use Rattle.std.proofs.Common.{◌≡◌, ◌/◌, length, map, sym, subst, arith}
use Rattle.std.specs.Option.{IfSome}
use Rattle.sparse_store.specs.LaneLaws.{each_whole}
use Rattle.sparse_store.specs.SparseLanes.{bytes_in, there_in, sparse_origin}
use Rattle.sparse_store.proofs.LaneFiles.{seen_here, lane_files_stay, lane_range, lane_writes, lane_keeps, lane_went, lane_failed}
use Rattle.sparse_store.proofs.lane.SparseLaneStore.write_to_store.Goals as goal

pub write-requires : goal.write-requires
write-requires g c =
    let l = c.args.self.now in
    let at = c.place_of-place in
    record { range = lane_range g.P.Part.seen l.parts.items at.result.file c.get_mut.result.now c.get_mut.result.now c.get_mut.ensures.value l.dir.items l.shape l.layout l.region l.stripe at.result.start (length c.args.buf.now) (omega (arith, at.ensures.within, c.requires.place.one_page)) l.files }

pub invariant_of-self : goal.invariant_of-self
invariant_of-self g c =
    let l = c.args.self.now in
    record {
      shaped = l.shaped;
      whole = l.whole;
      files = lane_files_stay g.P.Part.seen l.parts.items c.place_of-place.result.file c.get_mut.result.now c.write.new.part c.get_mut.ensures.value l.dir.items l.shape l.layout l.region l.stripe c.write.ensures.name l.files;
    }

pub returns-in-Ok-clause-written : goal.returns-in-Ok-clause-written
returns-in-Ok-clause-written g c =
    let seen = g.P.Part.seen in
    let l = c.args.self.now in
    let at = c.place_of-place in
    let o = sparse_origin l.dir.items l.shape l.layout l.region l.stripe (there_in (map g.P.Part.seen l.first.value.items)) in
    let here = seen_here seen l.parts.items at.result.file c.get_mut.result.now c.write.new.part c.get_mut.ensures.value in
    lane_writes seen l.parts.items at.result.file c.get_mut.result.now c.write.new.part c.get_mut.ensures.value o (omega (arith, l.layout.some_stripe))
    (c.args.off / o.page_size) c.requires.place.of_lane (sym at.ensures.place_is) c.args.buf.now at.result.start l.shape.file at.ensures.start_is c.requires.place.one_page at.ensures.within
    (subst (λ t. IfSome (bytes_in t) (λ kept. length kept ≡ l.shape.file)) here (each_whole seen g.met.P.Part.whole_pieces l.dir.items l.shape l.layout l.region l.stripe l.parts.items l.shaped l.whole l.files at.result.file)) c.in-Ok.ensures.written

pub returns-in-Ok-clause-others : goal.returns-in-Ok-clause-others
returns-in-Ok-clause-others g c =
    let l = c.args.self.now in
    let at = c.place_of-place in
    let o = sparse_origin l.dir.items l.shape l.layout l.region l.stripe (there_in (map g.P.Part.seen l.first.value.items)) in
    lane_keeps g.P.Part.seen l.parts.items at.result.file c.get_mut.result.now c.write.new.part c.get_mut.ensures.value o (omega (arith, l.layout.some_stripe))
    (c.args.off / o.page_size) c.requires.place.of_lane (sym at.ensures.place_is) at.result.start (length c.args.buf.now) at.ensures.start_is c.requires.place.one_page c.write.ensures.others

pub returns-in-Ok-clause-cause : goal.returns-in-Ok-clause-cause
returns-in-Ok-clause-cause g c =
    let l = c.args.self.now in
    lane_went g.P.Part.seen l.parts.items c.place_of-place.result.file c.get_mut.result.now c.write.new.part c.get_mut.ensures.value c.write.ensures.cause.later _

pub returns-in-Err-clause-others : goal.returns-in-Err-clause-others
returns-in-Err-clause-others g c =
    let l = c.args.self.now in
    let at = c.place_of-place in
    let o = sparse_origin l.dir.items l.shape l.layout l.region l.stripe (there_in (map g.P.Part.seen l.first.value.items)) in
    lane_keeps g.P.Part.seen l.parts.items at.result.file c.get_mut.result.now c.write.new.part c.get_mut.ensures.value o (omega (arith, l.layout.some_stripe))
    (c.args.off / o.page_size) c.requires.place.of_lane (sym at.ensures.place_is) at.result.start (length c.args.buf.now) at.ensures.start_is c.requires.place.one_page c.write.ensures.others

pub returns-in-Err-clause-cause : goal.returns-in-Err-clause-cause
returns-in-Err-clause-cause g c =
    let l = c.args.self.now in
    lane_failed g.P.Part.seen l.parts.items c.place_of-place.result.file c.get_mut.result.now c.write.new.part c.get_mut.ensures.value c.write.ensures.cause.later c.fault.result c.fault.ensures c.in-Err.ensures.cause.failed
