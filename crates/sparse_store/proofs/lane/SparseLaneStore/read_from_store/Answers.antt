use Rattle.std.proofs.Common.{◌/◌, length, map, sym, arith}
use Rattle.sparse_store.specs.SparseLanes.{there_in, sparse_origin}
use Rattle.sparse_store.proofs.LaneFiles.{page_is_read, seen_here, lane_files_stay, lane_range, lane_tells, lane_went, lane_failed}
use Rattle.sparse_store.proofs.lane.SparseLaneStore.read_from_store.Goals as goal

pub read-requires : goal.read-requires
read-requires g c =
    let l = c.args.self.now in
    let at = c.place_of-place in
    record { range = lane_range g.P.Part.seen l.parts.items at.result.file c.get_mut.result.now c.get_mut.result.now c.get_mut.ensures.value l.dir.items l.shape l.layout l.region l.stripe at.result.start (length c.args.buf.now) (omega (arith, at.ensures.within, c.requires.place.one_page)) l.files }

pub invariant_of-self : goal.invariant_of-self
invariant_of-self g c =
    let l = c.args.self.now in
    record {
      shaped = l.shaped;
      whole = l.whole;
      files = lane_files_stay g.P.Part.seen l.parts.items c.place_of-place.result.file c.get_mut.result.now c.read.new.part c.get_mut.ensures.value l.dir.items l.shape l.layout l.region l.stripe c.read.ensures.name l.files;
    }

pub returns-in-Ok-clause-bytes : goal.returns-in-Ok-clause-bytes
returns-in-Ok-clause-bytes g c =
    let seen = g.P.Part.seen in
    let l = c.args.self.now in
    let at = c.place_of-place in
    let o = sparse_origin l.dir.items l.shape l.layout l.region l.stripe (there_in (map g.P.Part.seen l.first.value.items)) in
    page_is_read (map seen l.parts.items) at.result.file (seen c.get_mut.result.now) (seen c.read.new.part) (seen_here seen l.parts.items at.result.file c.get_mut.result.now c.read.new.part c.get_mut.ensures.value) o (omega (arith, l.layout.some_stripe))
    (c.args.off / o.page_size) c.requires.place.of_lane (sym at.ensures.place_is) c.read.new.buf at.result.start at.ensures.start_is (omega (arith, c.read.auto.buf, c.requires.place.one_page)) c.in-Ok.ensures.bytes

pub returns-in-Ok-clause-same : goal.returns-in-Ok-clause-same
returns-in-Ok-clause-same g c =
    let l = c.args.self.now in
    lane_tells g.P.Part.seen l.parts.items c.place_of-place.result.file c.get_mut.result.now c.read.new.part c.get_mut.ensures.value (sparse_origin l.dir.items l.shape l.layout l.region l.stripe (there_in (map g.P.Part.seen l.first.value.items))) (omega (arith, l.layout.some_stripe)) c.read.ensures.same

pub returns-in-Ok-clause-cause : goal.returns-in-Ok-clause-cause
returns-in-Ok-clause-cause g c =
    let l = c.args.self.now in
    lane_went g.P.Part.seen l.parts.items c.place_of-place.result.file c.get_mut.result.now c.read.new.part c.get_mut.ensures.value c.read.ensures.cause.later _

pub returns-in-Err-clause-same : goal.returns-in-Err-clause-same
returns-in-Err-clause-same g c =
    let l = c.args.self.now in
    lane_tells g.P.Part.seen l.parts.items c.place_of-place.result.file c.get_mut.result.now c.read.new.part c.get_mut.ensures.value (sparse_origin l.dir.items l.shape l.layout l.region l.stripe (there_in (map g.P.Part.seen l.first.value.items))) (omega (arith, l.layout.some_stripe)) c.read.ensures.same

pub returns-in-Err-clause-cause : goal.returns-in-Err-clause-cause
returns-in-Err-clause-cause g c =
    let l = c.args.self.now in
    lane_failed g.P.Part.seen l.parts.items c.place_of-place.result.file c.get_mut.result.now c.read.new.part c.get_mut.ensures.value c.read.ensures.cause.later c.fault.result c.fault.ensures c.in-Err.ensures.cause.failed
