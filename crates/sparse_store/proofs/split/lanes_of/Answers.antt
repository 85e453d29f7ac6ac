use Rattle.std.proofs.Common.{ℕ, map, sym, ap, subst, ◌∙◌, arith}
use Rattle.sparse_store.specs.InsideLaneFiles.{AreLaneFiles}
use Rattle.sparse_store.specs.InsideSplits.{share_lane}
use Rattle.sparse_store.specs.contracts.lane.SparseLaneStore.TheImpl.{ghosts}
use Rattle.sparse_store.proofs.Splitting.{makes_begin, next_files, makes_more}
use Rattle.sparse_store.proofs.split.lanes_of.Goals as goal

pub shares-init : goal.shares-init
shares-init g c =
    let view = (ghosts g.row.P g.P.Part g.P.Part-dict).seen in
    let a = c.args in
    makes_begin g.P.Part.seen view (λ lane. lane.parts.items) a.shape a.layout.now a.region a.shares.items c.reverse.new.self.items a.lanes c.reverse.ensures.items c.requires.empty (omega (arith, c.requires.room, a.shares.ok.0)) c.requires.files

pub lane_of-requires-clause-files : goal.lane_of-requires-clause-files
lane_of-requires-clause-files g c =
    let view = (ghosts g.row.P g.P.Part g.P.Part-dict).seen in
    let a = c.args in
    let share = c.in-Some.share in
    subst (λ (s : ℕ). AreLaneFiles share.dir.items a.shape a.layout.now a.region s (map g.P.Part.seen share.parts.items)) (sym c.len-stripe.ensures)
    (next_files g.P.Part.seen view (λ lane. lane.parts.items) a.shape a.layout.now a.region a.shares.items c.shares.shares.items c.pop.new.self.items share c.shares.lanes c.in-Some.ensures.items c.shares.invariant)

pub shares-preserved : goal.shares-preserved
shares-preserved g c =
    let view = (ghosts g.row.P g.P.Part g.P.Part-dict).seen in
    let a = c.args in
    let share = c.in-Some.share in
    makes_more g.P.Part.seen view (λ lane. lane.parts.items) a.shape a.layout.now a.region a.shares.items c.shares.shares.items c.pop.new.self.items share c.shares.lanes c.in-Some.ensures.items c.shares.invariant
    c.lane_of.result c.put.new.self (c.lane_of.ensures.seen ∙ ap (λ (s : ℕ). share_lane g.P.Part.seen a.shape a.layout.now a.region s share) c.len-stripe.ensures) (ap (λ ps. ps.items) c.lane_of.ensures.parts) c.put.ensures.items c.put.ensures.spare
