use Rattle.std.proofs.Common.{◌+◌, List, sym, subst, arith}
use Rattle.sparse_store.specs.InsideSplits.{AreEmptyShares}
use Rattle.sparse_store.proofs.Splitting.{empty_more}
use Rattle.sparse_store.proofs.split.empty_shares.Goals as goal

pub loop-stripe-preserved : goal.loop-stripe-preserved
loop-stripe-preserved g c =
    let i = c.loop-stripe.invariant in
    record {
      shares = subst (λ (xs : List _). AreEmptyShares c.args.dir.now.items c.args.all.now c.args.room (c.loop-stripe._stripe + 1) xs) (sym c.put.ensures.items)
          (empty_more c.args.dir.now.items c.args.all.now c.args.room c.loop-stripe._stripe c.loop-stripe.shares.items c.in_ok-share.share i.shares c.in_ok-share.ensures);
      room = omega (arith, i.room, c.put.ensures.spare);
    }
