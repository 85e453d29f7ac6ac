use Rattle.std.proofs.Common.{◌≡◌, ◌+◌, ◌*◌, ◌%◌, ◌≤◌, ℕ, ◌++◌, length, ap, ◌∙◌, arith, rules}
use Rattle.std.proofs.lemmas.Nat.{mul-le}
use Rattle.std.proofs.Math.Nat.{mod-eq_of_lt, div-eq_of_lt, add-mod_right}
use Rattle.store_trait.proofs.Shares.{no_share, share_more, share_len}
use Rattle.store_trait.specs.Memory.{page_bytes}
use Rattle.store_trait.proofs.mem_lane.share_of.Goals as goal

pub loop-page-init : goal.loop-page-init
loop-page-init c = record {
  residue = ap (λ (x : ℕ). x % c.args.stripes) c.from-page.ensures ∙ mod-eq_of_lt c.requires.first;
  len = rw (c.in-Ok.ensures.items, c.from-page.ensures, div-eq_of_lt c.requires.first) (omega arith);
  share = rw (c.in-Ok.ensures.items, c.from-page.ensures) (no_share _ _ _ _ c.requires.first);
}

pub loop-page-smaller : goal.loop-page-smaller
loop-page-smaller c = omega arith

pub loop-page-preserved : goal.loop-page-preserved
loop-page-preserved c =
    let i = c.loop-page.invariant in
    let page = c.loop-page.page in
    let size = c.args.page_size in
    let fits : page * size + size ≤ length c.args.contents.now = omega (arith, mul-le (page + 1) size c.args.pages size (omega arith) (omega arith)) in
    let items : c.extend_from_slice.new.self.items ≡ c.loop-page.own.items ++ page_bytes size c.args.contents.now page = search rules in
    record {
      residue = rw c.from-page-in-loop-page.ensures (add-mod_right page c.args.stripes ∙ i.residue);
      len = rw (items, c.from-page-in-loop-page.ensures) (share_len size c.args.stripes c.args.first page c.args.contents.now c.loop-page.own.items c.requires.some i.residue i.len fits i.share);
      share = rw (items, c.from-page-in-loop-page.ensures) (share_more size c.args.stripes c.args.first page c.args.contents.now c.loop-page.own.items c.requires.some i.residue i.len fits i.share);
    }

pub returns : goal.returns
returns c = rw c.from_vec.ensures.items (record {
  reaches = λ p lt e. c.loop-page.invariant.share.reaches p (omega arith) e;
  same = λ p lt e. c.loop-page.invariant.share.same p (omega arith) e;
})
