use Rattle.std.proofs.Common.{◌≡◌, ◌+◌, ◌∷◌, [], ℕ, length, ap, ◌∙◌, arith, inl, inr, length-append}
use Rattle.store_trait.specs.Memory.{memory_origin, share_seen}
use Rattle.store_trait.specs.MemLanes.{lane_seen}
use Rattle.store_trait.proofs.split.lanes_of.Goals as goal

pub loop-stripe-preserved : goal.loop-stripe-preserved
loop-stripe-preserved c =
    let i = c.loop-stripe.invariant in
    let a = c.args in
    let new : lane_seen c.in_ok-share.field-0 ≡ share_seen (memory_origin a.region a.pages a.page_size a.stripes c.loop-stripe.stripe) a.contents.now = c.in_ok-share.ensures in
    record {
      count = ap length c.put.ensures.items ∙ length-append c.loop-stripe.lanes.items (c.in_ok-share.field-0 ∷ []) ∙ ap (λ (n : ℕ). n + 1) i.count;
      room = omega arith;
      each = λ s lane got. elim (c.lists_by_place.ensures.grown c.loop-stripe.lanes.items c.in_ok-share.field-0 lane s (rw c.put.ensures.items at got)) [
        | inl old ↦ i.each s lane old
        | inr last ↦ rw (last.0, last.1, i.count) new
      ];
    }
