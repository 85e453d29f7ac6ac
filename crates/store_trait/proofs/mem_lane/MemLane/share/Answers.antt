use Rattle.std.proofs.Common.{◌+◌, ◌-◌, ◌%◌, ◌/◌, ℕ, List, Option, ap, sym, ◌∙◌, arith}
use Rattle.page_base.specs.Lanes.{LaneSeen}
use Rattle.store_trait.specs.Memory.{memory_origin, page_bytes}
use Rattle.store_trait.specs.InsideMemory.{TakesShare}
use Rattle.store_trait.proofs.Told.{told_by-same}
use Rattle.store_trait.proofs.Shares.{has_residue, below_of}
use Rattle.store_trait.proofs.mem_lane.MemLane.share.Goals as goal

pub invariant_of-result : goal.invariant_of-result
invariant_of-result c =
    let a = c.args in
    let share : TakesShare a.page_size a.pages a.stripes ((a.stripe + a.stripes - c.from.result % a.stripes) % a.stripes) a.contents.now c.in_ok-kept.kept.items = c.in_ok-kept.ensures in
    record {
      sized = c.requires.some;
      some_stripe = omega arith;
      reaches = λ p has. share.reaches p (below_of a.region a.pages a.page_size a.stripes a.stripe p has) (has_residue a.region a.pages a.page_size a.stripes a.stripe p c.requires.stripe has ∙ sym (ap (λ (r : ℕ). (a.stripe + a.stripes - r % a.stripes) % a.stripes) c.from.ensures));
    }

pub returns : goal.returns
returns c =
    let a = c.args in
    let o = memory_origin a.region a.pages a.page_size a.stripes a.stripe in
    let share : TakesShare a.page_size a.pages a.stripes ((a.stripe + a.stripes - c.from.result % a.stripes) % a.stripes) a.contents.now c.in_ok-kept.kept.items = c.in_ok-kept.ensures in
    ap (λ (told : List (Option (List ℕ))). let seen : LaneSeen = record { origin = o; told = told; count = 0 } in seen)
    (told_by-same o (λ (p : ℕ). page_bytes a.page_size c.in_ok-kept.kept.items (p / a.stripes)) (page_bytes a.page_size a.contents.now)
    (λ p has. share.same p (below_of a.region a.pages a.page_size a.stripes a.stripe p has) (has_residue a.region a.pages a.page_size a.stripes a.stripe p c.requires.stripe has ∙ sym (ap (λ (r : ℕ). (a.stripe + a.stripes - r % a.stripes) % a.stripes) c.from.ensures))))
