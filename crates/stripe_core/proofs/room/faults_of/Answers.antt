use Rattle.std.proofs.Common.{Some, ap, arith, false, get_or, length, rules, slice_get, subst, sym, ℕ, ◌<◌, ◌∙◌, ◌≡◌}
use Rattle.std.proofs.lemmas.Grind.{common_steps}
use Rattle.std.proofs.lemmas.Option.{slice_get-get_or}
use Rattle.page_base.specs.declared.keys.RegionShape.{RegionShape}
use Rattle.stripe_core.specs.InsideReadFaults.{HasPagesOf}
use Rattle.stripe_core.proofs.Making.{one_more_share, shared}
use Rattle.stripe_core.proofs.room.faults_of.Goals as goal

pub loop-shape-preserved : goal.loop-shape-preserved
loop-shape-preserved c =
    let i = c.loop-shape.invariant in
    let config = c.args.config.now in
    let shapes = config.shapes.items in
    let faults = c.loop-shape.faults.items in
    let r = c.len-region.result in
    let region : r ≡ length faults = omega (arith, c.len-region.ensures, c.loop-shape.faults.ok.0) in
    let at : c.loop-shape.shape-index ≡ r = omega (arith, i.many, region) in
    let same : c.as_slice-shape-items.result.now ≡ shapes = c.as_slice-shape-items.ensures in
    let many = ap length same in
    let lt : r < length shapes = omega (arith, c.loop-shape-test.true, at, many) in
    let blank : RegionShape = record { pages = 0; group = 0; writable = false } in
    let shape : RegionShape = get_or c.as_slice-shape-items.result.now c.loop-shape.shape-index blank in
    let there : get_or shapes r blank ≡ shape = ap (λ xs. get_or xs r blank) (sym same) ∙ ap (λ j. get_or c.as_slice-shape-items.result.now j blank) (sym at) in
    let is : slice_get shapes r ≡ Some shape = slice_get-get_or shapes r blank lt ∙ ap (λ (x : RegionShape). Some x) there in
    let P : ℕ → Type 0 = λ q. HasPagesOf config q c.of-share.result in
    let one : HasPagesOf config (length faults) c.of-share.result = subst P region (shared config r shape c.of-share.result is c.of-share.ensures.own) in
    record {
      none = first_of (search rules, grind (arith, common_steps));
      shares = rw c.push_reserved.ensures.items (one_more_share config faults c.in_ok-none.field-0 i.shares (rw c.in_ok-none.ensures.share one));
      many = first_of (search rules, grind (arith, common_steps));
      room = first_of (search rules, grind (arith, common_steps));
    }
