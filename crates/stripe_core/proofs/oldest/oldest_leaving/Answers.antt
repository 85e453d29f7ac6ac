use Rattle.std.proofs.Common.{◌≡◌, ◌∙◌, Some, arith, ap, slice_get, sym}
use Rattle.std.proofs.lemmas.Option.{slice_get-get_or}
use Rattle.stripe_core.specs.declared.region.Region.{Region}
use Rattle.stripe_core.specs.InsideOldest.{goes_of, may_go_below}
use Rattle.stripe_core.specs.Parts.{place_of}
use Rattle.stripe_core.proofs.Leaving.{found_within, none_yet, one_more_region, all_regions}
use Rattle.stripe_core.proofs.oldest.oldest_leaving.Goals as goal

pub loop-number-init : goal.loop-number-init
loop-number-init g c = record { within = tt; found = none_yet g.S.Store.seen c.args.buffer.now c.args.regions.now.items }

pub older-oldest-requires-clause-other : goal.older-oldest-requires-clause-other
older-oldest-requires-clause-other g c = found_within c.args.buffer.now _ c.leaving_of-of_region.result c.ordered.ensures.ordered c.leaving_of-of_region.ensures.exact

pub loop-number-preserved : goal.loop-number-preserved
loop-number-preserved g c =
    let b = c.args.buffer.now in
    let gs = c.args.regions.now.items in
    let i = c.loop-number.number in
    let region = c.index.result.now in
    let is : slice_get gs i ≡ Some region = slice_get-get_or gs i region (omega arith) ∙ ap (λ (x : Region g.row.S.Denot). Some x) (sym c.index.ensures) in
    record {
      within = c.older-oldest.ensures.within;
      found = c.older-oldest.ensures.first (may_go_below g.S.Store.seen b gs i) (goes_of b (place_of g.S.Store.seen region.lane) i) c.loop-number.invariant.found c.leaving_of-of_region.ensures.exact
          ∙ one_more_region g.S.Store.seen b gs i region is;
    }

pub returns : goal.returns
returns g c = record { exact = c.loop-number.invariant.found ∙ all_regions g.S.Store.seen c.args.buffer.now c.args.regions.now.items c.loop-number.number (omega arith) }
