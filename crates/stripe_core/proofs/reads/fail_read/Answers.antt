use Rattle.std.proofs.Common.{◌≡◌, ◌∙◌, ap, refl, slice_set}
use Rattle.std.proofs.lemmas.Option.{get_or_from_slice_get, slice_get_read}
use Rattle.stripe_core.specs.declared.region.Region.{Region}
use Rattle.stripe_core.proofs.reads.fail_read.Goals as goal

pub set-requires : goal.set-requires
set-requires g c =
    let x = c.index_mut-region.result.now in
    let is = slice_get_read c.args.regions.now.items _ c.args.key.region x refl c.requires.region c.index_mut-region.ensures.value in
    let there = c.requires.page x is in
    record { own = there.1; within = there.0 }

pub returns-clause-regions : goal.returns-clause-regions
returns-clause-regions g c = λ old e.
    let x = c.index_mut-region.result.now in
    let is : x ≡ old = c.index_mut-region.ensures.value ∙ get_or_from_slice_get c.args.regions.now.items c.args.key.region old x e in (
      record x { lane = c.replace.new.dest; read_faults = c.set.new.self },
      record {
        place = c.replace.ensures.after;
        closing = ap (λ (y : Region g.row.S.Denot). y.closing) is;
        unmapped = ap (λ (y : Region g.row.S.Denot). y.unmapped) is;
        share = c.set.ensures.share ∙ ap (λ (y : Region g.row.S.Denot). y.read_faults.share) is;
        read_faults = c.set.ensures.numbers ∙ ap (λ (y : Region g.row.S.Denot). slice_set y.read_faults.numbers c.args.key.page c.args.faults) is;
      },
      refl,
    )

pub returns-clause-lane : goal.returns-clause-lane
returns-clause-lane g c = λ old e.
    let x = c.index_mut-region.result.now in
    let is : x ≡ old = c.index_mut-region.ensures.value ∙ get_or_from_slice_get c.args.regions.now.items c.args.key.region old x e in
    c.replace.ensures.value ∙ ap (λ (y : Region g.row.S.Denot). y.lane) is
