use Rattle.std.proofs.Common.{rules, ◌≡◌, ◌≤◌, ◌∙◌, [], List, length, map, replicate, sum_by, slice_get, Some, ◌*◌, sym, ap, subst, refl, arith}
use Rattle.std.proofs.lemmas.List.{length-map, length-replicate}
use Rattle.page_base.specs.declared.keys.RegionShape.{RegionShape}
use Rattle.page_model.specs.Core.{Core}
use Rattle.page_model.specs.Setups.{Setup, quota}
use Rattle.core_bench.specs.InsideHands.{AreEqualRegions, shape_of}
use Rattle.core_bench.proofs.Regions.{lanes_of, pages_sum, is_copy}
use Rattle.core_bench.proofs.hand.Hand.with_regions.Goals as goal

pub new-requires : goal.new-requires
new-requires g c =
    let shapes : c.from_vec.result.items ≡ replicate c.args.regions (shape_of c.args.pages) = search rules in
    let count : length c.from_vec.result.items ≡ c.args.regions = ap length shapes ∙ length-replicate c.args.regions (shape_of c.args.pages) in
    let pages : sum_by (λ (s : RegionShape). s.pages) c.from_vec.result.items ≡ c.args.regions * c.args.pages = ap (sum_by (λ (s : RegionShape). s.pages)) shapes ∙ pages_sum c.args.regions c.args.pages in
    let seen : length (map g.S.Store.seen c.args.lanes.items) ≡ length c.args.lanes.items = length-map c.args.lanes.items g.S.Store.seen in
    record {
      can = record {
        number = omega (arith, c.requires.one_stripe);
        some_fault = c.requires.some_fault;
        few_faults = c.requires.few_faults;
        marks = omega arith;
        percent = omega arith;
        few_regions = omega (arith, count, c.requires.few_regions);
        few_pages = omega (arith, pages, c.requires.few_pages);
        groups = λ r s at. let same = is_copy c.args.regions r (shape_of c.args.pages) s (subst (λ (xs : List RegionShape). slice_get xs r ≡ Some s) shapes at) in subst (λ (x : RegionShape). 1 ≤ x.group) (sym same) (omega arith);
        lane_count = seen ∙ (c.requires.lane_count ∙ sym count);
        lanes = lanes_of g.S.Store.seen _ c.args.regions c.args.pages c.args.lanes.items c.requires.one_stripe refl shapes c.requires.lanes;
      };
    }

pub invariant_of-result : goal.invariant_of-result
invariant_of-result g c =
    let e = ap (λ (v : Core). v.setup) c.in-Ok.ensures.fresh in
    let shapes : c.from_vec.result.items ≡ replicate c.args.regions (shape_of c.args.pages) = search rules in
    let scratch : length c.in_ok-scratch.scratch.items ≡ c.args.layout.page_size = search rules in (
      record { history = []; is = c.in-Ok.ensures.stands; flight = λ r. refl },
      subst (λ (u : Setup). AreEqualRegions u c.args.regions c.args.pages) (sym e) (record { stripes = c.requires.one_stripe; number = refl; shapes = shapes; large_pages = c.args.layout.large_pages; small_pages = c.args.layout.small_pages }),
      scratch ∙ sym (ap (λ (u : Setup). u.page_size) e),
      c.quota.ensures.quota ∙ sym (ap quota e),
    )
