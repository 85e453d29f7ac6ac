use Rattle.std.proofs.Common.{◌≡◌, ◌≤◌, inl, inr, Some, ◌++◌, ◌∷◌, [], List, take, sym, ap, subst, ◌∙◌, arith}
use Rattle.std.specs.List.{slice_get}
use Rattle.std.proofs.lemmas.Bool.{cases_lt}
use Rattle.std.proofs.lemmas.List.{take_more, length-map}
use Rattle.std.proofs.lemmas.Option.{slice_get_within, get_or_from_slice_get}
use Rattle.page_base.specs.declared.keys.RegionShape.{RegionShape}
use Rattle.region_table.specs.Regions.{shapes_of, shape_of}
use Rattle.umap_pager.proofs.Whole.{whole_pages}
use Rattle.umap_pager.proofs.opening.shapes.Goals as goal

pub loop-region-preserved : goal.loop-region-preserved
loop-region-preserved c =
    let all : List RegionShape = shapes_of c.args.table.now in
    let i = c.loop-region.region in
    let shape = c.shape.result in
    let at = c.shape.ensures.shape in
    record {
      shapes =
          c.put.ensures.items
          ∙ ap (λ (ss : List RegionShape). ss ++ shape ∷ []) c.loop-region.invariant.shapes
          ∙ ap (λ (s : RegionShape). take i all ++ s ∷ []) (sym (get_or_from_slice_get all i shape shape at))
          ∙ sym (take_more all i shape (slice_get_within all i shape at));
      groups = λ r other below there. elim (cases_lt r i) [
        | inl earlier ↦ c.loop-region.invariant.groups r other earlier there
        | inr last ↦
            let same : r ≡ i = omega (arith, below, last) in
            let is : Some shape ≡ Some other = sym at ∙ ap (slice_get all) (sym same) ∙ there in
            let same_shape : shape ≡ other = cc in
            subst (λ (s : RegionShape). 1 ≤ s.group) same_shape c.shape.ensures.group
      ];
      room = omega (arith, c.put.ensures.spare, c.loop-region.invariant.room);
    }

pub returns-clause-groups : goal.returns-clause-groups
returns-clause-groups c = λ r shape there.
    let below = slice_get_within (shapes_of c.args.table.now) r shape there in
    c.loop-region.invariant.groups r shape (omega (arith, below, length-map c.args.table.now.regions (shape_of c.args.table.now.page_size), c.count-count.ensures.count)) there

pub returns-clause-whole : goal.returns-clause-whole
returns-clause-whole c = λ r shape there. whole_pages c.args.table.now c.count-count.ensures.rules r shape there
