use Rattle.std.proofs.Common.{◌≡◌, ℕ, ◌/◌, List, length, map, sym, ap, ◌∙◌, arith}
use Rattle.std.proofs.lemmas.List.{length-map}
use Rattle.page_base.specs.Backings.{in_files}
use Rattle.page_base.specs.Lanes.{Origin}
use Rattle.file_store.specs.FileLanes.{backing_path}
use Rattle.sparse_store.specs.Files.{file_count}
use Rattle.sparse_store.specs.SparseLanes.{there_in}
use Rattle.sparse_store.specs.Splits.{shares_of}
use Rattle.sparse_store.specs.contracts.lane.SparseLaneStore.TheImpl.{ghosts}
use Rattle.sparse_store.proofs.LaneOrigins.{backing_file, count_is, by_origin, origin_is, lane_count, rows_hold_as, whole_size, of_store, are_all_files, dealt_of}
use Rattle.sparse_store.proofs.store.SparseStore.join.Goals as goal

pub gather-parts-requires-clause-files : goal.gather-parts-requires-clause-files
gather-parts-requires-clause-files g c =
    let seen = g.P.Part.seen in
    let view = (ghosts g.row.P g.P.Part g.P.Part-dict).seen in
    let lanes = c.args.lanes.items in
    let first = c.get-first.result.now in
    let it = origin_is seen view (λ lane. lane.parts.items) (λ lane. by_origin lane.shape lane.layout lane.shaped lane.whole lane.dir.items lane.region lane.stripe (there_in (map seen lane.first.value.items)) (map seen lane.parts.items) lane.files) lanes c.requires.split 0 first c.get-first.ensures in
    rows_hold_as seen view (λ lane. lane.parts.items) (λ lane. by_origin lane.shape lane.layout lane.shaped lane.whole lane.dir.items lane.region lane.stripe (there_in (map seen lane.first.value.items)) (map seen lane.parts.items) lane.files) lanes c.requires.split
    (file_count first.shape) first.region (map (λ row. row.items) c.as_mut_slice.result.now)
    (sym (ap (λ (o : Origin). o.pages / o.group) it) ∙ count_is first.shape first.layout first.shaped first.whole)
    (sym (ap (λ (o : Origin). o.region) it))
    (ap (λ (xs : List _). map (λ row. row.items) xs) c.as_mut_slice.ensures.value ∙ c.rows_of-rows.ensures ∙ ap (λ (xs : List _). map (λ lane. lane.parts.items) xs) c.into_vec.ensures)

pub invariant_of-result : goal.invariant_of-result
invariant_of-result g c =
    let seen = g.P.Part.seen in
    let view = (ghosts g.row.P g.P.Part g.P.Part-dict).seen in
    let lanes = c.args.lanes.items in
    let first = c.get-first.result.now in
    let split = c.requires.split in
    let parts = c.gather-parts.result.items in
    let it = origin_is seen view (λ lane. lane.parts.items) (λ lane. by_origin lane.shape lane.layout lane.shaped lane.whole lane.dir.items lane.region lane.stripe (there_in (map seen lane.first.value.items)) (map seen lane.parts.items) lane.files) lanes split 0 first c.get-first.ensures in
    let rows_are = ap (λ (xs : List _). map (λ row. row.items) xs) c.as_mut_slice.ensures.value ∙ c.rows_of-rows.ensures ∙ ap (λ (xs : List _). map (λ lane. lane.parts.items) xs) c.into_vec.ensures in
    let count_same = sym (ap (λ (o : Origin). o.pages / o.group) it) ∙ count_is first.shape first.layout first.shaped first.whole in
    let len : length c.as_mut_slice.result.now ≡ split.layout.stripes = sym (length-map c.as_mut_slice.result.now (λ row. row.items)) ∙ ap length rows_are ∙ length-map lanes (λ lane. lane.parts.items) ∙ lane_count seen view (λ lane. lane.parts.items) (λ lane. by_origin lane.shape lane.layout lane.shaped lane.whole lane.dir.items lane.region lane.stripe (there_in (map seen lane.first.value.items)) (map seen lane.parts.items) lane.files) lanes split in
    let shares =
    ap (λ (n : ℕ). shares_of n split.region parts) (sym len)
    ∙ ap (λ (r : ℕ). shares_of (length c.as_mut_slice.result.now) r parts) (sym (ap (λ (o : Origin). o.region) it))
    ∙ c.gather-parts.ensures.parts
    ∙ rows_are in
    record {
      shaped = first.shaped;
      files = are_all_files seen view (λ lane. lane.parts.items) (λ lane. by_origin lane.shape lane.layout lane.shaped lane.whole lane.dir.items lane.region lane.stripe (there_in (map seen lane.first.value.items)) (map seen lane.parts.items) lane.files) lanes split parts (c.gather-parts.ensures.count ∙ sym count_same) shares c.in-Ok.dir.items first.shape
          (c.in-Ok.ensures.items ∙ c.as_slice.ensures ∙ ap (λ (o : Origin). backing_path o.backing) it)
          (ap (λ (o : Origin). backing_file o.backing) it) count_same (omega (arith, split.layout.some_stripe));
    }

pub returns-clause-parts : goal.returns-clause-parts
returns-clause-parts g c =
    let seen = g.P.Part.seen in
    let view = (ghosts g.row.P g.P.Part g.P.Part-dict).seen in
    let lanes = c.args.lanes.items in
    let first = c.get-first.result.now in
    let split = c.requires.split in
    let parts = c.gather-parts.result.items in
    let it = origin_is seen view (λ lane. lane.parts.items) (λ lane. by_origin lane.shape lane.layout lane.shaped lane.whole lane.dir.items lane.region lane.stripe (there_in (map seen lane.first.value.items)) (map seen lane.parts.items) lane.files) lanes split 0 first c.get-first.ensures in
    let rows_are = ap (λ (xs : List _). map (λ row. row.items) xs) c.as_mut_slice.ensures.value ∙ c.rows_of-rows.ensures ∙ ap (λ (xs : List _). map (λ lane. lane.parts.items) xs) c.into_vec.ensures in
    let count_same = sym (ap (λ (o : Origin). o.pages / o.group) it) ∙ count_is first.shape first.layout first.shaped first.whole in
    let len : length c.as_mut_slice.result.now ≡ split.layout.stripes = sym (length-map c.as_mut_slice.result.now (λ row. row.items)) ∙ ap length rows_are ∙ length-map lanes (λ lane. lane.parts.items) ∙ lane_count seen view (λ lane. lane.parts.items) (λ lane. by_origin lane.shape lane.layout lane.shaped lane.whole lane.dir.items lane.region lane.stripe (there_in (map seen lane.first.value.items)) (map seen lane.parts.items) lane.files) lanes split in
    let shares =
    ap (λ (n : ℕ). shares_of n split.region parts) (sym len)
    ∙ ap (λ (r : ℕ). shares_of (length c.as_mut_slice.result.now) r parts) (sym (ap (λ (o : Origin). o.region) it))
    ∙ c.gather-parts.ensures.parts
    ∙ rows_are in
    dealt_of seen view (λ lane. lane.parts.items) (λ lane. by_origin lane.shape lane.layout lane.shaped lane.whole lane.dir.items lane.region lane.stripe (there_in (map seen lane.first.value.items)) (map seen lane.parts.items) lane.files) lanes split parts (c.gather-parts.ensures.count ∙ sym count_same) shares

pub returns-clause-store : goal.returns-clause-store
returns-clause-store g c =
    let seen = g.P.Part.seen in
    let view = (ghosts g.row.P g.P.Part g.P.Part-dict).seen in
    let first = c.get-first.result.now in
    of_store seen view (λ lane. lane.parts.items) (λ lane. by_origin lane.shape lane.layout lane.shaped lane.whole lane.dir.items lane.region lane.stripe (there_in (map seen lane.first.value.items)) (map seen lane.parts.items) lane.files) c.args.lanes.items c.requires.split first c.get-first.ensures c.in-Ok.dir.items first.shape
    (ap (λ (d : List ℕ). in_files d first.shape.file) (sym (c.in-Ok.ensures.items ∙ c.as_slice.ensures))) (whole_size first.shape first.layout first.shaped first.whole)
