use Rattle.std.proofs.Common.{◌≡◌, ◌<◌, List, [], None, length, map, take, drop, get_or, refl, sym, ap, ◌∙◌, arith}
use Rattle.std.proofs.lemmas.List.{get_or-map, length-map, drop_all}
use Rattle.region_table.specs.Regions.{NamedRegion, named_by}
use Rattle.script_run.specs.RegionRules.{named_region, region_refusal}
use Rattle.script_run.proofs.RegionRules.{rule_is, table_more, turn_kept, turn_broken, whole_pages}
use Rattle.script_run.proofs.regions.table_of_maps.Goals as goal
use Rattle.script_run.proofs.regions.table_of_maps.Goals.{in-Some, in-None}

pub returns-in-Err-clause-refused : goal.returns-in-Err-clause-refused
returns-in-Err-clause-refused c =
    let ms = c.args.maps.now in
    let rs : List NamedRegion = map named_region ms in
    let i = c.loop-i.i in
    let r : NamedRegion = named_by c.in_ok-spec.spec in
    let below : i < length ms = omega arith in
    let there : i < length rs = omega (arith, length-map ms named_region) in
    let here : r ≡ get_or rs i r = c.in_ok-spec.ensures ∙ ap named_region c.index-maps-i.is ∙ sym (get_or-map named_region ms i c.index-maps-i.result r below) in
    elim c.match-rule.branch [
      | in-Some w ↦
          let broken = rule_is _ c.in-Err.fault w.in-Some.kind c.in-Err.ensures.refused (sym w.in-Some.ensures) in
          rw w.result-is (c.loop-i.invariant.rest ∙ turn_broken c.args.page_size rs c.args.lines.now i (get_or c.args.lines.now i 0) r c.loop-i.table there here (omega (arith, c.requires.as_many)) refl c.loop-i.invariant.table w.in-Some.kind broken)
      | in-None w ↦ rw w.result-is tt
    ]

pub loop-i-preserved : goal.loop-i-preserved
loop-i-preserved c =
    let ms = c.args.maps.now in
    let rs : List NamedRegion = map named_region ms in
    let i = c.loop-i.i in
    let r : NamedRegion = named_by c.in_ok-spec.spec in
    let below : i < length ms = omega arith in
    let there : i < length rs = omega (arith, length-map ms named_region) in
    let here : r ≡ get_or rs i r = c.in_ok-spec.ensures ∙ ap named_region c.index-maps-i.is ∙ sym (get_or-map named_region ms i c.index-maps-i.result r below) in
    let inside : i < length c.args.lines.now = omega (arith, c.requires.as_many) in
    record {
      table = table_more c.args.page_size rs c.args.lines.now i (get_or c.args.lines.now i 0) r c.loop-i.table there here inside refl c.loop-i.invariant.table c.add.new.self c.in-Ok.ensures.added;
      rest = c.loop-i.invariant.rest ∙ turn_kept c.args.page_size rs c.args.lines.now i (get_or c.args.lines.now i 0) r c.loop-i.table there here inside refl c.loop-i.invariant.table c.in-Ok.ensures.accepted;
    }

pub returns-clause-whole : goal.returns-clause-whole
returns-clause-whole c =
    let rs : List NamedRegion = map named_region c.args.maps.now in
    let i = c.loop-i.i in
    let none : region_refusal c.args.page_size [] rs c.args.lines.now ≡ None =
    c.loop-i.invariant.rest ∙ ap (λ (xs : List NamedRegion). region_refusal c.args.page_size (take i rs) xs (drop i c.args.lines.now)) (drop_all i rs (omega (arith, length-map c.args.maps.now named_region, c.loop-i-test.false))) in
    whole_pages c.args.page_size [] c.args.maps.now c.args.lines.now (omega (arith, c.requires.as_many)) none
