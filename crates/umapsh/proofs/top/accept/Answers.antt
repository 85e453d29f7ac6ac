use Rattle.std.proofs.Common.{◌≡◌, ℕ, true, List, [], length, map, sym, ap, subst, ◌∙◌, arith}
use Rattle.std.proofs.lemmas.List.{length-map}
use Rattle.region_table.specs.Regions.{NamedRegion}
use Rattle.region_table.specs.Rules.{keeps_rules}
use Rattle.workload_text.specs.View.{region, lines_of}
use Rattle.workload_text.specs.declared.workload.MapLine.{MapLine}
use Rattle.workload_text.specs.declared.workload.Parsed.{Parsed}
use Rattle.script_run.specs.RegionRules.{named_region}
use Rattle.umapsh.proofs.Refused.{Laws, text_stops, same_call, table_is, as_many, region_stops, unbuilt_refused, unrefused}
use Rattle.umapsh.proofs.RegionLines.{no_folders, unrefused_keep}
use Rattle.umapsh.proofs.top.accept.Goals as goal

pub returns-in-Err-clause-stop : goal.returns-in-Err-clause-stop
returns-in-Err-clause-stop c =
    let laws : Laws = record { read = λ b ts. (c.text_is_read_as_spelt.ensures b ts).1; one_way = c.text_is_read_one_way.ensures; refused = λ b r. (c.text_is_refused_at_its_first_bad_line.ensures b r).1; maps = c.regions_are_maps.ensures } in
    rw c.text_status.ensures (text_stops laws Parsed c.args.layout.page_size c.in-Err.fault c.args.bytes.now c.in-Err.ensures.refused)

pub table_of_maps-requires-clause-few : goal.table_of_maps-requires-clause-few
table_of_maps-requires-clause-few c =
    let w = c.in-Ok.parsed.workload in
    omega (arith, c.in-Ok.ensures.runnable.regions, ap length (c.regions_are_maps.ensures.regions w), length-map w.maps.items region, ap (length {A = MapLine}) c.as_slice-maps.ensures)

pub table_of_maps-requires-clause-as_many : goal.table_of_maps-requires-clause-as_many
table_of_maps-requires-clause-as_many c =
    let laws : Laws = record { read = λ b ts. (c.text_is_read_as_spelt.ensures b ts).1; one_way = c.text_is_read_one_way.ensures; refused = λ b r. (c.text_is_refused_at_its_first_bad_line.ensures b r).1; maps = c.regions_are_maps.ensures } in
    let p = c.in-Ok.parsed in
    ap (length {A = ℕ}) c.as_slice-lines.ensures
    ∙ as_many laws c.args.layout.page_size c.args.bytes.now p.workload p.map_lines.items c.in-Ok.ensures.spelt c.in-Ok.ensures.numbered
    ∙ length-map p.workload.maps.items named_region
    ∙ sym (ap (length {A = MapLine}) c.as_slice-maps.ensures)

pub returns-in-Err-table_of_maps-clause-stop : goal.returns-in-Err-table_of_maps-clause-stop
returns-in-Err-table_of_maps-clause-stop c =
    let laws : Laws = record { read = λ b ts. (c.text_is_read_as_spelt.ensures b ts).1; one_way = c.text_is_read_one_way.ensures; refused = λ b r. (c.text_is_refused_at_its_first_bad_line.ensures b r).1; maps = c.regions_are_maps.ensures } in
    let p = c.in-Ok.parsed in
    let same = same_call c.page_size.result c.args.layout.page_size p.workload.maps.items c.as_slice-maps.result.now p.map_lines.items c.as_slice-lines.result.now c.page_size.ensures c.as_slice-maps.ensures c.as_slice-lines.ensures in
    rw c.region_status.ensures (region_stops laws c.args.layout.page_size c.args.bytes.now p.workload p.map_lines.items c.in-Ok.ensures.spelt c.in-Ok.ensures.numbered c.in-Err-table_of_maps.fault _ same c.in-Err-table_of_maps.ensures.refused)

pub returns-then-not-is_built-clause-stop : goal.returns-then-not-is_built-clause-stop
returns-then-not-is_built-clause-stop c =
    let laws : Laws = record { read = λ b ts. (c.text_is_read_as_spelt.ensures b ts).1; one_way = c.text_is_read_one_way.ensures; refused = λ b r. (c.text_is_refused_at_its_first_bad_line.ensures b r).1; maps = c.regions_are_maps.ensures } in
    let p = c.in-Ok.parsed in
    let same = same_call c.page_size.result c.args.layout.page_size p.workload.maps.items c.as_slice-maps.result.now p.map_lines.items c.as_slice-lines.result.now c.page_size.ensures c.as_slice-maps.ensures c.as_slice-lines.ensures in
    unbuilt_refused laws c.args.layout.page_size c.args.bytes.now p.workload p.map_lines.items c.in-Ok.ensures.spelt c.in-Ok.ensures.numbered (same ∙ c.in-Ok-table_of_maps.ensures.accepted) (sym c.is_built.ensures ∙ c.if-not-is_built.true)

pub returns-clause-accepted : goal.returns-clause-accepted
returns-clause-accepted c =
    let laws : Laws = record { read = λ b ts. (c.text_is_read_as_spelt.ensures b ts).1; one_way = c.text_is_read_one_way.ensures; refused = λ b r. (c.text_is_refused_at_its_first_bad_line.ensures b r).1; maps = c.regions_are_maps.ensures } in
    let p = c.in-Ok.parsed in
    let same = same_call c.page_size.result c.args.layout.page_size p.workload.maps.items c.as_slice-maps.result.now p.map_lines.items c.as_slice-lines.result.now c.page_size.ensures c.as_slice-maps.ensures c.as_slice-lines.ensures in
    record {
      spelt = c.in-Ok.ensures.spelt;
      unrefused = unrefused laws c.args.layout.page_size c.args.bytes.now p.workload p.map_lines.items c.in-Ok.ensures.spelt c.in-Ok.ensures.numbered (same ∙ c.in-Ok-table_of_maps.ensures.accepted) (sym c.is_built.ensures ∙ c.if-not-is_built.false);
    }

pub returns-clause-regions : goal.returns-clause-regions
returns-clause-regions c =
    let laws : Laws = record { read = λ b ts. (c.text_is_read_as_spelt.ensures b ts).1; one_way = c.text_is_read_one_way.ensures; refused = λ b r. (c.text_is_refused_at_its_first_bad_line.ensures b r).1; maps = c.regions_are_maps.ensures } in
    let z = c.args.layout.page_size in
    let p = c.in-Ok.parsed in
    let w = p.workload in
    let same = same_call c.page_size.result z w.maps.items c.as_slice-maps.result.now p.map_lines.items c.as_slice-lines.result.now c.page_size.ensures c.as_slice-maps.ensures c.as_slice-lines.ensures in
    record {
      runnable = c.in-Ok.ensures.runnable;
      rules = subst (λ (gs : List NamedRegion). keeps_rules z [] gs ≡ true) (sym (c.regions_are_maps.ensures.seen w))
          (unrefused_keep z [] (map named_region w.maps.items) p.map_lines.items (as_many laws z c.args.bytes.now w p.map_lines.items c.in-Ok.ensures.spelt c.in-Ok.ensures.numbered) (same ∙ c.in-Ok-table_of_maps.ensures.accepted));
      no_folders = no_folders (lines_of w) (sym c.is_built.ensures ∙ c.if-not-is_built.false);
    }

pub returns-clause-table : goal.returns-clause-table
returns-clause-table c = table_is c.regions_are_maps.ensures c.page_size.result c.args.layout.page_size c.as_slice-maps.result.now c.in-Ok.parsed.workload c.in-Ok-table_of_maps.table c.in-Ok-table_of_maps.ensures.table c.page_size.ensures c.as_slice-maps.ensures
