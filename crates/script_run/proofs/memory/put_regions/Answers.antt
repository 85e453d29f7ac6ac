use Rattle.std.proofs.Common.{◌≡◌, ◌<◌, ◌≤◌, ◌*◌, ◌/◌, ℕ, zero, suc, List, [], ◌∷◌, length, map, get_or, refl, sym, subst, arith}
use Rattle.std.proofs.lemmas.List.{length-map, get_or-map}
use Rattle.workload_text.specs.Grammar.{Region, size_at}
use Rattle.workload_text.specs.View.{region}
use Rattle.workload_text.specs.declared.workload.MapLine.{MapLine}
use Rattle.script_run.specs.Contents.{rows_in}
use Rattle.script_run.proofs.Zeros.{rows_begin, rows_more}
use Rattle.script_run.proofs.memory.put_regions.Goals as goal

size_at-read : (ms : List MapLine) (i : ℕ) (d : MapLine) → i < length ms → (get_or ms i d).length ≡ size_at (map region ms) i
size_at-read [] i d h = absurd (omega arith)
size_at-read (m ∷ ms) zero d h = refl
size_at-read (m ∷ ms) (suc i) d h = size_at-read ms i d (omega arith)

pub loop-i-init : goal.loop-i-init
loop-i-init c = rows_begin c.args.layout.now.page_size c.args.layout.now.stripes (rows_in c.args.rows.now) c.requires.empty

pub zero_lanes-requires-clause-some : goal.zero_lanes-requires-clause-some
zero_lanes-requires-clause-some c =
    let ms = c.args.maps.now in
    let i = c.loop-i.i in
    subst (λ (n : ℕ). 0 < n) (sym (size_at-read ms i c.index-maps-i.result (omega arith))) (c.requires.small.some i (omega (arith, length-map ms region)))

pub zero_lanes-requires-clause-whole : goal.zero_lanes-requires-clause-whole
zero_lanes-requires-clause-whole c =
    let ms = c.args.maps.now in
    let i = c.loop-i.i in
    let z = c.args.layout.now.page_size in
    subst (λ (n : ℕ). n ≡ n / z * z) (sym (size_at-read ms i c.index-maps-i.result (omega arith))) (c.requires.small.whole i (omega (arith, length-map ms region)))

pub zero_lanes-requires-clause-small : goal.zero_lanes-requires-clause-small
zero_lanes-requires-clause-small c =
    let ms = c.args.maps.now in
    let i = c.loop-i.i in
    subst (λ (n : ℕ). n ≤ 16777216) (sym (size_at-read ms i c.index-maps-i.result (omega arith))) (c.requires.small.most i (omega (arith, length-map ms region)))

pub loop-i-preserved : goal.loop-i-preserved
loop-i-preserved c =
    let ms = c.args.maps.now in
    let i = c.loop-i.i in
    let m : MapLine = get_or ms i c.index-maps-i.result in
    let g : Region = region m in
    let below : i < length ms = omega arith in
    let there : i < length (map region ms) = omega (arith, length-map ms region) in
    let is : g ≡ get_or (map region ms) i g = sym (get_or-map region ms i c.index-maps-i.result g below) in
    rows_more c.args.layout.now.page_size c.args.layout.now.stripes i (map region ms) g c.in_ok-lanes.lanes.items (rows_in c.loop-i.rows) (rows_in c.put_lanes.new.rows) there is c.in_ok-lanes.ensures c.loop-i.invariant
    (rw c.into_vec.ensures at c.in_ok-put_lanes.ensures)
