use Rattle.std.proofs.Common.{◌+◌, ◌-◌, ◌%◌, List, length, map, get_or, ap, ◌∙◌, arith}
use Rattle.std.proofs.lemmas.List.{length-map}
use Rattle.std.specs.Prelude.{reverse}
use Rattle.sparse_store.specs.Splits.{shares_of}
use Rattle.sparse_store.proofs.Joining.{gathers_begin, row_left, rows_more, rows_end}
use Rattle.sparse_store.proofs.join.gather.Goals as goal

pub number-init : goal.number-init
number-init g c = gathers_begin c.args.region c.args.count (length c.args.rows.now) (map (λ row. row.items) c.args.rows.now) (length-map c.args.rows.now (λ row. row.items)) c.args.parts c.requires.empty c.requires.room

pub move_last-requires-clause-some : goal.move_last-requires-clause-some
move_last-requires-clause-some g c =
    let d = c.index-rows-stripe.result in
    let row = get_or c.number.rows ((c.from.result + (c.number.number - 1)) % length c.args.rows.now) d in
    omega (arith, row.ok.0, row_left (λ row. row.items) c.args.region c.args.count c.args.rows.now c.requires.some c.requires.files c.number.number c.number.rows c.number.parts c.from.result d c.from.ensures c.number-test.true c.number.invariant)

pub number-preserved : goal.number-preserved
number-preserved g c =
    rows_more (λ row. row.items) c.args.region c.args.count c.args.rows.now c.requires.some c.requires.files c.number.number c.number.rows c.number.parts c.from.result c.index-rows-stripe.result c.from.ensures c.number-test.true c.number.invariant
    c.move_last.new.row c.move_last.new.parts c.move_last.ensures.moved c.move_last.ensures.spare

pub returns-clause-parts : goal.returns-clause-parts
returns-clause-parts g c =
    ap (λ (ps : List _). shares_of (length c.args.rows.now) c.args.region ps) (c.from_vec.ensures.items ∙ c.reverse.ensures.items ∙ ap reverse c.into_vec-found.ensures)
    ∙ rows_end (λ row. row.items) c.args.region c.args.count c.args.rows.now c.requires.some c.requires.files c.number.number c.number.rows c.number.parts (omega (arith, c.number-test.false)) c.number.invariant
