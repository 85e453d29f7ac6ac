use Rattle.std.proofs.Common.{◌+◌, ◌≡◌, ◌∙◌, [], arith, refl}
use Rattle.applied_laws.proofs.ranges.a_range_begins_with_its_first_piece.Goals as goal

pub returns : goal.returns
returns c = λ z r off len p rest some is.
    let next = c.pieces_follow.ensures.next z r off len 0 [] rest p some is refl in
    omega (arith, next.at.begins)
