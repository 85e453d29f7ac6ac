use Rattle.std.proofs.Common.{◌≡◌, ◌+◌, ◌-◌, [], ◌∷◌, ◌++◌, length, take, drop, slice_get, refl, sym, ap, subst, ◌∙◌, arith, length-take, length-drop, append_assoc, append-nil}
use Rattle.page_base.specs.declared.keys.Piece.{Piece}
use Rattle.page_model.specs.declared.entry.Entry.TheVariants.{Save}
use Rattle.page_model.specs.Pieces.{saves}
use Rattle.region_table.specs.Covers.{IsNext}
use Rattle.region_table.specs.Cuts.{rest_of}
use Rattle.region_table.specs.Pieces.{pieces_of}
use Rattle.serial_pager.specs.Accesses.{is_for_store}
use Rattle.serial_pager.specs.Pagers.{may_store}
use Rattle.workload_text.specs.Line.{store_line}
use Rattle.script_run.specs.InsideRanges.{IsOpenRange, IsPart, GoesBy, save_of}
use Rattle.script_run.specs.LineEntries.{may_make}
use Rattle.script_run.proofs.Allowed.{in_range, store_serves}
use Rattle.script_run.proofs.Ranged.{all_bytes, goes_within, is_part}
use Rattle.script_run.proofs.SoFar.{so_far_none, so_far_more, so_far_ends, goes_to_end}
use Rattle.script_run.proofs.access.store.Goals as goal

pub loop-piece-init : goal.loop-piece-init
loop-piece-init g c = record {
  within = omega arith;
  pieces = ap (λ z. pieces_of z c.args.region c.args.off (length c.args.bytes.now)) (sym c.requires.listed.page_size) ∙ sym c.pieces-piece-items.ensures ∙ ap rest_of (sym c.into_iter-piece-iterator.ensures.into_iter_gives);
  far = so_far_none g.J.Journal.has_noted (may_make c.args.pager.now.page_size (store_line c.args.region c.args.off c.args.bytes.now)) save_of c.args.pager.now c.args.region c.args.off (length c.args.bytes.now) c.args.bytes.now;
  journals = refl;
}

pub slice_bounds-store_piece-end : goal.slice_bounds-store_piece-end
slice_bounds-store_piece-end g c =
    let i = c.loop-piece.invariant in
    let next = c.pieces_follow.ensures.next c.args.pager.now.page_size c.args.region c.args.off (length c.args.bytes.now) c.loop-piece.done c.loop-piece.yielded (rest_of c.next.new.self) c.in-Some.piece c.requires.listed.some (i.pieces ∙ ap (λ ps. c.loop-piece.yielded ++ ps) c.in-Some.ensures.steps) i.far.bytes_are in
    omega (arith, next.short)

pub store_piece-requires-clause-few : goal.store_piece-requires-clause-few
store_piece-requires-clause-few g c =
    let i = c.loop-piece.invariant in
    let next = c.pieces_follow.ensures.next c.args.pager.now.page_size c.args.region c.args.off (length c.args.bytes.now) c.loop-piece.done c.loop-piece.yielded (rest_of c.next.new.self) c.in-Some.piece c.requires.listed.some (i.pieces ∙ ap (λ ps. c.loop-piece.yielded ++ ps) c.in-Some.ensures.steps) i.far.bytes_are in
    omega (arith, i.far.goes.spent, c.requires.range.few, next.at.some, next.short)

pub store_piece-requires-clause-part : goal.store_piece-requires-clause-part
store_piece-requires-clause-part g c =
    let p = c.args.pager.now in
    let z = p.page_size in
    let r = c.args.region in
    let off = c.args.off in
    let len = length c.args.bytes.now in
    let done = c.loop-piece.done in
    let i = c.loop-piece.invariant in
    let front = c.loop-piece.yielded in
    let piece : Piece = c.in-Some.piece in
    let rest = rest_of c.next.new.self in
    let whole : pieces_of z r off len ≡ front ++ piece ∷ rest = i.pieces ∙ ap (λ ps. front ++ ps) c.in-Some.ensures.steps in
    let next : IsNext z r off len done piece = c.pieces_follow.ensures.next z r off len done front rest piece c.requires.listed.some whole i.far.bytes_are in
    let bytes = c.args.bytes.now in
    let part : length (take (done + piece.len - done) (drop done bytes)) ≡ piece.len = omega (arith, length-take (done + piece.len - done) (drop done bytes), length-drop done bytes, next.short) in
    subst (λ n. IsPart c.loop-piece.pager piece.key piece.place n) (sym part) (is_part z r off len done piece next p c.loop-piece.pager c.requires.range i.far.goes.same refl)

pub store_piece-requires-clause-writable : goal.store_piece-requires-clause-writable
store_piece-requires-clause-writable g c =
    let i = c.loop-piece.invariant in
    let next = c.pieces_follow.ensures.next c.args.pager.now.page_size c.args.region c.args.off (length c.args.bytes.now) c.loop-piece.done c.loop-piece.yielded (rest_of c.next.new.self) c.in-Some.piece c.requires.listed.some (i.pieces ∙ ap (λ ps. c.loop-piece.yielded ++ ps) c.in-Some.ensures.steps) i.far.bytes_are in
    ap (λ r. may_store (slice_get c.loop-piece.pager.shapes r)) next.at.of_region ∙ ap (λ ss. may_store (slice_get ss c.args.region)) i.far.goes.same.shapes ∙ c.requires.writable

pub loop-piece-preserved : goal.loop-piece-preserved
loop-piece-preserved g c =
    let p = c.args.pager.now in
    let z = p.page_size in
    let r = c.args.region in
    let off = c.args.off in
    let len = length c.args.bytes.now in
    let done = c.loop-piece.done in
    let i = c.loop-piece.invariant in
    let front = c.loop-piece.yielded in
    let piece : Piece = c.in-Some.piece in
    let rest = rest_of c.next.new.self in
    let whole : pieces_of z r off len ≡ front ++ piece ∷ rest = i.pieces ∙ ap (λ ps. front ++ ps) c.in-Some.ensures.steps in
    let next : IsNext z r off len done piece = c.pieces_follow.ensures.next z r off len done front rest piece c.requires.listed.some whole i.far.bytes_are in
    let bytes = c.args.bytes.now in
    let e = c.in-Ok.ensures in
    let stored = take (done + piece.len - done) (drop done bytes) in
    let count : done + piece.len - done ≡ piece.len = omega arith in
    let its = in_range z r off len done piece next in
    record {
      within = next.short;
      pieces = whole ∙ sym (append_assoc front (piece ∷ []) rest);
      far =
          so_far_more g.J.Journal.has_noted (may_make z (store_line r off bytes)) save_of p r off len front piece bytes bytes done c.loop-piece.pager c.store_piece.new.pager i.far next is_for_store (store_serves z r off bytes piece.key its) (Save piece.key piece.place stored) e.done refl refl its
          (c.accesses_by_piece.ensures.more save_of front piece bytes ∙ ap (λ m. saves front bytes ++ Save piece.key piece.place (take piece.len (drop m bytes)) ∷ []) i.far.bytes_are ∙ sym (ap (λ m. saves front bytes ++ Save piece.key piece.place (take m (drop done bytes)) ∷ []) count));
      journals = e.journals ∙ i.journals;
    }

pub returns-in-Err-clause-goes : goal.returns-in-Err-clause-goes
returns-in-Err-clause-goes g c =
    let p = c.args.pager.now in
    let z = p.page_size in
    let r = c.args.region in
    let off = c.args.off in
    let len = length c.args.bytes.now in
    let done = c.loop-piece.done in
    let i = c.loop-piece.invariant in
    let front = c.loop-piece.yielded in
    let piece : Piece = c.in-Some.piece in
    let rest = rest_of c.next.new.self in
    let whole : pieces_of z r off len ≡ front ++ piece ∷ rest = i.pieces ∙ ap (λ ps. front ++ ps) c.in-Some.ensures.steps in
    let next : IsNext z r off len done piece = c.pieces_follow.ensures.next z r off len done front rest piece c.requires.listed.some whole i.far.bytes_are in
    let bytes = c.args.bytes.now in
    goes_to_end g.J.Journal.has_noted (may_make z (store_line r off bytes)) save_of p r off len front piece bytes bytes done c.loop-piece.pager c.store_piece.new.pager i.far next is_for_store (store_serves z r off bytes piece.key (in_range z r off len done piece next)) c.in-Err.ended c.in-Err.ensures.ended

pub returns-in-Err-clause-journals : goal.returns-in-Err-clause-journals
returns-in-Err-clause-journals g c = c.in-Err.ensures.journals ∙ c.loop-piece.invariant.journals

pub returns-in-Err-clause-ended : goal.returns-in-Err-clause-ended
returns-in-Err-clause-ended g c =
    let p = c.args.pager.now in
    let z = p.page_size in
    let r = c.args.region in
    let off = c.args.off in
    let len = length c.args.bytes.now in
    let done = c.loop-piece.done in
    let i = c.loop-piece.invariant in
    let front = c.loop-piece.yielded in
    let piece : Piece = c.in-Some.piece in
    let rest = rest_of c.next.new.self in
    let whole : pieces_of z r off len ≡ front ++ piece ∷ rest = i.pieces ∙ ap (λ ps. front ++ ps) c.in-Some.ensures.steps in
    let next : IsNext z r off len done piece = c.pieces_follow.ensures.next z r off len done front rest piece c.requires.listed.some whole i.far.bytes_are in
    let bytes = c.args.bytes.now in (
      done,
      so_far_ends g.J.Journal.has_noted (may_make z (store_line r off bytes)) save_of p r off len front piece bytes bytes done c.loop-piece.pager c.store_piece.new.pager i.far next is_for_store (store_serves z r off bytes piece.key (in_range z r off len done piece next)) rest whole c.in-Err.ended c.in-Err.ensures.ended,
    )

pub returns-clause-goes : goal.returns-clause-goes
returns-clause-goes g c = goes_within c.loop-piece.done (length c.args.bytes.now) c.args.pager.now c.loop-piece.pager c.loop-piece.invariant.far.goes (omega (arith, c.loop-piece.invariant.within))

pub returns-clause-made : goal.returns-clause-made
returns-clause-made g c =
    let i = c.loop-piece.invariant in
    let z = c.args.pager.now.page_size in
    let len = length c.args.bytes.now in
    let front = c.loop-piece.yielded in
    let pieces : pieces_of z c.args.region c.args.off len ≡ front ++ [] = i.pieces ∙ ap (λ ps. front ++ ps) c.in-None.ensures.steps.0 in
    let all : c.loop-piece.done ≡ len = c.pieces_follow.ensures.all z c.args.region c.args.off len c.loop-piece.done c.requires.listed.some (all_bytes z c.args.region c.args.off len c.loop-piece.done front pieces i.far.bytes_are) in (
      subst (IsOpenRange c.args.pager.now c.args.region c.args.off) all i.far.open_,
      subst (λ ps. GoesBy g.J.Journal.has_noted (may_make z (store_line c.args.region c.args.off c.args.bytes.now)) (saves ps c.args.bytes.now) [] c.args.pager.now c.loop-piece.pager) (sym (pieces ∙ append-nil front)) i.far.made,
    )
