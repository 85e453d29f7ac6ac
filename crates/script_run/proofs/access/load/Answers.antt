use Rattle.std.proofs.Common.{◌≡◌, ◌+◌, ◌-◌, ◌≤◌, [], ◌∷◌, ◌++◌, length, take, drop, refl, sym, ap, subst, ◌∙◌, arith, length-take, length-drop, append_assoc, append-nil}
use Rattle.std.proofs.lemmas.List.{take_all}
use Rattle.std.proofs.lemmas.Slice.{take-put_mid}
use borrow.Rule.Slice.PartMut.{put_mid}
use Rattle.page_base.specs.declared.keys.Piece.{Piece}
use Rattle.page_model.specs.declared.entry.Entry.TheVariants.{Load}
use Rattle.page_model.specs.Pieces.{loads}
use Rattle.region_table.specs.Covers.{IsNext}
use Rattle.region_table.specs.Cuts.{rest_of}
use Rattle.region_table.specs.Pieces.{pieces_of}
use Rattle.serial_pager.specs.Accesses.{is_read}
use Rattle.workload_text.specs.Line.{load_line}
use Rattle.script_run.specs.InsideRanges.{IsOpenRange, IsPart, GoesBy, load_of}
use Rattle.script_run.specs.LineEntries.{may_make}
use Rattle.script_run.proofs.Allowed.{in_range, load_serves}
use Rattle.script_run.proofs.Pieces.{length-put_mid}
use Rattle.script_run.proofs.Ranged.{all_bytes, goes_within, is_part}
use Rattle.script_run.proofs.SoFar.{so_far_none, so_far_more, so_far_ends, goes_to_end}
use Rattle.script_run.proofs.access.load.Goals as goal

pub loop-piece-init : goal.loop-piece-init
loop-piece-init g c = record {
  within = omega arith;
  pieces = ap (λ z. pieces_of z c.args.region c.args.off (length c.args.buf.now)) (sym c.requires.listed.page_size) ∙ sym c.pieces-piece-items.ensures ∙ ap rest_of (sym c.into_iter-piece-iterator.ensures.into_iter_gives);
  far = so_far_none g.J.Journal.has_noted (may_make c.args.pager.now.page_size (load_line c.args.region c.args.off (length c.args.buf.now))) load_of c.args.pager.now c.args.region c.args.off (length c.args.buf.now) (take 0 c.args.buf.now);
  journals = refl;
}

pub slice_bounds-load_piece-end : goal.slice_bounds-load_piece-end
slice_bounds-load_piece-end g c =
    let i = c.loop-piece.invariant in
    let next = c.pieces_follow.ensures.next c.args.pager.now.page_size c.args.region c.args.off (length c.args.buf.now) c.loop-piece.done c.loop-piece.yielded (rest_of c.next.new.self) c.in-Some.piece c.requires.listed.some (i.pieces ∙ ap (λ ps. c.loop-piece.yielded ++ ps) c.in-Some.ensures.steps) i.far.bytes_are in
    omega (arith, next.short, c.loop-piece.auto.buf)

pub load_piece-requires-clause-few : goal.load_piece-requires-clause-few
load_piece-requires-clause-few g c =
    let i = c.loop-piece.invariant in
    let next = c.pieces_follow.ensures.next c.args.pager.now.page_size c.args.region c.args.off (length c.args.buf.now) c.loop-piece.done c.loop-piece.yielded (rest_of c.next.new.self) c.in-Some.piece c.requires.listed.some (i.pieces ∙ ap (λ ps. c.loop-piece.yielded ++ ps) c.in-Some.ensures.steps) i.far.bytes_are in
    omega (arith, i.far.goes.spent, c.requires.range.few, next.at.some, next.short, c.loop-piece.auto.buf)

pub load_piece-requires-clause-part : goal.load_piece-requires-clause-part
load_piece-requires-clause-part g c =
    let p = c.args.pager.now in
    let z = p.page_size in
    let r = c.args.region in
    let off = c.args.off in
    let len = length c.args.buf.now in
    let done = c.loop-piece.done in
    let i = c.loop-piece.invariant in
    let front = c.loop-piece.yielded in
    let piece : Piece = c.in-Some.piece in
    let rest = rest_of c.next.new.self in
    let whole : pieces_of z r off len ≡ front ++ piece ∷ rest = i.pieces ∙ ap (λ ps. front ++ ps) c.in-Some.ensures.steps in
    let next : IsNext z r off len done piece = c.pieces_follow.ensures.next z r off len done front rest piece c.requires.listed.some whole i.far.bytes_are in
    let buf = c.loop-piece.buf in
    let part : length (take (done + piece.len - done) (drop done buf)) ≡ piece.len = omega (arith, length-take (done + piece.len - done) (drop done buf), length-drop done buf, next.short, c.loop-piece.auto.buf) in
    subst (λ n. IsPart c.loop-piece.pager piece.key piece.place n) (sym part) (is_part z r off len done piece next p c.loop-piece.pager c.requires.range i.far.goes.same refl)

pub loop-piece-preserved : goal.loop-piece-preserved
loop-piece-preserved g c =
    let p = c.args.pager.now in
    let z = p.page_size in
    let r = c.args.region in
    let off = c.args.off in
    let len = length c.args.buf.now in
    let done = c.loop-piece.done in
    let i = c.loop-piece.invariant in
    let front = c.loop-piece.yielded in
    let piece : Piece = c.in-Some.piece in
    let rest = rest_of c.next.new.self in
    let whole : pieces_of z r off len ≡ front ++ piece ∷ rest = i.pieces ∙ ap (λ ps. front ++ ps) c.in-Some.ensures.steps in
    let next : IsNext z r off len done piece = c.pieces_follow.ensures.next z r off len done front rest piece c.requires.listed.some whole i.far.bytes_are in
    let buf = c.loop-piece.buf in
    let fits : done + piece.len ≤ length buf = omega (arith, next.short, c.loop-piece.auto.buf) in
    let part : length (take (done + piece.len - done) (drop done buf)) ≡ piece.len = omega (arith, length-take (done + piece.len - done) (drop done buf), length-drop done buf, fits) in
    let bytes_read = c.load_piece.new.buf in
    let e = c.in-Ok.ensures in
    let long : length bytes_read ≡ piece.len = c.load_piece.auto.buf ∙ part in
    let after = put_mid done (done + piece.len - done) buf bytes_read in
    let whole_buf : length after ≡ length buf = length-put_mid buf bytes_read done (done + piece.len - done) (omega (arith, long)) (omega (arith, fits)) in
    let its = in_range z r off len done piece next in
    let taken : take (done + piece.len) after ≡ take done buf ++ bytes_read = take-put_mid done (done + piece.len - done) buf bytes_read (done + piece.len) (omega (arith, fits)) (omega (arith, long, fits)) in
    record {
      within = omega (arith, whole_buf, fits);
      pieces = whole ∙ sym (append_assoc front (piece ∷ []) rest);
      far =
          so_far_more g.J.Journal.has_noted (may_make z (load_line r off len)) load_of p r off len front piece (take done buf) (take (done + piece.len) after) done c.loop-piece.pager c.load_piece.new.pager i.far next is_read (load_serves z r off len piece.key its) (Load piece.key piece.place bytes_read) e.done refl refl its
          (ap (loads (front ++ piece ∷ [])) taken ∙ c.accesses_by_piece.ensures.own load_of front piece (take done buf) bytes_read (omega (arith, i.far.bytes_are, length-take done buf, fits)) long);
      journals = e.journals ∙ i.journals;
    }

pub returns-in-Err-clause-goes : goal.returns-in-Err-clause-goes
returns-in-Err-clause-goes g c =
    let p = c.args.pager.now in
    let z = p.page_size in
    let r = c.args.region in
    let off = c.args.off in
    let len = length c.args.buf.now in
    let done = c.loop-piece.done in
    let i = c.loop-piece.invariant in
    let front = c.loop-piece.yielded in
    let piece : Piece = c.in-Some.piece in
    let rest = rest_of c.next.new.self in
    let whole : pieces_of z r off len ≡ front ++ piece ∷ rest = i.pieces ∙ ap (λ ps. front ++ ps) c.in-Some.ensures.steps in
    let next : IsNext z r off len done piece = c.pieces_follow.ensures.next z r off len done front rest piece c.requires.listed.some whole i.far.bytes_are in
    let its = in_range z r off len done piece next in
    goes_to_end g.J.Journal.has_noted (may_make z (load_line r off len)) load_of p r off len front piece (take done c.loop-piece.buf) (take done c.loop-piece.buf) done c.loop-piece.pager c.load_piece.new.pager i.far next is_read (load_serves z r off len piece.key its) c.in-Err.ended c.in-Err.ensures.ended

pub returns-in-Err-clause-journals : goal.returns-in-Err-clause-journals
returns-in-Err-clause-journals g c = c.in-Err.ensures.journals ∙ c.loop-piece.invariant.journals

pub returns-in-Err-clause-ended : goal.returns-in-Err-clause-ended
returns-in-Err-clause-ended g c =
    let p = c.args.pager.now in
    let z = p.page_size in
    let r = c.args.region in
    let off = c.args.off in
    let len = length c.args.buf.now in
    let done = c.loop-piece.done in
    let i = c.loop-piece.invariant in
    let front = c.loop-piece.yielded in
    let piece : Piece = c.in-Some.piece in
    let rest = rest_of c.next.new.self in
    let whole : pieces_of z r off len ≡ front ++ piece ∷ rest = i.pieces ∙ ap (λ ps. front ++ ps) c.in-Some.ensures.steps in
    let next : IsNext z r off len done piece = c.pieces_follow.ensures.next z r off len done front rest piece c.requires.listed.some whole i.far.bytes_are in
    let its = in_range z r off len done piece next in (
      done,
      take done c.loop-piece.buf,
      omega (arith, length-take done c.loop-piece.buf, i.within),
      so_far_ends g.J.Journal.has_noted (may_make z (load_line r off len)) load_of p r off len front piece (take done c.loop-piece.buf) (take done c.loop-piece.buf) done c.loop-piece.pager c.load_piece.new.pager i.far next is_read (load_serves z r off len piece.key its) rest whole c.in-Err.ended c.in-Err.ensures.ended,
    )

pub returns-clause-goes : goal.returns-clause-goes
returns-clause-goes g c = goes_within c.loop-piece.done (length c.args.buf.now) c.args.pager.now c.loop-piece.pager c.loop-piece.invariant.far.goes (omega (arith, c.loop-piece.invariant.within, c.loop-piece.auto.buf))

pub returns-clause-made : goal.returns-clause-made
returns-clause-made g c =
    let i = c.loop-piece.invariant in
    let z = c.args.pager.now.page_size in
    let len = length c.args.buf.now in
    let front = c.loop-piece.yielded in
    let pieces : pieces_of z c.args.region c.args.off len ≡ front ++ [] = i.pieces ∙ ap (λ ps. front ++ ps) c.in-None.ensures.steps.0 in
    let all : c.loop-piece.done ≡ len = c.pieces_follow.ensures.all z c.args.region c.args.off len c.loop-piece.done c.requires.listed.some (all_bytes z c.args.region c.args.off len c.loop-piece.done front pieces i.far.bytes_are) in (
      subst (IsOpenRange c.args.pager.now c.args.region c.args.off) all i.far.open_,
      subst (λ ps. GoesBy g.J.Journal.has_noted (may_make z (load_line c.args.region c.args.off len)) (loads ps c.loop-piece.buf) [] c.args.pager.now c.loop-piece.pager) (sym (pieces ∙ append-nil front))
          (subst (λ xs. GoesBy g.J.Journal.has_noted (may_make z (load_line c.args.region c.args.off len)) (loads front xs) [] c.args.pager.now c.loop-piece.pager) (take_all c.loop-piece.done c.loop-piece.buf (omega (arith, all, c.loop-piece.auto.buf))) i.far.made),
    )
