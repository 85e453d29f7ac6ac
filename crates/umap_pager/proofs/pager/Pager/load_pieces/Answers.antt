use Rattle.std.proofs.Common.{◌≡◌, ◌+◌, ◌-◌, ◌≤◌, [], ◌∷◌, ◌++◌, length, take, drop, refl, sym, ap, subst, ◌∙◌, arith, length-take, length-drop, append_assoc, append-nil}
use Rattle.std.proofs.lemmas.List.{take_all}
use Rattle.std.proofs.lemmas.List.Sums.{sum_by-append, sum_by-cons}
use Rattle.std.proofs.lemmas.Slice.{take-put_mid, drop-put_mid}
use borrow.Rule.Slice.PartMut.{put_mid}
use Rattle.page_base.specs.declared.keys.Piece.{Piece}
use Rattle.page_model.specs.declared.entry.Entry.TheVariants.{Load}
use Rattle.page_model.specs.Pieces.{loads}
use Rattle.region_table.specs.Cuts.{rest_of}
use Rattle.region_table.specs.Pieces.{pieces_of}
use Rattle.locked_stripe.specs.Calls.{for_load}
use Rattle.umap_pager.specs.InsideParts.{GoesTogether, IsPart}
use Rattle.umap_pager.specs.Ranges.{AccessesDone, LoadRefused}
use Rattle.umap_pager.specs.Shared.{page_stripe}
use Rattle.umap_pager.proofs.Locks.{fit_out}
use Rattle.umap_pager.proofs.Parts.{piece_next, pieces_end, next_part, length-put_mid, put_same, drop_more, not_none}
use Rattle.umap_pager.proofs.Refused.{load_refused}
use Rattle.umap_pager.proofs.Stopping.{done_none, done_more, stopped_at}
use Rattle.umap_pager.proofs.pager.Pager.load_pieces.Goals as goal

pub loop-piece-init : goal.loop-piece-init
loop-piece-init g c =
    let all = subst (λ v. GoesTogether v c.self.inside.config.shapes.items) c.self.view_is c.self.invariant in
    record {
      fit = c.requires.fit;
      within = omega arith;
      pieces = ap (λ z. pieces_of z c.args.region c.args.off (length c.args.buf.now)) (sym all.page_size ∙ sym (ap (λ v. v.table.page_size) c.self.view_is)) ∙ sym c.pieces-piece-items.ensures ∙ ap rest_of (sym c.into_iter-piece-iterator.ensures.into_iter_gives);
      bytes = refl;
      done = done_none c.went_laws.ensures (page_stripe c.args.self.now) for_load c.args.p.now (fit_out c.args.self.now c.args.p.now c.requires.fit);
      rest = refl;
      none = λ e. refl;
    }

pub slice_bounds-load_piece-end : goal.slice_bounds-load_piece-end
slice_bounds-load_piece-end g c =
    let i = c.loop-piece.invariant in
    let next = piece_next c.pieces_follow.ensures c.args.self.now c.args.region c.args.off (length c.args.buf.now) c.loop-piece.done c.loop-piece.yielded (rest_of c.loop-piece.piece-iterator) (rest_of c.next.new.self) c.in-Some.piece i.pieces c.in-Some.ensures.steps i.bytes in
    omega (arith, next.short, c.loop-piece.auto.buf)

pub load_piece-requires-clause-part : goal.load_piece-requires-clause-part
load_piece-requires-clause-part g c =
    let all = subst (λ v. GoesTogether v c.self.inside.config.shapes.items) c.self.view_is c.self.invariant in
    let len = length c.args.buf.now in
    let done = c.loop-piece.done in
    let i = c.loop-piece.invariant in
    let piece : Piece = c.in-Some.piece in
    let next = piece_next c.pieces_follow.ensures c.args.self.now c.args.region c.args.off len done c.loop-piece.yielded (rest_of c.loop-piece.piece-iterator) (rest_of c.next.new.self) piece i.pieces c.in-Some.ensures.steps i.bytes in
    let buf = c.loop-piece.buf in
    let fits : done + piece.len ≤ length buf = omega (arith, next.short, c.loop-piece.auto.buf) in
    let part : length (take (done + piece.len - done) (drop done buf)) ≡ piece.len = omega (arith, length-take (done + piece.len - done) (drop done buf), length-drop done buf, fits) in
    subst (λ n. IsPart c.args.self.now piece.key piece.place n) (sym part) (next_part c.args.self.now c.self.inside.config.shapes.items c.args.region c.args.off len done piece all c.requires.region c.requires.range next)

pub loop-piece-preserved : goal.loop-piece-preserved
loop-piece-preserved g c =
    let len = length c.args.buf.now in
    let done = c.loop-piece.done in
    let i = c.loop-piece.invariant in
    let front = c.loop-piece.yielded in
    let piece : Piece = c.in-Some.piece in
    let rest = rest_of c.next.new.self in
    let next = piece_next c.pieces_follow.ensures c.args.self.now c.args.region c.args.off len done front (rest_of c.loop-piece.piece-iterator) rest piece i.pieces c.in-Some.ensures.steps i.bytes in
    let buf = c.loop-piece.buf in
    let fits : done + piece.len ≤ length buf = omega (arith, next.short, c.loop-piece.auto.buf) in
    let part : length (take (done + piece.len - done) (drop done buf)) ≡ piece.len = omega (arith, length-take (done + piece.len - done) (drop done buf), length-drop done buf, fits) in
    let bytes_read = c.load_piece.new.buf in
    let e = c.in-Ok.ensures in
    let long : length bytes_read ≡ piece.len = e.length ∙ part in
    let whole_buf : length (put_mid done (done + piece.len - done) buf bytes_read) ≡ length buf = length-put_mid buf bytes_read done (done + piece.len - done) (omega (arith, long)) (omega (arith, fits)) in
    let taken : take (done + piece.len) (put_mid done (done + piece.len - done) buf bytes_read) ≡ take done buf ++ bytes_read = take-put_mid done (done + piece.len - done) buf bytes_read (done + piece.len) (omega (arith, long)) (omega (arith, fits)) in
    let left : drop (done + piece.len) (put_mid done (done + piece.len - done) buf bytes_read) ≡ drop (done + piece.len) buf = drop-put_mid done (done + piece.len - done) buf bytes_read (done + piece.len) (omega arith) (omega (arith, fits)) (omega (arith, long)) in
    record {
      fit = e.fit;
      within = omega (arith, whole_buf, fits);
      pieces = i.pieces ∙ ap (λ ps. front ++ ps) c.in-Some.ensures.steps ∙ sym (append_assoc front (piece ∷ []) rest);
      bytes = sum_by-append (λ (q : Piece). q.len) front (piece ∷ []) ∙ omega (arith, i.bytes, sum_by-cons (λ (q : Piece). q.len) piece []);
      done =
          subst (λ es. AccessesDone (page_stripe c.args.self.now) for_load c.args.p.now c.load_piece.new.p es) (sym (ap (loads (front ++ piece ∷ [])) taken ∙ c.accesses_by_piece.ensures.own (λ k place its. Load k place its) front piece (take done buf) bytes_read (omega (arith, i.bytes, length-take done buf, fits)) long))
          (done_more c.went_laws.ensures (page_stripe c.args.self.now) (page_stripe c.args.self.now piece.key) for_load c.args.self.now c.args.p.now c.loop-piece.p c.load_piece.new.p (loads front (take done buf)) piece.key (Load piece.key piece.place bytes_read)
          (fit_out c.args.self.now c.loop-piece.p i.fit) refl refl refl (λ j. refl) (λ j. refl) i.done e.ok);
      rest = left ∙ drop_more buf c.args.buf.now done piece.len i.rest;
      none = λ none. absurd (not_none front piece none);
    }

pub returns-in-Err-clause-refused : goal.returns-in-Err-clause-refused
returns-in-Err-clause-refused g c =
    let len = length c.args.buf.now in
    let done = c.loop-piece.done in
    let i = c.loop-piece.invariant in
    let front = c.loop-piece.yielded in
    let piece : Piece = c.in-Some.piece in
    let rest = rest_of c.next.new.self in
    let buf = c.loop-piece.buf in
    let e = c.in-Err.ensures in
    let same : put_mid done (done + piece.len - done) buf c.load_piece.new.buf ≡ buf = put_same buf c.load_piece.new.buf done (done + piece.len - done) e.untouched in
    subst (λ after. LoadRefused c.args.self.now c.args.region c.args.off c.args.p.now c.load_piece.new.p c.args.buf.now after c.in-Err.why) (sym same)
    (load_refused c.args.self.now c.args.region c.args.off c.args.p.now c.load_piece.new.p c.args.buf.now buf c.in-Err.why done c.requires.range i.rest
    (stopped_at c.went_laws.ensures (page_stripe c.args.self.now) (page_stripe c.args.self.now piece.key) for_load (λ k place its. Load k place its) c.args.self.now (pieces_of c.args.self.now.layout.page_size c.args.region c.args.off len) front rest piece done (take done buf) c.args.p.now c.loop-piece.p c.load_piece.new.p c.in-Err.why
    (fit_out c.args.self.now c.loop-piece.p i.fit) refl (record { next = piece; rest = rest; all_are = i.pieces ∙ ap (λ ps. front ++ ps) c.in-Some.ensures.steps; bytes = i.bytes }) refl i.done e.err))

pub returns-in-Err-clause-empty : goal.returns-in-Err-clause-empty
returns-in-Err-clause-empty g c =
    let i = c.loop-piece.invariant in
    let next = piece_next c.pieces_follow.ensures c.args.self.now c.args.region c.args.off (length c.args.buf.now) c.loop-piece.done c.loop-piece.yielded (rest_of c.loop-piece.piece-iterator) (rest_of c.next.new.self) c.in-Some.piece i.pieces c.in-Some.ensures.steps i.bytes in
    λ empty. absurd (omega (arith, next.short, next.at.some, empty))

pub returns-clause-loaded : goal.returns-clause-loaded
returns-clause-loaded g c =
    let i = c.loop-piece.invariant in
    let len = length c.args.buf.now in
    let front = c.loop-piece.yielded in
    let pieces : pieces_of c.args.self.now.layout.page_size c.args.region c.args.off len ≡ front = i.pieces ∙ ap (λ ps. front ++ ps) c.in-None.ensures.steps.0 ∙ append-nil front in
    let all : c.loop-piece.done ≡ len = pieces_end c.pieces_follow.ensures c.args.self.now c.args.region c.args.off len c.loop-piece.done front pieces i.bytes in
    let long : length c.loop-piece.buf ≡ len = omega (arith, c.loop-piece.auto.buf) in
    subst (λ n. AccessesDone (page_stripe c.args.self.now) for_load c.args.p.now c.loop-piece.p (loads (pieces_of c.args.self.now.layout.page_size c.args.region c.args.off n) c.loop-piece.buf)) (sym long)
    (subst (λ ps. AccessesDone (page_stripe c.args.self.now) for_load c.args.p.now c.loop-piece.p (loads ps c.loop-piece.buf)) (sym pieces)
    (subst (λ xs. AccessesDone (page_stripe c.args.self.now) for_load c.args.p.now c.loop-piece.p (loads front xs)) (take_all c.loop-piece.done c.loop-piece.buf (omega (arith, all, c.loop-piece.auto.buf))) i.done))

pub returns-clause-empty : goal.returns-clause-empty
returns-clause-empty g c =
    let i = c.loop-piece.invariant in
    let len = length c.args.buf.now in
    let front = c.loop-piece.yielded in
    let pieces : pieces_of c.args.self.now.layout.page_size c.args.region c.args.off len ≡ front = i.pieces ∙ ap (λ ps. front ++ ps) c.in-None.ensures.steps.0 ∙ append-nil front in
    λ empty. i.none (sym pieces ∙ ap (pieces_of c.args.self.now.layout.page_size c.args.region c.args.off) empty)
