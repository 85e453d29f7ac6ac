use Rattle.std.proofs.Common.{◌≡◌, ◌+◌, ◌-◌, true, [], ◌∷◌, ◌++◌, length, take, drop, refl, sym, ap, subst, ◌∙◌, arith, length-take, length-drop, append_assoc, append-nil}
use Rattle.std.proofs.lemmas.List.Sums.{sum_by-append, sum_by-cons}
use Rattle.page_base.specs.declared.keys.Piece.{Piece}
use Rattle.page_model.specs.declared.entry.Entry.TheVariants.{Save}
use Rattle.page_model.specs.Pieces.{saves}
use Rattle.region_table.specs.Cuts.{rest_of}
use Rattle.region_table.specs.Pieces.{pieces_of}
use Rattle.locked_stripe.specs.Calls.{for_store}
use Rattle.umap_pager.specs.InsideParts.{GoesTogether, IsPart}
use Rattle.umap_pager.specs.Ranges.{AccessesDone, region_writable}
use Rattle.umap_pager.specs.Shared.{page_stripe}
use Rattle.umap_pager.proofs.Locks.{fit_out}
use Rattle.umap_pager.proofs.Parts.{piece_next, next_part, not_none}
use Rattle.umap_pager.proofs.Refused.{store_refused}
use Rattle.umap_pager.proofs.Stopping.{done_none, done_more, stopped_at}
use Rattle.umap_pager.proofs.pager.Pager.store_pieces.Goals as goal

pub loop-piece-init : goal.loop-piece-init
loop-piece-init g c =
    let all = subst (λ v. GoesTogether v c.self.inside.config.shapes.items) c.self.view_is c.self.invariant in
    record {
      fit = c.requires.fit;
      within = omega arith;
      pieces = ap (λ z. pieces_of z c.args.region c.args.off (length c.args.bytes.now)) (sym all.page_size ∙ sym (ap (λ v. v.table.page_size) c.self.view_is)) ∙ sym c.pieces-piece-items.ensures ∙ ap rest_of (sym c.into_iter-piece-iterator.ensures.into_iter_gives);
      bytes = refl;
      done = done_none c.went_laws.ensures (page_stripe c.args.self.now) for_store c.args.p.now (fit_out c.args.self.now c.args.p.now c.requires.fit);
      none = λ e. refl;
    }

pub slice_bounds-store_piece-end : goal.slice_bounds-store_piece-end
slice_bounds-store_piece-end g c =
    let i = c.loop-piece.invariant in
    let next = piece_next c.pieces_follow.ensures c.args.self.now c.args.region c.args.off (length c.args.bytes.now) c.loop-piece.done c.loop-piece.yielded (rest_of c.loop-piece.piece-iterator) (rest_of c.next.new.self) c.in-Some.piece i.pieces c.in-Some.ensures.steps i.bytes in
    omega (arith, next.short)

pub store_piece-requires-clause-part : goal.store_piece-requires-clause-part
store_piece-requires-clause-part g c =
    let all = subst (λ v. GoesTogether v c.self.inside.config.shapes.items) c.self.view_is c.self.invariant in
    let bytes = c.args.bytes.now in
    let len = length bytes in
    let done = c.loop-piece.done in
    let i = c.loop-piece.invariant in
    let piece : Piece = c.in-Some.piece in
    let next = piece_next c.pieces_follow.ensures c.args.self.now c.args.region c.args.off len done c.loop-piece.yielded (rest_of c.loop-piece.piece-iterator) (rest_of c.next.new.self) piece i.pieces c.in-Some.ensures.steps i.bytes in
    let part : length (take (done + piece.len - done) (drop done bytes)) ≡ piece.len = omega (arith, length-take (done + piece.len - done) (drop done bytes), length-drop done bytes, next.short) in
    subst (λ n. IsPart c.args.self.now piece.key piece.place n) (sym part) (next_part c.args.self.now c.self.inside.config.shapes.items c.args.region c.args.off len done piece all c.requires.region c.requires.range next)

pub store_piece-requires-clause-writable : goal.store_piece-requires-clause-writable
store_piece-requires-clause-writable g c =
    let i = c.loop-piece.invariant in
    let next = piece_next c.pieces_follow.ensures c.args.self.now c.args.region c.args.off (length c.args.bytes.now) c.loop-piece.done c.loop-piece.yielded (rest_of c.loop-piece.piece-iterator) (rest_of c.next.new.self) c.in-Some.piece i.pieces c.in-Some.ensures.steps i.bytes in
    subst (λ r. region_writable c.args.self.now r ≡ true) (sym next.at.of_region) c.requires.writable

pub loop-piece-preserved : goal.loop-piece-preserved
loop-piece-preserved g c =
    let bytes = c.args.bytes.now in
    let len = length bytes in
    let done = c.loop-piece.done in
    let i = c.loop-piece.invariant in
    let front = c.loop-piece.yielded in
    let piece : Piece = c.in-Some.piece in
    let rest = rest_of c.next.new.self in
    let next = piece_next c.pieces_follow.ensures c.args.self.now c.args.region c.args.off len done front (rest_of c.loop-piece.piece-iterator) rest piece i.pieces c.in-Some.ensures.steps i.bytes in
    let e = c.in-Ok.ensures in
    let stored = take (done + piece.len - done) (drop done bytes) in
    let count : done + piece.len - done ≡ piece.len = omega arith in
    record {
      fit = e.fit;
      within = next.short;
      pieces = i.pieces ∙ ap (λ ps. front ++ ps) c.in-Some.ensures.steps ∙ sym (append_assoc front (piece ∷ []) rest);
      bytes = sum_by-append (λ (q : Piece). q.len) front (piece ∷ []) ∙ omega (arith, i.bytes, sum_by-cons (λ (q : Piece). q.len) piece []);
      done =
          subst (λ es. AccessesDone (page_stripe c.args.self.now) for_store c.args.p.now c.store_piece.new.p es) (ap (λ m. saves front bytes ++ Save piece.key piece.place (take m (drop done bytes)) ∷ []) count ∙ sym (c.accesses_by_piece.ensures.more (λ k place its. Save k place its) front piece bytes ∙ ap (λ m. saves front bytes ++ Save piece.key piece.place (take piece.len (drop m bytes)) ∷ []) i.bytes))
          (done_more c.went_laws.ensures (page_stripe c.args.self.now) (page_stripe c.args.self.now piece.key) for_store c.args.self.now c.args.p.now c.loop-piece.p c.store_piece.new.p (saves front bytes) piece.key (Save piece.key piece.place stored)
          (fit_out c.args.self.now c.loop-piece.p i.fit) refl refl refl (λ j. refl) (λ j. refl) i.done e.ok);
      none = λ none. absurd (not_none front piece none);
    }

pub returns-in-Err-clause-refused : goal.returns-in-Err-clause-refused
returns-in-Err-clause-refused g c =
    let bytes = c.args.bytes.now in
    let len = length bytes in
    let done = c.loop-piece.done in
    let i = c.loop-piece.invariant in
    let front = c.loop-piece.yielded in
    let piece : Piece = c.in-Some.piece in
    let rest = rest_of c.next.new.self in
    let e = c.in-Err.ensures in
    store_refused c.args.self.now c.args.region c.args.off bytes c.args.p.now c.store_piece.new.p c.in-Err.why done (c.requires.range, c.requires.writable)
    (stopped_at c.went_laws.ensures (page_stripe c.args.self.now) (page_stripe c.args.self.now piece.key) for_store (λ k place its. Save k place its) c.args.self.now (pieces_of c.args.self.now.layout.page_size c.args.region c.args.off len) front rest piece done bytes c.args.p.now c.loop-piece.p c.store_piece.new.p c.in-Err.why
    (fit_out c.args.self.now c.loop-piece.p i.fit) refl (record { next = piece; rest = rest; all_are = i.pieces ∙ ap (λ ps. front ++ ps) c.in-Some.ensures.steps; bytes = i.bytes }) refl i.done e.err)

pub returns-in-Err-clause-empty : goal.returns-in-Err-clause-empty
returns-in-Err-clause-empty g c =
    let i = c.loop-piece.invariant in
    let next = piece_next c.pieces_follow.ensures c.args.self.now c.args.region c.args.off (length c.args.bytes.now) c.loop-piece.done c.loop-piece.yielded (rest_of c.loop-piece.piece-iterator) (rest_of c.next.new.self) c.in-Some.piece i.pieces c.in-Some.ensures.steps i.bytes in
    λ empty. absurd (omega (arith, next.short, next.at.some, empty))

pub returns-clause-stored : goal.returns-clause-stored
returns-clause-stored g c =
    let i = c.loop-piece.invariant in
    let front = c.loop-piece.yielded in
    let pieces : pieces_of c.args.self.now.layout.page_size c.args.region c.args.off (length c.args.bytes.now) ≡ front = i.pieces ∙ ap (λ ps. front ++ ps) c.in-None.ensures.steps.0 ∙ append-nil front in
    subst (λ ps. AccessesDone (page_stripe c.args.self.now) for_store c.args.p.now c.loop-piece.p (saves ps c.args.bytes.now)) (sym pieces) i.done

pub returns-clause-empty : goal.returns-clause-empty
returns-clause-empty g c =
    let i = c.loop-piece.invariant in
    let front = c.loop-piece.yielded in
    let pieces : pieces_of c.args.self.now.layout.page_size c.args.region c.args.off (length c.args.bytes.now) ≡ front = i.pieces ∙ ap (λ ps. front ++ ps) c.in-None.ensures.steps.0 ∙ append-nil front in
    λ empty. i.none (sym pieces ∙ ap (pieces_of c.args.self.now.layout.page_size c.args.region c.args.off) empty)
