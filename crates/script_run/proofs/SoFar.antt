-- An access of a range on a pager, so far, and how it ends.
use Rattle.std.proofs.Common.{◌≡◌, inl, inr, ℕ, ◌+◌, ◌*◌, ◌/◌, ◌-◌, ◌<◌, ◌≤◌, Bool, true, List, [], ◌∷◌, ◌++◌, Some, refl, sym, ap, subst, ◌∙◌, arith}
use Rattle.std.proofs.lemmas.Bool.{cases_lt}
use Rattle.std.proofs.lemmas.List.Sums.{sum_by-append, sum_by-cons}
use Rattle.std.proofs.lemmas.Nat.{div-mul-add}
use Rattle.histories.specs.Histories.{History}
use Rattle.page_base.specs.declared.keys.Key.{Key}
use Rattle.page_base.specs.declared.keys.Piece.{Piece}
use Rattle.page_base.specs.declared.keys.Why.{Why}
use Rattle.page_model.specs.declared.entry.Entry.{Entry}
use Rattle.page_model.specs.Entries.{key_of, is_access}
use Rattle.page_model.specs.Pieces.{accesses_by}
use Rattle.region_table.specs.Covers.{IsNext}
use Rattle.region_table.specs.Pieces.{pieces_of}
use Rattle.serial_pager.specs.Pagers.{PagerSeen, closes_at, stripe_at}
use Rattle.flat_lines.specs.Spreads.{range_key, piece_key}
use Rattle.script_run.specs.InsideRanges.{RangeGoesOn, RangeSoFar, RangeEnds, EndsBy, GoesBy, PieceDone, PieceEnds, closes_there}
use Rattle.script_run.specs.LineEntries.{Fails}
use Rattle.script_run.specs.declared.access.AccessEnd.{AccessEnd}
use Rattle.script_run.specs.declared.access.AccessEnd.TheVariants.{Unmapped, Fault}
use Rattle.script_run.proofs.Makings.{ServesBy, by_none, by_access, by_failure}
use Rattle.script_run.proofs.Ranged.{same_page, same_stripe, goes_none, goes_more, goes_within, one_piece, key_is}

module _ {J : Type 0} (has_noted : J → History Entry → Type 0) (may : Entry → Bool) (access : Key → ℕ → List ℕ → Entry) (p : PagerSeen J) (region off len : ℕ) where
  pub so_far_none : (bytes : List ℕ) → RangeSoFar has_noted may access region off [] bytes 0 p p
  so_far_none bytes = record { goes = goes_none p; open_ = λ i lt. absurd (omega (arith, lt)); bytes_are = refl; made = by_none has_noted may p }

  -- the piece that is next
  module _ (front : List Piece) (piece : Piece) (bytes more : List ℕ) (done : ℕ) (now new : PagerSeen J) (far : RangeSoFar has_noted may access region off front bytes done p now) (next : IsNext p.page_size region off len done piece) (reasons : Why → Bool) (weak : ServesBy may piece.key reasons) where
    -- its bytes lie in its page
    its_page : (i : ℕ) → done ≤ i → i < done + piece.len → piece_key p.page_size region (off + i) ≡ piece.key
    its_page i low high =
        let far_ : off + i ≡ piece.key.page * p.page_size + (piece.place + (i - done)) = omega (arith, next.at.begins, low) in
        ap (range_key region) (ap (λ n. n / p.page_size) far_ ∙ div-mul-add piece.key.page p.page_size (piece.place + (i - done)) (omega (arith, next.at.within, low, high)))
        ∙ sym (key_is p.page_size region off len done piece next)

    closes_here : (i : ℕ) → done ≤ i → i < done + piece.len → closes_there p region (off + i) ≡ closes_at now (stripe_at now piece.key) piece.key.region
    closes_here i low high =
        ap (λ (k : Key). closes_at p (stripe_at p k) region) (its_page i low high)
        ∙ ap (closes_at p (stripe_at p piece.key)) (sym next.at.of_region)
        ∙ sym (far.goes.same.closes (stripe_at p piece.key) piece.key.region)
        ∙ ap (λ n. closes_at now n piece.key.region) (sym (same_stripe p now far.goes.same piece.key))

    pub so_far_more : (e : Entry) → PieceDone has_noted piece.key reasons e now new → key_of e ≡ Some piece.key → is_access e ≡ true → may e ≡ true → accesses_by access (front ++ piece ∷ []) more ≡ accesses_by access front bytes ++ e ∷ []
        → RangeSoFar has_noted may access region off (front ++ piece ∷ []) more (done + piece.len) p new
    so_far_more e d its is allowed grows = record {
      goes = goes_more done piece.len p now new far.goes (one_piece piece.len now new d.same d.spent next.at.some);
      open_ = λ i lt. elim (cases_lt i done) [
        | inl before ↦ far.open_ i before
        | inr from ↦ closes_here i from lt ∙ d.open_
      ];
      bytes_are = sum_by-append (λ (q : Piece). q.len) front (piece ∷ []) ∙ omega (arith, far.bytes_are, sum_by-cons (λ (q : Piece). q.len) piece []);
      made = subst (λ es. GoesBy has_noted may es [] p new) (sym grows) (by_access has_noted may (accesses_by access front bytes) p now new piece.key reasons weak e far.goes.same far.made d its is allowed);
    }

    pub so_far_ends : (rest : List Piece) → pieces_of p.page_size region off len ≡ front ++ piece ∷ rest → (e : AccessEnd) → PieceEnds has_noted piece.key reasons now new e → RangeEnds has_noted may access region off len bytes done e p new
    so_far_ends rest whole e ends = record {
      open_ = far.open_;
      pieces = front;
      before = record { next = piece; rest = rest; all_are = whole; bytes = far.bytes_are };
      ends = how e ends;
    }
      where
        first : piece_key p.page_size region (off + done) ≡ piece.key
        first = its_page done (omega arith) (omega (arith, next.at.some))

        here : closes_there p region (off + done) ≡ closes_at now (stripe_at now piece.key) piece.key.region
        here = closes_here done (omega arith) (omega (arith, next.at.some))

        how : (e : AccessEnd) → PieceEnds has_noted piece.key reasons now new e → EndsBy has_noted may (accesses_by access front bytes) region off done p new e
        how Unmapped x = (here ∙ x.0, subst (λ (z : PagerSeen J). GoesBy has_noted may (accesses_by access front bytes) [] p z) (sym x.1) far.made)
        how (Fault f) x = record {
          open_ = here ∙ x.open_;
          at = record {
            page = sym (same_page p now far.goes.same f.key) ∙ x.page;
            stripe = sym (same_stripe p now far.goes.same f.key) ∙ x.stripe ∙ same_stripe p now far.goes.same piece.key ∙ ap (stripe_at p) (sym first);
          };
          failure = x.failure;
          fails = subst (λ (k : Key). Fails k f.key f.faults x.failure) (sym first) x.fails;
          goes = by_failure has_noted may (accesses_by access front bytes) p now new piece.key reasons weak f far.goes.same far.made x;
        }

    pub goes_to_end : (e : AccessEnd) → PieceEnds has_noted piece.key reasons now new e → RangeGoesOn len p new
    goes_to_end Unmapped x = subst (λ (z : PagerSeen J). RangeGoesOn len p z) (sym x.1) (goes_within done len p now far.goes (omega (arith, next.short)))
    goes_to_end (Fault f) x = goes_within (done + 1) len p new (goes_more done 1 p now new far.goes (one_piece 1 now new x.same x.spent (omega arith))) (omega (arith, next.at.some, next.short))
