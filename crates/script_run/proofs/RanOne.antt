-- One line that runs on a pager.
use Rattle.std.proofs.Common.{◌≡◌, inl, inr, ℕ, suc, ◌+◌, ◌*◌, ◌^◌, ◌<◌, ◌≤◌, ◌||◌, Bool, true, false, List, [], ◌∷◌, ◌++◌, length, sum, codes, Option, Some, None, slice_get, refl, sym, ap, subst, ◌∙◌, arith}
use Rattle.std.proofs.lemmas.Bool.{cases_lt}
use Rattle.std.proofs.lemmas.Option.{slice_get_within}
use Rattle.histories.specs.Histories.{History}
use Rattle.page_base.specs.declared.keys.Key.{Key}
use Rattle.page_base.specs.declared.keys.RegionShape.{RegionShape}
use Rattle.page_model.specs.declared.entry.Entry.{Entry}
use Rattle.page_model.specs.Pieces.{loads, saves, AreBefore}
use Rattle.region_table.specs.Pieces.{pieces_of}
use Rattle.serial_pager.specs.declared.fault.PageFault.{PageFault}
use Rattle.serial_pager.specs.declared.fault.UnmapError.{UnmapError}
use Rattle.serial_pager.specs.declared.fault.UnmapError.TheVariants as unmap_error
use Rattle.serial_pager.specs.Goings.{EachDid}
use Rattle.serial_pager.specs.Pagers.{PagerSeen, IsSame, ClosesOnly, stripe_at, FlushFails, UnmapsEach, EndsUnmap, has_key, region_has_page}
use Rattle.serial_pager.specs.Writings.{WritesAll}
use Rattle.workload_text.specs.Line.{Line, script_line, load_line, store_line, flush_line, unmap_line}
use Rattle.workload_text.specs.Grammar.{Region, size_at}
use Rattle.workload_text.specs.Accepted.{command_count}
use Rattle.flat_lines.specs.Spreads.{Spread, stripe_in, piece_key}
use Rattle.script_run.specs.InsideRanges.{IsRange, GoesBy, RangeEnds, LoadsRange, LoadEnds, SavesRange, StoreEnds, IsOpenRange, closes_there}
use Rattle.script_run.specs.InsideRooms.{end_reply, unmap_reply, IsKnownEnd, IsKnownError, room}
use Rattle.script_run.specs.InsideRunning.{IsShaped, StripesAgree, StandsBy, DidLines, Ran}
use Rattle.script_run.specs.LineEntries.{Accesses, Failure, LineGoes, MakesInOrder, Fails, FindsClosing, FaultsInOpen, may_make}
use Rattle.script_run.specs.Replies.{Reply, begun, loaded, ok, unmapped, fault, reply_text, is_fault_reply, bytes_shown}
use Rattle.script_run.specs.declared.replies.Replies.{Replies}
use Rattle.script_run.specs.declared.access.AccessEnd.{AccessEnd}
use Rattle.script_run.specs.declared.access.AccessEnd.TheVariants.{Unmapped, Fault}
use Rattle.script_run.proofs.Makings.{order_same}
use Rattle.script_run.proofs.Ranged.{stays_same, stays_closing}
use Rattle.script_run.proofs.RanLines.{ran_one, did_nothing}
use Rattle.script_run.proofs.Shaped.{stripe_is, regions_are, closes_is, open_is}
use Rattle.script_run.proofs.StripesWalked.{flush_did, flush_failed, unmap_did, unmapped_did, unmap_failed}

module _ {J : Type 0} (t : Spread) (gs : List Region) (p : PagerSeen J) (shaped : IsShaped t gs p) where
  pub range_is : (r off len : ℕ) → r < length gs → off + len ≤ size_at gs r → len ≤ 65536 → p.spent + 65536 ≤ 2 ^ 44 → IsRange p r off len
  range_is r off len known inside short few = record {
    inside = subst (λ n. off + len ≤ n) (shaped.whole r known) inside;
    near = omega (arith, inside, shaped.small r);
    few = omega (arith, short, few);
  }

  -- the region of a page is there
  pub key_known : (k : Key) → has_key p k ≡ true → k.region < length gs
  key_known k has = subst (λ n. k.region < n) (regions_are t gs p shaped) (go (slice_get p.shapes k.region) refl has)
    where
      go : (o : Option RegionShape) → slice_get p.shapes k.region ≡ o → region_has_page o k.page ≡ true → k.region < length p.shapes
      go None e h = absurd (cc)
      go (Some s) e h = slice_get_within p.shapes k.region s e

  module _ (agree : StripesAgree) (has_noted : J → History Entry → Type 0) (q : PagerSeen J) where
    -- by the layout's stripes and its pages
    made_in : (l : Line) (a failure : List Entry) (made : ℕ → List Entry) → MakesInOrder (stripe_at p) (may_make p.page_size l) a failure made → MakesInOrder (stripe_in t) (may_make t.page_size l) a failure made
    made_in l a failure made o =
        subst (λ z. MakesInOrder (stripe_in t) (may_make z l) a failure made) shaped.page_size
        (order_same (stripe_at p) (stripe_in t) (may_make p.page_size l) a failure made (stripe_is t gs p shaped) o)

    -- a line whose accesses were made so, and then its failure
    did_by : (l : Line) (a : Reply) (accesses failure : List Entry) → IsSame p q → Accesses t.page_size l a accesses → Failure t.page_size l a failure
        → ((older made : ℕ → List Entry) → StandsBy p older → LineGoes t l a older made) → GoesBy has_noted (may_make p.page_size l) accesses failure p q → DidLines has_noted t (l ∷ []) (a ∷ []) p q
    did_by l a accesses failure same acc fail goes by = record {
      same = stays_same p q same;
      made = by.made;
      went = by.went;
      make = λ older stands. (
        by.made,
        record {
          accesses = accesses;
          failure = failure;
          accesses_are = acc;
          failure_is = fail;
          in_order = made_in l accesses failure by.made by.in_order;
          goes = goes older by.made stands;
        },
        λ s. refl,
      );
    }

    -- ---- accesses

    module _ (r off : ℕ) (known : r < length gs) (same : IsSame p q) where
      pub did_load : (len : ℕ) (bytes : List ℕ) → length bytes ≡ len → LoadsRange has_noted r off len bytes p q → DidLines has_noted t (load_line r off len ∷ []) (loaded bytes ∷ []) p q
      did_load len bytes long by =
          did_by (load_line r off len) (loaded bytes) (loads (pieces_of p.page_size r off len) bytes) [] same (long, ap (λ z. loads (pieces_of z r off len) bytes) shaped.page_size) refl
          (λ older made stands. open_is t gs p shaped agree older stands r off len known by.0) by.1

      pub did_store : (bytes : List ℕ) → SavesRange has_noted r off bytes p q → DidLines has_noted t (store_line r off bytes ∷ []) (ok ∷ []) p q
      did_store bytes by =
          did_by (store_line r off bytes) ok (saves (pieces_of p.page_size r off (length bytes)) bytes) [] same (ap (λ z. saves (pieces_of z r off (length bytes)) bytes) shaped.page_size) refl
          (λ older made stands. open_is t gs p shaped agree older stands r off (length bytes) known by.0) by.1

      -- where an access of the range ended, by what the stripes stand for
      finds : (done : ℕ) (older : ℕ → List Entry) → StandsBy p older → IsOpenRange p r off done → closes_there p r (off + done) ≡ true → FindsClosing t older r off done
      finds done older stands before shut = record {
        before = open_is t gs p shaped agree older stands r off done known before;
        closes = sym (closes_is t gs p shaped agree older stands r (off + done) known) ∙ shut;
      }

      faults_in : (done : ℕ) (k : Key) (older : ℕ → List Entry) → StandsBy p older → IsOpenRange p r off done → closes_there p r (off + done) ≡ false → stripe_at p k ≡ stripe_at p (piece_key p.page_size r (off + done)) → FaultsInOpen t older r off done k
      faults_in done k older stands before open_ stripe = record {
        stays = open_is t gs p shaped agree older stands r off (done + 1) known (λ i lt. elim (cases_lt i done) [
          | inl below ↦ before i below
          | inr top ↦ subst (λ n. closes_there p r (off + n) ≡ false) (omega (arith, lt, top)) open_
        ]);
        stripe = sym (stripe_is t gs p shaped k) ∙ stripe ∙ stripe_is t gs p shaped (piece_key p.page_size r (off + done)) ∙ ap (λ z. stripe_in t (piece_key z r (off + done))) shaped.page_size;
      }

      pub did_load_end : (len : ℕ) (e : AccessEnd) (x : LoadEnds has_noted r off len p q e) → DidLines has_noted t (load_line r off len ∷ []) (end_reply x.0 e ∷ []) p q
      did_load_end len Unmapped x =
          let b : AreBefore (pieces_of t.page_size r off len) x.0 x.3.pieces = subst (λ z. AreBefore (pieces_of z r off len) x.0 x.3.pieces) shaped.page_size x.3.before in
          did_by (load_line r off len) (unmapped x.0) (loads x.3.pieces x.1) [] same (x.3.pieces, x.1, b, x.2, refl) refl
          (λ older made stands. finds x.0 older stands x.3.open_ x.3.ends.0) x.3.ends.1
      did_load_end len (Fault f) x =
          let y = x.3.ends in
          let b : AreBefore (pieces_of t.page_size r off len) x.0 x.3.pieces = subst (λ z. AreBefore (pieces_of z r off len) x.0 x.3.pieces) shaped.page_size x.3.before in
          did_by (load_line r off len) (fault f.key f.faults x.0) (loads x.3.pieces x.1) (y.failure ∷ []) same (x.3.pieces, x.1, b, x.2, refl)
          (y.failure, refl, subst (λ z. Fails (piece_key z r (off + x.0)) f.key f.faults y.failure) shaped.page_size y.fails)
          (λ older made stands. faults_in x.0 f.key older stands x.3.open_ y.open_ y.at.stripe) y.goes

      pub did_store_end : (bytes : List ℕ) (e : AccessEnd) (x : StoreEnds has_noted r off bytes p q e) → DidLines has_noted t (store_line r off bytes ∷ []) (end_reply x.0 e ∷ []) p q
      did_store_end bytes Unmapped x =
          let b : AreBefore (pieces_of t.page_size r off (length bytes)) x.0 x.1.pieces = subst (λ z. AreBefore (pieces_of z r off (length bytes)) x.0 x.1.pieces) shaped.page_size x.1.before in
          did_by (store_line r off bytes) (unmapped x.0) (saves x.1.pieces bytes) [] same (x.1.pieces, b, refl) refl
          (λ older made stands. finds x.0 older stands x.1.open_ x.1.ends.0) x.1.ends.1
      did_store_end bytes (Fault f) x =
          let y = x.1.ends in
          let b : AreBefore (pieces_of t.page_size r off (length bytes)) x.0 x.1.pieces = subst (λ z. AreBefore (pieces_of z r off (length bytes)) x.0 x.1.pieces) shaped.page_size x.1.before in
          did_by (store_line r off bytes) (fault f.key f.faults x.0) (saves x.1.pieces bytes) (y.failure ∷ []) same (x.1.pieces, b, refl)
          (y.failure, refl, subst (λ z. Fails (piece_key z r (off + x.0)) f.key f.faults y.failure) shaped.page_size y.fails)
          (λ older made stands. faults_in x.0 f.key older stands x.1.open_ y.open_ y.at.stripe) y.goes

    -- a fault that ended an access names a region that is there
    pub end_known : {may : Entry → Bool} {access : Key → ℕ → List ℕ → Entry} (r off len : ℕ) (bytes : List ℕ) (done : ℕ) (e : AccessEnd) → RangeEnds has_noted may access r off len bytes done e p q → IsKnownEnd (length gs) e
    end_known r off len bytes done Unmapped x = tt
    end_known r off len bytes done (Fault f) x = key_known f.key x.ends.at.page

    pub error_known : (r : ℕ) (e : UnmapError) → EndsUnmap 0 has_noted r p q e → IsKnownError (length gs) e
    error_known r unmap_error.Unmapped x = tt
    error_known r (unmap_error.Fault f) x = key_known f.key x.page

    -- ---- flushes and unmappings

    pub did_flush : IsSame p q → EachDid 0 has_noted WritesAll p.stripes q.stripes → DidLines has_noted t (flush_line ∷ []) (ok ∷ []) p q
    did_flush same each = flush_did has_noted agree t gs p q shaped (stays_same p q same) each

    pub did_flush_fault : (f : PageFault) → IsSame p q → FlushFails 0 has_noted p q f → DidLines has_noted t (flush_line ∷ []) (fault f.key f.faults 0 ∷ []) p q
    did_flush_fault f same x = flush_failed has_noted agree t gs p q shaped (stays_same p q same) f x

    pub did_unmap : (r : ℕ) → r < length gs → ClosesOnly r p q → UnmapsEach 0 has_noted r p q → DidLines has_noted t (unmap_line r ∷ []) (ok ∷ []) p q
    did_unmap r known same u = unmap_did has_noted agree t gs p q shaped (stays_closing r p q same) r known u

    pub did_unmap_end : (r : ℕ) → r < length gs → (e : UnmapError) → ClosesOnly r p q → EndsUnmap 0 has_noted r p q e → DidLines has_noted t (unmap_line r ∷ []) (unmap_reply e ∷ []) p q
    did_unmap_end r known unmap_error.Unmapped same x = unmapped_did has_noted agree t gs p q shaped (stays_closing r p q same) r known x.0 x.1
    did_unmap_end r known (unmap_error.Fault f) same x = unmap_failed has_noted agree t gs p q shaped (stays_closing r p q same) r known f x

-- ---- lines that ran

-- a flag that stays, or is set
pub or_false : (x : Bool) → x ≡ (x || false)
or_false true = refl
or_false false = refl

pub or_true : (x : Bool) → true ≡ (x || true)
or_true true = refl
or_true false = refl

-- a reply to an access that ended shows no bytes
end_shows : (done : ℕ) (e : AccessEnd) → bytes_shown (end_reply done e) ≡ []
end_shows done Unmapped = refl
end_shows done (Fault f) = refl

error_shows : (e : UnmapError) → bytes_shown (unmap_reply e) ≡ []
error_shows unmap_error.Unmapped = refl
error_shows (unmap_error.Fault f) = refl

module _ {J : Type 0} (has_noted : J → History Entry → Type 0) (t : Spread) (gs : List Region) where
  -- a reply that shows no bytes
  pub ran_silent : (l : Line) (a : Reply) (r0 r1 : Replies) (p q : PagerSeen J) → bytes_shown a ≡ [] → r1.text.items ≡ r0.text.items ++ reply_text gs a → r0.text.spare ≤ r1.text.spare + room gs l → r1.loaded ≡ r0.loaded → r1.sum ≡ r0.sum → r1.faulted ≡ (r0.faulted || is_fault_reply a)
      → q.spent ≤ p.spent + 65536 * command_count (l ∷ []) → DidLines has_noted t (l ∷ []) (a ∷ []) p q → Ran has_noted t gs (l ∷ []) r0 r1 p q
  ran_silent l a r0 r1 p q none text spare count total flag few did =
      ran_one has_noted t gs l a r0 r1 p q text spare (omega (arith, count, ap length none)) (omega (arith, total, ap sum none)) (omega (arith, ap length none)) flag few did

  pub ran_end : (l : Line) (done : ℕ) (e : AccessEnd) (r0 r1 : Replies) (p q : PagerSeen J) → r1.text.items ≡ r0.text.items ++ reply_text gs (end_reply done e) → r0.text.spare ≤ r1.text.spare + room gs l → r1.loaded ≡ r0.loaded → r1.sum ≡ r0.sum → r1.faulted ≡ (r0.faulted || is_fault_reply (end_reply done e))
      → q.spent ≤ p.spent + 65536 * command_count (l ∷ []) → DidLines has_noted t (l ∷ []) (end_reply done e ∷ []) p q → Ran has_noted t gs (l ∷ []) r0 r1 p q
  ran_end l done e r0 r1 p q text spare count total flag few did = ran_silent l (end_reply done e) r0 r1 p q (end_shows done e) text spare count total flag few did

  pub ran_error : (l : Line) (e : UnmapError) (r0 r1 : Replies) (p q : PagerSeen J) → r1.text.items ≡ r0.text.items ++ reply_text gs (unmap_reply e) → r0.text.spare ≤ r1.text.spare + room gs l → r1.loaded ≡ r0.loaded → r1.sum ≡ r0.sum → r1.faulted ≡ (r0.faulted || is_fault_reply (unmap_reply e))
      → q.spent ≤ p.spent + 65536 * command_count (l ∷ []) → DidLines has_noted t (l ∷ []) (unmap_reply e ∷ []) p q → Ran has_noted t gs (l ∷ []) r0 r1 p q
  ran_error l e r0 r1 p q text spare count total flag few did = ran_silent l (unmap_reply e) r0 r1 p q (error_shows e) text spare count total flag few did

  pub ran_script : (name : List ℕ) (r0 r1 : Replies) (p : PagerSeen J) → r1.text.items ≡ r0.text.items ++ (codes "script " ++ (name ++ 10 ∷ [])) → r0.text.spare ≤ r1.text.spare + (length name + 8) → r1.loaded ≡ r0.loaded → r1.sum ≡ r0.sum → r1.faulted ≡ r0.faulted
      → Ran has_noted t gs (script_line name ∷ []) r0 r1 p p
  ran_script name r0 r1 p text spare count total flag =
      ran_silent (script_line name) (begun name) r0 r1 p p refl text spare count total (flag ∙ or_false r0.faulted) (omega arith)
      (did_nothing has_noted t (script_line name) (begun name) p refl refl (λ older. refl))
