-- Which pages a fault may name: those of failed reads, and pages that were raised for a store.
use Rattle.std.proofs.Common.{◌≡◌, ◌⊎◌, inl, inr, ℕ, ◌+◌, ◌*◌, ◌/◌, ◌<◌, ◌≤◌, ◌==◌, ◌&&◌, ◌||◌, nat_lt, Bool, true, false, cond, List, [], ◌∷◌, ◌++◌, length, Option, Some, None, refl, sym, ap, subst, ◌∙◌, arith, append_assoc}
use Rattle.std.specs.List.{list_all, list_any}
use Rattle.std.specs.Bool.{beq}
use Rattle.std.proofs.lemmas.Bool.{and_parts, or_cases, or_right, eqb-true, eq-eqb, ltb-true}
use Rattle.std.proofs.lemmas.Nat.{mod_below}
use Rattle.histories.specs.Histories.{History, by}
use Rattle.page_base.specs.Pages.{same}
use Rattle.page_base.specs.declared.keys.Key.{Key}
use Rattle.page_base.specs.declared.keys.Piece.{Piece}
use Rattle.page_base.specs.declared.keys.Why.{Why}
use Rattle.page_base.specs.declared.keys.Why.TheVariants.{Read, Write, Protected, Ahead}
use Rattle.page_model.specs.declared.entry.Entry.{Entry}
use Rattle.page_model.specs.declared.entry.Entry.TheVariants.{Raised, StartRead, StartWrite, Filled, ReadFailed, WriteFailed, Written}
use Rattle.page_model.specs.Entries.{key_of, is_fault, lies_in, of_stripe}
use Rattle.page_model.specs.Faults.{is_write, is_protected_why}
use Rattle.page_model.specs.InFlight.{InFlight, in_flight, is_own}
use Rattle.page_model.specs.Laws.{DirtyIsRaised, raises_for_store}
use Rattle.page_model.specs.Legal.{IsLegal, MayFollow}
use Rattle.page_model.specs.Setups.{Setup}
use Rattle.region_table.specs.Covers.{IsNext, PiecesFollow}
use Rattle.workload_text.specs.Line.{Line, load_line, store_line, flush_line, unmap_line}
use Rattle.flat_lines.specs.Spreads.{Spread, stripe_in, piece_key}
use Rattle.script_run.specs.FitsSerial.{StoresTo, AnyStoresTo, EndsAt, Names}
use Rattle.script_run.specs.LineEntries.{stores_to, may_make, Fails, Makes, AllMake}
use Rattle.script_run.specs.Replies.{Reply, unmapped, fault}
use Rattle.page_model.specs.Pieces.{AreBefore}
use Rattle.region_table.specs.Pieces.{pieces_of}
use Rattle.script_run.proofs.Allowed.{same_key}
use Rattle.script_run.proofs.DidLines.{IsFailure, failure_is}
use Rattle.script_run.proofs.Ranged.{border_is}

pub legal_tail : (u : Setup) (xs ys : List Entry) → IsLegal u (by 0 (xs ++ ys)) → IsLegal u (by 0 ys)
legal_tail u [] ys l = l
legal_tail u (x ∷ xs) ys l = legal_tail u xs ys l.0

pub make_tail : (t : Spread) (s : ℕ) (u : Setup) (ls : List Line) (replies : List Reply) (behind all : ℕ → List Entry) → AllMake t ls replies behind all → IsLegal u (by 0 (all s)) → IsLegal u (by 0 (behind s))
make_tail t s u [] [] behind all m l = subst (λ es. IsLegal u (by 0 es)) (m s) l
make_tail t s u [] (a ∷ more) behind all m l = absurd m
make_tail t s u (x ∷ ls) [] behind all m l = absurd m
make_tail t s u (x ∷ ls) (a ∷ more) behind all m l = legal_tail u (m.0 s) (behind s) (make_tail t s u ls more (λ n. m.0 n ++ behind n) all m.2 l)

-- a stripe where a line's failure lies made it last
pub failed_last : (t : Spread) (l : Line) (a : Reply) (made : ℕ → List Entry) (behind : ℕ → List Entry) (m : Makes t l a behind made) (e : Entry) (s : ℕ) → m.failure ≡ e ∷ [] → lies_in (stripe_in t) s (key_of e) ≡ true → made s ≡ e ∷ m.in_order.served s
failed_last t l a made behind m e s is at = m.in_order.made_are s ∙ ap (λ xs. of_stripe (stripe_in t) s xs ++ m.in_order.served s) is ∙ ap (λ b. cond b (e ∷ []) [] ++ m.in_order.served s) at

-- ---- a write that fails is of a page that was raised for a store

abbrev was_raised : Key → History Entry → Bool
was_raised k h = list_any (raises_for_store k) h

not_ended : (b : Bool) (o : Option InFlight) (t : InFlight) → cond b None o ≡ Some t → o ≡ Some t
not_ended true o t e = absurd cc
not_ended false o t e = e

module _ (law : DirtyIsRaised) (u : Setup) where
  writing_raised : (h : History Entry) (r : ℕ) (t : InFlight) → IsLegal u h → in_flight h r ≡ Some t → t.writes ≡ true → was_raised t.key h ≡ true
  writing_raised [] r t l e w = absurd cc
  writing_raised ((o, StartRead k) ∷ h) r t l e w = go (k.region == r) e (λ f. writing_raised h r t l.0 f w)
    where
      go : (b : Bool) → cond b (Some (record { before = h; owner = o; key = k; writes = false })) (in_flight h r) ≡ Some t → (in_flight h r ≡ Some t → was_raised t.key h ≡ true) → was_raised t.key h ≡ true
      go true f rest = absurd (let no : false ≡ true = (let its : false ≡ t.writes = cc in its) ∙ w in cc)
      go false f rest = rest f
  writing_raised ((o, StartWrite k why) ∷ h) r t l e w = go (k.region == r) e (λ f. writing_raised h r t l.0 f w)
    where
      go : (b : Bool) → cond b (Some (record { before = h; owner = o; key = k; writes = true })) (in_flight h r) ≡ Some t → (in_flight h r ≡ Some t → was_raised t.key h ≡ true) → was_raised t.key h ≡ true
      go true f rest = subst (λ (j : Key). was_raised j h ≡ true) (let its : k ≡ t.key = cc in its) (law.raised u h k l.0 l.2.dirty)
      go false f rest = rest f
  writing_raised ((o, Filled k) ∷ h) r t l e w = writing_raised h r t l.0 (not_ended (k.region == r) (in_flight h r) t e) w
  writing_raised ((o, ReadFailed k n) ∷ h) r t l e w = writing_raised h r t l.0 (not_ended (k.region == r) (in_flight h r) t e) w
  writing_raised ((o, Written k at bytes) ∷ h) r t l e w = writing_raised h r t l.0 (not_ended (k.region == r) (in_flight h r) t e) w
  writing_raised ((o, WriteFailed k n) ∷ h) r t l e w = writing_raised h r t l.0 (not_ended (k.region == r) (in_flight h r) t e) w
  writing_raised ((o, x) ∷ h) r t l e w = or_right (raises_for_store t.key (o, x)) (was_raised t.key h) (writing_raised h r t l.0 e w)

  own_raised : (h : History Entry) (k : Key) (o : Option InFlight) → IsLegal u h → in_flight h k.region ≡ o → is_own o 0 k true ≡ true → was_raised k h ≡ true
  own_raised h k None l e own = absurd cc
  own_raised h k (Some t) l e own =
      let one = and_parts (t.owner == 0) (same t.key k && beq t.writes true) own in
      let two = and_parts (same t.key k) (beq t.writes true) one.1 in
      subst (λ (j : Key). was_raised j h ≡ true) (same_key t.key k two.0) (writing_raised h k.region t l e (is_true t.writes two.1))
    where
      is_true : (b : Bool) → beq b true ≡ true → b ≡ true
      is_true true e = refl
      is_true false e = absurd cc

  failed_raised : (h : History Entry) (k : Key) (n : ℕ) → IsLegal u h → MayFollow u h 0 (WriteFailed k n) → was_raised k h ≡ true
  failed_raised h k n l m = own_raised h k (in_flight h k.region) l refl m.0

-- ---- what lines raised for a store they store to

stores_is : (z : ℕ) (k : Key) (l : Line) → stores_to z l k ≡ true → StoresTo z k l
stores_is z k (store_line r off bytes) t =
    let a = and_parts (k.region == r) (nat_lt off (k.page * z + z) && nat_lt (k.page * z) (off + length bytes)) t in
    let b = and_parts (nat_lt off (k.page * z + z)) (nat_lt (k.page * z) (off + length bytes)) a.1 in
    (eqb-true k.region r a.0, ltb-true off (k.page * z + z) b.0, ltb-true (k.page * z) (off + length bytes) b.1)
stores_is z k l t = absurd cc

raise_of : (z : ℕ) (l : Line) (k : Key) (e : Entry) → raises_for_store k (0, e) ≡ true → may_make z l e ≡ true → stores_to z l k ≡ true
raise_of z l k (Raised j why) r m =
    let both = and_parts (same j k) (is_write why || is_protected_why why) r in
    ap (λ (i : Key). stores_to z l i) (sym (same_key j k both.0)) ∙ go why both.1 m
  where
    go : (why : Why) → (is_write why || is_protected_why why) ≡ true → may_make z l (Raised j why) ≡ true → stores_to z l j ≡ true
    go Write r m = m
    go Protected r m = m
    go Read r m = absurd cc
    go Ahead r m = absurd cc
raise_of z l k e r m = absurd cc

served_raised : (z : ℕ) (l : Line) (k : Key) (served behind : List Entry) → list_all (may_make z l) served ≡ true → was_raised k (by 0 (served ++ behind)) ≡ true → (stores_to z l k ≡ true) ⊎ (was_raised k (by 0 behind) ≡ true)
served_raised z l k [] behind all r = inr r
served_raised z l k (e ∷ es) behind all r =
    let both = and_parts (may_make z l e) (list_all (may_make z l) es) all in
    elim (or_cases (raises_for_store k (0, e)) (was_raised k (by 0 (es ++ behind))) r) [
      | inl here ↦ inl (raise_of z l k e here both.0)
      | inr there ↦ served_raised z l k es behind both.1 there
    ]

-- a failure raises nothing
failure_raises : (k : Key) (stripe : Key → ℕ) (s : ℕ) (failure rest : List Entry) → IsFailure failure → was_raised k (by 0 (of_stripe stripe s failure ++ rest)) ≡ true → was_raised k (by 0 rest) ≡ true
failure_raises k stripe s failure rest (inl none) r = subst (λ es. was_raised k (by 0 (of_stripe stripe s es ++ rest)) ≡ true) none r
failure_raises k stripe s failure rest (inr x) r = one x.0 (lies_in stripe s (key_of x.0)) x.2 (subst (λ es. was_raised k (by 0 (of_stripe stripe s es ++ rest)) ≡ true) x.1 r)
  where
    one : (e : Entry) (b : Bool) → is_fault e ≡ true → was_raised k (by 0 (cond b (e ∷ []) [] ++ rest)) ≡ true → was_raised k (by 0 rest) ≡ true
    one (ReadFailed j n) true f r = r
    one (WriteFailed j n) true f r = r
    one e false f r = r
    one e b f r = absurd cc

-- each page that was raised for a store is stored to by one of these lines
abbrev pub RaisedAreStored : ℕ → List Line → (ℕ → List Entry) → Type 0
RaisedAreStored z lines es = (s : ℕ) (k : Key) → was_raised k (by 0 (es s)) ≡ true → AnyStoresTo z lines k

module _ (t : Spread) (l : Line) (a : Reply) (before : List Line) (made behind : ℕ → List Entry) (m : Makes t l a behind made) (stored : RaisedAreStored t.page_size before behind) where
  served_stored : (s : ℕ) (k : Key) → was_raised k (by 0 (m.in_order.served s ++ behind s)) ≡ true → AnyStoresTo t.page_size (l ∷ before) k
  served_stored s k r = elim (served_raised t.page_size l k (m.in_order.served s) (behind s) (m.in_order.serve s) r) [
    | inl here ↦ inl (stores_is t.page_size k l here)
    | inr there ↦ inr (stored s k there)
  ]

  more_stored : RaisedAreStored t.page_size (l ∷ before) (λ s. made s ++ behind s)
  more_stored s k r =
      let split : made s ++ behind s ≡ of_stripe (stripe_in t) s m.failure ++ (m.in_order.served s ++ behind s) = ap (λ es. es ++ behind s) (m.in_order.made_are s) ∙ append_assoc (of_stripe (stripe_in t) s m.failure) (m.in_order.served s) (behind s) in
      served_stored s k (failure_raises k (stripe_in t) s m.failure (m.in_order.served s ++ behind s) (failure_is t l a m.failure m.failure_is) (subst (λ es. was_raised k (by 0 es) ≡ true) split r))

-- ---- where lines end

-- where a load or a store ends, and which page a fault names
abbrev pub EndsWell : Spread → (lines : List Line) → Line → Reply → Type 0
EndsWell t lines (load_line r off len) (unmapped done) = EndsAt t.page_size off len done
EndsWell t lines (load_line r off len) (fault k count done) = EndsAt t.page_size off len done × Names t lines r (off + done) k
EndsWell t lines (store_line r off bytes) (unmapped done) = EndsAt t.page_size off (length bytes) done
EndsWell t lines (store_line r off bytes) (fault k count done) = EndsAt t.page_size off (length bytes) done × Names t lines r (off + done) k
EndsWell t lines flush_line (fault k count done) = AnyStoresTo t.page_size lines k
EndsWell t lines (unmap_line r) (fault k count done) = AnyStoresTo t.page_size lines k
EndsWell t lines l a = Unit {0}

abbrev pub AllEndWell : Spread → (before : List Line) → List Line → List Reply → Type 0
AllEndWell t before (l ∷ ls) (a ∷ more) = EndsWell t (l ∷ before) l a × AllEndWell t (l ∷ before) ls more
AllEndWell t before ls replies = Unit {0}

module _ (follow : PiecesFollow) (law : DirtyIsRaised) (t : Spread) (some_byte : 1 ≤ t.page_size) (some_stripe : 0 < t.stripes) (setups : ℕ → Setup) where
  ends_at : (r off len done : ℕ) (ps : List Piece) → AreBefore (pieces_of t.page_size r off len) done ps → EndsAt t.page_size off len done
  ends_at r off len done ps before =
      let next : IsNext t.page_size r off len done before.next = follow.next t.page_size r off len done ps before.rest before.next some_byte before.all_are before.bytes in
      record { short = omega (arith, next.short, next.at.some); border = border_is t.page_size r off len done before.next next }

  module _ (l : Line) (a : Reply) (before : List Line) (made behind : ℕ → List Entry) (m : Makes t l a behind made) (legal : (s : ℕ) → s < t.stripes → IsLegal (setups s) (by 0 (made s ++ behind s))) (stored : RaisedAreStored t.page_size before behind) where
    -- a failed write is of a page that was stored to
    write_names : (k : Key) (count : ℕ) → m.failure ≡ WriteFailed k count ∷ [] → AnyStoresTo t.page_size (l ∷ before) k
    write_names k count is =
        let s : ℕ = stripe_in t k in
        let made_is = failed_last t l a made behind m (WriteFailed k count) s is (eq-eqb (stripe_in t k) (stripe_in t k) refl) in
        let last : IsLegal (setups s) (by 0 (WriteFailed k count ∷ (m.in_order.served s ++ behind s))) = subst (λ es. IsLegal (setups s) (by 0 (es ++ behind s))) made_is (legal s (mod_below (k.region + k.page / t.group_of k.region) t.stripes some_stripe)) in
        served_stored t l a before made behind m stored s k (failed_raised law (setups s) (by 0 (m.in_order.served s ++ behind s)) k count last.0 last.2)

    fault_names : (r at : ℕ) (k : Key) (count : ℕ) (e : Entry) → m.failure ≡ e ∷ [] → Fails (piece_key t.page_size r at) k count e → stripe_in t k ≡ stripe_in t (piece_key t.page_size r at) → Names t (l ∷ before) r at k
    fault_names r at k count e is (inl read) stripe = inl read.0
    fault_names r at k count e is (inr write) stripe = inr (stripe, write_names k count (is ∙ ap (λ x. x ∷ []) write))

  ends_one : (l : Line) (a : Reply) (before : List Line) (made behind : ℕ → List Entry) → Makes t l a behind made → ((s : ℕ) → s < t.stripes → IsLegal (setups s) (by 0 (made s ++ behind s))) → RaisedAreStored t.page_size before behind → EndsWell t (l ∷ before) l a
  ends_one (load_line r off len) (unmapped done) before made behind m legal stored = let acc = m.accesses_are in ends_at r off len done acc.0 acc.2
  ends_one (load_line r off len) (fault k count done) before made behind m legal stored =
      let f = m.failure_is in
      let acc = m.accesses_are in
      (ends_at r off len done acc.0 acc.2, fault_names (load_line r off len) (fault k count done) before made behind m legal stored r (off + done) k count f.0 f.1 f.2 m.goes.stripe)
  ends_one (store_line r off bytes) (unmapped done) before made behind m legal stored = let acc = m.accesses_are in ends_at r off (length bytes) done acc.0 acc.1
  ends_one (store_line r off bytes) (fault k count done) before made behind m legal stored =
      let f = m.failure_is in
      let acc = m.accesses_are in
      (ends_at r off (length bytes) done acc.0 acc.1, fault_names (store_line r off bytes) (fault k count done) before made behind m legal stored r (off + done) k count f.0 f.1 f.2 m.goes.stripe)
  ends_one flush_line (fault k count done) before made behind m legal stored = write_names flush_line (fault k count done) before made behind m legal stored k count m.failure_is
  ends_one (unmap_line r) (fault k count done) before made behind m legal stored = write_names (unmap_line r) (fault k count done) before made behind m legal stored k count m.failure_is
  ends_one l a before made behind m legal stored = tt

  pub all_end : (before ls : List Line) (replies : List Reply) (behind all : ℕ → List Entry) → AllMake t ls replies behind all → ((s : ℕ) → s < t.stripes → IsLegal (setups s) (by 0 (all s))) → RaisedAreStored t.page_size before behind → AllEndWell t before ls replies
  all_end before [] [] behind all m legal stored = tt
  all_end before [] (a ∷ more) behind all m legal stored = absurd m
  all_end before (l ∷ ls) [] behind all m legal stored = absurd m
  all_end before (l ∷ ls) (a ∷ more) behind all m legal stored = (
    ends_one l a before m.0 behind m.1 (λ s below. make_tail t s (setups s) ls more (λ n. m.0 n ++ behind n) all m.2 (legal s below)) stored,
    all_end (l ∷ before) ls more (λ n. m.0 n ++ behind n) all m.2 legal (more_stored t l a before m.0 behind m.1 stored),
  )
