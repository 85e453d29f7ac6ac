-- A walk over a stripe, hold by hold and turn by turn.
use Rattle.std.proofs.Common.{◌≡◌, ℕ, suc, ◌+◌, ◌<◌, ◌≤◌, ◌&&◌, ◌||◌, ◌==◌, Bool, true, false, List, [], ◌∷◌, ◌++◌, length, length-append, append_assoc, append-nil, Option, Some, None, is_none, refl, sym, subst, ap, ◌∙◌, arith, cond}
use Rattle.std.specs.List.{list_all}
use Rattle.std.proofs.lemmas.Bool.{and_from}
use Rattle.std.proofs.lemmas.List.Folds.{list_all-append}
use Rattle.histories.specs.Histories.{History, by, GoesOn, Grew, Alone, IsNew}
use Rattle.page_base.specs.KeyOrder.{is_below, is_past}
use Rattle.page_base.specs.Laws.{KeysAreOrdered}
use Rattle.page_base.specs.declared.keys.Key.{Key}
use Rattle.page_model.specs.declared.entry.Cause.{Cause}
use Rattle.page_model.specs.declared.entry.Cause.TheVariants.{Flush, Unmap}
use Rattle.page_model.specs.declared.entry.Entry.{Entry}
use Rattle.page_model.specs.declared.entry.Entry.TheVariants as entry
use Rattle.page_model.specs.Closings.{is_unmapped}
use Rattle.page_model.specs.Core as core
use Rattle.page_model.specs.Core.{Core}
use Rattle.page_model.specs.Flushed.{IsFlushed, is_page_covered}
use Rattle.page_model.specs.InFlight.{InFlight, in_flight, is_home}
use Rattle.page_model.specs.Laws.{FlushLaws}
use Rattle.page_model.specs.Readers.{FlushKnows, IsNextToFlush}
use Rattle.page_model.specs.Setups.{Setup, has_page}
use Rattle.page_model.specs.Stands.{StandsFor}
use Rattle.page_model.specs.Trips.{Trip}
use Rattle.turn_lock.specs.Seen.{PassSeen}
use Rattle.locked_stripe.specs.Calls.{AllHome}
use Rattle.locked_stripe.specs.Holds.{PassGrew}
use Rattle.locked_stripe.specs.InsideHolds.{OneHold}
use Rattle.locked_stripe.specs.InsideLaws.{PagerLaws}
use Rattle.locked_stripe.specs.declared.answers.FlushRest.{FlushRest}
use Rattle.locked_stripe.specs.declared.answers.FlushRest.TheVariants as rest
use Rattle.locked_stripe.specs.declared.answers.FlushTurn.TheVariants as turn
use Rattle.locked_stripe.specs.InsideWalks.{CoversRest, CoversUpTo, FlushRests, FlushTurns, IsCovered, IsNextTrip, rested}
use Rattle.locked_stripe.specs.Walks.{FlushWent, WalkFailed, WalkWent, flushes}
use Rattle.locked_stripe.specs.WholeTrips.{trips_are_whole}
use Rattle.locked_stripe.proofs.Goes.{alone_parts, grew_both, grew_once, grew_none, goes_grown, goes_past, goes_through}

-- ---- walks

module _ {T : Type 0} (laws : PagerLaws) where
  pub walk_none : (may : Entry → Bool) (p : PassSeen T Entry) → p.inside ≡ false → WalkWent may [] 0 p p
  walk_none may p out = record {
    times = 0;
    own = [];
    well = [];
    grew = grew_none laws p out;
    own_are = refl;
    kinds = refl;
    whole = refl;
    bound = λ a home. (omega arith, home);
  }

  -- what a call that grew so did, where its entries leave every lane home
  pub walk_is : (may : Entry → Bool) (failed well own : List Entry) (last times : ℕ) (old new : PassSeen T Entry) → PassGrew old new times own → own ≡ failed ++ well → list_all may well ≡ true
      → trips_are_whole own ≡ true → ((h : History Entry) → AllHome h → AllHome (by old.number own ++ h)) → (Alone old.number old.seen new.seen → AllHome old.seen → times ≤ length own + last) → WalkWent may failed last old new
  walk_is may failed well own last times old new grew are kinds whole homes few = record {
    times = times;
    own = own;
    well = well;
    grew = grew;
    own_are = are;
    kinds = kinds;
    whole = whole;
    bound = λ a home. (few a home, subst AllHome (sym (laws.alone.own old.number old.seen new.seen own grew.seen a)) (homes old.seen home));
  }

  -- one hold, of at most one entry
  pub walk_once : (may : Entry → Bool) (own : List Entry) (last : ℕ) (old new : PassSeen T Entry) (h : History Entry) → OneHold old new h own → list_all may own ≡ true → trips_are_whole own ≡ true
      → ((g : History Entry) → AllHome g → AllHome (by old.number own ++ g)) → (AllHome h → 1 ≤ length own + last) → WalkWent may [] last old new
  walk_once may own last old new h w kinds whole homes some = walk_is may [] own own last 1 old new (grew_once laws old new h own w) refl kinds whole homes few
    where
      few : Alone old.number old.seen new.seen → AllHome old.seen → 1 ≤ length own + last
      few a home =
          let found : h ≡ old.seen = laws.alone.same old.number old.seen h w.others (alone_parts laws old.number old.seen h new.seen (w.others.later, w.others.is) (goes_past laws old new h own w) a).first in
          some (subst AllHome (sym found) home)

  -- two holds, of an entry each
  pub walk_twice : (may : Entry → Bool) (failed well : List Entry) (e f : Entry) (old mid new : PassSeen T Entry) (h g : History Entry) → OneHold old mid h (e ∷ []) → OneHold mid new g (f ∷ []) → f ∷ e ∷ [] ≡ failed ++ well
      → list_all may well ≡ true → trips_are_whole (f ∷ e ∷ []) ≡ true → ((z : History Entry) → AllHome z → AllHome (by old.number (f ∷ e ∷ []) ++ z)) → WalkWent may failed 0 old new
  walk_twice may failed well e f old mid new h g a b are kinds whole homes =
      walk_is may failed well (f ∷ e ∷ []) 0 2 old new (grew_both laws old mid new 1 1 (e ∷ []) (f ∷ []) (grew_once laws old mid h (e ∷ []) a) (grew_once laws mid new g (f ∷ []) b)) are kinds whole homes (λ x y. omega arith)

  pub walk_goes : (may : Entry → Bool) (failed : List Entry) (last : ℕ) (old new : PassSeen T Entry) → WalkWent may failed last old new → GoesOn old.seen new.seen
  walk_goes may failed last old new w = goes_grown laws old new w.times w.own w.grew

  pub walk_number : (may : Entry → Bool) (failed : List Entry) (last : ℕ) (old new : PassSeen T Entry) → WalkWent may failed last old new → new.number ≡ old.number
  walk_number may failed last old new w = ap (λ (p : PassSeen T Entry). p.number) w.grew.after

  -- one walk after another
  pub walk_both : (may : Entry → Bool) (failed : List Entry) (last : ℕ) (old mid new : PassSeen T Entry) → WalkWent may [] 0 old mid → WalkWent may failed last mid new → WalkWent may failed last old new
  walk_both may failed last old mid new a b = record {
    times = a.times + b.times;
    own = b.own ++ a.own;
    well = b.well ++ a.well;
    grew = grew_both laws old mid new a.times b.times a.own b.own a.grew b.grew;
    own_are = ap (λ (x : List Entry). x ++ a.own) b.own_are ∙ (ap (λ (x : List Entry). (failed ++ b.well) ++ x) a.own_are ∙ append_assoc failed b.well a.well);
    kinds = list_all-append may b.well a.well ∙ and_from (list_all may b.well) (list_all may a.well) b.kinds a.kinds;
    whole = laws.whole.both b.own a.own b.whole a.whole;
    bound = λ x home.
        let parts = alone_parts laws old.number old.seen mid.seen new.seen (walk_goes may [] 0 old mid a) (walk_goes may failed last mid new b) x in
        let one = a.bound parts.first home in
        let then_ : Alone mid.number mid.seen new.seen = subst (λ (o : ℕ). Alone o mid.seen new.seen) (sym (walk_number may [] 0 old mid a)) parts.second in
        let two = b.bound then_ one.1 in
        let n = length-append b.own a.own in
        let first = one.0 in
        let second = two.0 in
        (omega (arith, first, second, n), two.1);
  }

  -- the write that failed is new
  pub failed_new : (may : Entry → Bool) (u : Setup) (k : Key) (n : ℕ) (old new : PassSeen T Entry) → WalkWent may (entry.WriteFailed k n ∷ []) 0 old new → has_page u k ≡ true → WalkFailed may u k n old new
  failed_new may u k n old new w page = record {
    went = w;
    page = page;
    is_new = laws.grown.newest old.number old.seen new.seen (entry.WriteFailed k n) w.well (subst (λ (es : List Entry). Grew old.number old.seen new.seen es) w.own_are w.grew.seen);
  }

  pub failed_both : (may : Entry → Bool) (u : Setup) (k : Key) (n : ℕ) (old mid new : PassSeen T Entry) → WalkWent may [] 0 old mid → WalkFailed may u k n mid new → WalkFailed may u k n old new
  failed_both may u k n old mid new a b = failed_new may u k n old new (walk_both may (entry.WriteFailed k n ∷ []) 0 old mid new a b.went) b.page

-- ---- what walks made

module _ {T : Type 0} (laws : PagerLaws) where
  pub none_own : (may : Entry → Bool) (p : PassSeen T Entry) (out : p.inside ≡ false) → (walk_none laws may p out).own ≡ []
  unfolding walk_none
  none_own may p out = refl

  pub once_own : (may : Entry → Bool) (own : List Entry) (last : ℕ) (old new : PassSeen T Entry) (h : History Entry) (w : OneHold old new h own) (kinds : list_all may own ≡ true) (whole : trips_are_whole own ≡ true)
      (homes : (g : History Entry) → AllHome g → AllHome (by old.number own ++ g)) (some : AllHome h → 1 ≤ length own + last) → (walk_once laws may own last old new h w kinds whole homes some).own ≡ own
  unfolding walk_once walk_is
  once_own may own last old new h w kinds whole homes some = refl

  pub both_own : (may : Entry → Bool) (failed : List Entry) (last : ℕ) (old mid new : PassSeen T Entry) (a : WalkWent may [] 0 old mid) (b : WalkWent may failed last mid new) → (walk_both laws may failed last old mid new a b).own ≡ b.own ++ a.own
  unfolding walk_both
  both_own may failed last old mid new a b = refl

-- ---- lanes

-- a start and its end leave the lane where it was
pair_home : (b : Bool) (t : InFlight) (o : Option InFlight) → is_none o ≡ true → is_none (cond b None (cond b (Some t) o)) ≡ true
pair_home true t o e = refl
pair_home false t o e = e

pub written_homes : (o at : ℕ) (k : Key) (cause : Cause) (bytes : List ℕ) (h : History Entry) → AllHome h → AllHome (by o (entry.Written k at bytes ∷ entry.StartWrite k cause ∷ []) ++ h)
written_homes o at k cause bytes h a = λ r. pair_home (k.region == r) (record { before = h; owner = o; key = k; writes = true }) (in_flight h r) (a r)

pub failed_homes : (o n : ℕ) (k : Key) (cause : Cause) (h : History Entry) → AllHome h → AllHome (by o (entry.WriteFailed k n ∷ entry.StartWrite k cause ∷ []) ++ h)
failed_homes o n k cause h a = λ r. pair_home (k.region == r) (record { before = h; owner = o; key = k; writes = true }) (in_flight h r) (a r)

pub no_entry_homes : (o : ℕ) (h : History Entry) → AllHome h → AllHome (by o [] ++ h)
no_entry_homes o h a = a

pub written_whole : (k : Key) (cause : Cause) (at : ℕ) (bytes : List ℕ) → PagerLaws → trips_are_whole (entry.Written k at bytes ∷ entry.StartWrite k cause ∷ []) ≡ true
written_whole k cause at bytes laws = and_from _ true (laws.keys.self_ k) refl

pub failed_whole : (k : Key) (cause : Cause) (n : ℕ) → PagerLaws → trips_are_whole (entry.WriteFailed k n ∷ entry.StartWrite k cause ∷ []) ≡ true
failed_whole k cause n laws = and_from _ true (laws.keys.self_ k) refl

-- where a lane is out, not every lane is home
pub is_away : (h : History Entry) (c : Core) (r : ℕ) → core.is_home c r ≡ is_home h r → core.is_home c r ≡ false → AllHome h → ⊥
is_away h c r agree away home = let no : false ≡ true = sym away ∙ (agree ∙ home r) in absurd cc

-- ---- what a flush covers

-- where a stripe has no dirty page past one, the stores of all these pages are written back
pub rest_covered : FlushLaws → FlushKnows → (h : History Entry) (c : Core) (after : Option Key) → StandsFor h c → core.next_dirty c after ≡ None → CoversRest h after
rest_covered laws knows h c after st none = record {
  covered = λ k past. record { all = λ seen goes. laws.not_dirty_is_covered h seen c k goes st (knows.none c after k none past) };
}

-- and where a page is the next dirty one, those of the pages between
pub between_covered : FlushLaws → (h : History Entry) (c : Core) (after : Option Key) (key : Key) → StandsFor h c → IsNextToFlush c after key → (k : Key) → is_past after k ≡ true → is_below k key ≡ true → IsCovered h k
between_covered laws h c after key st next k past below = record {
  all = λ seen goes. laws.not_dirty_is_covered h seen c k goes st (clean (core.is_dirty c k) refl);
}
  where
    clean : (b : Bool) → core.is_dirty c k ≡ b → core.is_dirty c k ≡ false
    clean true e = let no : true ≡ false = sym below ∙ next.first k e past in absurd cc
    clean false e = e

module _ {T : Type 0} (laws : PagerLaws) (flush : FlushLaws) where
  -- a look that found nothing to write, or waits, keeps what is covered
  pub looks_covered : (after : Option Key) (old new : PassSeen T Entry) (h : History Entry) → OneHold old new h [] → (seen : History Entry) → GoesOn seen old.seen → CoversUpTo seen old.seen after → CoversUpTo seen new.seen after
  looks_covered after old new h w seen goes c = record {
    covered = λ k upto. flush.stays_covered old.seen new.seen seen k (goes_through laws old new h [] w) (c.covered k upto);
  }

  -- where nothing is left to write, all is flushed
  pub looks_flushed : (after : Option Key) (old new : PassSeen T Entry) (h : History Entry) → OneHold old new h [] → CoversRest h after → (seen : History Entry) → GoesOn seen old.seen → CoversUpTo seen old.seen after → IsFlushed new.seen seen
  looks_flushed after old new h w rest seen goes c = flush.covered_is_flushed new.seen seen (λ k. at k (is_past after k) refl)
    where
      goes_h : GoesOn seen h
      goes_h = laws.order.trans seen old.seen h goes (w.others.later, w.others.is)

      at : (k : Key) (b : Bool) → is_past after k ≡ b → is_page_covered new.seen k seen ≡ true
      at k true e = flush.stays_covered h new.seen seen k (goes_past laws old new h [] w) ((rest.covered k e).all seen goes_h)
      at k false e = flush.stays_covered old.seen new.seen seen k (goes_through laws old new h [] w) (c.covered k e)

  -- a page that was written is covered, and so are those before it
  pub written_covered : KeysAreOrdered → (u : Setup) (after : Option Key) (t : Trip) (bytes : List ℕ) (old mid new : PassSeen T Entry) (h g : History Entry) → OneHold old mid h (entry.StartWrite t.key Flush ∷ []) → IsNextTrip u h after t → OneHold mid new g (entry.Written t.key t.at bytes ∷ [])
      → (seen : History Entry) → GoesOn seen old.seen → CoversUpTo seen old.seen after → CoversUpTo seen new.seen (Some t.key)
  written_covered order u after t bytes old mid new h g a next b seen goes c = record { covered = λ k upto. at k upto (is_below k t.key) refl }
    where
      goes_h : GoesOn seen h
      goes_h = laws.order.trans seen old.seen h goes (a.others.later, a.others.is)

      h_new : GoesOn h new.seen
      h_new = laws.order.trans h mid.seen new.seen (goes_past laws old mid h (entry.StartWrite t.key Flush ∷ []) a) (goes_through laws mid new g (entry.Written t.key t.at bytes ∷ []) b)

      old_new : GoesOn old.seen new.seen
      old_new = laws.order.trans old.seen h new.seen (a.others.later, a.others.is) h_new

      here : is_page_covered new.seen t.key seen ≡ true
      here =
          let most = laws.order.length_ seen h goes_h in
          let at_h = next.at in
          subst (λ (z : History Entry). is_page_covered z t.key seen ≡ true) (sym (ap (λ (p : PassSeen T Entry). p.seen) b.after)) (flush.written_is_covered g seen mid.number t.at t.key bytes (omega (arith, most, at_h)))

      before : (k : Key) (p : Bool) → is_past after k ≡ p → is_below k t.key ≡ true → is_page_covered new.seen k seen ≡ true
      before k true e below = flush.stays_covered h new.seen seen k h_new ((next.between k e below).all seen goes_h)
      before k false e below = flush.stays_covered old.seen new.seen seen k old_new (c.covered k e)

      at : (k : Key) → is_past (Some t.key) k ≡ false → (b : Bool) → is_below k t.key ≡ b → is_page_covered new.seen k seen ≡ true
      at k upto true e = before k (is_past after k) refl e
      at k upto false e = subst (λ (q : Key). is_page_covered new.seen q seen ≡ true) (order.one t.key k upto e) here

-- ---- turns of a flush

pub covers_none : (h : History Entry) → CoversUpTo h h None
covers_none h = record { covered = λ k e. absurd cc }

module _ {T : Type 0} (laws : PagerLaws) (flush : FlushLaws) where
  flush_clean : (u : Setup) (after : Option Key) (old new : PassSeen T Entry) (h : History Entry) → OneHold old new h [] → CoversRest h after → FlushTurns u after old new turn.Done
  flush_clean u after old new h w rest = (
    walk_once laws flushes [] 1 old new h w refl refl (λ g a. a) (λ x. omega arith),
    looks_flushed laws flush after old new h w rest,
  )

  flush_away : (u : Setup) (after : Option Key) (old new : PassSeen T Entry) (h : History Entry) → OneHold old new h [] → (AllHome h → ⊥) → FlushTurns u after old new (turn.Went after)
  flush_away u after old new h w away = (
    walk_once laws flushes [] 0 old new h w refl refl (λ g a. a) (λ x. absurd (away x)),
    looks_covered laws flush after old new h w,
  )

  pub flush_rested : (u : Setup) (after : Option Key) (r : FlushRest) (old new : PassSeen T Entry) → FlushRests after old new r → FlushTurns u after old new (rested after r)
  flush_rested u after rest.Clean old new w = flush_clean u after old new w.0 w.1 w.2
  flush_rested u after rest.Away old new w = flush_away u after old new w.0 w.1 w.2

  pub flush_wrote : KeysAreOrdered → (u : Setup) (after : Option Key) (t : Trip) (bytes : List ℕ) (old mid new : PassSeen T Entry) (h g : History Entry) → OneHold old mid h (entry.StartWrite t.key Flush ∷ []) → IsNextTrip u h after t → OneHold mid new g (entry.Written t.key t.at bytes ∷ []) → FlushTurns u after old new (turn.Went (Some t.key))
  flush_wrote order u after t bytes old mid new h g a next b = (
    walk_twice laws flushes [] (entry.Written t.key t.at bytes ∷ entry.StartWrite t.key Flush ∷ []) (entry.StartWrite t.key Flush) (entry.Written t.key t.at bytes) old mid new h g a b refl refl (written_whole t.key Flush t.at bytes laws) (written_homes old.number t.at t.key Flush bytes),
    written_covered laws flush order u after t bytes old mid new h g a next b,
  )

module _ {T : Type 0} (laws : PagerLaws) where
  pub flush_failed : (u : Setup) (after : Option Key) (t : Trip) (n : ℕ) (old mid new : PassSeen T Entry) (h g : History Entry) → OneHold old mid h (entry.StartWrite t.key Flush ∷ []) → IsNextTrip u h after t → OneHold mid new g (entry.WriteFailed t.key n ∷ []) → FlushTurns u after old new (turn.Failed t.key n)
  flush_failed u after t n old mid new h g a next b =
      failed_new laws flushes u t.key n old new (walk_twice laws flushes (entry.WriteFailed t.key n ∷ []) (entry.StartWrite t.key Flush ∷ []) (entry.StartWrite t.key Flush) (entry.WriteFailed t.key n) old mid new h g a b refl refl (failed_whole t.key Flush n laws) (failed_homes old.number n t.key Flush)) next.page

  pub flush_ended : (u : Setup) (last : Option Key) (old now new : PassSeen T Entry) → WalkWent flushes [] 0 old now → CoversUpTo old.seen now.seen last → FlushTurns u last now new turn.Done → FlushWent old new
  flush_ended u last old now new w c t = record {
    went = walk_both laws flushes [] 1 old now new w t.0;
    flushed = t.1 old.seen (walk_goes laws flushes [] 0 old now w) c;
  }
