-- An access of one piece, turn by turn.
use Rattle.std.proofs.Common.{◌≡◌, ℕ, suc, nat_le, ◌+◌, ◌*◌, ◌<◌, ◌≤◌, ◌&&◌, ◌||◌, Bool, true, false, List, [], ◌∷◌, ◌++◌, length, length-append, Option, Some, None, is_none, refl, sym, subst, ap, ◌∙◌, arith, cond, ◌==◌, ◌⊎◌, inl, inr, append-nil}
use Rattle.std.specs.List.{list_all}
use Rattle.std.proofs.lemmas.Bool.{and_from, and_parts, cases_Bool, eqb-true}
use Rattle.std.proofs.lemmas.List.Folds.{list_all-append}
use Rattle.histories.specs.Histories.{History, by, GoesOn, Grew, Alone, IsNew, HasNew}
use Rattle.page_base.specs.Laws.{SameIsEqual}
use Rattle.page_base.specs.Pages.{same}
use Rattle.page_base.specs.declared.keys.Key.{Key}
use Rattle.page_base.specs.declared.keys.Why.{Why}
use Rattle.page_model.specs.declared.entry.Entry.{Entry}
use Rattle.page_model.specs.declared.entry.Entry.TheVariants as entry
use Rattle.page_model.specs.declared.entry.Cause.TheVariants.{Pressure}
use Rattle.page_model.specs.Closings.{is_closing}
use Rattle.page_model.specs.Entries.{is_access}
use Rattle.page_model.specs.Setups.{Setup}
use Rattle.page_model.specs.Faults.{pending, is_pending}
use Rattle.page_model.specs.InFlight.{InFlight, in_flight, is_home, is_reading, is_read_of}
use Rattle.page_model.specs.StoreFaults.{read_fault}
use Rattle.turn_lock.specs.Seen.{PassSeen}
use Rattle.locked_stripe.specs.declared.answers.Served.{Served}
use Rattle.locked_stripe.specs.declared.answers.Served.TheVariants as served
use Rattle.locked_stripe.specs.declared.answers.Back.{Back}
use Rattle.locked_stripe.specs.declared.answers.Back.TheVariants as back
use Rattle.locked_stripe.specs.declared.answers.Access.{Access}
use Rattle.locked_stripe.specs.declared.answers.Access.TheVariants as access
use Rattle.locked_stripe.specs.Answers.{served_entries, served_holds, back_entries, back_holds}
use Rattle.locked_stripe.specs.Calls.{is_help, is_try, Blames, AllHome, Because, HoldsAreFew, PieceWent, PieceStopped}
use Rattle.locked_stripe.specs.Holds.{PassGrew}
use Rattle.locked_stripe.specs.InsideHolds.{OneHold}
use Rattle.locked_stripe.specs.InsideLaws.{PagerLaws}
use Rattle.locked_stripe.specs.InsideLooks.{raised_by, Waiting, Failing, IsSameFault, IsOtherFault}
use Rattle.locked_stripe.specs.Serves.{ServesOne, MakesRoom}
use Rattle.locked_stripe.specs.WholeTrips.{trips_are_whole}
use Rattle.locked_stripe.specs.InsideCalls.{AdvancesAlone, HelpStopped, Helped, Helps, KeepsFault, TriesPiece, failed_read, failed_write, is_room}
use Rattle.locked_stripe.proofs.Helping.{helps_served, helps_room}
use Rattle.locked_stripe.proofs.Goes.{alone_parts, own_is_new, grew_both, grew_once, grew_none, goes_grown, goes_past, goes_through}

-- ---- kinds

one_help : (k : Key) (reasons : Why → Bool) (e : Entry) → is_help e ≡ true → is_try k reasons e ≡ true
one_help k reasons (entry.Raised j why) a = absurd cc
one_help k reasons (entry.Load j place bytes) a = a
one_help k reasons (entry.Save j place bytes) a = a
one_help k reasons (entry.StartRead j) a = a
one_help k reasons (entry.Filled j) a = a
one_help k reasons (entry.ReadFailed j n) a = a
one_help k reasons (entry.Opened j) a = a
one_help k reasons (entry.Dropped j) a = a
one_help k reasons (entry.StartWrite j why) a = a
one_help k reasons (entry.Written j at bytes) a = a
one_help k reasons (entry.WriteFailed j n) a = a
one_help k reasons (entry.Evicted j why) a = a
one_help k reasons (entry.Hint j answer) a = a
one_help k reasons (entry.Closing r) a = a
one_help k reasons (entry.Unmapped r) a = a

help_tries : (k : Key) (reasons : Why → Bool) (es : List Entry) → list_all is_help es ≡ true → list_all (is_try k reasons) es ≡ true
help_tries k reasons [] a = refl
help_tries k reasons (e ∷ es) a = let x = and_parts (is_help e) (list_all is_help es) a in and_from (is_try k reasons e) (list_all (is_try k reasons) es) (one_help k reasons e x.0) (help_tries k reasons es x.1)

-- a look raises one fault, or none
asks_one : (u : Setup) (h : History Entry) (k : Key) (why : Why) (es : List Entry) → es ≡ raised_by u h k why → (es ≡ []) ⊎ (es ≡ entry.Raised k why ∷ [])
asks_one u h k why es a = at (is_pending h k || is_reading h k) (nat_le u.faults (length (pending h))) a
  where
    at : (b d : Bool) → es ≡ cond b [] (cond d [] (entry.Raised k why ∷ [])) → (es ≡ []) ⊎ (es ≡ entry.Raised k why ∷ [])
    at true d e = inl e
    at false true e = inl e
    at false false e = inr e

asks_try : SameIsEqual → (u : Setup) (h : History Entry) (k : Key) (reasons : Why → Bool) (why : Why) (es : List Entry) → reasons why ≡ true → es ≡ raised_by u h k why → list_all (is_try k reasons) es ≡ true
asks_try keys u h k reasons why es ok a = elim (asks_one u h k why es a) [
  | inl none ↦ rw none refl
  | inr one ↦ rw one (and_from (same k k && reasons why) true (and_from (same k k) (reasons why) (keys.self_ k) ok) refl)
]

asks_whole : (u : Setup) (h : History Entry) (k : Key) (why : Why) (es : List Entry) → es ≡ raised_by u h k why → trips_are_whole es ≡ true
asks_whole u h k why es a = elim (asks_one u h k why es a) [
  | inl none ↦ rw none refl
  | inr one ↦ rw one refl
]

both_try : (k : Key) (reasons : Why → Bool) (fs es : List Entry) → list_all (is_try k reasons) fs ≡ true → list_all (is_try k reasons) es ≡ true → list_all (is_try k reasons) (fs ++ es) ≡ true
both_try k reasons fs es a b = list_all-append (is_try k reasons) fs es ∙ and_from (list_all (is_try k reasons) fs) (list_all (is_try k reasons) es) a b

-- ---- faults

home_not_reading : (h : History Entry) (k : Key) → is_home h k.region ≡ true → is_reading h k ≡ false
home_not_reading h k e = at (in_flight h k.region) e
  where
    at : (t : Option InFlight) → is_none t ≡ true → is_read_of t k ≡ false
    at None f = refl
    at (Some t) f = absurd cc

-- an access moves no lane
access_home : (o : ℕ) (e : Entry) (g : History Entry) → is_access e ≡ true → AllHome g → AllHome ((o, e) ∷ g)
access_home o (entry.Load j place bytes) g a homes = homes
access_home o (entry.Save j place bytes) g a homes = homes
access_home o (entry.Hint j answer) g a homes = homes
access_home o (entry.Raised j why) g a homes = absurd cc
access_home o (entry.StartRead j) g a homes = absurd cc
access_home o (entry.Filled j) g a homes = absurd cc
access_home o (entry.ReadFailed j n) g a homes = absurd cc
access_home o (entry.Opened j) g a homes = absurd cc
access_home o (entry.Dropped j) g a homes = absurd cc
access_home o (entry.StartWrite j why) g a homes = absurd cc
access_home o (entry.Written j at bytes) g a homes = absurd cc
access_home o (entry.WriteFailed j n) g a homes = absurd cc
access_home o (entry.Evicted j why) g a homes = absurd cc
access_home o (entry.Closing r) g a homes = absurd cc
access_home o (entry.Unmapped r) g a homes = absurd cc

module _ {T : Type 0} (laws : PagerLaws) where
  pub tries_none : (k : Key) (reasons : Why → Bool) (p : PassSeen T Entry) → p.inside ≡ false → TriesPiece k reasons p p None
  tries_none k reasons p out = record {
    times = 0;
    own = [];
    grew = grew_none laws p out;
    kinds = refl;
    whole = refl;
    keeps = tt;
    bound = λ a home. (omega arith, home);
  }

  number_is : (old now : PassSeen T Entry) (n : ℕ) (es : List Entry) → PassGrew old now n es → now.number ≡ old.number
  number_is old now n es w = ap (λ (p : PassSeen T Entry). p.number) w.after

  keeps_more : (u : Setup) (k : Key) (old now mid new : PassSeen T Entry) (why : Why) (before : Option ℕ) (n : ℕ) → GoesOn old.seen now.seen → KeepsFault k old.seen now.seen before → (w : Waiting u now mid k why before n) → GoesOn mid.seen new.seen → KeepsFault k old.seen new.seen (Some n)
  keeps_more u k old now mid new why None n p keeps w q =
      (w.found, laws.order.trans old.seen now.seen w.found p (w.held.others.later, w.held.others.is), laws.order.trans w.found mid.seen new.seen (goes_past laws now mid w.found w.own w.held) q, w.faults)
  keeps_more u k old now mid new why (Some m) n p keeps w q =
      (keeps.0, keeps.1, laws.order.trans keeps.0 now.seen new.seen keeps.2 (laws.order.trans now.seen mid.seen new.seen (goes_through laws now mid w.found w.own w.held) q), w.same ∙ keeps.3)

  -- one turn more
  pub tries_more : (u : Setup) (k : Key) (reasons : Why → Bool) (why : Why) (old now mid new : PassSeen T Entry) (before : Option ℕ) (n : ℕ) → reasons why ≡ true → TriesPiece k reasons old now before → Waiting u now mid k why before n → Helped mid new → TriesPiece k reasons old new (Some n)
  tries_more u k reasons why old now mid new before n ok t w h =
      let asked = grew_once laws now mid w.found w.own w.held in
      let turn = grew_both laws old now mid t.times 1 t.own w.own t.grew asked in
      let all = grew_both laws old mid new (t.times + 1) h.helps.times (w.own ++ t.own) h.helps.own turn h.helps.grew in
      record {
        times = t.times + 1 + h.helps.times;
        own = h.helps.own ++ (w.own ++ t.own);
        grew = all;
        kinds = both_try k reasons h.helps.own (w.own ++ t.own) (help_tries k reasons h.helps.own h.helps.kinds) (both_try k reasons w.own t.own (asks_try laws.keys u w.found k reasons why w.own ok w.asks) t.kinds);
        whole = laws.whole.both h.helps.own (w.own ++ t.own) h.helps.whole (laws.whole.both w.own t.own (asks_whole u w.found k why w.own w.asks) t.whole);
        keeps = keeps_more u k old now mid new why before n (goes_grown laws old now t.times t.own t.grew) t.keeps w (goes_grown laws mid new h.helps.times h.helps.own h.helps.grew);
        bound = λ a home.
            let one = alone_parts laws old.number old.seen now.seen new.seen (goes_grown laws old now t.times t.own t.grew) (laws.order.trans now.seen mid.seen new.seen (goes_grown laws now mid 1 w.own asked) (goes_grown laws mid new h.helps.times h.helps.own h.helps.grew)) a in
            let two = alone_parts laws old.number now.seen mid.seen new.seen (goes_grown laws now mid 1 w.own asked) (goes_grown laws mid new h.helps.times h.helps.own h.helps.grew) one.second in
            let so_far = t.bound one.first home in
            let num : now.number ≡ old.number = number_is old now t.times t.own t.grew in
            let num2 : mid.number ≡ old.number = number_is old mid (t.times + 1) (w.own ++ t.own) turn in
            let look : Alone now.number now.seen mid.seen = subst (λ (o : ℕ). Alone o now.seen mid.seen) (sym num) two.first in
            let rest : Alone mid.number mid.seen new.seen = subst (λ (o : ℕ). Alone o mid.seen new.seen) (sym num2) two.second in
            let found : w.found ≡ now.seen = laws.alone.same now.number now.seen w.found w.held.others (alone_parts laws now.number now.seen w.found mid.seen (w.held.others.later, w.held.others.is) (goes_past laws now mid w.found w.own w.held) look).first in
            let homes : AllHome w.found = subst AllHome (sym found) so_far.1 in
            let seen : mid.seen ≡ by now.number w.own ++ w.found = ap (λ (p : PassSeen T Entry). p.seen) w.held.after in
            let some : 0 < length (pending mid.seen) = subst (λ (z : History Entry). 0 < length (pending z)) (sym seen) (w.pends (home_not_reading w.found k (homes k.region))) in
            let there : AllHome mid.seen = subst AllHome (sym seen) (asks_home now.number k why w.own w.found (asks_one u w.found k why w.own w.asks) homes) in
            let ahead = h.ahead rest there some in
            let few = h.helps.few in
            let x = length-append h.helps.own (w.own ++ t.own) in
            let y = length-append w.own t.own in
            let made = ahead.0 in
            let past = so_far.0 in
            (omega (arith, few, x, y, made, past), ahead.1);
      }
    where
      asks_home : (o : ℕ) (j : Key) (reason : Why) (es : List Entry) (g : History Entry) → (es ≡ []) ⊎ (es ≡ entry.Raised j reason ∷ []) → AllHome g → AllHome (by o es ++ g)
      asks_home o j reason es g a homes = elim a [
        | inl none ↦ subst (λ (x : List Entry). AllHome (by o x ++ g)) (sym none) homes
        | inr one ↦ subst (λ (x : List Entry). AllHome (by o x ++ g)) (sym one) homes
      ]

  -- the access was done in this hold
  pub tries_done : (k : Key) (reasons : Why → Bool) (old now new : PassSeen T Entry) (before : Option ℕ) (h : History Entry) (es : List Entry) → trips_are_whole es ≡ true → TriesPiece k reasons old now before → OneHold now new h es → PieceWent k reasons old new es
  tries_done k reasons old now new before h es alone_whole t w = record {
    times = t.times + 1;
    own = es ++ t.own;
    helped = t.own;
    grew = grew_both laws old now new t.times 1 t.own es t.grew (grew_once laws now new h es w);
    own_are = refl;
    kinds = t.kinds;
    whole = laws.whole.both es t.own alone_whole t.whole;
    bound = λ a home.
        let one = alone_parts laws old.number old.seen now.seen new.seen (goes_grown laws old now t.times t.own t.grew) (goes_through laws now new h es w) a in
        let past = (t.bound one.first home).0 in
        let x = length-append es t.own in
        (omega (arith, past, x), omega (arith, past, x));
  }

  -- the access that was done pays for the hold that did it
  pub done_few : (k : Key) (reasons : Why → Bool) (old now new : PassSeen T Entry) (before : Option ℕ) (h : History Entry) (e : Entry) → is_access e ≡ true → TriesPiece k reasons old now before → OneHold now new h (e ∷ []) → HoldsAreFew old new
  done_few k reasons old now new before h e is t w = record {
    few = λ a home.
        let one = alone_parts laws old.number old.seen now.seen new.seen (goes_grown laws old now t.times t.own t.grew) (goes_through laws now new h (e ∷ []) w) a in
        let so_far = t.bound one.first home in
        let num : now.number ≡ old.number = number_is old now t.times t.own t.grew in
        let last : Alone now.number now.seen new.seen = subst (λ (o : ℕ). Alone o now.seen new.seen) (sym num) one.second in
        let found : h ≡ now.seen = laws.alone.same now.number now.seen h w.others (alone_parts laws now.number now.seen h new.seen (w.others.later, w.others.is) (goes_past laws now new h (e ∷ []) w) last).first in
        let homes : AllHome h = subst AllHome (sym found) so_far.1 in
        let seen : new.seen ≡ (now.number, e) ∷ h = ap (λ (p : PassSeen T Entry). p.seen) w.after in
        let all : AllHome new.seen = subst AllHome (sym seen) (access_home now.number e h is homes) in
        let past = so_far.0 in
        let then_ : new.holds ≡ now.holds + 1 = ap (λ (p : PassSeen T Entry). p.holds) w.after in
        let held : now.holds ≡ old.holds + t.times = ap (λ (p : PassSeen T Entry). p.holds) t.grew.after in
        let made : length new.mine ≡ length now.mine + 1 = ap (λ (p : PassSeen T Entry). length p.mine) w.after ∙ next (length now.mine) in
        let own : length now.mine ≡ length t.own + length old.mine = ap (λ (p : PassSeen T Entry). length p.mine) t.grew.after ∙ length-append t.own old.mine in
        (omega (arith, past, then_, held, made, own), all);
  }
    where
      next : (n : ℕ) → suc n ≡ n + 1
      next n = omega arith

  -- a later look found another failed read
  pub tries_failed : (k : Key) (reasons : Why → Bool) (old now new : PassSeen T Entry) (before : Option ℕ) (n : ℕ) → TriesPiece k reasons old now before → Failing now new k before n → PieceStopped k reasons old new (access.StoreFault k n)
  tries_failed k reasons old now new None n t w = absurd w.other
  tries_failed k reasons old now new (Some m) n t w =
      let blamed : HasNew (λ (x : ℕ × Entry). x.1 ≡ entry.ReadFailed k (read_fault w.found k)) t.keeps.0 w.found =
      laws.read_fault t.keeps.0 w.found k (laws.order.trans t.keeps.0 now.seen w.found t.keeps.2 (w.held.others.later, w.held.others.is)) (λ e. w.other (w.faults ∙ (e ∙ sym t.keeps.3))) in
      record {
        went = tries_done k reasons old now new (Some m) w.found [] refl t w.held;
        because = (blamed.0, laws.stays blamed.0 old.seen t.keeps.0 w.found new.seen t.keeps.1 (goes_past laws now new w.found [] w.held) blamed.1, inl (refl, blamed.2 ∙ ap (λ x. entry.ReadFailed k x) (sym w.faults)));
      }

  -- the service of this turn ended it
  pub tries_stopped : (u : Setup) (k : Key) (reasons : Why → Bool) (why : Why) (old now mid new : PassSeen T Entry) (before : Option ℕ) (n : ℕ) (s : Access) → reasons why ≡ true → TriesPiece k reasons old now before → Waiting u now mid k why before n → HelpStopped mid new k s → PieceStopped k reasons old new s
  tries_stopped u k reasons why old now mid new before n s ok t w h =
      let asked = grew_once laws now mid w.found w.own w.held in
      let turn = grew_both laws old now mid t.times 1 t.own w.own t.grew asked in
      record {
        went = record {
          times = t.times + 1 + h.helps.times;
          own = h.helps.own ++ (w.own ++ t.own);
          helped = h.helps.own ++ (w.own ++ t.own);
          grew = grew_both laws old mid new (t.times + 1) h.helps.times (w.own ++ t.own) h.helps.own turn h.helps.grew;
          own_are = refl;
          kinds = both_try k reasons h.helps.own (w.own ++ t.own) (help_tries k reasons h.helps.own h.helps.kinds) (both_try k reasons w.own t.own (asks_try laws.keys u w.found k reasons why w.own ok w.asks) t.kinds);
          whole = laws.whole.both h.helps.own (w.own ++ t.own) h.helps.whole (laws.whole.both w.own t.own (asks_whole u w.found k why w.own w.asks) t.whole);
          bound = λ a home.
              let one = alone_parts laws old.number old.seen now.seen new.seen (goes_grown laws old now t.times t.own t.grew) (laws.order.trans now.seen mid.seen new.seen (goes_grown laws now mid 1 w.own asked) (goes_grown laws mid new h.helps.times h.helps.own h.helps.grew)) a in
              let past = (t.bound one.first home).0 in
              let few = h.helps.few in
              let x = length-append h.helps.own (w.own ++ t.own) in
              let y = length-append w.own t.own in
              (omega (arith, few, past, x, y), omega (arith, few, past, x, y));
        };
        because = why_stopped s h.because;
      }
    where
      num : mid.number ≡ old.number
      num = number_is old mid (t.times + 1) (w.own ++ t.own) (grew_both laws old now mid t.times 1 t.own w.own t.grew (grew_once laws now mid w.found w.own w.held))

      before_mid : GoesOn old.seen mid.seen
      before_mid = laws.order.trans old.seen now.seen mid.seen (goes_grown laws old now t.times t.own t.grew) (goes_through laws now mid w.found w.own w.held)

      why_stopped : (r : Access) → Because mid new k r → Because old new k r
      why_stopped access.OutOfRange b = absurd b
      why_stopped access.ReadOnly b = absurd b
      why_stopped access.PassSpent b = b
      why_stopped access.Unmapped b = b
      why_stopped (access.StoreFault j m) b = (b.0, laws.stays b.0 old.seen mid.seen new.seen new.seen before_mid ([], refl) b.1, subst (λ (o : ℕ). Blames k o j m b.0) num b.2)

-- ---- where a step of service stops an access

failed_is : SameIsEqual → (k : Key) (s : Served) (n : ℕ) → failed_read k s ≡ Some n → served_entries s ≡ entry.ReadFailed k n ∷ entry.StartRead k ∷ []
failed_is keys k served.Nothing n e = absurd cc
failed_is keys k served.Room n e = absurd cc
failed_is keys k (served.Dropped j) n e = absurd cc
failed_is keys k (served.Opened j) n e = absurd cc
failed_is keys k (served.Filled j why) n e = absurd cc
failed_is keys k (served.ReadFailed j m) n e = at (same j k) refl e
  where
    at : (b : Bool) → same j k ≡ b → cond b (Some m) None ≡ Some n → entry.ReadFailed j m ∷ entry.StartRead j ∷ [] ≡ entry.ReadFailed k n ∷ entry.StartRead k ∷ []
    at true b f = let jk : j ≡ k = keys.equal j k b in let mn : m ≡ n = cc in ap (λ (q : Key). entry.ReadFailed q m ∷ entry.StartRead q ∷ []) jk ∙ ap (λ x. entry.ReadFailed k x ∷ entry.StartRead k ∷ []) mn
    at false b f = absurd cc

written_is : (at : ℕ) (bytes : List ℕ) (b : Back) (k : Key) (n : ℕ) → failed_write b ≡ Some (k, n) → back_entries at bytes b ≡ entry.WriteFailed k n ∷ entry.StartWrite k Pressure ∷ []
written_is at bytes back.Nothing k n e = absurd cc
written_is at bytes (back.Evicted j) k n e = absurd cc
written_is at bytes (back.Written j) k n e = absurd cc
written_is at bytes (back.WriteFailed j m) k n e =
    let p : ◌≡◌ {A = Key × ℕ} (j, m) (k, n) = cc in
    let jk : j ≡ k = ap (λ (x : Key × ℕ). x.0) p in
    let mn : m ≡ n = ap (λ (x : Key × ℕ). x.1) p in
    ap (λ (q : Key). entry.WriteFailed q m ∷ entry.StartWrite q Pressure ∷ []) jk ∙ ap (λ x. entry.WriteFailed k x ∷ entry.StartWrite k Pressure ∷ []) mn

module _ {T : Type 0} (laws : PagerLaws) where
  pub stopped_read : (u : Setup) (old new : PassSeen T Entry) (s : Served) (k : Key) (n : ℕ) → ServesOne u old new s → failed_read k s ≡ Some n → HelpStopped old new k (access.StoreFault k n)
  stopped_read u old new s k n w e =
      let blamed = own_is_new laws old.number old.seen new.seen (entry.ReadFailed k n) (entry.StartRead k ∷ []) (subst (λ (es : List Entry). Grew old.number old.seen new.seen es) (failed_is laws.keys k s n e) w.grew.seen) in
      record {
        helps = helps_served laws u old new s w;
        because = (blamed.0, blamed.1, inl (refl, ap (λ (x : ℕ × Entry). x.1) blamed.2));
      }

  pub stopped_write : (u : Setup) (old mid new : PassSeen T Entry) (s : Served) (b : Back) (k j : Key) (n : ℕ) → ServesOne u old mid s → is_room s ≡ true → MakesRoom u mid new b → failed_write b ≡ Some (j, n) → HelpStopped old new k (access.StoreFault j n)
  stopped_write u old mid new s b k j n w room m e =
      let num : mid.number ≡ old.number = ap (λ (p : PassSeen T Entry). p.number) w.grew.after in
      let blamed = own_is_new laws mid.number mid.seen new.seen (entry.WriteFailed j n) (entry.StartWrite j Pressure ∷ []) (subst (λ (es : List Entry). Grew mid.number mid.seen new.seen es) (written_is m.at m.bytes b j n e) m.grew.seen) in
      record {
        helps = helps_room laws u old mid new s b w room m;
        because = (
          blamed.0,
          laws.stays blamed.0 old.seen mid.seen new.seen new.seen (goes_grown laws old mid (served_holds s) (served_entries s) w.grew) ([], refl) blamed.1,
          inr (ap (λ (x : ℕ × Entry). x.0) blamed.2 ∙ num, ap (λ (x : ℕ × Entry). x.1) blamed.2),
        );
      }

  pub tries_closed : (k : Key) (reasons : Why → Bool) (old now new : PassSeen T Entry) (before : Option ℕ) (h : History Entry) → TriesPiece k reasons old now before → OneHold now new h [] → is_closing h k.region ≡ true → PieceStopped k reasons old new access.Unmapped
  tries_closed k reasons old now new before h t w e = record {
    went = tries_done laws k reasons old now new before h [] refl t w;
    because = subst (λ (x : History Entry). is_closing x k.region ≡ true) (sym (ap (λ (p : PassSeen T Entry). p.seen) w.after)) e;
  }
