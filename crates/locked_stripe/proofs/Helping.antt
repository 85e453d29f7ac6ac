-- A step of service, by what it served and how it made room.
use Rattle.std.proofs.Common.{◌≡◌, ℕ, ◌+◌, ◌<◌, ◌≤◌, Bool, true, false, List, [], ◌∷◌, ◌++◌, length, Option, Some, None, is_none, refl, sym, subst, ap, ◌∙◌, arith, cond, ◌==◌}
use Rattle.std.specs.List.{list_all}
use Rattle.histories.specs.Histories.{History, by, Alone}
use Rattle.page_base.specs.declared.keys.Key.{Key}
use Rattle.page_model.specs.declared.entry.Entry.{Entry}
use Rattle.page_model.specs.declared.seen.Next.{Next}
use Rattle.page_model.specs.declared.seen.Next.TheVariants as serve
use Rattle.page_model.specs.Evictions.{has_pressure, pick}
use Rattle.page_model.specs.Faults.{pending}
use Rattle.page_model.specs.InFlight.{InFlight, in_flight, is_home}
use Rattle.page_model.specs.Laws.{GoesAhead as Ahead}
use Rattle.page_model.specs.Legal.{IsLegal}
use Rattle.page_model.specs.Serving.{next_of}
use Rattle.page_model.specs.Setups.{Setup}
use Rattle.turn_lock.specs.Seen.{PassSeen}
use Rattle.locked_stripe.specs.declared.answers.Served.{Served}
use Rattle.locked_stripe.specs.declared.answers.Served.TheVariants as served
use Rattle.locked_stripe.specs.declared.answers.Back.{Back}
use Rattle.locked_stripe.specs.declared.answers.Back.TheVariants as back
use Rattle.locked_stripe.specs.Answers.{served_next, served_holds, served_entries, back_leaving, back_holds, back_entries, leaving, leaving_of, Finds, FindsLeaving}
use Rattle.locked_stripe.specs.Calls.{is_help, AllHome}
use Rattle.locked_stripe.specs.Holds.{PassGrew}
use Rattle.locked_stripe.specs.InsideLaws.{PagerLaws}
use Rattle.locked_stripe.specs.Serves.{ServesOne, MakesRoom}
use Rattle.locked_stripe.specs.InsideCalls.{AdvancesAlone, Helped, Helps, is_room}
use Rattle.locked_stripe.proofs.Goes.{alone_parts, grew_both, goes_grown}

served_help : (s : Served) → list_all is_help (served_entries s) ≡ true
served_help served.Nothing = refl
served_help served.Room = refl
served_help (served.Dropped k) = refl
served_help (served.Opened k) = refl
served_help (served.Filled k why) = refl
served_help (served.ReadFailed k n) = refl

served_few : (s : Served) → served_holds s ≤ 3
served_few served.Nothing = omega arith
served_few served.Room = omega arith
served_few (served.Dropped k) = omega arith
served_few (served.Opened k) = omega arith
served_few (served.Filled k why) = omega arith
served_few (served.ReadFailed k n) = omega arith

room_help : (at : ℕ) (bytes : List ℕ) (b : Back) → list_all is_help (back_entries at bytes b ++ []) ≡ true
room_help at bytes back.Nothing = refl
room_help at bytes (back.Evicted k) = refl
room_help at bytes (back.Written k) = refl
room_help at bytes (back.WriteFailed k n) = refl

room_few : (b : Back) → 1 + back_holds b ≤ 3
room_few back.Nothing = omega arith
room_few (back.Evicted k) = omega arith
room_few (back.Written k) = omega arith
room_few (back.WriteFailed k n) = omega arith

-- a start and its end leave the lane where it was
pair_home : (b : Bool) (t : InFlight) (o : Option InFlight) → is_none o ≡ true → is_none (cond b None (cond b (Some t) o)) ≡ true
pair_home true t o e = refl
pair_home false t o e = e

served_homes : (o : ℕ) (s : Served) (h : History Entry) → AllHome h → AllHome (by o (served_entries s) ++ h)
served_homes o served.Nothing h a = a
served_homes o served.Room h a = a
served_homes o (served.Dropped k) h a = a
served_homes o (served.Opened k) h a = a
served_homes o (served.Filled k why) h a = λ r. pair_home (k.region == r) (record { before = h; owner = o; key = k; writes = false }) (in_flight h r) (a r)
served_homes o (served.ReadFailed k n) h a = λ r. pair_home (k.region == r) (record { before = h; owner = o; key = k; writes = false }) (in_flight h r) (a r)

room_homes : (o at : ℕ) (bytes : List ℕ) (b : Back) (h : History Entry) → AllHome h → AllHome (by o (back_entries at bytes b ++ []) ++ h)
room_homes o at bytes back.Nothing h a = a
room_homes o at bytes (back.Evicted k) h a = a
room_homes o at bytes (back.Written k) h a = λ r. pair_home (k.region == r) (record { before = h; owner = o; key = k; writes = true }) (in_flight h r) (a r)
room_homes o at bytes (back.WriteFailed k n) h a = λ r. pair_home (k.region == r) (record { before = h; owner = o; key = k; writes = true }) (in_flight h r) (a r)

served_some : (s : Served) → is_room s ≡ false → (served_next s ≡ serve.Nothing → ⊥) → 1 ≤ length (served_entries s)
served_some served.Nothing e f = absurd (f refl)
served_some served.Room e f = absurd cc
served_some (served.Dropped k) e f = omega arith
served_some (served.Opened k) e f = omega arith
served_some (served.Filled k why) e f = omega arith
served_some (served.ReadFailed k n) e f = omega arith

room_some : (at : ℕ) (bytes : List ℕ) (b : Back) (k : Key) → back_leaving b ≡ Some k → 1 ≤ length (back_entries at bytes b ++ [])
room_some at bytes back.Nothing k e = absurd cc
room_some at bytes (back.Evicted j) k e = omega arith
room_some at bytes (back.Written j) k e = omega arith
room_some at bytes (back.WriteFailed j n) k e = omega arith

room_is : (s : Served) → is_room s ≡ true → s ≡ served.Room
room_is served.Nothing e = absurd cc
room_is served.Room e = refl
room_is (served.Dropped k) e = absurd cc
room_is (served.Opened k) e = absurd cc
room_is (served.Filled k why) e = absurd cc
room_is (served.ReadFailed k n) e = absurd cc

leaves_is : (u : Setup) (h : History Entry) (k : Key) → has_pressure u h ≡ true → pick h ≡ Some k → leaving_of u h ≡ Some k
leaves_is u h k p v = ap (λ b. leaving b (pick h)) p ∙ v

module _ {T : Type 0} (laws : PagerLaws) where
  first_is : (u : Setup) (old new : PassSeen T Entry) (s : Served) → (w : ServesOne u old new s) → Alone old.number old.seen new.seen → w.first ≡ old.seen
  first_is u old new s w a = laws.alone.same old.number old.seen w.first w.others (alone_parts laws old.number old.seen w.first new.seen (w.others.later, w.others.is) w.onward a).first

  -- what has to be next, where every lane is home and a fault waits
  ahead_is : (u : Setup) (old new : PassSeen T Entry) (s : Served) → ServesOne u old new s → Alone old.number old.seen new.seen → AllHome old.seen → 0 < length (pending old.seen) → Ahead u old.seen
  ahead_is u old new s w a home some = laws.next u old.seen w.next.fits (subst (λ (h : History Entry). IsLegal u h) (first_is u old new s w a) w.next.legal) (λ r below. home r) some

  pub helps_served : (u : Setup) (old new : PassSeen T Entry) (s : Served) → ServesOne u old new s → Helps old new
  helps_served u old new s w = record { times = served_holds s; own = served_entries s; grew = w.grew; few = served_few s; kinds = served_help s; whole = laws.whole.served s }

  pub helped_served : (u : Setup) (old new : PassSeen T Entry) (s : Served) → ServesOne u old new s → is_room s ≡ false → Helped old new
  unfolding helps_served
  helped_served u old new s w other = record {
    helps = helps_served u old new s w;
    ahead = λ a home some.
        let first = first_is u old new s w a in
        let is : new.seen ≡ by old.number (served_entries s) ++ old.seen = laws.alone.own old.number old.seen new.seen (served_entries s) w.grew.seen a in
        let next : next_of u old.seen ≡ served_next s = subst (λ (h : History Entry). next_of u h ≡ served_next s) first w.next.next in (
          served_some s other (λ e. (ahead_is u old new s w a home some).something (next ∙ e)),
          subst AllHome (sym is) (served_homes old.number s old.seen home),
        );
  }

  pub helps_room : (u : Setup) (old mid new : PassSeen T Entry) (s : Served) (b : Back) → ServesOne u old mid s → is_room s ≡ true → MakesRoom u mid new b → Helps old new
  helps_room u old mid new s b w room m =
      let r : ServesOne u old mid served.Room = subst (λ (x : Served). ServesOne u old mid x) (room_is s room) w in
      record {
        times = 1 + back_holds b;
        own = back_entries m.at m.bytes b ++ [];
        grew = grew_both laws old mid new 1 (back_holds b) [] (back_entries m.at m.bytes b) r.grew m.grew;
        few = room_few b;
        kinds = room_help m.at m.bytes b;
        whole = laws.whole.both (back_entries m.at m.bytes b) [] (laws.whole.back m.at m.bytes b) refl;
      }

  pub helped_room : (u : Setup) (old mid new : PassSeen T Entry) (s : Served) (b : Back) → ServesOne u old mid s → is_room s ≡ true → MakesRoom u mid new b → Helped old new
  unfolding helps_room
  helped_room u old mid new s b w room m =
      let r : ServesOne u old mid served.Room = subst (λ (x : Served). ServesOne u old mid x) (room_is s room) w in
      record {
        helps = helps_room u old mid new s b w room m;
        ahead = λ a home some.
            let num : mid.number ≡ old.number = ap (λ (p : PassSeen T Entry). p.number) r.grew.after in
            let parts = alone_parts laws old.number old.seen mid.seen new.seen (goes_grown laws old mid 1 [] r.grew) (goes_grown laws mid new (back_holds b) (back_entries m.at m.bytes b) m.grew) a in
            let here : mid.seen ≡ old.seen = laws.alone.own old.number old.seen mid.seen [] r.grew.seen parts.first in
            let then_ : Alone mid.number mid.seen new.seen = subst (λ (o : ℕ). Alone o mid.seen new.seen) (sym num) parts.second in
            let found : m.first ≡ mid.seen = laws.alone.same mid.number mid.seen m.first m.others (alone_parts laws mid.number mid.seen m.first new.seen (m.others.later, m.others.is) m.onward then_).first in
            let leaves : leaving_of u old.seen ≡ back_leaving b = subst (λ (h : History Entry). leaving_of u h ≡ back_leaving b) (found ∙ here) m.leaves.leaves in
            let next : next_of u old.seen ≡ serve.Room = subst (λ (h : History Entry). next_of u h ≡ serve.Room) (first_is u old mid served.Room r parts.first) r.next.next in
            let ahead = (ahead_is u old mid served.Room r parts.first home some).room next in
            let is : new.seen ≡ by old.number (back_entries m.at m.bytes b ++ []) ++ old.seen = laws.alone.own old.number old.seen new.seen (back_entries m.at m.bytes b ++ []) (helps_room u old mid new s b w room m).grew.seen a in (
              room_some m.at m.bytes b ahead.1.0 (sym leaves ∙ leaves_is u old.seen ahead.1.0 ahead.0 ahead.1.1),
              subst AllHome (sym is) (room_homes old.number m.at m.bytes b old.seen home),
            );
      }
