-- Unmapping a region in one stripe: what each of its steps leaves.
use Rattle.serial_pager.proofs.Lists.{any_map, some_found}
use Rattle.std.proofs.Common.{Bool, Err, IfErr, List, None, Ok, OnOk, Option, Result, Some, [], ap, arith, cond, false, find, inl, inr, is_some, length, map, not, refl, slice_get, subst, sym, true, ℕ, ◌&&◌, ◌+◌, ◌++◌, ◌∙◌, ◌∷◌, ◌≡◌, ◌<◌, ◌==◌, ◌≤◌, ◌||◌}
use Rattle.std.proofs.lemmas.Bool.{and_from, and_parts, cases_eq, eq-eqb, eqb-true, or_left}
use Rattle.std.proofs.lemmas.List.Folds.{list_all-append}
use Rattle.std.specs.List.{list_all, list_any}
use Rattle.std.specs.Option.{option_map}
use Rattle.histories.specs.Histories.{History}
use Rattle.page_base.specs.declared.keys.Key.{Key}
use Rattle.page_base.specs.declared.keys.Raise.{Raise}
use Rattle.page_base.specs.Pages.{same}
use Rattle.page_model.specs.declared.entry.Cause.TheVariants.{Unmap}
use Rattle.page_model.specs.declared.entry.Entry.{Entry}
use Rattle.page_model.specs.declared.entry.Entry.TheVariants as entry
use Rattle.page_model.specs.declared.seen.Next.TheVariants as serve
use Rattle.page_model.specs.Core.{Core, RegionSeen, Resident, is_closing, is_home, is_home_place, is_present, is_quiet, is_servable, is_stale, is_unmapped, next, oldest_of, pick_of, place_passes, waits_for_room}
use Rattle.page_model.specs.Closings.{is_clear}
use Rattle.page_model.specs.Events.{CanUnmap}
use Rattle.page_model.specs.Faults.{is_protected_why}
use Rattle.page_model.specs.Serving.{chosen}
use Rattle.page_model.specs.Setups.{has_page, regions}
use Rattle.page_model.specs.Stands.{StandsFor}
use Rattle.page_model.specs.Steps as step
use Rattle.page_model.specs.Steps.{on_page, on_region}
use Rattle.serial_pager.specs.declared.fault.PageFault.{PageFault}
use Rattle.serial_pager.specs.Goings.{Did, Went}
use Rattle.serial_pager.specs.InsideGoings.{FailsToWriteOut, WentBy}
use Rattle.serial_pager.specs.InsideServices.{Drops, FailsToWrite, Writes}
use Rattle.serial_pager.specs.InsideUnmappings.{FailsToLeave, IsReadied}
use Rattle.serial_pager.specs.Rests.{ClosesSame, IsAtRest}
use Rattle.serial_pager.specs.Seen.{StripeSeen}
use Rattle.serial_pager.specs.Unmappings.{Clears, ClosesOne, FailsToUnmap, Unmaps, begin_closing, drops, is_unmap, leaves_region}
use Rattle.serial_pager.proofs.Closed.{closes_by, closes_nothing, closes_one, closes_only, closes_region, closes_same, unmaps_by, unmaps_nothing, unmaps_region, unmaps_same}
use Rattle.serial_pager.proofs.Flushes.{keys_in, length_keys, quota_most, written_clean}
use Rattle.serial_pager.proofs.Goes.{went_twice}
use Rattle.serial_pager.proofs.Loops.{list_weaker}
use Rattle.serial_pager.proofs.ModelLaws.{Laws}
use Rattle.serial_pager.proofs.Pages.{changed_keys, page_in, removed_fewer}
use Rattle.serial_pager.proofs.Queues.{served_fewer}
use Rattle.serial_pager.proofs.Rests.{on_region_here, on_region_other, still_rests}

-- ---- a region's flags change

-- a change of one region that leaves its lane leaves every lane at home
home_changed : (r : ℕ) (f : RegionSeen → RegionSeen) (gs : List RegionSeen) → ((g : RegionSeen) → (f g).place ≡ g.place) → (q : ℕ) → place_passes is_home_place (slice_get gs q) ≡ true → place_passes is_home_place (slice_get (on_region r f gs) q) ≡ true
home_changed r f gs keeps q e = elim (cases_eq q r) [
  | inl here ↦ go (slice_get gs q) refl e here
  | inr other ↦ ap (place_passes is_home_place) (on_region_other r f gs q other) ∙ e
]
  where
    go : (o : Option RegionSeen) → slice_get gs q ≡ o → place_passes is_home_place o ≡ true → q ≡ r → place_passes is_home_place (slice_get (on_region r f gs) q) ≡ true
    go None is h here = absurd cc
    go (Some g) is h here =
        let at : slice_get gs r ≡ Some g = ap (slice_get gs) (sym here) ∙ is in
        ap (λ i. place_passes is_home_place (slice_get (on_region r f gs) i)) here ∙ (ap (place_passes is_home_place) (on_region_here r f gs g at) ∙ (ap is_home_place (keeps g) ∙ h))

pub rests_changed : (c d : Core) (h : History Entry) (r : ℕ) (f : RegionSeen → RegionSeen) → ((g : RegionSeen) → (f g).place ≡ g.place) → IsAtRest c → StandsFor h d → d.setup ≡ c.setup → d.regions ≡ on_region r f c.regions → IsAtRest d
rests_changed c d h r f keeps rest st same is = still_rests c d h rest st same
    (λ q e. subst (λ (gs : List RegionSeen). place_passes is_home_place (slice_get gs q) ≡ true) (sym is) (home_changed r f c.regions keeps q e))

-- ---- stale faults are gone

-- a fault was dropped
pub drops_less : (laws : Laws) (c d : Core) → IsAtRest c → Drops c d → (length d.queue < length c.queue) × (d.events ≡ c.events + 1)
drops_less laws c d rest w =
    let waits = laws.knows.drop rest.history c w.key rest.stands w.next in
    let fewer = served_fewer w.key c.queue waits in
    (subst (λ (ps : List Raise). length ps < length c.queue) (sym (ap (λ (x : Core). x.queue) w.is)) fewer, ap (λ (x : Core). x.events) w.is)

chosen_drop : (p : Raise) (b : Option Raise) (w : Bool) → chosen (Some p) b w ≡ serve.Drop p.key
chosen_drop p b w = refl

none_stale : (c : Core) → ((k : Key) → next c ≡ serve.Drop k → ⊥) → find (is_stale c) c.queue ≡ None
none_stale c none = go (find (is_stale c) c.queue) refl
  where
    go : (o : Option Raise) → find (is_stale c) c.queue ≡ o → find (is_stale c) c.queue ≡ None
    go None is = is
    go (Some p) is = absurd (none p.key (ap (λ o. chosen o (find (is_servable c) c.queue) (list_any (waits_for_room c) c.queue)) is ∙ chosen_drop p (find (is_servable c) c.queue) (list_any (waits_for_room c) c.queue)))

none_of_it : (test P : Raise → Bool) (ps : List Raise) → ((p : Raise) → P p ≡ true → test p ≡ true) → find test ps ≡ None → list_any P ps ≡ false
none_of_it test P [] weak e = refl
none_of_it test P (p ∷ ps) weak e = go (test p) (P p) refl refl e (none_of_it test P ps weak)
  where
    go : (b x : Bool) → test p ≡ b → P p ≡ x → cond b (Some p) (find test ps) ≡ None → (find test ps ≡ None → list_any P ps ≡ false) → (x || list_any P ps) ≡ false
    go true x is px f ih = absurd cc
    go false true is px f ih = absurd (let yes = weak p px in cc)
    go false false is px f ih = ih f

-- no fault of a closing region waits where none is stale
pub none_waits : (c : Core) (r : ℕ) → ((k : Key) → next c ≡ serve.Drop k → ⊥) → is_closing c r ≡ true → list_any (λ (p : Raise). p.key.region == r) c.queue ≡ false
none_waits c r none closing =
    none_of_it (is_stale c) (λ (p : Raise). p.key.region == r) c.queue
    (λ p here. or_left (is_closing c p.key.region) (is_protected_why p.why && not (is_present c p.key)) (ap (is_closing c) (eqb-true p.key.region r here) ∙ closing))
    (none_stale c none)

map_none : {A B : Type 0} (f : A → B) (o : Option A) → option_map f o ≡ None → is_some o ≡ false
map_none f None e = refl
map_none f (Some x) e = absurd cc

none_held : (rs : List Resident) (r : ℕ) → option_map pick_of (find (λ (p : Resident). p.key.region == r) rs) ≡ None → list_any (λ (k : Key). k.region == r) (map (λ (p : Resident). p.key) rs) ≡ false
none_held rs r e = any_map (λ (k : Key). k.region == r) (λ (p : Resident). p.key) rs ∙ (sym (some_found (λ (p : Resident). p.key.region == r) rs) ∙ map_none pick_of (find (λ (p : Resident). p.key.region == r) rs) e)

-- nothing of the region is left
pub is_quiet_now : (c : Core) (r : ℕ) → is_home c r ≡ true → oldest_of c r ≡ None → list_any (λ (p : Raise). p.key.region == r) c.queue ≡ false → is_quiet c r ≡ true
is_quiet_now c r home none waits =
    let held : list_any (λ (k : Key). k.region == r) (map (λ (p : Resident). p.key) c.pages) ≡ false = none_held c.pages r none in
    and_from (is_clear (map (λ (p : Resident). p.key) c.pages) c.queue r) (is_home c r)
    (and_from (not (list_any (λ (k : Key). k.region == r) (map (λ (p : Resident). p.key) c.pages))) (not (list_any (λ (p : Raise). p.key.region == r) c.queue)) (ap not held) (ap not waits)) home

-- ---- the page that leaves next

-- after its write the page may leave
pub readied : (c d : Core) (k : Key) → is_present c k ≡ true → Writes k c d → IsReadied k c d
readied c d k there w = record {
  present = present_by_keys d.pages c.pages k keys there;
  clean = written_clean c d k w;
  as_many = sym (length_keys d.pages) ∙ (ap length keys ∙ length_keys c.pages);
}
  where
    keys : keys_in d ≡ keys_in c
    keys =
        ap keys_in w.is
        ∙ (changed_keys k (λ (r : Resident). record r { dirty = r.dirty && not r.protected }) (map (λ (r : Resident). cond (same r.key k) (record r { protected = true }) r) c.pages) (λ r. refl)
        ∙ changed_keys k (λ (r : Resident). record r { protected = true }) c.pages (λ r. refl))

    any_key : (rs : List Resident) (k : Key) → is_some (find (λ (r : Resident). same r.key k) rs) ≡ list_any (λ (j : Key). same j k) (map (λ (r : Resident). r.key) rs)
    any_key rs k = some_found (λ (r : Resident). same r.key k) rs ∙ sym (any_map (λ (j : Key). same j k) (λ (r : Resident). r.key) rs)

    present_by_keys : (xs ys : List Resident) (k : Key) → map (λ (r : Resident). r.key) xs ≡ map (λ (r : Resident). r.key) ys → is_some (find (λ (r : Resident). same r.key k) ys) ≡ true → is_some (find (λ (r : Resident). same r.key k) xs) ≡ true
    present_by_keys xs ys k e h = any_key xs k ∙ (ap (list_any (λ (j : Key). same j k)) e ∙ (sym (any_key ys k) ∙ h))

-- what a try to write a page leaves of the faults
pub failed_queue : {X : Type 0} (c d : Core) (k : Key) (r : Result X PageFault) → OnOk r (Writes k c d) → IfErr r (λ f. FailsToWrite k c d f) → d.queue ≡ c.queue
failed_queue c d k (Ok x) w f = ap (λ (v : Core). v.queue) w.is
failed_queue c d k (Err fault) w f = ap (λ (v : Core). v.queue) f.is

pub write_leaves : (k : Key) (at : ℕ) (bytes : List ℕ) → list_all (leaves_region k.region) (entry.Written k at bytes ∷ entry.StartWrite k Unmap ∷ []) ≡ true
write_leaves k at bytes =
    let own : (k.region == k.region) ≡ true = eq-eqb k.region k.region refl in
    and_from (k.region == k.region) (((k.region == k.region) && true) && true) own (and_from ((k.region == k.region) && true) true (and_from (k.region == k.region) true own refl) refl)

pub evict_leaves : (k : Key) → list_all (leaves_region k.region) (entry.Evicted k Unmap ∷ []) ≡ true
evict_leaves k = and_from ((k.region == k.region) && true) true (and_from (k.region == k.region) true (eq-eqb k.region k.region refl) refl) refl

pub some_pages : (c : Core) (k : Key) → is_present c k ≡ true → 1 ≤ length c.pages
some_pages c k there = go c.pages there
  where
    go : (rs : List Resident) → is_some (page_in rs k) ≡ true → 1 ≤ length rs
    go [] e = absurd cc
    go (r ∷ rs) e = omega arith

-- the write of the page that was to leave next failed
pub fails_to_leave : {J : Type 0} (noted : J → History Entry → Type 0) (r : ℕ) (k : Key) (f : PageFault) (o a b : StripeSeen J) → k.region ≡ r → f.key ≡ k → WentBy 0 noted (leaves_region r) o a → FailsToWriteOut 0 noted k Unmap a b f → FailsToLeave 0 noted r o b f
fails_to_leave noted r k f o a b of key one two = record {
  region = ap (λ (j : Key). j.region) key ∙ of;
  before = one.entries;
  pass = one.pass;
  went = subst (λ (j : Key). Went 0 noted (entry.WriteFailed j f.faults ∷ entry.StartWrite j Unmap ∷ one.entries) o b) (sym key)
      (went_twice noted one.entries (entry.WriteFailed k f.faults ∷ entry.StartWrite k Unmap ∷ []) o a b one.went two);
}

pub evicted_fewer : (c d : Core) (k : Key) → is_present c k ≡ true → d ≡ step.evict c k → length d.pages < length c.pages
evicted_fewer c d k there is = go (page_in c.pages k) refl there
  where
    go : (o : Option Resident) → page_in c.pages k ≡ o → is_some o ≡ true → length d.pages < length c.pages
    go None at e = absurd cc
    go (Some x) at e = subst (λ (rs : List Resident). length rs < length c.pages) (sym (ap (λ (v : Core). v.pages) is)) (removed_fewer k c.pages x at)

-- ---- how many pages there are

pub few_pages : (laws : Laws) (c : Core) → IsAtRest c → length c.pages ≤ 1048577
few_pages laws c rest =
    let within = laws.knows.within rest.history c rest.stands in
    let frames = rest.bounded.few_frames in
    let share = quota_most c.setup.frames c.setup.stripes c.setup.number in
    omega (arith, within, frames, share)

-- ---- the entries

leave_closes : (r : ℕ) (e : Entry) → leaves_region r e ≡ true → closes_nothing e ≡ true
leave_closes r (entry.Closing q) e = absurd cc
leave_closes r x e = refl

pub leaving_closes : (laws : Laws) {J : Type 0} (noted : J → History Entry → Type 0) (r : ℕ) (old new : StripeSeen J) → IsAtRest old.core → WentBy 0 noted (leaves_region r) old new → ClosesSame old.core new.core
leaving_closes laws noted r old new rest w = closes_same laws noted w.entries old new rest w.went (list_weaker (leaves_region r) closes_nothing w.entries (leave_closes r) w.pass)

-- the entry may stand in an unmapping of the region before its end, and is no failed write
abbrev pub is_part : (region : ℕ) → Entry → Bool
is_part r (entry.Closing q) = q == r
is_part r (entry.Dropped k) = true
is_part r (entry.StartWrite k why) = is_unmap why
is_part r (entry.Written k at bytes) = true
is_part r (entry.Evicted k why) = is_unmap why
is_part r e = false

leave_part : (r : ℕ) (e : Entry) → leaves_region r e ≡ true → is_part r e ≡ true
leave_part r (entry.StartWrite k why) e = (and_parts (k.region == r) (is_unmap why) e).1
leave_part r (entry.Written k at bytes) e = refl
leave_part r (entry.Evicted k why) e = (and_parts (k.region == r) (is_unmap why) e).1
leave_part r x e = absurd cc

drop_part : (r : ℕ) (e : Entry) → drops e ≡ true → is_part r e ≡ true
drop_part r (entry.Dropped k) e = refl
drop_part r x e = absurd cc

begins_part : (r : ℕ) (closes : Bool) → list_all (is_part r) (cond closes [] (entry.Closing r ∷ [])) ≡ true
begins_part r true = refl
begins_part r false = and_from (r == r) true (eq-eqb r r refl) refl

pub clears_part : (r : ℕ) (c : Core) (es : List Entry) → Clears r c es → list_all (is_part r) es ≡ true
clears_part r c es w = ap (list_all (is_part r)) w.is
    ∙ (list_all-append (is_part r) w.left (w.dropped ++ begin_closing c r)
    ∙ and_from (list_all (is_part r) w.left) (list_all (is_part r) (w.dropped ++ begin_closing c r)) (list_weaker (leaves_region r) (is_part r) w.left (leave_part r) w.leave)
    (list_all-append (is_part r) w.dropped (begin_closing c r) ∙ and_from (list_all (is_part r) w.dropped) (list_all (is_part r) (begin_closing c r)) (list_weaker drops (is_part r) w.dropped (drop_part r) w.drop) (begins_part r (is_closing c r))))

part_only : (r : ℕ) (e : Entry) → is_part r e ≡ true → closes_only r e ≡ true
part_only r (entry.Closing q) e = e
part_only r x e = refl

part_maps : (r : ℕ) (e : Entry) → is_part r e ≡ true → unmaps_nothing e ≡ true
part_maps r (entry.Unmapped q) e = absurd cc
part_maps r x e = refl

-- the region closes behind them
begun : (c : Core) (r : ℕ) → (list_any (closes_region r) (begin_closing c r) || is_closing c r) ≡ true
begun c r = go (is_closing c r)
  where
    go : (b : Bool) → (list_any (closes_region r) (cond b [] (entry.Closing r ∷ [])) || b) ≡ true
    go true = refl
    go false = or_left ((r == r) || false) false (or_left (r == r) false (eq-eqb r r refl))

begun_more : (r : ℕ) (b : Bool) (xs es : List Entry) → (list_any (closes_region r) es || b) ≡ true → (list_any (closes_region r) (xs ++ es) || b) ≡ true
begun_more r b [] es e = e
begun_more r b (x ∷ xs) es e = go (closes_region r x) (begun_more r b xs es e)
  where
    go : (a : Bool) → (list_any (closes_region r) (xs ++ es) || b) ≡ true → ((a || list_any (closes_region r) (xs ++ es)) || b) ≡ true
    go true ih = refl
    go false ih = ih

module _ (laws : Laws) {J : Type 0} (noted : J → History Entry → Type 0) (r : ℕ) (o a b : StripeSeen J) (rest : IsAtRest o.core) (lt : r < regions o.core.setup)
    (one : Went 0 noted (begin_closing o.core r) o a) (two : WentBy 0 noted drops a b) where
  abbrev so_far : List Entry
  so_far = two.entries ++ begin_closing o.core r

  went_so_far : Went 0 noted so_far o b
  went_so_far = went_twice noted (begin_closing o.core r) two.entries o a b one two.went

  pub closing_still : is_closing b.core r ≡ true
  closing_still = closes_by laws noted so_far o b rest went_so_far r lt ∙ begun_more r (is_closing o.core r) two.entries (begin_closing o.core r) (begun o.core r)

  module _ (d : StripeSeen J) (left : List Entry) (pass : list_all (leaves_region r) left ≡ true) (three : Went 0 noted left b d) where
    abbrev all_far : List Entry
    all_far = left ++ so_far

    went_far : Went 0 noted all_far o d
    went_far = went_twice noted so_far left o b d went_so_far three

    pub clears : Clears r o.core all_far
    clears = record { left = left; dropped = two.entries; is = refl; leave = pass; drop = two.pass }

    pub closing_far : is_closing d.core r ≡ true
    closing_far = closes_by laws noted all_far o d rest went_far r lt ∙ begun_more r (is_closing o.core r) left so_far (begun_more r (is_closing o.core r) two.entries (begin_closing o.core r) (begun o.core r))

    part_far : list_all (is_part r) all_far ≡ true
    part_far = clears_part r o.core all_far clears

    pub mapped_far : is_unmapped o.core r ≡ false → is_unmapped d.core r ≡ false
    mapped_far first = unmaps_same laws noted all_far o d rest went_far r lt (list_weaker (is_part r) unmaps_nothing all_far (part_maps r) part_far) ∙ first

    -- nothing of the region is left, so it may be unmapped
    pub can_unmap : is_unmapped o.core r ≡ false → IsAtRest d.core → ((k : Key) → next b.core ≡ serve.Drop k → ⊥) → d.core.queue ≡ b.core.queue → oldest_of d.core r ≡ None → CanUnmap d.core r
    can_unmap first rested none queue empty =
        let within : r < regions d.core.setup = subst (λ s. r < regions s) (sym went_far.setup) lt in
        record {
          region = within;
          closing = closing_far;
          first = mapped_far first;
          quiet = is_quiet_now d.core r (rested.home r within) empty (ap (list_any (λ (p : Raise). p.key.region == r)) queue ∙ none_waits b.core r none closing_still);
        }

    -- the region is unmapped then
    module _ (e : StripeSeen J) (four : Went 0 noted (entry.Unmapped r ∷ []) d e) where
      went_end : Went 0 noted (entry.Unmapped r ∷ all_far) o e
      went_end = went_twice noted all_far (entry.Unmapped r ∷ []) o d e went_far four

      pub unmapped_now : is_unmapped o.core r ≡ false → Did 0 noted (Unmaps r) o e
      unmapped_now first = record {
        entries = entry.Unmapped r ∷ all_far;
        went = went_end;
        how = record {
          how = inr (first, record { before = all_far; is = refl; clears = clears });
          unmapped = unmaps_by laws noted (entry.Unmapped r ∷ all_far) o e rest went_end r lt
              ∙ or_left ((r == r) || list_any (unmaps_region r) all_far) (is_unmapped o.core r) (or_left (r == r) (list_any (unmaps_region r) all_far) (eq-eqb r r refl));
        };
      }

      pub unmapped_closes : ClosesOne r o.core e.core
      unmapped_closes = closes_one laws noted (entry.Unmapped r ∷ all_far) o e rest went_end r lt (list_weaker (is_part r) (closes_only r) all_far (part_only r) part_far)

  -- a write failed
  module _ (d : StripeSeen J) (f : PageFault) (w : FailsToLeave 0 noted r b d f) where
    abbrev fail_far : List Entry
    fail_far = entry.WriteFailed f.key f.faults ∷ entry.StartWrite f.key Unmap ∷ (w.before ++ so_far)

    went_fail : Went 0 noted fail_far o d
    went_fail = went_twice noted so_far (entry.WriteFailed f.key f.faults ∷ entry.StartWrite f.key Unmap ∷ w.before) o b d went_so_far w.went

    clears_fail : Clears r o.core (w.before ++ so_far)
    clears_fail = record { left = w.before; dropped = two.entries; is = refl; leave = w.pass; drop = two.pass }

    part_fail : list_all (is_part r) (w.before ++ so_far) ≡ true
    part_fail = clears_part r o.core (w.before ++ so_far) clears_fail

    page_fail : has_page o.core.setup f.key ≡ true
    page_fail = subst (λ s. has_page s f.key ≡ true) went_fail.setup (went_fail.stands rest.history rest.stands).legal.1

    pub failed_now : is_unmapped o.core r ≡ false → Did 0 noted (FailsToUnmap r f) o d
    failed_now first = record {
      entries = fail_far;
      went = went_fail;
      how = record {
        page = page_fail;
        region = w.region;
        before = w.before ++ so_far;
        is = refl;
        clears = clears_fail;
        closing = closes_by laws noted fail_far o d rest went_fail r lt ∙ begun_more r (is_closing o.core r) w.before so_far (begun_more r (is_closing o.core r) two.entries (begin_closing o.core r) (begun o.core r));
        mapped = unmaps_same laws noted fail_far o d rest went_fail r lt (list_weaker (is_part r) unmaps_nothing (w.before ++ so_far) (part_maps r) part_fail) ∙ first;
      };
    }

    pub failed_closes_one : ClosesOne r o.core d.core
    failed_closes_one = closes_one laws noted fail_far o d rest went_fail r lt (list_weaker (is_part r) (closes_only r) (w.before ++ so_far) (part_only r) part_fail)
