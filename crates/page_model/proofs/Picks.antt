-- What is known of the pages that are picked out.
use Rattle.std.proofs.Common.{Bool, None, Option, Some, ap, false, find, not, option_map, refl, subst, sym, true, ℕ, ◌&&◌, ◌==◌, ◌||◌, ◌∙◌, ◌≡◌}
use Rattle.std.proofs.lemmas.Bool.{and_parts, eqb-true, not-true}
use Rattle.histories.specs.Histories.{History}
use Rattle.page_base.specs.Pages.{same}
use Rattle.page_base.specs.declared.keys.Key.{Key}
use Rattle.page_model.specs.declared.entry.Entry.{Entry}
use Rattle.page_model.specs.declared.seen.Pick.{Pick}
use Rattle.page_model.specs.Bits.{is_dirty}
use Rattle.page_model.specs.Core as core
use Rattle.page_model.specs.Core.{Core}
use Rattle.page_model.specs.Evictions.{can_leave, pick}
use Rattle.page_model.specs.InFlight.{is_home, is_writing}
use Rattle.page_model.specs.Readers.{IsHeldOf, MayLeave, PagesShow, PicksKnow, picked}
use Rattle.page_model.specs.Residents.{is_resident, oldest_of, residents}
use Rattle.page_model.specs.Setups.{has_page}
use Rattle.page_model.specs.Stands.{StandsFor}
use Rattle.page_model.proofs.Agreements.{dirty_is, held_pages, home_is, oldest_is, page_seen, pick_is, present_is, writing_is}
use Rattle.page_model.proofs.Keys.{same_self}
use Rattle.page_model.proofs.Lists.{find_passes, found_any}
use Rattle.page_model.proofs.Prefixes.{page_region}
use Rattle.page_model.proofs.StandsPages.{present_page}

pub pages_show : PagesShow
pages_show = record { held = held_pages; present = present_is; dirty = dirty_is; found = page_seen }

home_of : (d h : Bool) → (not d || h) ≡ true → d ≡ true → h ≡ true
home_of true h e f = e
home_of false h e f = absurd cc

-- a resident page, as a core shows it
record Known (h : History Entry) (c : Core) (k : Key) : Type 0 where
  page : has_page c.setup k ≡ true
  present : core.is_present c k ≡ true
  dirty : core.is_dirty c k ≡ is_dirty h k

found_known : (h : History Entry) (c : Core) (test : Key → Bool) (k : Key) → StandsFor h c → find test (residents h) ≡ Some k → Known h c k
found_known h c test k st is =
    let there : is_resident h k ≡ true = found_any test (λ j. same j k) (residents h) k is (same_self k) in
    let present : core.is_present c k ≡ true = present_is h c k st ∙ there in
    record { page = present_page h c k st present; present = present; dirty = dirty_is h c k st ∙ ap (λ b. b && is_dirty h k) there }

pick_known : (h : History Entry) (c : Core) (k : Key) → StandsFor h c → pick h ≡ Some k → MayLeave c (picked h k)
pick_known h c k st is =
    let may : can_leave h k ≡ true = find_passes (can_leave h) (residents h) k is in
    let parts = and_parts (not (is_writing h k)) (not (is_dirty h k) || is_home h k.region) may in
    let known = found_known h c (can_leave h) k st is in
    let lt = page_region c.setup k known.page in
    record {
      page = known.page;
      present = known.present;
      dirty = known.dirty;
      not_writing = writing_is h c k st lt ∙ not-true (is_writing h k) parts.0;
      home = λ d. home_is h c k.region st lt ∙ home_of (is_dirty h k) (is_home h k.region) parts.1 d;
    }

oldest_known : (h : History Entry) (c : Core) (r : ℕ) (k : Key) → StandsFor h c → oldest_of h r ≡ Some k → IsHeldOf c r (picked h k)
oldest_known h c r k st is =
    let known = found_known h c (λ j. j.region == r) k st is in
    record {
      region = eqb-true k.region r (find_passes (λ (j : Key). j.region == r) (residents h) k is);
      page = known.page;
      present = known.present;
      dirty = known.dirty;
    }

pub picks_know : PicksKnow
picks_know = record {
  picked = λ h c p st is. go h c p st (pick h) refl (sym (pick_is h c st) ∙ is);
  oldest = λ h c r p st is. at h c r p st (oldest_of h r) refl (sym (oldest_is h c r st) ∙ is);
}
  where
    go : (h : History Entry) (c : Core) (p : Pick) → StandsFor h c → (o : Option Key) → pick h ≡ o → option_map (picked h) o ≡ Some p → MayLeave c p
    go h c p st None v e = absurd cc
    go h c p st (Some k) v e = let same_pick : picked h k ≡ p = cc in subst (λ (x : Pick). MayLeave c x) same_pick (pick_known h c k st v)

    at : (h : History Entry) (c : Core) (r : ℕ) (p : Pick) → StandsFor h c → (o : Option Key) → oldest_of h r ≡ o → option_map (picked h) o ≡ Some p → IsHeldOf c r p
    at h c r p st None v e = absurd cc
    at h c r p st (Some k) v e = let same_pick : picked h k ≡ p = cc in subst (λ (x : Pick). IsHeldOf c r x) same_pick (oldest_known h c r k st v)
