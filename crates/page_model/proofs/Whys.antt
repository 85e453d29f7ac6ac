-- Why faults are pending, and why reads are made.
use Rattle.std.proofs.Common.{Bool, List, None, Option, Some, ap, find, refl, subst, sym, true, ◌∙◌, ◌≡◌}
use Rattle.std.specs.List.{AllByRecursion}
use Rattle.histories.specs.Histories.{History}
use Rattle.page_base.specs.Pages.{same}
use Rattle.page_base.specs.declared.keys.Key.{Key}
use Rattle.page_base.specs.declared.keys.Raise.{Raise}
use Rattle.page_model.specs.declared.entry.Entry.{Entry}
use Rattle.page_model.specs.Core as core
use Rattle.page_model.specs.Core.{Core, Home, LanePlace, Reading, RegionSeen, Writing, place_passes, region_at, why_of_place, why_or_read}
use Rattle.page_model.specs.Faults.{last_why}
use Rattle.page_model.specs.Readers.{WhysAgree}
use Rattle.page_model.specs.Setups.{Setup}
use Rattle.page_model.specs.Stands.{PlaceStands, StandsFor}
use Rattle.page_model.proofs.Keys.{same-true}
use Rattle.page_model.proofs.Known.{pending_whys}
use Rattle.page_model.proofs.Lists.{find_passes}
use Rattle.page_model.proofs.Members.{all_found, is_there, some_found}

why_waits : (h : History Entry) (c : Core) (k : Key) → StandsFor h c → core.is_pending c k ≡ true → core.why_pending c k ≡ last_why h k
why_waits h c k st e =
    let test : Raise → Bool = λ p. same p.key k in
    let whys : AllByRecursion (λ (p : Raise). p.why ≡ last_why h p.key) c.queue = subst (λ (ps : List Raise). AllByRecursion (λ (p : Raise). p.why ≡ last_why h p.key) ps) (sym st.queue) (pending_whys c.setup h st.legal) in
    let x = is_there (find test c.queue) (some_found test c.queue ∙ e) in
    ap why_or_read x.1 ∙ (all_found (λ (p : Raise). p.why ≡ last_why h p.key) test c.queue x.0 x.1 whys ∙ ap (last_why h) (same-true x.0.key k (find_passes test c.queue x.0 x.1)))

why_in : (s : Setup) (h : History Entry) (k : Key) (g : RegionSeen) (place : LanePlace) → core.reads place k ≡ true → PlaceStands s h k.region place → why_of_place (Some (record g { place = place })) ≡ last_why h k
why_in s h k g (Home lane) e st = absurd cc
why_in s h k g (Reading j at why) e st = st.1 ∙ ap (last_why h) (same-true j k e)
why_in s h k g (Writing j at) e st = absurd cc

why_reads : (h : History Entry) (c : Core) (k : Key) → StandsFor h c → core.is_reading c k ≡ true → core.why_out c k ≡ last_why h k
why_reads h c k st e = go (region_at c k.region) refl e
  where
    go : (o : Option RegionSeen) → region_at c k.region ≡ o → place_passes (λ place. core.reads place k) o ≡ true → why_of_place (region_at c k.region) ≡ last_why h k
    go None is f = absurd cc
    go (Some g) is f = ap why_of_place is ∙ why_in c.setup h k g g.place f (st.regions k.region g is).place

pub whys_agree : WhysAgree
whys_agree = record { pending = why_waits; out = why_reads }
