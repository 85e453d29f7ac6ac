-- The lanes of a stripe that has ended.
use Rattle.std.proofs.Common.{◌≡◌, ℕ, ◌<◌, true, List, length, map, Option, Some, None, refl, sym, subst, ap, ◌∙◌}
use Rattle.std.specs.List.{slice_get}
use Rattle.std.specs.Option.{option_map}
use Rattle.std.proofs.lemmas.List.{length-map}
use Rattle.std.proofs.lemmas.Option.{slice_get-map}
use Rattle.histories.specs.Histories.{History}
use Rattle.page_base.specs.Lanes.{LaneSeen}
use Rattle.page_model.specs.declared.entry.Entry.{Entry}
use Rattle.page_model.specs.Core.{Core, LanePlace, Home, RegionSeen}
use Rattle.page_model.specs.Core as core
use Rattle.page_model.specs.Readers.{ReadersAgree}
use Rattle.page_model.specs.Setups.{Setup, regions}
use Rattle.page_model.specs.Stands.{StandsFor, HomeLane}
use Rattle.stripe_core.specs.Standing.{AreHomeLanes}
use Rattle.locked_stripe.specs.Calls.{AllHome}
use Rattle.umap_pager.specs.Ended.{AreAtHome}

pub all_home : ReadersAgree → (h : History Entry) (c : Core) → StandsFor h c → AllHome h → (r : ℕ) → r < regions c.setup → core.is_home c r ≡ true
all_home agree h c stands home r below = (agree.regions h c r stands below).home ∙ home r

module _ {S : Type 0} (seen : S → LaneSeen) where
  pub are_at_home : (u : Setup) (h : History Entry) (c : Core) (lanes : List S) → c.setup ≡ u → StandsFor h c → map (λ (s : S). Home (seen s)) lanes ≡ map (λ (g : RegionSeen). g.place) c.regions → AreHomeLanes seen c lanes → AreAtHome u h (map seen lanes)
  are_at_home u h c lanes same stands places home = record {
    count = length-map lanes seen ∙ (sym (length-map lanes (λ (s : S). Home (seen s))) ∙ ap length places ∙ length-map c.regions (λ (g : RegionSeen). g.place) ∙ stands.count ∙ ap (λ (v : Setup). regions v) same);
    each = λ r lane e. at r lane (slice_get lanes r) refl (sym (slice_get-map seen lanes r) ∙ e);
  }
    where
      at : (r : ℕ) (lane : LaneSeen) (o : Option S) → slice_get lanes r ≡ o → option_map seen o ≡ Some lane → HomeLane u h r lane
      at r lane None there e = absurd cc
      at r lane (Some s) there e =
          let is : seen s ≡ lane = cc in
          subst (λ (v : Setup). HomeLane v h r lane) same (subst (λ (l : LaneSeen). HomeLane c.setup h r l) is (home h stands r s there))
