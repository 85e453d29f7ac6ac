use Rattle.std.proofs.Common.{Some, ap, length, map, subst, sym, ◌∙◌, ◌≡◌, slice_get}
use Rattle.std.proofs.lemmas.List.{length-map}
use Rattle.page_model.specs.Core.{Core, Home, RegionSeen}
use Rattle.page_model.specs.Readers.{IsHere}
use Rattle.page_model.specs.Stands.{HomeLane, StandsFor}
use Rattle.serial_pager.specs.Rests.{IsAtRest}
use Rattle.serial_pager.proofs.Opening.{got_map, place_there}
use Rattle.serial_pager.proofs.stripe.SerialStripe.into_parts.Goals as goal

pub into_lanes-requires : goal.into_lanes-requires
into_lanes-requires g c =
    let rest : IsAtRest c.self.inside.stripe = subst IsAtRest (ap (λ v. v.core) (sym c.self.view_is)) c.requires.rest in
    record { home = rest.home }

pub returns-clause-count : goal.returns-clause-count
returns-clause-count g c =
    let items = c.into_lanes.result.items in
    let core : c.self.inside.stripe ≡ c.args.self.core = ap (λ v. v.core) c.self.view_is in
    sym (length-map items (λ s. Home (g.S.Store.seen s))) ∙ (ap length c.into_lanes.ensures.lanes ∙ (length-map c.self.inside.stripe.regions (λ (x : RegionSeen). x.place) ∙ (ap (λ (x : Core). length x.regions) core ∙ c.requires.rest.stands.count)))

pub returns-clause-lanes : goal.returns-clause-lanes
returns-clause-lanes g c = λ r lane is.
    let there : slice_get (map (λ (x : RegionSeen). x.place) c.self.inside.stripe.regions) r ≡ Some (Home (g.S.Store.seen lane)) = ap (λ (ps : _). slice_get ps r) (sym c.into_lanes.ensures.lanes) ∙ got_map (λ s. Home (g.S.Store.seen s)) c.into_lanes.result.items r lane is in
    let found = place_there c.self.inside.stripe.regions r (Home (g.S.Store.seen lane)) there in
    let here : IsHere c.self.inside.stripe r (g.S.Store.seen lane) = record { region = found.0; is = found.1.0; home = found.1.1 } in
    subst (λ (x : Core). IsHere x r (g.S.Store.seen lane)) (ap (λ v. v.core) c.self.view_is) here

pub returns-clause-stands : goal.returns-clause-stands
returns-clause-stands g c =
    subst (λ (x : Core). (h : _) → StandsFor h x → (r : _) (lane : _) → slice_get c.into_lanes.result.items r ≡ Some lane → HomeLane x.setup h r (g.S.Store.seen lane)) (ap (λ v. v.core) c.self.view_is) c.into_lanes.ensures.stands
