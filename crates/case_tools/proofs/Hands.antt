-- Calls after which the passes may still close their pager, and a pager of one region that may be opened.
use Rattle.std.proofs.Common.{◌≡◌, ℕ, zero, suc, ◌+◌, ◌*◌, ◌/◌, ◌^◌, ◌<◌, ◌≤◌, Bool, List, [], ◌∷◌, ◌++◌, length, map, Option, Some, None, Result, Ok, Err, OnOk, OnErr, IfOk, IfErr, slice_get, refl, sym, ap, subst, ◌∙◌, arith}
use Rattle.std.proofs.Math.Nat.{mul-div_cancel}
use Rattle.page_base.specs.Backings.{in_memory}
use Rattle.page_base.specs.Lanes.{Origin, LaneSeen}
use Rattle.page_base.specs.ListSeen.{ListSeen}
use Rattle.page_base.specs.declared.keys.RegionShape.{RegionShape}
use Rattle.page_model.specs.Setups.{IsLaneOf}
use Rattle.region_table.specs.Regions.{TableSeen, NamedRegion, shapes_of}
use Rattle.store_trait.specs.Memory.{memory_origin}
use Rattle.locked_stripe.specs.declared.answers.Access.{Access}
use Rattle.locked_stripe.specs.declared.answers.Back.{Back}
use Rattle.locked_stripe.specs.declared.answers.Served.{Served}
use Rattle.locked_stripe.specs.declared.stripe_box.StripeBox.{StripeBox}
use Rattle.locked_stripe.specs.Calls.{for_load, for_store}
use Rattle.umap_pager.specs.declared.config.PagerConfig.{PagerConfig}
use Rattle.umap_pager.specs.Ended.{AllMayClose, rows_seen}
use Rattle.umap_pager.specs.Opened.{CanShare, shared_setup}
use Rattle.umap_pager.specs.Passes.{PassesSeen, ServesIn, MakesRoomIn}
use Rattle.umap_pager.specs.Ranges.{RangeLoaded, LoadRefused, RangeStored, StoreRefused}
use Rattle.umap_pager.specs.Shared.{SharedPager, page_stripe}
use Rattle.umap_pager.specs.TripLaws.{CallsEndTrips}
use Rattle.case_tools.specs.InsideHands.{HasOneRegion}

module _ {S J : Type 0} (law : CallsEndTrips S J) (pager : SharedPager S J) (old new : PassesSeen (StripeBox S J)) where
  pub load_may : {U : Type 0} (r off : ℕ) (before after : List ℕ) (result : Result U Access) → OnOk result (RangeLoaded pager r off after old new) → IfErr result (LoadRefused pager r off old new before after) → AllMayClose old → AllMayClose new
  load_may r off before after (Ok x) done refused = (law.done (page_stripe pager) for_load old new _ done).1
  load_may r off before after (Err why) done refused = (law.load_refused pager r off old new before after why refused).1

  pub store_may : {U : Type 0} (r off : ℕ) (bytes : List ℕ) (result : Result U Access) → OnOk result (RangeStored pager r off bytes old new) → IfErr result (StoreRefused pager r off bytes old new) → AllMayClose old → AllMayClose new
  store_may r off bytes (Ok x) done refused = (law.done (page_stripe pager) for_store old new _ done).1
  store_may r off bytes (Err why) done refused = (law.store_refused pager r off bytes old new why refused).1

  same_may : new ≡ old → AllMayClose old → AllMayClose new
  same_may e may s pass at = may s pass (sym (ap (λ (p : PassesSeen (StripeBox S J)). slice_get p.passes s) e) ∙ at)

  pub serve_may : {F : Type 0} (s : ℕ) (result : Result Served F) → IfOk result (ServesIn s pager old new) → OnErr result (new ≡ old) → AllMayClose old → AllMayClose new
  serve_may s (Ok x) served err = (law.served s pager old new x served).1
  serve_may s (Err why) served err = same_may err

  pub room_may : {F : Type 0} (s : ℕ) (result : Result Back F) → IfOk result (MakesRoomIn s pager old new) → OnErr result (new ≡ old) → AllMayClose old → AllMayClose new
  room_may s (Ok x) made err = (law.room s pager old new x made).1
  room_may s (Err why) made err = same_may err

-- ---- opening

some_same : {A : Type 0} {x y : A} → Some x ≡ Some y → x ≡ y
some_same e = cc

-- the only item of a list
only_at : {A : Type 0} (x y : A) (i : ℕ) → slice_get (x ∷ []) i ≡ Some y → (i ≡ 0) × (x ≡ y)
only_at x y zero e = (refl, some_same e)
only_at x y (suc i) e = absurd (cc)

-- a list of what was put into an empty one
pub put_only : {A : Type 0} (new reserved fresh : List A) (x : A) → new ≡ reserved ++ x ∷ [] → reserved ≡ fresh → fresh ≡ [] → new ≡ x ∷ []
put_only new reserved fresh x put same none = put ∙ ap (λ xs. xs ++ x ∷ []) (same ∙ none)

pub rows_are : {S : Type 0} (seen : S → LaneSeen) (lane : S) (row : ListSeen S) (rows : List (ListSeen S)) → row.items ≡ lane ∷ [] → rows ≡ row ∷ [] → rows_seen seen rows ≡ (seen lane ∷ []) ∷ []
rows_are {S} seen lane row rows one all = ap (rows_seen seen) all ∙ ap (λ (xs : List S). map seen xs ∷ []) one

table_is : (t : TableSeen) (page len own : ℕ) (may_store : Bool) (h : HasOneRegion page len may_store t) → page ≡ own → t ≡ record { page_size = own; regions = record { name = h.name; backing = in_memory; size = len; writable = may_store } ∷ [] }
table_is t page len own may_store h same =
    ap (λ (n : ℕ). let y : TableSeen = record { page_size = n; regions = t.regions } in y) (h.page_size ∙ same)
    ∙ ap (λ (rs : List NamedRegion). let y : TableSeen = record { page_size = own; regions = rs } in y) h.regions

-- a pager over one lane of one region, which is its only stripe's
pub can_share : (c : PagerConfig) (t : TableSeen) (lane : LaneSeen) (rows : List (List LaneSeen)) (given pages page len : ℕ) (may_store : Bool) → c.layout.stripes ≡ 1 → HasOneRegion page len may_store t → page ≡ c.layout.page_size → len ≡ pages * c.layout.page_size → 0 < c.layout.page_size
    → lane.origin ≡ memory_origin 0 pages c.layout.page_size 1 0 → rows ≡ (lane ∷ []) ∷ [] → given ≡ 1 → (c.faults ≡ 2) × (c.high ≡ 90) × (c.low ≡ 70) × (c.seats ≡ 1) → 2 ≤ c.holds → c.holds ≤ 2 ^ 40 → CanShare c t rows given
can_share c t lane rows given pages page len may_store one has same long some is are gave numbers some_holds few_holds = record {
  page_size = has.page_size ∙ same;
  some_fault = omega (arith, numbers.0);
  few_faults = omega (arith, numbers.0);
  marks = omega (arith, numbers.1, numbers.2);
  percent = omega (arith, numbers.1);
  some_seat = omega (arith, numbers.3);
  few_seats = omega (arith, numbers.3);
  some_holds = some_holds;
  few_holds = few_holds;
  stripes = ap length are ∙ sym one;
  journals = gave ∙ sym one;
  count = λ s row at. ap length (sym (row_is s row at).1) ∙ sym (ap length has.regions);
  lanes = λ s r row shape own row_at shape_at own_at.
      let stripe = row_is s row row_at in
      let lane_is = only_at lane own r (ap (λ (l : List LaneSeen). slice_get l r) stripe.1 ∙ own_at) in
      let shape_is = only_at wanted shape r (ap (λ (l : List RegionShape). slice_get l r) (sym shapes) ∙ shape_at) in
      subst (λ (l : List LaneSeen). IsLaneOf (shared_setup c t s l) r shape own.origin) stripe.1 (fits s r shape own stripe.0 lane_is.0 shape_is.1 (ap (λ (l : LaneSeen). l.origin) (sym lane_is.1) ∙ is));
}
  where
    wanted : RegionShape
    wanted = record { pages = len / c.layout.page_size; group = 1; writable = may_store }

    shapes : shapes_of t ≡ wanted ∷ []
    shapes = ap (λ (x : TableSeen). shapes_of x) (table_is t page len c.layout.page_size may_store has same)

    row_is : (s : ℕ) (row : List LaneSeen) → slice_get rows s ≡ Some row → (s ≡ 0) × ((lane ∷ []) ≡ row)
    row_is s row at = only_at (lane ∷ []) row s (ap (λ (l : List (List LaneSeen)). slice_get l s) (sym are) ∙ at)

    fits : (s r : ℕ) (shape : RegionShape) (own : LaneSeen) → s ≡ 0 → r ≡ 0 → wanted ≡ shape → own.origin ≡ memory_origin 0 pages c.layout.page_size 1 0 → IsLaneOf (shared_setup c t s (lane ∷ [])) r shape own.origin
    fits s r shape own first region its o = record {
      region = ap (λ (x : Origin). x.region) o ∙ sym region;
      pages = ap (λ (x : Origin). x.pages) o ∙ sym (ap (λ n. n / c.layout.page_size) long ∙ mul-div_cancel pages some) ∙ ap (λ (x : RegionShape). x.pages) its;
      page_size = ap (λ (x : Origin). x.page_size) o;
      group = ap (λ (x : Origin). x.group) o ∙ ap (λ (x : RegionShape). x.group) its;
      stripes = ap (λ (x : Origin). x.stripes) o ∙ sym one;
      stripe = ap (λ (x : Origin). x.stripe) o ∙ sym first;
    }
