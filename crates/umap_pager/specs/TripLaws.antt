-- The law that calls leave no trip of their own open, as a statement.
use Rattle.std.specs.Prelude.{ℕ, ◌≡◌, Bool, List, length}
use Rattle.page_base.specs.declared.keys.Key.{Key}
use Rattle.page_base.specs.declared.keys.Why.{Why}
use Rattle.page_base.specs.Lanes.{LaneSeen}
use Rattle.page_model.specs.declared.entry.Entry.{Entry}
use Rattle.region_table.specs.Regions.{TableSeen}
use Rattle.locked_stripe.specs.declared.answers.Access.{Access}
use Rattle.locked_stripe.specs.declared.answers.Back.{Back}
use Rattle.locked_stripe.specs.declared.answers.Served.{Served}
use Rattle.locked_stripe.specs.declared.stripe_box.StripeBox.{StripeBox}
use Rattle.umap_pager.specs.declared.config.PagerConfig.{PagerConfig}
use Rattle.umap_pager.specs.Ended.{AllMayClose}
use Rattle.umap_pager.specs.Opened.{CanShare, OpensShared}
use Rattle.umap_pager.specs.Passes.{PassesSeen, ServesIn, MakesRoomIn, FoldsAll, newcomers, split_all}
use Rattle.umap_pager.specs.Ranges.{AccessesDone, LoadRefused, StoreRefused}
use Rattle.umap_pager.specs.Shared.{SharedPager}
use Rattle.umap_pager.specs.WholePasses.{HaveWholeTrips}

-- passes that had whole trips alone have so still, and those that could close a pager can still
abbrev pub StayWhole : {T : Type 0} → (old new : PassesSeen T) → Type 0
StayWhole old new = (HaveWholeTrips old → HaveWholeTrips new) × (AllMayClose old → AllMayClose new)

module _ (S J : Type 0) where
  -- no call leaves a trip of its own open, whatever it answers, and the first passes of a new pager may close it
  pub record CallsEndTrips : Type 0 where
    pub opened : (c : PagerConfig) (t : TableSeen) (rows : List (List LaneSeen)) (journals : List J) (pager : SharedPager S J) (p : PassesSeen (StripeBox S J))
        → CanShare c t rows (length journals) → OpensShared c t rows journals pager p → AllMayClose p
    pub done : (stripe : Key → ℕ) (reasons : Why → Bool) (old new : PassesSeen (StripeBox S J)) (accesses : List Entry)
        → AccessesDone stripe reasons old new accesses → StayWhole old new
    pub load_refused : (pager : SharedPager S J) (r off : ℕ) (old new : PassesSeen (StripeBox S J)) (before after : List ℕ) (why : Access)
        → LoadRefused pager r off old new before after why → StayWhole old new
    pub store_refused : (pager : SharedPager S J) (r off : ℕ) (bytes : List ℕ) (old new : PassesSeen (StripeBox S J)) (why : Access)
        → StoreRefused pager r off bytes old new why → StayWhole old new
    pub served : (s : ℕ) (pager : SharedPager S J) (old new : PassesSeen (StripeBox S J)) (answer : Served)
        → ServesIn s pager old new answer → StayWhole old new
    pub room : (s : ℕ) (pager : SharedPager S J) (old new : PassesSeen (StripeBox S J)) (answer : Back)
        → MakesRoomIn s pager old new answer → StayWhole old new
    pub split : (old : PassesSeen (StripeBox S J)) → HaveWholeTrips old → HaveWholeTrips (split_all old)
    pub newcomers_ : (old : PassesSeen (StripeBox S J)) → HaveWholeTrips (newcomers old)
    pub folded : (old other new : PassesSeen (StripeBox S J)) → length other.passes ≡ length old.passes → FoldsAll old other new
        → HaveWholeTrips old → HaveWholeTrips other → HaveWholeTrips new
