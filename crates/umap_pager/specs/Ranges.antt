-- What loads and stores of ranges did, and how they are refused.
use Rattle.std.specs.Prelude.{ℕ, ◌+◌, ◌<◌, ◌≤◌, ◌≡◌, Bool, true, false, List, length, take, drop, slice_get}
use Rattle.page_base.specs.declared.keys.Key.{Key}
use Rattle.page_base.specs.declared.keys.Piece.{Piece}
use Rattle.page_base.specs.declared.keys.Why.{Why}
use Rattle.page_model.specs.declared.entry.Entry.{Entry}
use Rattle.page_model.specs.declared.entry.Entry.TheVariants.{Load, Save}
use Rattle.page_model.specs.Pieces.{AreBefore, accesses_by, loads, saves}
use Rattle.page_model.specs.Setups.{may_write}
use Rattle.region_table.specs.Regions.{shapes_of}
use Rattle.locked_stripe.specs.declared.answers.Access.{Access}
use Rattle.locked_stripe.specs.declared.answers.Access.TheVariants as access
use Rattle.locked_stripe.specs.declared.stripe_box.StripeBox.{StripeBox}
use Rattle.locked_stripe.specs.Calls.{for_load, for_store}
use Rattle.locked_stripe.specs.WholeTrips.{trips_are_whole}
use Rattle.umap_pager.specs.Shared.{SharedPager, page_stripe, region_size, range_pieces}
use Rattle.umap_pager.specs.Passes.{PassesSeen}
use Rattle.umap_pager.specs.Went.{WentOver, FewIn, StaysFewIn, BecauseIn, are_tries}

module _ {T : Type 0} where
  -- These accesses were made, in order.
  pub record AccessesDone (stripe : Key → ℕ) (reasons : Why → Bool) (old new : PassesSeen T) (accesses : List Entry) : Type 0 where
    pub own : ℕ → List Entry
    pub went : WentOver stripe old new accesses own
    pub tries : (s : ℕ) (k : Key) → are_tries reasons k (own s) ≡ true
    pub whole : (s : ℕ) → trips_are_whole (own s) ≡ true
    pub few : (s : ℕ) → FewIn (slice_get old.passes s) (slice_get new.passes s)

  -- Of accesses of all these pieces those of the pieces before one were made, which have `done` bytes together, and that one
  -- wasn't.
  pub record AccessesStopped (stripe : Key → ℕ) (reasons : Why → Bool) (access : Key → (place : ℕ) → List ℕ → Entry) (all : List Piece) (done : ℕ) (bytes : List ℕ) (old new : PassesSeen T) (why : Access) : Type 0 where
    pub pieces : List Piece
    pub before : AreBefore all done pieces
    pub own : ℕ → List Entry
    pub went : WentOver stripe old new (accesses_by access pieces bytes) own
    pub tries : (s : ℕ) → are_tries reasons before.next.key (own s) ≡ true
    pub whole : (s : ℕ) → trips_are_whole (own s) ≡ true
    pub few : (s : ℕ) → StaysFewIn (slice_get old.passes s) (slice_get new.passes s)
    pub because : BecauseIn (slice_get old.passes (stripe before.next.key)) (slice_get new.passes (stripe before.next.key)) before.next.key why

module _ {S J : Type 0} where
  -- the region may be stored to
  abbrev pub region_writable : SharedPager S J → (region : ℕ) → Bool
  region_writable p r = may_write (slice_get (shapes_of p.table) r)

  -- ---- a load

  -- these bytes were loaded, piece by piece
  abbrev pub RangeLoaded : SharedPager S J → (region off : ℕ) → List ℕ → (old new : PassesSeen (StripeBox S J)) → Type 0
  RangeLoaded p r off bytes old new = AccessesDone (page_stripe p) for_load old new (loads (range_pieces p r off (length bytes)) bytes)

  -- `done` bytes were loaded, by the pieces before one, and the rest of the buffer is as before
  pub record LoadStopped (p : SharedPager S J) (r off : ℕ) (old new : PassesSeen (StripeBox S J)) (before after : List ℕ) (why : Access) : Type 0 where
    pub done : ℕ
    pub rest : drop done after ≡ drop done before
    pub stopped : AccessesStopped (page_stripe p) for_load (λ k place its. Load k place its) (range_pieces p r off (length before)) done (take done after) old new why

  abbrev pub LoadRefused : SharedPager S J → (region off : ℕ) → (old new : PassesSeen (StripeBox S J)) → (before after : List ℕ) → Access → Type 0
  LoadRefused p r off old new before after access.OutOfRange = (region_size p r < off + length before) × (new ≡ old) × (after ≡ before)
  LoadRefused p r off old new before after access.ReadOnly = ⊥
  LoadRefused p r off old new before after why = (off + length before ≤ region_size p r) × LoadStopped p r off old new before after why

  -- ---- a store

  -- these bytes were stored, piece by piece
  abbrev pub RangeStored : SharedPager S J → (region off : ℕ) → List ℕ → (old new : PassesSeen (StripeBox S J)) → Type 0
  RangeStored p r off bytes old new = AccessesDone (page_stripe p) for_store old new (saves (range_pieces p r off (length bytes)) bytes)

  -- `done` bytes were stored, by the pieces before one
  pub record StoreStopped (p : SharedPager S J) (r off : ℕ) (bytes : List ℕ) (old new : PassesSeen (StripeBox S J)) (why : Access) : Type 0 where
    pub done : ℕ
    pub stopped : AccessesStopped (page_stripe p) for_store (λ k place its. Save k place its) (range_pieces p r off (length bytes)) done bytes old new why

  -- the range lies in the region, which may be stored to
  abbrev pub IsStorable : SharedPager S J → (region off len : ℕ) → Type 0
  IsStorable p r off len = (off + len ≤ region_size p r) × (region_writable p r ≡ true)

  abbrev pub StoreRefused : SharedPager S J → (region off : ℕ) → List ℕ → (old new : PassesSeen (StripeBox S J)) → Access → Type 0
  StoreRefused p r off bytes old new access.OutOfRange = (region_size p r < off + length bytes) × (new ≡ old)
  StoreRefused p r off bytes old new access.ReadOnly = (off + length bytes ≤ region_size p r) × (region_writable p r ≡ false) × (new ≡ old)
  StoreRefused p r off bytes old new why = IsStorable p r off (length bytes) × StoreStopped p r off bytes old new why
