-- How a stripe and its journal go on, and several of them.
use Rattle.std.specs.Prelude.{◌≡◌, ℕ, ◌+◌, ◌<◌, true, Bool, List, [], ◌∷◌, ◌++◌, length, slice_get, Some}
use Rattle.std.specs.List.{list_all}
use Rattle.histories.specs.Histories.{History, by}
use Rattle.page_model.specs.declared.entry.Entry.{Entry}
use Rattle.page_model.specs.Core.{Core}
use Rattle.page_model.specs.Stands.{StandsFor}
use Rattle.serial_pager.specs.Seen.{StripeSeen}

module _ {J : Type 0} where
  -- By these entries of one owner, the newest first: whatever history the stripe stood for and the journal had noted, they stand
  -- for, and have noted, that history with the entries on top.
  pub record Went (owner : ℕ) (has_noted : J → History Entry → Type 0) (es : List Entry) (old new : StripeSeen J) : Type 0 where
    pub setup : new.core.setup ≡ old.core.setup
    pub events : new.core.events ≡ old.core.events + length es
    pub stands : (h : History Entry) → StandsFor h old.core → StandsFor (by owner es ++ h) new.core
    pub noted : (h : History Entry) → has_noted old.journal h → has_noted new.journal (by owner es ++ h)

  -- By entries that all pass a test, and then this one.
  pub record WentTo (owner : ℕ) (has_noted : J → History Entry → Type 0) (passes : Entry → Bool) (last : Entry) (old new : StripeSeen J) : Type 0 where
    pub before : List Entry
    pub pass : list_all passes before ≡ true
    pub went : Went owner has_noted (last ∷ before) old new

  -- By entries that did this to the data.
  pub record Did (owner : ℕ) (has_noted : J → History Entry → Type 0) (How : Core → List Entry → Core → Type 0) (old new : StripeSeen J) : Type 0 where
    pub entries : List Entry
    pub went : Went owner has_noted entries old new
    pub how : How old.core entries new.core

  -- ---- the stripes of a list, by their numbers

  -- each made these entries, the newest first
  abbrev pub WentEach : (owner : ℕ) (has_noted : J → History Entry → Type 0) → (made : ℕ → List Entry) → (old new : List (StripeSeen J)) → Type 0
  WentEach owner has_noted made old new =
      (s : ℕ) (x y : StripeSeen J) → slice_get old s ≡ Some x → slice_get new s ≡ Some y → Went owner has_noted (made s) x y

  -- each did this by its entries
  pub record EachDid (owner : ℕ) (has_noted : J → History Entry → Type 0) (How : Core → List Entry → Core → Type 0) (old new : List (StripeSeen J)) : Type 0 where
    pub made : ℕ → List Entry  -- by the stripe's number
    pub went : WentEach owner has_noted made old new
    pub how : (s : ℕ) (x y : StripeSeen J) → slice_get old s ≡ Some x → slice_get new s ≡ Some y → How x.core (made s) y.core

  -- the stripes below one did this, that one failed so, and those above it made nothing
  pub record OneFailed (owner : ℕ) (has_noted : J → History Entry → Type 0) (How Fails : Core → List Entry → Core → Type 0) (old new : List (StripeSeen J)) : Type 0 where
    pub stripe : ℕ
    pub below : stripe < length old
    pub made : ℕ → List Entry  -- by the stripe's number
    pub went : WentEach owner has_noted made old new
    pub before : (s : ℕ) (x y : StripeSeen J) → s < stripe → slice_get old s ≡ Some x → slice_get new s ≡ Some y → How x.core (made s) y.core
    pub fails : (x y : StripeSeen J) → slice_get old stripe ≡ Some x → slice_get new stripe ≡ Some y → Fails x.core (made stripe) y.core
    pub above : (s : ℕ) → stripe < s → made s ≡ []
