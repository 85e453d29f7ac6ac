-- What a call did over all stripes.
use Rattle.std.specs.Prelude.{ℕ, ◌+◌, ◌*◌, ◌≤◌, ◌≡◌, ◌&&◌, Bool, true, false, List, [], ◌∷◌, ◌++◌, filter, length, reverse, slice_get, Option, Some, None}
use Rattle.std.specs.List.{list_all}
use Rattle.histories.specs.Histories.{History, Alone, Grew}
use Rattle.page_base.specs.declared.keys.Key.{Key}
use Rattle.page_base.specs.declared.keys.Why.{Why}
use Rattle.page_model.specs.declared.entry.Entry.{Entry}
use Rattle.page_model.specs.declared.entry.Entry.TheVariants.{Load, Save, StartWrite, Evicted, Hint, Closing, Unmapped}
use Rattle.page_model.specs.Entries.{is_access, of_stripe}
use Rattle.turn_lock.specs.Seen.{PassSeen}
use Rattle.locked_stripe.specs.declared.answers.Access.{Access}
use Rattle.locked_stripe.specs.Calls.{AllHome, Because, HoldsAreFew, is_for_room, is_try}
use Rattle.locked_stripe.specs.Holds.{PassGrew}
use Rattle.umap_pager.specs.Passes.{PassesSeen}

-- ---- what an access makes beside itself

-- an entry is an access, or a service, or raises the fault of the page at hand for one of these reasons
abbrev pub is_part : (Why → Bool) → Key → Entry → Bool
is_part reasons k (Load j place bytes) = true
is_part reasons k (Save j place bytes) = true
is_part reasons k e = is_try k reasons e

-- the page that was at hand before an entry
abbrev pub at_hand : Key → Entry → Key
at_hand k (Load j place bytes) = j
at_hand k (Save j place bytes) = j
at_hand k e = k

-- Entries, the newest first, behind the last of which page k was at hand: accesses, services, and for each access only faults of
-- its own page, for these reasons.
abbrev pub are_tries : (Why → Bool) → Key → List Entry → Bool
are_tries reasons k [] = true
are_tries reasons k (e ∷ es) = is_part reasons k e && are_tries reasons (at_hand k e) es

module _ {T : Type 0} where
  -- one stripe's pass made these entries, in however many holds; where there is no such stripe there are none
  abbrev pub PassWent : (old new : Option (PassSeen T Entry)) → List Entry → Type 0
  PassWent None None own = own ≡ []
  PassWent (Some old) (Some new) own = (times : ℕ) × PassGrew old new times own
  PassWent old new own = ⊥

  -- A call: the entries that it made in each stripe, the newest first, and among them these accesses, in order.
  pub record WentOver (stripe : Key → ℕ) (old new : PassesSeen T) (accesses : List Entry) (own : ℕ → List Entry) : Type 0 where
    pub each : (s : ℕ) → PassWent (slice_get old.passes s) (slice_get new.passes s) (own s)
    pub in_order : (s : ℕ) → filter is_access (own s) ≡ reverse (of_stripe stripe s accesses)
    pub scratch : new.scratch ≡ old.scratch

  -- ---- how many holds it made

  -- in one stripe at most four for each entry, where nobody else makes one
  abbrev pub FewIn : (old new : Option (PassSeen T Entry)) → Type 0
  FewIn (Some old) (Some new) = HoldsAreFew old new
  FewIn old new = Unit {0}

  -- and four more
  pub record HoldsStayFew (old new : PassSeen T Entry) : Type 0 where
    pub few : Alone old.number old.seen new.seen → AllHome old.seen → new.holds + 4 * length old.mine ≤ old.holds + 4 * (length new.mine + 1)

  abbrev pub StaysFewIn : (old new : Option (PassSeen T Entry)) → Type 0
  StaysFewIn (Some old) (Some new) = HoldsStayFew old new
  StaysFewIn old new = Unit {0}

  -- ---- why it ended early

  -- by what its pass of one stripe has seen
  abbrev pub BecauseIn : (old new : Option (PassSeen T Entry)) → Key → Access → Type 0
  BecauseIn (Some old) (Some new) k why = Because old new k why
  BecauseIn old new k why = ⊥

-- ---- as histories show it

-- an access, its fault, or what serves faults and makes room for that
abbrev pub is_serving : Entry → Bool
is_serving (StartWrite k cause) = is_for_room cause
is_serving (Evicted k cause) = is_for_room cause
is_serving (Hint k answer) = false
is_serving (Closing r) = false
is_serving (Unmapped r) = false
is_serving e = true

module _ {T : Type 0} where
  abbrev pub seen_or_none : Option (PassSeen T Entry) → History Entry
  seen_or_none None = []
  seen_or_none (Some pass) = pass.seen

  abbrev pub number_or_0 : Option (PassSeen T Entry) → ℕ
  number_or_0 None = 0
  number_or_0 (Some pass) = pass.number

  -- by the stripe's number: what its pass has seen, and the pass's number; nothing and 0 where there is no such stripe
  abbrev pub seen_at : PassesSeen T → ℕ → History Entry
  seen_at p s = seen_or_none (slice_get p.passes s)

  abbrev pub owner_at : PassesSeen T → ℕ → ℕ
  owner_at p s = number_or_0 (slice_get p.passes s)

module _ (T : Type 0) where
  -- one call after another is a call
  abbrev pub WentTwice : Type 0
  WentTwice =
      (stripe : Key → ℕ) (old mid new : PassesSeen T) (first second : List Entry) (own more : ℕ → List Entry)
      → WentOver stripe old mid first own → WentOver stripe mid new second more
      → WentOver stripe old new (first ++ second) (λ s. more s ++ own s)

  -- what the passes have seen grew by the call's entries, their numbers stay, and what tries for accesses serves
  pub record WentKnows : Type 0 where
    pub grew : (stripe : Key → ℕ) (old new : PassesSeen T) (accesses : List Entry) (own : ℕ → List Entry) → WentOver stripe old new accesses own
        → (s : ℕ) → Grew (owner_at old s) (seen_at old s) (seen_at new s) (own s)
    pub owners : (stripe : Key → ℕ) (old new : PassesSeen T) (accesses : List Entry) (own : ℕ → List Entry) → WentOver stripe old new accesses own
        → (s : ℕ) → owner_at new s ≡ owner_at old s
    pub serving : (reasons : Why → Bool) (k : Key) (own : List Entry) → are_tries reasons k own ≡ true → list_all is_serving own ≡ true
