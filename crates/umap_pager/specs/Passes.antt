-- What contracts see of a caller's passes, when they are of a pager, and what a call did that stays in one stripe.
use Rattle.std.specs.Prelude.{ℕ, ◌+◌, ◌<◌, ◌≡◌, List, length, map, slice_get, slice_set, Some}
use Rattle.page_model.specs.declared.entry.Entry.{Entry}
use Rattle.page_model.specs.Setups.{Setup}
use Rattle.histories.specs.Histories.{GoesOn}
use Rattle.turn_lock.specs.Seen.{LockSeen, PassSeen, IsPassOf, HaveTheirParts, split_once, newcomer, folded}
use Rattle.locked_stripe.specs.declared.stripe_box.StripeBox.{StripeBox}
use Rattle.locked_stripe.specs.declared.answers.Served.{Served}
use Rattle.locked_stripe.specs.declared.answers.Back.{Back}
use Rattle.locked_stripe.specs.Serves.{ServesOne, MakesRoom}
use Rattle.locked_stripe.specs.Terms.{locked_setup}
use Rattle.umap_pager.specs.declared.config.SplitFault.{SplitFault}
use Rattle.umap_pager.specs.declared.config.SplitFault.TheVariants.{NoSpare, OutOfMemory}
use Rattle.umap_pager.specs.Shared.{SharedPager}

-- a pass for each stripe, in order of number, and the bytes of the scratch page
pub record PassesSeen (T : Type 0) : Type 0 where
  pub passes : List (PassSeen T Entry)
  pub scratch : ℕ

abbrev pub passes_seen : {T : Type 0} → List (PassSeen T Entry) → List ℕ → PassesSeen T
passes_seen passes scratch = record { passes = passes; scratch = length scratch }

-- so many holds are left to the pass of a stripe
abbrev pub IsLeftIn : {T : Type 0} → ℕ → PassesSeen T → (left : ℕ) → Type 0
IsLeftIn {T} s p left = (pass : PassSeen T Entry) → slice_get p.passes s ≡ Some pass → left + pass.holds ≡ pass.lock.holds

-- this is the number of the pass of a stripe
abbrev pub IsNumberIn : {T : Type 0} → ℕ → PassesSeen T → (number : ℕ) → Type 0
IsNumberIn {T} s p number = (pass : PassSeen T Entry) → slice_get p.passes s ≡ Some pass → number ≡ pass.number

-- no pass is out that was split off one of these
abbrev pub AreAlone : {T : Type 0} → PassesSeen T → Type 0
AreAlone {T} p = (s : ℕ) (pass : PassSeen T Entry) → slice_get p.passes s ≡ Some pass → pass.out ≡ 0

module _ {S J : Type 0} where
  -- a pass of each lock, in order, none in a hold, and a scratch page
  pub record FitTo (pager : SharedPager S J) (p : PassesSeen (StripeBox S J)) : Type 0 where
    pub as_many : length p.passes ≡ length pager.locks
    pub each : (s : ℕ) (lock : LockSeen (StripeBox S J)) (pass : PassSeen (StripeBox S J) Entry) → slice_get pager.locks s ≡ Some lock → slice_get p.passes s ≡ Some pass → IsPassOf lock pass
    pub sized : p.scratch ≡ pager.layout.page_size

  -- the pass of this stripe alone changed, and so
  pub record InStripe (s : ℕ) (pager : SharedPager S J) (old new : PassesSeen (StripeBox S J)) (Did : Setup → (old new : PassSeen (StripeBox S J) Entry) → Type 0) : Type 0 where
    pub lock : LockSeen (StripeBox S J)
    pub before : PassSeen (StripeBox S J) Entry
    pub after : PassSeen (StripeBox S J) Entry
    pub lock_is : slice_get pager.locks s ≡ Some lock
    pub before_is : slice_get old.passes s ≡ Some before
    pub after_is : new.passes ≡ slice_set old.passes s after
    pub scratch : new.scratch ≡ old.scratch
    pub did : Did (locked_setup lock) before after

  -- its pass has fewer than two holds left
  pub record IsSpentAt (s : ℕ) (pager : SharedPager S J) (old : PassesSeen (StripeBox S J)) : Type 0 where
    pub lock : LockSeen (StripeBox S J)
    pub pass : PassSeen (StripeBox S J) Entry
    pub lock_is : slice_get pager.locks s ≡ Some lock
    pub pass_is : slice_get old.passes s ≡ Some pass
    pub spent : lock.holds < pass.holds + 2

  -- a stripe did one step of service
  abbrev pub ServesIn : ℕ → SharedPager S J → (old new : PassesSeen (StripeBox S J)) → Served → Type 0
  ServesIn s pager old new served = InStripe s pager old new (λ u before after. ServesOne u before after served)

  -- a stripe made room
  abbrev pub MakesRoomIn : ℕ → SharedPager S J → (old new : PassesSeen (StripeBox S J)) → Back → Type 0
  MakesRoomIn s pager old new back = InStripe s pager old new (λ u before after. MakesRoom u before after back)

-- ---- further passes

module _ {T : Type 0} where
  -- each pass may split a further one off
  abbrev pub HaveSpare : PassesSeen T → Type 0
  HaveSpare p = (s : ℕ) (pass : PassSeen T Entry) → slice_get p.passes s ≡ Some pass → pass.spare ≡ 0 → ⊥

  -- `NoSpare` comes exactly where a pass has none to split off
  abbrev pub IsRefusedSplit : PassesSeen T → SplitFault → Type 0
  IsRefusedSplit p NoSpare = HaveSpare p → ⊥
  IsRefusedSplit p OutOfMemory = HaveSpare p

  -- the passes after each split one off, and those that were split off
  abbrev pub split_all : PassesSeen T → PassesSeen T
  split_all p = record p { passes = map split_once p.passes }

  abbrev pub newcomers : PassesSeen T → PassesSeen T
  newcomers p = record p { passes = map newcomer p.passes }

  -- the passes are the locks' first ones
  abbrev pub AreFirst : PassesSeen T → Type 0
  AreFirst p = (s : ℕ) (pass : PassSeen T Entry) → slice_get p.passes s ≡ Some pass → pass.number ≡ 0

  -- a first pass after another was folded into it: what both had seen is a part of what it has seen now
  pub record FoldsOne (old other new : PassSeen T Entry) : Type 0 where
    pub is : new ≡ folded old other
    pub own : GoesOn old.seen new.seen
    pub its : GoesOn other.seen new.seen
    pub parts : HaveTheirParts new.seen new.ended

  -- in each stripe
  pub record FoldsAll (old other new : PassesSeen T) : Type 0 where
    pub as_many : length new.passes ≡ length old.passes
    pub scratch : new.scratch ≡ old.scratch
    pub each : (s : ℕ) (a b c : PassSeen T Entry) → slice_get old.passes s ≡ Some a → slice_get other.passes s ≡ Some b → slice_get new.passes s ≡ Some c → FoldsOne a b c
