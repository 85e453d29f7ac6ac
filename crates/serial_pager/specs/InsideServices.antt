-- The services of a stripe whose lanes are all home, each by the steps that it takes.
use Rattle.std.specs.Prelude.{◌≡◌, ℕ, ◌⊎◌, ◌≢◌, Bool, true, false, not, ◌||◌, if◌then◌else◌, List}
use Rattle.page_base.specs.declared.keys.Key.{Key}
use Rattle.page_base.specs.declared.keys.Why.{Why}
use Rattle.page_base.specs.declared.keys.Why.TheVariants.{Write, Protected}
use Rattle.page_base.specs.Lanes.{LaneSeen}
use Rattle.page_model.specs.declared.seen.Next.TheVariants as serve
use Rattle.page_model.specs.Core.{Core, next, is_dirty, is_present, is_guarded}
use Rattle.page_model.specs.Events.{IsPicked}
use Rattle.page_model.specs.Steps as step
use Rattle.stripe_core.specs.Answers.{raise_answer}
use Rattle.stripe_core.specs.declared.answers.Raise.TheVariants as raise
use Rattle.serial_pager.specs.declared.fault.PageFault.{PageFault}

-- a store finds the page missing or protected
abbrev pub is_shut : Core → Key → Bool
is_shut c k = not (is_present c k) || is_guarded c k

-- and raises it for this reason
abbrev pub why_shut : Core → Key → Why
why_shut c k = if is_present c k then Protected else Write

-- the page waits from now on, for this reason where it didn't wait before, unless no further fault may wait
abbrev pub Raises : Key → Why → (c d : Core) → Type 0
Raises k why c d = ((raise_answer c k ≡ raise.Raised) × (d ≡ step.raise c k why)) ⊎ ((raise_answer c k ≢ raise.Raised) × (d ≡ c))

-- a fault that nobody waits for was withdrawn
pub record Drops (c d : Core) : Type 0 where
  pub key : Key
  pub next : next c ≡ serve.Drop key
  pub is : d ≡ step.drop_raise c key

-- a protected page was opened to stores
pub record Opens (c d : Core) : Type 0 where
  pub key : Key
  pub next : next c ≡ serve.Open key
  pub is : d ≡ step.open_page c key

-- a page was read in
pub record Fills (c d : Core) : Type 0 where
  pub key : Key
  pub bytes : List ℕ
  pub lane : LaneSeen
  pub next : next c ≡ serve.Read key
  pub is : d ≡ step.filled (step.start_read c key) key bytes lane

-- a page's read failed
pub record Misses (c d : Core) (f : PageFault) : Type 0 where
  pub lane : LaneSeen
  pub next : next c ≡ serve.Read f.key
  pub is : d ≡ step.read_failed (step.start_read c f.key) f.key lane lane.count

-- a page was written back
pub record Writes (k : Key) (c d : Core) : Type 0 where
  pub lane : LaneSeen
  pub is : d ≡ step.written (step.start_write c k) k lane

-- a page's write failed
pub record FailsToWrite (k : Key) (c d : Core) (f : PageFault) : Type 0 where
  pub key : f.key ≡ k
  pub lane : LaneSeen
  pub is : d ≡ step.write_failed (step.start_write c k) k lane

-- a write of the page failed, or the page was written back
abbrev pub Tries : Key → (failed : Bool) → (c d : Core) → Type 0
Tries k true c d = (f : PageFault) × FailsToWrite k c d f
Tries k false c d = Writes k c d

-- a page is picked to leave, and may have to be written before
pub record Picks (c : Core) (k : Key) : Type 0 where
  pub room : next c ≡ serve.Room
  pub picked : IsPicked c k

-- the pick was written back, since it was dirty
pub record Cleans (c d : Core) : Type 0 where
  pub key : Key
  pub picks : Picks c key
  pub dirty : is_dirty c key ≡ true
  pub writes : Writes key c d

-- the pick was evicted, since it was clean
pub record Evicts (c d : Core) : Type 0 where
  pub key : Key
  pub picks : Picks c key
  pub clean : is_dirty c key ≡ false
  pub is : d ≡ step.evict c key

-- a read failed, of another page than k
abbrev pub MissesOther : Key → (c d : Core) → Type 0
MissesOther k c d = (f : PageFault) × ((f.key ≡ k → ⊥) × Misses c d f)

-- a service that page k can go on after
abbrev pub Serves : Key → (c d : Core) → Type 0
Serves k c d = Drops c d ⊎ (Opens c d ⊎ (Fills c d ⊎ (MissesOther k c d ⊎ (Cleans c d ⊎ Evicts c d))))
