-- What the body that deals out shares of memory has done so far.
use Rattle.std.specs.Prelude.{◌≡◌, ℕ, ◌+◌, ◌*◌, ◌/◌, ◌%◌, ◌<◌, ◌≤◌, true, List, length}
use Rattle.page_base.specs.Lanes.{Origin, has_page}
use Rattle.store_trait.specs.Memory.{page_bytes}

-- the bytes reach to the end of each page of the lane
abbrev pub ReachesEach : Origin → (kept : List ℕ) → Type 0
ReachesEach o kept = (p : ℕ) → has_page o p ≡ true → p / o.stripes * o.page_size + o.page_size ≤ length kept

-- where the page that begins at byte `off` of the region begins among the lane's own
abbrev pub start_among : (page_size stripes off : ℕ) → ℕ
start_among page_size stripes off = off / page_size / stripes * page_size

-- and that page lies whole among these bytes
abbrev pub LiesAmong : (page_size stripes off : ℕ) (kept : List ℕ) → Type 0
LiesAmong page_size stripes off kept = start_among page_size stripes off + page_size ≤ length kept

-- `own` has, one after another, those pages of `contents` whose number leaves `first` when it is divided by n
pub record TakesShare (page_size pages n first : ℕ) (contents own : List ℕ) : Type 0 where
  pub reaches : (p : ℕ) → p < pages → p % n ≡ first → p / n * page_size + page_size ≤ length own
  pub same : (p : ℕ) → p < pages → p % n ≡ first → page_bytes page_size own (p / n) ≡ page_bytes page_size contents p
