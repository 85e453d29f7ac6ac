-- What a write takes along.
use Rattle.std.specs.Prelude.{ℕ, List, Some, ◌≡◌}
use Rattle.page_base.specs.declared.keys.Key.{Key}
use Rattle.page_model.specs.Core.{Core, Resident, page_at}

-- these are the bytes of the page in its frame
pub record IsCopyOf (c : Core) (k : Key) (bytes : List ℕ) : Type 0 where
  pub there : Resident
  pub is : page_at c k ≡ Some there
  pub same_bytes : bytes ≡ there.bytes
