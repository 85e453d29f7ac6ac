-- Faults of the store. A lane counts them, and the count never falls.
use Rattle.std.specs.Prelude.{ℕ, max, true, ◌||◌, nat_lt, ◌==◌, if◌then◌else◌, [], ◌∷◌, ◌≡◌}
use Rattle.histories.specs.Histories.{History}
use Rattle.page_base.specs.declared.keys.Key.{Key}
use Rattle.page_base.specs.Pages.{same}
use Rattle.page_model.specs.declared.entry.Entry.{Entry}
use Rattle.page_model.specs.declared.entry.Entry.TheVariants.{ReadFailed, WriteFailed}
use Rattle.page_model.specs.Setups.{Setup, first_count}

-- the greatest number of a fault of region r so far, or of its lane when the stripe was made
abbrev pub last_fault : Setup → History Entry → ℕ → ℕ
last_fault s [] r = first_count s r
last_fault s ((o, ReadFailed k n) ∷ h) r = if k.region == r then max n (last_fault s h r) else last_fault s h r
last_fault s ((o, WriteFailed k n) ∷ h) r = if k.region == r then max n (last_fault s h r) else last_fault s h r
last_fault s (e ∷ h) r = last_fault s h r

-- the number of the last failed read of page k, 0 where there is none
abbrev pub read_fault : History Entry → Key → ℕ
read_fault [] k = 0
read_fault ((o, ReadFailed j n) ∷ h) k = if same j k then n else read_fault h k
read_fault (e ∷ h) k = read_fault h k

-- a new fault's number is above all earlier ones of its lane, or the last that the count can show
abbrev pub CountsRise : Setup → History Entry → ℕ → ℕ → Type 0
CountsRise s h r n = (nat_lt (last_fault s h r) n || n == 18446744073709551615) ≡ true
