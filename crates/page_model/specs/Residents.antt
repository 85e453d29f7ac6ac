-- Resident pages, reads under way, and frames. A frame holds one page of bytes; a read under way has one reserved.
use Rattle.std.specs.Prelude.{ℕ, ◌-◌, Bool, not, List, [], ◌∷◌, ◌++◌, length, filter, find, ◌==◌, Option}
use Rattle.std.specs.List.{range_with_len, list_any}
use Rattle.histories.specs.Histories.{History}
use Rattle.page_base.specs.declared.keys.Key.{Key}
use Rattle.page_base.specs.Pages.{same}
use Rattle.page_model.specs.declared.entry.Entry.{Entry}
use Rattle.page_model.specs.declared.entry.Entry.TheVariants.{Filled, Evicted}
use Rattle.page_model.specs.Setups.{Setup, regions, quota}
use Rattle.page_model.specs.InFlight.{in_flight, is_a_read}

abbrev pub without : Key → List Key → List Key
without k = filter (λ j. not (same j k))

-- the pages with a Filled and no later Evicted, in order of that Filled: the oldest first
abbrev pub residents : History Entry → List Key
residents [] = []
residents ((o, Filled k) ∷ h) = residents h ++ k ∷ []
residents ((o, Evicted k why) ∷ h) = without k (residents h)
residents (e ∷ h) = residents h

abbrev pub is_in : Key → List Key → Bool
is_in k = list_any (λ j. same j k)

abbrev pub is_resident : History Entry → Key → Bool
is_resident h k = is_in k (residents h)

-- how many regions have a read in flight
abbrev pub reads_out : Setup → History Entry → ℕ
reads_out s h = length (filter (λ r. is_a_read (in_flight h r)) (range_with_len 0 (regions s)))

-- the frames that the stripe has: so far its quota, whatever happened
abbrev pub frames_held : Setup → History Entry → ℕ
frames_held s h = quota s

abbrev pub free_frames : Setup → History Entry → ℕ
free_frames s h = frames_held s h - length (residents h) - reads_out s h

-- the oldest resident page of region r
abbrev pub oldest_of : History Entry → ℕ → Option Key
oldest_of h r = find (λ k. k.region == r) (residents h)
