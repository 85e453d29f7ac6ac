-- Which page sizes, stripes and frames go together.
use Rattle.std.specs.Prelude.{ℕ, ◌≡◌, ◌*◌, Bool, ◌&&◌, ◌||◌, ◌==◌, not, nat_lt, nat_le, if◌then◌else◌, Option, Some, None, Result, MatchResult}
use Rattle.std.specs.Int.{is_power_of_two}
use Rattle.page_base.specs.declared.limits.TheConstants.{LEAST_PAGE_SIZE, MOST_PAGE_SIZE, MOST_FRAMES, MOST_BUFFER_BYTES, MOST_STRIPES}
use Rattle.page_base.specs.declared.faults.LayoutFault.{LayoutFault}
use Rattle.page_base.specs.declared.faults.LayoutFault.TheVariants.{BadPageSize, NoFrames, TooManyFrames, NoStripes, TooManyStripes}

-- a power of two in the range of page sizes
abbrev pub is_page_size : ℕ → Bool
is_page_size n = is_power_of_two n && (nat_le LEAST_PAGE_SIZE n && nat_le n MOST_PAGE_SIZE)

-- the first rule that is broken, if one is
abbrev pub layout_fault : (page_size stripes frames : ℕ) → Option LayoutFault
layout_fault page_size stripes frames =
    if not (is_page_size page_size) then Some BadPageSize else
    (if frames == 0 then Some NoFrames else
    (if nat_lt MOST_FRAMES frames || nat_lt MOST_BUFFER_BYTES (frames * page_size) then Some TooManyFrames else
    (if stripes == 0 then Some NoStripes else
    (if nat_lt MOST_STRIPES stripes || nat_lt frames stripes then Some TooManyStripes else None))))

-- an error is the first rule that is broken, and there is none where none is
abbrev pub IsRefusedBy : {T : Type 0} → Option LayoutFault → Result T LayoutFault → Type 0
IsRefusedBy fault result = MatchResult result (λ made. fault ≡ None) (λ f. fault ≡ Some f)
