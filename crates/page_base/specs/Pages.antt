-- Which stripe a page belongs to, how many frames a stripe has, and between which marks it evicts.
use Rattle.std.specs.Prelude.{ℕ, ◌+◌, ◌*◌, ◌/◌, ◌%◌, Bool, ◌&&◌, ◌==◌, nat_lt, if◌then◌else◌}
use Rattle.page_base.specs.declared.keys.Key.{Key}

-- the two keys name one page
abbrev pub same : Key → Key → Bool
same a b = (a.page == b.page) && (a.region == b.region)

-- the stripe of a page: `group` pages lie together, and the groups go round the stripes from the region's number on
abbrev pub stripe_of : (stripes group region page : ℕ) → ℕ
stripe_of stripes group region page = (region + page / group) % stripes

-- the frames of one stripe: the first `frames % stripes` stripes have one more
abbrev pub quota_of : (frames stripes stripe : ℕ) → ℕ
quota_of frames stripes stripe = if nat_lt stripe (frames % stripes) then frames / stripes + 1 else frames / stripes

-- a stripe starts to evict at this many resident pages: `high` percent of the quota, rounded up
abbrev pub on_mark : (quota high : ℕ) → ℕ
on_mark quota high = (quota * high + 99) / 100

-- and stops at this many: `low` percent, rounded down
abbrev pub off_mark : (quota low : ℕ) → ℕ
off_mark quota low = quota * low / 100
