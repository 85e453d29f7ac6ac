-- The counts at the failed reads of a region's pages, as they are kept: one for each page that is the stripe's.
use Rattle.std.specs.Prelude.{ℕ, zero, suc, ◌+◌, ◌*◌, ◌/◌, ◌%◌, ◌==◌, ◌≡◌, Bool, true, nat_lt, if◌then◌else◌, List, [], ◌∷◌, slice_index, slice_get, Some}
use Rattle.page_base.specs.declared.keys.Key.{Key}
use Rattle.page_model.specs.Setups.{has_page}
use Rattle.stripe_core.specs.declared.config.StripeConfig.{StripeConfig}
use Rattle.stripe_core.specs.declared.read_faults.Share.{Share}
use Rattle.stripe_core.specs.Configs.{setup_of}

-- which pages are the stripe's, and by page, of all the region's, the number, 0 where the page isn't the stripe's
pub record ReadFaultsSeen : Type 0 where
  pub share : Share
  pub numbers : List ℕ

-- of the blocks that go round the stripes one a turn is the stripe's: it stands at the same place in each turn
abbrev pub in_share : Share → ℕ → Bool
in_share s page = (page / s.group % s.stripes) == s.first

-- the place of an own page among the own ones
abbrev pub place_in : Share → ℕ → ℕ
place_in s page = page / s.group / s.stripes * s.group + page % s.group

-- what the last turn, which isn't whole, adds: all of the own block, what there is of it, or nothing
abbrev pub in_last_turn : Share → (blocks rest : ℕ) → ℕ
in_last_turn s blocks rest = if blocks == s.first then rest else (if nat_lt s.first blocks then s.group else 0)

-- how many of the pages below this one are own
abbrev pub own_below : Share → ℕ → ℕ
own_below s pages = pages / s.group / s.stripes * s.group + in_last_turn s (pages / s.group % s.stripes) (pages % s.group)

abbrev pub number_at : Share → List ℕ → ℕ → ℕ
number_at s own page = if in_share s page then slice_index own (place_in s page) else 0

-- what this gives from 0 on, so many
abbrev pub listed : (ℕ → ℕ) → ℕ → List ℕ
listed f zero = []
listed f (suc n) = f 0 ∷ listed (λ i. f (suc i)) n

-- the numbers by page, where the own pages have these
abbrev pub spread : Share → List ℕ → ℕ → List ℕ
spread s own pages = listed (number_at s own) pages

-- the pages of the stripe that is made with these are own in this region's share
abbrev pub HasPagesOf : StripeConfig → ℕ → Share → Type 0
HasPagesOf c r share = (k : Key) → k.region ≡ r → has_page (setup_of c []) k ≡ true → in_share share k.page ≡ true

-- by region
abbrev pub AreShares : StripeConfig → List ReadFaultsSeen → Type 0
AreShares c faults = (r : ℕ) (f : ReadFaultsSeen) → slice_get faults r ≡ Some f → HasPagesOf c r f.share
