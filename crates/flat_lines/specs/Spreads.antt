-- How the pages of regions are spread over stripes.
use Rattle.std.specs.Prelude.{ℕ, ◌/◌}
use Rattle.page_base.specs.declared.keys.Key.{Key}
use Rattle.page_base.specs.Pages.{stripe_of}

-- the size of pages, how many stripes they go round, and how many pages of each region lie together
pub record Spread : Type 0 where
  pub page_size : ℕ
  pub stripes : ℕ
  pub group_of : ℕ → ℕ

-- the stripe of a page
abbrev pub stripe_in : Spread → Key → ℕ
stripe_in t k = stripe_of t.stripes (t.group_of k.region) k.region k.page

abbrev pub range_key : (region page : ℕ) → Key
range_key region page = record { region = region; page = page }

-- the page that a byte of a region lies in
abbrev pub piece_key : (page_size region at : ℕ) → Key
piece_key page_size region at = record { region = region; page = at / page_size }
