-- What is seen of a pager.
use Rattle.std.specs.Prelude.{ℕ, List}
use Rattle.stripe_core.specs.declared.config.StripeConfig.{StripeConfig}
use Rattle.serial_pager.specs.Seen.{StripeSeen}
use Rattle.serial_pager.specs.Pagers.{PagerSeen}

-- what contracts see of a pager with these fields
abbrev pub seen_of : {J : Type 0} → StripeConfig → List (StripeSeen J) → (spent : ℕ) → PagerSeen J
seen_of c stripes spent = record { page_size = c.layout.page_size; shapes = c.shapes.items; stripes = stripes; spent = spent }
