-- The pages that a history speaks of, and its accesses.
use Rattle.std.proofs.Common.{Some, ap, nat_lt, slice_get, true, ◌==◌, ◌∙◌, ◌≡◌}
use Rattle.std.proofs.lemmas.Bool.{and_parts, eqb-true}
use Rattle.std.proofs.lemmas.List.Elements.{filter-append}
use Rattle.std.specs.List.{filter}
use Rattle.histories.specs.Histories.{calls_of}
use Rattle.histories.specs.Relations.{CallsOfBoth}
use Rattle.page_base.specs.Pages.{stripe_of}
use Rattle.page_base.specs.declared.keys.Key.{Key}
use Rattle.page_base.specs.declared.keys.RegionShape.{RegionShape}
use Rattle.page_model.specs.declared.entry.Entry.{Entry}
use Rattle.page_model.specs.Entries.{is_access}
use Rattle.page_model.specs.Laws.{AccessesOfBoth, PagesAreOfStripe}
use Rattle.page_model.specs.Setups.{Setup, has_page, is_page_of}
use Rattle.page_model.proofs.Known.{pending_pages, resident_pages}
use Rattle.page_model.proofs.Prefixes.{page_region}
use Rattle.page_model.proofs.Since.{flight_page}

in_stripe : (s : Setup) (k : Key) (shape : RegionShape) → slice_get s.shapes k.region ≡ Some shape → has_page s k ≡ true → stripe_of s.stripes shape.group k.region k.page ≡ s.number
in_stripe s k shape is has =
    let here : is_page_of s (Some shape) k ≡ true = rw is at has in
    eqb-true (stripe_of s.stripes shape.group k.region k.page) s.number (and_parts (nat_lt k.page shape.pages) (stripe_of s.stripes shape.group k.region k.page == s.number) here).1

pub pages_of_stripe : PagesAreOfStripe
pages_of_stripe = record { region = page_region; stripe = in_stripe; residents = resident_pages; pending = pending_pages; in_flight = flight_page }

pub accesses_both : CallsOfBoth Entry → AccessesOfBoth
accesses_both both o later old = ap (λ es. filter is_access es) (both o later old) ∙ filter-append is_access (calls_of o later) (calls_of o old)
