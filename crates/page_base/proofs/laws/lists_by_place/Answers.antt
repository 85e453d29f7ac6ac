use Rattle.page_base.proofs.Places.{same_items, slice_get-push_cases}
use Rattle.page_base.proofs.laws.lists_by_place.Goals as goal

pub returns : goal.returns
returns g c = record { equal = same_items; grown = slice_get-push_cases }
