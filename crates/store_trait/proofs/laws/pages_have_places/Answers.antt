use Rattle.store_trait.proofs.Places.{place_of, page_back}
use Rattle.store_trait.proofs.laws.pages_have_places.Goals as goal

pub returns : goal.returns
returns c = record { place = place_of; page = page_back }
