use Rattle.store_trait.proofs.Shares.{page_of-append, page_of-appended}
use Rattle.store_trait.proofs.laws.pages_append.Goals as goal

pub returns : goal.returns
returns c = record { earlier = page_of-append; last = page_of-appended }
