use Rattle.store_trait.proofs.Told.{told_of_page, read_is_told, written_is_told}
use Rattle.store_trait.proofs.laws.told_pages.Goals as goal

pub returns : goal.returns
returns c = record { read = read_is_told; written = written_is_told; by_function = told_of_page }
