use Rattle.page_model.proofs.ByPiece.{accesses_by_piece as lemma}
use Rattle.page_model.proofs.laws.accesses_by_piece.Goals as goal

pub returns : goal.returns
returns c = lemma
