use Rattle.page_base.proofs.Leasts.{least-empty, least-first, least-found, least-none, least-only}
use Rattle.page_base.proofs.laws.least_is_first.Goals as goal

pub returns : goal.returns
returns c = record { found = least-found; first = least-first; only = least-only; none = least-none; empty = least-empty }
