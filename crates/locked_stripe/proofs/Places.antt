-- What a read and a write of a trip's page say of its lane.
use Rattle.std.proofs.Common.{List, None, Option, Some, ap, arith, subst, sym, true, ℕ, ◌∙◌, ◌≡◌, ◌≤◌, is_some}
use Rattle.page_base.specs.Lanes.{LaneSeen, told_at}
use Rattle.store_trait.specs.Lanes.{ChangesOnly, retold}
use Rattle.store_trait.specs.Laws.{ToldPages}
use Rattle.page_model.specs.Trips.{WithPage, OtherPages}

module _ (told_pages : ToldPages) where
  -- what was written stands in the page, where it is told
  pub write_stands : (taken lane : LaneSeen) (p : ℕ) (bytes : List ℕ) → lane.origin ≡ taken.origin → told_at lane.told p ≡ retold (told_at taken.told p) bytes → ChangesOnly p taken.told lane.told → taken.count ≤ lane.count → WithPage p bytes taken lane
  write_stands taken lane p bytes origin written others count = record {
    origin = origin;
    page = λ there. written ∙ told_pages.written (told_at taken.told p) bytes there;
    others = others.others;
    count = count;
  }

-- a write that failed left every other page
pub write_leaves : (taken lane : LaneSeen) (p : ℕ) → lane.origin ≡ taken.origin → ChangesOnly p taken.told lane.told → taken.count ≤ lane.count → OtherPages p taken lane
write_leaves taken lane p origin others count = record {
  origin = origin;
  page = λ there. others.stays_told ∙ there;
  others = others.others;
  count = count;
}
