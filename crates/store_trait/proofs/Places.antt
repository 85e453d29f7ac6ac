-- Where a page lies in its region.
use Rattle.std.proofs.Common.{◌≡◌, ℕ, ◌*◌, ◌/◌, ◌<◌, true, ap, sym, subst, refl}
use Rattle.std.proofs.Math.Nat.{mul-div_cancel}
use Rattle.page_base.specs.Lanes.{Origin, has_page}
use Rattle.store_trait.specs.Lanes.{IsPlace}

pub page_back : (o : Origin) (page : ℕ) → 0 < o.page_size → page * o.page_size / o.page_size ≡ page
page_back o page some = mul-div_cancel page some

pub place_of : (o : Origin) (page : ℕ) → 0 < o.page_size → has_page o page ≡ true → IsPlace o o.page_size (page * o.page_size)
place_of o page some has =
    let back : page * o.page_size / o.page_size ≡ page = page_back o page some in record {
      some = some;
      one_page = refl;
      whole = ap (λ (p : ℕ). p * o.page_size) (sym back);
      of_lane = subst (λ (p : ℕ). has_page o p ≡ true) (sym back) has;
    }
