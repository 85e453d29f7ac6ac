-- The lanes of a stripe that has just been made.
use Rattle.std.proofs.Common.{◌≡◌, ℕ, zero, suc, ◌<◌, true, List, [], ◌∷◌, length, map, arith, refl, ap, ◌∙◌}
use Rattle.std.specs.List.{slice_get}
use Rattle.page_base.specs.Lanes.{LaneSeen}
use Rattle.page_base.specs.declared.keys.RegionShape.{RegionShape}
use Rattle.page_model.specs.Core.{Core, Home, RegionSeen, is_home, is_home_place, place_passes}
use Rattle.page_model.specs.Steps.{fresh_regions}
use Rattle.umap_pager.specs.InsideOpened.{IsFresh}

home_in : (shapes : List RegionShape) (lanes : List LaneSeen) (r : ℕ) → length lanes ≡ length shapes → r < length shapes → place_passes is_home_place (slice_get (fresh_regions shapes lanes) r) ≡ true
home_in [] lanes r same below = absurd (omega (arith, below))
home_in (s ∷ ss) [] r same below = absurd (omega (arith, same))
home_in (s ∷ ss) (l ∷ ls) zero same below = refl
home_in (s ∷ ss) (l ∷ ls) (suc r) same below = home_in ss ls r (omega (arith, same)) (omega (arith, below))

pub fresh_home : (c : Core) → IsFresh c → (r : ℕ) → r < length c.setup.shapes → is_home c r ≡ true
fresh_home c new r below = ap (λ (d : Core). is_home d r) new.is ∙ home_in c.setup.shapes c.setup.lanes r new.lanes below

places : (shapes : List RegionShape) (lanes : List LaneSeen) → length lanes ≡ length shapes → map (λ (g : RegionSeen). g.place) (fresh_regions shapes lanes) ≡ map Home lanes
places [] [] same = refl
places [] (l ∷ ls) same = absurd (omega (arith, same))
places (s ∷ ss) [] same = absurd (omega (arith, same))
places (s ∷ ss) (l ∷ ls) same = ap (λ ps. Home l ∷ ps) (places ss ls (omega (arith, same)))

home_is : (a b : LaneSeen) → Home a ≡ Home b → a ≡ b
home_is a b e = cc

module _ {S : Type 0} (seen : S → LaneSeen) where
  same_lanes : (own : List S) (lanes : List LaneSeen) → map (λ (s : S). Home (seen s)) own ≡ map Home lanes → map seen own ≡ lanes
  same_lanes [] [] e = refl
  same_lanes [] (l ∷ ls) e = absurd cc
  same_lanes (x ∷ xs) [] e = absurd cc
  same_lanes (x ∷ xs) (l ∷ ls) e =
      let first : Home (seen x) ≡ Home l = cc in
      let rest : map (λ (s : S). Home (seen s)) xs ≡ map Home ls = cc in
      ap (λ z. z ∷ map seen xs) (home_is (seen x) l first) ∙ ap (λ zs. l ∷ zs) (same_lanes xs ls rest)

  pub fresh_lanes : (c : Core) (own : List S) → IsFresh c → map (λ (s : S). Home (seen s)) own ≡ map (λ (g : RegionSeen). g.place) c.regions → map seen own ≡ c.setup.lanes
  fresh_lanes c own new e = same_lanes own c.setup.lanes (e ∙ ap (λ (d : Core). map (λ (g : RegionSeen). g.place) d.regions) new.is ∙ places c.setup.shapes c.setup.lanes new.lanes)
