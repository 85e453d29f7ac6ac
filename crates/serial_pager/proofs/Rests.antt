-- A stripe that is at rest again: no lane went out, or one went out and came back.
use Rattle.std.proofs.Common.{List, None, Option, Some, ap, inl, inr, refl, slice_get, subst, sym, true, ℕ, ◌∙◌, ◌≡◌, ◌<◌}
use Rattle.std.proofs.lemmas.Bool.{cases_eq}
use Rattle.page_base.specs.Lanes.{LaneSeen}
use Rattle.page_model.specs.Core.{RegionSeen, Home, is_home_place, place_passes, Core, is_home, Reading, Writing, next, region_at, why_pending}
use Rattle.page_model.specs.Steps.{on_region, put_back, placed, read_missed}
use Rattle.serial_pager.proofs.Lists.{slice_set_same, slice_set_other}
use Rattle.histories.specs.Histories.{History}
use Rattle.page_model.specs.declared.entry.Entry.{Entry}
use Rattle.page_model.specs.Setups.{Setup, regions}
use Rattle.page_model.specs.Stands.{StandsFor}
use Rattle.serial_pager.specs.Rests.{IsAtRest, IsBounded}
use Rattle.page_base.specs.declared.keys.Key.{Key}
use Rattle.page_model.specs.declared.seen.Next.TheVariants as serve
use Rattle.page_model.specs.Steps as step
use Rattle.serial_pager.specs.declared.fault.PageFault.{PageFault}
use Rattle.serial_pager.specs.InsideServices.{Fills, Misses, Writes, FailsToWrite}
use Rattle.serial_pager.proofs.ModelLaws.{Laws}

pub on_region_here : (r : ℕ) (f : RegionSeen → RegionSeen) (gs : List RegionSeen) (g : RegionSeen) → slice_get gs r ≡ Some g → slice_get (on_region r f gs) r ≡ Some (f g)
on_region_here r f gs g e =
    let P : Option RegionSeen → Type 0 = λ o. slice_get (put_back gs r f o) r ≡ Some (f g) in
    subst P (sym e) (slice_set_same gs r g (f g) e)

pub on_region_other : (r : ℕ) (f : RegionSeen → RegionSeen) (gs : List RegionSeen) (q : ℕ) → (q ≡ r → ⊥) → slice_get (on_region r f gs) q ≡ slice_get gs q
on_region_other r f gs q ne = go (slice_get gs r)
  where
    go : (o : Option RegionSeen) → slice_get (put_back gs r f o) q ≡ slice_get gs q
    go None = refl
    go (Some g) = slice_set_other gs r q (f g) ne

-- the lane of region r is home, and no other region changed
pub record Back (r : ℕ) (lane : LaneSeen) (gs hs : List RegionSeen) : Type 0 where
  pub old : RegionSeen
  pub new : RegionSeen
  pub was : slice_get gs r ≡ Some old
  pub is : slice_get hs r ≡ Some new
  pub place : new.place ≡ Home lane
  pub others : (q : ℕ) → (q ≡ r → ⊥) → slice_get hs q ≡ slice_get gs q

-- two changes of one region, the second of which puts its lane home
pub back_twice : (r : ℕ) (lane : LaneSeen) (gs : List RegionSeen) (f g : RegionSeen → RegionSeen) (old : RegionSeen) → slice_get gs r ≡ Some old
    → ((x : RegionSeen) → (g x).place ≡ Home lane)
    → Back r lane gs (on_region r g (on_region r f gs))
back_twice r lane gs f g old e home = record {
  old = old;
  new = g (f old);
  was = e;
  is = on_region_here r g (on_region r f gs) (f old) (on_region_here r f gs old e);
  place = home (f old);
  others = λ q ne. on_region_other r g (on_region r f gs) q ne ∙ on_region_other r f gs q ne;
}

module _ (r : ℕ) (lane : LaneSeen) (gs hs : List RegionSeen) (b : Back r lane gs hs) where
  pub back_home : (q : ℕ) → place_passes is_home_place (slice_get gs q) ≡ true → place_passes is_home_place (slice_get hs q) ≡ true
  back_home q e = elim (cases_eq q r) [
    | inl is ↦ let P : ℕ → Type 0 = λ i. place_passes is_home_place (slice_get hs i) ≡ true in subst P (sym is) (ap (place_passes is_home_place) b.is ∙ ap is_home_place b.place)
    | inr ne ↦ ap (place_passes is_home_place) (b.others q ne) ∙ e
  ]

-- ---- a stripe that is at rest again

pub still_rests : (c d : Core) (h : History Entry) → IsAtRest c → StandsFor h d → d.setup ≡ c.setup
    → ((r : ℕ) → is_home c r ≡ true → is_home d r ≡ true) → IsAtRest d
still_rests c d h rest st same home = record {
  history = h;
  stands = st;
  home = λ r lt. home r (rest.home r (subst (λ (s : Setup). r < regions s) same lt));
  bounded = subst IsBounded (sym same) rest.bounded;
}

-- no region changed
pub rests_alike : (c d : Core) (h : History Entry) → IsAtRest c → StandsFor h d → d.setup ≡ c.setup → d.regions ≡ c.regions → IsAtRest d
rests_alike c d h rest st same alike = still_rests c d h rest st same
    (λ r e. subst (λ (gs : List RegionSeen). is_home (record d { regions = gs }) r ≡ true) (sym alike) e)

-- a lane went out and came back
pub rests_back : (c d : Core) (h : History Entry) (r : ℕ) (lane : LaneSeen) → IsAtRest c → StandsFor h d → d.setup ≡ c.setup → Back r lane c.regions d.regions → IsAtRest d
rests_back c d h r lane rest st same back = still_rests c d h rest st same
    (λ q e. back_home r lane c.regions d.regions back q e)

-- ---- the services that send a lane out: made of their steps, and what they leave of the regions

module _ (c m d : Core) (k : Key) (lane : LaneSeen) where
  pub makes_fills : (bytes : List ℕ) → next c ≡ serve.Read k → m ≡ step.start_read c k → d ≡ step.filled m k bytes lane → Fills c d
  makes_fills bytes n start end = record { key = k; bytes = bytes; lane = lane; next = n; is = end ∙ ap (λ (x : Core). step.filled x k bytes lane) start }

  pub makes_misses : (f : PageFault) → f.key ≡ k → next c ≡ serve.Read k → m ≡ step.start_read c k → d ≡ step.read_failed m k lane lane.count → Misses c d f
  makes_misses f key n start end = record {
    lane = lane;
    next = n ∙ ap serve.Read (sym key);
    is = end ∙ (ap (λ (x : Core). step.read_failed x k lane lane.count) start ∙ ap (λ (x : Key). step.read_failed (step.start_read c x) x lane lane.count) (sym key));
  }

  pub makes_writes : m ≡ step.start_write c k → d ≡ step.written m k lane → Writes k c d
  makes_writes start end = record { lane = lane; is = end ∙ ap (λ (x : Core). step.written x k lane) start }

  pub makes_unwritten : (f : PageFault) → f.key ≡ k → m ≡ step.start_write c k → d ≡ step.write_failed m k lane → FailsToWrite k c d f
  makes_unwritten f key start end = record { key = key; lane = lane; is = end ∙ ap (λ (x : Core). step.write_failed x k lane) start }

-- ---- the regions then

module _ (laws : Laws) (c d : Core) (rest : IsAtRest c) where
  at_home : (r : ℕ) → is_home c r ≡ true → (g : RegionSeen) × (region_at c r ≡ Some g)
  at_home r e = let x = laws.knows.here c r e in (x.1.region, x.1.is)

  pub back_filled : (w : Fills c d) → Back w.key.region w.lane c.regions d.regions
  back_filled w =
      let g = at_home w.key.region (laws.knows.read rest.history c w.key rest.stands w.next).home in
      subst (λ (hs : List RegionSeen). Back w.key.region w.lane c.regions hs) (sym (ap (λ (x : Core). x.regions) w.is))
      (back_twice w.key.region w.lane c.regions (placed (Reading w.key c.events (why_pending c w.key))) (placed (Home w.lane)) g.0 g.1 (λ x. refl))

  pub back_missed : (f : PageFault) (w : Misses c d f) → Back f.key.region w.lane c.regions d.regions
  back_missed f w =
      let g = at_home f.key.region (laws.knows.read rest.history c f.key rest.stands w.next).home in
      subst (λ (hs : List RegionSeen). Back f.key.region w.lane c.regions hs) (sym (ap (λ (x : Core). x.regions) w.is))
      (back_twice f.key.region w.lane c.regions (placed (Reading f.key c.events (why_pending c f.key))) (read_missed f.key w.lane w.lane.count) g.0 g.1 (λ x. refl))

  pub back_written : (k : Key) → is_home c k.region ≡ true → (w : Writes k c d) → Back k.region w.lane c.regions d.regions
  back_written k home w =
      let g = at_home k.region home in
      subst (λ (hs : List RegionSeen). Back k.region w.lane c.regions hs) (sym (ap (λ (x : Core). x.regions) w.is))
      (back_twice k.region w.lane c.regions (placed (Writing k c.events)) (placed (Home w.lane)) g.0 g.1 (λ x. refl))

  pub back_unwritten : (k : Key) → is_home c k.region ≡ true → (f : PageFault) (w : FailsToWrite k c d f) → Back k.region w.lane c.regions d.regions
  back_unwritten k home f w =
      let g = at_home k.region home in
      subst (λ (hs : List RegionSeen). Back k.region w.lane c.regions hs) (sym (ap (λ (x : Core). x.regions) w.is))
      (back_twice k.region w.lane c.regions (placed (Writing k c.events)) (placed (Home w.lane)) g.0 g.1 (λ x. refl))

  pub rests_filled : (h : History Entry) → StandsFor h d → Fills c d → IsAtRest d
  rests_filled h st w = rests_back c d h w.key.region w.lane rest st (ap (λ (x : Core). x.setup) w.is) (back_filled w)

  pub rests_missed : (h : History Entry) → StandsFor h d → (f : PageFault) → Misses c d f → IsAtRest d
  rests_missed h st f w = rests_back c d h f.key.region w.lane rest st (ap (λ (x : Core). x.setup) w.is) (back_missed f w)

  pub rests_written : (h : History Entry) → StandsFor h d → (k : Key) → is_home c k.region ≡ true → Writes k c d → IsAtRest d
  rests_written h st k home w = rests_back c d h k.region w.lane rest st (ap (λ (x : Core). x.setup) w.is) (back_written k home w)

  pub rests_unwritten : (h : History Entry) → StandsFor h d → (k : Key) → is_home c k.region ≡ true → (f : PageFault) → FailsToWrite k c d f → IsAtRest d
  rests_unwritten h st k home f w = rests_back c d h k.region w.lane rest st (ap (λ (x : Core). x.setup) w.is) (back_unwritten k home f w)
