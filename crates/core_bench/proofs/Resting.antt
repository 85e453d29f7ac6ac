-- What is known of a stripe with nothing in flight, and how it comes to be so again.
use Rattle.std.proofs.Common.{◌≡◌, ◌<◌, ◌∷◌, ◌∙◌, ◌==◌, if◌then◌else◌, Bool, ℕ, Option, None, Some, true, false, is_none, refl, sym, ap, subst}
use Rattle.histories.specs.Histories.{History}
use Rattle.page_base.specs.declared.keys.Key.{Key}
use Rattle.page_model.specs.declared.entry.Cause.{Cause}
use Rattle.page_model.specs.declared.entry.Entry.{Entry}
use Rattle.page_model.specs.declared.entry.Entry.TheVariants as entry
use Rattle.page_model.specs.Core as core
use Rattle.page_model.specs.InFlight.{InFlight, in_flight, started, ended}
use Rattle.page_model.specs.Readers.{ReadersAgree}
use Rattle.page_model.specs.Setups.{regions}
use Rattle.core_bench.specs.Hands.{IsAtRest, CoreGoesOn}

pub goes_rest : (c d : core.Core) → CoreGoesOn c d → IsAtRest c → IsAtRest d
goes_rest c d on i = let l = on.later i.history i.is in record { history = l.history; is = l.is; flight = λ r. l.flight r ∙ i.flight r }

-- every lane is home
pub home : (c : core.Core) (r : ℕ) → ReadersAgree → IsAtRest c → r < regions c.setup → core.is_home c r ≡ true
home c r agree i below = (agree.regions i.history c r i.is below).home ∙ ap is_none (i.flight r)

-- a start where nothing was in flight, and its end
ends : (k : Key) (r : ℕ) (t : InFlight) (before after : Option InFlight) → t.key ≡ k → before ≡ None → after ≡ started t r before → ended k r after ≡ None
ends k r t before after same none is = go (k.region == r) refl where
  go : (b : Bool) → (k.region == r) ≡ b → ended k r after ≡ None
  go true e = ap (λ b. if b then None else after) e
  go false e = ap (λ b. if b then None else after) e ∙ (is ∙ (ap (λ b. if b then Some t else before) (ap (λ (j : Key). j.region == r) same ∙ e) ∙ none))

pub read_ends : (h : History Entry) (k : Key) → ((r : ℕ) → in_flight h r ≡ None) → (r : ℕ) → ended k r (in_flight ((0, entry.StartRead k) ∷ h) r) ≡ None
read_ends h k none r = ends k r (record { before = h; owner = 0; key = k; writes = false }) (in_flight h r) (in_flight ((0, entry.StartRead k) ∷ h) r) refl (none r) refl

pub write_ends : (h g : History Entry) (k j : Key) (why : Cause) → k ≡ j → ((r : ℕ) → in_flight h r ≡ None)
    → ((r : ℕ) → in_flight g r ≡ in_flight ((0, entry.StartWrite k why) ∷ h) r) → (r : ℕ) → ended j r (in_flight g r) ≡ None
write_ends h g k j why same none flight r = ends j r (record { before = h; owner = 0; key = k; writes = true }) (in_flight h r) (in_flight g r) same (none r) (flight r)

-- where a region's lane is home, none of its pages is being written
pub idle : (c : core.Core) (k : Key) (r : ℕ) → k.region ≡ r → core.is_home c r ≡ true → core.is_writing c k ≡ false
idle c k r same home = go (core.region_at c k.region) (subst (λ q. core.is_home c q ≡ true) (sym same) home) where
  place : (p : core.LanePlace) → core.is_home_place p ≡ true → core.writes p k ≡ false
  place (core.Home lane) e = refl
  place (core.Reading j at why) e = absurd cc
  place (core.Writing j at) e = absurd cc

  go : (g : Option core.RegionSeen) → core.place_passes core.is_home_place g ≡ true → core.place_passes (λ p. core.writes p k) g ≡ false
  go None e = refl
  go (Some g) e = place g.place e
