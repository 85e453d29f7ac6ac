-- What a hand keeps while its stripe goes on.
use Rattle.std.proofs.Common.{◌≡◌, ◌∙◌, ◌∷◌, ℕ, sym, ap, subst}
use Rattle.histories.specs.Histories.{History}
use Rattle.page_model.specs.declared.entry.Entry.{Entry}
use Rattle.page_model.specs.Core.{Core}
use Rattle.page_model.specs.InFlight.{in_flight}
use Rattle.page_model.specs.Setups.{Setup, quota}
use Rattle.page_model.specs.Stands.{StandsFor}
use Rattle.core_bench.specs.Hands.{IsAtRest, CoreGoesOn}
use Rattle.core_bench.specs.InsideHands.{AreEqualRegions}
use Rattle.core_bench.proofs.Resting.{goes_rest}

abbrev pub InHand : Core → (regions pages scratch frames : ℕ) → Type 0
InHand c regions pages scratch frames = IsAtRest c × AreEqualRegions c.setup regions pages × (scratch ≡ c.setup.page_size) × (frames ≡ quota c.setup)

pub kept : (c d : Core) (regions pages scratch frames : ℕ) → d.setup ≡ c.setup → IsAtRest d → InHand c regions pages scratch frames → InHand d regions pages scratch frames
kept c d regions pages scratch frames e s i =
    (s, subst (λ (u : Setup). AreEqualRegions u regions pages) (sym e) i.1, i.2 ∙ sym (ap (λ (u : Setup). u.page_size) e), i.3 ∙ sym (ap quota e))

pub goes : (c d : Core) (regions pages scratch frames : ℕ) → CoreGoesOn c d → InHand c regions pages scratch frames → InHand d regions pages scratch frames
goes c d regions pages scratch frames on i = kept c d regions pages scratch frames on.setup (goes_rest c d on i.0) i

-- by an event that makes this entry, which is neither a start nor an end
pub makes : (c d : Core) (regions pages scratch frames : ℕ) (e : Entry) → d.setup ≡ c.setup → ((h : History Entry) (o : ℕ) → StandsFor h c → StandsFor ((o, e) ∷ h) d)
    → ((h : History Entry) (r : ℕ) → in_flight ((0, e) ∷ h) r ≡ in_flight h r) → InHand c regions pages scratch frames → InHand d regions pages scratch frames
makes c d regions pages scratch frames e setup stands flight i =
    kept c d regions pages scratch frames setup (record { history = (0, e) ∷ i.0.history; is = stands i.0.history 0 i.0.is; flight = λ r. flight i.0.history r ∙ i.0.flight r }) i
