-- How a stripe that stands for a history goes on.
use Rattle.std.proofs.Common.{◌≡◌, ◌≢◌, ◌∷◌, ◌∙◌, ℕ, List, refl, sym, subst}
use Rattle.histories.specs.Histories.{History}
use Rattle.page_base.specs.declared.keys.Key.{Key}
use Rattle.page_base.specs.declared.keys.Why.{Why}
use Rattle.page_model.specs.declared.entry.Entry.{Entry}
use Rattle.page_model.specs.declared.entry.Entry.TheVariants as entry
use Rattle.page_model.specs.Core.{Core}
use Rattle.page_model.specs.InFlight.{in_flight, before_of, WritesTaken}
use Rattle.page_model.specs.Memory.{flat}
use Rattle.page_model.specs.Setups.{Setup, is_told}
use Rattle.page_model.specs.Trips.{Trip, IsOpenWrite}
use Rattle.std.specs.Bool.{OnTrue}
use Rattle.page_model.specs.Stands.{StandsFor}
use Rattle.stripe_core.specs.declared.answers.Look.{Look}
use Rattle.stripe_core.specs.declared.answers.Look.TheVariants as look
use Rattle.stripe_core.specs.declared.answers.Raise.{Raise}
use Rattle.stripe_core.specs.declared.answers.Raise.TheVariants as raise
use Rattle.core_bench.specs.Hands.{CoreGoesOn, Stands}

pub same_goes : (c d : Core) → d ≡ c → CoreGoesOn c d
same_goes c d e = subst (CoreGoesOn c) (sym e) (record { setup = refl; later = λ h s. record { history = h; is = s; flight = λ r. refl } })

pub goes_twice : (c d e : Core) → CoreGoesOn c d → CoreGoesOn d e → CoreGoesOn c e
goes_twice c d e a b = record {
  setup = b.setup ∙ a.setup;
  later = λ h s.
      let one = a.later h s in
      let two = b.later one.history one.is in
      record { history = two.history; is = two.is; flight = λ r. two.flight r ∙ one.flight r };
}

-- an entry that is neither a start nor an end
pub entry_goes : (c d : Core) (e : Entry) → d.setup ≡ c.setup → ((h : History Entry) (o : ℕ) → StandsFor h c → StandsFor ((o, e) ∷ h) d)
    → ((h : History Entry) (r : ℕ) → in_flight ((0, e) ∷ h) r ≡ in_flight h r) → CoreGoesOn c d
entry_goes c d e setup stands flight = record { setup = setup; later = λ h s. record { history = (0, e) ∷ h; is = stands h 0 s; flight = flight h } }

pub raise_goes : (c d : Core) (k : Key) (why : Why) (a : Raise) → d.setup ≡ c.setup
    → (a ≡ raise.Raised → (h : History Entry) (o : ℕ) → StandsFor h c → StandsFor ((o, entry.Raised k why) ∷ h) d) → (a ≢ raise.Raised → d ≡ c) → CoreGoesOn c d
raise_goes c d k why raise.Raised setup stands same = entry_goes c d (entry.Raised k why) setup (stands refl) (λ h r. refl)
raise_goes c d k why raise.Pending setup stands same = same_goes c d (same (λ e. absurd cc))
raise_goes c d k why raise.QueueFull setup stands same = same_goes c d (same (λ e. absurd cc))

pub look_goes : (c d : Core) (e : Entry) (a : Look) → d.setup ≡ c.setup
    → (a ≡ look.Hit → (h : History Entry) (o : ℕ) → StandsFor h c → StandsFor ((o, e) ∷ h) d) → (a ≢ look.Hit → d ≡ c)
    → ((h : History Entry) (r : ℕ) → in_flight ((0, e) ∷ h) r ≡ in_flight h r) → CoreGoesOn c d
look_goes c d e look.Hit setup stands same flight = entry_goes c d e setup (stands refl) flight
look_goes c d e look.Missing setup stands same flight = same_goes c d (same (λ e. absurd cc))
look_goes c d e look.Protected setup stands same flight = same_goes c d (same (λ e. absurd cc))
look_goes c d e look.Closed setup stands same flight = same_goes c d (same (λ e. absurd cc))

-- a write that is out is so still
pub open_later : (s : Setup) (h g : History Entry) (o : ℕ) (t : Trip) → ((r : ℕ) → in_flight g r ≡ in_flight h r) → IsOpenWrite s h o t → IsOpenWrite s g o t
open_later s h g o t flight x = record { before = x.before; is = flight t.key.region ∙ x.is; at_is = x.at_is; taken = x.taken }

pub taken_later : (s : Setup) (h g : History Entry) (k : Key) (bytes : List ℕ) → ((r : ℕ) → in_flight g r ≡ in_flight h r) → WritesTaken s h k bytes → WritesTaken s g k bytes
taken_later s h g k bytes flight x = subst (λ f. OnTrue (is_told s k) (bytes ≡ flat s (before_of f) k)) (sym (flight k.region)) x

pub stands_still : (c d : Core) → CoreGoesOn c d → Stands c → Stands d
stands_still c d on s = let l = on.later s.history s.is in record { history = l.history; is = l.is }
