-- What the events of a stripe say of the histories that it stands for.
use Rattle.std.specs.Prelude.{ℕ, List, ◌∷◌, slice_get, Some, ◌≡◌}
use Rattle.histories.specs.Histories.{History}
use Rattle.page_base.specs.declared.keys.Key.{Key}
use Rattle.page_base.specs.Lanes.{LaneSeen}
use Rattle.page_model.specs.declared.entry.Cause.{Cause}
use Rattle.page_model.specs.declared.entry.Entry.{Entry}
use Rattle.page_model.specs.declared.entry.Entry.TheVariants.{StartRead, StartWrite, Written}
use Rattle.page_model.specs.Core.{Core}
use Rattle.page_model.specs.InFlight.{WritesTaken}
use Rattle.page_model.specs.Stands.{StandsFor, HomeLane}
use Rattle.page_model.specs.Trips.{Trip, IsOpenRead, IsOpenWrite}

-- the stripe made this entry: whatever history it stood for, it stands for that history with the entry, by any owner, at its end
abbrev pub StandsAfter : Entry → Core → Core → Type 0
StandsAfter e old new = (h : History Entry) (o : ℕ) → StandsFor h old → StandsFor ((o, e) ∷ h) new

-- ---- a trip that starts

-- the read is open where its start is the last entry
abbrev pub OpensRead : Core → Trip → Type 0
OpensRead c t = (h : History Entry) (o : ℕ) → StandsFor h c → IsOpenRead c.setup ((o, StartRead t.key) ∷ h) o t

-- the write of the page is open where its start is the last entry
abbrev pub OpensWrite : Core → Key → Cause → Trip → Type 0
OpensWrite c k why t = (h : History Entry) (o : ℕ) → StandsFor h c → IsOpenWrite c.setup ((o, StartWrite k why) ∷ h) o t

-- these are the bytes that the write takes along
abbrev pub TakesBytes : Core → Key → Cause → List ℕ → Type 0
TakesBytes c k why bytes = (h : History Entry) (o : ℕ) → StandsFor h c → WritesTaken c.setup ((o, StartWrite k why) ∷ h) k bytes

-- ---- a trip that ends

-- the read is open in a history that the stripe stands for
abbrev pub HasOpenRead : Core → Trip → Type 0
HasOpenRead c t = (h : History Entry) × (o : ℕ) × StandsFor h c × IsOpenRead c.setup h o t

-- the write is open in a history that the stripe stands for
abbrev pub HasOpenWrite : Core → Trip → Type 0
HasOpenWrite c t = (h : History Entry) × (o : ℕ) × StandsFor h c × IsOpenWrite c.setup h o t

-- the write is open, and took these bytes along, in a history that the stripe stands for
abbrev pub HasTaken : Core → Trip → List ℕ → Type 0
HasTaken c t bytes = (h : History Entry) × (o : ℕ) × StandsFor h c × IsOpenWrite c.setup h o t × WritesTaken c.setup h t.key bytes

-- the stripe made this entry, by the owner whose read is open
abbrev pub EndsRead : Trip → Entry → Core → Core → Type 0
EndsRead t e old new =
    (h : History Entry) (o : ℕ) → StandsFor h old → IsOpenRead old.setup h o t → StandsFor ((o, e) ∷ h) new

-- the stripe made this entry, by the owner whose write is open
abbrev pub EndsWrite : Trip → Entry → Core → Core → Type 0
EndsWrite t e old new =
    (h : History Entry) (o : ℕ) → StandsFor h old → IsOpenWrite old.setup h o t → StandsFor ((o, e) ∷ h) new

-- the stripe ended the write of these bytes well, by the owner whose write is open and took them along
abbrev pub EndsWritten : Trip → List ℕ → Core → Core → Type 0
EndsWritten t bytes old new =
    (h : History Entry) (o : ℕ) → StandsFor h old → IsOpenWrite old.setup h o t → WritesTaken old.setup h t.key bytes
    → StandsFor ((o, Written t.key t.at bytes) ∷ h) new

-- ---- the end

-- by region, these are lanes as they are at home, for each history that the stripe stood for
abbrev pub AreHomeLanes : {S : Type 0} → (S → LaneSeen) → Core → List S → Type 0
AreHomeLanes {S} seen c lanes =
    (h : History Entry) → StandsFor h c → (r : ℕ) (lane : S) → slice_get lanes r ≡ Some lane → HomeLane c.setup h r (seen lane)
