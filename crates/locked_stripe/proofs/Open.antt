-- Trips over two holds.
use Rattle.std.proofs.Common.{◌≡◌, ℕ, Bool, List, ◌∷◌, sym, subst, ap, ◌∙◌}
use Rattle.histories.specs.Histories.{History, Others}
use Rattle.page_base.specs.declared.keys.Key.{Key}
use Rattle.page_model.specs.declared.entry.Entry.{Entry}
use Rattle.page_model.specs.Core.{Core}
use Rattle.page_model.specs.Setups.{Setup}
use Rattle.page_model.specs.Stands.{StandsFor}
use Rattle.page_model.specs.InFlight.{WritesTaken}
use Rattle.page_model.specs.Trips.{Trip, IsOpen}
use Rattle.locked_stripe.specs.InsideTrips.{TookBytes}
use Rattle.page_model.specs.Laws.{TripsStayOpen, StaysOpen}

-- a trip that this owner began is open in its next hold
pub still_open : TripsStayOpen → (w : Bool) (u : Setup) (g h : History Entry) (o p : ℕ) (x : Core) (t : Trip) → Others o g h → StandsFor h x → x.setup ≡ u → o ≡ p → IsOpen w u g p t → StaysOpen w x.setup g h o t
still_open law w u g h o p x t others s same num open_ =
    law w g h o x t others s (subst (λ (v : Setup). IsOpen w v g o t) (sym same) (subst (λ (q : ℕ). IsOpen w u g q t) (sym num) open_))

-- a trip that began is open in what the pass has seen
pub open_now : (w : Bool) (v u : Setup) (h seen : History Entry) (o n : ℕ) (e f : Entry) (t : Trip) → IsOpen w v ((o, e) ∷ h) o t → v ≡ u → e ≡ f → n ≡ o → seen ≡ (o, f) ∷ h → IsOpen w u seen n t
open_now w v u h seen o n e f t open_ same key num is =
    subst (λ (q : ℕ). IsOpen w u seen q t) (sym num)
    (subst (λ (z : History Entry). IsOpen w u z o t) (sym is)
    (subst (λ (x : Entry). IsOpen w u ((o, x) ∷ h) o t) key
    (subst (λ (s : Setup). IsOpen w s ((o, e) ∷ h) o t) same open_)))

-- and its bytes are those that it took
pub taken_now : (v u : Setup) (h seen : History Entry) (o : ℕ) (e : Entry) (k j : Key) (bytes : List ℕ) → WritesTaken v ((o, e) ∷ h) k bytes → v ≡ u → k ≡ j → seen ≡ (o, e) ∷ h → TookBytes u seen j bytes
taken_now v u h seen o e k j bytes taken same key is =
    subst (λ (q : Key). TookBytes u seen q bytes) key
    (subst (λ (z : History Entry). TookBytes u z k bytes) (sym is)
    (subst (λ (s : Setup). TookBytes s ((o, e) ∷ h) k bytes) same (record { taken = taken })))
