-- What pages hold by the accesses of their owners alone.
use Rattle.std.specs.Prelude.{◌≡◌, ℕ, ◌==◌, Bool, true, false, List, [], ◌∷◌, ◌++◌}
use Rattle.std.specs.List.{list_all, list_any}
use Rattle.histories.specs.Histories.{History, by}
use Rattle.page_base.specs.declared.keys.Key.{Key}
use Rattle.page_model.specs.declared.entry.Entry.{Entry}
use Rattle.page_model.specs.declared.entry.Entry.TheVariants.{Load, Save}
use Rattle.page_model.specs.Entries.{accesses_of}
use Rattle.page_model.specs.Memory.{flat, LoadsLatest}
use Rattle.page_model.specs.Setups.{Setup}
use Rattle.page_model.specs.Legal.{IsLegal}

-- the entry loads or stores to a page of its owner's, or does neither
abbrev pub is_owners : (owner_of : Key → ℕ) → ℕ × Entry → Bool
is_owners owner_of (o, Load k place bytes) = o == owner_of k
is_owners owner_of (o, Save k place bytes) = o == owner_of k
is_owners owner_of x = true

-- each page is loaded and stored to by one owner alone
abbrev pub OneOwner : (owner_of : Key → ℕ) → History Entry → Type 0
OneOwner owner_of h = list_all (is_owners owner_of) h ≡ true

-- each load of these accesses, the newest first, gives what its page holds by the accesses before it
abbrev pub LoadsFollow : Setup → List Entry → Type 0
LoadsFollow s [] = Unit {0}
LoadsFollow s (Load k place bytes ∷ es) = LoadsLatest s (by 0 es) k place bytes × LoadsFollow s es
LoadsFollow s (e ∷ es) = LoadsFollow s es

-- what a page holds is what its owner's own accesses make of it
abbrev pub OwnBytes : Type 0
OwnBytes =
    (s : Setup) (owner_of : Key → ℕ) (h : History Entry) (k : Key)
    → OneOwner owner_of h → flat s h k ≡ flat s (by 0 (accesses_of (owner_of k) h)) k

-- the accesses of some owners, one owner's behind the other's; the last of them is the first to have made any
abbrev pub joined_accesses : History Entry → (owners : List ℕ) → List Entry
joined_accesses h [] = []
joined_accesses h (o ∷ os) = accesses_of o h ++ joined_accesses h os

-- none of these owners stands twice
abbrev pub AreApart : List ℕ → Type 0
AreApart [] = Unit {0}
AreApart (o ∷ os) = (list_any (λ p. p == o) os ≡ false) × AreApart os

-- Where each page has one owner, owners may as well have made their accesses one behind the other.
pub record InTurn (s : Setup) (owner_of : Key → ℕ) (h : History Entry) (owners : List ℕ) : Type 0 where
  pub follow : LoadsFollow s (joined_accesses h owners)
  pub holds : (k : Key) → list_any (λ p. p == owner_of k) owners ≡ true → flat s h k ≡ flat s (by 0 (joined_accesses h owners)) k

abbrev pub OwnersInTurn : Type 0
OwnersInTurn =
    (s : Setup) (owner_of : Key → ℕ) (h : History Entry) (owners : List ℕ)
    → IsLegal s h → OneOwner owner_of h → AreApart owners → InTurn s owner_of h owners
