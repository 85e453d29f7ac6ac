-- Lanes over parts that were just opened.
use Rattle.std.proofs.Common.{◌≡◌, ℕ, zero, suc, ◌<◌, true, List, [], ◌∷◌, map, length, slice_get, slice_index_or, Option, Some, None, refl, sym, ap, subst, ◌∙◌, arith, rules}
use Rattle.std.specs.List.{All}
use Rattle.std.proofs.lemmas.List.{length-map}
use Rattle.page_base.specs.Lanes.{LaneSeen}
use Rattle.file_store.specs.Parts.{PartName, PartSeen}
use Rattle.file_store.specs.Shelves.{Shelf, FolderSeen}
use Rattle.file_store.specs.FileLanes.{is_striped, origin_of, lane_of}
use Rattle.file_store.specs.Folders.{stripe_name, IsPartOpened}
use Rattle.file_store.specs.declared.folder.Cut.{Cut}
use Rattle.region_lanes.specs.InsideOpened.{IsFileLane, IsStriped, AreFileLanes}

slice_get_at : {X : Type 0} (xs : List X) (k : ℕ) (d : X) → k < length xs → slice_get xs k ≡ Some (slice_index_or xs k d)
slice_get_at [] k d h = absurd (omega arith)
slice_get_at (x ∷ xs) zero d h = refl
slice_get_at (x ∷ xs) (suc k) d h = slice_get_at xs k d (omega arith)

slice_get_map : {X Y : Type 0} (f : X → Y) (xs : List X) (k : ℕ) (y : Y) → slice_get (map f xs) k ≡ Some y → (x : X) × (slice_get xs k ≡ Some x) × (y ≡ f x)
slice_get_map f [] k y e = absurd (cc)
slice_get_map f (x ∷ xs) zero y e = (x, refl, cc)
slice_get_map f (x ∷ xs) (suc k) y e = slice_get_map f xs k y e

pub each_striped : {P : Type 0} (seen : P → PartSeen) (told : Option Shelf) (path : List ℕ) (cut : Cut) (xs : List P) → ((s : ℕ) (x : P) → slice_get xs s ≡ Some x → IsPartOpened told (stripe_name path cut s) (seen x)) → ((s : ℕ) (x : P) → slice_get xs s ≡ Some x → (seen x).made ≡ true) → All (λ p. IsStriped (seen p)) xs
each_striped seen told path cut xs opened made = λ k d h.
    let got = slice_get_at xs k d h in
    record { made = made k _ got; striped = ap (λ (n : PartName). is_striped n.extent) (opened k _ got).name_is }

lane_opened : (told : Option Shelf) (path : List ℕ) (cut : Cut) (s : ℕ) (p : PartSeen) → IsPartOpened told (stripe_name path cut s) p → IsFileLane told path cut s (lane_of p)
lane_opened told path cut s p opened = record {
  origin = ap (λ (n : PartName). origin_of n.extent) opened.name_is;
  fresh = opened.fresh;
  tells = opened.holds;
}

pub each_opened : {P : Type 0} (seen : P → PartSeen) (told : Option Shelf) (path : List ℕ) (cut : Cut) (xs : List P) → ((s : ℕ) (x : P) → slice_get xs s ≡ Some x → IsPartOpened told (stripe_name path cut s) (seen x)) → (ls : List LaneSeen) → ls ≡ map (λ p. lane_of (seen p)) xs → (s : ℕ) (l : LaneSeen) → slice_get ls s ≡ Some l → IsFileLane told path cut s l
each_opened seen told path cut xs opened ls is s l got =
    let at = slice_get_map (λ p. lane_of (seen p)) xs s l (ap (λ (ms : List LaneSeen). slice_get ms s) (sym is) ∙ got) in
    subst (IsFileLane told path cut s) (sym at.2) (lane_opened told path cut s (seen at.0) (opened s at.0 at.1))

pub file_lanes : {P : Type 0} (seen : P → PartSeen) (folder : FolderSeen) (path : List ℕ) (cut : Cut) (xs : List P) → length xs ≡ cut.layout.stripes → ((s : ℕ) (x : P) → slice_get xs s ≡ Some x → IsPartOpened folder.told (stripe_name path cut s) (seen x)) → (ls : List LaneSeen) → ls ≡ map (λ p. lane_of (seen p)) xs → AreFileLanes folder path cut ls
file_lanes seen folder path cut xs count opened ls is = record {
  count = ap length is ∙ length-map xs (λ p. lane_of (seen p)) ∙ count;
  each = each_opened seen folder.told path cut xs opened ls is;
}
