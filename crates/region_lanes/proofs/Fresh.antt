-- Lanes that were opened and closed with nothing written leave every file as it was.
use Rattle.std.proofs.Common.{◌≡◌, ◌⊎◌, inl, inr, ℕ, ◌+◌, ◌*◌, ◌-◌, ◌<◌, ◌≤◌, Bool, true, false, cond, List, [], ◌∷◌, ◌++◌, length, take, drop, get_or, Option, Some, None, refl, sym, ap, subst, ◌∙◌, arith}
use Rattle.std.specs.Option.{unwrap_or}
use Rattle.std.specs.List.{AllByRecursion}
use Rattle.std.specs.Str.{bytes_eq}
use Rattle.std.proofs.lemmas.Bool.{cases_Bool, cond-true, cond-false, both_ways}
use Rattle.std.proofs.lemmas.List.{places, same_lists, length-take-le, take-append-drop}
use Rattle.std.proofs.lemmas.Nat.{mul-le}
use Rattle.std.proofs.lemmas.Slice.Eq.{bytes_eq-Decides}
use Rattle.page_base.specs.Backings.{Backing, in_memory, in_file, in_files}
use Rattle.page_base.specs.Lanes.{Origin, LaneSeen, has_page, told_at}
use Rattle.store_trait.specs.Memory.{page_bytes, told_by}
use Rattle.store_trait.specs.WholePages.{told_at-told_by}
use Rattle.file_store.specs.Parts.{WhereTold}
use Rattle.file_store.specs.FileLanes.{part_of, backing_path}
use Rattle.file_store.specs.Shelves.{File, Shelf, file_at, own_told, PutsPages, Closes}
use Rattle.region_lanes.specs.Closings.{ClosesIn, ClosesLane, ClosesAll}
use Rattle.region_lanes.proofs.Shown.{PutsShown}
use Rattle.region_lanes.proofs.Files.{holds_contents}

-- a lane of a file tells its own pages of the file's first bytes
pub record IsFresh (files : List File) (path : List ℕ) (l : LaneSeen) : Type 0 where
  pub bytes : List ℕ
  pub there : file_at files path ≡ Some bytes
  pub some : 0 < l.origin.page_size
  pub fits : l.origin.pages * l.origin.page_size ≤ length bytes
  pub tells : l.told ≡ told_by l.origin (page_bytes l.origin.page_size (take (l.origin.pages * l.origin.page_size) bytes))

abbrev pub FreshIn : Backing → List File → LaneSeen → Type 0
FreshIn in_memory files l = Unit {0}
FreshIn (in_file path) files l = IsFresh files path l
FreshIn (in_files path file) files l = ⊥

abbrev pub AllFresh : List File → List LaneSeen → Type 0
AllFresh files ls = AllByRecursion (λ (l : LaneSeen). FreshIn l.origin.backing files l) ls

abbrev pub SameFiles : (old new : List File) → Type 0
SameFiles old new = (path : List ℕ) → file_at new path ≡ file_at old path

page_of_taken : (n k p : ℕ) (bytes : List ℕ) → p * n + n ≤ k → page_bytes n (take k bytes) p ≡ page_bytes n bytes p
page_of_taken n k p bytes inside =
    same_lists _ _ (size bytes (p * n) (p * n + n) k inside) (λ i d h. item bytes (p * n) (p * n + n) k i d inside)
  where
    size : (xs : List ℕ) (a b k : ℕ) → b ≤ k → length (take (b - a) (drop a (take k xs))) ≡ length (take (b - a) (drop a xs))
    size xs a b k h = grind (arith, places)

    item : (xs : List ℕ) (a b k i d : ℕ) → b ≤ k → get_or (take (b - a) (drop a (take k xs))) i d ≡ get_or (take (b - a) (drop a xs)) i d
    item xs a b k i d h = grind (arith, places)

put_same : (o : Origin) (bytes now : List ℕ) → 0 < o.page_size → o.pages * o.page_size ≤ length bytes → PutsPages o (told_by o (page_bytes o.page_size (take (o.pages * o.page_size) bytes))) bytes now → now ≡ bytes
put_same o bytes now some fits puts =
    let k : ℕ = o.pages * o.page_size in
    let front : List ℕ = take k bytes in
    let long : length front ≡ k = length-take-le k bytes fits in
    holds_contents o.page_size o.pages (λ p. Some (page_bytes o.page_size front p)) bytes now front some long fits
    (record { size = puts.size; each = λ p below. puts.each p below ∙ page p below; behind = puts.behind })
    (λ p below. refl)
    ∙ ap (λ (m : ℕ). front ++ drop m bytes) long
    ∙ take-append-drop k bytes
  where
    page : (p : ℕ) → p < o.pages → unwrap_or (own_told o (told_by o (page_bytes o.page_size (take (o.pages * o.page_size) bytes))) p) (page_bytes o.page_size bytes p) ≡ page_bytes o.page_size (take (o.pages * o.page_size) bytes) p
    page p below =
        let k : ℕ = o.pages * o.page_size in
        let told : List (Option (List ℕ)) = told_by o (page_bytes o.page_size (take k bytes)) in
        let inside : p * o.page_size + o.page_size ≤ k = omega (arith, mul-le (p + 1) o.page_size o.pages o.page_size (omega (arith, below)) (omega arith)) in
        elim (cases_Bool (has_page o p)) [
          | inl has ↦ ap (λ x. unwrap_or x (page_bytes o.page_size bytes p)) (cond-true (has_page o p) (told_at told p) None has ∙ told_at-told_by o (page_bytes o.page_size (take k bytes)) p ∙ cond-true (has_page o p) (Some (page_bytes o.page_size (take k bytes) p)) None has)
          | inr other ↦ ap (λ x. unwrap_or x (page_bytes o.page_size bytes p)) (cond-false (has_page o p) (told_at told p) None other) ∙ sym (page_of_taken o.page_size k p bytes inside)
        ]

file_same : (o : Origin) (told : List (Option (List ℕ))) (old new : Option (List ℕ)) (bytes : List ℕ) → old ≡ Some bytes → ((now : List ℕ) → PutsPages o told bytes now → now ≡ bytes) → WhereTold (PutsPages o told) old new → new ≡ old
file_same o told None new bytes e same puts = absurd (cc)
file_same o told (Some b) None bytes e same puts = absurd puts
file_same o told (Some b) (Some now) bytes e same puts =
    let is : b ≡ bytes = cc in
    ap (λ (x : List ℕ). Some x) (same now (subst (λ (x : List ℕ). PutsPages o told x now) is puts) ∙ sym is)

one_same : (b : Backing) (l : LaneSeen) (files : List File) (old new : Shelf) → l.origin.backing ≡ b → FreshIn b files l → SameFiles files old.files → ClosesIn b (part_of l) old new → SameFiles files new.files
one_same in_memory l files old new is fresh same closes = λ path. ap (λ (s : Shelf). file_at s.files path) closes ∙ same path
one_same (in_files own file) l files old new is fresh same closes = absurd fresh
one_same (in_file own) l files old new is fresh same closes = λ path. elim (cases_Bool (bytes_eq own path)) [
  | inl hit ↦
      let e : own ≡ path = (bytes_eq-Decides own path).0 hit in
      subst (λ (q : List ℕ). file_at new.files q ≡ file_at files q) e (here ∙ same own)
  | inr miss ↦ closes.elsewhere path (λ e. both_ways (bytes_eq own path) miss ((bytes_eq-Decides own path).1 (sym (e ∙ ap backing_path is)))) ∙ same path
]
  where
    here : file_at new.files own ≡ file_at old.files own
    here =
        file_same l.origin l.told (file_at old.files own) (file_at new.files own) fresh.bytes (same own ∙ fresh.there)
        (λ now puts. put_same l.origin fresh.bytes now fresh.some fresh.fits (subst (λ (t : List (Option (List ℕ))). PutsPages l.origin t fresh.bytes now) fresh.tells puts))
        (subst (λ (q : List ℕ). WhereTold (PutsPages l.origin l.told) (file_at old.files q) (file_at new.files q)) (ap backing_path is) closes.back)

pub all_same : (ls : List LaneSeen) (files : List File) (old new : Shelf) → AllFresh files ls → SameFiles files old.files → ClosesAll ls old new → SameFiles files new.files
all_same [] files old new fresh same closes = λ path. ap (λ (s : Shelf). file_at s.files path) closes ∙ same path
all_same (l ∷ ls) files old new fresh same closes =
    all_same ls files closes.0 new fresh.1 (one_same l.origin.backing l files old closes.0 refl fresh.0 same closes.1) closes.2
