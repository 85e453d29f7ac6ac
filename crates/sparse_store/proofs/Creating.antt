-- A store that was created, or refused with its metadata not written.
use Rattle.std.proofs.Common.{◌≡◌, inl, inr, ℕ, ◌<◌, ◌≤◌, Bool, true, false, List, ◌++◌, map, length, take, slice_get, Option, Some, None, refl, sym, ap, subst, ◌∙◌, arith}
use Rattle.std.specs.Option.{IfSome, is_some, option_map}
use Rattle.std.specs.Prelude.{Err, IsSomeAnd}
use Rattle.file_store.specs.Parts.{PartName, PartSeen, WhereTold}
use Rattle.file_store.specs.Shelves.{Shelf, file_at}
use Rattle.file_store.specs.Folders.{opened, IsOpenedWhole, WritesNew, OnlyFile, TellsLength}
use Rattle.file_store.specs.declared.folder.FolderFault.{FolderFault}
use Rattle.file_store.specs.declared.folder.FolderFault.TheVariants as folder
use Rattle.sparse_store.specs.declared.meta.Meta.{Meta}
use Rattle.sparse_store.specs.declared.meta.TheConstants.{MOST_META_NUMBER}
use Rattle.sparse_store.specs.Metas.{meta_text}
use Rattle.sparse_store.specs.Closings.{AreAllOut, ClosesEach}
use Rattle.sparse_store.specs.InsideStores.{AreApart}
use Rattle.sparse_store.specs.Files.{meta_path, file_path, file_names, IsShape, NoneOutIn, AreFilesOpened}
use Rattle.sparse_store.specs.InsideStores.{AreFiles}
use Rattle.sparse_store.specs.Openings.{of_folder, Creates, LeavesMeta, LeavesFiles}
use Rattle.sparse_store.proofs.FilePaths.{not_meta}
use Rattle.sparse_store.proofs.OpeningFiles.{first_names, seen_apart, left_same, names_map, names_out}

pub same_there : (t : Option (List ℕ)) (answer : Option ℕ) → TellsLength t answer → is_some answer ≡ is_some t
same_there None answer e = ap is_some e
same_there (Some bytes) answer e = ap is_some e

pub not_there : (t : Option (List ℕ)) (there : Bool) → there ≡ is_some t → there ≡ false → t ≡ None
not_there None there is absent = refl
not_there (Some bytes) there is absent = absurd (apart (sym is ∙ absent))
  where
    apart : true ≡ false → ⊥
    apart e = cc

pub created : (dir : List ℕ) (m : Meta) (path : List ℕ) (t u v : Option Shelf) → path ≡ meta_path dir → u ≡ option_map (opened (file_names dir m)) t → WhereTold (OnlyFile path) u v → IfSome v (λ s. file_at s.files path ≡ Some (meta_text m)) → WhereTold (Creates dir m) t v
created dir m path t u v is out only there =
    go t v (subst (λ (w : Option Shelf). WhereTold (OnlyFile (meta_path dir)) w v) out (subst (λ (q : List ℕ). WhereTold (OnlyFile q) u v) is only))
    (subst (λ (q : List ℕ). IfSome v (λ s. file_at s.files q ≡ Some (meta_text m))) is there)
  where
    go : (t v : Option Shelf) → WhereTold (OnlyFile (meta_path dir)) (option_map (opened (file_names dir m)) t) v → IfSome v (λ s. file_at s.files (meta_path dir) ≡ Some (meta_text m)) → WhereTold (Creates dir m) t v
    go None None only there = tt
    go None (Some v) only there = absurd only
    go (Some t) None only there = absurd only
    go (Some t) (Some v) only there = record { meta = there; elsewhere = only.elsewhere; out = only.out }

module _ {P : Type 0} (seen : P → PartSeen) (dir : List ℕ) (m : Meta) (xs : List P) (shape : IsShape m) (told : Option Shelf) (opens : AreFilesOpened seen told dir m xs) where
  few : length xs ≤ MOST_META_NUMBER
  few = omega (arith, opens.count, shape.few_files)

  pub are_files : AreFiles seen dir m xs
  are_files = record { count = opens.count; names = λ k x got. (opens.each k x got).name_is }

  pub parts_apart : AreApart (map seen xs)
  parts_apart = seen_apart seen dir m.file xs few (λ k x got. (opens.each k x got).name_is)

  module _ (names : map (λ (x : P). (seen x).name) xs ≡ file_names dir m) where
    pub parts_out : (u v : Option Shelf) → (path : List ℕ) → u ≡ option_map (opened (file_names dir m)) told → WhereTold (OnlyFile path) u v → IfSome v (λ s. AreAllOut (map seen xs) s.out)
    parts_out u v path out only = go told v (subst (λ (w : Option Shelf). WhereTold (OnlyFile path) w v) out only)
      where
        go : (t v : Option Shelf) → WhereTold (OnlyFile path) (option_map (opened (file_names dir m)) t) v → IfSome v (λ s. AreAllOut (map seen xs) s.out)
        go t None only = tt
        go None (Some v) only = absurd only
        go (Some t) (Some v) only = subst (AreAllOut (map seen xs)) (sym only.out) (names_out (map seen xs) t.out (file_names dir m) (names_map seen xs ∙ names))

    left_meta : (fault : FolderFault) (old mid new : Option (List ℕ)) → old ≡ None → WritesNew (meta_text m) (Err fault) mid → new ≡ mid → LeavesMeta (of_folder fault) (meta_text m) old new
    left_meta (folder.Failed faults) old None new none wrote same = inl (same ∙ sym none)
    left_meta (folder.Failed faults) old (Some front) new none wrote same = inr (none, subst (λ (t : Option (List ℕ)). IsSomeAnd t (λ f. (n : ℕ) × (n < length (meta_text m)) × (f ≡ take n (meta_text m)))) (sym same) wrote)
    left_meta folder.OutOfMemory old mid new none wrote same = same ∙ wrote ∙ sym none
    left_meta folder.Missing old mid new none wrote same = absurd wrote
    left_meta (folder.TooShort have need) old mid new none wrote same = absurd wrote

    pub refused : (fault : FolderFault) (u v w : Option Shelf) (path : List ℕ) → path ≡ meta_path dir → u ≡ option_map (opened (file_names dir m)) told → IfSome told (λ s. NoneOutIn dir s.out) → IfSome told (λ s. file_at s.files path ≡ None) → WhereTold (OnlyFile path) u v → IfSome v (λ s. WritesNew (meta_text m) (Err fault) (file_at s.files path)) → WhereTold (ClosesEach (map seen xs)) v w → WhereTold (LeavesFiles dir m (of_folder fault)) told w
    refused fault u v w path is out none absent only wrote closes =
        go told v w opens.each none
        (subst (λ (q : List ℕ). IfSome told (λ s. file_at s.files q ≡ None)) is absent)
        (subst (λ (t : Option Shelf). WhereTold (OnlyFile (meta_path dir)) t v) out (subst (λ (q : List ℕ). WhereTold (OnlyFile q) u v) is only))
        (subst (λ (q : List ℕ). IfSome v (λ s. WritesNew (meta_text m) (Err fault) (file_at s.files q))) is wrote) closes
      where
        all : file_names dir m ≡ first_names dir m.file (length xs)
        all = ap (first_names dir m.file) (sym opens.count)

        go : (t v w : Option Shelf) → ((k : ℕ) (x : P) → slice_get xs k ≡ Some x → IsOpenedWhole t (file_path dir k) m.file (seen x)) → IfSome t (λ s. NoneOutIn dir s.out) → IfSome t (λ s. file_at s.files (meta_path dir) ≡ None) → WhereTold (OnlyFile (meta_path dir)) (option_map (opened (file_names dir m)) t) v → IfSome v (λ s. WritesNew (meta_text m) (Err fault) (file_at s.files (meta_path dir))) → WhereTold (ClosesEach (map seen xs)) v w → WhereTold (LeavesFiles dir m (of_folder fault)) t w
        go None None None each none absent only wrote closes = tt
        go None None (Some w) each none absent only wrote closes = absurd closes
        go None (Some v) w each none absent only wrote closes = absurd only
        go (Some t) None w each none absent only wrote closes = absurd only
        go (Some t) (Some v) None each none absent only wrote closes = absurd closes
        go (Some t) (Some v) (Some w) each none absent only wrote closes =
            let left = left_same seen dir m.file xs few t v w each (names ∙ all) none (only.out ∙ ap (λ (ns : List PartName). t.out ++ ns) all) (λ k h. only.elsewhere (file_path dir k) (not_meta dir k (omega (arith, h, few)))) closes in
            record {
              meta = left_meta fault (file_at t.files (meta_path dir)) (file_at v.files (meta_path dir)) (file_at w.files (meta_path dir)) absent wrote (left.0 (meta_path dir));
              elsewhere = λ path apart. left.0 path ∙ only.elsewhere path apart;
              out = left.1;
            }

-- the parts that were just opened are out
pub all_out : {P : Type 0} (seen : P → PartSeen) (dir : List ℕ) (m : Meta) (xs : List P) → map (λ (x : P). (seen x).name) xs ≡ file_names dir m
    → (old new : Option Shelf) → new ≡ option_map (opened (file_names dir m)) old → IfSome new (λ s. AreAllOut (map seen xs) s.out)
all_out seen dir m xs names old None is = tt
all_out seen dir m xs names None (Some s) is = absurd (cc)
all_out seen dir m xs names (Some old) (Some s) is =
    subst (λ (t : Option Shelf). IfSome t (λ s. AreAllOut (map seen xs) s.out)) (sym is)
    (names_out (map seen xs) old.out (file_names dir m) (names_map seen xs ∙ names))

-- the parts of a store, whatever they tell, are apart
pub files_apart : {P : Type 0} (seen : P → PartSeen) (dir : List ℕ) (m : Meta) (xs : List P) → IsShape m → AreFiles seen dir m xs → AreApart (map seen xs)
files_apart seen dir m xs shape files = seen_apart seen dir m.file xs (omega (arith, files.count, shape.few_files)) files.names
