-- Files by path.
use Rattle.std.proofs.Common.{◌≡◌, ◌≢◌, inl, inr, ℕ, zero, suc, ◌+◌, ◌*◌, ◌<◌, ◌≤◌, Bool, true, false, not, cond, List, [], ◌∷◌, ◌++◌, map, length, take, drop, slice_index_or, slice_set, Option, Some, None, refl, sym, ap, subst, ◌∙◌, arith, rules, append-nil, length-append, length-drop}
use Rattle.std.specs.Prelude.{◌==◌}
use Rattle.std.specs.List.{filter, Contains, range_with_len}
use Rattle.std.specs.Str.{bytes_eq}
use Rattle.std.proofs.lemmas.Bool.{cases_Bool, cond-true, cond-false, both_ways}
use Rattle.std.proofs.lemmas.List.{length-map}
use Rattle.std.proofs.lemmas.Slice.Eq.{bytes_eq-Decides}
use Rattle.std.specs.Option.{unwrap_or, is_some}
use Rattle.std.specs.Cmp.Derive.{both_true}
use Rattle.std.proofs.lemmas.List.Elements.{All-weaker, All-append, All-map}
use Rattle.file_store.specs.Parts.{Extent, striped, whole, PartName, PartSeen, reach, told_pieces, WhereTold}
use Rattle.file_store.specs.Shelves.{File, Shelf, file_at, part_number, same_part, without, PutsBack}
use Rattle.file_store.specs.Folders.{stripe_origin, stripe_name, stripe_names, reached_bytes, IsPartOpened}
use Rattle.file_store.specs.InsideFolders.{stripe_seen}
use Rattle.file_store.specs.MemFiles.{files_in}
use Rattle.file_store.specs.InsideMemFolders.{is_file_at, out_name, out_in, needs, AreLongEnough, PutsPart, IsFirstAt}
use Rattle.file_store.specs.declared.folder.Cut.{Cut}
use Rattle.file_store.specs.declared.files.MemFile.{MemFile}
use Rattle.file_store.specs.declared.files.OutPart.{OutPart}

pub absent : (files : List MemFile) (path : List ℕ) → ((k : ℕ) (d : MemFile) → k < length files → is_file_at path (slice_index_or files k d) ≡ false) → file_at (files_in files) path ≡ None
absent [] path none = refl
absent (f ∷ fs) path none = cond-false (bytes_eq f.path.items path) (Some f.bytes.items) (file_at (files_in fs) path) (none 0 f (omega arith)) ∙ absent fs path (λ k d h. none (suc k) d (omega arith))

pub first_is : (files : List MemFile) (path : List ℕ) (at : ℕ) (d : MemFile) → at < length files → is_file_at path (slice_index_or files at d) ≡ true → ((k : ℕ) (d : MemFile) → k < at → is_file_at path (slice_index_or files k d) ≡ false) → file_at (files_in files) path ≡ Some (slice_index_or files at d).bytes.items
first_is [] path at d inside here before = absurd (omega arith)
first_is (f ∷ fs) path zero d inside here before = cond-true (bytes_eq f.path.items path) (Some f.bytes.items) (file_at (files_in fs) path) here
first_is (f ∷ fs) path (suc at) d inside here before =
    cond-false (bytes_eq f.path.items path) (Some f.bytes.items) (file_at (files_in fs) path) (before 0 f (omega arith))
    ∙ first_is fs path at d (omega arith) here (λ k e h. before (suc k) e (omega arith))

-- a write of a file of another path
pub set_elsewhere : (files : List MemFile) (path : List ℕ) (at : ℕ) (g : MemFile) → is_file_at path g ≡ false → is_file_at path (slice_index_or files at g) ≡ false → file_at (files_in (slice_set files at g)) path ≡ file_at (files_in files) path
set_elsewhere [] path at g new old = refl
set_elsewhere (f ∷ fs) path zero g new old = cond-false (bytes_eq g.path.items path) (Some g.bytes.items) (file_at (files_in fs) path) new ∙ sym (cond-false (bytes_eq f.path.items path) (Some f.bytes.items) (file_at (files_in fs) path) old)
set_elsewhere (f ∷ fs) path (suc at) g new old = ap (cond (bytes_eq f.path.items path) (Some f.bytes.items)) (set_elsewhere fs path at g new old)

-- a write of the first file of its path
pub set_here : (files : List MemFile) (path : List ℕ) (at : ℕ) (g : MemFile) → at < length files → is_file_at path g ≡ true → ((k : ℕ) (d : MemFile) → k < at → is_file_at path (slice_index_or files k d) ≡ false) → file_at (files_in (slice_set files at g)) path ≡ Some g.bytes.items
set_here [] path at g inside here before = absurd (omega arith)
set_here (f ∷ fs) path zero g inside here before = cond-true (bytes_eq g.path.items path) (Some g.bytes.items) (file_at (files_in fs) path) here
set_here (f ∷ fs) path (suc at) g inside here before =
    cond-false (bytes_eq f.path.items path) (Some f.bytes.items) (file_at (files_in (slice_set fs at g)) path) (before 0 f (omega arith))
    ∙ set_here fs path at g (omega arith) here (λ k e h. before (suc k) e (omega arith))

pub filter-map : {X Y : Type 0} (f : X → Y) (p : Y → Bool) (xs : List X) → map f (filter (λ x. p (f x)) xs) ≡ filter p (map f xs)
filter-map f p [] = refl
filter-map f p (x ∷ xs) = elim (cases_Bool (p (f x))) [
  | inl yes_it ↦ ap (map f) (cond-true (p (f x)) (x ∷ filter (λ x. p (f x)) xs) (filter (λ x. p (f x)) xs) yes_it) ∙ ap (λ ys. f x ∷ ys) (filter-map f p xs) ∙ sym (cond-true (p (f x)) (f x ∷ filter p (map f xs)) (filter p (map f xs)) yes_it)
  | inr no_it ↦ ap (map f) (cond-false (p (f x)) (x ∷ filter (λ x. p (f x)) xs) (filter (λ x. p (f x)) xs) no_it) ∙ filter-map f p xs ∙ sym (cond-false (p (f x)) (f x ∷ filter p (map f xs)) (filter p (map f xs)) no_it)
]

-- one more file, of another path
pub push_other : (files : List MemFile) (path : List ℕ) (g : MemFile) → is_file_at path g ≡ false → file_at (files_in (files ++ g ∷ [])) path ≡ file_at (files_in files) path
push_other [] path g new = cond-false (bytes_eq g.path.items path) (Some g.bytes.items) None new
push_other (f ∷ fs) path g new = ap (cond (bytes_eq f.path.items path) (Some f.bytes.items)) (push_other fs path g new)

-- one more file, of a path that had none
pub push_here : (files : List MemFile) (path : List ℕ) (g : MemFile) → is_file_at path g ≡ true → file_at (files_in files) path ≡ None → file_at (files_in (files ++ g ∷ [])) path ≡ Some g.bytes.items
push_here [] path g new none = cond-true (bytes_eq g.path.items path) (Some g.bytes.items) None new
push_here (f ∷ fs) path g new none = elim (cases_Bool (bytes_eq f.path.items path)) [
  | inl hit ↦ absurd (differ (sym (cond-true (bytes_eq f.path.items path) (Some f.bytes.items) (file_at (files_in fs) path) hit) ∙ none))
  | inr miss ↦
      cond-false (bytes_eq f.path.items path) (Some f.bytes.items) (file_at (files_in (fs ++ g ∷ [])) path) miss
      ∙ push_here fs path g new (sym (cond-false (bytes_eq f.path.items path) (Some f.bytes.items) (file_at (files_in fs) path) miss) ∙ none)
]
  where
    differ : {b : List ℕ} → Some b ≡ None → ⊥
    differ e = cc

pub at_its_path : (path : List ℕ) (g : MemFile) → g.path.items ≡ path → is_file_at path g ≡ true
at_its_path path g e = (bytes_eq-Decides g.path.items path).1 e

pub not_at_other : (path q : List ℕ) (g : MemFile) → g.path.items ≡ path → q ≢ path → is_file_at q g ≡ false
not_at_other path q g e apart = elim (cases_Bool (is_file_at q g)) [
  | inl hit ↦ absurd (apart (sym ((bytes_eq-Decides g.path.items q).0 hit) ∙ e))
  | inr miss ↦ miss
]

its_path : (path : List ℕ) (g : MemFile) → is_file_at path g ≡ true → g.path.items ≡ path
its_path path g hit = (bytes_eq-Decides g.path.items path).0 hit

module _ (path : List ℕ) (files : List MemFile) (at : ℕ) (first : IsFirstAt path files at) where
  pub first_at : (d : MemFile) → file_at (files_in files) path ≡ Some (slice_index_or files at d).bytes.items
  first_at d = first_is files path at d first.inside (first.here d) first.before

  pub written_here : (d g : MemFile) → g.path ≡ (slice_index_or files at d).path → file_at (files_in (slice_set files at g)) path ≡ Some g.bytes.items
  written_here d g same = set_here files path at g first.inside (at_its_path path g (ap (λ (p : _). p.items) same ∙ its_path path (slice_index_or files at d) (first.here d))) first.before

  pub written_elsewhere : (d g : MemFile) → g.path ≡ (slice_index_or files at d).path → (q : List ℕ) → q ≢ path → file_at (files_in (slice_set files at g)) q ≡ file_at (files_in files) q
  written_elsewhere d g same q apart =
      set_elsewhere files q at g
      (not_at_other path q g (ap (λ (p : _). p.items) same ∙ its_path path (slice_index_or files at d) (first.here d)) apart)
      (not_at_other path q (slice_index_or files at g) (its_path path (slice_index_or files at g) (first.here g)) apart)

pub where_told : {A B : Type 0} (P : A → B → Type 0) (t : Option A) (u : Option B) (a : A) (b : B) → t ≡ Some a → u ≡ Some b → P a b → WhereTold P t u
where_told P t u a b t_is u_is h = rw (t_is, u_is) h

-- a file is at least as long as one that it stands in the place of
abbrev pub Grows : Option (List ℕ) → Option (List ℕ) → Type 0
Grows old new = length (unwrap_or old []) ≤ length (unwrap_or new [])

pub same_grows : (old new : Option (List ℕ)) → new ≡ old → Grows old new
same_grows old new e = rw e (omega arith)

pub fit_kept : (files new : List File) (out : List PartName) → AreLongEnough files out → ((q : List ℕ) → Grows (file_at files q) (file_at new q)) → AreLongEnough new out
fit_kept files new out fit grows = All-weaker _ _ (λ x h. longer x h (grows x.path)) out fit
  where
    longer : (x : PartName) → needs x.extent ≤ length (unwrap_or (file_at files x.path) []) → Grows (file_at files x.path) (file_at new x.path) → needs x.extent ≤ length (unwrap_or (file_at new x.path) [])
    longer x h g = omega (arith, h, g)

-- a new file
pub push_grows : (files : List MemFile) (g : MemFile) (path : List ℕ) → g.path.items ≡ path → file_at (files_in files) path ≡ None → (q : List ℕ) → Grows (file_at (files_in files) q) (file_at (files_in (files ++ g ∷ [])) q)
push_grows files g path is none q = elim (cases_Bool (is_file_at q g)) [
  | inl hit ↦ none_grows q (ap (λ (p : List ℕ). file_at (files_in files) p) (sym (its_path q g hit) ∙ is) ∙ none)
  | inr miss ↦ same_grows (file_at (files_in files) q) (file_at (files_in (files ++ g ∷ [])) q) (push_other files q g miss)
]
  where
    none_grows : (q : List ℕ) → file_at (files_in files) q ≡ None → Grows (file_at (files_in files) q) (file_at (files_in (files ++ g ∷ [])) q)
    none_grows q e = rw e (omega arith)

puts_grow : (made : Bool) (e : Extent) (bytes : List ℕ) (old new : Option (List ℕ)) → length bytes ≡ reach e → PutsBack made e (told_pieces e bytes) old new → Grows old new
puts_grow false e bytes old new sized back = same_grows old new back
puts_grow true (striped o) bytes None None sized back = omega arith
puts_grow true (striped o) bytes None (Some b) sized back = absurd back
puts_grow true (striped o) bytes (Some a) None sized back = absurd back
puts_grow true (striped o) bytes (Some a) (Some b) sized back = omega (arith, back.size)
puts_grow true (whole size) bytes old new sized back = rw back (omega (arith, sized, length-append bytes (drop size (unwrap_or old [])), length-drop size (unwrap_or old [])))

pub part_grows : (made : Bool) (name : PartName) (bytes : List ℕ) (count : ℕ) (old new : List File) → length bytes ≡ reach name.extent → PutsPart (record { name = name; made = made; told = told_pieces name.extent bytes; count = count }) old new → (q : List ℕ) → Grows (file_at old q) (file_at new q)
part_grows made name bytes count old new sized puts q = elim (cases_Bool (bytes_eq q name.path)) [
  | inl hit ↦ subst (λ (p : List ℕ). Grows (file_at old p) (file_at new p)) (sym ((bytes_eq-Decides q name.path).0 hit)) (puts_grow made name.extent bytes (file_at old name.path) (file_at new name.path) sized puts.back)
  | inr miss ↦ same_grows (file_at old q) (file_at new q) (puts.elsewhere q (λ e. both_ways (bytes_eq q name.path) miss ((bytes_eq-Decides q name.path).1 e)))
]

-- ---- the parts that are out

few_kept : {X : Type 0} (p : X → Bool) (xs : List X) → length (filter p xs) ≤ length xs
few_kept p [] = omega arith
few_kept p (x ∷ xs) = elim (cases_Bool (p x)) [
  | inl hit ↦ rw hit (omega (arith, few_kept p xs))
  | inr miss ↦ rw miss (omega (arith, few_kept p xs))
]

pub fewer_kept : {X : Type 0} (p : X → Bool) (xs : List X) (k : ℕ) (d : X) → k < length xs → p (slice_index_or xs k d) ≡ false → length (filter p xs) < length xs
fewer_kept p [] k d inside miss = absurd (omega arith)
fewer_kept p (x ∷ xs) zero d inside miss = rw miss (omega (arith, few_kept p xs))
fewer_kept p (x ∷ xs) (suc k) d inside miss = elim (cases_Bool (p x)) [
  | inl hit ↦ rw hit (omega (arith, fewer_kept p xs k d (omega arith) miss))
  | inr other ↦ rw other (omega (arith, few_kept p xs))
]

pub is_itself : (x : PartName) → same_part x x ≡ true
is_itself x = both_true ((bytes_eq-Decides x.path x.path).1 refl) (same_number (part_number x.extent))
  where
    same_number : (n : ℕ) → (n == n) ≡ true
    same_number n = search rules

pub one_less : (name : PartName) (out : List PartName) → Contains out name → length (without name out) < length out
one_less name out has = fewer_kept (λ x. not (same_part x name)) out has.0 name has.1 (ap (λ (x : PartName). not (same_part x name)) has.2 ∙ ap not (is_itself name))

-- ---- openings

pub stripes_fit : (files : List File) (out : List PartName) (path : List ℕ) (cut : Cut) (bytes : List ℕ) → AreLongEnough files out → file_at files path ≡ Some bytes → cut.pages * cut.layout.page_size ≤ length bytes → AreLongEnough files (out ++ stripe_names path cut)
stripes_fit files out path cut bytes fit there enough =
    All-append P out (stripe_names path cut) fit (All-map P (stripe_name path cut) (range_with_len 0 cut.layout.stripes) (λ k d h. here))
  where
    P : PartName → Type 0
    P x = needs x.extent ≤ length (unwrap_or (file_at files x.path) [])

    here : cut.pages * cut.layout.page_size ≤ length (unwrap_or (file_at files path) [])
    here = rw there enough

pub stripe_opened : (shelf : Shelf) (path : List ℕ) (cut : Cut) (s : ℕ) (bytes front : List ℕ) (part : PartSeen) → part ≡ stripe_seen path cut s front → file_at shelf.files path ≡ Some bytes → front ≡ take (cut.pages * cut.layout.page_size) bytes → IsPartOpened (Some shelf) (stripe_name path cut s) part
stripe_opened shelf path cut s bytes front part is there cut_off = rw is (record {
  name_is = refl;
  fresh = refl;
  made = ap is_some (sym there);
  holds = ap (λ (xs : List ℕ). told_pieces (striped (stripe_origin path cut s)) xs) cut_off ∙ ap (λ (t : Option (List ℕ)). told_pieces (striped (stripe_origin path cut s)) (reached_bytes (striped (stripe_origin path cut s)) t)) (sym there);
})

pub new_front : (bytes : List ℕ) (t : Option (List ℕ)) → t ≡ None → bytes ++ drop (length bytes) (unwrap_or t []) ≡ bytes
new_front bytes t none = rw none (ap (λ (xs : List ℕ). bytes ++ xs) (nothing (length bytes)) ∙ append-nil bytes)
  where
    nothing : (n : ℕ) → drop {A = ℕ} n [] ≡ []
    nothing n = search rules

pub room_left : (files new_files cap new_cap : ℕ) (out new : List OutPart) (name : PartName) → out_in new ≡ without name (out_in out) → Contains (out_in out) name → files + length out ≤ cap → new_files + cap ≤ files + 1 + new_cap → new_files + length new ≤ new_cap
room_left files new_files cap new_cap out new name is has room grown =
    omega (arith, one_less name (out_in out) has, length-map out out_name, length-map new out_name, ap length is)
