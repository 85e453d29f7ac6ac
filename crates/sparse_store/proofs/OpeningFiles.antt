-- The files of a store opened one by one, and closed again with nothing written.
use Rattle.std.proofs.Common.{◌≡◌, ◌≢◌, ◌⊎◌, inl, inr, ℕ, zero, suc, ◌+◌, ◌<◌, ◌≤◌, Bool, true, false, not, List, [], ◌∷◌, ◌++◌, map, length, take, drop, slice_get, Option, Some, None, refl, sym, ap, subst, ◌∙◌, arith, rules, append_assoc, append-nil, length-append}
use Rattle.std.specs.Option.{IfSome, is_some, unwrap_or, option_map}
use Rattle.std.specs.Prelude.{◌||◌, ◌==◌}
use Rattle.std.specs.List.{Contains, range_with_len}
use Rattle.std.specs.Str.{bytes_eq}
use Rattle.std.specs.Fmt.{decimal}
use Rattle.std.specs.Cmp.Derive.{both_true}
use Rattle.std.proofs.lemmas.Bool.{cases_lt, cases_Bool, cond-true, cond-false, both_ways}
use Rattle.std.proofs.lemmas.List.{map-append, take-append-drop}
use Rattle.std.proofs.lemmas.List.Elements.{filter-append, All-map}
use Rattle.std.proofs.lemmas.List.Folds.{list_any-append, list_any_none}
use Rattle.std.proofs.lemmas.List.FromFn.{map-range_with_len_more, get_or-range_with_len, length-range_with_len}
use Rattle.std.proofs.lemmas.Slice.Eq.{bytes_eq-Decides}
use Rattle.page_base.specs.Lanes.{told_at}
use Rattle.page_base.specs.ListSeen.{ListSeen}
use Rattle.file_store.specs.Parts.{whole, PartName, PartSeen, WhereTold, told_pieces}
use Rattle.file_store.specs.Shelves.{Shelf, FolderSeen, file_at, any_out, same_part, part_number, without, PutsBack}
use Rattle.file_store.specs.Folders.{opened, whole_name, reached_bytes, IsOpenedWhole}
use Rattle.sparse_store.specs.declared.meta.Meta.{Meta}
use Rattle.sparse_store.specs.declared.meta.TheConstants.{MOST_META_NUMBER}
use Rattle.sparse_store.specs.Closings.{AreAllOut, without_each, ClosesEach, HasSame}
use Rattle.sparse_store.specs.InsideStores.{AreApart}
use Rattle.sparse_store.specs.Files.{file_path, file_count, NoneOutIn, FileReaches, FilesReach}
use Rattle.sparse_store.specs.InsideOpenings.{NoneOutAt}
use Rattle.sparse_store.proofs.PartLists.{some_is, inside_of, got_map, grown}
use Rattle.sparse_store.proofs.FilePaths.{one_number}
use Rattle.sparse_store.proofs.ClosingParts.{other_path, other_part}

-- ---- closed with nothing written

put_fresh : (made : Bool) (size : ℕ) (told : List (Option (List ℕ))) (old now new : Option (List ℕ)) → made ≡ is_some old → told ≡ told_pieces (whole size) (reached_bytes (whole size) old) → now ≡ old → PutsBack made (whole size) told now new → new ≡ now
put_fresh made size told None now new made_is told_is same puts = subst (λ (b : Bool). PutsBack b (whole size) told now new) made_is puts
put_fresh made size told (Some b) now new made_is told_is same puts =
    let one : PutsBack true (whole size) told now new = subst (λ (x : Bool). PutsBack x (whole size) told now new) made_is puts in
    let two : new ≡ Some (take size b ++ drop size (unwrap_or now [])) = subst (λ (ts : List (Option (List ℕ))). IfSome (told_at ts 0) (λ bytes. new ≡ Some (bytes ++ drop size (unwrap_or now [])))) told_is one in
    two ∙ ap (λ (t : Option (List ℕ)). Some (take size b ++ drop size (unwrap_or t []))) same ∙ ap (λ (x : List ℕ). Some x) (take-append-drop size b) ∙ sym same

-- one part of a file that was just opened
fresh_back : (s : Shelf) (path : List ℕ) (size : ℕ) (p : PartSeen) (now new : Option (List ℕ)) → IsOpenedWhole (Some s) path size p → now ≡ file_at s.files path → PutsBack p.made p.name.extent p.told now new → new ≡ now
fresh_back s path size p now new fresh same puts =
    put_fresh p.made size p.told (file_at s.files path) now new fresh.made fresh.holds same
    (subst (λ (n : PartName). PutsBack p.made n.extent p.told now new) fresh.name_is puts)

-- some part is of this path, or none is
has_path : (ps : List PartSeen) (path : List ℕ) → ((k : ℕ) × (p : PartSeen) × (slice_get ps k ≡ Some p) × (path ≡ p.name.path)) ⊎ ((k : ℕ) (p : PartSeen) → slice_get ps k ≡ Some p → path ≢ p.name.path)
has_path [] path = inr (λ k p got. absurd (cc))
has_path (x ∷ ps) path = elim (cases_Bool (bytes_eq path x.name.path)) [
  | inl hit ↦ inl (0, x, refl, (bytes_eq-Decides path x.name.path).0 hit)
  | inr miss ↦ elim (has_path ps path) [
    | inl there ↦ inl (suc there.0, there.1, there.2, there.3)
    | inr none ↦ inr (each miss none)
  ]
]
  where
    each : bytes_eq path x.name.path ≡ false → ((k : ℕ) (p : PartSeen) → slice_get ps k ≡ Some p → path ≢ p.name.path) → (k : ℕ) (p : PartSeen) → slice_get (x ∷ ps) k ≡ Some p → path ≢ p.name.path
    each miss none zero p got e = both_ways (bytes_eq path x.name.path) miss ((bytes_eq-Decides path x.name.path).1 (e ∙ ap (λ (q : PartSeen). q.name.path) (sym (some_is got))))
    each miss none (suc k) p got e = none k p got e

-- the parts of a store that was just opened over these files
abbrev pub AreFresh : Shelf → (dir : List ℕ) → (file : ℕ) → List PartSeen → Type 0
AreFresh s dir file ps = (k : ℕ) (p : PartSeen) → slice_get ps k ≡ Some p → IsOpenedWhole (Some s) (file_path dir k) file p

pub files_same : (s : Shelf) (dir : List ℕ) (file : ℕ) (ps : List PartSeen) (now new : Shelf) → AreFresh s dir file ps → ((k : ℕ) → k < length ps → file_at now.files (file_path dir k) ≡ file_at s.files (file_path dir k)) → ClosesEach ps now new → (path : List ℕ) → file_at new.files path ≡ file_at now.files path
files_same s dir file ps now new fresh same closes path = elim (has_path ps path) [
  | inr none ↦ closes.elsewhere path none
  | inl there ↦
      let k = there.0 in
      let p = there.1 in
      let opened_ = fresh k p there.2 in
      let own : p.name.path ≡ file_path dir k = ap (λ (n : PartName). n.path) opened_.name_is in
      subst (λ (q : List ℕ). file_at new.files q ≡ file_at now.files q) (sym there.3)
      (fresh_back s (file_path dir k) file p (file_at now.files p.name.path) (file_at new.files p.name.path) opened_
      (ap (file_at now.files) own ∙ same k (inside_of ps k p there.2)) (closes.back k p there.2))
]

-- ---- the parts that are out

is_itself : (x : PartName) → same_part x x ≡ true
is_itself x = both_true ((bytes_eq-Decides x.path x.path).1 refl) (same_number (part_number x.extent))
  where
    same_number : (n : ℕ) → (n == n) ≡ true
    same_number n = search rules

kept_all : (name : PartName) (out : List PartName) → any_out name.path out ≡ false → without name out ≡ out
kept_all name [] none = refl
kept_all name (x ∷ xs) none = elim (cases_Bool (bytes_eq x.path name.path)) [
  | inl hit ↦ absurd (both_ways (any_out name.path (x ∷ xs)) none (ap (λ (b : Bool). b || any_out name.path xs) hit))
  | inr miss ↦
      cond-true (not (same_part x name)) (x ∷ without name xs) (without name xs) (ap not (other_part x name miss))
      ∙ ap (λ (ys : List PartName). x ∷ ys) (kept_all name xs (subst (λ (b : Bool). (b || any_out name.path xs) ≡ false) miss none))
]

last_left : (name : PartName) (out : List PartName) → any_out name.path out ≡ false → without name (out ++ name ∷ []) ≡ out
last_left name out none =
    filter-append (λ x. not (same_part x name)) out (name ∷ [])
    ∙ ap (λ (xs : List PartName). xs ++ without name (name ∷ [])) (kept_all name out none)
    ∙ ap (λ (xs : List PartName). out ++ xs) (cond-false (not (same_part name name)) (name ∷ []) [] (ap not (is_itself name)))
    ∙ append-nil out

any_more : (path : List ℕ) (out : List PartName) (name : PartName) → any_out path out ≡ false → bytes_eq name.path path ≡ false → any_out path (out ++ name ∷ []) ≡ false
any_more path out name none miss =
    list_any-append (λ (x : PartName). bytes_eq x.path path) out (name ∷ [])
    ∙ ap (λ (b : Bool). b || any_out path (name ∷ [])) none
    ∙ ap (λ (b : Bool). b || false) miss

pub all_left : (ps : List PartSeen) (out : List PartName) → AreApart ps → ((k : ℕ) (p : PartSeen) → slice_get ps k ≡ Some p → any_out p.name.path out ≡ false) → without_each ps (out ++ map (λ (p : PartSeen). p.name) ps) ≡ out
all_left [] out apart clear = append-nil out
all_left (p ∷ ps) out apart clear =
    ap (λ (xs : List PartName). without p.name (without_each ps xs)) (sym (append_assoc out (p.name ∷ []) (map (λ (q : PartSeen). q.name) ps)))
    ∙ ap (without p.name) (all_left ps (out ++ p.name ∷ []) (λ j k x y at_j at_k e. omega (arith, apart (suc j) (suc k) x y at_j at_k e)) (λ k q got. any_more q.name.path out p.name (clear (suc k) q got) (other_path p.name.path q.name.path (λ e. omega (arith, apart 0 (suc k) p q refl got e)))))
    ∙ last_left p.name out (clear 0 p refl)

-- ---- one file more

abbrev pub first_names : (dir : List ℕ) → (file : ℕ) → (number : ℕ) → List PartName
first_names dir file number = map (λ k. whole_name (file_path dir k) file) (range_with_len 0 number)

pub record OpensSome {P : Type 0} (seen : P → PartSeen) (dir : List ℕ) (m : Meta) (number : ℕ) (parts : ListSeen P) (before now : FolderSeen) : Type 0 where
  pub room : file_count m ≤ parts.spare + number
  pub count : length parts.items ≡ number
  pub each : (k : ℕ) (part : P) → slice_get parts.items k ≡ Some part → IsOpenedWhole before.told (file_path dir k) m.file (seen part)
  pub names : map (λ (part : P). (seen part).name) parts.items ≡ first_names dir m.file number
  pub out : now.told ≡ option_map (opened (first_names dir m.file number)) before.told
  pub long : IfSome before.told (λ s. FilesReach s.files dir m.file number)
  pub later : before.count ≤ now.count

few_numbers : (dir : List ℕ) (file number : ℕ) → number ≤ MOST_META_NUMBER → any_out (file_path dir number) (first_names dir file number) ≡ false
few_numbers dir file number small =
    list_any_none p (first_names dir file number)
    (All-map (λ (x : PartName). p x ≡ false) (λ k. whole_name (file_path dir k) file) (range_with_len 0 number) (λ k d h.
    let below : k < number = omega (arith, h, length-range_with_len 0 number) in
    subst (λ (j : ℕ). bytes_eq (file_path dir j) (file_path dir number) ≡ false) (sym (get_or-range_with_len 0 number k d below ∙ omega arith))
    (other_path (file_path dir k) (file_path dir number) (λ e. omega (arith, below, one_number dir k number (omega (arith, below, small)) small e)))))
  where
    p : PartName → Bool
    p x = bytes_eq x.path (file_path dir number)

pub none_yet : (dir : List ℕ) (file number : ℕ) (t : Option Shelf) → number ≤ MOST_META_NUMBER → IfSome t (λ s. NoneOutIn dir s.out) → IfSome (option_map (opened (first_names dir file number)) t) (λ s. NoneOutAt dir number s.out)
none_yet dir file number None small none = tt
none_yet dir file number (Some s) small none =
    list_any-append (λ (x : PartName). bytes_eq x.path (file_path dir number)) s.out (first_names dir file number)
    ∙ ap (λ (b : Bool). b || any_out (file_path dir number) (first_names dir file number)) (none (decimal number))
    ∙ few_numbers dir file number small

pub begins : {P : Type 0} (seen : P → PartSeen) (dir : List ℕ) (m : Meta) (parts : ListSeen P) (before : FolderSeen) → parts.items ≡ [] → file_count m ≤ parts.spare → OpensSome seen dir m 0 parts before before
begins {P} seen dir m parts before empty room = record {
  room = omega (arith, room);
  count = ap length empty;
  each = λ k part got. absurd (nothing k part (subst (λ (xs : List P). slice_get xs k ≡ Some part) empty got));
  names = ap (map (λ (part : P). (seen part).name)) empty;
  out = same before.told;
  long = none before.told;
  later = omega arith;
}
  where
    nothing : (k : ℕ) (part : P) → slice_get [] k ≡ Some part → ⊥
    nothing k part got = cc

    same : (t : Option Shelf) → t ≡ option_map (opened (first_names dir m.file 0)) t
    same None = refl
    same (Some s) = ap (λ (o : List PartName). Some (record { files = s.files; out = o })) (sym (append-nil s.out))

    none : (t : Option Shelf) → IfSome t (λ s. FilesReach s.files dir m.file 0)
    none None = tt
    none (Some s) = λ k h. absurd (omega (arith, h))

-- over the same files
opened_over : (t : Option Shelf) (names : List PartName) (path : List ℕ) (size : ℕ) (p : PartSeen) → IsOpenedWhole (option_map (opened names) t) path size p → IsOpenedWhole t path size p
opened_over None names path size p is = is
opened_over (Some s) names path size p is = record { name_is = is.name_is; fresh = is.fresh; made = is.made; holds = is.holds }

module _ {P : Type 0} (seen : P → PartSeen) (dir : List ℕ) (m : Meta) (number : ℕ) (parts : ListSeen P) (before now : FolderSeen) (i : OpensSome seen dir m number parts before now) where
  pub none_out : number ≤ MOST_META_NUMBER → IfSome before.told (λ s. NoneOutIn dir s.out) → IfSome now.told (λ s. NoneOutAt dir number s.out)
  none_out small none = subst (λ (t : Option Shelf). IfSome t (λ s. NoneOutAt dir number s.out)) (sym i.out) (none_yet dir m.file number before.told small none)

  long_at : IfSome now.told (λ s. FileReaches m.file (file_at s.files (file_path dir number))) → IfSome before.told (λ s. FileReaches m.file (file_at s.files (file_path dir number)))
  long_at shows = go before.told (subst (λ (t : Option Shelf). IfSome t (λ s. FileReaches m.file (file_at s.files (file_path dir number)))) i.out shows)
    where
      go : (t : Option Shelf) → IfSome (option_map (opened (first_names dir m.file number)) t) (λ s. FileReaches m.file (file_at s.files (file_path dir number))) → IfSome t (λ s. FileReaches m.file (file_at s.files (file_path dir number)))
      go None shows = tt
      go (Some s) shows = shows

  pub one_more : (x : P) (more : ListSeen P) (new : FolderSeen) → more.items ≡ parts.items ++ x ∷ [] → more.spare + 1 ≡ parts.spare → IsOpenedWhole now.told (file_path dir number) m.file (seen x) → new.told ≡ option_map (opened (whole_name (file_path dir number) m.file ∷ [])) now.told → IfSome now.told (λ s. FileReaches m.file (file_at s.files (file_path dir number))) → now.count ≤ new.count → OpensSome seen dir m (number + 1) more before new
  one_more x more new grows spare opens outs shows later = record {
    room = omega (arith, i.room, spare);
    count = ap length grows ∙ length-append parts.items (x ∷ []) ∙ ap (λ (n : ℕ). n + 1) i.count;
    each = λ k part got. elim (grown parts.items x part k (subst (λ (xs : List P). slice_get xs k ≡ Some part) grows got)) [
      | inl old ↦ i.each k part old
      | inr last ↦ subst (λ (j : ℕ). IsOpenedWhole before.told (file_path dir j) m.file (seen part)) (sym (last.0 ∙ i.count)) (subst (λ (y : P). IsOpenedWhole before.told (file_path dir number) m.file (seen y)) (sym last.1) here)
    ];
    names =
        ap (map (λ (part : P). (seen part).name)) grows
        ∙ map-append (λ (part : P). (seen part).name) parts.items (x ∷ [])
        ∙ ap (λ (ns : List PartName). ns ++ (seen x).name ∷ []) i.names
        ∙ ap (λ (n : PartName). first_names dir m.file number ++ n ∷ []) here.name_is
        ∙ sym more_names;
    out = outs ∙ ap (option_map (opened (whole_name (file_path dir number) m.file ∷ []))) i.out ∙ twice before.told;
    long = longer before.told i.long (long_at shows);
    later = omega (arith, i.later, later);
  }
    where
      here : IsOpenedWhole before.told (file_path dir number) m.file (seen x)
      here = opened_over before.told (first_names dir m.file number) (file_path dir number) m.file (seen x) (subst (λ (t : Option Shelf). IsOpenedWhole t (file_path dir number) m.file (seen x)) i.out opens)

      more_names : first_names dir m.file (number + 1) ≡ first_names dir m.file number ++ whole_name (file_path dir number) m.file ∷ []
      more_names = map-range_with_len_more (λ k. whole_name (file_path dir k) m.file) 0 number number (omega arith)

      twice : (t : Option Shelf) → option_map (opened (whole_name (file_path dir number) m.file ∷ [])) (option_map (opened (first_names dir m.file number)) t) ≡ option_map (opened (first_names dir m.file (number + 1))) t
      twice None = refl
      twice (Some s) = ap (λ (o : List PartName). Some (record { files = s.files; out = o })) (append_assoc s.out (first_names dir m.file number) (whole_name (file_path dir number) m.file ∷ []) ∙ ap (λ (ns : List PartName). s.out ++ ns) (sym more_names))

      longer : (t : Option Shelf) → IfSome t (λ s. FilesReach s.files dir m.file number) → IfSome t (λ s. FileReaches m.file (file_at s.files (file_path dir number))) → IfSome t (λ s. FilesReach s.files dir m.file (number + 1))
      longer None so_far last = tt
      longer (Some s) so_far last = λ k h. elim (cases_lt k number) [
        | inl below ↦ so_far k below
        | inr above ↦ subst (λ (j : ℕ). FileReaches m.file (file_at s.files (file_path dir j))) (omega (arith, h, above)) last
      ]

-- ---- the parts of a store are apart, and out

pub named_apart : (dir : List ℕ) (file : ℕ) (ps : List PartSeen) → length ps ≤ MOST_META_NUMBER → ((k : ℕ) (p : PartSeen) → slice_get ps k ≡ Some p → p.name ≡ whole_name (file_path dir k) file) → AreApart ps
named_apart dir file ps few named j k p q at_j at_k e =
    one_number dir j k (omega (arith, few, inside_of ps j p at_j)) (omega (arith, few, inside_of ps k q at_k))
    (sym (ap (λ (n : PartName). n.path) (named j p at_j)) ∙ e ∙ ap (λ (n : PartName). n.path) (named k q at_k))

in_right : {X : Type 0} (xs ys : List X) (x : X) → Contains ys x → Contains (xs ++ ys) x
in_right [] ys x has = has
in_right (y ∷ xs) ys x has = let rest = in_right xs ys x has in (suc rest.0, omega (arith, rest.1), rest.2)

in_names : (ps : List PartSeen) (k : ℕ) (p : PartSeen) → slice_get ps k ≡ Some p → Contains (map (λ (x : PartSeen). x.name) ps) p.name
in_names [] k p got = absurd (cc)
in_names (x ∷ ps) zero p got = (0, omega arith, ap (λ (y : PartSeen). y.name) (some_is got))
in_names (x ∷ ps) (suc k) p got = let rest = in_names ps k p got in (suc rest.0, omega (arith, rest.1), rest.2)

pub names_out : (ps : List PartSeen) (out names : List PartName) → map (λ (p : PartSeen). p.name) ps ≡ names → AreAllOut ps (out ++ names)
names_out ps out names are k p got = in_right out names p.name (subst (λ (ns : List PartName). Contains ns p.name) are (in_names ps k p got))

pub names_map : {P : Type 0} (seen : P → PartSeen) (xs : List P) → map (λ (p : PartSeen). p.name) (map seen xs) ≡ map (λ (x : P). (seen x).name) xs
names_map seen [] = refl
names_map seen (x ∷ xs) = ap (λ (ns : List PartName). (seen x).name ∷ ns) (names_map seen xs)

len_map : {X Y : Type 0} (f : X → Y) (xs : List X) → length (map f xs) ≡ length xs
len_map f [] = refl
len_map f (x ∷ xs) = ap suc (len_map f xs)

module _ {P : Type 0} (seen : P → PartSeen) (dir : List ℕ) (file : ℕ) (xs : List P) (few : length xs ≤ MOST_META_NUMBER) where
  pub seen_apart : ((k : ℕ) (x : P) → slice_get xs k ≡ Some x → (seen x).name ≡ whole_name (file_path dir k) file) → AreApart (map seen xs)
  seen_apart named = named_apart dir file (map seen xs) (omega (arith, few, len_map seen xs)) (λ k p got.
      let at = got_map seen xs k p got in
      ap (λ (q : PartSeen). q.name) at.2 ∙ named k at.0 at.1)

  -- the parts that were opened over these files, closed again over others that have the same bytes at the parts' paths
  pub left_same : (s now new : Shelf) → ((k : ℕ) (x : P) → slice_get xs k ≡ Some x → IsOpenedWhole (Some s) (file_path dir k) file (seen x)) → map (λ (x : P). (seen x).name) xs ≡ first_names dir file (length xs) → NoneOutIn dir s.out → now.out ≡ s.out ++ first_names dir file (length xs) → ((k : ℕ) → k < length xs → file_at now.files (file_path dir k) ≡ file_at s.files (file_path dir k)) → ClosesEach (map seen xs) now new → ((path : List ℕ) → file_at new.files path ≡ file_at now.files path) × (new.out ≡ s.out)
  left_same s now new each names none out same closes = (
    files_same s dir file (map seen xs) now new fresh (λ k h. same k (omega (arith, h, len_map seen xs))) closes,
    closes.out
        ∙ ap (without_each (map seen xs)) (out ∙ ap (λ (ns : List PartName). s.out ++ ns) (sym names ∙ sym (names_map seen xs)))
        ∙ all_left (map seen xs) s.out (seen_apart (λ k x got. (each k x got).name_is)) clear,
  )
    where
      fresh : AreFresh s dir file (map seen xs)
      fresh k p got =
          let at = got_map seen xs k p got in
          subst (IsOpenedWhole (Some s) (file_path dir k) file) (sym at.2) (each k at.0 at.1)

      clear : (k : ℕ) (p : PartSeen) → slice_get (map seen xs) k ≡ Some p → any_out p.name.path s.out ≡ false
      clear k p got = subst (λ (q : List ℕ). any_out q s.out ≡ false) (sym (ap (λ (n : PartName). n.path) (fresh k p got).name_is)) (none (decimal k))

module _ {P : Type 0} (seen : P → PartSeen) (dir : List ℕ) (m : Meta) (number : ℕ) (parts : ListSeen P) (before now : FolderSeen) (i : OpensSome seen dir m number parts before now) (small : number ≤ MOST_META_NUMBER) where
  few_parts : length parts.items ≤ MOST_META_NUMBER
  few_parts = omega (arith, small, i.count)

  pub parts_apart : AreApart (map seen parts.items)
  parts_apart = seen_apart seen dir m.file parts.items few_parts (λ k x got. (i.each k x got).name_is)

  pub parts_out : (t : Option Shelf) → t ≡ now.told → IfSome t (λ s. AreAllOut (map seen parts.items) s.out)
  parts_out t is = go before.told t (is ∙ i.out)
    where
      go : (b t : Option Shelf) → t ≡ option_map (opened (first_names dir m.file number)) b → IfSome t (λ s. AreAllOut (map seen parts.items) s.out)
      go None t e = subst (λ (u : Option Shelf). IfSome u (λ s. AreAllOut (map seen parts.items) s.out)) (sym e) tt
      go (Some s) t e = subst (λ (u : Option Shelf). IfSome u (λ s. AreAllOut (map seen parts.items) s.out)) (sym e) (names_out (map seen parts.items) s.out (first_names dir m.file number) (names_map seen parts.items ∙ i.names))

  pub closed_again : (mid new : Option Shelf) → mid ≡ now.told → IfSome before.told (λ s. NoneOutIn dir s.out) → WhereTold (ClosesEach (map seen parts.items)) mid new → WhereTold HasSame before.told new
  closed_again mid new is none closes =
      go before.told new none i.each (subst (λ (t : Option Shelf). WhereTold (ClosesEach (map seen parts.items)) t new) (is ∙ i.out) closes)
    where
      long : first_names dir m.file number ≡ first_names dir m.file (length parts.items)
      long = ap (first_names dir m.file) (sym i.count)

      go : (b new : Option Shelf) → IfSome b (λ s. NoneOutIn dir s.out) → ((k : ℕ) (part : P) → slice_get parts.items k ≡ Some part → IsOpenedWhole b (file_path dir k) m.file (seen part)) → WhereTold (ClosesEach (map seen parts.items)) (option_map (opened (first_names dir m.file number)) b) new → WhereTold HasSame b new
      go None None none each closes = tt
      go None (Some v) none each closes = absurd closes
      go (Some s) None none each closes = absurd closes
      go (Some s) (Some v) none each closes =
          let left = left_same seen dir m.file parts.items few_parts s (opened (first_names dir m.file number) s) v each (i.names ∙ long) none (ap (λ (ns : List PartName). s.out ++ ns) long) (λ k h. refl) closes in
          record { files = left.0; out = left.1 }
