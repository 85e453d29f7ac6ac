-- What the file at one path holds when lanes were closed.
use Rattle.std.proofs.Common.{◌≡◌, ◌≢◌, ◌⊎◌, inl, inr, ℕ, suc, ◌+◌, ◌*◌, ◌-◌, ◌/◌, ◌%◌, ◌<◌, ◌≤◌, Bool, true, false, cond, List, [], ◌∷◌, ◌++◌, length, take, drop, get_or, slice_index_or, Option, Some, None, refl, sym, ap, subst, ◌∙◌, arith, rules, length-append, length-drop}
use Rattle.std.specs.Option.{unwrap_or}
use Rattle.std.specs.List.{Contains, AllByRecursion}
use Rattle.std.specs.Str.{bytes_eq}
use Rattle.std.proofs.lemmas.Bool.{cases_Bool, cases_lt, cond-true, cond-false, both_ways}
use Rattle.std.proofs.lemmas.List.{places, same_lists}
use Rattle.std.proofs.lemmas.Nat.{div-add-mod', mod_below, mul-le}
use Rattle.std.proofs.lemmas.Slice.Eq.{bytes_eq-Decides}
use Rattle.std.proofs.Math.Nat.{add-sub_cancel_left}
use Rattle.page_base.specs.Backings.{Backing, in_memory, in_file, in_files}
use Rattle.page_base.specs.Lanes.{Origin, LaneSeen, has_page, told_at}
use Rattle.store_trait.specs.Memory.{page_bytes}
use Rattle.file_store.specs.Parts.{PartSeen, WhereTold, striped}
use Rattle.file_store.specs.Shelves.{Shelf, File, file_at, own_told, PutsPages, Closes}
use Rattle.file_store.specs.FileLanes.{part_of, backing_path}
use Rattle.region_lanes.specs.Closings.{is_at, ClosesIn, ClosesLane, ClosesAll}
use Rattle.region_lanes.proofs.Shown.{or_else, shows, shown, PutsShown}

-- these lanes have this page size and these pages, where they lie in the file
abbrev pub AllSized : (path : List ℕ) (page_size pages : ℕ) → List LaneSeen → Type 0
AllSized path n pages ls = AllByRecursion (λ (l : LaneSeen). is_at path l.origin.backing ≡ true → (l.origin.page_size ≡ n) × (l.origin.pages ≡ pages)) ls

nothing_put : (n pages : ℕ) (of : ℕ → Option (List ℕ)) (t u : Option (List ℕ)) → ((p : ℕ) → of p ≡ None) → u ≡ t → WhereTold (PutsShown n pages of) t u
nothing_put n pages of t u none same = subst (λ (v : Option (List ℕ)). WhereTold (PutsShown n pages of) t v) (sym same) (itself t)
  where
    itself : (t : Option (List ℕ)) → WhereTold (PutsShown n pages of) t t
    itself None = tt
    itself (Some bytes) = record { size = refl; each = λ p h. sym (ap (λ o. unwrap_or o (page_bytes n bytes p)) (none p)); behind = refl }

-- the file at the path of a part that is put back
put_here : (n pages : ℕ) (o : Origin) (told : List (Option (List ℕ))) (of : ℕ → Option (List ℕ)) (t u : Option (List ℕ)) → o.page_size ≡ n → o.pages ≡ pages → ((p : ℕ) → of p ≡ own_told o told p) → WhereTold (PutsPages o told) t u → WhereTold (PutsShown n pages of) t u
put_here n pages o told of None None size count is puts = tt
put_here n pages o told of None (Some b) size count is puts = absurd puts
put_here n pages o told of (Some a) None size count is puts = absurd puts
put_here n pages o told of (Some a) (Some b) size count is puts = record {
  size = puts.size;
  each = λ p h. subst (λ (m : ℕ). page_bytes m b p ≡ unwrap_or (of p) (page_bytes m a p)) size (puts.each p (subst (λ (c : ℕ). p < c) (sym count) h) ∙ sym (ap (λ x. unwrap_or x (page_bytes o.page_size a p)) (is p)));
  behind = subst (λ (k : ℕ). drop k b ≡ drop k a) (ap (λ (c : ℕ). c * o.page_size) count ∙ ap (λ (m : ℕ). pages * m) size) puts.behind;
}

one_put : (path : List ℕ) (n pages : ℕ) (b : Backing) (o : Origin) (told : List (Option (List ℕ))) (count : ℕ) (old new : Shelf) → o.backing ≡ b → (is_at path b ≡ true → (o.page_size ≡ n) × (o.pages ≡ pages)) → ClosesIn b (part_of (record { origin = o; told = told; count = count })) old new → WhereTold (PutsShown n pages (λ p. cond (is_at path b) (own_told o told p) None)) (file_at old.files path) (file_at new.files path)
one_put path n pages in_memory o told count old new is sized closes = nothing_put n pages (λ p. None) (file_at old.files path) (file_at new.files path) (λ p. refl) (ap (λ (s : Shelf). file_at s.files path) closes)
one_put path n pages (in_files own file) o told count old new is sized closes = absurd closes
one_put path n pages (in_file own) o told count old new is sized closes = elim (cases_Bool (bytes_eq own path)) [
  | inl hit ↦
      let same : own ≡ path = (bytes_eq-Decides own path).0 hit in
      put_here n pages o told (λ p. cond (bytes_eq own path) (own_told o told p) None) (file_at old.files path) (file_at new.files path) (sized hit).0 (sized hit).1 (λ p. cond-true (bytes_eq own path) (own_told o told p) None hit)
      (subst (λ (q : List ℕ). WhereTold (PutsPages o told) (file_at old.files q) (file_at new.files q)) (ap backing_path is ∙ same) closes.back)
  | inr miss ↦ nothing_put n pages (λ p. cond (bytes_eq own path) (own_told o told p) None) (file_at old.files path) (file_at new.files path) (λ p. cond-false (bytes_eq own path) (own_told o told p) None miss)
      (closes.elsewhere path (λ e. both_ways (bytes_eq own path) miss ((bytes_eq-Decides own path).1 (sym (e ∙ ap backing_path is)))))
]

then_put : (n pages : ℕ) (f g : ℕ → Option (List ℕ)) (t u v : Option (List ℕ)) → WhereTold (PutsShown n pages f) t u → WhereTold (PutsShown n pages g) u v → WhereTold (PutsShown n pages (λ p. or_else (g p) (f p))) t v
then_put n pages f g None None None one two = tt
then_put n pages f g None None (Some c) one two = absurd two
then_put n pages f g None (Some b) v one two = absurd one
then_put n pages f g (Some a) None v one two = absurd one
then_put n pages f g (Some a) (Some b) None one two = absurd two
then_put n pages f g (Some a) (Some b) (Some c) one two = record {
  size = two.size ∙ one.size;
  each = λ p h. two.each p h ∙ ap (λ (x : List ℕ). unwrap_or (g p) x) (one.each p h) ∙ both (g p) (f p) (page_bytes n a p);
  behind = two.behind ∙ one.behind;
}
  where
    both : (x y : Option (List ℕ)) (z : List ℕ) → unwrap_or x (unwrap_or y z) ≡ unwrap_or (or_else x y) z
    both None y z = refl
    both (Some w) y z = refl

-- what lanes leave of the file at a path, closed one after another
pub closed_file : (path : List ℕ) (n pages : ℕ) (ls : List LaneSeen) (old new : Shelf) → AllSized path n pages ls → ClosesAll ls old new → WhereTold (PutsShown n pages (shown ls path)) (file_at old.files path) (file_at new.files path)
closed_file path n pages [] old new sized closes = nothing_put n pages (λ p. None) (file_at old.files path) (file_at new.files path) (λ p. refl) (ap (λ (s : Shelf). file_at s.files path) closes)
closed_file path n pages (l ∷ ls) old new sized closes =
    then_put n pages (shows l path) (shown ls path) (file_at old.files path) (file_at closes.0.files path) (file_at new.files path)
    (one_put path n pages l.origin.backing l.origin l.told l.count old closes.0 refl sized.0 closes.1)
    (closed_file path n pages ls closes.0 new sized.1 closes.2)

-- a page of which each lane that owns it tells the same, and some lane owns it
abbrev pub AllTell : (path : List ℕ) (page : ℕ) (bytes : List ℕ) → List LaneSeen → Type 0
AllTell path page bytes ls = AllByRecursion (λ (l : LaneSeen). is_at path l.origin.backing ≡ true → has_page l.origin page ≡ true → told_at l.told page ≡ Some bytes) ls

-- a file whose first pages show these contents holds them, and its further bytes are as they were
pub holds_contents : (n pages : ℕ) (of : ℕ → Option (List ℕ)) (old new contents : List ℕ) → 0 < n → length contents ≡ pages * n → pages * n ≤ length old → PutsShown n pages of old new → ((p : ℕ) → p < pages → of p ≡ Some (page_bytes n contents p)) → new ≡ contents ++ drop (length contents) old
holds_contents n pages of old new contents some size fits puts all =
    same_lists _ _ (omega (arith, puts.size, size, fits, length-append contents (drop (length contents) old), length-drop (length contents) old)) (λ i d h. elim (cases_lt i (pages * n)) [
      | inl inside ↦ front i d inside ∙ sym (low i d (omega (arith, inside, size)))
      | inr past ↦ rest i d past ∙ sym (high i d (omega (arith, past, size)))
    ])
  where
    low : (i d : ℕ) → i < length contents → get_or (contents ++ drop (length contents) old) i d ≡ get_or contents i d
    low i d h = grind (arith, places)

    high : (i d : ℕ) → length contents ≤ i → get_or (contents ++ drop (length contents) old) i d ≡ get_or old i d
    high i d h = grind (arith, places)

    in_page : (xs : List ℕ) (p j d : ℕ) → j < n → get_or (page_bytes n xs p) j d ≡ get_or xs (p * n + j) d
    in_page xs p j d h = ap (λ (m : ℕ). get_or (take m (drop (p * n) xs)) j d) (add-sub_cancel_left (p * n) n) ∙ reads xs p j d h
      where
        reads : (xs : List ℕ) (p j d : ℕ) → j < n → get_or (take n (drop (p * n) xs)) j d ≡ get_or xs (p * n + j) d
        reads xs p j d h = grind (arith, places)

    same_page : (p : ℕ) → p < pages → page_bytes n new p ≡ page_bytes n contents p
    same_page p h = puts.each p h ∙ ap (λ x. unwrap_or x (page_bytes n old p)) (all p h)

    front : (i d : ℕ) → i < pages * n → get_or new i d ≡ get_or contents i d
    front i d h =
        let split : i / n * n + i % n ≡ i = div-add-mod' i n in
        subst (λ (k : ℕ). get_or new k d ≡ get_or contents k d) split
        (sym (in_page new (i / n) (i % n) d (mod_below i n some)) ∙ ap (λ (xs : List ℕ). get_or xs (i % n) d) (same_page (i / n) (page_below i h)) ∙ in_page contents (i / n) (i % n) d (mod_below i n some))
      where
        page_below : (i : ℕ) → i < pages * n → i / n < pages
        page_below i h = elim (cases_lt (i / n) pages) [
          | inl below ↦ below
          | inr above ↦ absurd (omega (arith, mul-le pages n (i / n) n above (omega arith), div-add-mod' i n, h))
        ]

    rest : (i d : ℕ) → pages * n ≤ i → get_or new i d ≡ get_or old i d
    rest i d h = shift i d h new ∙ ap (λ (xs : List ℕ). get_or xs (i - pages * n) d) puts.behind ∙ sym (shift i d h old)
      where
        shift : (i d : ℕ) → pages * n ≤ i → (xs : List ℕ) → get_or xs i d ≡ get_or (drop (pages * n) xs) (i - pages * n) d
        shift i d h xs = grind (arith, places)

-- some lane owns the page
abbrev pub AnyOwns : (path : List ℕ) (page : ℕ) → List LaneSeen → Type 0
AnyOwns path page [] = ⊥
AnyOwns path page (l ∷ ls) = ((is_at path l.origin.backing ≡ true) × (has_page l.origin page ≡ true)) ⊎ AnyOwns path page ls

owned : (path : List ℕ) (page : ℕ) (bytes : List ℕ) (l : LaneSeen) → (is_at path l.origin.backing ≡ true → has_page l.origin page ≡ true → told_at l.told page ≡ Some bytes) → is_at path l.origin.backing ≡ true → has_page l.origin page ≡ true → shows l path page ≡ Some bytes
owned path page bytes l tells here has =
    cond-true (is_at path l.origin.backing) (own_told l.origin l.told page) None here ∙ cond-true (has_page l.origin page) (told_at l.told page) None has ∙ tells here has

one_or_none : (path : List ℕ) (page : ℕ) (bytes : List ℕ) (l : LaneSeen) → (is_at path l.origin.backing ≡ true → has_page l.origin page ≡ true → told_at l.told page ≡ Some bytes) → (shows l path page ≡ None) ⊎ (shows l path page ≡ Some bytes)
one_or_none path page bytes l tells = elim (cases_Bool (is_at path l.origin.backing)) [
  | inr miss ↦ inl (cond-false (is_at path l.origin.backing) (own_told l.origin l.told page) None miss)
  | inl here ↦ elim (cases_Bool (has_page l.origin page)) [
    | inl has ↦ inr (owned path page bytes l tells here has)
    | inr other ↦ inl (cond-true (is_at path l.origin.backing) (own_told l.origin l.told page) None here ∙ cond-false (has_page l.origin page) (told_at l.told page) None other)
  ]
]

or_none : (path : List ℕ) (page : ℕ) (bytes : List ℕ) (ls : List LaneSeen) → AllTell path page bytes ls → (shown ls path page ≡ None) ⊎ (shown ls path page ≡ Some bytes)
or_none path page bytes [] all = inl refl
or_none path page bytes (l ∷ ls) all = elim (or_none path page bytes ls all.1) [
  | inr some ↦ inr (ap (λ x. or_else x (shows l path page)) some)
  | inl none ↦ elim (one_or_none path page bytes l all.0) [
    | inl nothing ↦ inl (ap (λ x. or_else x (shows l path page)) none ∙ nothing)
    | inr own ↦ inr (ap (λ x. or_else x (shows l path page)) none ∙ own)
  ]
]

pub shown_is : (path : List ℕ) (page : ℕ) (bytes : List ℕ) (ls : List LaneSeen) → AllTell path page bytes ls → AnyOwns path page ls → shown ls path page ≡ Some bytes
shown_is path page bytes [] all some = absurd some
shown_is path page bytes (l ∷ ls) all (inr there) = ap (λ x. or_else x (shows l path page)) (shown_is path page bytes ls all.1 there)
shown_is path page bytes (l ∷ ls) all (inl here) = elim (or_none path page bytes ls all.1) [
  | inr found ↦ ap (λ x. or_else x (shows l path page)) found
  | inl none ↦ ap (λ x. or_else x (shows l path page)) none ∙ owned path page bytes l all.0 here.0 here.1
]

-- The file of a region whose pages its lanes tell holds, when the lanes are closed, these contents; its further bytes are
-- as they were
pub file_end : (path : List ℕ) (n pages : ℕ) (contents before : List ℕ) (ls : List LaneSeen) (old new : Shelf) → 0 < n → length contents ≡ pages * n → pages * n ≤ length before → file_at old.files path ≡ Some before → AllSized path n pages ls → ((p : ℕ) → p < pages → AllTell path p (page_bytes n contents p) ls × AnyOwns path p ls) → ClosesAll ls old new → file_at new.files path ≡ Some (contents ++ drop (length contents) before)
file_end path n pages contents before ls old new some size fits there sized tell closes = ends (file_at new.files path) (subst (λ (t : Option (List ℕ)). WhereTold (PutsShown n pages (shown ls path)) t (file_at new.files path)) there (closed_file path n pages ls old new sized closes))
  where
    ends : (u : Option (List ℕ)) → WhereTold (PutsShown n pages (shown ls path)) (Some before) u → u ≡ Some (contents ++ drop (length contents) before)
    ends None puts = absurd puts
    ends (Some now) puts = ap Some (holds_contents n pages (shown ls path) before now contents some size fits puts (λ p h. shown_is path p (page_bytes n contents p) ls (tell p h).0 (tell p h).1))

-- a file that no lane lies in is as before
pub other_file : (path : List ℕ) (ls : List LaneSeen) (old new : Shelf) → ((l : LaneSeen) → Contains ls l → is_at path l.origin.backing ≡ false) → ClosesAll ls old new → file_at new.files path ≡ file_at old.files path
other_file path [] old new none closes = ap (λ (s : Shelf). file_at s.files path) closes
other_file path (l ∷ ls) old new none closes =
    other_file path ls closes.0 new (λ m has. none m (has.0 + 1, omega (arith, has.1), subst (λ (k : ℕ). slice_index_or (l ∷ ls) k m ≡ m) (suc_is has.0) has.2)) closes.2
    ∙ kept l.origin.backing (part_of l) refl (none l (0, omega arith, refl)) old closes.0 closes.1
  where
    suc_is : (k : ℕ) → suc k ≡ k + 1
    suc_is k = omega arith

    kept : (b : Backing) (p : PartSeen) → p.name.path ≡ backing_path b → is_at path b ≡ false → (old new : Shelf) → ClosesIn b p old new → file_at new.files path ≡ file_at old.files path
    kept in_memory p is miss old new closes = ap (λ (s : Shelf). file_at s.files path) closes
    kept (in_file own) p is miss old new closes = closes.elsewhere path (λ e. both_ways (bytes_eq own path) miss ((bytes_eq-Decides own path).1 (sym (e ∙ is))))
    kept (in_files own file) p is miss old new closes = absurd closes
