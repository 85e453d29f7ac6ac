-- A lane one of whose parts changed: what it tells then, and its count.
use Rattle.std.proofs.Common.{◌≡◌, ◌≢◌, ◌⊎◌, inl, inr, ℕ, zero, suc, ◌+◌, ◌-◌, ◌*◌, ◌/◌, ◌%◌, ◌<◌, ◌≤◌, true, cond, List, [], ◌∷◌, map, length, take, drop, slice_range, Option, Some, None, refl, sym, ap, subst, ◌∙◌, arith, rules, length-set}
use Rattle.std.specs.Option.{IfSome, is_some, option_map}
use Rattle.std.specs.Prelude.{Ok, Err, slice_get, slice_set, sum_by}
use Rattle.std.proofs.lemmas.Bool.{cases_Bool, cases_lt, cases_order, cond-true, cond-false, and_parts, eqb-true}
use Rattle.std.proofs.lemmas.List.{places, same_lists, ext_get_or, map-set}
use Rattle.std.proofs.lemmas.List.Sums.{sum_by-set, get_or-le-sum_by}
use Rattle.std.proofs.lemmas.Nat.{div-add-mod', mul-le, mod_below}
use Rattle.std.proofs.lemmas.Option.{get_or_from_slice_get, slice_get_within, slice_get-map, same_Some}
use Rattle.std.proofs.Math.Nat.{add-sub_cancel_left}
use Rattle.page_base.specs.Lanes.{Origin, has_page, told_at, Rose}
use Rattle.page_base.specs.ListSeen.{spliced}
use Rattle.page_base.specs.declared.layout.Layout.{Layout}
use Rattle.store_trait.specs.Causes.{HasCause}
use Rattle.store_trait.specs.Lanes.{ChangesOnly, IsPageOf, retold}
use Rattle.store_trait.specs.Memory.{page_bytes}
use Rattle.store_trait.specs.declared.store.StoreFault.{StoreFault}
use Rattle.file_store.specs.Folders.{whole_name}
use Rattle.file_store.specs.Parts.{PartName, PartSeen, WhereTold, DiffersWithin}
use Rattle.sparse_store.specs.Files.{file_path}
use Rattle.sparse_store.specs.InsideLaneFiles.{AreLaneFiles, file_number}
use Rattle.sparse_store.specs.LaneLaws.{length-sparse_told, told_at-sparse_told}
use Rattle.sparse_store.specs.SparseFiles.{file_bytes}
use Rattle.sparse_store.specs.InsideFiles.{LiesWithin, IsFileRange, TakesFileRange}
use Rattle.sparse_store.specs.SparseLanes.{bytes_in, file_among, page_of_file, sparse_told, count_of_all}
use Rattle.sparse_store.specs.declared.meta.Meta.{Meta}

-- ---- lists with one item written over

pub set_here : {X : Type 0} (xs : List X) (i : ℕ) (x y : X) → slice_get xs i ≡ Some x → slice_get (slice_set xs i y) i ≡ Some y
set_here [] i x y e = absurd (cc)
set_here (z ∷ xs) zero x y e = refl
set_here (z ∷ xs) (suc i) x y e = set_here xs i x y e

pub set_other : {X : Type 0} (xs : List X) (i k : ℕ) (y : X) → k ≢ i → slice_get (slice_set xs i y) k ≡ slice_get xs k
set_other [] i k y apart = refl
set_other (z ∷ xs) zero zero y apart = absurd (apart refl)
set_other (z ∷ xs) zero (suc k) y apart = refl
set_other (z ∷ xs) (suc i) zero y apart = refl
set_other (z ∷ xs) (suc i) (suc k) y apart = set_other xs i k y (λ e. apart (ap suc e))

pub same_or_not : (j k : ℕ) → (j ≡ k) ⊎ (j ≢ k)
same_or_not j k = elim (cases_order j k) [
  | inl same ↦ inl same
  | inr (inl lt) ↦ inr (λ e. omega (arith, lt, e))
  | inr (inr gt) ↦ inr (λ e. omega (arith, gt, e))
]

-- ---- numbers of one stripe

pub rows_apart : (i j n : ℕ) → i < j → i * n + n ≤ j * n
rows_apart i j n h = omega (arith, mul-le (i + 1) n j n (omega arith) (omega arith))

not_below : (n r p q : ℕ) → 0 < n → (r + p) % n ≡ (r + q) % n → p / n ≡ q / n → q ≤ p
not_below n r p q some residue row = elim (cases_lt p q) [
  | inr le ↦ le
  | inl lt ↦ absurd (elim (cases_lt ((r + p) / n) ((r + q) / n)) [
    | inl below ↦ omega (arith, rows_apart ((r + p) / n) ((r + q) / n) n below, div-add-mod' (r + p) n, div-add-mod' (r + q) n, div-add-mod' p n, div-add-mod' q n, ap (λ (x : ℕ). x * n) row, mod_below q n some)
    | inr above ↦ omega (arith, mul-le ((r + q) / n) n ((r + p) / n) n above (omega arith), div-add-mod' (r + p) n, div-add-mod' (r + q) n)
  ])
]

-- two files of one stripe at one place are one
pub one_file : (n r p q : ℕ) → 0 < n → (r + p) % n ≡ (r + q) % n → p / n ≡ q / n → p ≡ q
one_file n r p q some residue row =
    let a : q ≤ p = not_below n r p q some residue row in
    let b : p ≤ q = not_below n r q p some (sym residue) (sym row) in
    omega arith

-- two pages of one file at one place in it are one
one_page : (g p q : ℕ) → p / g ≡ q / g → p % g ≡ q % g → p ≡ q
one_page g p q row at = omega (arith, div-add-mod' p g, div-add-mod' q g, ap (λ (x : ℕ). x * g) row, at)

-- ---- what lanes tell

told_same : (o : Origin) (f g : ℕ → Option (List ℕ)) (p : ℕ) → (has_page o p ≡ true → page_of_file o (f (p / o.group)) p ≡ page_of_file o (g (p / o.group)) p) → told_at (sparse_told o f) p ≡ told_at (sparse_told o g) p
told_same o f g p same = told_at-sparse_told o f p ∙ agree ∙ sym (told_at-sparse_told o g p)
  where
    agree : cond (has_page o p) (page_of_file o (f (p / o.group)) p) None ≡ cond (has_page o p) (page_of_file o (g (p / o.group)) p) None
    agree = elim (cases_Bool (has_page o p)) [
      | inl its ↦ ap (λ t. cond (has_page o p) t None) (same its)
      | inr other ↦ cond-false (has_page o p) (page_of_file o (f (p / o.group)) p) None other ∙ sym (cond-false (has_page o p) (page_of_file o (g (p / o.group)) p) None other)
    ]

told_of : (o : Origin) (f : ℕ → Option (List ℕ)) (p : ℕ) → has_page o p ≡ true → told_at (sparse_told o f) p ≡ page_of_file o (f (p / o.group)) p
told_of o f p its = told_at-sparse_told o f p ∙ cond-true (has_page o p) (page_of_file o (f (p / o.group)) p) None its

file_of_stripe : (o : Origin) (p : ℕ) → has_page o p ≡ true → (o.region + p / o.group) % o.stripes ≡ o.stripe
file_of_stripe o p has = eqb-true _ _ (and_parts _ _ has).1

-- a range apart from the one that was written is as before
range_stays : (xs ys : List ℕ) (a b n : ℕ) → DiffersWithin a n xs ys → (b + n ≤ a) ⊎ (a + n ≤ b) → take n (drop b ys) ≡ take n (drop b xs)
range_stays xs ys a b n d apart = elim apart [
  | inl before ↦ front ys before ∙ ap (λ (zs : List ℕ). take n (drop b zs)) d.before ∙ sym (front xs before)
  | inr behind ↦ back ys behind ∙ ap (λ (zs : List ℕ). take n (drop (b - (a + n)) zs)) d.behind ∙ sym (back xs behind)
]
  where
    front : (zs : List ℕ) → b + n ≤ a → take n (drop b zs) ≡ take n (drop b (take a zs))
    front zs le = same_lists _ _ (grind (arith, places)) (λ k h e. grind (arith, places))

    back : (zs : List ℕ) → a + n ≤ b → take n (drop b zs) ≡ take n (drop (b - (a + n)) (drop (a + n) zs))
    back zs le = same_lists _ _ (grind (arith, places)) (λ k h e. grind (arith, places))

-- ---- one part

module _ (parts : List PartSeen) (place : ℕ) (was is : PartSeen) (here : slice_get parts place ≡ Some was) where
  -- the parts are those of the lane's files still
  pub files_stay : (dir : List ℕ) (m : Meta) (layout : Layout) (region stripe : ℕ) → is.name ≡ was.name → AreLaneFiles dir m layout region stripe parts → AreLaneFiles dir m layout region stripe (slice_set parts place is)
  files_stay dir m layout region stripe named are = record {
    stripe_below = are.stripe_below;
    all = λ number below of. rw (length-set parts place is) (are.all number below of);
    below = λ k below. are.below k (rw (sym (length-set parts place is)) below);
    names = λ k p got. elim (same_or_not k place) [
      | inl same ↦
          let at : slice_get (slice_set parts place is) place ≡ Some p = subst (λ (j : ℕ). slice_get (slice_set parts place is) j ≡ Some p) same got in
          let it : is ≡ p = same_Some is p (sym (set_here parts place was is here) ∙ at) in
          subst (λ (j : ℕ). p.name ≡ whole_name (file_path dir (file_number layout.stripes region stripe j)) m.file) (sym same)
          (ap (λ (q : PartSeen). q.name) (sym it) ∙ named ∙ are.names place was here)
      | inr apart ↦ are.names k p (sym (set_other parts place k is apart) ∙ got)
    ];
  }

  count_sums : sum_by (λ (p : PartSeen). p.count) (slice_set parts place is) + was.count ≡ sum_by (λ (p : PartSeen). p.count) parts + is.count
  count_sums = ap (λ (p : PartSeen). sum_by (λ (q : PartSeen). q.count) (slice_set parts place is) + p.count) (sym (get_or_from_slice_get parts place was was here)) ∙ sum_by-set (λ (p : PartSeen). p.count) parts place is was (slice_get_within parts place was here)

  pub count_grows : was.count ≤ is.count → count_of_all parts ≤ count_of_all (slice_set parts place is)
  count_grows later = omega (arith, count_sums, later)

  pub count_rose : Rose was.count is.count → Rose (count_of_all parts) (count_of_all (slice_set parts place is))
  count_rose rose =
      let among : is.count ≤ sum_by (λ (p : PartSeen). p.count) (slice_set parts place is) = subst (λ (p : PartSeen). p.count ≤ sum_by (λ (q : PartSeen). q.count) (slice_set parts place is)) (get_or_from_slice_get (slice_set parts place is) place is is (set_here parts place was is here)) (get_or-le-sum_by (λ (p : PartSeen). p.count) (slice_set parts place is) place is (rw (length-set parts place is) (slice_get_within parts place was here))) in
      omega (arith, count_sums, rose, among)

  module _ (o : Origin) (some : 0 < o.stripes) where
    abbrev pub told_before : ℕ → Option (List ℕ)
    told_before = told_at (sparse_told o (file_among o.stripes parts))

    abbrev pub told_behind : ℕ → Option (List ℕ)
    told_behind = told_at (sparse_told o (file_among o.stripes (slice_set parts place is)))

    elsewhere : (number : ℕ) → number / o.stripes ≢ place → file_among o.stripes (slice_set parts place is) number ≡ file_among o.stripes parts number
    elsewhere number apart = ap bytes_in (set_other parts place (number / o.stripes) is apart)

    file_was : (number : ℕ) → number / o.stripes ≡ place → file_among o.stripes parts number ≡ file_bytes was
    file_was number at = ap bytes_in (ap (slice_get parts) at ∙ here)

    file_is : (number : ℕ) → number / o.stripes ≡ place → file_among o.stripes (slice_set parts place is) number ≡ file_bytes is
    file_is number at = ap bytes_in (ap (slice_get (slice_set parts place is)) at ∙ set_here parts place was is here)

    -- where the file holds the same bytes, the lane tells the same
    pub told_stays : file_bytes is ≡ file_bytes was → sparse_told o (file_among o.stripes (slice_set parts place is)) ≡ sparse_told o (file_among o.stripes parts)
    told_stays same =
        let f = file_among o.stripes (slice_set parts place is) in
        let g = file_among o.stripes parts in
        ext_get_or None (sparse_told o f) (sparse_told o g) (length-sparse_told o f ∙ sym (length-sparse_told o g)) (λ p _. told_same o f g p (λ has. ap (λ t. page_of_file o t p) (elim (same_or_not (p / o.group / o.stripes) place) [
          | inl at ↦ file_is (p / o.group) at ∙ same ∙ sym (file_was (p / o.group) at)
          | inr apart ↦ elsewhere (p / o.group) apart
        ])))

    module _ (page : ℕ) (has : has_page o page ≡ true) (at : page / o.group / o.stripes ≡ place) where
      tells_was : told_before page ≡ page_of_file o (file_bytes was) page
      tells_was = told_of o (file_among o.stripes parts) page has ∙ ap (λ t. page_of_file o t page) (file_was (page / o.group) at)

      tells_is : told_behind page ≡ page_of_file o (file_bytes is) page
      tells_is = told_of o (file_among o.stripes (slice_set parts place is)) page has ∙ ap (λ t. page_of_file o t page) (file_is (page / o.group) at)

      -- what is read of the file is what the lane tells of the page
      pub page_is_read : (bytes : List ℕ) (start : ℕ) → start ≡ page % o.group * o.page_size → length bytes ≡ o.page_size
          → IfSome (file_bytes was) (λ kept. bytes ≡ slice_range kept start (start + length bytes)) → IsPageOf (sparse_told o (file_among o.stripes parts)) page bytes
      page_is_read bytes start begins size gives = subst (λ t. IfSome t (λ kept. bytes ≡ kept)) (sym tells_was) (go (file_bytes was) gives)
        where
          go : (t : Option (List ℕ)) → IfSome t (λ kept. bytes ≡ slice_range kept start (start + length bytes)) → IfSome (page_of_file o t page) (λ kept. bytes ≡ kept)
          go None gives = tt
          go (Some kept) gives = gives ∙ ap (λ (n : ℕ). slice_range kept start (start + n)) size ∙ ap (λ (a : ℕ). slice_range kept a (a + o.page_size)) begins

      -- what is written to the file is what the lane tells of the page then
      pub page_is_written : (bytes : List ℕ) (start file : ℕ) → start ≡ page % o.group * o.page_size → length bytes ≡ o.page_size → start + o.page_size ≤ file
          → IfSome (file_bytes was) (λ kept. length kept ≡ file) → file_bytes is ≡ option_map (λ kept. spliced kept start bytes) (file_bytes was)
          → told_behind page ≡ retold (told_before page) bytes
      page_is_written bytes start file begins size within whole takes =
          tells_is ∙ ap (λ t. page_of_file o t page) takes ∙ go (file_bytes was) whole ∙ ap (λ t. retold t bytes) (sym tells_was)
        where
          here_now : (kept : List ℕ) → length kept ≡ file → page_bytes o.page_size (spliced kept start bytes) (page % o.group) ≡ bytes
          here_now kept whole = subst (λ (a : ℕ). slice_range (spliced kept start bytes) a (a + o.page_size) ≡ bytes) begins (rw (add-sub_cancel_left start o.page_size) (same_lists _ _ (search (rules, places)) (λ k d h. grind (arith, places))))

          go : (t : Option (List ℕ)) → IfSome t (λ kept. length kept ≡ file) → page_of_file o (option_map (λ kept. spliced kept start bytes) t) page ≡ retold (page_of_file o t page) bytes
          go None whole = refl
          go (Some kept) whole = ap Some (here_now kept whole)

      -- and of no other page it tells anything else
      pub others_stay : (start n : ℕ) → start ≡ page % o.group * o.page_size → n ≡ o.page_size → WhereTold (DiffersWithin start n) (file_bytes was) (file_bytes is)
          → ChangesOnly page (sparse_told o (file_among o.stripes parts)) (sparse_told o (file_among o.stripes (slice_set parts place is)))
      others_stay start n begins size differs = record {
        as_many = length-sparse_told o (file_among o.stripes (slice_set parts place is)) ∙ sym (length-sparse_told o (file_among o.stripes parts));
        others = λ q apart. told_same_at q apart;
        stays_told = ap is_some tells_is ∙ still (file_bytes was) (file_bytes is) differs ∙ sym (ap is_some tells_was);
      }
        where
          still : (t u : Option (List ℕ)) → WhereTold (DiffersWithin start n) t u → is_some (page_of_file o u page) ≡ is_some (page_of_file o t page)
          still None None d = refl
          still None (Some u) d = absurd d
          still (Some t) None d = absurd d
          still (Some t) (Some u) d = refl

          apart_in_file : (q : ℕ) → q % o.group ≢ page % o.group → (q % o.group * o.page_size + n ≤ start) ⊎ (start + n ≤ q % o.group * o.page_size)
          apart_in_file q other = elim (cases_order (q % o.group) (page % o.group)) [
            | inl same ↦ absurd (other same)
            | inr (inl lt) ↦ inl (omega (arith, rows_apart (q % o.group) (page % o.group) o.page_size lt, begins, size))
            | inr (inr gt) ↦ inr (omega (arith, rows_apart (page % o.group) (q % o.group) o.page_size gt, begins, size))
          ]

          other_page : (q : ℕ) → q % o.group ≢ page % o.group → (t u : Option (List ℕ)) → WhereTold (DiffersWithin start n) t u → page_of_file o u q ≡ page_of_file o t q
          other_page q other None None d = refl
          other_page q other None (Some u) d = absurd d
          other_page q other (Some t) None d = absurd d
          other_page q other (Some t) (Some u) d =
              ap Some (rw (add-sub_cancel_left (q % o.group * o.page_size) o.page_size) (subst (λ (k : ℕ). take k (drop (q % o.group * o.page_size) u) ≡ take k (drop (q % o.group * o.page_size) t)) size (range_stays t u start (q % o.group * o.page_size) n d (apart_in_file q other))))

          told_same_at : (q : ℕ) → q ≢ page → told_behind q ≡ told_before q
          told_same_at q apart = told_same o (file_among o.stripes (slice_set parts place is)) (file_among o.stripes parts) q (λ has_q. elim (same_or_not (q / o.group / o.stripes) place) [
            | inl there ↦
                let residue : (o.region + q / o.group) % o.stripes ≡ (o.region + page / o.group) % o.stripes = file_of_stripe o q has_q ∙ sym (file_of_stripe o page has) in
                let file : q / o.group ≡ page / o.group = one_file o.stripes o.region (q / o.group) (page / o.group) some residue (there ∙ sym at) in
                ap (λ t. page_of_file o t q) (file_is (q / o.group) there)
                ∙ other_page q (λ e. apart (one_page o.group q page file e)) (file_bytes was) (file_bytes is) differs
                ∙ sym (ap (λ t. page_of_file o t q) (file_was (q / o.group) there))
            | inr far ↦ ap (λ t. page_of_file o t q) (elsewhere (q / o.group) far)
          ])

-- ---- the parts of a struct

module _ {P : Type 0} (seen : P → PartSeen) (xs : List P) (place : ℕ) (was is : P) (here : slice_get xs place ≡ Some was) where
  pub seen_here : slice_get (map seen xs) place ≡ Some (seen was)
  seen_here = slice_get-map seen xs place ∙ ap (option_map seen) here

  seen_set : map seen (slice_set xs place is) ≡ slice_set (map seen xs) place (seen is)
  seen_set = map-set seen xs place is

  pub lane_files_stay : (dir : List ℕ) (m : Meta) (layout : Layout) (region stripe : ℕ) → (seen is).name ≡ (seen was).name → AreLaneFiles dir m layout region stripe (map seen xs) → AreLaneFiles dir m layout region stripe (map seen (slice_set xs place is))
  lane_files_stay dir m layout region stripe named are = subst (AreLaneFiles dir m layout region stripe) (sym seen_set) (files_stay (map seen xs) place (seen was) (seen is) seen_here dir m layout region stripe named are)

  pub lane_range : (dir : List ℕ) (m : Meta) (layout : Layout) (region stripe start n : ℕ) → start + n ≤ m.file → AreLaneFiles dir m layout region stripe (map seen xs) → IsFileRange (seen was) start n
  lane_range dir m layout region stripe start n within are = subst (λ (name : PartName). LiesWithin name.extent start n) (sym (are.names place (seen was) seen_here)) within

  pub lane_tells : (o : Origin) → 0 < o.stripes → file_bytes (seen is) ≡ file_bytes (seen was) → sparse_told o (file_among o.stripes (map seen (slice_set xs place is))) ≡ sparse_told o (file_among o.stripes (map seen xs))
  lane_tells o some same = ap (λ (ps : List PartSeen). sparse_told o (file_among o.stripes ps)) seen_set ∙ told_stays (map seen xs) place (seen was) (seen is) seen_here o some same

  pub lane_writes : (o : Origin) → 0 < o.stripes → (page : ℕ) → has_page o page ≡ true → page / o.group / o.stripes ≡ place → (bytes : List ℕ) (start file : ℕ) → start ≡ page % o.group * o.page_size → length bytes ≡ o.page_size → start + o.page_size ≤ file
      → IfSome (file_bytes (seen was)) (λ kept. length kept ≡ file) → TakesFileRange (seen was) (seen is) start bytes
      → told_at (sparse_told o (file_among o.stripes (map seen (slice_set xs place is)))) page ≡ retold (told_at (sparse_told o (file_among o.stripes (map seen xs))) page) bytes
  lane_writes o some page has at bytes start file begins size within whole takes =
      ap (λ (ps : List PartSeen). told_at (sparse_told o (file_among o.stripes ps)) page) seen_set ∙ page_is_written (map seen xs) place (seen was) (seen is) seen_here o some page has at bytes start file begins size within whole takes

  pub lane_keeps : (o : Origin) → 0 < o.stripes → (page : ℕ) → has_page o page ≡ true → page / o.group / o.stripes ≡ place → (start n : ℕ) → start ≡ page % o.group * o.page_size → n ≡ o.page_size
      → WhereTold (DiffersWithin start n) (file_bytes (seen was)) (file_bytes (seen is))
      → ChangesOnly page (sparse_told o (file_among o.stripes (map seen xs))) (sparse_told o (file_among o.stripes (map seen (slice_set xs place is))))
  lane_keeps o some page has at start n begins size differs =
      subst (λ (ps : List PartSeen). ChangesOnly page (sparse_told o (file_among o.stripes (map seen xs))) (sparse_told o (file_among o.stripes ps))) (sym seen_set)
      (others_stay (map seen xs) place (seen was) (seen is) seen_here o some page has at start n begins size differs)

  module _ (later : (seen was).count ≤ (seen is).count) where
    lane_later : count_of_all (map seen xs) ≤ count_of_all (map seen (slice_set xs place is))
    lane_later = subst (λ (ps : List PartSeen). count_of_all (map seen xs) ≤ count_of_all ps) (sym seen_set) (count_grows (map seen xs) place (seen was) (seen is) seen_here later)

    -- a call of the part that went well, and one that failed
    pub lane_went : (u : Unit {0}) → HasCause (λ (e : StoreFault). e.faults) (count_of_all (map seen xs)) (count_of_all (map seen (slice_set xs place is))) (Ok u)
    lane_went u = record { later = lane_later; failed = tt; carries = tt }

    pub lane_failed : (f : StoreFault) → f.faults ≡ count_of_all (map seen (slice_set xs place is)) → Rose (seen was).count (seen is).count → HasCause {T = Unit {0}} (λ (e : StoreFault). e.faults) (count_of_all (map seen xs)) (count_of_all (map seen (slice_set xs place is))) (Err f)
    lane_failed f carried rose = record {
      later = lane_later;
      failed = subst (λ (ps : List PartSeen). Rose (count_of_all (map seen xs)) (count_of_all ps)) (sym seen_set) (count_rose (map seen xs) place (seen was) (seen is) seen_here rose);
      carries = carried;
    }
