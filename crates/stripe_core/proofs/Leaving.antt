-- The oldest page that may leave, region by region, and what the search by frames finds of the pages' keys.
use Rattle.std.proofs.Common.{All, Bool, IfSome, List, None, Option, Some, [], ap, arith, cond, false, find, inl, inr, is_some, length, map, not, refl, slice_get, sym, true, ℕ, ◌&&◌, ◌+◌, ◌<◌, ◌==◌, ◌∙◌, ◌∷◌, ◌≡◌, ◌≤◌, ◌⊎◌, ◌||◌, suc, zero, subst}
use Rattle.std.specs.Prelude.{nat_lt}
use Rattle.std.specs.Option.{option_map}
use Rattle.std.proofs.lemmas.Bool.{cases_eq, cases_lt, eqb-true, eq-eqb, false_from_ne_true, lt-ltb, le-ltb}
use Rattle.std.proofs.lemmas.Option.{slice_get-map, slice_get_within}
use Rattle.page_base.specs.declared.keys.Key.{Key}
use Rattle.page_base.specs.Lanes.{LaneSeen}
use Rattle.soft_mmu.specs.declared.entry.PageEntry.{PageEntry}
use Rattle.soft_mmu.specs.declared.entry.PageEntry.TheVariants.{Absent, Present}
use Rattle.soft_mmu.specs.Entries.{table_entry, is_present}
use Rattle.page_buffer.specs.Frames.{resident_key}
use Rattle.page_buffer.specs.Buffers.{BufferSeen, frame_of, is_clean, IsFillOrder}
use Rattle.page_buffer.specs.Buffers as buffer
use Rattle.page_model.specs.Core.{Core, RegionSeen, region_at, place_passes, writes, is_home_place, dirties, is_dirty}
use Rattle.page_model.specs.Residents.{is_in}
use Rattle.stripe_core.specs.declared.region.Region.{Region}
use Rattle.stripe_core.specs.InsideFrameStates.{leaves}
use Rattle.stripe_core.specs.InsideOldest.{goes, goes_of, goes_from, may_go, may_go_below}
use Rattle.stripe_core.specs.InsideParts.{ReadOut}
use Rattle.stripe_core.specs.InsideTied.{Tied, dirt, frame_in}
use Rattle.stripe_core.specs.Parts.{Table, page_in, pages_seen, region_seen, place_of}
use Rattle.stripe_core.proofs.Finds.{held_seen, present_has}
use Rattle.stripe_core.proofs.Keys.{resident_within}

-- ---- what a search finds

pub find_same : (p q : ℕ → Bool) (xs : List ℕ) → ((x : ℕ) → p x ≡ q x) → find p xs ≡ find q xs
find_same p q [] same = refl
find_same p q (x ∷ xs) same = let here : p x ≡ q x = same x in let rest : find p xs ≡ find q xs = find_same p q xs same in rw (here, rest) refl

find_nothing : (p : ℕ → Bool) (xs : List ℕ) → ((x : ℕ) → p x ≡ false) → None ≡ find p xs
find_nothing p [] none = refl
find_nothing p (x ∷ xs) none = let here : p x ≡ false = none x in rw here (find_nothing p xs none)

pub find_mapped : {X : Type 0} (held : ℕ → Type 0) (f : ℕ → X) (p : X → Bool) (q : ℕ → Bool) (xs : List ℕ) → All held xs → ((x : ℕ) → held x → q x ≡ p (f x)) → option_map f (find q xs) ≡ find p (map f xs)
find_mapped held f p q [] all agree = refl
find_mapped held f p q (x ∷ xs) all agree =
    let here : q x ≡ p (f x) = agree x (all 0 x (omega arith)) in
    by_test (q x) (p (f x)) here (find_mapped held f p q xs (λ k d lt. all (suc k) d (omega arith)) agree)
  where
    by_test : (a b : Bool) → a ≡ b → option_map f (find q xs) ≡ find p (map f xs) → option_map f (cond a (Some x) (find q xs)) ≡ cond b (Some (f x)) (find p (map f xs))
    by_test true true e rest = refl
    by_test false false e rest = rest
    by_test true false e rest = absurd cc
    by_test false true e rest = absurd cc

find_held : (held : ℕ → Type 0) (q : ℕ → Bool) (xs : List ℕ) (x : ℕ) → All held xs → Some x ≡ find q xs → held x
find_held held q [] x all e = absurd cc
find_held held q (y ∷ ys) x all e = by_test (q y) e (find_held held q ys x (λ k d lt. all (suc k) d (omega arith)))
  where
    by_test : (a : Bool) → Some x ≡ cond a (Some y) (find q ys) → (Some x ≡ find q ys → held x) → held x
    by_test true at rest = let same : y ≡ x = cc in subst held same (all 0 y (omega arith))
    by_test false at rest = rest at

-- ---- frames in the order of filling

abbrev pub holds_own : BufferSeen → ℕ → Type 0
holds_own b f = resident_key (frame_of b f) ≡ Some (buffer.key_of_frame b f)

pub found_holds : (b : BufferSeen) (q : ℕ → Bool) (f : ℕ) → IsFillOrder b → Some f ≡ find q b.order → holds_own b f
found_holds b q f order e = find_held (holds_own b) q b.order f order.resident e

pub found_within : (b : BufferSeen) (q : ℕ → Bool) (o : Option ℕ) → IsFillOrder b → o ≡ find q b.order → IfSome o (λ f. f < length b.frames)
found_within b q None order e = tt
found_within b q (Some f) order e = resident_within b f (buffer.key_of_frame b f) (found_holds b q f order e)

pub keys_found : (b : BufferSeen) (p : Key → Bool) (q : ℕ → Bool) (o : Option ℕ) → IsFillOrder b → ((f : ℕ) → holds_own b f → q f ≡ p (buffer.key_of_frame b f)) → o ≡ find q b.order → option_map (buffer.key_of_frame b) o ≡ find p b.residents
keys_found b p q o order agree e = ap (option_map (buffer.key_of_frame b)) e ∙ (find_mapped (holds_own b) (buffer.key_of_frame b) p q b.order order.resident agree ∙ ap (find p) (sym order.pages))

-- ---- region by region

module _ {S : Type 0} (seen : S → LaneSeen) (b : BufferSeen) (gs : List (Region S)) where
  pub none_yet : None ≡ find (may_go_below seen b gs 0) b.order
  none_yet = find_nothing (may_go_below seen b gs 0) b.order (λ f. ap (λ t. t && may_go seen b gs f) (le-ltb (buffer.key_of_frame b f).region 0 (omega arith)))

  below_step : (i : ℕ) (g : Region S) (f : ℕ) → slice_get gs i ≡ Some g → (may_go_below seen b gs i f || goes_of b (place_of seen g.lane) i f) ≡ may_go_below seen b gs (i + 1) f
  below_step i g f is = by_region (cases_lt (buffer.key_of_frame b f).region i) (cases_eq (buffer.key_of_frame b f).region i)
    where
      tests : (m : Bool) (before here after : Bool) → nat_lt (buffer.key_of_frame b f).region i ≡ before → ((buffer.key_of_frame b f).region == i) ≡ here → nat_lt (buffer.key_of_frame b f).region (i + 1) ≡ after
          → (before && m || here && goes b (place_of seen g.lane) f) ≡ (after && m) → may_go seen b gs f ≡ m → (may_go_below seen b gs i f || goes_of b (place_of seen g.lane) i f) ≡ may_go_below seen b gs (i + 1) f
      tests m before here after x y z both is_m = rw (x, y, z, is_m) both

      plain : (m : Bool) → (m || false) ≡ m
      plain true = refl
      plain false = refl

      by_region : ((buffer.key_of_frame b f).region < i) ⊎ (i ≤ (buffer.key_of_frame b f).region) → ((buffer.key_of_frame b f).region ≡ i) ⊎ ((buffer.key_of_frame b f).region ≡ i → ⊥) → (may_go_below seen b gs i f || goes_of b (place_of seen g.lane) i f) ≡ may_go_below seen b gs (i + 1) f
      by_region (inl lt) other =
          tests (may_go seen b gs f) true false true (lt-ltb _ i lt) (false_from_ne_true _ (λ e. (let same = eqb-true (buffer.key_of_frame b f).region i e in absurd (omega arith)))) (lt-ltb _ (i + 1) (omega arith)) (plain (may_go seen b gs f)) refl
      by_region (inr ge) (inl e) =
          let mine : may_go seen b gs f ≡ goes b (place_of seen g.lane) f = ap (λ (x : Option (Region S)). goes_from seen b x f) (ap (slice_get gs) e ∙ is) in
          tests (goes b (place_of seen g.lane) f) false true true (le-ltb _ i ge) (eq-eqb _ i e) (lt-ltb _ (i + 1) (omega arith)) refl mine
      by_region (inr ge) (inr ne) =
          tests (may_go seen b gs f) false false false (le-ltb _ i ge) (false_from_ne_true _ (λ e. absurd (ne (eqb-true (buffer.key_of_frame b f).region i e)))) (le-ltb _ (i + 1) (further (buffer.key_of_frame b f).region i ge ne)) refl refl
        where
          further : (a i : ℕ) → i ≤ a → (a ≡ i → ⊥) → i + 1 ≤ a
          further a i ge ne = by_place (cases_lt i a)
            where
              by_place : (i < a) ⊎ (a ≤ i) → i + 1 ≤ a
              by_place (inl lt) = omega arith
              by_place (inr le) = absurd (ne (omega arith))

  pub one_more_region : (i : ℕ) (g : Region S) → slice_get gs i ≡ Some g → find (λ f. may_go_below seen b gs i f || goes_of b (place_of seen g.lane) i f) b.order ≡ find (may_go_below seen b gs (i + 1)) b.order
  one_more_region i g is = find_same _ (may_go_below seen b gs (i + 1)) b.order (λ f. below_step i g f is)

  pub all_regions : (n : ℕ) → length gs ≤ n → find (may_go_below seen b gs n) b.order ≡ find (may_go seen b gs) b.order
  all_regions n all = find_same (may_go_below seen b gs n) (may_go seen b gs) b.order (λ f. by_region f (slice_get gs (buffer.key_of_frame b f).region) refl)
    where
      by_region : (f : ℕ) (x : Option (Region S)) → slice_get gs (buffer.key_of_frame b f).region ≡ x → may_go_below seen b gs n f ≡ may_go seen b gs f
      by_region f None is =
          let nothing : may_go seen b gs f ≡ false = ap (λ (y : Option (Region S)). goes_from seen b y f) is in
          rw nothing (none (nat_lt (buffer.key_of_frame b f).region n))
        where
          none : (t : Bool) → (t && false) ≡ false
          none true = refl
          none false = refl
      by_region f (Some g) is = let lt = slice_get_within gs (buffer.key_of_frame b f).region g is in ap (λ t. t && may_go seen b gs f) (lt-ltb (buffer.key_of_frame b f).region n (omega arith))

-- ---- by the data that contracts see

dirty_is : (b : BufferSeen) (k : Key) (e : PageEntry) → (page_in b k e).dirty ≡ dirt e
dirty_is b k Absent = refl
dirty_is b k (Present p d f) = refl

there : (e : PageEntry) (f : ℕ) → frame_in e ≡ Some f → is_present e ≡ true
there Absent f is = absurd cc
there (Present p d g) f is = refl

pub go_leaves : {S : Type 0} (seen : S → LaneSeen) (c : Core) (t : Table) (b : BufferSeen) (gs : List (Region S)) (outs : List (Option ReadOut)) → Tied t b outs → length t ≡ length gs → pages_seen t b ≡ c.pages → map (region_seen seen) gs ≡ c.regions
    → (f : ℕ) → holds_own b f → may_go seen b gs f ≡ leaves c (buffer.key_of_frame b f)
go_leaves {S} seen c t b gs outs tied rows pages regions f held = by_region (slice_get gs (buffer.key_of_frame b f).region) refl
  where
    at : frame_in (table_entry t (buffer.key_of_frame b f)) ≡ Some f
    at = tied.frames f (buffer.key_of_frame b f) held

    clean : not (is_dirty c (buffer.key_of_frame b f)) ≡ is_clean b f
    clean =
        let in_it : is_in (buffer.key_of_frame b f) b.residents ≡ true = tied.residents (buffer.key_of_frame b f) ∙ ap is_some at in
        let shown = held_seen c t b (buffer.key_of_frame b f) pages in_it in
        ap not (ap dirties shown ∙ dirty_is b (buffer.key_of_frame b f) (table_entry t (buffer.key_of_frame b f))) ∙ sym (tied.marks (buffer.key_of_frame b f) f at)

    by_region : (x : Option (Region S)) → slice_get gs (buffer.key_of_frame b f).region ≡ x → may_go seen b gs f ≡ leaves c (buffer.key_of_frame b f)
    by_region None is =
        let has = present_has t (buffer.key_of_frame b f) (there (table_entry t (buffer.key_of_frame b f)) f at) in
        let lt = has.region in
        absurd (nothing gs (buffer.key_of_frame b f).region (omega arith) is)
      where
        nothing : (xs : List (Region S)) (i : ℕ) → i < length xs → slice_get xs i ≡ None → ⊥
        nothing [] i lt e = absurd (omega arith)
        nothing (x ∷ xs) zero lt e = cc
        nothing (x ∷ xs) (suc i) lt e = nothing xs i (omega arith) e
    by_region (Some g) is =
        let region : region_at c (buffer.key_of_frame b f).region ≡ Some (region_seen seen g) = ap (λ rs. slice_get rs (buffer.key_of_frame b f).region) (sym regions) ∙ (slice_get-map (region_seen seen) gs (buffer.key_of_frame b f).region ∙ ap (option_map (region_seen seen)) is) in
        let left : may_go seen b gs f ≡ goes b (place_of seen g.lane) f = ap (λ (y : Option (Region S)). goes_from seen b y f) is in
        let right : leaves c (buffer.key_of_frame b f) ≡ goes b (place_of seen g.lane) f =
        ap (λ (x : Option RegionSeen). not (place_passes (λ p. writes p (buffer.key_of_frame b f)) x) && (not (is_dirty c (buffer.key_of_frame b f)) || place_passes is_home_place x)) region
        ∙ ap (λ d. not (writes (place_of seen g.lane) (buffer.key_of_frame b f)) && (d || is_home_place (place_of seen g.lane))) clean in
        left ∙ sym right
