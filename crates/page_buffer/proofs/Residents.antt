-- The resident pages in order of filling, as the numbers of their frames show them.
use Rattle.std.proofs.Common.{◌≡◌, ◌≢◌, ◌⊎◌, inl, inr, ◌∙◌, ℕ, ◌<◌, ◌≤◌, Bool, true, false, not, cond, ◌==◌, List, [], ◌∷◌, ◌++◌, length, take, drop, refl, sym, ap, subst, arith, get_or-set_same, get_or-set_other}
use Rattle.std.specs.Prelude.{count_by, slice_index_or, slice_set, map}
use Rattle.std.proofs.lemmas.Bool.{cases_eq, cases_lt, eq-eqb, eqb-true}
use Rattle.std.proofs.Math.Seq.{take-append_seam}
use Rattle.std.proofs.lemmas.List.{get_or_past, map-append}
use Rattle.page_base.specs.declared.keys.Key.{Key}
use Rattle.page_base.specs.Pages.{same}
use Rattle.index_lists.specs.Lists as lists
use Rattle.page_buffer.specs.Frames.{FrameSeen, Free, Reserved, Resident, page_of, refilled, is_resident, is_for}
use Rattle.page_buffer.specs.Buffers.{without}
use Rattle.page_buffer.specs.Insides.{key_in, residents_seen, IsOrdered}
use Rattle.page_buffer.proofs.Keys.{same_self}
use Rattle.page_buffer.proofs.Counts.{one, count_by-cons, count_by-two, count_by-without}
use Rattle.page_buffer.proofs.Sound.{Holds, placed_in}

-- the pages of the frames in a list, where they are the same by two counts
map_agree : (g h : ℕ → Key) (order : List ℕ) → ((n : ℕ) → 1 ≤ placed_in n order → g n ≡ h n) → map g order ≡ map h order
map_agree g h [] agree = refl
map_agree g h (x ∷ xs) agree =
    let here : 1 ≤ placed_in x (x ∷ xs) = (let cons = count_by-cons (λ other. other == x) x xs in let counts : one (x == x) ≡ 1 = ap one (eq-eqb x x refl) in omega arith) in
    let rest = map_agree g h xs (λ n there. agree n (let cons = count_by-cons (λ other. other == n) x xs in omega arith)) in
    cc (agree x here, rest)

-- one frame changes that isn't in the order
pub residents_kept : (frames : List FrameSeen) (order : List ℕ) (f : ℕ) (y : FrameSeen) → placed_in f order ≡ 0 → residents_seen (slice_set frames f y) order ≡ residents_seen frames order
residents_kept frames order f y none =
    map_agree (key_in (slice_set frames f y)) (key_in frames) order
    (λ n there. ap page_of (get_or-set_other frames f n y Free (λ e. (let was : placed_in n order ≡ 0 = subst (λ m. placed_in m order ≡ 0) (sym e) none in omega arith))))

-- one frame changes and stays for its page
pub residents_same : (frames : List FrameSeen) (order : List ℕ) (f : ℕ) (x y : FrameSeen) → Holds frames f x → page_of y ≡ page_of x → residents_seen (slice_set frames f y) order ≡ residents_seen frames order
residents_same frames order f x y at same_page = map_agree (key_in (slice_set frames f y)) (key_in frames) order (λ n there. by_number n (cases_eq n f))
  where
    by_number : (n : ℕ) → (n ≡ f) ⊎ (n ≢ f) → key_in (slice_set frames f y) n ≡ key_in frames n
    by_number n (inl e) = subst (λ m. key_in (slice_set frames f y) m ≡ key_in frames m) (sym e) (ap page_of (get_or-set_same frames f y Free at.within) ∙ (same_page ∙ sym (ap page_of at.is)))
    by_number n (inr differs) = ap page_of (get_or-set_other frames f n y Free differs)

pub residents_pushed : (frames : List FrameSeen) (order : List ℕ) (f : ℕ) → residents_seen frames (order ++ f ∷ []) ≡ residents_seen frames order ++ key_in frames f ∷ []
residents_pushed frames order f = map-append (key_in frames) order (f ∷ [])

-- ---- a page leaves

-- of the pages of a list, those but one page's are those of the numbers but one
map-without : (page : ℕ → Key) (key : Key) (f : ℕ) (order : List ℕ) → ((n : ℕ) → 1 ≤ placed_in n order → same (page n) key ≡ (n == f)) → without key (map page order) ≡ map page (lists.without f order)
map-without page key f [] agree = refl
map-without page key f (x ∷ xs) agree = by_test (x == f) (same (page x) key) (agree x here) (map-without page key f xs (λ n there. agree n (let cons = count_by-cons (λ other. other == n) x xs in omega arith)))
  where
    here : 1 ≤ placed_in x (x ∷ xs)
    here = let cons = count_by-cons (λ other. other == x) x xs in let counts : one (x == x) ≡ 1 = ap one (eq-eqb x x refl) in omega arith

    by_test : (b t : Bool) → t ≡ b → without key (map page xs) ≡ map page (lists.without f xs)
        → cond (not t) (page x ∷ without key (map page xs)) (without key (map page xs)) ≡ map page (cond (not b) (x ∷ lists.without f xs) (lists.without f xs))
    by_test true t e rest = ap (λ (u : Bool). cond (not u) (page x ∷ without key (map page xs)) (without key (map page xs))) e ∙ rest
    by_test false t e rest = ap (λ (u : Bool). cond (not u) (page x ∷ without key (map page xs)) (without key (map page xs))) e ∙ ap (λ (ks : List Key). page x ∷ ks) rest

is_for_page : (x : FrameSeen) (key : Key) → is_resident x ≡ true → same (page_of x) key ≡ true → is_for key x ≡ true
is_for_page Free key resident e = cc
is_for_page (Reserved other) key resident e = cc
is_for_page (Resident other bytes) key resident e = e

-- a frame in the order has a resident page
pub resident_there : (frames : List FrameSeen) (order : List ℕ) (n : ℕ) → IsOrdered frames order → 1 ≤ placed_in n order → (is_resident (slice_index_or frames n Free) ≡ true) × (n < length frames)
resident_there frames order n s there = by_test (is_resident (slice_index_or frames n Free)) refl (cases_lt n (length frames))
  where
    by_test : (b : Bool) → is_resident (slice_index_or frames n Free) ≡ b → (n < length frames) ⊎ (length frames ≤ n) → (b ≡ true) × (n < length frames)
    by_test false e place = let counts : one (is_resident (slice_index_or frames n Free)) ≡ 0 = ap one e in let was = s.placed n in absurd (omega arith)
    by_test true e (inl within) = (refl, within)
    by_test true e (inr past) = let free = ap is_resident (get_or_past frames n Free past) in absurd (cc (free, e))

-- two frames for one page are one
apart_in : (frames : List FrameSeen) (key : Key) (n f : ℕ) → n < length frames → f < length frames → n ≢ f → is_for key (slice_index_or frames n Free) ≡ true → is_for key (slice_index_or frames f Free) ≡ true → count_by (is_for key) frames ≤ 1 → ⊥
apart_in frames key n f n_in f_in differs first second once = by_place (cases_lt n f)
  where
    by_place : (n < f) ⊎ (f ≤ n) → ⊥
    by_place (inl before) = let twice = count_by-two (is_for key) frames n f Free before f_in first second in omega arith
    by_place (inr behind) = let twice = count_by-two (is_for key) frames f n Free (omega arith) n_in second first in omega arith

pub residents_released : (frames : List FrameSeen) (order : List ℕ) (f : ℕ) (key : Key) (bytes : List ℕ) → IsOrdered frames order → Holds frames f (Resident key bytes)
    → residents_seen (slice_set frames f Free) (lists.without f order) ≡ without key (residents_seen frames order)
residents_released frames order f key bytes s at =
    residents_kept frames (lists.without f order) f Free (count_by-without (λ other. other == f) order)
    ∙ sym (map-without (key_in frames) key f order (λ n there. by_number n there (cases_eq n f)))
  where
    here : key_in frames f ≡ key
    here = ap page_of at.is

    by_number : (n : ℕ) → 1 ≤ placed_in n order → (n ≡ f) ⊎ (n ≢ f) → same (key_in frames n) key ≡ (n == f)
    by_number n there (inl e) = ap (λ (k : Key). same k key) (ap (key_in frames) e ∙ here) ∙ (same_self key ∙ sym (eq-eqb n f e))
    by_number n there (inr differs) = neither (same (key_in frames n) key) (n == f) refl refl
      where
        two : is_for key (slice_index_or frames n Free) ≡ true → ⊥
        two passes = apart_in frames key n f (resident_there frames order n s there).1 at.within differs passes (ap (is_for key) at.is ∙ same_self key) (s.once key)

        neither : (a b : Bool) → same (key_in frames n) key ≡ a → (n == f) ≡ b → a ≡ b
        neither a true e is = absurd (differs (eqb-true n f is))
        neither false false e is = refl
        neither true false e is = absurd (two (is_for_page (slice_index_or frames n Free) key (resident_there frames order n s there).0 e))

-- of two frames in the order, the pages are the same where the frames are
pub same_page : (frames : List FrameSeen) (order : List ℕ) (n f : ℕ) → IsOrdered frames order → 1 ≤ placed_in n order → 1 ≤ placed_in f order → same (key_in frames n) (key_in frames f) ≡ (n == f)
same_page frames order n f s n_there f_there = by_number (cases_eq n f)
  where
    two : n ≢ f → same (key_in frames n) (key_in frames f) ≡ true → ⊥
    two differs passes =
        let n_at = resident_there frames order n s n_there in
        let f_at = resident_there frames order f s f_there in
        apart_in frames (key_in frames f) n f n_at.1 f_at.1 differs (is_for_page (slice_index_or frames n Free) (key_in frames f) n_at.0 passes) (is_for_page (slice_index_or frames f Free) (key_in frames f) f_at.0 (same_self (key_in frames f))) (s.once (key_in frames f))

    neither : (a b : Bool) → n ≢ f → same (key_in frames n) (key_in frames f) ≡ a → (n == f) ≡ b → a ≡ b
    neither a true differs e is = absurd (differs (eqb-true n f is))
    neither false false differs e is = refl
    neither true false differs e is = absurd (two differs e)

    by_number : (n ≡ f) ⊎ (n ≢ f) → same (key_in frames n) (key_in frames f) ≡ (n == f)
    by_number (inl e) = ap (λ m. same (key_in frames m) (key_in frames f)) e ∙ (same_self (key_in frames f) ∙ sym (eq-eqb n f e))
    by_number (inr differs) = neither (same (key_in frames n) (key_in frames f)) (n == f) differs refl refl

-- a reserved frame is filled
pub residents_filled : (frames : List FrameSeen) (order : List ℕ) (f : ℕ) (key : Key) (bytes : List ℕ) → Holds frames f (Reserved key)
    → residents_seen (slice_set frames f (Resident key bytes)) (order ++ f ∷ []) ≡ residents_seen frames order ++ key ∷ []
residents_filled frames order f key bytes at =
    residents_same frames (order ++ f ∷ []) f (Reserved key) (Resident key bytes) at refl
    ∙ (residents_pushed frames order f ∙ ap (λ (k : Key). residents_seen frames order ++ k ∷ []) (ap page_of at.is))

-- the bytes of a page, written over as a whole
pub refilled-whole : (old new : List ℕ) → length new ≡ length old → refilled old new ≡ new
refilled-whole old new whole = ap (λ (n : ℕ). take n (new ++ drop (length new) old)) (sym whole) ∙ take-append_seam new (drop (length new) old)
