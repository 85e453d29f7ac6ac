-- A buffer stays sound through each change of one frame.
use Rattle.std.proofs.Common.{◌≡◌, ◌≢◌, ◌⊎◌, inl, inr, ◌==◌, ℕ, ◌+◌, ◌<◌, ◌≤◌, Bool, true, false, List, [], ◌∷◌, ◌++◌, length, refl, sym, ap, subst, below_more, ◌∙◌, arith, length-append, length-set, get_or-set_same, get_or-set_other}
use Rattle.std.specs.Prelude.{count_by, slice_index_or, slice_set}
use Rattle.std.specs.List.{list_any}
use Rattle.std.proofs.lemmas.List.{get_or_append_left}
use Rattle.std.proofs.Math.Seq.{get_or-append_seam}
use Rattle.std.proofs.lemmas.List.Quantifiers.{all_pairs_push}
use Rattle.page_base.specs.declared.keys.Key.{Key}
use Rattle.page_base.specs.Pages.{same}
use Rattle.std.proofs.lemmas.Bool.{cases_eq, eqb-true, eq-eqb}
use Rattle.page_buffer.specs.Frames.{FrameSeen, Free, Reserved, Resident, is_free, is_resident, is_for}
use Rattle.index_lists.specs.Lists.{without}
use Rattle.page_buffer.specs.Insides.{IsOrdered, IsListed}
use Rattle.page_buffer.proofs.Keys.{same-true}
use Rattle.page_buffer.proofs.Counts.{one, count_by-set, count_by-push, count_by-none, count_by-without, count_by-keeps, length-without}

-- what frame f holds
pub record Holds (frames : List FrameSeen) (f : ℕ) (x : FrameSeen) : Type 0 where
  pub within : f < length frames
  pub is : slice_index_or frames f Free ≡ x

pub count-holds : (p : FrameSeen → Bool) (frames : List FrameSeen) (f : ℕ) (x y : FrameSeen) → Holds frames f x → count_by p (slice_set frames f y) + one (p x) ≡ count_by p frames + one (p y)
count-holds p frames f x y at = count_by-set p frames f Free x y at.within at.is

-- ---- the free list

-- the last of the free list is free
pub last_held : (frames : List FrameSeen) (free : List ℕ) (f : ℕ) → IsListed frames (free ++ f ∷ []) → Holds frames f Free
last_held frames free f s =
    let last : length free < length (free ++ f ∷ []) = rw (length-append free (f ∷ [])) (omega arith) in
    record {
      within = rw (get_or-append_seam free f [] 0) at (s.within (length free) 0 last);
      is = rw (get_or-append_seam free f [] 0) at (s.are_free (length free) 0 last);
    }

-- a frame that isn't free is not on the list
differs : (frames : List FrameSeen) (free : List ℕ) (f : ℕ) (x : FrameSeen) → IsListed frames free → Holds frames f x → is_free x ≡ false → (k d : ℕ) → k < length free → slice_index_or free k d ≢ f
differs frames free f x s at other k d lt e =
    let is_free_there = s.are_free k d lt in
    let here : slice_index_or frames f Free ≡ Free = subst (λ (g : ℕ). slice_index_or frames g Free ≡ Free) e is_free_there in
    let yes : is_free x ≡ true = subst (λ (y : FrameSeen). is_free y ≡ true) (sym here ∙ at.is) refl in
    cc (yes, other)

-- the last free frame is taken
pub listed_popped : (frames : List FrameSeen) (free : List ℕ) (f : ℕ) (y : FrameSeen) → IsListed frames (free ++ f ∷ []) → is_free y ≡ false → IsListed (slice_set frames f y) free
listed_popped frames free f y s other = record {
  frees =
      let n = count-holds is_free frames f Free y (last_held frames free f s) in
      let m = length-append free (f ∷ []) in
      let old = s.frees in
      let none : one (is_free y) ≡ 0 = ap one other in
      omega arith;
  within = λ i d lt. rw (length-set frames f y) (rw (get_or_append_left free (f ∷ []) d i lt) at (s.within i d (longer i lt)));
  are_free =
      λ i d lt.
      let old = rw (get_or_append_left free (f ∷ []) d i lt) at (s.are_free i d (longer i lt)) in
      let apart = s.apart i (length free) d lt (rw (length-append free (f ∷ [])) (omega arith)) in
      let apart' = rw (get_or_append_left free (f ∷ []) d i lt, get_or-append_seam free f [] d) at apart in
      get_or-set_other frames f (slice_index_or free i d) y Free apart' ∙ old;
  apart =
      λ i j d lt within.
      rw (get_or_append_left free (f ∷ []) d i (omega arith), get_or_append_left free (f ∷ []) d j within) at (s.apart i j d lt (longer j within));
}
  where
    longer : (i : ℕ) → i < length free → i < length (free ++ f ∷ [])
    longer i lt = rw (length-append free (f ∷ [])) (omega arith)

-- a frame that wasn't free is given back
pub listed_pushed : (frames : List FrameSeen) (free : List ℕ) (f : ℕ) (x : FrameSeen) → IsListed frames free → Holds frames f x → is_free x ≡ false → IsListed (slice_set frames f Free) (free ++ f ∷ [])
listed_pushed frames free f x s at other = record {
  frees =
      let n = count-holds is_free frames f x Free at in
      let m = length-append free (f ∷ []) in
      let old = s.frees in
      let none : one (is_free x) ≡ 0 = ap one other in
      omega arith;
  within =
      λ i d lt.
      below_more (λ k. slice_index_or (free ++ f ∷ []) k d < length (slice_set frames f Free)) (length free)
      (λ k below. rw (get_or_append_left free (f ∷ []) d k below, length-set frames f Free) (s.within k d below))
      (rw (get_or-append_seam free f [] d, length-set frames f Free) at.within)
      i (rw (length-append free (f ∷ [])) at lt);
  are_free =
      λ i d lt.
      below_more (λ k. slice_index_or (slice_set frames f Free) (slice_index_or (free ++ f ∷ []) k d) Free ≡ Free) (length free)
      (λ k below. rw (get_or_append_left free (f ∷ []) d k below) (get_or-set_other frames f (slice_index_or free k d) Free Free (differs frames free f x s at other k d below) ∙ s.are_free k d below))
      (rw (get_or-append_seam free f [] d) (get_or-set_same frames f Free Free at.within))
      i (rw (length-append free (f ∷ [])) at lt);
  apart = all_pairs_push (λ (g h : ℕ). g ≢ h) free f s.apart (differs frames free f x s at other);
}

-- a frame that wasn't free changes, and isn't free
pub listed_kept : (frames : List FrameSeen) (free : List ℕ) (f : ℕ) (x y : FrameSeen) → IsListed frames free → Holds frames f x → is_free x ≡ false → is_free y ≡ false → IsListed (slice_set frames f y) free
listed_kept frames free f x y s at other still = record {
  frees =
      let n = count-holds is_free frames f x y at in
      let old = s.frees in
      let none : one (is_free x) ≡ 0 = ap one other in
      let none' : one (is_free y) ≡ 0 = ap one still in
      omega arith;
  within = λ i d lt. rw (length-set frames f y) (s.within i d lt);
  are_free = λ i d lt. get_or-set_other frames f (slice_index_or free i d) y Free (differs frames free f x s at other i d lt) ∙ s.are_free i d lt;
  apart = s.apart;
}

-- ---- the order

-- how often a frame is in the order
abbrev pub placed_in : ℕ → List ℕ → ℕ
placed_in f = count_by (λ other. other == f)

-- where one frame changes, the others are as they were
resident_other : (frames : List FrameSeen) (f g : ℕ) (y : FrameSeen) → g ≢ f → one (is_resident (slice_index_or (slice_set frames f y) g Free)) ≡ one (is_resident (slice_index_or frames g Free))
resident_other frames f g y differs = ap (λ (x : FrameSeen). one (is_resident x)) (get_or-set_other frames f g y Free differs)

resident_here : (frames : List FrameSeen) (f : ℕ) (x y : FrameSeen) → Holds frames f x → one (is_resident (slice_index_or (slice_set frames f y) f Free)) ≡ one (is_resident y)
resident_here frames f x y at = ap (λ (z : FrameSeen). one (is_resident z)) (get_or-set_same frames f y Free at.within)

resident_was : (frames : List FrameSeen) (f : ℕ) (x : FrameSeen) → Holds frames f x → one (is_resident (slice_index_or frames f Free)) ≡ one (is_resident x)
resident_was frames f x at = ap (λ (z : FrameSeen). one (is_resident z)) at.is

-- a frame changes that is resident before and after, or neither
pub ordered_kept : (frames : List FrameSeen) (order : List ℕ) (f : ℕ) (x y : FrameSeen) → IsOrdered frames order → Holds frames f x → is_resident x ≡ is_resident y
    → ((key : Key) → count_by (is_for key) (slice_set frames f y) ≤ 1) → IsOrdered (slice_set frames f y) order
ordered_kept frames order f x y s at same once = record {
  once = once;
  placed = λ g. placed g (cases_eq g f);
  residents = let n = count-holds is_resident frames f x y at in let old = s.residents in let e : one (is_resident x) ≡ one (is_resident y) = ap one same in omega arith;
}
  where
    placed : (g : ℕ) → (g ≡ f) ⊎ (g ≢ f) → placed_in g order ≡ one (is_resident (slice_index_or (slice_set frames f y) g Free))
    placed g (inl e) = subst (λ (h : ℕ). placed_in h order ≡ one (is_resident (slice_index_or (slice_set frames f y) h Free))) (sym e) (s.placed f ∙ (resident_was frames f x at ∙ (ap one same ∙ sym (resident_here frames f x y at))))
    placed g (inr differs) = s.placed g ∙ sym (resident_other frames f g y differs)

-- a free frame is reserved for a page that has none
pub ordered_reserved : (frames : List FrameSeen) (order : List ℕ) (f : ℕ) (key : Key) → IsOrdered frames order → Holds frames f Free → list_any (is_for key) frames ≡ false → IsOrdered (slice_set frames f (Reserved key)) order
ordered_reserved frames order f key s at fresh = ordered_kept frames order f Free (Reserved key) s at refl (λ k. once k (same key k) refl)
  where
    once : (k : Key) (b : Bool) → same key k ≡ b → count_by (is_for k) (slice_set frames f (Reserved key)) ≤ 1
    once k true e =
        let n = count-holds (is_for k) frames f Free (Reserved key) at in
        let none : count_by (is_for k) frames ≡ 0 = subst (λ j. count_by (is_for j) frames ≡ 0) (same-true key k e) (count_by-none (is_for key) frames fresh) in
        let counts : one (same key k) ≡ 1 = ap one e in
        omega arith
    once k false e =
        let n = count-holds (is_for k) frames f Free (Reserved key) at in
        let old = s.once k in
        let counts : one (same key k) ≡ 0 = ap one e in
        omega arith

-- a reserved frame is given back
pub ordered_unreserved : (frames : List FrameSeen) (order : List ℕ) (f : ℕ) (key : Key) → IsOrdered frames order → Holds frames f (Reserved key) → IsOrdered (slice_set frames f Free) order
ordered_unreserved frames order f key s at = ordered_kept frames order f (Reserved key) Free s at refl (λ k. (let n = count-holds (is_for k) frames f (Reserved key) Free at in let old = s.once k in omega arith))

-- the bytes of a resident page change
pub ordered_written : (frames : List FrameSeen) (order : List ℕ) (f : ℕ) (key : Key) (old new : List ℕ) → IsOrdered frames order → Holds frames f (Resident key old) → IsOrdered (slice_set frames f (Resident key new)) order
ordered_written frames order f key old new s at = ordered_kept frames order f (Resident key old) (Resident key new) s at refl (λ k. (let n = count-holds (is_for k) frames f (Resident key old) (Resident key new) at in let was = s.once k in omega arith))

-- a reserved frame isn't in the order, and one with a resident page is there once
pub not_placed : (frames : List FrameSeen) (order : List ℕ) (f : ℕ) (x : FrameSeen) → IsOrdered frames order → Holds frames f x → is_resident x ≡ false → placed_in f order ≡ 0
not_placed frames order f x s at other = s.placed f ∙ (resident_was frames f x at ∙ ap one other)

pub placed_once : (frames : List FrameSeen) (order : List ℕ) (f : ℕ) (x : FrameSeen) → IsOrdered frames order → Holds frames f x → is_resident x ≡ true → placed_in f order ≡ 1
placed_once frames order f x s at resident = s.placed f ∙ (resident_was frames f x at ∙ ap one resident)

-- a reserved frame is filled
pub ordered_filled : (frames : List FrameSeen) (order : List ℕ) (f : ℕ) (key : Key) (bytes : List ℕ) → IsOrdered frames order → Holds frames f (Reserved key) → IsOrdered (slice_set frames f (Resident key bytes)) (order ++ f ∷ [])
ordered_filled frames order f key bytes s at = record {
  once = λ k. (let n = count-holds (is_for k) frames f (Reserved key) (Resident key bytes) at in let old = s.once k in omega arith);
  placed = λ g. placed g (f == g) refl;
  residents =
      let n = count-holds is_resident frames f (Reserved key) (Resident key bytes) at in
      let m = length-append order (f ∷ []) in
      let old = s.residents in
      omega arith;
}
  where
    placed : (g : ℕ) (b : Bool) → (f == g) ≡ b → placed_in g (order ++ f ∷ []) ≡ one (is_resident (slice_index_or (slice_set frames f (Resident key bytes)) g Free))
    placed g true e =
        subst (λ (h : ℕ). placed_in h (order ++ f ∷ []) ≡ one (is_resident (slice_index_or (slice_set frames f (Resident key bytes)) h Free))) (eqb-true f g e)
        (let push = count_by-push (λ other. other == f) order f in
        let none = not_placed frames order f (Reserved key) s at refl in
        let counts : one (f == f) ≡ 1 = ap one (eq-eqb f f refl) in
        let here = resident_here frames f (Reserved key) (Resident key bytes) at in
        omega arith)
    placed g false e =
        let push = count_by-push (λ other. other == g) order f in
        let counts : one (f == g) ≡ 0 = ap one e in
        let old = s.placed g in
        let other = resident_other frames f g (Resident key bytes) (λ is. (let yes = eq-eqb f g (sym is) in cc (yes, e))) in
        omega arith

-- a resident page leaves
pub ordered_released : (frames : List FrameSeen) (order : List ℕ) (f : ℕ) (key : Key) (bytes : List ℕ) → IsOrdered frames order → Holds frames f (Resident key bytes) → IsOrdered (slice_set frames f Free) (without f order)
ordered_released frames order f key bytes s at = record {
  once = λ k. (let n = count-holds (is_for k) frames f (Resident key bytes) Free at in let old = s.once k in omega arith);
  placed = λ g. placed g (f == g) refl;
  residents =
      let n = count-holds is_resident frames f (Resident key bytes) Free at in
      let m = length-without (λ other. other == f) order in
      let there = placed_once frames order f (Resident key bytes) s at refl in
      let old = s.residents in
      omega arith;
}
  where
    placed : (g : ℕ) (b : Bool) → (f == g) ≡ b → placed_in g (without f order) ≡ one (is_resident (slice_index_or (slice_set frames f Free) g Free))
    placed g true e =
        subst (λ (h : ℕ). placed_in h (without f order) ≡ one (is_resident (slice_index_or (slice_set frames f Free) h Free))) (eqb-true f g e)
        (count_by-without (λ other. other == f) order ∙ sym (resident_here frames f (Resident key bytes) Free at))
    placed g false e =
        let differs : g ≢ f = λ is. (let yes = eq-eqb f g (sym is) in cc (yes, e)) in
        let kept = count_by-keeps (λ other. other == f) (λ other. other == g) order (λ other is. subst (λ (h : ℕ). (h == g) ≡ false) (sym (eqb-true other f is)) e) in
        kept ∙ (s.placed g ∙ sym (resident_other frames f g Free differs))
