-- A new buffer: every frame is free, and the free list has them all.
use Rattle.std.proofs.Common.{◌≡◌, ◌⊎◌, inl, inr, Bool, ℕ, ◌+◌, ◌*◌, ◌<◌, ◌≤◌, List, [], ◌∷◌, ◌++◌, length, replicate, refl, sym, ap, below_more, ◌∙◌, arith, length-append}
use Rattle.std.specs.Prelude.{count_by, slice_index_or}
use Rattle.std.proofs.lemmas.List.{get_or_append_left, get_or_push, get_or-replicate, length-replicate, length-map, get_or_past}
use Rattle.std.proofs.lemmas.List.Folds.{sum_by-replicate}
use Rattle.std.proofs.lemmas.Bool.{cases_lt}
use Rattle.frame_arena.specs.Frames.{ArenaSeen}
use Rattle.index_lists.specs.Orders.{no_members}
use Rattle.page_buffer.specs.declared.frame.Frame.{Frame}
use Rattle.page_buffer.specs.Frames.{FrameSeen, Free, is_free, is_resident, is_for}
use Rattle.page_buffer.specs.Insides.{frame_seen, frames_seen, HasAll, IsOrdered, IsListed, IsSound}
use Rattle.page_buffer.proofs.Counts.{one}

-- the list is 0, 1, .. below n
pub record AreFirst (free : List ℕ) (n : ℕ) : Type 0 where
  pub many : length free ≡ n
  pub named : (i d : ℕ) → i < n → slice_index_or free i d ≡ i

pub are_first-push : (free : List ℕ) (n : ℕ) → AreFirst free n → AreFirst (free ++ n ∷ []) (n + 1)
are_first-push free n a = record {
  many = let m = length-append free (n ∷ []) in let was = a.many in omega arith;
  named =
      λ i d lt.
      below_more (λ k. slice_index_or (free ++ n ∷ []) k d ≡ k) n
      (λ k below. rw (get_or_append_left free (n ∷ []) d k (rw a.many below)) (a.named k d below))
      (get_or_push free n d n a.many)
      i lt;
}

count_by-frees : (p : FrameSeen → Bool) (n : ℕ) → count_by p (replicate n Free) ≡ n * one (p Free)
count_by-frees p n = sum_by-replicate (λ x. one (p x)) n Free

ordered_new : (n : ℕ) → IsOrdered (replicate n Free) []
ordered_new n = record {
  once = λ k. (let none = count_by-frees (is_for k) n in omega arith);
  placed = λ f. placed f (cases_lt f n);
  residents = let none = count_by-frees is_resident n in omega arith;
}
  where
    placed : (f : ℕ) → (f < n) ⊎ (n ≤ f) → 0 ≡ one (is_resident (slice_index_or (replicate n Free) f Free))
    placed f (inl within) = ap (λ (x : FrameSeen). one (is_resident x)) (sym (get_or-replicate n f Free Free within))
    placed f (inr past) = ap (λ (x : FrameSeen). one (is_resident x)) (sym (get_or_past (replicate n Free) f Free (rw (length-replicate n Free) past)))

listed_new : (free : List ℕ) (n : ℕ) → AreFirst free n → IsListed (replicate n Free) free
listed_new free n a = record {
  frees = let all = count_by-frees is_free n in let many = a.many in omega arith;
  within = λ i d lt. rw (a.named i d (rw a.many at lt), length-replicate n Free) (rw a.many at lt);
  are_free = λ i d lt. rw (a.named i d (rw a.many at lt)) (get_or-replicate n i Free Free (rw a.many at lt));
  apart = λ i j d lt within e. let first = a.named i d (omega (arith, a.many)) in let second = a.named j d (omega (arith, a.many)) in omega (arith, e);
}

pub sound_new : (arena : ArenaSeen) (frames : List Frame) (free : List ℕ) (quota regions : ℕ) → quota < 4294967296 → HasAll arena frames → frames_seen frames ≡ replicate quota Free → AreFirst free quota → IsSound arena frames (no_members regions quota) free 0
sound_new arena frames free quota regions small all seen list =
    let many : length frames ≡ quota = sym (length-map frames frame_seen) ∙ ap length seen ∙ length-replicate quota Free in
    record {
      few = omega arith;
      rooms = all;
      linked = record { numbers = sym many ∙ sym (length-map frames frame_seen); region = λ f there. absurd (omega arith) };
      pages = rw seen (ordered_new quota);
      counted = refl;
      list = rw seen (listed_new free quota list);
    }
