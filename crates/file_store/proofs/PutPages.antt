-- A file whose first pages were written over by the told ones.
use Rattle.std.proofs.Common.{◌≡◌, ◌≢◌, inl, inr, ℕ, Bool, true, false, ◌+◌, ◌*◌, ◌<◌, ◌≤◌, List, length, take, drop, get_or, Option, Some, None, refl, sym, ap, subst, ◌∙◌, arith, rules}
use Rattle.std.specs.Option.{unwrap_or}
use Rattle.std.proofs.lemmas.Bool.{cases_lt, cond-true, cond-false, lt-ltb, ne_eqb}
use Rattle.std.proofs.lemmas.List.{places, same_lists}
use Rattle.std.proofs.Math.Nat.{add-sub_cancel_left}
use Rattle.page_base.specs.ListSeen.{spliced}
use Rattle.std.specs.Cmp.Derive.{both_true}
use Rattle.std.specs.Prelude.{◌==◌, ◌&&◌, nat_lt}
use Rattle.page_base.specs.Lanes.{Origin, has_page, told_at}
use Rattle.page_base.specs.Pages.{stripe_of}
use Rattle.store_trait.specs.Memory.{page_bytes, told_by}
use Rattle.file_store.specs.Shelves.{PutsPages, own_told}
use Rattle.file_store.proofs.Rows.{told_of_page, page_of-spliced_other, page_of-spliced_same}

-- so far the first k pages were
pub record PutsUpTo (page_size : ℕ) (own : ℕ → Option (List ℕ)) (k : ℕ) (old new : List ℕ) : Type 0 where
  pub size : length new ≡ length old
  pub each : (p : ℕ) → p < k → page_bytes page_size new p ≡ unwrap_or (own p) (page_bytes page_size old p)
  pub behind : (i d : ℕ) → k * page_size ≤ i → get_or new i d ≡ get_or old i d

module _ (n k : ℕ) (own : ℕ → Option (List ℕ)) (old now : List ℕ) (so_far : PutsUpTo n own k old now) where
  row : k * n + n ≡ (k + 1) * n
  row = omega arith

  same_page : page_bytes n now k ≡ page_bytes n old k
  same_page = rw (add-sub_cancel_left (k * n) n) (same_lists _ _ (same_length) (λ j d h. grind (arith, places, so_far.behind (k * n + j) d)))
    where
      same_length : length (take n (drop (k * n) now)) ≡ length (take n (drop (k * n) old))
      same_length = grind (arith, places, so_far.size)

  pub put_other : own k ≡ None → PutsUpTo n own (k + 1) old now
  put_other not_told = record {
    size = so_far.size;
    each = λ p h. elim (cases_lt p k) [
      | inl below ↦ so_far.each p below
      | inr above ↦ subst (λ (q : ℕ). page_bytes n now q ≡ unwrap_or (own q) (page_bytes n old q)) (at p h above) (same_page ∙ sym (ap (λ t. unwrap_or t (page_bytes n old k)) not_told))
    ];
    behind = λ i d h. so_far.behind i d (omega (arith, row));
  }
    where
      at : (p : ℕ) → p < k + 1 → k ≤ p → k ≡ p
      at p h above = omega arith

  pub put_own : (page : List ℕ) → own k ≡ Some page → length page ≡ n → k * n + n ≤ length old → PutsUpTo n own (k + 1) old (spliced now (k * n) page)
  put_own page its len fits = record {
    size = grind (arith, places, so_far.size);
    each = λ p h. elim (cases_lt p k) [
      | inl below ↦ page_of-spliced_other n k p now page len inside (λ e. absurd (omega arith)) ∙ so_far.each p below
      | inr above ↦ subst (λ (q : ℕ). page_bytes n (spliced now (k * n) page) q ≡ unwrap_or (own q) (page_bytes n old q)) (at p h above) (page_of-spliced_same n k now page len inside ∙ sym (ap (λ t. unwrap_or t (page_bytes n old k)) its))
    ];
    behind = λ i d h. past i d (omega (arith, row)) ∙ so_far.behind i d (omega (arith, row));
  }
    where
      inside : k * n + n ≤ length now
      inside = omega (arith, so_far.size)

      at : (p : ℕ) → p < k + 1 → k ≤ p → k ≡ p
      at p h above = omega arith

      past : (i d : ℕ) → k * n + n ≤ i → get_or (spliced now (k * n) page) i d ≡ get_or now i d
      past i d h = grind (arith, places)

pub put_all : (o : Origin) (told : List (Option (List ℕ))) (old new : List ℕ) → PutsUpTo o.page_size (own_told o told) o.pages old new → PutsPages o told old new
put_all o told old new done = record {
  size = done.size;
  each = done.each;
  behind = same_lists _ _ (grind (arith, places, done.size)) (λ j d h. grind (arith, places, done.behind (o.pages * o.page_size + j) d));
}

-- which pages of a file are one stripe's
pub own_page : (o : Origin) (bytes : List ℕ) (p : ℕ) → p < o.pages → stripe_of o.stripes o.group o.region p ≡ o.stripe → own_told o (told_by o (page_bytes o.page_size bytes)) p ≡ Some (page_bytes o.page_size bytes p)
own_page o bytes p below is = cond-true (has_page o p) (told_at (told_by o (page_bytes o.page_size bytes)) p) None has ∙ told_of_page o (page_bytes o.page_size bytes) p has
  where
    eq-eqb : (a b : ℕ) → a ≡ b → (a == b) ≡ true
    eq-eqb a b e = search rules

    has : has_page o p ≡ true
    has = both_true (lt-ltb p o.pages below) (eq-eqb _ _ is)

pub other_page : (o : Origin) (told : List (Option (List ℕ))) (p : ℕ) → stripe_of o.stripes o.group o.region p ≢ o.stripe → own_told o told p ≡ None
other_page o told p apart = cond-false (has_page o p) (told_at told p) None (not_its (nat_lt p o.pages) _ (ne_eqb _ _ apart))
  where
    not_its : (a b : Bool) → b ≡ false → (a && b) ≡ false
    not_its true b e = e
    not_its false b e = refl
