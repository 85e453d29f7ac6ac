-- The pages of all lanes, put in order.
use Rattle.std.proofs.Common.{◌≡◌, inl, inr, ℕ, ◌+◌, ◌*◌, ◌/◌, ◌%◌, ◌<◌, ◌≤◌, true, List, ◌++◌, length, slice_get, Option, Some, refl, sym, ap, subst, ◌∙◌, arith}
use Rattle.std.proofs.lemmas.Bool.{cases_lt, and_from, and_parts, lt-ltb, eq-eqb, ltb-true}
use Rattle.std.proofs.lemmas.Option.{same_Some}
use Rattle.std.proofs.Math.Nat.{div-one}
use Rattle.page_base.specs.Lanes.{Origin, LaneSeen, has_page, told_at}
use Rattle.store_trait.proofs.Told.{told_of_page, told_by-same}
use Rattle.store_trait.proofs.Rows.{rows_apart, stripe_is}
use Rattle.store_trait.proofs.Shares.{page_of-append, page_of-appended}
use Rattle.store_trait.specs.Memory.{memory_origin, page_bytes}
use Rattle.store_trait.specs.MemLanes.{lane_origin, lane_seen, AreLanesOf, AreOfOneSplit, AreJoined}
use Rattle.store_trait.specs.declared.mem_lane.MemLane.{MemLane}

-- each lane's pages below n are those of these bytes
pub record Shows (n : ℕ) (lanes : List MemLane) (bytes : List ℕ) : Type 0 where
  pub each : (p s : ℕ) (lane : MemLane) → p < n → slice_get lanes s ≡ Some lane → has_page (lane_origin lane) p ≡ true → told_at (lane_seen lane).told p ≡ Some (page_bytes lane.page_size bytes p)

module _ (lanes : List MemLane) (split : AreOfOneSplit lanes) where
  pub same_size : (s : ℕ) (lane : MemLane) → slice_get lanes s ≡ Some lane → lane.page_size ≡ split.page_size
  same_size s lane got = ap (λ (o : Origin). o.page_size) (split.each s lane got)

  pub same_pages : (s : ℕ) (lane : MemLane) → slice_get lanes s ≡ Some lane → lane.pages ≡ split.pages
  same_pages s lane got = ap (λ (o : Origin). o.pages) (split.each s lane got)

  pub same_region : (s : ℕ) (lane : MemLane) → slice_get lanes s ≡ Some lane → lane.region ≡ split.region
  same_region s lane got = ap (λ (o : Origin). o.region) (split.each s lane got)

  -- the lane at a page's stripe has the page
  pub has_there : (p : ℕ) (lane : MemLane) → p < split.pages → slice_get lanes ((split.region + p) % length lanes) ≡ Some lane → has_page (lane_origin lane) p ≡ true
  has_there p lane below got =
      ap (λ (o : Origin). has_page o p) (split.each ((split.region + p) % length lanes) lane got)
      ∙ and_from _ _ (lt-ltb p split.pages below) (eq-eqb _ _ (ap (λ (x : ℕ). (split.region + x) % length lanes) (div-one p)))

  stripe_of_lane : (s : ℕ) (lane : MemLane) (p : ℕ) → slice_get lanes s ≡ Some lane → has_page (lane_origin lane) p ≡ true → (split.region + p) % length lanes ≡ s
  stripe_of_lane s lane p got has =
      stripe_is (memory_origin split.region split.pages split.page_size (length lanes) s) p refl (sym (ap (λ (o : Origin). has_page o p) (split.each s lane got)) ∙ has)

  pub shows_more : (n : ℕ) (bytes x : List ℕ) (here : MemLane) → slice_get lanes ((split.region + n) % length lanes) ≡ Some here → told_at (lane_seen here).told n ≡ Some x → length x ≡ split.page_size → length bytes ≡ n * split.page_size → Shows n lanes bytes → Shows (n + 1) lanes (bytes ++ x)
  shows_more n bytes x here at_place tells len_x len shows = record {
    each = λ p s lane lt got has.
        let size : lane.page_size ≡ split.page_size = same_size s lane got in
        elim (cases_lt p n) [
          | inl below ↦
              let row : p * split.page_size + split.page_size ≤ n * split.page_size = rows_apart p n split.page_size below in
              let fits : p * lane.page_size + lane.page_size ≤ length bytes = rw size (omega arith) in
              shows.each p s lane below got has ∙ ap Some (sym (page_of-append lane.page_size p bytes x fits))
          | inr above ↦
              let last : p ≡ n = omega arith in
              let place : (split.region + n) % length lanes ≡ s = ap (λ (y : ℕ). (split.region + y) % length lanes) (sym last) ∙ stripe_of_lane s lane p got has in
              let same : here ≡ lane = same_Some here lane (sym at_place ∙ ap (λ (i : ℕ). slice_get lanes i) place ∙ got) in
              let told : told_at (lane_seen lane).told p ≡ Some x = ap (λ (l : MemLane). told_at (lane_seen l).told p) (sym same) ∙ ap (λ (q : ℕ). told_at (lane_seen here).told q) last ∙ tells in
              told ∙ ap Some (sym (ap (λ (q : ℕ). page_bytes lane.page_size (bytes ++ x) q) last ∙ ap (λ (z : ℕ). page_bytes z (bytes ++ x) n) size ∙ page_of-appended split.page_size n bytes x len len_x))
        ];
  }

  -- once all pages are there
  pub all_shown : (bytes : List ℕ) → length bytes ≡ split.pages * split.page_size → Shows split.pages lanes bytes → AreJoined lanes bytes
  all_shown bytes len shows = record {
    size = λ s lane got. len ∙ ap (λ (n : ℕ). n * split.page_size) (sym (same_pages s lane got)) ∙ ap (λ (z : ℕ). lane.pages * z) (sym (same_size s lane got));
    each = λ s lane got.
        let o = lane_origin lane in
        let kept_of : ℕ → List ℕ = λ p. page_bytes o.page_size lane.kept.items (p / o.stripes) in
        ap (λ (told : List (Option (List ℕ))). let seen : LaneSeen = record { origin = o; told = told; count = 0 } in seen) (told_by-same o kept_of (page_bytes o.page_size bytes) (λ p has.
        same_Some (kept_of p) (page_bytes o.page_size bytes p) (sym (told_of_page o kept_of p has) ∙ shows.each p s lane (below s lane p got has) got has)));
  }
    where
      below : (s : ℕ) (lane : MemLane) (p : ℕ) → slice_get lanes s ≡ Some lane → has_page (lane_origin lane) p ≡ true → p < split.pages
      below s lane p got has = subst (λ (n : ℕ). p < n) (same_pages s lane got) (ltb-true p lane.pages (and_parts _ _ has).0)

-- the lanes of a store can be joined
pub split_is_one : (region pages page_size stripes : ℕ) (contents : List ℕ) (lanes : List MemLane) → AreLanesOf region pages page_size stripes contents lanes → 0 < stripes → 0 < pages → AreOfOneSplit lanes
split_is_one region pages page_size stripes contents lanes are some not_empty = record {
  region = region;
  pages = pages;
  page_size = page_size;
  some = rw are.count some;
  not_empty = not_empty;
  each = λ s lane got. ap (λ (seen : LaneSeen). seen.origin) (are.each s lane got) ∙ ap (λ (n : ℕ). memory_origin region pages page_size n s) (sym are.count);
}

-- whole pages that aren't empty are some
pub some_pages : (n size : ℕ) → 0 < n → n ≡ n / size * size → 0 < n / size
some_pages n size some whole = elim (cases_lt 0 (n / size)) [
  | inl h ↦ h
  | inr none ↦ absurd (let z : n / size ≡ 0 = omega arith in let e : n ≡ 0 * size = whole ∙ ap (λ (q : ℕ). q * size) z in omega arith)
]
