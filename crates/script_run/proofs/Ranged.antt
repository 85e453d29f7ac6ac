-- Ranges on a pager, piece by piece.
use Rattle.std.proofs.Common.{◌≡◌, ◌⊎◌, inl, inr, ℕ, ◌+◌, ◌*◌, ◌/◌, ◌%◌, ◌<◌, ◌≤◌, true, List, [], ◌++◌, length, Option, Some, None, slice_get, refl, sym, ap, subst, ◌∙◌, arith, append-nil}
use Rattle.std.proofs.lemmas.Bool.{cases_lt, cases_eq, lt-ltb}
use Rattle.std.proofs.lemmas.Nat.{div-mul-add, mod-mul-add}
use Rattle.page_base.specs.declared.keys.Key.{Key}
use Rattle.page_base.specs.declared.keys.RegionShape.{RegionShape}
use Rattle.page_base.specs.Pages.{stripe_of}
use Rattle.page_model.specs.Setups.{pages_of}
use Rattle.page_model.specs.Pieces.{bytes_in}
use Rattle.region_table.specs.Covers.{IsNext}
use Rattle.region_table.specs.Pieces.{pieces_of}
use Rattle.page_base.specs.declared.keys.Piece.{Piece}
use Rattle.serial_pager.specs.Pagers.{PagerSeen, group_in, region_has_page, has_key, stripe_at, IsSame, ClosesOnly}
use Rattle.flat_lines.specs.Spreads.{range_key}
use Rattle.script_run.specs.InsideRanges.{pages_at, IsRange, IsPart, RangeGoesOn}
use Rattle.script_run.specs.InsideRunning.{StaysMade}
use Rattle.script_run.proofs.Lists.{rows_apart}

pub page_in_of : (o : Option RegionShape) (page : ℕ) → page < pages_of o → region_has_page o page ≡ true
page_in_of None page below = absurd (omega (arith, below))
page_in_of (Some shape) page below = lt-ltb page shape.pages below

pub row_below : (p pages size place : ℕ) → p * size + place < pages * size → p < pages
row_below p pages size place below = elim (cases_lt p pages) [
  | inl lt ↦ lt
  | inr above ↦ absurd (clash (cases_eq p pages) above below)
]
  where
    clash : (p ≡ pages) ⊎ (p ≡ pages → ⊥) → pages ≤ p → p * size + place < pages * size → ⊥
    clash (inl e) above below = omega (arith, ap (λ q. q * size) e, below)
    clash (inr other) above below = omega (arith, rows_apart pages p size (omega (arith, above, other)), below)

module _ {J : Type 0} (p q : PagerSeen J) (s : IsSame p q) where
  pub same_page : (k : Key) → has_key q k ≡ has_key p k
  same_page k = ap (λ (ss : List RegionShape). region_has_page (slice_get ss k.region) k.page) s.shapes

  pub same_stripe : (k : Key) → stripe_at q k ≡ stripe_at p k
  same_stripe k =
      ap (λ n. stripe_of n (group_in (slice_get q.shapes k.region)) k.region k.page) s.stripes
      ∙ ap (λ (ss : List RegionShape). stripe_of (length p.stripes) (group_in (slice_get ss k.region)) k.region k.page) s.shapes

  pub same_pages : (r : ℕ) → pages_at q r ≡ pages_at p r
  same_pages r = ap (λ (ss : List RegionShape). pages_of (slice_get ss r)) s.shapes

pub same_none : {J : Type 0} (p : PagerSeen J) → IsSame p p
same_none p = record { page_size = refl; shapes = refl; stripes = refl; setups = λ s. refl; closes = λ s r. refl }

pub same_more : {J : Type 0} (p q z : PagerSeen J) → IsSame p q → IsSame q z → IsSame p z
same_more p q z a b = record { page_size = b.page_size ∙ a.page_size; shapes = b.shapes ∙ a.shapes; stripes = b.stripes ∙ a.stripes; setups = λ s. b.setups s ∙ a.setups s; closes = λ s r. b.closes s r ∙ a.closes s r }

-- ---- the stripes as they were made

pub stays_none : {J : Type 0} (p : PagerSeen J) → StaysMade p p
stays_none p = record { page_size = refl; shapes = refl; stripes = refl; setups = λ s. refl }

pub stays_more : {J : Type 0} (p q z : PagerSeen J) → StaysMade p q → StaysMade q z → StaysMade p z
stays_more p q z a b = record { page_size = b.page_size ∙ a.page_size; shapes = b.shapes ∙ a.shapes; stripes = b.stripes ∙ a.stripes; setups = λ s. b.setups s ∙ a.setups s }

pub stays_same : {J : Type 0} (p q : PagerSeen J) → IsSame p q → StaysMade p q
stays_same p q s = record { page_size = s.page_size; shapes = s.shapes; stripes = s.stripes; setups = s.setups }

pub stays_closing : {J : Type 0} (r : ℕ) (p q : PagerSeen J) → ClosesOnly r p q → StaysMade p q
stays_closing r p q s = record { page_size = s.page_size; shapes = s.shapes; stripes = s.stripes; setups = s.setups }

-- ---- how far a range goes

pub goes_none : {J : Type 0} (p : PagerSeen J) → RangeGoesOn 0 p p
goes_none p = record { same = same_none p; spent = omega arith }

pub goes_more : {J : Type 0} (m n : ℕ) (p q z : PagerSeen J) → RangeGoesOn m p q → RangeGoesOn n q z → RangeGoesOn (m + n) p z
goes_more m n p q z a b = record {
  same = same_more p q z a.same b.same;
  spent = omega (arith, a.spent, b.spent);
}

pub goes_within : {J : Type 0} (m n : ℕ) (p q : PagerSeen J) → RangeGoesOn m p q → m ≤ n → RangeGoesOn n p q
goes_within m n p q a le = record { same = a.same; spent = omega (arith, a.spent, le) }

pub one_piece : {J : Type 0} (n : ℕ) (p q : PagerSeen J) → IsSame p q → q.spent ≡ p.spent + 1 → 1 ≤ n → RangeGoesOn n p q
one_piece n p q s spent some = record { same = s; spent = omega (arith, spent, some) }

-- ---- where a piece lies

-- the bytes of all pieces together, where these are all
pub all_bytes : (size region off len done : ℕ) (front : List Piece) → pieces_of size region off len ≡ front ++ [] → bytes_in front ≡ done → bytes_in (pieces_of size region off len) ≡ done
all_bytes size region off len done front is sum = ap bytes_in (is ∙ append-nil front) ∙ sum

module _ (size region off len done : ℕ) (piece : Piece) (next : IsNext size region off len done piece) where
  place_below : piece.place < size
  place_below = omega (arith, next.at.some, next.at.within)

  pub key_is : piece.key ≡ range_key region piece.key.page
  key_is = ap (λ r. range_key r piece.key.page) next.at.of_region

  -- the piece begins at byte `off + done` of the region
  pub page_is : (off + done) / size ≡ piece.key.page
  page_is = ap (λ n. n / size) (sym next.at.begins) ∙ div-mul-add piece.key.page size piece.place place_below

  pub border_is : (done ≡ 0) ⊎ ((off + done) % size ≡ 0)
  border_is = elim next.border [
    | inl e ↦ inl e
    | inr e ↦ inr (ap (λ n. n % size) (sym next.at.begins) ∙ mod-mul-add piece.key.page size piece.place place_below ∙ e)
  ]

  module _ {J : Type 0} (p q : PagerSeen J) (range : IsRange p region off len) (s : IsSame p q) (sized : p.page_size ≡ size) where
    pub page_below : piece.key.page < pages_at p region
    page_below = row_below piece.key.page (pages_at p region) size piece.place (omega (arith, next.at.begins, next.short, next.at.some, range.inside, ap (λ z. pages_at p region * z) sized))

    pub has_piece : has_key p piece.key ≡ true
    has_piece = ap (has_key p) key_is ∙ page_in_of (slice_get p.shapes region) piece.key.page page_below

    pub is_part : IsPart q piece.key piece.place piece.len
    is_part = record {
      page = same_page p q s piece.key ∙ has_piece;
      some = next.at.some;
      within = subst (λ z. piece.place + piece.len ≤ z) (sym (s.page_size ∙ sized)) next.at.within;
    }
