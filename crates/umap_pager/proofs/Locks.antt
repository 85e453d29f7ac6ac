-- One of the locks, and the pass of it.
use Rattle.std.proofs.Common.{◌≡◌, ℕ, ◌+◌, ◌<◌, ◌≤◌, ◌==◌, true, false, nat_lt, zero, suc, List, [], ◌∷◌, ◌++◌, length, take, drop, length-take, length-append, length-drop, slice_set, Option, Some, None, refl, sym, subst, ap, ◌∙◌, arith}
use Rattle.std.specs.List.{slice_get}
use Rattle.std.proofs.lemmas.Bool.{and_from, eq-eqb, lt-ltb}
use Rattle.std.proofs.lemmas.List.{length-map}
use Rattle.std.proofs.lemmas.Option.{slice_get_within}
use Rattle.page_base.specs.declared.keys.Key.{Key}
use Rattle.page_base.specs.declared.keys.RegionShape.{RegionShape}
use Rattle.page_base.specs.Pages.{stripe_of}
use Rattle.page_model.specs.declared.entry.Entry.{Entry}
use Rattle.page_model.specs.Events.{InPage}
use Rattle.page_model.specs.Setups.{Setup, is_page_of, may_write, is_writable, regions}
use Rattle.region_table.specs.Regions.{shape_of, shapes_of}
use Rattle.turn_lock.specs.Seen.{LockSeen, PassSeen}
use Rattle.locked_stripe.specs.declared.stripe_box.StripeBox.{StripeBox}
use Rattle.locked_stripe.specs.Terms.{locked_setup}
use Rattle.umap_pager.specs.InsideParts.{GoesTogether, IsPart, SuitsStripe}
use Rattle.umap_pager.specs.Passes.{PassesSeen, FitTo}
use Rattle.umap_pager.specs.Ranges.{region_writable}
use Rattle.umap_pager.specs.Shared.{SharedPager, page_stripe, shared_group}

pub slice_set_same : {A : Type 0} (xs : List A) (i : ℕ) (x v : A) → slice_get xs i ≡ Some x → slice_get (slice_set xs i v) i ≡ Some v
slice_set_same [] i x v e = absurd cc
slice_set_same (y ∷ ys) zero x v e = refl
slice_set_same (y ∷ ys) (suc i) x v e = slice_set_same ys i x v e

pub slice_set_other : {A : Type 0} (xs : List A) (i j : ℕ) (v : A) → (j ≡ i → ⊥) → slice_get (slice_set xs i v) j ≡ slice_get xs j
slice_set_other [] i j v ne = refl
slice_set_other (y ∷ ys) zero zero v ne = absurd (ne refl)
slice_set_other (y ∷ ys) zero (suc j) v ne = refl
slice_set_other (y ∷ ys) (suc i) zero v ne = refl
slice_set_other (y ∷ ys) (suc i) (suc j) v ne = slice_set_other ys i j v (λ e. ne (ap suc e))

pub has_item : {A : Type 0} (xs : List A) (i : ℕ) → i < length xs → (x : A) × (slice_get xs i ≡ Some x)
has_item [] i below = absurd (omega (arith, below))
has_item (x ∷ xs) zero below = (x, refl)
has_item (x ∷ xs) (suc i) below = has_item xs i (omega (arith, below))

page_in : (u : Setup) (k : Key) (shape : RegionShape) (o : Option RegionShape) → o ≡ Some shape → k.page < shape.pages → stripe_of u.stripes (shared_group o) k.region k.page ≡ u.number → is_page_of u o k ≡ true
page_in u k shape None e below is = absurd cc
page_in u k shape (Some other) e below is =
    let same : other ≡ shape = cc in
    let page : k.page < other.pages = subst (λ (z : RegionShape). k.page < z.pages) (sym same) below in
    and_from (nat_lt k.page other.pages) (stripe_of u.stripes other.group k.region k.page == u.number) (lt-ltb k.page other.pages page) (eq-eqb (stripe_of u.stripes other.group k.region k.page) u.number is)

-- a scratch page that was written over is as long as before
pub scratch_size : (items new : List ℕ) (len : ℕ) → length new ≡ length items → len ≡ length items → length (take len (new ++ drop (length new) items)) ≡ length items
scratch_size items new len same all = omega (arith, length-take len (new ++ drop (length new) items), length-append new (drop (length new) items), length-drop (length new) items, same, all)

module _ {S J : Type 0} where
  -- the passes are in no hold
  pub fit_out : (pager : SharedPager S J) (p : PassesSeen (StripeBox S J)) → FitTo pager p → (s : ℕ) (pass : PassSeen (StripeBox S J) Entry) → slice_get p.passes s ≡ Some pass → pass.inside ≡ false
  fit_out pager p fit s pass e =
      let below = slice_get_within p.passes s pass e in
      let many = fit.as_many in
      let has = has_item pager.locks s (omega (arith, below, many)) in
      (fit.each s has.0 pass has.1 e).1

  -- a part of a page is one in the page's stripe
  pub in_stripe_page : (pager : SharedPager S J) (shapes : List RegionShape) (k : Key) (place len : ℕ) (shape : RegionShape) (lock : LockSeen (StripeBox S J)) → GoesTogether pager shapes → IsPart pager k place len
      → slice_get (shapes_of pager.table) k.region ≡ Some shape → slice_get pager.locks (page_stripe pager k) ≡ Some lock → InPage (locked_setup lock) k place len
  in_stripe_page pager shapes k place len shape lock all part known at =
      let u : Setup = locked_setup lock in
      let suits : SuitsStripe pager.layout pager.table (page_stripe pager k) u = all.each (page_stripe pager k) lock at in
      let shapes_same : slice_get u.shapes k.region ≡ slice_get (shapes_of pager.table) k.region = ap (λ (ss : List RegionShape). slice_get ss k.region) suits.shapes in
      record {
        page = page_in u k shape (slice_get u.shapes k.region) (shapes_same ∙ known) (part.page shape known)
            (ap (λ (n : ℕ). stripe_of n (shared_group (slice_get u.shapes k.region)) k.region k.page) suits.stripes
            ∙ ap (λ (o : Option RegionShape). stripe_of pager.layout.stripes (shared_group o) k.region k.page) shapes_same
            ∙ sym suits.number);
        some = part.some;
        inside = subst (λ (z : ℕ). place + len ≤ z) (sym suits.page_size) part.inside;
      }

  pub stripe_writable : (pager : SharedPager S J) (shapes : List RegionShape) (s r : ℕ) (lock : LockSeen (StripeBox S J)) → GoesTogether pager shapes → slice_get pager.locks s ≡ Some lock → region_writable pager r ≡ true → is_writable (locked_setup lock) r ≡ true
  stripe_writable pager shapes s r lock all at may = ap (λ (ss : List RegionShape). may_write (slice_get ss r)) (all.each s lock at).shapes ∙ may

  -- a stripe has the regions of the table
  pub stripe_regions : (pager : SharedPager S J) (shapes : List RegionShape) (s : ℕ) (lock : LockSeen (StripeBox S J)) → GoesTogether pager shapes → slice_get pager.locks s ≡ Some lock → regions (locked_setup lock) ≡ length pager.table.regions
  stripe_regions pager shapes s lock all at = ap length (all.each s lock at).shapes ∙ length-map pager.table.regions (shape_of pager.table.page_size)
