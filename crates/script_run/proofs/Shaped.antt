-- A pager of the shape of some regions: its stripes, by the layout's numbers, and where in them regions close.
use Rattle.std.proofs.Common.{◌≡◌, ℕ, zero, suc, ◌+◌, ◌/◌, ◌<◌, ◌&&◌, true, List, [], ◌∷◌, length, map, Option, Some, slice_get, refl, sym, ap, subst, ◌∙◌, arith}
use Rattle.std.specs.List.{list_all, range_with_len}
use Rattle.std.specs.Option.{option_map}
use Rattle.std.proofs.lemmas.List.{length-map}
use Rattle.std.proofs.lemmas.Nat.{mod_below}
use Rattle.histories.specs.Histories.{by}
use Rattle.page_base.specs.Pages.{stripe_of}
use Rattle.page_base.specs.declared.keys.Key.{Key}
use Rattle.page_base.specs.declared.keys.RegionShape.{RegionShape}
use Rattle.page_model.specs.declared.entry.Entry.{Entry}
use Rattle.page_model.specs.Closings.{is_closing, is_unmapped}
use Rattle.page_model.specs.Core as plain
use Rattle.page_model.specs.Core.{Core}
use Rattle.page_model.specs.Readers.{RegionReads}
use Rattle.serial_pager.specs.Seen.{StripeSeen}
use Rattle.serial_pager.specs.Pagers.{PagerSeen, group_in, may_store, is_writable, stripe_at, core_in, closes_in, is_gone}
use Rattle.workload_text.specs.Grammar.{Region, writable_at}
use Rattle.flat_lines.specs.Spreads.{Spread, stripe_in, piece_key}
use Rattle.script_run.specs.InsideRanges.{closes_there, IsOpenRange}
use Rattle.script_run.specs.InsideRunning.{IsShaped, StandsBy, StripesAgree, shape_of}
use Rattle.script_run.specs.LineEntries.{closes_by, IsOpenAll, is_gone_by}
use Rattle.script_run.proofs.FittedLanes.{there}

one_group : (size : ℕ) (gs : List Region) (r : ℕ) → group_in (slice_get (map (shape_of size) gs) r) ≡ 1
one_group size [] r = refl
one_group size (g ∷ gs) zero = refl
one_group size (g ∷ gs) (suc r) = one_group size gs r

stores_in : (size : ℕ) (gs : List Region) (r : ℕ) → writable_at gs r ≡ true → may_store (slice_get (map (shape_of size) gs) r) ≡ true
stores_in size [] r e = e
stores_in size (g ∷ gs) zero e = e
stores_in size (g ∷ gs) (suc r) e = stores_in size gs r e

module _ {J : Type 0} (t : Spread) (gs : List Region) (p : PagerSeen J) (shaped : IsShaped t gs p) where
  pub stripe_is : (k : Key) → stripe_at p k ≡ stripe_in t k
  stripe_is k =
      ap (λ n. stripe_of n (group_in (slice_get p.shapes k.region)) k.region k.page) shaped.stripes
      ∙ ap (λ n. stripe_of t.stripes n k.region k.page) (ap (λ (ss : List RegionShape). group_in (slice_get ss k.region)) shaped.shapes ∙ one_group t.page_size gs k.region ∙ sym (shaped.groups k.region))

  pub writable_is : (r : ℕ) → writable_at gs r ≡ true → is_writable p r ≡ true
  writable_is r e = ap (λ (ss : List RegionShape). may_store (slice_get ss r)) shaped.shapes ∙ stores_in t.page_size gs r e

  pub regions_are : length p.shapes ≡ length gs
  regions_are = ap length shaped.shapes ∙ length-map gs (shape_of t.page_size)

  -- ---- regions that close or are unmapped, by the histories that the stripes stand for

  module _ (agree : StripesAgree) (older : ℕ → List Entry) (stands : StandsBy p older) where
    reads : (s : ℕ) (x : StripeSeen J) (r : ℕ) → r < length gs → slice_get p.stripes s ≡ Some x → RegionReads (by 0 (older s)) x.core r
    reads s x r below at =
        agree.readers.regions (by 0 (older s)) x.core r (stands s x.core (ap core_in at))
        (subst (λ n. r < n) (sym (shaped.known s x.core.setup (ap (λ (o : Option (StripeSeen J)). option_map (λ (c : Core). c.setup) (core_in o)) at))) below)

    pub closes_is : (r at : ℕ) → r < length gs → closes_there p r at ≡ closes_by t older r at
    closes_is r at below =
        let k : Key = piece_key p.page_size r at in
        let x = there p.stripes (stripe_at p k) (subst (λ n. n < length p.stripes) (sym (stripe_is k)) (omega (arith, mod_below (k.region + k.page / t.group_of k.region) t.stripes shaped.some_stripe, shaped.stripes))) in
        ap (λ (o : Option (StripeSeen J)). closes_in (core_in o) r) x.1
        ∙ (reads (stripe_at p k) x.0 r below x.1).closing
        ∙ ap (λ s. is_closing (by 0 (older s)) r) (stripe_is k)
        ∙ ap (λ z. is_closing (by 0 (older (stripe_in t (piece_key z r at)))) r) shaped.page_size

    pub open_is : (r off n : ℕ) → r < length gs → IsOpenRange p r off n → IsOpenAll t older r off n
    open_is r off n below h i lt = sym (closes_is r (off + i) below) ∙ h i lt

    pub gone_is : (r : ℕ) → r < length gs → is_gone p r ≡ is_gone_by t older r
    gone_is r below =
        all 0 p.stripes (λ i x e. (reads i x r below e).unmapped ∙ ap (λ n. is_unmapped (by 0 (older n)) r) (omega arith))
        ∙ ap (λ n. list_all (λ s. is_unmapped (by 0 (older s)) r) (range_with_len 0 n)) shaped.stripes
      where
        all : (n : ℕ) (xs : List (StripeSeen J)) → ((i : ℕ) (x : StripeSeen J) → slice_get xs i ≡ Some x → plain.is_unmapped x.core r ≡ is_unmapped (by 0 (older (n + i))) r)
            → list_all (λ (x : StripeSeen J). plain.is_unmapped x.core r) xs ≡ list_all (λ s. is_unmapped (by 0 (older s)) r) (range_with_len n (length xs))
        all n [] h = refl
        all n (x ∷ xs) h =
            let first : plain.is_unmapped x.core r ≡ is_unmapped (by 0 (older n)) r = h 0 x refl ∙ ap (λ m. is_unmapped (by 0 (older m)) r) (omega arith) in
            ap (λ b. b && list_all (λ (y : StripeSeen J). plain.is_unmapped y.core r) xs) first
            ∙ ap (λ b. is_unmapped (by 0 (older n)) r && b) (all (n + 1) xs (λ i y e. h (suc i) y e ∙ ap (λ m. is_unmapped (by 0 (older m)) r) (omega arith)))
