-- From region to region.
use Rattle.std.proofs.Common.{◌≡◌, ℕ, zero, suc, ◌+◌, ◌<◌, ◌⊎◌, inl, inr, Bool, true, false, List, [], ◌∷◌, length, Option, Some, None, Result, Ok, Err, IfErr, refl, sym, subst, ap, ◌∙◌, arith}
use Rattle.std.specs.List.{slice_get}
use Rattle.std.proofs.lemmas.Bool.{cases_eq}
use Rattle.std.proofs.lemmas.Option.{slice_get_within}
use Rattle.histories.specs.Histories.{GoesOn}
use Rattle.page_base.specs.declared.keys.Key.{Key}
use Rattle.page_model.specs.declared.entry.Entry.{Entry}
use Rattle.page_model.specs.Closings.{is_unmapped}
use Rattle.page_model.specs.Laws.{ClosingsStay}
use Rattle.turn_lock.specs.Seen.{LockSeen, PassSeen}
use Rattle.locked_stripe.specs.declared.answers.Access.{Access}
use Rattle.locked_stripe.specs.declared.answers.Access.TheVariants as access
use Rattle.locked_stripe.specs.declared.stripe_box.StripeBox.{StripeBox}
use Rattle.locked_stripe.specs.Walks.{UnmapWent}
use Rattle.umap_pager.specs.Passes.{PassesSeen}
use Rattle.umap_pager.specs.Shared.{SharedPager}
use Rattle.flush_call.specs.OverStripes.{EachStripe}
use Rattle.flush_call.specs.Unmaps.{IsNowUnmapped, NewlyUnmapped, UnmapStops}
use Rattle.flush_call.specs.UnmapsAll.{AllUnmapped, SpentAtOne, UnmapsOne, UnmapsRegions, first_fault, is_spent}

has_item : {A : Type 0} (xs : List A) (i : ℕ) → i < length xs → (x : A) × (slice_get xs i ≡ Some x)
has_item [] i below = absurd (omega (arith, below))
has_item (x ∷ xs) zero below = (x, refl)
has_item (x ∷ xs) (suc i) below = has_item xs i (omega (arith, below))

module _ {S J : Type 0} where
  -- one region more is unmapped in every stripe
  each_more : ClosingsStay → (n : ℕ) (pager : SharedPager S J) (now new : PassesSeen (StripeBox S J)) → AllUnmapped n pager now → EachStripe (λ u a b. IsNowUnmapped n a b) pager now new → AllUnmapped (n + 1) pager new
  each_more law n pager now new all e r s lock pass below l at =
      let inside = slice_get_within new.passes s pass at in
      let many = e.as_many in
      let was = has_item now.passes s (omega (arith, inside, many)) in
      let did : IsNowUnmapped n was.0 pass = e.did s lock was.0 pass l was.1 at in
      let grew = did.1.went.grew.seen in
      let goes : GoesOn was.0.seen pass.seen = (grew.later, grew.is) in
      elim (cases_eq r n) [
        | inl same ↦ subst (λ (q : ℕ). is_unmapped pass.seen q ≡ true) (sym same) did.1.unmapped
        | inr ne ↦ law.unmapped was.0.seen pass.seen r goes (all r s lock was.0 (omega (arith, below, ne)) l was.1)
      ]

  each_gone : (n : ℕ) (pager : SharedPager S J) (now new : PassesSeen (StripeBox S J)) → EachStripe (λ u a b. UnmapWent n true a b) pager now new → EachStripe (λ u a b. IsNowUnmapped n a b) pager now new
  each_gone n pager now new e = record { as_many = e.as_many; scratch = e.scratch; did = λ s lock a b x y z. (true, e.did s lock a b x y z) }

  pub all_more : ClosingsStay → (n : ℕ) (first : Option (Key × ℕ)) (answer : Result (Unit {0}) Access) (pager : SharedPager S J) (now new : PassesSeen (StripeBox S J)) → (first ≡ None → AllUnmapped n pager now) → UnmapsOne pager n now new answer
      → first_fault first answer ≡ None → AllUnmapped (n + 1) pager new
  all_more law n (Some fault) answer pager now new all w e = absurd cc
  all_more law n None (Ok x) pager now new all w e = each_more law n pager now new (all refl) w.ok.each
  all_more law n None (Err access.OutOfRange) pager now new all w e = absurd w.err
  all_more law n None (Err access.ReadOnly) pager now new all w e = absurd w.err
  all_more law n None (Err access.PassSpent) pager now new all w e = absurd (let no : true ≡ false = w.left in cc)
  all_more law n None (Err access.Unmapped) pager now new all w e = each_more law n pager now new (all refl) (each_gone n pager now new w.err)
  all_more law n None (Err (access.StoreFault k m)) pager now new all w e = absurd cc

  pub regions_more : (n : ℕ) (first next : Option (Key × ℕ)) (answer : Result (Unit {0}) Access) (pager : SharedPager S J) (old now new : PassesSeen (StripeBox S J)) → UnmapsRegions pager n old now first → UnmapsOne pager n now new answer
      → next ≡ first_fault first answer → UnmapsRegions pager (n + 1) old new next
  regions_more n first next answer pager old now new w one e =
      let one_more : suc n ≡ n + 1 = omega arith in
      subst (λ (m : ℕ). UnmapsRegions pager m old new next) one_more (now, first, answer, w, one, e)

  pub regions_all : (n m : ℕ) (first next : Option (Key × ℕ)) (pager : SharedPager S J) (old new : PassesSeen (StripeBox S J)) → n ≡ m → first ≡ next → UnmapsRegions pager n old new first → UnmapsRegions pager m old new next
  regions_all n m first next pager old new same is w = subst (λ (i : ℕ). UnmapsRegions pager i old new next) same (subst (λ (f : Option (Key × ℕ)). UnmapsRegions pager n old new f) is w)

  -- the pass was spent in one region's walk
  pub spent_at : (n : ℕ) (first : Option (Key × ℕ)) (answer : Result (Unit {0}) Access) (pager : SharedPager S J) (old now new : PassesSeen (StripeBox S J)) → n < length pager.table.regions → UnmapsRegions pager n old now first
      → is_spent answer ≡ true → IfErr answer (UnmapStops pager n now new) → SpentAtOne pager old new
  spent_at n first (Ok x) pager old now new below w e err = absurd cc
  spent_at n first (Err access.OutOfRange) pager old now new below w e err = absurd cc
  spent_at n first (Err access.ReadOnly) pager old now new below w e err = absurd cc
  spent_at n first (Err access.Unmapped) pager old now new below w e err = absurd cc
  spent_at n first (Err (access.StoreFault k m)) pager old now new below w e err = absurd cc
  spent_at n first (Err access.PassSpent) pager old now new below w e err = record { region = n; below = below; mid = now; first = first; before = w; stops = err }
