-- All regions of a pager, unmapped one after another.
use Rattle.std.proofs.Common.{◌≡◌, inl, inr, ℕ, ◌+◌, ◌*◌, ◌≤◌, List, [], ◌∷◌, ◌++◌, length, Option, Some, None, Result, Ok, Err, OnOk, IfErr, slice_get, refl, sym, ap, subst, ◌∙◌, arith, length-append}
use Rattle.std.proofs.lemmas.Bool.{cases_eq}
use Rattle.histories.specs.Histories.{History}
use Rattle.page_model.specs.declared.entry.Entry.{Entry}
use Rattle.stripe_core.specs.declared.config.StripeConfig.{StripeConfig}
use Rattle.serial_pager.specs.declared.fault.PageFault.{PageFault}
use Rattle.serial_pager.specs.declared.fault.UnmapError.{UnmapError}
use Rattle.serial_pager.specs.declared.fault.UnmapError.TheVariants as unmap_error
use Rattle.serial_pager.specs.InsideSound.{IsSound}
use Rattle.serial_pager.specs.InsideUnmappings.{write_fault}
use Rattle.serial_pager.specs.Pagers.{PagerSeen, ClosesOnly, EndsUnmap, UnmapsEach, closes_at}
use Rattle.serial_pager.specs.Seen.{StripeSeen}
use Rattle.serial_pager.specs.Sound.{seen_of}
use Rattle.serial_pager.specs.UnmapsAll.{ClosesMore, UnmapsAs, UnmapsFrom, UnmapsRegion, fault_in, first_fault, first_of}
use Rattle.serial_pager.proofs.Lists.{past}

-- a pager has few regions, since its stripes have
pub few_regions : {J : Type 0} (c : StripeConfig) (was : List (StripeSeen J)) (spent : ℕ) → IsSound (seen_of c was spent) → 1 ≤ length was → length c.shapes.items ≤ 64
few_regions {J} c was spent sound some = go (slice_get was 0) refl
  where
    go : (o : Option (StripeSeen J)) → slice_get was 0 ≡ o → length c.shapes.items ≤ 64
    go None at = absurd (omega (arith, past was 0 at, some))
    go (Some x) at = let part = sound.each 0 x at in omega (arith, part.rest.bounded.few_regions, ap length part.shapes)

first_more : (hows : List (Option PageFault)) (how : Option PageFault) → first_fault (hows ++ how ∷ []) ≡ first_of (first_fault hows) how
first_more [] None = refl
first_more [] (Some f) = refl
first_more (None ∷ hows) how = first_more hows how
first_more (Some f ∷ hows) how = refl

module _ {J : Type 0} (noted : J → History Entry → Type 0) where
  -- what a call of `unmap` did, by its answer
  pub unmaps_as : {T : Type 0} (r : ℕ) (result : Result T UnmapError) (a b : PagerSeen J) → OnOk result (UnmapsEach 0 noted r a b) → IfErr result (EndsUnmap 0 noted r a b) → UnmapsAs 0 noted r (write_fault result) a b
  unmaps_as r (Ok x) a b each ends = inr each
  unmaps_as r (Err unmap_error.Unmapped) a b each ends = inl ends
  unmaps_as r (Err (unmap_error.Fault f)) a b each ends = ends

  from_more : (r : ℕ) (hows : List (Option PageFault)) (how : Option PageFault) (a b c : PagerSeen J) → UnmapsFrom 0 noted r hows a b → UnmapsRegion 0 noted (r + length hows) how b c → UnmapsFrom 0 noted r (hows ++ how ∷ []) a c
  from_more r [] how a b c from one =
      let at : r + length {A = Option PageFault} [] ≡ r = omega arith in
      (c, subst (λ (p : PagerSeen J). UnmapsRegion 0 noted r how p c) from (subst (λ n. UnmapsRegion 0 noted n how b c) at one), refl)
  from_more r (h ∷ hows) how a b c from one =
      let at : r + length (h ∷ hows) ≡ r + 1 + length hows = omega arith in
      (from.0, from.1, from_more (r + 1) hows how from.0 b c from.2 (subst (λ n. UnmapsRegion 0 noted n how b c) at one))

  -- the regions below this one are unmapped so
  pub record Unmapping {T : Type 0} (region : ℕ) (answer : Result T PageFault) (old now : PagerSeen J) : Type 0 where
    pub hows : List (Option PageFault)
    pub every : length hows ≡ region
    pub made : UnmapsFrom 0 noted 0 hows old now
    pub first : fault_in answer ≡ first_fault hows
    pub same : ClosesMore old now
    pub spent : now.spent ≡ old.spent + 64 * region

  pub unmapping_none : {T : Type 0} (x : T) (a : PagerSeen J) → Unmapping 0 (Ok x) a a
  unmapping_none x a = record {
    hows = [];
    every = refl;
    made = refl;
    first = refl;
    same = record { page_size = refl; shapes = refl; stripes = refl; setups = λ s. refl; stays = λ s r e. e; gone = λ r e. e };
    spent = omega arith;
  }

  more_closes : (r : ℕ) (a b c : PagerSeen J) → ClosesMore a b → ClosesOnly r b c → ClosesMore a c
  more_closes r a b c one two = record {
    page_size = two.page_size ∙ one.page_size;
    shapes = two.shapes ∙ one.shapes;
    stripes = two.stripes ∙ one.stripes;
    setups = λ s. two.setups s ∙ one.setups s;
    stays = λ s q e. elim (cases_eq q r) [
      | inl is ↦ ap (closes_at c s) is ∙ two.stays s (ap (closes_at b s) (sym is) ∙ one.stays s q e)
      | inr ne ↦ two.others s q ne ∙ one.stays s q e
    ];
    gone = λ q e. two.gone q (one.gone q e);
  }

  pub unmapping_more : {T U : Type 0} (r : ℕ) (answer next : Result T PageFault) (result : Result U UnmapError) (o a b : PagerSeen J) → Unmapping r answer o a → ClosesOnly r a b → b.spent ≡ a.spent + 64
      → OnOk result (UnmapsEach 0 noted r a b) → IfErr result (EndsUnmap 0 noted r a b) → fault_in next ≡ first_of (fault_in answer) (write_fault result) → Unmapping (r + 1) next o b
  unmapping_more r answer next result o a b u only spent each ends first = record {
    hows = u.hows ++ write_fault result ∷ [];
    every = omega (arith, length-append u.hows (write_fault result ∷ []), u.every);
    made = from_more 0 u.hows (write_fault result) o a b u.made (subst (λ n. UnmapsRegion 0 noted n (write_fault result) a b) (sym at) (record { same = only; made = unmaps_as r result a b each ends }));
    first = first ∙ (ap (λ f. first_of f (write_fault result)) u.first ∙ sym (first_more u.hows (write_fault result)));
    same = more_closes r o a b u.same only;
    spent = omega (arith, u.spent, spent);
  }
    where
      at : 0 + length u.hows ≡ r
      at = omega (arith, u.every)
