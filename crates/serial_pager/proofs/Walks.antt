-- Stripes that go on one after another, each by its own entries, and what all pages of their pager see of it.
use Rattle.std.proofs.Common.{◌≡◌, ◌⊎◌, inl, inr, ℕ, ◌+◌, ◌<◌, ◌≤◌, List, [], length, Some, slice_get, slice_set, refl, sym, ap, subst, ◌∙◌, arith, ◌^◌, Bool, true, false, ◌∷◌, Option, None, zero, suc}
use Rattle.std.proofs.lemmas.Bool.{cases_eq, cases_lt, and_from, and_parts}
use Rattle.std.proofs.lemmas.Option.{slice_get_within}
use Rattle.histories.specs.Histories.{History}
use Rattle.page_model.specs.declared.entry.Entry.{Entry}
use Rattle.page_model.specs.Core.{Core, frames_held, is_unmapped, reads_out}
use Rattle.serial_pager.specs.Seen.{StripeSeen}
use Rattle.serial_pager.specs.Goings.{EachDid, OneFailed, Went, WentEach}
use Rattle.serial_pager.specs.InsideSound.{Goes, GoesEach, HasRegionEach, IsSound}
use Rattle.serial_pager.specs.Rests.{IsAtRest, ClosesSame}
use Rattle.serial_pager.proofs.Goes.{went_nowhere}
use Rattle.serial_pager.proofs.Lists.{slice_set_same, slice_set_other, slice_set_length, some_is, past}
use Rattle.std.specs.List.{list_all}
use Rattle.std.specs.Option.{option_map}
use Rattle.page_base.specs.declared.keys.Key.{Key}
use Rattle.page_base.specs.declared.keys.RegionShape.{RegionShape}
use Rattle.page_model.specs.Setups as setup
use Rattle.page_model.specs.Setups.{Setup, quota}
use Rattle.page_model.specs.Stands.{StandsFor}
use Rattle.serial_pager.specs.declared.fault.PageFault.{PageFault}
use Rattle.serial_pager.specs.Pagers.{PagerSeen, ClosesOnly, FlushFails, IsSame, IsWithin, UnmapFails, UnmapsEach, closes_in, core_in, has_key, is_gone, stripe_at}
use Rattle.serial_pager.specs.Sound.{seen_of}
use Rattle.stripe_core.specs.declared.config.StripeConfig.{StripeConfig}
use Rattle.serial_pager.specs.Unmappings.{ClosesOne, FailsToUnmap, Unmaps}
use Rattle.serial_pager.specs.Writings.{WritesAll, WritesUpTo}
use Rattle.serial_pager.proofs.Stripes.{pages_of_stripe}

-- what the stripes below i of a list have done
pub record Walked {J : Type 0} (has_noted : J → History Entry → Type 0) (How : Core → List Entry → Core → Type 0) (Closes : Core → Core → Type 0) (i : ℕ) (all now : List (StripeSeen J)) : Type 0 where
  pub as_many : length now ≡ length all
  pub ahead : (s : ℕ) → i ≤ s → slice_get now s ≡ slice_get all s
  pub goes : (s : ℕ) (x y : StripeSeen J) → s < i → slice_get all s ≡ Some x → slice_get now s ≡ Some y → Goes 64 Closes x y
  pub made : ℕ → List Entry
  pub went : WentEach 0 has_noted made all now
  pub how : (s : ℕ) (x y : StripeSeen J) → s < i → slice_get all s ≡ Some x → slice_get now s ≡ Some y → How x.core (made s) y.core
  pub above : (s : ℕ) → i ≤ s → made s ≡ []

-- a stripe that made nothing
pub goes_nowhere : {J : Type 0} {most : ℕ} (Closes : Core → Core → Type 0) → ((c : Core) → Closes c c) → (x : StripeSeen J) → IsAtRest x.core → Goes most Closes x x
goes_nowhere Closes still x rest = record { setup = refl; rest = rest; few = omega arith; closes = still x.core }

module _ {J : Type 0} (noted : J → History Entry → Type 0) (How : Core → List Entry → Core → Type 0) (Closes : Core → Core → Type 0) where
  pub walked_none : (all : List (StripeSeen J)) → Walked noted How Closes 0 all all
  walked_none all = record {
    as_many = refl;
    ahead = λ s le. refl;
    goes = λ s x y below e f. absurd (omega (arith, below));
    made = λ s. [];
    went = λ s x y was is. subst (λ (z : StripeSeen J). Went 0 noted [] x z) (some_is (sym was ∙ is)) (went_nowhere noted x);
    how = λ s x y below e f. absurd (omega (arith, below));
    above = λ s le. refl;
  }

  -- all of them have
  pub walked_all : (i : ℕ) (all now : List (StripeSeen J)) → length all ≤ i → Walked noted How Closes i all now → EachDid 0 noted How all now
  walked_all i all now most w = record {
    made = w.made;
    went = w.went;
    how = λ s x y e f. w.how s x y (omega (arith, most, slice_get_within all s x e)) e f;
  }

  pub went_all : (i : ℕ) (all now : List (StripeSeen J)) → length all ≤ i → Walked noted How Closes i all now → GoesEach 64 Closes all now
  went_all i all now most w = λ s x y e f. w.goes s x y (omega (arith, most, slice_get_within all s x e)) e f

  module _ (all now : List (StripeSeen J)) (i : ℕ) (x y : StripeSeen J) (w : Walked noted How Closes i all now) (was : slice_get now i ≡ Some x) (goes : Goes 64 Closes x y) (es : List Entry) (went : Went 0 noted es x y) where
    starts : slice_get all i ≡ Some x
    starts = sym (w.ahead i (omega arith)) ∙ was

    first_is : (s : ℕ) (a : StripeSeen J) → s ≡ i → slice_get all s ≡ Some a → x ≡ a
    first_is s a here e = some_is (sym starts ∙ (ap (slice_get all) (sym here) ∙ e))

    second_is : (s : ℕ) (b : StripeSeen J) → s ≡ i → slice_get (slice_set now i y) s ≡ Some b → y ≡ b
    second_is s b here g = some_is (sym (slice_set_same now i x y was) ∙ (sym (ap (slice_get (slice_set now i y)) here) ∙ g))

    as_before : (s : ℕ) (b : StripeSeen J) → (s ≡ i → ⊥) → slice_get (slice_set now i y) s ≡ Some b → slice_get now s ≡ Some b
    as_before s b other g = sym (slice_set_other now i s y other) ∙ g

    -- what holds of the stripe that went on holds of it wherever it is found
    at_pair : (P : StripeSeen J → StripeSeen J → Type 0) → P x y → (s : ℕ) (a b : StripeSeen J) → s ≡ i → slice_get all s ≡ Some a → slice_get (slice_set now i y) s ≡ Some b → P a b
    at_pair P holds s a b here e g = subst (λ (v : StripeSeen J). P v b) (first_is s a here e) (subst (λ (v : StripeSeen J). P x v) (second_is s b here g) holds)

    abbrev made_at : (s : ℕ) → (s ≡ i) ⊎ (s ≡ i → ⊥) → List Entry
    made_at s (inl here) = es
    made_at s (inr other) = w.made s

    went_at : (s : ℕ) (a b : StripeSeen J) (c : (s ≡ i) ⊎ (s ≡ i → ⊥)) → slice_get all s ≡ Some a → slice_get (slice_set now i y) s ≡ Some b → Went 0 noted (made_at s c) a b
    went_at s a b (inl here) e g = at_pair (λ v z. Went 0 noted es v z) went s a b here e g
    went_at s a b (inr other) e g = w.went s a b e (as_before s b other g)

    goes_at : (s : ℕ) (a b : StripeSeen J) (c : (s ≡ i) ⊎ (s ≡ i → ⊥)) → s < i + 1 → slice_get all s ≡ Some a → slice_get (slice_set now i y) s ≡ Some b → Goes 64 Closes a b
    goes_at s a b (inl here) below e g = at_pair (λ v z. Goes 64 Closes v z) goes s a b here e g
    goes_at s a b (inr other) below e g = w.goes s a b (omega (arith, below, other)) e (as_before s b other g)

    how_at : How x.core es y.core → (s : ℕ) (a b : StripeSeen J) (c : (s ≡ i) ⊎ (s ≡ i → ⊥)) → s < i + 1 → slice_get all s ≡ Some a → slice_get (slice_set now i y) s ≡ Some b → How a.core (made_at s c) b.core
    how_at did s a b (inl here) below e g = at_pair (λ v z. How v.core es z.core) did s a b here e g
    how_at did s a b (inr other) below e g = w.how s a b (omega (arith, below, other)) e (as_before s b other g)

    before_at : (s : ℕ) (a b : StripeSeen J) (c : (s ≡ i) ⊎ (s ≡ i → ⊥)) → s < i → slice_get all s ≡ Some a → slice_get (slice_set now i y) s ≡ Some b → How a.core (made_at s c) b.core
    before_at s a b (inl here) below e g = absurd (omega (arith, below, here))
    before_at s a b (inr other) below e g = w.how s a b below e (as_before s b other g)

    above_at : (s : ℕ) (c : (s ≡ i) ⊎ (s ≡ i → ⊥)) → i < s → made_at s c ≡ []
    above_at s (inl here) high = absurd (omega (arith, high, here))
    above_at s (inr other) high = w.above s (omega (arith, high))

    fails_at : (Fails : Core → List Entry → Core → Type 0) → Fails x.core es y.core → (a b : StripeSeen J) (c : (i ≡ i) ⊎ (i ≡ i → ⊥)) → slice_get all i ≡ Some a → slice_get (slice_set now i y) i ≡ Some b → Fails a.core (made_at i c) b.core
    fails_at Fails did a b (inl here) e g = at_pair (λ v z. Fails v.core es z.core) did i a b here e g
    fails_at Fails did a b (inr other) e g = absurd (other refl)

    as_many_now : length (slice_set now i y) ≡ length all
    as_many_now = slice_set_length now i y ∙ w.as_many

    -- so it is of one stripe more
    pub walked_more : How x.core es y.core → Walked noted How Closes (i + 1) all (slice_set now i y)
    walked_more did = record {
      as_many = as_many_now;
      ahead = λ s le. slice_set_other now i s y (λ here. omega (arith, le, here)) ∙ w.ahead s (omega (arith, le));
      goes = λ s a b below e g. goes_at s a b (cases_eq s i) below e g;
      made = λ s. made_at s (cases_eq s i);
      went = λ s a b e g. went_at s a b (cases_eq s i) e g;
      how = λ s a b below e g. how_at did s a b (cases_eq s i) below e g;
      above = λ s le. above_at s (cases_eq s i) (omega (arith, le));
    }

    -- or that stripe failed
    pub walked_fails : (Fails : Core → List Entry → Core → Type 0) → Fails x.core es y.core → OneFailed 0 noted How Fails all (slice_set now i y)
    walked_fails Fails did = record {
      stripe = i;
      below = slice_get_within all i x starts;
      made = λ s. made_at s (cases_eq s i);
      went = λ s a b e g. went_at s a b (cases_eq s i) e g;
      before = λ s a b below e g. before_at s a b (cases_eq s i) below e g;
      fails = λ a b e g. fails_at Fails did a b (cases_eq i i) e g;
      above = λ s high. above_at s (cases_eq s i) high;
    }

    pub goes_all : ((c : Core) → Closes c c) → ((s : ℕ) (z : StripeSeen J) → slice_get all s ≡ Some z → IsAtRest z.core) → GoesEach 64 Closes all (slice_set now i y)
    goes_all still rests s a b e g = elim (cases_lt s (i + 1)) [
      | inl below ↦ goes_at s a b (cases_eq s i) below e g
      | inr high ↦
          let there : slice_get now s ≡ Some b = as_before s b (λ here. omega (arith, high, here)) g in
          let same : a ≡ b = some_is (sym e ∙ (sym (w.ahead s (omega (arith, high))) ∙ there)) in
          subst (λ (v : StripeSeen J). Goes 64 Closes a v) same (goes_nowhere Closes still a (rests s a e))
    ]

-- ---- a stripe of both lists

module _ {J : Type 0} (xs ys : List (StripeSeen J)) where
  pub record Pair (s : ℕ) : Type 0 where
    pub x : StripeSeen J
    pub y : StripeSeen J
    pub was : slice_get xs s ≡ Some x
    pub is : slice_get ys s ≡ Some y

  pub record Neither (s : ℕ) : Type 0 where
    pub was : slice_get xs s ≡ None
    pub is : slice_get ys s ≡ None

  pub pairs : length ys ≡ length xs → (s : ℕ) → Pair s ⊎ Neither s
  pairs many s = go (slice_get xs s) (slice_get ys s) refl refl
    where
      go : (o q : Option (StripeSeen J)) → slice_get xs s ≡ o → slice_get ys s ≡ q → Pair s ⊎ Neither s
      go None None e f = inr (record { was = e; is = f })
      go None (Some y) e f = absurd (omega (arith, past xs s e, slice_get_within ys s y f, many))
      go (Some x) None e f = absurd (omega (arith, past ys s f, slice_get_within xs s x e, many))
      go (Some x) (Some y) e f = inl (record { x = x; y = y; was = e; is = f })

none_some : {A : Type 0} {y : A} → None ≡ Some y → ⊥
none_some e = cc

-- ---- what all of them do

pub all_by_items : {A : Type 0} (test : A → Bool) (xs : List A) → ((s : ℕ) (x : A) → slice_get xs s ≡ Some x → test x ≡ true) → list_all test xs ≡ true
all_by_items test [] each = refl
all_by_items test (x ∷ xs) each = and_from (test x) (list_all test xs) (each 0 x refl) (all_by_items test xs (λ s y e. each (suc s) y e))

pub item_of_all : {A : Type 0} (test : A → Bool) (xs : List A) (s : ℕ) (x : A) → slice_get xs s ≡ Some x → list_all test xs ≡ true → test x ≡ true
item_of_all test [] s x e all = absurd cc
item_of_all {A} test (y ∷ xs) zero x e all = let same : y ≡ x = cc in subst (λ (z : A). test z ≡ true) same (and_parts (test y) (list_all test xs) all).0
item_of_all test (y ∷ xs) (suc s) x e all = item_of_all test xs s x e (and_parts (test y) (list_all test xs) all).1

-- no more pages are resident than there are frames
pub within_of : {J : Type 0} (p : PagerSeen J) → IsSound p → ((h : History Entry) (c : Core) → StandsFor h c → length c.pages + reads_out c ≤ frames_held c) → IsWithin p
within_of {J} p sound law s c e = go (slice_get p.stripes s) refl e
  where
    go : (o : Option (StripeSeen J)) → slice_get p.stripes s ≡ o → core_in o ≡ Some c → length c.pages ≤ quota c.setup
    go None at e = absurd (cc)
    go (Some x) at e =
        let rest = (sound.each s x at).rest in
        subst (λ (d : Core). length d.pages ≤ quota d.setup) (some_is e) (omega (arith, law rest.history x.core rest.stands))

-- each stripe has the pager's regions
pub regions_of : {J : Type 0} (p : PagerSeen J) (c : StripeConfig) (stripes : List (StripeSeen J)) (spent : ℕ) → seen_of c stripes spent ≡ p → IsSound (seen_of c stripes spent) → (r : ℕ) → r < length p.shapes → HasRegionEach r stripes
regions_of p c stripes spent view sound r lt s x e =
    subst (λ (ss : List RegionShape). r < length ss) (sym (sound.each s x e).shapes) (subst (λ (v : PagerSeen _). r < length v.shapes) (sym view) lt)

-- nothing was made
pub goes_none : {J : Type 0} (c : StripeConfig) (was : List (StripeSeen J)) (spent : ℕ) → IsSound (seen_of c was spent) → (most : ℕ) (Closes : Core → Core → Type 0) → ((x : Core) → Closes x x) → GoesEach most Closes was was
goes_none c was spent sound most Closes still s x y e f = subst (λ (z : StripeSeen _). Goes most Closes x z) (some_is (sym e ∙ f)) (goes_nowhere Closes still x (sound.each s x e).rest)

-- ---- a pager, seen as v, whose stripes went on from `was` to `now`, for `more` pieces

module _ {J : Type 0} (c : StripeConfig) (was now : List (StripeSeen J)) (spent more : ℕ) (v : PagerSeen J) (view : seen_of c was spent ≡ v) (sound : IsSound (seen_of c was spent)) (Closes : Core → Core → Type 0) (many : length now ≡ length was) (goes : GoesEach more Closes was now) where
  abbrev old : PagerSeen J
  old = seen_of c was spent

  abbrev new : PagerSeen J
  new = seen_of c now (spent + more)

  pub sound_now : v.spent + more ≤ 2 ^ 44 → IsSound new
  sound_now bound = record {
    groups = sound.groups;
    few = omega (arith, bound, ap (λ (p : PagerSeen J). p.spent) view);
    each = λ s y e. elim (pairs was now many s) [
      | inl p ↦
          let f = goes s p.x y p.was e in
          let part = sound.each s p.x p.was in
          record {
            rest = f.rest;
            page_size = ap (λ (u : Setup). u.page_size) f.setup ∙ part.page_size;
            stripes = ap (λ (u : Setup). u.stripes) f.setup ∙ part.stripes ∙ sym many;
            number = ap (λ (u : Setup). u.number) f.setup ∙ part.number;
            shapes = ap (λ (u : Setup). u.shapes) f.setup ∙ part.shapes;
            few = omega (arith, f.few, part.few);
          }
      | inr n ↦ absurd (none_some (sym n.is ∙ e))
    ];
  }

  pub within_now : v.spent + more ≤ 2 ^ 44 → ((h : History Entry) (c : Core) → StandsFor h c → length c.pages + reads_out c ≤ frames_held c) → IsWithin new
  within_now bound law = within_of new (sound_now bound) law

  -- what holds of a stripe's core before and after holds at each number
  at_each : (P : Option Core → Option Core → Type 0) → ((x y : StripeSeen J) → Goes more Closes x y → P (Some x.core) (Some y.core)) → P None None → (s : ℕ) → P (core_in (slice_get was s)) (core_in (slice_get now s))
  at_each P each none s = elim (pairs was now many s) [
    | inl p ↦ subst (λ (o : Option (StripeSeen J)). P (core_in o) (core_in (slice_get now s))) (sym p.was) (subst (λ (o : Option (StripeSeen J)). P (Some p.x.core) (core_in o)) (sym p.is) (each p.x p.y (goes s p.x p.y p.was p.is)))
    | inr n ↦ subst (λ (o : Option (StripeSeen J)). P (core_in o) (core_in (slice_get now s))) (sym n.was) (subst (λ (o : Option (StripeSeen J)). P None (core_in o)) (sym n.is) none)
  ]

  setups_now : (s : ℕ) → option_map (λ (d : Core). d.setup) (core_in (slice_get now s)) ≡ option_map (λ (d : Core). d.setup) (core_in (slice_get was s))
  setups_now = at_each (λ a b. option_map (λ (d : Core). d.setup) b ≡ option_map (λ (d : Core). d.setup) a) (λ x y g. ap (λ (u : Setup). Some u) g.setup) refl

  -- all close as they did
  pub same_now : ((x y : Core) → Closes x y → ClosesSame x y) → IsSame v new
  same_now alike = subst (λ (p : PagerSeen J). IsSame p new) view (record {
    page_size = refl;
    shapes = refl;
    stripes = many;
    setups = setups_now;
    closes = λ s r. at_each (λ a b. closes_in b r ≡ closes_in a r) (λ x y g. alike x.core y.core g.closes r) refl s;
  })

  -- or all but one region do
  pub only_now : (region : ℕ) → ((x y : Core) → Closes x y → ClosesOne region x y) → ClosesOnly region v new
  only_now region alike = subst (λ (p : PagerSeen J). ClosesOnly region p new) view (record {
    page_size = refl;
    shapes = refl;
    stripes = many;
    setups = setups_now;
    others = λ s r ne. at_each (λ a b. closes_in b r ≡ closes_in a r) (λ x y g. (alike x.core y.core g.closes).others r ne) refl s;
    stays = at_each (λ a b. closes_in a region ≡ true → closes_in b region ≡ true) (λ x y g. (alike x.core y.core g.closes).stays) (λ e. e);
    gone = λ r all. all_by_items (λ (x : StripeSeen J). is_unmapped x.core r) now (λ s y e. elim (pairs was now many s) [
      | inl p ↦ (alike p.x.core y.core (goes s p.x y p.was e).closes).gone r (item_of_all (λ (x : StripeSeen J). is_unmapped x.core r) was s p.x p.was all)
      | inr n ↦ absurd (none_some (sym n.is ∙ e))
    ]);
  })

  -- ---- a failed write, and a region that was unmapped

  module _ (noted : J → History Entry → Type 0) where
    place_of_fault : (How Fails : Core → List Entry → Core → Type 0) (k : Key) (f : OneFailed 0 noted How Fails was now) → ((x y : Core) (es : List Entry) → Fails x es y → setup.has_page x.setup k ≡ true) → (has_key old k ≡ true) × (stripe_at old k ≡ f.stripe)
    place_of_fault How Fails k f page = elim (pairs was now many f.stripe) [
      | inl p ↦ pages_of_stripe old f.stripe p.x.core (sound.each f.stripe p.x p.was) k (page p.x.core p.y.core (f.made f.stripe) (f.fails p.x p.y p.was p.is))
      | inr n ↦ absurd (omega (arith, past was f.stripe n.was, f.below))
    ]

    pub flush_fails : (f : PageFault) → OneFailed 0 noted WritesAll (WritesUpTo f) was now → FlushFails 0 noted v new f
    flush_fails f failed =
        let at = place_of_fault WritesAll (WritesUpTo f) f.key failed (λ x y es w. w.page) in
        subst (λ (p : PagerSeen J). FlushFails 0 noted p new f) view (record { failed = failed; page = at.0; at = at.1 })

    pub unmap_fails : (region : ℕ) (f : PageFault) → is_gone v region ≡ false → OneFailed 0 noted (Unmaps region) (FailsToUnmap region f) was now → UnmapFails 0 noted region v new f
    unmap_fails region f mapped failed =
        let at = place_of_fault (Unmaps region) (FailsToUnmap region f) f.key failed (λ x y es w. w.page) in
        subst (λ (p : PagerSeen J). UnmapFails 0 noted region p new f) view (record { mapped = ap (λ (p : PagerSeen J). is_gone p region) view ∙ mapped; failed = failed; page = at.0; at = at.1 })

    pub unmaps_each : (region : ℕ) → is_gone v region ≡ false → EachDid 0 noted (Unmaps region) was now → UnmapsEach 0 noted region v new
    unmaps_each region mapped each = subst (λ (p : PagerSeen J). UnmapsEach 0 noted region p new) view (record {
      mapped = ap (λ (p : PagerSeen J). is_gone p region) view ∙ mapped;
      each = each;
      gone = all_by_items (λ (x : StripeSeen J). is_unmapped x.core region) now (λ s y e. elim (pairs was now many s) [
        | inl p ↦ (each.how s p.x y p.was e).unmapped
        | inr n ↦ absurd (none_some (sym n.is ∙ e))
      ]);
    })
