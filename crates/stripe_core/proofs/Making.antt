-- The regions of a stripe, made from the last lane to the first.
use Rattle.page_base.specs.Lanes.{LaneSeen}
use Rattle.page_base.specs.Pages.{stripe_of}
use Rattle.page_base.specs.declared.keys.RegionShape.{RegionShape}
use Rattle.page_model.specs.Setups.{is_page_of}
use Rattle.std.proofs.lemmas.Bool.{and_parts}
use Rattle.std.proofs.lemmas.Option.{slice_get-map}
use Rattle.std.specs.Option.{option_map}
use Rattle.page_model.specs.Core.{Core, Home, RegionSeen}
use Rattle.page_model.specs.Readers.{IsHere}
use Rattle.stripe_core.specs.Parts.{place_of, region_seen}
use Rattle.std.proofs.Common.{List, None, Option, Some, slice_get, map, [], ap, append_assoc, arith, inl, inr, length, length-append, nat_lt, refl, reverse, suc, sym, true, zero, ℕ, ◌+◌, ◌++◌, ◌==◌, ◌∙◌, ◌∷◌, ◌≡◌, ◌⊎◌}
use Rattle.std.proofs.lemmas.List.{append-nil, reverse-append, reverse-reverse}
use Rattle.stripe_core.specs.declared.region.Region.{Region}
use Rattle.stripe_core.specs.InsideMade.{region_made, regions_made}
use Rattle.stripe_core.specs.Configs.{setup_of}
use Rattle.stripe_core.specs.InsideReadFaults.{AreShares, HasPagesOf, ReadFaultsSeen, in_share}
use Rattle.stripe_core.specs.declared.config.StripeConfig.{StripeConfig}
use Rattle.stripe_core.specs.declared.read_faults.Share.{Share}

-- the regions so far, reversed, are those of the lanes that have left
pub record MadeSoFar {S : Type 0} (all now : List S) (given left : List ReadFaultsSeen) (regions : List (Region S)) : Type 0 where
  pub rest : List S
  pub used : List ReadFaultsSeen
  pub lanes : all ≡ now ++ rest
  pub faults : given ≡ left ++ used
  pub made : regions ≡ reverse (regions_made rest used)
  pub one_each : length left ≡ length now

pub made_none : {S : Type 0} (all : List S) (given : List ReadFaultsSeen) (regions : List (Region S)) → regions ≡ [] → length given ≡ length all → MadeSoFar all all given given regions
made_none all given regions e n = record { rest = []; used = []; lanes = sym (append-nil all); faults = sym (append-nil given); made = e; one_each = n }

pub made_more : {S : Type 0} (all now fewer : List S) (given left less : List ReadFaultsSeen) (regions : List (Region S)) (s : S) (f : ReadFaultsSeen) → MadeSoFar all now given left regions → now ≡ fewer ++ s ∷ [] → left ≡ less ++ f ∷ []
    → MadeSoFar all fewer given less (regions ++ region_made s f ∷ [])
made_more all now fewer given left less regions s f m e i = record {
  rest = s ∷ m.rest;
  used = f ∷ m.used;
  lanes = m.lanes ∙ (ap (λ x. x ++ m.rest) e ∙ append_assoc fewer (s ∷ []) m.rest);
  faults = m.faults ∙ (ap (λ x. x ++ m.used) i ∙ append_assoc less (f ∷ []) m.used);
  made = ap (λ x. x ++ region_made s f ∷ []) m.made ∙ sym (reverse-append (region_made s f ∷ []) (regions_made m.rest m.used));
  one_each =
      let before = m.one_each in
      let now_is : length now ≡ length fewer + 1 = ap length e ∙ length-append fewer (s ∷ []) in
      let left_is : length left ≡ length less + 1 = ap length i ∙ length-append less (f ∷ []) in
      omega (arith, before, now_is, left_is);
}

nothing : {A : Type 0} (xs : List A) → length xs ≡ 0 → xs ≡ []
nothing [] e = refl
nothing (x ∷ xs) e = absurd (omega (arith, e))

pub made_all : {S : Type 0} (all now : List S) (given left : List ReadFaultsSeen) (regions : List (Region S)) → MadeSoFar all now given left regions → length now ≡ 0 → reverse regions ≡ regions_made all given
made_all all now given left regions m e =
    let none : left ≡ [] = nothing left (m.one_each ∙ e) in
    let all_is : all ≡ m.rest = m.lanes ∙ ap (λ x. x ++ m.rest) (nothing now e) in
    let given_is : given ≡ m.used = m.faults ∙ ap (λ x. x ++ m.used) none in
    ap reverse m.made ∙ (reverse-reverse (regions_made m.rest m.used) ∙ sym (ap (λ x. regions_made x given) all_is ∙ ap (regions_made m.rest) given_is))

-- ---- the read faults of each region, made from the first region to the last

push_cases : {A : Type 0} (xs : List A) (x y : A) (i : ℕ) → slice_get (xs ++ x ∷ []) i ≡ Some y → (slice_get xs i ≡ Some y) ⊎ ((i ≡ length xs) × (y ≡ x))
push_cases [] x y zero e = inr (refl, cc)
push_cases [] x y (suc i) e = absurd (cc)
push_cases (z ∷ xs) x y zero e = inl e
push_cases (z ∷ xs) x y (suc i) e = elim (push_cases xs x y i e) [ inl h ↦ inl h | inr h ↦ inr (ap suc h.0, h.1) ]

pub no_shares : (c : StripeConfig) (faults : List ReadFaultsSeen) → faults ≡ [] → AreShares c faults
no_shares c [] e r f is = absurd cc
no_shares c (x ∷ faults) e r f is = absurd cc

pub one_more_share : (c : StripeConfig) (faults : List ReadFaultsSeen) (new : ReadFaultsSeen) → AreShares c faults → HasPagesOf c (length faults) new.share → AreShares c (faults ++ new ∷ [])
one_more_share c faults new all one r f is = elim (push_cases faults new f r is) [
  | inl before ↦ all r f before
  | inr here ↦ rw (here.0, here.1) one
]

pub shared : (c : StripeConfig) (r : ℕ) (shape : RegionShape) (share : Share) → slice_get c.shapes.items r ≡ Some shape
    → ((p : ℕ) → in_share share p ≡ (stripe_of c.layout.stripes shape.group r p == c.number)) → HasPagesOf c r share
shared c r shape share is own k at has =
    let there : slice_get c.shapes.items k.region ≡ Some shape = rw at is in
    let here : is_page_of (setup_of c []) (Some shape) k ≡ true = sym (ap (λ o. is_page_of (setup_of c []) o k) there) ∙ has in
    let mine = (and_parts (nat_lt k.page shape.pages) (stripe_of c.layout.stripes shape.group k.region k.page == c.number) here).1 in
    own k.page ∙ (ap (λ q. stripe_of c.layout.stripes shape.group q k.page == c.number) (sym at) ∙ mine)

-- ---- the lanes handed back, from the last region to the first

pub record TakenSoFar {S : Type 0} (seen : S → LaneSeen) (all now : List (Region S)) (home : List S) : Type 0 where
  pub rest : List (Region S)
  pub regions : all ≡ now ++ rest
  pub lanes : map (λ s. Home (seen s)) (reverse home) ≡ map (λ (g : Region S). place_of seen g.lane) rest

pub taken_none : {S : Type 0} (seen : S → LaneSeen) (all : List (Region S)) (home : List S) → home ≡ [] → TakenSoFar seen all all home
taken_none seen all home e = record { rest = []; regions = sym (append-nil all); lanes = ap (λ xs. map (λ s. Home (seen s)) (reverse xs)) e }

pub taken_more : {S : Type 0} (seen : S → LaneSeen) (all now fewer : List (Region S)) (home : List S) (g : Region S) (s : S) → TakenSoFar seen all now home → now ≡ fewer ++ g ∷ [] → place_of seen g.lane ≡ Home (seen s)
    → TakenSoFar seen all fewer (home ++ s ∷ [])
taken_more {S} seen all now fewer home g s t e is = record {
  rest = g ∷ t.rest;
  regions = t.regions ∙ (ap (λ x. x ++ t.rest) e ∙ append_assoc fewer (g ∷ []) t.rest);
  lanes = ap (map (λ x. Home (seen x))) (reverse-append home (s ∷ [])) ∙ (ap (λ ps. Home (seen s) ∷ ps) t.lanes ∙ ap (λ p. p ∷ map (λ (x : Region S). place_of seen x.lane) t.rest) (sym is));
}

pub taken_all : {S : Type 0} (seen : S → LaneSeen) (all now : List (Region S)) (home : List S) → TakenSoFar seen all now home → length now ≡ 0 → map (λ s. Home (seen s)) (reverse home) ≡ map (λ (g : Region S). place_of seen g.lane) all
taken_all {S} seen all now home t e = t.lanes ∙ ap (map (λ (g : Region S). place_of seen g.lane)) (sym (t.regions ∙ ap (λ x. x ++ t.rest) (nothing now e)))

-- the region that is next to be taken
pub last_there : {A : Type 0} (fewer rest : List A) (x : A) → slice_get ((fewer ++ x ∷ []) ++ rest) (length fewer) ≡ Some x
last_there [] rest x = refl
last_there (y ∷ ys) rest x = last_there ys rest x

pub places_seen : {S : Type 0} (seen : S → LaneSeen) (gs : List (Region S)) → map (λ (x : RegionSeen). x.place) (map (region_seen seen) gs) ≡ map (λ (g : Region S). place_of seen g.lane) gs
places_seen seen [] = refl
places_seen seen (g ∷ gs) = ap (λ ps. place_of seen g.lane ∷ ps) (places_seen seen gs)

-- a region's lane that is handed back was home
pub home_here : (c : Core) (r : ℕ) (lane : LaneSeen) → slice_get (map (λ (x : RegionSeen). x.place) c.regions) r ≡ Some (Home lane) → IsHere c r lane
home_here c r lane e = go (slice_get c.regions r) refl (sym (slice_get-map (λ (x : RegionSeen). x.place) c.regions r) ∙ e)
  where
    go : (o : Option RegionSeen) → slice_get c.regions r ≡ o → option_map (λ (x : RegionSeen). x.place) o ≡ Some (Home lane) → IsHere c r lane
    go None is f = absurd cc
    go (Some g) is f = record { region = g; is = is; home = cc }

pub handed_back : {S : Type 0} (seen : S → LaneSeen) (c : Core) (items : List S) (r : ℕ) (s : S) → map (λ x. Home (seen x)) items ≡ map (λ (x : RegionSeen). x.place) c.regions → slice_get items r ≡ Some s → IsHere c r (seen s)
handed_back {S} seen c items r s all is =
    home_here c r (seen s) (ap (λ ps. slice_get ps r) (sym all) ∙ (slice_get-map (λ (x : S). Home (seen x)) items r ∙ ap (option_map (λ (x : S). Home (seen x))) is))
