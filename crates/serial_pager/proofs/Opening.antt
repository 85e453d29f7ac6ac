-- Stripes that are made one after another, and taken apart, the last first.
use Rattle.std.proofs.Common.{List, Some, [], ap, arith, false, length, map, refl, slice_get, subst, suc, sym, true, zero, ℕ, ◌∙◌, ◌∷◌, ◌≡◌, ◌<◌, ◌≤◌, ◌++◌, Option, None, append_assoc, append-nil, ◌+◌, length-append}
use Rattle.page_base.specs.declared.keys.RegionShape.{RegionShape}
use Rattle.page_base.specs.Lanes.{LaneSeen}
use Rattle.page_model.specs.Core.{Core, LanePlace, RegionSeen, closes, is_closing, is_home_place, place_passes, Home}
use Rattle.page_model.specs.Steps.{fresh_regions, fresh}
use Rattle.stripe_core.specs.declared.config.StripeConfig.{StripeConfig}
use Rattle.stripe_core.specs.Configs.{setup_of, CanMake}
use Rattle.serial_pager.specs.Rests.{IsAtRest, IsBounded, IsFresh}
use Rattle.std.specs.Prelude.{reverse}
use Rattle.std.specs.Option.{option_map}
use Rattle.std.proofs.lemmas.List.{length-map, map-append, reverse-append, reverse-reverse, length-reverse}
use Rattle.std.proofs.lemmas.Option.{slice_get-map, slice_get_within}
use Rattle.histories.specs.Histories.{History}
use Rattle.page_base.specs.ListSeen.{ListSeen}
use Rattle.page_model.specs.declared.entry.Entry.{Entry}
use Rattle.page_model.specs.Readers.{IsHere}
use Rattle.page_model.specs.Setups.{origin_of, Setup}
use Rattle.page_model.specs.Stands.{StandsFor, HomeLane}
use Rattle.serial_pager.specs.Seen.{StripeSeen}
use Rattle.serial_pager.specs.Pagers.{AreLanesOfCore, rows_by, PagerSeen, AreRowsOf, config_of, CanOpen, IsOpened, core_in, closes_in, closes_at}
use Rattle.serial_pager.specs.InsideSound.{HandsBack, IsStripe, IsSound}
use Rattle.serial_pager.proofs.Lists.{at_seam, some_is, past}
use Rattle.serial_pager.specs.declared.pager.PagerConfig.{PagerConfig}
use Rattle.serial_pager.specs.Sound.{seen_of}

fresh_home : (shapes : List RegionShape) (lanes : List LaneSeen) (r : ℕ) → length lanes ≡ length shapes → r < length shapes → place_passes is_home_place (slice_get (fresh_regions shapes lanes) r) ≡ true
fresh_home [] lanes r e lt = absurd (omega arith)
fresh_home (shape ∷ shapes) [] r e lt = absurd (omega arith)
fresh_home (shape ∷ shapes) (lane ∷ lanes) zero e lt = refl
fresh_home (shape ∷ shapes) (lane ∷ lanes) (suc r) e lt = fresh_home shapes lanes r (omega arith) (omega arith)

fresh_open : (shapes : List RegionShape) (lanes : List LaneSeen) (r : ℕ) → closes (slice_get (fresh_regions shapes lanes) r) ≡ false
fresh_open [] lanes r = refl
fresh_open (shape ∷ shapes) [] r = refl
fresh_open (shape ∷ shapes) (lane ∷ lanes) zero = refl
fresh_open (shape ∷ shapes) (lane ∷ lanes) (suc r) = fresh_open shapes lanes r

made_bounded : (config : StripeConfig) (lanes : List LaneSeen) → CanMake config lanes → IsBounded (setup_of config lanes)
made_bounded config lanes can = record {
  small_pages = config.layout.small_pages;
  few_faults = can.few_faults;
  few_frames = config.layout.few_frames;
  few_regions = can.few_regions;
  few_pages = can.few_pages;
  groups = can.groups;
}

pub fresh_rests : (c : Core) → IsFresh c → IsAtRest c
fresh_rests c f = record {
  history = [];
  stands = f.stands;
  home = λ r lt. subst (λ (x : Core). r < length x.setup.shapes → place_passes is_home_place (slice_get x.regions r) ≡ true) (sym f.is) (λ low. fresh_home f.config.shapes.items f.lanes r f.can.lane_count low) lt;
  bounded = subst (λ (x : Core). IsBounded x.setup) (sym f.is) (made_bounded f.config f.lanes f.can);
}

pub fresh_closes : (c : Core) → IsFresh c → (r : ℕ) → is_closing c r ≡ false
fresh_closes c f r = ap (λ (x : Core). closes (slice_get x.regions r)) f.is ∙ fresh_open f.config.shapes.items f.lanes r

-- ---- the lanes at the end

pub place_there : (gs : List RegionSeen) (r : ℕ) (p : LanePlace) → slice_get (map (λ (g : RegionSeen). g.place) gs) r ≡ Some p → (g : RegionSeen) × ((slice_get gs r ≡ Some g) × (g.place ≡ p))
place_there [] r p e = absurd cc
place_there (g ∷ gs) zero p e = (g, (refl, cc))
place_there (g ∷ gs) (suc r) p e = place_there gs r p e

pub got_map : {A B : Type 0} (f : A → B) (xs : List A) (r : ℕ) (x : A) → slice_get xs r ≡ Some x → slice_get (map f xs) r ≡ Some (f x)
got_map f [] r x e = absurd cc
got_map f (y ∷ ys) zero x e = let yx : y ≡ x = cc in ap (λ z. Some (f z)) yx
got_map f (y ∷ ys) (suc r) x e = got_map f ys r x e

-- ---- stripes that are taken apart, the last first

pub reverse_cons : {A : Type 0} (x : A) (xs : List A) → reverse (x ∷ xs) ≡ reverse xs ++ x ∷ []
reverse_cons x xs = reverse-append (x ∷ []) xs

pub map_reverse : {A B : Type 0} (f : A → B) (xs : List A) → map f (reverse xs) ≡ reverse (map f xs)
map_reverse f [] = refl
map_reverse f (x ∷ xs) = ap (map f) (reverse_cons x xs) ∙ map-append f (reverse xs) (x ∷ []) ∙ ap (λ ys. ys ++ f x ∷ []) (map_reverse f xs) ∙ sym (reverse_cons (f x) (map f xs))

pub reverse_snoc : {A : Type 0} (xs : List A) (x : A) → reverse (xs ++ x ∷ []) ≡ x ∷ reverse xs
reverse_snoc xs x = reverse-append xs (x ∷ [])

-- the lanes that one stripe hands back are those that it has at home
pub home_lanes : {S : Type 0} (seen : S → LaneSeen) (c : Core) (items : List S) → IsAtRest c → length items ≡ length c.setup.shapes
    → ((r : ℕ) (lane : S) → slice_get items r ≡ Some lane → IsHere c r (seen lane))
    → ((h : History Entry) → StandsFor h c → (r : ℕ) (lane : S) → slice_get items r ≡ Some lane → HomeLane c.setup h r (seen lane))
    → AreLanesOfCore c (map seen items)
home_lanes {S} seen c items rest count here stands = record {
  count = length-map items seen ∙ count;
  here = λ r lane e. go r lane (slice_get items r) refl (sym (slice_get-map seen items r) ∙ e);
  origin = λ r lane e. from r lane (slice_get items r) refl (sym (slice_get-map seen items r) ∙ e);
}
  where
    go : (r : ℕ) (lane : LaneSeen) (o : Option S) → slice_get items r ≡ o → option_map seen o ≡ Some lane → IsHere c r lane
    go r lane None at e = absurd (cc)
    go r lane (Some x) at e = subst (λ (l : LaneSeen). IsHere c r l) (some_is e) (here r x at)

    from : (r : ℕ) (lane : LaneSeen) (o : Option S) → slice_get items r ≡ o → option_map seen o ≡ Some lane → origin_of c.setup r ≡ Some lane.origin
    from r lane None at e = absurd (cc)
    from r lane (Some x) at e = subst (λ (l : LaneSeen). origin_of c.setup r ≡ Some l.origin) (some_is e) (stands rest.history rest.stands r x at).origin

-- ---- as far as the stripes are taken apart

pub record TakenApart {J S : Type 0} (seen : S → LaneSeen) (all left : List (StripeSeen J)) (first lanes : List (ListSeen S)) (given journals : List J) : Type 0 where
  pub back : List (StripeSeen J)
  pub own : List (List LaneSeen)
  pub stripes : all ≡ left ++ back
  pub rows : rows_by seen lanes ≡ rows_by seen first ++ reverse own
  pub noted : journals ≡ given ++ reverse (map (λ (x : StripeSeen J). x.journal) back)
  pub count : length own ≡ length back
  pub each : (s : ℕ) (row : List LaneSeen) (x : StripeSeen J) → slice_get own s ≡ Some row → slice_get back s ≡ Some x → AreLanesOfCore x.core row

pub apart_none : {J S : Type 0} (seen : S → LaneSeen) (all : List (StripeSeen J)) (first : List (ListSeen S)) (given : List J) → TakenApart seen all all first first given given
apart_none seen all first given = record {
  back = [];
  own = [];
  stripes = sym (append-nil all);
  rows = sym (append-nil (rows_by seen first));
  noted = sym (append-nil given);
  count = refl;
  each = λ s row x e f. absurd (cc);
}

pub apart_more : {J S : Type 0} (seen : S → LaneSeen) (all old new : List (StripeSeen J)) (first lanes : List (ListSeen S)) (given journals : List J) (x : StripeSeen J) (own : ListSeen S)
    → TakenApart seen all old first lanes given journals → old ≡ new ++ x ∷ [] → AreLanesOfCore x.core (map seen own.items)
    → TakenApart seen all new first (lanes ++ own ∷ []) given (journals ++ x.journal ∷ [])
apart_more {J} {S} seen all old new first lanes given journals x own t split are = record {
  back = x ∷ t.back;
  own = map seen own.items ∷ t.own;
  stripes = t.stripes ∙ ap (λ xs. xs ++ t.back) split ∙ append_assoc new (x ∷ []) t.back;
  rows = map-append (λ (row : ListSeen S). map seen row.items) lanes (own ∷ []) ∙ ap (λ rs. rs ++ map seen own.items ∷ []) t.rows
      ∙ append_assoc (rows_by seen first) (reverse t.own) (map seen own.items ∷ []) ∙ ap (λ rs. rows_by seen first ++ rs) (sym (reverse_cons (map seen own.items) t.own));
  noted = ap (λ js. js ++ x.journal ∷ []) t.noted
      ∙ append_assoc given (reverse (map (λ (z : StripeSeen J). z.journal) t.back)) (x.journal ∷ []) ∙ ap (λ js. given ++ js) (sym (reverse_cons x.journal (map (λ (z : StripeSeen J). z.journal) t.back)));
  count = ap suc t.count;
  each = each;
}
  where
    each : (s : ℕ) (row : List LaneSeen) (z : StripeSeen J) → slice_get (map seen own.items ∷ t.own) s ≡ Some row → slice_get (x ∷ t.back) s ≡ Some z → AreLanesOfCore z.core row
    each zero row z e f = subst (λ (w : StripeSeen J). AreLanesOfCore w.core row) (some_is f) (subst (λ (l : List LaneSeen). AreLanesOfCore x.core l) (some_is e) are)
    each (suc s) row z e f = t.each s row z e f

pub apart_all : {J S : Type 0} (seen : S → LaneSeen) (all left : List (StripeSeen J)) (first lanes : List (ListSeen S)) (given journals : List J) → TakenApart seen all left first lanes given journals → left ≡ []
    → HandsBack all (rows_by seen first) (rows_by seen (reverse lanes))
apart_all {J} {S} seen all left first lanes given journals t none =
    let same : all ≡ t.back = t.stripes ∙ ap (λ xs. xs ++ t.back) none in
    record {
      own = t.own;
      is = map_reverse (λ (row : ListSeen S). map seen row.items) lanes ∙ ap reverse t.rows ∙ reverse-append (rows_by seen first) (reverse t.own) ∙ ap (λ rs. rs ++ reverse (rows_by seen first)) (reverse-reverse t.own);
      count = t.count ∙ ap length (sym same);
      each = λ s row x e f. t.each s row x e (ap (λ xs. slice_get xs s) (sym same) ∙ f);
    }

pub apart_noted : {J S : Type 0} (seen : S → LaneSeen) (all left : List (StripeSeen J)) (first lanes : List (ListSeen S)) (given journals : List J) → TakenApart seen all left first lanes given journals → left ≡ []
    → reverse journals ≡ map (λ (x : StripeSeen J). x.journal) all ++ reverse given
apart_noted {J} {S} seen all left first lanes given journals t none =
    let same : all ≡ t.back = t.stripes ∙ ap (λ xs. xs ++ t.back) none in
    ap reverse t.noted ∙ reverse-append given (reverse (map (λ (x : StripeSeen J). x.journal) t.back))
    ∙ ap (λ js. js ++ reverse given) (reverse-reverse (map (λ (x : StripeSeen J). x.journal) t.back) ∙ ap (map (λ (x : StripeSeen J). x.journal)) (sym same))

pub rest_last : {J : Type 0} (all old new back : List (StripeSeen J)) (x : StripeSeen J) → ((s : ℕ) (z : StripeSeen J) → slice_get all s ≡ Some z → IsAtRest z.core) → all ≡ old ++ back → old ≡ new ++ x ∷ [] → IsAtRest x.core
rest_last {J} all old new back x rest e f = rest (length new) x (ap (λ xs. slice_get xs (length new)) (e ∙ ap (λ xs. xs ++ back) f ∙ append_assoc new (x ∷ []) back) ∙ at_seam new back x)

pub none_left : {A : Type 0} (xs : List A) → length xs ≡ 0 → xs ≡ []
none_left [] e = refl
none_left (x ∷ xs) e = absurd (omega (arith, e))

pub no_item : {A : Type 0} {x : A} (s : ℕ) → slice_get [] s ≡ Some x → ⊥
no_item s e = cc

-- ---- stripes that are made one after another

pub same_items : {A : Type 0} (xs ys : List A) → length xs ≡ length ys → ((i : ℕ) (x : A) → slice_get xs i ≡ Some x → slice_get ys i ≡ Some x) → xs ≡ ys
same_items [] [] e same = refl
same_items [] (y ∷ ys) e same = absurd (omega (arith, e))
same_items (x ∷ xs) [] e same = absurd (omega (arith, e))
same_items (x ∷ xs) (y ∷ ys) e same = ap (λ z. z ∷ xs) (sym (some_is (same 0 x refl))) ∙ ap (λ zs. y ∷ zs) (same_items xs ys (omega (arith, e)) (λ i z h. same (suc i) z h))

-- an item of a list with one more is an item of it, or that one
pub snoc_item : {A : Type 0} (P : ℕ → A → Type 0) (xs : List A) (x : A) → ((i : ℕ) (y : A) → slice_get xs i ≡ Some y → P i y) → P (length xs) x → (i : ℕ) (y : A) → slice_get (xs ++ x ∷ []) i ≡ Some y → P i y
snoc_item {A} P [] x each last zero y e = subst (P 0) (some_is e) last
snoc_item {A} P [] x each last (suc i) y e = absurd (cc)
snoc_item {A} P (z ∷ xs) x each last zero y e = each zero y e
snoc_item {A} P (z ∷ xs) x each last (suc i) y e = snoc_item (λ j w. P (suc j) w) xs x (λ j w h. each (suc j) w h) last i y e

home_is : {a b : LaneSeen} → Home a ≡ Home b → a ≡ b
home_is {a} {b} e = ap (from a) e
  where
    from : LaneSeen → LanePlace → LaneSeen
    from d (Home l) = l
    from d place = d

fresh_lane : (shapes : List RegionShape) (lanes : List LaneSeen) (r : ℕ) (g : RegionSeen) (l : LaneSeen) → slice_get (fresh_regions shapes lanes) r ≡ Some g → g.place ≡ Home l → slice_get lanes r ≡ Some l
fresh_lane [] lanes r g l e f = absurd (cc)
fresh_lane (s ∷ ss) [] r g l e f = absurd (cc)
fresh_lane (s ∷ ss) (k ∷ ks) zero g l e f = ap (λ x. Some x) (home_is (ap (λ (x : RegionSeen). x.place) (some_is e) ∙ f))
fresh_lane (s ∷ ss) (k ∷ ks) (suc r) g l e f = fresh_lane ss ks r g l e f

-- the lanes that a stripe which has just been made has at home
fresh_row : (u : Setup) (row : List LaneSeen) → length u.lanes ≡ length u.shapes → AreLanesOfCore (fresh u) row → row ≡ u.lanes
fresh_row u row count are = same_items row u.lanes (are.count ∙ sym count) (λ r lane e. let h = are.here r lane e in fresh_lane u.shapes u.lanes r h.region lane h.is h.home)

abbrev pub lanes_of : {J : Type 0} → StripeSeen J → List LaneSeen
lanes_of x = x.core.setup.lanes

pub record IsNew {J : Type 0} (c : PagerConfig) (s : ℕ) (x : StripeSeen J) : Type 0 where
  pub core : x.core ≡ fresh (setup_of (config_of c s) (lanes_of x))
  pub can : CanMake (config_of c s) (lanes_of x)
  pub stands : StandsFor [] x.core
  pub rest : IsAtRest x.core
  pub open_ : (r : ℕ) → is_closing x.core r ≡ false

pub record Making {J S : Type 0} (seen : S → LaneSeen) (c : PagerConfig) (cfg : StripeConfig) (rows : List (List LaneSeen)) (given : List J) (stripes : List (StripeSeen J)) (home : List (ListSeen S)) (noted : List J) : Type 0 where
  pub config : cfg ≡ config_of c (length stripes)
  pub rows_are : rows ≡ map lanes_of stripes ++ reverse (rows_by seen home)
  pub noted_are : given ≡ map (λ (x : StripeSeen J). x.journal) stripes ++ reverse noted
  pub made : (s : ℕ) (x : StripeSeen J) → slice_get stripes s ≡ Some x → IsNew c s x

module _ {J S : Type 0} (seen : S → LaneSeen) (c : PagerConfig) (cfg : StripeConfig) (rows : List (List LaneSeen)) (given : List J) (can : CanOpen c rows (length given)) where
  pub lengths : (stripes : List (StripeSeen J)) (home : List (ListSeen S)) (noted : List J) → Making seen c cfg rows given stripes home noted → (length stripes + length home ≡ c.layout.stripes) × (length stripes + length noted ≡ c.layout.stripes)
  lengths stripes home noted m = (
    omega (arith, can.stripes, ap length m.rows_are, length-append (map lanes_of stripes) (reverse (rows_by seen home)), length-map stripes (lanes_of {J = J}), length-reverse (rows_by seen home), length-map home (λ (row : ListSeen S). map seen row.items)),
    omega (arith, can.journals, ap length m.noted_are, length-append (map (λ (x : StripeSeen J). x.journal) stripes) (reverse noted), length-map stripes (λ (x : StripeSeen J). x.journal), length-reverse noted),
  )

  module _ (stripes : List (StripeSeen J)) (before home : List (ListSeen S)) (noted left : List J) (own : ListSeen S) (journal : J) (m : Making seen c cfg rows given stripes before noted) (pop : before ≡ home ++ own ∷ []) where
    rows_next : rows ≡ map lanes_of stripes ++ (map seen own.items ∷ reverse (rows_by seen home))
    rows_next = m.rows_are ∙ ap (λ rs. map lanes_of stripes ++ rs) (ap (λ (h : List (ListSeen S)). reverse (rows_by seen h)) pop ∙ ap reverse (map-append (λ (row : ListSeen S). map seen row.items) home (own ∷ [])) ∙ reverse_snoc (rows_by seen home) (map seen own.items))

    pub can_next : CanMake cfg (map seen own.items)
    can_next = subst (λ (k : StripeConfig). CanMake k (map seen own.items)) (sym m.config)
        (can.each (length stripes) (map seen own.items) (ap (λ rs. slice_get rs (length stripes)) rows_next ∙ ap (slice_get (map lanes_of stripes ++ (map seen own.items ∷ reverse (rows_by seen home)))) (sym (length-map stripes (lanes_of {J = J}))) ∙ at_seam (map lanes_of stripes) (reverse (rows_by seen home)) (map seen own.items)))

    module _ (pop_noted : noted ≡ left ++ journal ∷ []) (x : StripeSeen J) (core : x.core ≡ fresh (setup_of cfg (map seen own.items))) (its : x.journal ≡ journal) (stood : StandsFor [] x.core) (rest : IsAtRest x.core) (open_ : (r : ℕ) → is_closing x.core r ≡ false) where
      own_lanes : lanes_of x ≡ map seen own.items
      own_lanes = ap (λ (d : Core). d.setup.lanes) core

      new : IsNew c (length stripes) x
      new = record {
        core = core ∙ ap (λ (k : StripeConfig). fresh (setup_of k (map seen own.items))) m.config ∙ ap (λ l. fresh (setup_of (config_of c (length stripes)) l)) (sym own_lanes);
        can = subst (λ (l : List LaneSeen). CanMake (config_of c (length stripes)) l) (sym own_lanes) (subst (λ (k : StripeConfig). CanMake k (map seen own.items)) m.config can_next);
        stands = stood;
        rest = rest;
        open_ = open_;
      }

      pub making_more : (next : StripeConfig) → next ≡ record cfg { number = cfg.number + 1 } → Making seen c next rows given (stripes ++ x ∷ []) home left
      making_more next is = record {
        config = is ∙ ap (λ (k : StripeConfig). record k { number = k.number + 1 }) m.config ∙ ap (config_of c) (sym (length-append stripes (x ∷ [])));
        rows_are = rows_next ∙ sym (append_assoc (map lanes_of stripes) (map seen own.items ∷ []) (reverse (rows_by seen home))) ∙ ap (λ rs. rs ++ reverse (rows_by seen home)) (ap (λ l. map lanes_of stripes ++ l ∷ []) (sym own_lanes) ∙ sym (map-append lanes_of stripes (x ∷ [])));
        noted_are = m.noted_are ∙ ap (λ js. map (λ (z : StripeSeen J). z.journal) stripes ++ js) (ap reverse pop_noted ∙ reverse_snoc left journal)
            ∙ sym (append_assoc (map (λ (z : StripeSeen J). z.journal) stripes) (journal ∷ []) (reverse left)) ∙ ap (λ js. js ++ reverse left) (ap (λ j. map (λ (z : StripeSeen J). z.journal) stripes ++ j ∷ []) (sym its) ∙ sym (map-append (λ (z : StripeSeen J). z.journal) stripes (x ∷ [])));
        made = snoc_item (IsNew c) stripes x m.made new;
      }

  -- where a stripe can't be made, all rows come back
  pub rows_back : (stripes : List (StripeSeen J)) (home : List (ListSeen S)) (noted : List J) (back : List (List LaneSeen)) → Making seen c cfg rows given stripes home noted → HandsBack stripes (rows_by seen home) back → back ≡ rows
  rows_back stripes home noted back m h = h.is ∙ ap (λ rs. rs ++ reverse (rows_by seen home)) (same_items h.own (map lanes_of stripes) (h.count ∙ sym (length-map stripes (lanes_of {J = J}))) each) ∙ sym m.rows_are
    where
      each : (i : ℕ) (row : List LaneSeen) → slice_get h.own i ≡ Some row → slice_get (map lanes_of stripes) i ≡ Some row
      each i row e = go (slice_get stripes i) refl
        where
          go : (o : Option (StripeSeen J)) → slice_get stripes i ≡ o → slice_get (map lanes_of stripes) i ≡ Some row
          go None at = absurd (omega (arith, slice_get_within h.own i row e, h.count, past stripes i at))
          go (Some x) at =
              let n = m.made i x at in
              let are : AreLanesOfCore (fresh (setup_of (config_of c i) (lanes_of x))) row = subst (λ (d : Core). AreLanesOfCore d row) n.core (h.each i row x e at) in
              slice_get-map lanes_of stripes i ∙ ap (option_map lanes_of) at ∙ ap (λ l. Some l) (sym (fresh_row (setup_of (config_of c i) (lanes_of x)) row n.can.lane_count are))

  -- all are made
  module _ (stripes : List (StripeSeen J)) (home : List (ListSeen S)) (noted : List J) (m : Making seen c cfg rows given stripes home noted) (none : home ≡ []) (p : PagerSeen J) (is : p ≡ seen_of cfg stripes 0) where
    rows_all : rows ≡ map lanes_of stripes
    rows_all = m.rows_are ∙ ap (λ (h : List (ListSeen S)). map lanes_of stripes ++ reverse (rows_by seen h)) none ∙ append-nil (map lanes_of stripes)

    as_many : length stripes ≡ c.layout.stripes
    as_many = sym (length-map stripes (lanes_of {J = J})) ∙ ap length (sym rows_all) ∙ can.stripes

    row_of : (s : ℕ) (row : List LaneSeen) (x : StripeSeen J) → slice_get rows s ≡ Some row → slice_get stripes s ≡ Some x → lanes_of x ≡ row
    row_of s row x e f = some_is (sym (slice_get-map lanes_of stripes s ∙ ap (option_map lanes_of) f) ∙ ap (λ rs. slice_get rs s) (sym rows_all) ∙ e)

    journal_of : (s : ℕ) (j : J) (x : StripeSeen J) → slice_get given s ≡ Some j → slice_get stripes s ≡ Some x → x.journal ≡ j
    journal_of s j x e f =
        some_is (sym (ap (λ js. slice_get js s) (m.noted_are ∙ front) ∙ slice_get-map (λ (z : StripeSeen J). z.journal) stripes s ∙ ap (option_map (λ (z : StripeSeen J). z.journal)) f) ∙ e)
      where
        empty : noted ≡ []
        empty = none_left noted (omega (arith, as_many, (lengths stripes home noted m).1))

        front : map (λ (z : StripeSeen J). z.journal) stripes ++ reverse noted ≡ map (λ (z : StripeSeen J). z.journal) stripes
        front = ap (λ (js : List J). map (λ (z : StripeSeen J). z.journal) stripes ++ reverse js) empty ∙ append-nil (map (λ (z : StripeSeen J). z.journal) stripes)

    is_stripe : (s : ℕ) (x : StripeSeen J) → slice_get stripes s ≡ Some x → IsStripe (seen_of cfg stripes 0) s x.core
    is_stripe s x e =
        let n = m.made s x e in
        let at : x.core.setup ≡ setup_of (config_of c s) (lanes_of x) = ap (λ (d : Core). d.setup) n.core in
        record {
          rest = n.rest;
          page_size = ap (λ (u : Setup). u.page_size) at ∙ sym (ap (λ (k : StripeConfig). k.layout.page_size) m.config);
          stripes = ap (λ (u : Setup). u.stripes) at ∙ sym as_many;
          number = ap (λ (u : Setup). u.number) at;
          shapes = ap (λ (u : Setup). u.shapes) at ∙ sym (ap (λ (k : StripeConfig). k.shapes.items) m.config);
          few = omega (arith, ap (λ (d : Core). d.events) n.core);
        }

    pub sound_open : 1 ≤ c.layout.stripes → IsSound (seen_of cfg stripes 0)
    sound_open some = record {
      groups = λ r shape e. go (slice_get stripes 0) refl r shape (sym (ap (λ (k : StripeConfig). slice_get k.shapes.items r) m.config) ∙ e);
      few = omega arith;
      each = is_stripe;
    }
      where
        go : (o : Option (StripeSeen J)) → slice_get stripes 0 ≡ o → (r : ℕ) (shape : RegionShape) → slice_get c.shapes.items r ≡ Some shape → 1 ≤ shape.group
        go None at r shape e = absurd (omega (arith, past stripes 0 at, as_many, some))
        go (Some x) at r shape e = (m.made 0 x at).can.groups r shape e

    in_p : (s : ℕ) → slice_get p.stripes s ≡ slice_get stripes s
    in_p s = ap (λ (q : PagerSeen J). slice_get q.stripes s) is

    pub opened : IsOpened c rows given p
    opened = record {
      page_size = ap (λ (q : PagerSeen J). q.page_size) is ∙ ap (λ (k : StripeConfig). k.layout.page_size) m.config;
      shapes = ap (λ (q : PagerSeen J). q.shapes) is ∙ ap (λ (k : StripeConfig). k.shapes.items) m.config;
      stripes = ap (λ (q : PagerSeen J). length q.stripes) is ∙ as_many;
      spent = ap (λ (q : PagerSeen J). q.spent) is;
      each = λ s row j x e f at. let here = sym (in_p s) ∙ at in let n = m.made s x here in record { core = n.core ∙ ap (λ l. fresh (setup_of (config_of c s) l)) (row_of s row x e here); stands = n.stands; journal = journal_of s j x f here };
      open_ = λ s r. open_go s r (slice_get stripes s) refl;
    }
      where
        open_go : (s r : ℕ) (o : Option (StripeSeen J)) → slice_get stripes s ≡ o → closes_at p s r ≡ false
        open_go s r None at = ap (λ o. closes_in (core_in o) r) (in_p s ∙ at)
        open_go s r (Some x) at = ap (λ o. closes_in (core_in o) r) (in_p s ∙ at) ∙ (m.made s x at).open_ r

-- ---- taken apart

pub rows_of_stripes : {J : Type 0} (p : PagerSeen J) (rows : List (List LaneSeen)) → HandsBack p.stripes [] rows → AreRowsOf p rows
rows_of_stripes {J} p rows h =
    let same : rows ≡ h.own = h.is ∙ append-nil h.own in
    record {
      count = ap length same ∙ h.count;
      each = λ s row c e f. go s row c (ap (λ rs. slice_get rs s) (sym same) ∙ e) (slice_get p.stripes s) refl f;
    }
  where
    go : (s : ℕ) (row : List LaneSeen) (c : Core) → slice_get h.own s ≡ Some row → (o : Option (StripeSeen J)) → slice_get p.stripes s ≡ o → core_in o ≡ Some c → AreLanesOfCore c row
    go s row c e None at f = absurd (cc)
    go s row c e (Some x) at f = subst (λ (d : Core). AreLanesOfCore d row) (some_is f) (h.each s row x e at)
