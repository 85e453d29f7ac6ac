-- Stripes that are made and locked one after another.
use Rattle.std.proofs.Common.{◌≡◌, ℕ, zero, suc, ◌+◌, ◌*◌, ◌≤◌, ◌<◌, ◌⊎◌, inl, inr, List, [], ◌∷◌, ◌++◌, length, map, reverse, sum_by, Option, Some, is_some, append_assoc, append-nil, length-append, arith, refl, sym, subst, ap, ◌∙◌}
use Rattle.std.specs.List.{slice_get}
use Rattle.std.specs.Option.{option_map}
use Rattle.std.proofs.lemmas.List.{length-map, length-reverse, reverse-append, reverse-reverse}
use Rattle.std.proofs.lemmas.Option.{slice_get-map, slice_get_within}
use Rattle.histories.specs.Histories.{History}
use Rattle.page_base.specs.Lanes.{LaneSeen}
use Rattle.page_base.specs.ListSeen.{ListSeen}
use Rattle.page_base.specs.declared.keys.RegionShape.{RegionShape}
use Rattle.page_base.specs.declared.layout.Layout.{Layout}
use Rattle.page_base.specs.declared.limits.TheConstants.{MOST_PAGES, MOST_REGIONS}
use Rattle.page_model.specs.declared.entry.Entry.{Entry}
use Rattle.page_model.specs.Setups.{Setup, IsLaneOf, told_in, count_by}
use Rattle.region_table.specs.Regions.{TableSeen, shape_of, shapes_of, page_count}
use Rattle.stripe_core.specs.declared.config.StripeConfig.{StripeConfig}
use Rattle.stripe_core.specs.Configs.{setup_of, CanMake}
use Rattle.turn_lock.specs.declared.closed.Closed.{Closed}
use Rattle.turn_lock.specs.Seen.{LockSeen, PassSeen, first_pass}
use Rattle.locked_stripe.specs.declared.stripe_box.StripeBox.{StripeBox}
use Rattle.locked_stripe.specs.Terms.{locked_setup}
use Rattle.umap_pager.specs.declared.config.PagerConfig.{PagerConfig}
use Rattle.umap_pager.specs.Ended.{AreAtHome, StripeEnded, rows_seen}
use Rattle.umap_pager.specs.InsideEnded.{EndedStripe, EndsBefore, MayCloseEach}
use Rattle.umap_pager.specs.InsideOpened.{HaveGroups, HaveWholePages}
use Rattle.umap_pager.specs.InsideParts.{GoesTogether}
use Rattle.umap_pager.specs.Opened.{shared_setup, CanShare, HaveNotedNothing, IsNewLock, OpensShared, GivesBack}
use Rattle.umap_pager.proofs.Ending.{at_seam}
use Rattle.umap_pager.proofs.Locks.{has_item}
use Rattle.umap_pager.proofs.Trips.{first_closes}

some_is : {A : Type 0} {x y : A} → Some x ≡ Some y → x ≡ y
some_is e = cc

reverse_snoc : {A : Type 0} (xs : List A) (x : A) → reverse (xs ++ x ∷ []) ≡ x ∷ reverse xs
reverse_snoc xs x = reverse-append xs (x ∷ [])

map_append : {A B : Type 0} (f : A → B) (xs ys : List A) → map f (xs ++ ys) ≡ map f xs ++ map f ys
map_append f [] ys = refl
map_append f (x ∷ xs) ys = ap (λ zs. f x ∷ zs) (map_append f xs ys)

map_reverse : {A B : Type 0} (f : A → B) (xs : List A) → map f (reverse xs) ≡ reverse (map f xs)
map_reverse f [] = refl
map_reverse f (x ∷ xs) = ap (map f) (reverse-append (x ∷ []) xs) ∙ (map_append f (reverse xs) (x ∷ []) ∙ (ap (λ zs. zs ++ f x ∷ []) (map_reverse f xs) ∙ sym (reverse-append (f x ∷ []) (map f xs))))

no_item : {A : Type 0} {x : A} (s : ℕ) → slice_get [] s ≡ Some x → ⊥
no_item s e = cc

-- an item of a list with one more is an item of it, or that one
snoc_at : {A : Type 0} (xs : List A) (x y : A) (s : ℕ) → slice_get (xs ++ x ∷ []) s ≡ Some y → (slice_get xs s ≡ Some y) ⊎ ((s ≡ length xs) × (x ≡ y))
snoc_at [] x y zero e = inr (refl, some_is e)
snoc_at [] x y (suc s) e = absurd (no_item s e)
snoc_at (z ∷ xs) x y zero e = inl e
snoc_at (z ∷ xs) x y (suc s) e = elim (snoc_at xs x y s e) [
  | inl before ↦ inl before
  | inr last ↦ inr (ap suc last.0, last.1)
]

-- an item of two lists that end in the same is one of their fronts, or of that
both_at : {A : Type 0} (xs ys rest : List A) (a b : A) (s : ℕ) → length xs ≡ length ys → slice_get (xs ++ rest) s ≡ Some a → slice_get (ys ++ rest) s ≡ Some b → ((slice_get xs s ≡ Some a) × (slice_get ys s ≡ Some b)) ⊎ (a ≡ b)
both_at [] [] rest a b s same e f = inr (some_is (sym e ∙ f))
both_at [] (y ∷ ys) rest a b s same e f = absurd (omega (arith, same))
both_at (x ∷ xs) [] rest a b s same e f = absurd (omega (arith, same))
both_at (x ∷ xs) (y ∷ ys) rest a b zero same e f = inl (e, f)
both_at (x ∷ xs) (y ∷ ys) rest a b (suc s) same e f = both_at xs ys rest a b s (omega (arith, same)) e f

abbrev setup_made : List LaneSeen → Layout → ℕ → ℕ → ℕ → ℕ → List RegionShape → Setup
setup_made row l number faults high low shapes = record { page_size = l.page_size; stripes = l.stripes; frames = l.frames; number = number; faults = faults; high = high; low = low; shapes = shapes; lanes = row }

same_setup : (cfg : StripeConfig) (c : PagerConfig) (t : TableSeen) (s : ℕ) (row : List LaneSeen) → cfg.layout ≡ c.layout → cfg.number ≡ s → cfg.faults ≡ c.faults → cfg.high ≡ c.high → cfg.low ≡ c.low → cfg.shapes.items ≡ shapes_of t → setup_of cfg row ≡ shared_setup c t s row
same_setup cfg c t s row layout number faults high low shapes =
    ap (λ (l : Layout). setup_made row l cfg.number cfg.faults cfg.high cfg.low cfg.shapes.items) layout
    ∙ ap (λ (n : ℕ). setup_made row c.layout n cfg.faults cfg.high cfg.low cfg.shapes.items) number
    ∙ ap (λ (n : ℕ). setup_made row c.layout s n cfg.high cfg.low cfg.shapes.items) faults
    ∙ ap (λ (n : ℕ). setup_made row c.layout s c.faults n cfg.low cfg.shapes.items) high
    ∙ ap (λ (n : ℕ). setup_made row c.layout s c.faults c.high n cfg.shapes.items) low
    ∙ ap (λ (ss : List RegionShape). setup_made row c.layout s c.faults c.high c.low ss) shapes

-- lanes that were handed in are at home where nothing happened
home_fresh : (c : PagerConfig) (t : TableSeen) (s : ℕ) (row : List LaneSeen) → length row ≡ length t.regions → AreAtHome (shared_setup c t s row) [] row
home_fresh c t s row many = record {
  count = many ∙ sym (length-map t.regions (shape_of t.page_size));
  each = λ r lane e. record {
    origin = ap (option_map (λ (l : LaneSeen). l.origin)) e;
    told = λ p page told. ap (λ (o : Option LaneSeen). is_some (told_in o p)) (sym e) ∙ told;
    kept = λ p bytes page told is. ap (λ (o : Option LaneSeen). told_in o p) (sym e) ∙ is;
    count = let same = ap count_by e in omega (arith, same);
  };
}

module _ {S J : Type 0} (seen : S → LaneSeen) (c : PagerConfig) (t : TableSeen) (rows : List (List LaneSeen)) (given : List J) where
  -- so many stripes are locked, the others are still to come
  pub record Opening (cfg : StripeConfig) (locks : List (LockSeen (StripeBox S J))) (passes : List (PassSeen (StripeBox S J) Entry)) (home : List (ListSeen S)) (noted : List J) : Type 0 where
    pub layout : cfg.layout ≡ c.layout
    pub number : cfg.number ≡ length locks
    pub faults : cfg.faults ≡ c.faults
    pub high : cfg.high ≡ c.high
    pub low : cfg.low ≡ c.low
    pub shapes : cfg.shapes.items ≡ shapes_of t
    pub own : List (List LaneSeen)
    pub journals : List J
    pub own_are : rows ≡ own ++ reverse (rows_seen seen home)
    pub journals_are : given ≡ journals ++ reverse noted
    pub own_count : length own ≡ length locks
    pub journals_count : length journals ≡ length locks
    pub as_many : length passes ≡ length locks
    pub made : (s : ℕ) (row : List LaneSeen) (journal : J) (lock : LockSeen (StripeBox S J)) (pass : PassSeen (StripeBox S J) Entry) → slice_get own s ≡ Some row → slice_get journals s ≡ Some journal
        → slice_get locks s ≡ Some lock → slice_get passes s ≡ Some pass → IsNewLock c t s row journal lock pass

  module _ (can : CanShare c t rows (length given)) where
    pub lengths : (cfg : StripeConfig) (locks : List (LockSeen (StripeBox S J))) (passes : List (PassSeen (StripeBox S J) Entry)) (home : List (ListSeen S)) (noted : List J) → Opening cfg locks passes home noted → (length locks + length home ≡ c.layout.stripes) × (length locks + length noted ≡ c.layout.stripes)
    lengths cfg locks passes home noted o = (
      omega (arith, can.stripes, ap length o.own_are, length-append o.own (reverse (rows_seen seen home)), length-reverse (rows_seen seen home), length-map home (λ (row : ListSeen S). map seen row.items), o.own_count),
      omega (arith, can.journals, ap length o.journals_are, length-append o.journals (reverse noted), length-reverse noted, o.journals_count),
    )

    pub opening_none : (cfg : StripeConfig) (home : List (ListSeen S)) (noted : List J) → cfg.layout ≡ c.layout → cfg.number ≡ 0 → cfg.faults ≡ c.faults → cfg.high ≡ c.high → cfg.low ≡ c.low → cfg.shapes.items ≡ shapes_of t
        → rows ≡ reverse (rows_seen seen home) → given ≡ reverse noted → Opening cfg [] [] home noted
    opening_none cfg home noted layout number faults high low shapes rows_are given_are = record {
      layout = layout;
      number = number;
      faults = faults;
      high = high;
      low = low;
      shapes = shapes;
      own = [];
      journals = [];
      own_are = rows_are;
      journals_are = given_are;
      own_count = refl;
      journals_count = refl;
      as_many = refl;
      made = λ s row journal lock pass a b d e. absurd (no_item s a);
    }

    module _ (cfg : StripeConfig) (locks : List (LockSeen (StripeBox S J))) (passes : List (PassSeen (StripeBox S J) Entry)) (home left : List (ListSeen S)) (noted rest : List J) (lanes : ListSeen S) (journal : J) (o : Opening cfg locks passes home noted) (pop : home ≡ left ++ lanes ∷ []) (pop_noted : noted ≡ rest ++ journal ∷ []) where
      rows_next : rows ≡ o.own ++ (map seen lanes.items ∷ reverse (rows_seen seen left))
      rows_next = o.own_are ∙ ap (λ rs. o.own ++ rs) (ap (λ (h : List (ListSeen S)). reverse (rows_seen seen h)) pop ∙ ap reverse (map_append (λ (row : ListSeen S). map seen row.items) left (lanes ∷ [])) ∙ reverse_snoc (rows_seen seen left) (map seen lanes.items))

      given_next : given ≡ o.journals ++ (journal ∷ reverse rest)
      given_next = o.journals_are ∙ ap (λ js. o.journals ++ js) (ap reverse pop_noted ∙ reverse_snoc rest journal)

      row_at : slice_get rows (length locks) ≡ Some (map seen lanes.items)
      row_at = ap (λ rs. slice_get rs (length locks)) rows_next ∙ ap (slice_get (o.own ++ (map seen lanes.items ∷ reverse (rows_seen seen left)))) (sym o.own_count) ∙ at_seam o.own (reverse (rows_seen seen left)) (map seen lanes.items)

      pub journal_at : slice_get given (length locks) ≡ Some journal
      journal_at = ap (λ js. slice_get js (length locks)) given_next ∙ ap (slice_get (o.journals ++ (journal ∷ reverse rest))) (sym o.journals_count) ∙ at_seam o.journals (reverse rest) journal

      setup_is : setup_of cfg (map seen lanes.items) ≡ shared_setup c t (length locks) (map seen lanes.items)
      setup_is = same_setup cfg c t (length locks) (map seen lanes.items) o.layout o.number o.faults o.high o.low o.shapes

      pub can_next : length t.regions ≤ MOST_REGIONS → page_count t ≤ MOST_PAGES → HaveGroups (shapes_of t) → CanMake cfg (map seen lanes.items)
      can_next few pages groups =
          let below = slice_get_within rows (length locks) (map seen lanes.items) row_at in
          let stripes = ap (λ (l : Layout). l.stripes) o.layout in
          let many : length cfg.shapes.items ≡ length t.regions = ap length o.shapes ∙ length-map t.regions (shape_of t.page_size) in
          record {
            number = omega (arith, below, stripes, can.stripes, o.number);
            some_fault = omega (arith, can.some_fault, o.faults);
            few_faults = omega (arith, can.few_faults, o.faults);
            marks = omega (arith, can.marks, o.low, o.high);
            percent = omega (arith, can.percent, o.high);
            few_regions = omega (arith, few, many);
            few_pages = subst (λ (n : ℕ). n ≤ MOST_PAGES) (ap (λ (ss : List RegionShape). sum_by (λ (s : RegionShape). s.pages) ss) (sym o.shapes)) pages;
            groups = λ r shape e. groups r shape (ap (λ (ss : List RegionShape). slice_get ss r) (sym o.shapes) ∙ e);
            lane_count = can.count (length locks) (map seen lanes.items) row_at ∙ sym many;
            lanes = λ r shape lane a b. subst (λ (u : Setup). IsLaneOf u r shape lane.origin) (sym setup_is) (can.lanes (length locks) r (map seen lanes.items) shape lane row_at (ap (λ (ss : List RegionShape). slice_get ss r) (sym o.shapes) ∙ a) b);
          }

      pub opening_more : (next : StripeConfig) (lock : LockSeen (StripeBox S J)) (pass : PassSeen (StripeBox S J) Entry) → next ≡ record cfg { number = cfg.number + 1 } → locked_setup lock ≡ setup_of cfg (map seen lanes.items) → lock.origin.noted.value.journal ≡ journal
          → lock.seats ≡ c.seats → lock.holds ≡ c.holds → pass ≡ first_pass lock → Opening next (locks ++ lock ∷ []) (passes ++ pass ∷ []) left rest
      opening_more next lock pass is setup its seats holds first = record {
        layout = ap (λ (k : StripeConfig). k.layout) is ∙ o.layout;
        number = ap (λ (k : StripeConfig). k.number) is ∙ ap (λ (n : ℕ). n + 1) o.number ∙ sym (length-append locks (lock ∷ []));
        faults = ap (λ (k : StripeConfig). k.faults) is ∙ o.faults;
        high = ap (λ (k : StripeConfig). k.high) is ∙ o.high;
        low = ap (λ (k : StripeConfig). k.low) is ∙ o.low;
        shapes = ap (λ (k : StripeConfig). k.shapes.items) is ∙ o.shapes;
        own = o.own ++ map seen lanes.items ∷ [];
        journals = o.journals ++ journal ∷ [];
        own_are = rows_next ∙ sym (append_assoc o.own (map seen lanes.items ∷ []) (reverse (rows_seen seen left)));
        journals_are = given_next ∙ sym (append_assoc o.journals (journal ∷ []) (reverse rest));
        own_count = one_more o.own (map seen lanes.items) locks lock o.own_count;
        journals_count = one_more o.journals journal locks lock o.journals_count;
        as_many = one_more passes pass locks lock o.as_many;
        made = λ s row j l p a b d e. at s row j l p (snoc_at o.own (map seen lanes.items) row s a) b d e;
      }
        where
          one_more : {A B : Type 0} (xs : List A) (x : A) (ys : List B) (y : B) → length xs ≡ length ys → length (xs ++ x ∷ []) ≡ length (ys ++ y ∷ [])
          one_more xs x ys y same = length-append xs (x ∷ []) ∙ ap (λ (n : ℕ). n + 1) same ∙ sym (length-append ys (y ∷ []))

          earlier : {A : Type 0} (xs : List A) (x y : A) (s : ℕ) → s < length xs → slice_get (xs ++ x ∷ []) s ≡ Some y → slice_get xs s ≡ Some y
          earlier xs x y s below e = elim (snoc_at xs x y s e) [
            | inl before ↦ before
            | inr last ↦ absurd (let same = last.0 in omega (arith, same, below))
          ]

          final : {A : Type 0} (xs : List A) (x y : A) (s : ℕ) → s ≡ length xs → slice_get (xs ++ x ∷ []) s ≡ Some y → x ≡ y
          final xs x y s same e = some_is (sym (at_seam xs [] x) ∙ ap (slice_get (xs ++ x ∷ [])) (sym same) ∙ e)

          at : (s : ℕ) (row : List LaneSeen) (j : J) (l : LockSeen (StripeBox S J)) (p : PassSeen (StripeBox S J) Entry) → (slice_get o.own s ≡ Some row) ⊎ ((s ≡ length o.own) × (map seen lanes.items ≡ row)) → slice_get (o.journals ++ journal ∷ []) s ≡ Some j → slice_get (locks ++ lock ∷ []) s ≡ Some l → slice_get (passes ++ pass ∷ []) s ≡ Some p → IsNewLock c t s row j l p
          at s row j l p (inl before) b d e =
              let below = slice_get_within o.own s row before in
              o.made s row j l p before (earlier o.journals journal j s (omega (arith, below, o.own_count, o.journals_count)) b) (earlier locks lock l s (omega (arith, below, o.own_count)) d) (earlier passes pass p s (omega (arith, below, o.own_count, o.as_many)) e)
          at s row j l p (inr last) b d e =
              let here : s ≡ length locks = last.0 ∙ o.own_count in
              let same_journal : journal ≡ j = final o.journals journal j s (here ∙ sym o.journals_count) b in
              let same_lock : lock ≡ l = final locks lock l s here d in
              let same_pass : pass ≡ p = final passes pass p s (here ∙ sym o.as_many) e in
              record {
                setup = ap locked_setup (sym same_lock) ∙ setup ∙ setup_is ∙ ap (λ (n : ℕ). shared_setup c t n (map seen lanes.items)) (sym here) ∙ ap (λ (r : List LaneSeen). shared_setup c t s r) last.1;
                journal = ap (λ (z : LockSeen (StripeBox S J)). z.origin.noted.value.journal) (sym same_lock) ∙ its ∙ same_journal;
                seats = ap (λ (z : LockSeen (StripeBox S J)). z.seats) (sym same_lock) ∙ seats;
                holds = ap (λ (z : LockSeen (StripeBox S J)). z.holds) (sym same_lock) ∙ holds;
                first = sym same_pass ∙ first ∙ ap first_pass same_lock;
              }

    -- the locks that there are may end
    pub may_end : (cfg : StripeConfig) (locks : List (LockSeen (StripeBox S J))) (passes : List (PassSeen (StripeBox S J) Entry)) (home : List (ListSeen S)) (noted : List J) → Opening cfg locks passes home noted → MayCloseEach locks passes
    may_end cfg locks passes home noted o = record {
      count = o.as_many;
      own = λ s lock pass a b. let first = first_at s lock pass a b in (ap (λ (p : PassSeen (StripeBox S J) Entry). p.lock) first, ap (λ (p : PassSeen (StripeBox S J) Entry). p.inside) first);
      may = λ s pass b.
          let below = slice_get_within passes s pass b in
          let has = has_item locks s (omega (arith, below, o.as_many)) in
          let first = first_at s has.0 pass has.1 b in
          first_closes has.0 pass first;
    }
      where
        first_at : (s : ℕ) (lock : LockSeen (StripeBox S J)) (pass : PassSeen (StripeBox S J) Entry) → slice_get locks s ≡ Some lock → slice_get passes s ≡ Some pass → pass ≡ first_pass lock
        first_at s lock pass a b =
            let below = slice_get_within locks s lock a in
            let row = has_item o.own s (omega (arith, below, o.own_count)) in
            let journal = has_item o.journals s (omega (arith, below, o.journals_count)) in
            (o.made s row.0 journal.0 lock pass row.1 journal.1 a b).first

    -- all stripes are locked
    module _ (cfg : StripeConfig) (locks : List (LockSeen (StripeBox S J))) (passes : List (PassSeen (StripeBox S J) Entry)) (home : List (ListSeen S)) (noted : List J) (o : Opening cfg locks passes home noted) (none : home ≡ []) (none_noted : noted ≡ []) where
      rows_all : rows ≡ o.own
      rows_all = o.own_are ∙ ap (λ (h : List (ListSeen S)). o.own ++ reverse (rows_seen seen h)) none ∙ append-nil o.own

      given_all : given ≡ o.journals
      given_all = o.journals_are ∙ ap (λ (js : List J). o.journals ++ reverse js) none_noted ∙ append-nil o.journals

      new_at : (s : ℕ) (lock : LockSeen (StripeBox S J)) → slice_get locks s ≡ Some lock → (row : List LaneSeen) × (journal : J) × (pass : PassSeen (StripeBox S J) Entry) × (slice_get passes s ≡ Some pass) × IsNewLock c t s row journal lock pass
      new_at s lock a =
          let below = slice_get_within locks s lock a in
          let row = has_item o.own s (omega (arith, below, o.own_count)) in
          let journal = has_item o.journals s (omega (arith, below, o.journals_count)) in
          let pass = has_item passes s (omega (arith, below, o.as_many)) in
          (row.0, journal.0, pass.0, pass.1, o.made s row.0 journal.0 lock pass.0 row.1 journal.1 a pass.1)

      pub together : HaveGroups (shapes_of t) → HaveWholePages t → GoesTogether (record { layout = cfg.layout; table = t; locks = locks }) cfg.shapes.items
      together groups whole = record {
        shapes_are = o.shapes;
        page_size = can.page_size ∙ ap (λ (l : Layout). l.page_size) (sym o.layout);
        count = omega (arith, (lengths cfg locks passes home noted o).0, ap length none, ap (λ (l : Layout). l.stripes) o.layout);
        each = λ s lock a.
            let new = new_at s lock a in
            let setup = (new.4).setup in
            record {
              page_size = ap (λ (u : Setup). u.page_size) setup ∙ ap (λ (l : Layout). l.page_size) (sym o.layout);
              stripes = ap (λ (u : Setup). u.stripes) setup ∙ ap (λ (l : Layout). l.stripes) (sym o.layout);
              number = ap (λ (u : Setup). u.number) setup;
              shapes = ap (λ (u : Setup). u.shapes) setup;
            };
        groups = groups;
        sizes = λ r shape e. whole r shape e ∙ ap (λ (n : ℕ). shape.pages * n) (can.page_size ∙ ap (λ (l : Layout). l.page_size) (sym o.layout));
      }

      pub opens : (scratch : ℕ) → scratch ≡ c.layout.page_size → OpensShared c t rows given (record { layout = cfg.layout; table = t; locks = locks }) (record { passes = passes; scratch = scratch })
      opens scratch sized = record {
        layout = o.layout;
        table = refl;
        stripes = omega (arith, (lengths cfg locks passes home noted o).0, ap length none);
        fit = record {
          as_many = o.as_many;
          each = λ s lock pass a b.
              let new = new_at s lock a in
              let same : new.2 ≡ pass = some_is (sym (new.3) ∙ b) in
              let first : pass ≡ first_pass lock = sym same ∙ (new.4).first in
              (ap (λ (p : PassSeen (StripeBox S J) Entry). p.lock) first, ap (λ (p : PassSeen (StripeBox S J) Entry). p.inside) first);
          sized = sized ∙ ap (λ (l : Layout). l.page_size) (sym o.layout);
        };
        each = λ s row journal lock pass a b d e. o.made s row journal lock pass (ap (λ rs. slice_get rs s) (sym rows_all) ∙ a) (ap (λ js. slice_get js s) (sym given_all) ∙ b) d e;
      }

    -- the lanes come back
    module _ {M : Type 0} (has_noted : J → History Entry → Type 0) (made_with : J → M) (nothing : HaveNotedNothing has_noted given) where
      pub gives_back : (cfg : StripeConfig) (locks : List (LockSeen (StripeBox S J))) (passes : List (PassSeen (StripeBox S J) Entry)) (home back_home : List (ListSeen S)) (noted : List J) (ends : List (Closed Entry)) (lanes : List (ListSeen S)) (journals : List J) (stripes : List (Closed Entry))
          → Opening cfg locks passes home noted → rows_seen seen back_home ≡ rows_seen seen home → EndsBefore has_noted made_with seen locks passes back_home noted ends lanes journals stripes
          → GivesBack has_noted made_with c t rows given (rows_seen seen lanes) journals
      gives_back cfg locks passes home back_home noted ends lanes journals stripes o same_home e = record {
        lanes = ap length lanes_are ∙ length-append (map (λ (x : EndedStripe S J). map seen x.lanes.items) e.own) (reverse (rows_seen seen home)) ∙ ap (λ (n : ℕ). n + length (reverse (rows_seen seen home))) front_count ∙ sym (length-append o.own (reverse (rows_seen seen home))) ∙ sym (ap length o.own_are);
        journals = ap length e.journals_are ∙ length-append (map (λ (x : EndedStripe S J). x.journal) e.own) (reverse noted) ∙ ap (λ (n : ℕ). n + length (reverse noted)) journals_front ∙ sym (length-append o.journals (reverse noted)) ∙ sym (ap length o.journals_are);
        home = λ s row own a b. at_row s row own a (both_at o.own (map (λ (x : EndedStripe S J). map seen x.lanes.items) e.own) (reverse (rows_seen seen home)) row own s (sym front_count) (ap (λ rs. slice_get rs s) (sym o.own_are) ∙ a) (ap (λ rs. slice_get rs s) (sym lanes_are) ∙ b));
        nothing = λ s own b.
            let first = given_at s own b in
            noted_at s first.0 own first.1 (both_at o.journals (map (λ (x : EndedStripe S J). x.journal) e.own) (reverse noted) first.0 own s (sym journals_front) (ap (λ js. slice_get js s) (sym o.journals_are) ∙ first.1) (ap (λ js. slice_get js s) (sym e.journals_are) ∙ b));
        made = λ s journal own a b. made_at s journal own (both_at o.journals (map (λ (x : EndedStripe S J). x.journal) e.own) (reverse noted) journal own s (sym journals_front) (ap (λ js. slice_get js s) (sym o.journals_are) ∙ a) (ap (λ js. slice_get js s) (sym e.journals_are) ∙ b));
      }
        where
          map_twice : {A B C : Type 0} (f : A → B) (g : B → C) (xs : List A) → map g (map f xs) ≡ map (λ x. g (f x)) xs
          map_twice f g [] = refl
          map_twice f g (x ∷ xs) = ap (λ ys. g (f x) ∷ ys) (map_twice f g xs)

          lanes_are : rows_seen seen lanes ≡ map (λ (x : EndedStripe S J). map seen x.lanes.items) e.own ++ reverse (rows_seen seen home)
          lanes_are =
              ap (rows_seen seen) e.lanes_are
              ∙ map_append (λ (row : ListSeen S). map seen row.items) (map (λ (x : EndedStripe S J). x.lanes) e.own) (reverse back_home)
              ∙ ap (λ rs. rs ++ rows_seen seen (reverse back_home)) (map_twice (λ (x : EndedStripe S J). x.lanes) (λ (row : ListSeen S). map seen row.items) e.own)
              ∙ ap (λ rs. map (λ (x : EndedStripe S J). map seen x.lanes.items) e.own ++ rs) (map_reverse (λ (row : ListSeen S). map seen row.items) back_home ∙ ap reverse same_home)

          front_count : length (map (λ (x : EndedStripe S J). map seen x.lanes.items) e.own) ≡ length o.own
          front_count = length-map e.own (λ (x : EndedStripe S J). map seen x.lanes.items) ∙ e.ends.count ∙ sym o.own_count

          journals_front : length (map (λ (x : EndedStripe S J). x.journal) e.own) ≡ length o.journals
          journals_front = length-map e.own (λ (x : EndedStripe S J). x.journal) ∙ e.ends.count ∙ sym o.journals_count

          -- a stripe that was locked has ended
          ended_at : (s : ℕ) → s < length locks → (x : EndedStripe S J) × (row : List LaneSeen) × (journal : J) × (lock : LockSeen (StripeBox S J)) × (pass : PassSeen (StripeBox S J) Entry) × (slice_get e.own s ≡ Some x) × (slice_get o.own s ≡ Some row) × (slice_get o.journals s ≡ Some journal) × IsNewLock c t s row journal lock pass × StripeEnded has_noted made_with lock pass (map seen x.lanes.items) x.journal x.closed
          ended_at s below =
              let x = has_item e.own s (omega (arith, below, e.ends.count)) in
              let row = has_item o.own s (omega (arith, below, o.own_count)) in
              let journal = has_item o.journals s (omega (arith, below, o.journals_count)) in
              let lock = has_item locks s below in
              let pass = has_item passes s (omega (arith, below, o.as_many)) in
              (x.0, row.0, journal.0, lock.0, pass.0, x.1, row.1, journal.1, o.made s row.0 journal.0 lock.0 pass.0 row.1 journal.1 lock.1 pass.1, e.ends.each s lock.0 pass.0 x.0 lock.1 pass.1 x.1)

          at_row : (s : ℕ) (row own : List LaneSeen) → slice_get rows s ≡ Some row → ((slice_get o.own s ≡ Some row) × (slice_get (map (λ (x : EndedStripe S J). map seen x.lanes.items) e.own) s ≡ Some own)) ⊎ (row ≡ own) → AreAtHome (shared_setup c t s row) [] own
          at_row s row own a (inr same) = subst (λ (r : List LaneSeen). AreAtHome (shared_setup c t s row) [] r) same (home_fresh c t s row (can.count s row a))
          at_row s row own a (inl both) =
              let below = slice_get_within o.own s row both.0 in
              let d = ended_at s (omega (arith, below, o.own_count)) in
              let its_row : d.1 ≡ row = some_is (sym (d.6) ∙ both.0) in
              let its_own : map seen d.0.lanes.items ≡ own = some_is (sym (slice_get-map (λ (x : EndedStripe S J). map seen x.lanes.items) e.own s ∙ ap (option_map (λ (x : EndedStripe S J). map seen x.lanes.items)) (d.5)) ∙ both.1) in
              let setup : locked_setup d.3 ≡ shared_setup c t s row = (d.8).setup ∙ ap (λ (r : List LaneSeen). shared_setup c t s r) its_row in
              let empty : (d.4).seen ≡ [] = ap (λ (p : PassSeen (StripeBox S J) Entry). p.seen) (d.8).first in
              subst (λ (r : List LaneSeen). AreAtHome (shared_setup c t s row) [] r) its_own (subst (λ (u : Setup). AreAtHome u [] (map seen d.0.lanes.items)) setup (subst (λ (h : History Entry). AreAtHome (locked_setup d.3) h (map seen d.0.lanes.items)) empty (d.9).lanes))

          given_at : (s : ℕ) (own : J) → slice_get journals s ≡ Some own → (first : J) × (slice_get given s ≡ Some first)
          given_at s own b =
              let below = slice_get_within journals s own b in
              let long : length journals ≡ length given =
              ap length e.journals_are ∙ length-append (map (λ (x : EndedStripe S J). x.journal) e.own) (reverse noted) ∙ ap (λ (n : ℕ). n + length (reverse noted)) journals_front ∙ sym (length-append o.journals (reverse noted)) ∙ sym (ap length o.journals_are) in
              has_item given s (omega (arith, below, long))

          its_journal : (s : ℕ) (own : J) (x : EndedStripe S J) → slice_get e.own s ≡ Some x → slice_get (map (λ (z : EndedStripe S J). z.journal) e.own) s ≡ Some own → x.journal ≡ own
          its_journal s own x here b = some_is (sym (slice_get-map (λ (z : EndedStripe S J). z.journal) e.own s ∙ ap (option_map (λ (z : EndedStripe S J). z.journal)) here) ∙ b)

          noted_at : (s : ℕ) (first own : J) → slice_get given s ≡ Some first → ((slice_get o.journals s ≡ Some first) × (slice_get (map (λ (x : EndedStripe S J). x.journal) e.own) s ≡ Some own)) ⊎ (first ≡ own) → has_noted own []
          noted_at s first own a (inr same) = subst (λ (j : J). has_noted j []) same (nothing s first a)
          noted_at s first own a (inl both) =
              let below = slice_get_within o.journals s first both.0 in
              let d = ended_at s (omega (arith, below, o.journals_count)) in
              let empty : (d.4).seen ≡ [] = ap (λ (p : PassSeen (StripeBox S J) Entry). p.seen) (d.8).first in
              subst (λ (j : J). has_noted j []) (its_journal s own d.0 (d.5) both.1) (subst (λ (h : History Entry). has_noted d.0.journal h) empty (d.9).noted)

          made_at : (s : ℕ) (journal own : J) → ((slice_get o.journals s ≡ Some journal) × (slice_get (map (λ (x : EndedStripe S J). x.journal) e.own) s ≡ Some own)) ⊎ (journal ≡ own) → made_with own ≡ made_with journal
          made_at s journal own (inr same) = ap made_with (sym same)
          made_at s journal own (inl both) =
              let below = slice_get_within o.journals s journal both.0 in
              let d = ended_at s (omega (arith, below, o.journals_count)) in
              let same : d.2 ≡ journal = some_is (sym (d.7) ∙ both.0) in
              ap made_with (sym (its_journal s own d.0 (d.5) both.1)) ∙ (d.9).made ∙ ap made_with ((d.8).journal ∙ same)

pub rows_turned : {S : Type 0} (seen : S → LaneSeen) (rows home : List (ListSeen S)) → home ≡ reverse rows → rows_seen seen rows ≡ reverse (rows_seen seen home)
rows_turned seen rows home turned = sym (ap (λ (h : List (ListSeen _)). reverse (rows_seen seen h)) turned ∙ ap reverse (map_reverse (λ (row : ListSeen _). map seen row.items) rows) ∙ reverse-reverse (rows_seen seen rows))

-- lanes that look alike are put back
pub rows_put_back : {S : Type 0} (seen : S → LaneSeen) (home back left : List (ListSeen S)) (a b : ListSeen S) → home ≡ left ++ a ∷ [] → back ≡ left ++ b ∷ [] → map seen b.items ≡ map seen a.items → rows_seen seen back ≡ rows_seen seen home
rows_put_back seen home back left a b was is same =
    ap (rows_seen seen) is
    ∙ map_append (λ (row : ListSeen _). map seen row.items) left (b ∷ [])
    ∙ ap (λ (r : List LaneSeen). rows_seen seen left ++ r ∷ []) same
    ∙ sym (map_append (λ (row : ListSeen _). map seen row.items) left (a ∷ []))
    ∙ ap (rows_seen seen) (sym was)
