-- How many services an access still waits for, so that its loop ends: one for each fault that waits, one for its own page
-- where the right fault doesn't wait yet, and the steps of making room. Each service leaves it fewer.
use Rattle.std.proofs.Common.{Bool, List, None, Option, Some, [], arith, cond, false, inl, inr, length, nat_lt, true, ℕ, ◌&&◌, ◌*◌, ◌+◌, ◌∷◌, ◌≡◌, ◌<◌, ◌≤◌, ◌⊎◌, ap, find, is_some, length-append, not, refl, subst, sym, ◌++◌, ◌∙◌}
use Rattle.std.proofs.lemmas.Bool.{cases_Bool, and_parts, cond-true, false_from_ne_true, lt-ltb, or_cases}
use Rattle.page_base.specs.Pages.{same}
use Rattle.page_base.specs.declared.keys.Key.{Key}
use Rattle.page_base.specs.declared.keys.Raise.{Raise}
use Rattle.page_model.specs.Core.{Core, Resident, free_frames, Reading, dirties, is_closing, is_guarded, is_home, is_pending, is_present, is_servable, is_stale, protects, waits_for_room, why_of_place, why_out, why_pending, why_or_read}
use Rattle.page_model.specs.Faults.{is_write, is_protected_why, is_waiting, last_why, pending, served}
use Rattle.serial_pager.proofs.Pages.{same-true, same_self, page_in, appended_here, appended_other, changed_here, changed_other, removed_fewer, removed_here, removed_other}
use Rattle.serial_pager.proofs.Queues.{raise_in, raised_new, few_wait, raised_here, served_fewer, served_here, served_other}
use Rattle.std.specs.List.{AllByRecursion, list_any}
use Rattle.std.specs.Option.{option_map}
use Rattle.histories.specs.Histories.{History}
use Rattle.page_base.specs.declared.keys.Why.{Why}
use Rattle.page_base.specs.declared.keys.Why.TheVariants.{Read, Write, Protected, Ahead}
use Rattle.page_model.specs.declared.entry.Entry.{Entry}
use Rattle.page_model.specs.Readers.{ReadyToOpen, ReadyToRead}
use Rattle.serial_pager.specs.declared.fault.PageFault.{PageFault}
use Rattle.page_model.specs.Laws.{waits_for}
use Rattle.page_model.specs.Stands.{StandsFor}
use Rattle.page_model.specs.Steps as step
use Rattle.page_model.specs.Steps.{on_page, filled_page, placed, without_page}
use Rattle.page_model.specs.Residents.{is_resident}
use Rattle.serial_pager.specs.Rests.{IsAtRest}
use Rattle.serial_pager.specs.InsideServices.{Drops, Opens, Fills, Misses, Cleans, Evicts, Raises, Serves}
use Rattle.serial_pager.proofs.Lists.{all_found, find_passes, found_any, none_found, some_found}
use Rattle.serial_pager.proofs.ModelLaws.{Laws}
use Rattle.serial_pager.proofs.Rests.{on_region_here}
use Rattle.serial_pager.proofs.Rooms.{Oldest, chosen_room, none_free, oldest_picked}

-- the page's own fault has to be raised still, or is the wrong one
abbrev pub own_load : Option Resident → Option Raise → ℕ
own_load None None = 1
own_load None (Some p) = cond (is_protected_why p.why) 1 0
own_load (Some r) o = 0

abbrev pub own_store : Option Resident → Option Raise → ℕ
own_store None None = 1
own_store None (Some p) = cond (is_write p.why) 0 1
own_store (Some r) None = cond r.protected 1 0
own_store (Some r) (Some p) = 0

abbrev pub own : (stores : Bool) → Option Resident → Option Raise → ℕ
own true page raise = own_store page raise
own false page raise = own_load page raise

-- the steps that make room: none where a frame is free, one where the oldest page is clean
abbrev pub head_room : List Resident → ℕ
head_room [] = 1
head_room (r ∷ rs) = cond r.dirty 2 1

abbrev pub room_of : Bool → List Resident → ℕ
room_of free pages = cond free 0 (head_room pages)

abbrev pub room : Core → ℕ
room c = room_of (nat_lt 0 (free_frames c)) c.pages

abbrev pub turns_left : Bool → Core → Key → ℕ
turns_left stores c k = 4 * (length c.queue + own stores (page_in c.pages k) (raise_in c.queue k)) + room c

-- the access finds the page missing, or protected where it stores
abbrev pub misses : (stores : Bool) → Option Resident → Bool
misses stores None = true
misses stores (Some r) = stores && r.protected

-- ---- bounds

cond_most : (b : Bool) (x y n : ℕ) → x ≤ n → y ≤ n → cond b x y ≤ n
cond_most true x y n p q = p
cond_most false x y n p q = q

cond_least : (b : Bool) (x y n : ℕ) → n ≤ x → n ≤ y → n ≤ cond b x y
cond_least true x y n p q = p
cond_least false x y n p q = q

pub own_most : (stores : Bool) (page : Option Resident) (raise : Option Raise) → own stores page raise ≤ 1
own_most true None None = omega arith
own_most true None (Some p) = cond_most (is_write p.why) 0 1 1 (omega arith) (omega arith)
own_most true (Some r) None = cond_most r.protected 1 0 1 (omega arith) (omega arith)
own_most true (Some r) (Some p) = omega arith
own_most false None None = omega arith
own_most false None (Some p) = cond_most (is_protected_why p.why) 1 0 1 (omega arith) (omega arith)
own_most false (Some r) o = omega arith

head_most : (rs : List Resident) → head_room rs ≤ 2
head_most [] = omega arith
head_most (r ∷ rs) = cond_most r.dirty 2 1 2 (omega arith) (omega arith)

pub head_least : (rs : List Resident) → 1 ≤ head_room rs
head_least [] = omega arith
head_least (r ∷ rs) = cond_least r.dirty 2 1 1 (omega arith) (omega arith)

pub room_most : (free : Bool) (rs : List Resident) → room_of free rs ≤ 2
room_most free rs = cond_most free 0 (head_room rs) 2 (omega arith) (head_most rs)

-- ---- what makes it less

-- a fault less waits, and the page's own counts no more
pub falls_by_queue : (q p o w r s : ℕ) → q < p → o ≤ w → r ≤ 2 → 4 * (q + o) + r < 4 * (p + w) + s
falls_by_queue q p o w r s a b c = omega arith

-- as many wait, and there is more room
pub falls_by_room : (q o w r s : ℕ) → o ≤ w → r < s → 4 * (q + o) + r < 4 * (q + w) + s
falls_by_room q o w r s a b = omega arith

pub cases_key : (a b : Key) → (a ≡ b) ⊎ (a ≡ b → ⊥)
cases_key a b = elim (cases_Bool (same a b)) [
  | inl t ↦ inl (same-true a b t)
  | inr n ↦ inr (λ e. let t : same a b ≡ true = rw e (same_self b) in cc)
]

-- ---- the fault of a page

pub waiting_some : (ps : List Raise) (k : Key) → is_waiting k ps ≡ true → (p : Raise) × (raise_in ps k ≡ Some p)
waiting_some ps k e = go (raise_in ps k) refl (some_found (λ (p : Raise). same p.key k) ps ∙ e)
  where
    go : (o : Option Raise) → raise_in ps k ≡ o → is_some o ≡ true → (p : Raise) × (raise_in ps k ≡ Some p)
    go None is t = absurd cc
    go (Some p) is t = (p, is)

-- the faults of one page that wait have one reason
pub why_is : (laws : Laws) (h : History Entry) (c : Core) → StandsFor h c → (test : Raise → Bool) (p q : Raise) (k : Key) → find test c.queue ≡ Some p → p.key ≡ k → raise_in c.queue k ≡ Some q → q.why ≡ p.why
why_is laws h c st test p q k found key of =
    let all : AllByRecursion (λ (x : Raise). x.why ≡ last_why h x.key) c.queue = subst (λ ps. AllByRecursion (λ (x : Raise). x.why ≡ last_why h x.key) ps) (sym st.queue) (laws.whys c.setup h st.legal) in
    let one : p.why ≡ last_why h p.key = all_found (λ (x : Raise). x.why ≡ last_why h x.key) test c.queue p found all in
    let two : q.why ≡ last_why h q.key = all_found (λ (x : Raise). x.why ≡ last_why h x.key) (λ (x : Raise). same x.key k) c.queue q of all in
    let qk : q.key ≡ k = same-true q.key k (find_passes (λ (x : Raise). same x.key k) c.queue q of) in
    two ∙ (ap (last_why h) (qk ∙ sym key) ∙ sym one)

pub absent_page : (c : Core) (k : Key) → is_present c k ≡ false → page_in c.pages k ≡ None
absent_page c k e = go (page_in c.pages k) refl e
  where
    go : (o : Option Resident) → page_in c.pages k ≡ o → is_some o ≡ false → page_in c.pages k ≡ None
    go None is f = is
    go (Some r) is f = absurd cc

pub guarded_page : (c : Core) (k : Key) → is_guarded c k ≡ true → (r : Resident) × (page_in c.pages k ≡ Some r)
guarded_page c k e = go (page_in c.pages k) refl e
  where
    go : (o : Option Resident) → page_in c.pages k ≡ o → protects o ≡ true → (r : Resident) × (page_in c.pages k ≡ Some r)
    go None is f = absurd cc
    go (Some r) is f = (r, is)

-- ---- a fault less

module _ (laws : Laws) (stores : Bool) (k : Key) (c d : Core) (rest : IsAtRest c) where
  -- the queue lost a page's faults, and what the access waits for beside it became no more
  queue_less : (j : Key) → is_pending c j ≡ true → d.queue ≡ served j c.queue
      → (page_in d.pages k ≡ page_in c.pages k ⊎ j ≡ k)
      → (j ≡ k → own stores (page_in d.pages k) None ≤ own stores (page_in c.pages k) (raise_in c.queue k))
      → turns_left stores d k < turns_left stores c k
  queue_less j waits queue other mine =
      let fewer : length d.queue < length c.queue = rw queue (served_fewer j c.queue waits) in
      falls_by_queue (length d.queue) (length c.queue) (own stores (page_in d.pages k) (raise_in d.queue k)) (own stores (page_in c.pages k) (raise_in c.queue k)) (room d) (room c) fewer at (room_most (nat_lt 0 (free_frames d)) d.pages)
    where
      at : own stores (page_in d.pages k) (raise_in d.queue k) ≤ own stores (page_in c.pages k) (raise_in c.queue k)
      at = elim (cases_key j k) [
        | inl jk ↦
            let none : raise_in d.queue k ≡ None = ap (λ ps. raise_in ps k) queue ∙ (ap (λ x. raise_in (served x c.queue) k) jk ∙ served_here k c.queue) in
            rw none (mine jk)
        | inr ne ↦
            let raise : raise_in d.queue k ≡ raise_in c.queue k = ap (λ ps. raise_in ps k) queue ∙ served_other j c.queue k ne in
            elim other [
              | inl page ↦ rw (raise, page) (omega arith)
              | inr jk ↦ absurd (ne jk)
            ]
      ]

  pub drops_fewer : is_closing c k.region ≡ false → Drops c d → turns_left stores d k < turns_left stores c k
  drops_fewer open_ w =
      let pages : d.pages ≡ c.pages = ap (λ (x : Core). x.pages) w.is in
      queue_less w.key waits (ap (λ (x : Core). x.queue) w.is) (inl (ap (λ rs. page_in rs k) pages)) (λ jk. mine jk (ap (λ rs. page_in rs k) pages))
    where
      waits : is_pending c w.key ≡ true
      waits = laws.knows.drop rest.history c w.key rest.stands w.next

      least : (b : Bool) (why : Why) → is_protected_why why ≡ true → 1 ≤ own b None (Some (record { key = k; why = why }))
      least true Protected e = omega arith
      least false Protected e = omega arith
      least b Read e = absurd cc
      least b Write e = absurd cc
      least b Ahead e = absurd cc

      own_why : (b : Bool) (p : Raise) → own b None (Some p) ≡ own b None (Some (record { key = k; why = p.why }))
      own_why true p = refl
      own_why false p = refl

      own_none : (b : Bool) → own b None None ≡ 1
      own_none true = refl
      own_none false = refl

      mine : w.key ≡ k → page_in d.pages k ≡ page_in c.pages k → own stores (page_in d.pages k) None ≤ own stores (page_in c.pages k) (raise_in c.queue k)
      mine jk same_page =
          let n = laws.chosen.drop (find (is_stale c) c.queue) (find (is_servable c) c.queue) (list_any (waits_for_room c) c.queue) w.key w.next in
          let p : Raise = n.0 in
          let key : p.key ≡ k = n.2 ∙ jk in
          let stale : is_stale c p ≡ true = find_passes (is_stale c) c.queue p n.1 in
          let wrong : (is_protected_why p.why && not (is_present c p.key)) ≡ true = elim (or_cases (is_closing c p.key.region) (is_protected_why p.why && not (is_present c p.key)) stale) [
            | inl closing ↦ absurd (let here : is_closing c p.key.region ≡ false = ap (λ (x : Key). is_closing c x.region) key ∙ open_ in cc)
            | inr x ↦ x
          ] in
          let parts = and_parts (is_protected_why p.why) (not (is_present c p.key)) wrong in
          let gone : is_present c k ≡ false = subst (λ (x : Key). is_present c x ≡ false) key (not_true (is_present c p.key) parts.1) in
          let page : page_in c.pages k ≡ None = absent_page c k gone in
          let of = waiting_some c.queue k (subst (λ (x : Key). is_pending c x ≡ true) jk waits) in
          let same_why : of.0.why ≡ p.why = why_is laws rest.history c rest.stands (is_stale c) p of.0 k n.1 key of.1 in
          let prot : is_protected_why of.0.why ≡ true = rw same_why parts.0 in
          rw (same_page, page, of.1, own_none stores, own_why stores of.0) (least stores of.0.why prot)
        where
          not_true : (b : Bool) → not b ≡ true → b ≡ false
          not_true true e = absurd cc
          not_true false e = refl

  pub opens_fewer : Opens c d → turns_left stores d k < turns_left stores c k
  opens_fewer w =
      queue_less w.key ready.pending (ap (λ (x : Core). x.queue) w.is) (elim (cases_key w.key k) [
        | inl jk ↦ inr jk
        | inr ne ↦ inl (ap (λ rs. page_in rs k) pages ∙ changed_other w.key opened c.pages k (λ r. refl) ne)
      ]) mine
    where
      opened : Resident → Resident
      opened r = record r { protected = false; dirty = true }

      ready : ReadyToOpen c w.key
      ready = laws.knows.open_ rest.history c w.key rest.stands w.next

      pages : d.pages ≡ on_page w.key opened c.pages
      pages = ap (λ (x : Core). x.pages) w.is

      own_open : (b : Bool) (r : Resident) → own b (Some (opened r)) None ≡ 0
      own_open true r = refl
      own_open false r = refl

      mine : w.key ≡ k → own stores (page_in d.pages k) None ≤ own stores (page_in c.pages k) (raise_in c.queue k)
      mine jk =
          let r = guarded_page c k (subst (λ (x : Key). is_guarded c x ≡ true) jk ready.guarded) in
          let now : page_in d.pages k ≡ Some (opened r.0) = ap (λ rs. page_in rs k) pages ∙ (ap (λ x. page_in (on_page x opened c.pages) k) jk ∙ (changed_here k opened c.pages (λ r. refl) ∙ ap (option_map opened) r.1)) in
          rw (now, own_open stores r.0) (omega arith)

  pub fills_fewer : Fills c d → turns_left stores d k < turns_left stores c k
  fills_fewer w =
      queue_less w.key ready.pending (ap (λ (x : Core). x.queue) w.is) (elim (cases_key w.key k) [
        | inl jk ↦ inr jk
        | inr ne ↦ inl (ap (λ rs. page_in rs k) pages ∙ appended_other c.pages new k (false_from_ne_true (same w.key k) (λ t. ne (same-true w.key k t))))
      ]) mine
    where
      ready : ReadyToRead rest.history c w.key
      ready = laws.knows.read rest.history c w.key rest.stands w.next

      why : Why
      why = why_out (step.start_read c w.key) w.key

      new : Resident
      new = filled_page w.key why w.bytes

      pages : d.pages ≡ c.pages ++ new ∷ []
      pages = ap (λ (x : Core). x.pages) w.is

      own_filled : (b : Bool) (raise : Raise) → why ≡ raise.why → own b (Some new) None ≤ own b None (Some raise)
      own_filled true raise e = rw e (at (is_write raise.why)) where
        at : (x : Bool) → cond (not x) 1 0 ≤ cond x 0 1
        at true = omega arith
        at false = omega arith
      own_filled false raise e = omega arith

      mine : w.key ≡ k → own stores (page_in d.pages k) None ≤ own stores (page_in c.pages k) (raise_in c.queue k)
      mine jk =
          let page : page_in c.pages k ≡ None = absent_page c k (subst (λ (x : Key). is_present c x ≡ false) jk ready.absent) in
          let of = waiting_some c.queue k (subst (λ (x : Key). is_pending c x ≡ true) jk ready.pending) in
          let here = (laws.knows.here c w.key.region ready.home).1 in
          let out : why ≡ why_pending c w.key = ap why_of_place (on_region_here w.key.region (placed (Reading w.key c.events (why_pending c w.key))) c.regions here.region here.is) in
          let same_why : why ≡ of.0.why = out ∙ (ap (why_pending c) jk ∙ ap why_or_read of.1) in
          let now : page_in d.pages k ≡ Some new = ap (λ rs. page_in rs k) pages ∙ appended_here c.pages new k page (subst (λ (x : Key). same w.key x ≡ true) jk (same_self w.key)) in
          rw (now, page, of.1) (own_filled stores of.0 same_why)

  pub misses_fewer : (f : PageFault) → (f.key ≡ k → ⊥) → Misses c d f → turns_left stores d k < turns_left stores c k
  misses_fewer f ne w =
      let ready = laws.knows.read rest.history c f.key rest.stands w.next in
      let pages : d.pages ≡ c.pages = ap (λ (x : Core). x.pages) w.is in
      queue_less f.key ready.pending (ap (λ (x : Core). x.queue) w.is) (inl (ap (λ rs. page_in rs k) pages)) (λ jk. absurd (ne jk))

own_missing : (stores : Bool) (page : Option Resident) → misses stores page ≡ true → own stores page None ≡ 1
own_missing true None e = refl
own_missing false None e = refl
own_missing true (Some r) e = ap (λ b. cond b 1 0) e
own_missing false (Some r) e = absurd cc

-- ---- room

-- after its write it is clean
cleaned_room : (f g : Resident → Resident) (k : Key) (r : Resident) (rs : List Resident) → ((x : Resident) → (f x).key ≡ x.key) → (g (f r)).dirty ≡ false → same r.key k ≡ true → head_room (on_page k g (on_page k f (r ∷ rs))) ≡ 1
cleaned_room f g k r rs keeps clean e =
    let once : cond (same r.key k) (f r) r ≡ f r = cond-true (same r.key k) (f r) r e in
    let there : same (f r).key k ≡ true = rw (keeps r) e in
    let twice : cond (same (f r).key k) (g (f r)) (f r) ≡ g (f r) = cond-true (same (f r).key k) (g (f r)) (f r) there in
    ap (λ (x : Resident). cond (cond (same x.key k) (g x) x).dirty 2 1) once ∙ (ap (λ (x : Resident). cond x.dirty 2 1) twice ∙ ap (λ b. cond b 2 1) clean)

module _ (laws : Laws) (stores : Bool) (k : Key) (c d : Core) (rest : IsAtRest c) where
  pub cleans_fewer : Cleans c d → misses stores (page_in c.pages k) ≡ true → turns_left stores d k < turns_left stores c k
  cleans_fewer w miss =
      let queue : d.queue ≡ c.queue = ap (λ (x : Core). x.queue) w.writes.is in
      subst (λ (ps : List Raise). 4 * (length ps + own stores (page_in d.pages k) (raise_in ps k)) + room d < turns_left stores c k) (sym queue)
      (falls_by_room (length c.queue) (own stores (page_in d.pages k) (raise_in c.queue k)) (own stores (page_in c.pages k) (raise_in c.queue k)) (room d) (room c) mine roomier)
    where
      old : Oldest c w.key
      old = oldest_picked laws c w.key rest w.picks.picked

      begun : Resident → Resident
      begun r = record r { protected = true }

      ended : Resident → Resident
      ended r = record r { dirty = r.dirty && not r.protected }

      pages : d.pages ≡ on_page w.key ended (on_page w.key begun c.pages)
      pages = ap (λ (x : Core). x.pages) w.writes.is

      dirty : old.page.dirty ≡ true
      dirty = sym (ap dirties old.there) ∙ w.dirty

      and_false : (b : Bool) → (b && false) ≡ false
      and_false true = refl
      and_false false = refl

      one : head_room d.pages ≡ 1
      one = ap head_room (pages ∙ ap (λ rs. on_page w.key ended (on_page w.key begun rs)) old.pages)
          ∙ cleaned_room begun ended w.key old.page old.rest (λ x. refl) (and_false old.page.dirty) (rw old.key (same_self w.key))

      two : room c ≡ 2
      two = ap (λ b. room_of b c.pages) (none_free c w.picks.room) ∙ (ap head_room old.pages ∙ ap (λ b. cond b 2 1) dirty)

      most : (b : Bool) → room_of b d.pages ≤ 1
      most true = omega arith
      most false = omega (arith, one)

      roomier : room d < room c
      roomier = let low = most (nat_lt 0 (free_frames d)) in omega (arith, two, low)

      own_same : (b : Bool) (r : Resident) (raise : Option Raise) → misses b (Some r) ≡ true → own b (Some (ended (begun r))) raise ≡ own b (Some r) raise
      own_same true r None e = let prot : r.protected ≡ true = e in ap (λ x. cond x 1 0) (sym prot)
      own_same true r (Some p) e = refl
      own_same false r raise e = absurd cc

      mine : own stores (page_in d.pages k) (raise_in c.queue k) ≤ own stores (page_in c.pages k) (raise_in c.queue k)
      mine = elim (cases_key w.key k) [
        | inl jk ↦
            let was : page_in c.pages k ≡ Some old.page = subst (λ (x : Key). page_in c.pages x ≡ Some old.page) jk old.there in
            let now : page_in d.pages k ≡ Some (ended (begun old.page)) =
            ap (λ rs. page_in rs k) pages ∙ (ap (λ x. page_in (on_page x ended (on_page x begun c.pages)) k) jk
            ∙ (changed_here k ended (on_page k begun c.pages) (λ r. refl) ∙ (ap (option_map ended) (changed_here k begun c.pages (λ r. refl)) ∙ ap (λ o. option_map ended (option_map begun o)) was))) in
            let shut : misses stores (Some old.page) ≡ true = subst (λ o. misses stores o ≡ true) was miss in
            omega (arith, ap (λ o. own stores o (raise_in c.queue k)) now, ap (λ o. own stores o (raise_in c.queue k)) was, own_same stores old.page (raise_in c.queue k) shut)
        | inr ne ↦
            let page : page_in d.pages k ≡ page_in c.pages k = ap (λ rs. page_in rs k) pages ∙ (changed_other w.key ended (on_page w.key begun c.pages) k (λ r. refl) ne ∙ changed_other w.key begun c.pages k (λ r. refl) ne) in
            omega (arith, ap (λ o. own stores o (raise_in c.queue k)) page)
      ]

  pub evicts_fewer : Evicts c d → misses stores (page_in c.pages k) ≡ true → turns_left stores d k < turns_left stores c k
  evicts_fewer w miss =
      let queue : d.queue ≡ c.queue = ap (λ (x : Core). x.queue) w.is in
      subst (λ (ps : List Raise). 4 * (length ps + own stores (page_in d.pages k) (raise_in ps k)) + room d < turns_left stores c k) (sym queue)
      (falls_by_room (length c.queue) (own stores (page_in d.pages k) (raise_in c.queue k)) (own stores (page_in c.pages k) (raise_in c.queue k)) (room d) (room c) mine roomier)
    where
      old : Oldest c w.key
      old = oldest_picked laws c w.key rest w.picks.picked

      pages : d.pages ≡ without_page w.key c.pages
      pages = ap (λ (x : Core). x.pages) w.is

      free_now : free_frames d ≡ free_frames (step.evict c w.key)
      free_now = ap free_frames w.is

      some_free : nat_lt 0 (free_frames d) ≡ true
      some_free =
          let fewer = removed_fewer w.key c.pages old.page old.there in
          let within = laws.knows.within rest.history c rest.stands in
          let some : 0 < free_frames (step.evict c w.key) = omega (arith, fewer, within) in
          ap (nat_lt 0) free_now ∙ lt-ltb 0 (free_frames (step.evict c w.key)) some

      roomier : room d < room c
      roomier =
          let none : room d ≡ 0 = ap (λ b. room_of b d.pages) some_free in
          let full : room c ≡ head_room c.pages = ap (λ b. room_of b c.pages) (none_free c w.picks.room) in
          let least = head_least c.pages in
          omega (arith, none, full, least)

      no_raise : (p : Raise) → old.page.protected ≡ true → w.key ≡ k → raise_in c.queue k ≡ Some p → ⊥
      no_raise p prot jk of =
          let n = chosen_room (find (is_stale c) c.queue) (find (is_servable c) c.queue) (list_any (waits_for_room c) c.queue) w.picks.room in
          let not_now : is_servable c p ≡ false = none_found (is_servable c) (λ (x : Raise). same x.key k) c.queue p n.1 of in
          let key : p.key ≡ k = same-true p.key k (find_passes (λ (x : Raise). same x.key k) c.queue p of) in
          let there : page_in c.pages p.key ≡ Some old.page = subst (λ (x : Key). page_in c.pages x ≡ Some old.page) (jk ∙ sym key) old.there in
          let guarded : is_guarded c p.key ≡ true = ap protects there ∙ prot in
          let full : nat_lt 0 (free_frames c) ≡ false = none_free c w.picks.room in
          at (is_protected_why p.why) refl not_now guarded
        where
          at : (b : Bool) → is_protected_why p.why ≡ b → is_servable c p ≡ false → is_guarded c p.key ≡ true → ⊥
          at true prot' e f = let yes : is_servable c p ≡ true = cond-true (is_protected_why p.why) (is_guarded c p.key) (nat_lt 0 (free_frames c) && is_home c p.key.region) prot' ∙ f in cc
          at false reads e f =
              let waits : list_any (waits_for k) (pending rest.history) ≡ true = subst (λ (ps : List Raise). list_any (waits_for k) ps ≡ true) rest.stands.queue
              (found_any (λ (x : Raise). same x.key k) (waits_for k) c.queue p of (rw (reads, find_passes (λ (x : Raise). same x.key k) c.queue p of) refl)) in
              let resident : is_resident rest.history k ≡ true = sym (laws.show.present rest.history c k rest.stands) ∙ ap is_some (subst (λ (x : Key). page_in c.pages x ≡ Some old.page) jk old.there) in
              let absent = laws.waiting.waiting c.setup rest.history k rest.stands.legal waits in cc

      own_gone : (b : Bool) (r : Resident) (raise : Option Raise) → misses b (Some r) ≡ true → ((p : Raise) → r.protected ≡ true → raise ≡ Some p → ⊥) → own b None raise ≤ own b (Some r) raise
      own_gone true r None e f = let x : own true (Some r) None ≡ 1 = own_missing true (Some r) e in omega (arith, x)
      own_gone true r (Some p) e f = absurd (f p e refl)
      own_gone false r raise e f = absurd cc

      mine : own stores (page_in d.pages k) (raise_in c.queue k) ≤ own stores (page_in c.pages k) (raise_in c.queue k)
      mine = elim (cases_key w.key k) [
        | inl jk ↦
            let was : page_in c.pages k ≡ Some old.page = subst (λ (x : Key). page_in c.pages x ≡ Some old.page) jk old.there in
            let now : page_in d.pages k ≡ None = ap (λ rs. page_in rs k) pages ∙ (ap (λ x. page_in (without_page x c.pages) k) jk ∙ removed_here k c.pages) in
            let shut : misses stores (Some old.page) ≡ true = subst (λ o. misses stores o ≡ true) was miss in
            omega (arith, ap (λ o. own stores o (raise_in c.queue k)) now, ap (λ o. own stores o (raise_in c.queue k)) was, own_gone stores old.page (raise_in c.queue k) shut (λ p prot of. no_raise p prot jk of))
        | inr ne ↦
            let page : page_in d.pages k ≡ page_in c.pages k = ap (λ rs. page_in rs k) pages ∙ removed_other w.key c.pages k ne in
            omega (arith, ap (λ o. own stores o (raise_in c.queue k)) page)
      ]

-- ---- a fault that is raised

unasked : (ps : List Raise) (k : Key) → is_waiting k ps ≡ false → raise_in ps k ≡ None
unasked ps k e = go (raise_in ps k) refl (some_found (λ (p : Raise). same p.key k) ps ∙ e)
  where
    go : (o : Option Raise) → raise_in ps k ≡ o → is_some o ≡ false → raise_in ps k ≡ None
    go None is t = is
    go (Some p) is t = absurd cc

-- the access waits for its own fault then
pub raises_no_more : (stores : Bool) (k : Key) (why : Why) (c d : Core) → Raises k why c d → misses stores (page_in c.pages k) ≡ true → own stores (page_in c.pages k) (Some (record { key = k; why = why })) ≡ 0
    → turns_left stores d k ≤ turns_left stores c k
raises_no_more stores k why c d w miss right = elim w [
  | inr same_core ↦ subst (λ x. turns_left stores x k ≤ turns_left stores c k) (sym same_core.1) (omega arith)
  | inl new ↦
      let fresh = raised_new c k new.0 in
      let before : own stores (page_in c.pages k) (raise_in c.queue k) ≡ 1 = ap (own stores (page_in c.pages k)) (unasked c.queue k fresh) ∙ own_missing stores (page_in c.pages k) miss in
      let after : own stores (page_in c.pages k) (raise_in (c.queue ++ record { key = k; why = why } ∷ []) k) ≡ 0 = ap (own stores (page_in c.pages k)) (raised_here c.queue (record { key = k; why = why }) k fresh (same_self k)) ∙ right in
      let now : turns_left stores d k ≡ turns_left stores (step.raise c k why) k = ap (λ x. turns_left stores x k) new.1 in
      omega (arith, before, after, now, length-append c.queue (record { key = k; why = why } ∷ []))
]

-- what serves an access that misses leaves it fewer turns
pub serves_fewer : (laws : Laws) (stores : Bool) (k : Key) (c d : Core) → IsAtRest c → is_closing c k.region ≡ false → Serves k c d → misses stores (page_in c.pages k) ≡ true → turns_left stores d k < turns_left stores c k
serves_fewer laws stores k c d rest open_ w miss = elim w [
  | inl drops ↦ drops_fewer laws stores k c d rest open_ drops
  | inr x ↦ elim x [
    | inl opens ↦ opens_fewer laws stores k c d rest opens
    | inr y ↦ elim y [
      | inl fills ↦ fills_fewer laws stores k c d rest fills
      | inr z ↦ elim z [
        | inl other ↦ misses_fewer laws stores k c d rest other.0 other.1.0 other.1.1
        | inr u ↦ elim u [
          | inl cleans ↦ cleans_fewer laws stores k c d rest cleans miss
          | inr evicts ↦ evicts_fewer laws stores k c d rest evicts miss
        ]
      ]
    ]
  ]
]

-- at most so many turns
pub few_turns : (laws : Laws) (stores : Bool) (c : Core) (k : Key) → IsAtRest c → turns_left stores c k ≤ 16390
few_turns laws stores c k rest =
    let few = few_wait laws c rest in
    let one = own_most stores (page_in c.pages k) (raise_in c.queue k) in
    let two = room_most (nat_lt 0 (free_frames c)) c.pages in
    omega (arith, few, one, two)
