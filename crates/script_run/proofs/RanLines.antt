-- Lines that run one after another.
use Rattle.std.proofs.Common.{◌≡◌, ℕ, ◌+◌, ◌*◌, ◌≤◌, ◌||◌, Bool, true, false, List, [], ◌∷◌, ◌++◌, length, sum, slice_get, refl, sym, ap, subst, ◌∙◌, arith, append_assoc, append-nil, length-append}
use Rattle.std.specs.List.{flat_map, list_any}
use Rattle.std.proofs.lemmas.List.{map-append}
use Rattle.std.proofs.lemmas.List.Concat.{flat_map-append}
use Rattle.std.proofs.lemmas.Option.{slice_get_within}
use Rattle.std.proofs.lemmas.List.Sums.{sum_by-append}
use Rattle.histories.specs.Histories.{History, by}
use Rattle.page_model.specs.declared.entry.Entry.{Entry}
use Rattle.page_model.specs.Stands.{StandsFor}
use Rattle.serial_pager.specs.Pagers.{PagerSeen, WentAll, core_in}
use Rattle.workload_text.specs.Line.{Line, map_line, script_line, load_line}
use Rattle.workload_text.specs.Grammar.{Region}
use Rattle.workload_text.specs.Accepted.{loaded_bytes, command_count}
use Rattle.script_run.specs.InsideRooms.{room, rooms}
use Rattle.script_run.specs.Replies.{Reply, reply_text, replies_text, is_fault_reply, bytes_shown}
use Rattle.script_run.specs.LineEntries.{Accesses, Failure, LineGoes, AllMake, may_make}
use Rattle.script_run.specs.InsideRunning.{StandsBy, DidLines, Ran}
use Rattle.script_run.specs.declared.replies.Replies.{Replies}
use Rattle.script_run.proofs.FittedLanes.{there}
use Rattle.script_run.proofs.Makings.{all_none, all_more, order_none}
use Rattle.script_run.proofs.OpenedOn.{core_there}
use Rattle.script_run.proofs.Ranged.{stays_none, stays_more}
use Rattle.flat_lines.specs.Spreads.{Spread, stripe_in}

pub rooms-append : (gs : List Region) (xs ys : List Line) → rooms gs (xs ++ ys) ≡ rooms gs xs + rooms gs ys
rooms-append gs [] ys = omega arith
rooms-append gs (x ∷ xs) ys = omega (arith, rooms-append gs xs ys)

bytes_cons : (x : Line) (xs : List Line) → loaded_bytes (x ∷ xs) ≡ loaded_bytes (x ∷ []) + loaded_bytes xs
bytes_cons (load_line r off len) xs = omega arith
bytes_cons x xs = omega arith

pub bytes-append : (xs ys : List Line) → loaded_bytes (xs ++ ys) ≡ loaded_bytes xs + loaded_bytes ys
bytes-append [] ys = omega arith
bytes-append (x ∷ xs) ys = omega (arith, bytes_cons x (xs ++ ys), bytes_cons x xs, bytes-append xs ys)

commands_cons : (x : Line) (xs : List Line) → command_count (x ∷ xs) ≡ command_count (x ∷ []) + command_count xs
commands_cons (map_line name kept size writable) xs = omega arith
commands_cons (script_line name) xs = omega arith
commands_cons x xs = omega arith

pub commands-append : (xs ys : List Line) → command_count (xs ++ ys) ≡ command_count xs + command_count ys
commands-append [] ys = omega arith
commands-append (x ∷ xs) ys = omega (arith, commands_cons x (xs ++ ys), commands_cons x xs, commands-append xs ys)

-- ---- what lines make

same_by : {f g : ℕ → List Entry} → ((s : ℕ) → f s ≡ g s) → f ≡ g
same_by same = λ i s. same s i

module _ (t : Spread) where
  -- the same entries by another name
  pub make_all : (ls : List Line) (replies : List Reply) (behind all other : ℕ → List Entry) → ((s : ℕ) → other s ≡ all s) → AllMake t ls replies behind all → AllMake t ls replies behind other
  make_all ls replies behind all other same h = subst (AllMake t ls replies behind) (same_by (λ s. sym (same s))) h

  pub make_more : (xs ys : List Line) (ones bs : List Reply) (behind mid all : ℕ → List Entry) → AllMake t xs ones behind mid → AllMake t ys bs mid all → AllMake t (xs ++ ys) (ones ++ bs) behind all
  make_more [] ys [] bs behind mid all h k = subst (λ (b : ℕ → List Entry). AllMake t ys bs b all) (same_by h) k
  make_more [] ys (a ∷ more) bs behind mid all h k = absurd h
  make_more (x ∷ xs) ys [] bs behind mid all h k = absurd h
  make_more (x ∷ xs) ys (a ∷ more) bs behind mid all h k = (h.0, h.1, make_more xs ys more bs (λ s. h.0 s ++ behind s) mid all h.2 k)

-- each stripe stands for what it stood for with what it made on top
pub stands_after : {J : Type 0} (has_noted : J → History Entry → Type 0) (p q : PagerSeen J) (made older : ℕ → List Entry) → length q.stripes ≡ length p.stripes → WentAll 0 has_noted made p q → StandsBy p older → StandsBy q (λ s. made s ++ older s)
stands_after {J} has_noted p q made older many went stands s core at =
    let y = core_there (slice_get q.stripes s) core at in
    let x = there p.stripes s (omega (arith, slice_get_within q.stripes s y.0 y.1.0, many)) in
    subst (λ (h : History Entry). StandsFor h core) (sym (map-append (λ (e : Entry). (0, e)) (made s) (older s)))
    (subst (StandsFor (by 0 (made s) ++ by 0 (older s))) y.1.1 ((went s x.0 y.0 x.1 y.1.0).stands (by 0 (older s)) (stands s x.0.core (ap core_in x.1))))

module _ {J : Type 0} (has_noted : J → History Entry → Type 0) (t : Spread) where
  pub did_none : (p : PagerSeen J) → DidLines has_noted t [] [] p p
  did_none p = record { same = stays_none p; made = λ s. []; went = all_none has_noted p; make = λ older stands s. refl }

  pub did_more : (xs ys : List Line) (ones bs : List Reply) (p q z : PagerSeen J) → DidLines has_noted t xs ones p q → DidLines has_noted t ys bs q z → DidLines has_noted t (xs ++ ys) (ones ++ bs) p z
  did_more xs ys ones bs p q z a b = record {
    same = stays_more p q z a.same b.same;
    made = λ s. b.made s ++ a.made s;
    went = all_more has_noted a.made b.made p q z a.same.stripes a.went b.went;
    make = λ older stands.
        make_all t (xs ++ ys) (ones ++ bs) older (λ s. b.made s ++ (a.made s ++ older s)) (λ s. (b.made s ++ a.made s) ++ older s) (λ s. append_assoc (b.made s) (a.made s) (older s))
        (make_more t xs ys ones bs older (λ s. a.made s ++ older s) (λ s. b.made s ++ (a.made s ++ older s)) (a.make older stands)
        (b.make (λ s. a.made s ++ older s) (stands_after has_noted p q a.made older a.same.stripes a.went stands)));
  }

  -- a line that makes nothing
  pub did_nothing : (l : Line) (a : Reply) (p : PagerSeen J) → Accesses t.page_size l a [] → Failure t.page_size l a [] → ((older : ℕ → List Entry) → LineGoes t l a older (λ s. [])) → DidLines has_noted t (l ∷ []) (a ∷ []) p p
  did_nothing l a p accesses failure goes = record {
    same = stays_none p;
    made = λ s. [];
    went = all_none has_noted p;
    make = λ older stands. (
      λ s. [],
      record {
        accesses = [];
        failure = [];
        accesses_are = accesses;
        failure_is = failure;
        in_order = order_none (stripe_in t) (may_make t.page_size l);
        goes = goes older;
      },
      λ s. refl,
    );
  }

-- ---- runs

pub any_append : (xs ys : List Reply) → list_any is_fault_reply (xs ++ ys) ≡ (list_any is_fault_reply xs || list_any is_fault_reply ys)
any_append [] ys = refl
any_append (x ∷ xs) ys = ap (λ b. is_fault_reply x || b) (any_append xs ys) ∙ or_assoc_ (is_fault_reply x) (list_any is_fault_reply xs) (list_any is_fault_reply ys)
  where
    or_assoc_ : (x y z : Bool) → (x || (y || z)) ≡ ((x || y) || z)
    or_assoc_ true y z = refl
    or_assoc_ false y z = refl

or_assoc : (x y z : Bool) → ((x || y) || z) ≡ (x || (y || z))
or_assoc true y z = refl
or_assoc false y z = refl

module _ {J : Type 0} (has_noted : J → History Entry → Type 0) (t : Spread) (gs : List Region) where
  pub ran_none : (r : Replies) (p : PagerSeen J) → Ran has_noted t gs [] r r p p
  ran_none r p = record {
    replies = [];
    text = sym (append-nil r.text.items);
    spare = omega arith;
    loaded = omega arith;
    added = omega arith;
    within = omega arith;
    faulted = sym (or-false r.faulted);
    pieces = omega arith;
    did = did_none has_noted t p;
  }
    where
      or-false : (x : Bool) → (x || false) ≡ x
      or-false true = refl
      or-false false = refl

  pub ran_more : (xs ys : List Line) (r0 r1 r2 : Replies) (p q z : PagerSeen J) → Ran has_noted t gs xs r0 r1 p q → Ran has_noted t gs ys r1 r2 q z → Ran has_noted t gs (xs ++ ys) r0 r2 p z
  ran_more xs ys r0 r1 r2 p q z a b =
      let shown : flat_map bytes_shown (a.replies ++ b.replies) ≡ flat_map bytes_shown a.replies ++ flat_map bytes_shown b.replies = flat_map-append bytes_shown a.replies b.replies in
      let long : length (flat_map bytes_shown (a.replies ++ b.replies)) ≡ length (flat_map bytes_shown a.replies) + length (flat_map bytes_shown b.replies) = ap length shown ∙ length-append (flat_map bytes_shown a.replies) (flat_map bytes_shown b.replies) in
      record {
        replies = a.replies ++ b.replies;
        text = b.text ∙ ap (λ (x : List ℕ). x ++ replies_text gs b.replies) a.text ∙ append_assoc r0.text.items (replies_text gs a.replies) (replies_text gs b.replies) ∙ ap (λ (x : List ℕ). r0.text.items ++ x) (sym (flat_map-append (reply_text gs) a.replies b.replies));
        spare = omega (arith, a.spare, b.spare, rooms-append gs xs ys);
        loaded = omega (arith, a.loaded, b.loaded, long);
        added = omega (arith, a.added, b.added, ap sum shown ∙ sum_by-append (λ (n : ℕ). n) (flat_map bytes_shown a.replies) (flat_map bytes_shown b.replies));
        within = omega (arith, a.within, b.within, long, bytes-append xs ys);
        faulted = b.faulted ∙ ap (λ x. x || list_any is_fault_reply b.replies) a.faulted ∙ or_assoc r0.faulted (list_any is_fault_reply a.replies) (list_any is_fault_reply b.replies) ∙ ap (λ x. r0.faulted || x) (sym (any_append a.replies b.replies));
        pieces = omega (arith, a.pieces, b.pieces, commands-append xs ys);
        did = did_more has_noted t xs ys a.replies b.replies p q z a.did b.did;
      }

  -- one line with its reply
  pub ran_one : (l : Line) (a : Reply) (r0 r1 : Replies) (p q : PagerSeen J) → r1.text.items ≡ r0.text.items ++ reply_text gs a → r0.text.spare ≤ r1.text.spare + room gs l → r1.loaded ≡ r0.loaded + length (bytes_shown a) → r1.sum ≡ r0.sum + sum (bytes_shown a)
      → length (bytes_shown a) ≤ loaded_bytes (l ∷ []) → r1.faulted ≡ (r0.faulted || is_fault_reply a)
      → q.spent ≤ p.spent + 65536 * command_count (l ∷ []) → DidLines has_noted t (l ∷ []) (a ∷ []) p q
      → Ran has_noted t gs (l ∷ []) r0 r1 p q
  ran_one l a r0 r1 p q text spare loaded added within faulted few did =
      let shown : flat_map bytes_shown (a ∷ []) ≡ bytes_shown a = append-nil (bytes_shown a) in
      record {
        replies = a ∷ [];
        text = text ∙ ap (λ (x : List ℕ). r0.text.items ++ x) (sym (append-nil (reply_text gs a)));
        spare = omega (arith, spare);
        loaded = omega (arith, loaded, ap length shown);
        added = omega (arith, added, ap sum shown);
        within = omega (arith, within, ap length shown);
        faulted = faulted ∙ ap (λ x. r0.faulted || x) (sym (or_none (is_fault_reply a)));
        pieces = few;
        did = did;
      }
    where
      or_none : (x : Bool) → (x || false) ≡ x
      or_none true = refl
      or_none false = refl
