-- The loop of an access: what its turns have done so far, and what it ends with.
use Rattle.std.proofs.Common.{Bool, List, None, Option, Some, [], ap, arith, cond, false, inl, inr, is_some, not, refl, subst, sym, true, ◌*◌, ◌+◌, ◌∙◌, ◌∷◌, ◌≡◌, ◌<◌, ◌≤◌, ◌||◌}
use Rattle.std.proofs.lemmas.Bool.{and_from, and_parts}
use Rattle.std.specs.List.{list_all}
use Rattle.histories.specs.Histories.{History}
use Rattle.page_base.specs.declared.keys.Key.{Key}
use Rattle.page_base.specs.declared.keys.Why.{Why}
use Rattle.page_base.specs.declared.keys.Why.TheVariants.{Protected, Read, Write}
use Rattle.page_model.specs.declared.entry.Entry.{Entry}
use Rattle.page_model.specs.declared.entry.Entry.TheVariants as entry
use Rattle.page_model.specs.Core.{Core, Resident, is_closing, is_present, protects}
use Rattle.page_model.specs.Faults.{is_write}
use Rattle.serial_pager.specs.declared.fault.PageFault.{PageFault}
use Rattle.serial_pager.specs.Accesses.{AccessFails, is_for_store, is_read, serves}
use Rattle.serial_pager.specs.Goings.{Went, WentTo}
use Rattle.serial_pager.specs.InsideGoings.{WentBy}
use Rattle.serial_pager.specs.Rests.{ClosesSame, IsAtRest}
use Rattle.serial_pager.specs.Seen.{StripeSeen}
use Rattle.serial_pager.specs.InsideServices.{Raises, Serves, is_shut, why_shut}
use Rattle.serial_pager.proofs.Closed.{closes_nothing, closes_same}
use Rattle.serial_pager.proofs.Goes.{by_none, by_twice, to_after, to_these}
use Rattle.serial_pager.proofs.Turns.{misses, own, turns_left, absent_page, raises_no_more, serves_fewer, few_turns}
use Rattle.serial_pager.proofs.ModelLaws.{Laws}
use Rattle.serial_pager.proofs.Pages.{page_in}

pub list_weaker : (p q : Entry → Bool) (es : List Entry) → ((e : Entry) → p e ≡ true → q e ≡ true) → list_all p es ≡ true → list_all q es ≡ true
list_weaker p q [] f e = refl
list_weaker p q (x ∷ es) f e =
    let parts = and_parts (p x) (list_all p es) e in
    rw (f x parts.0, list_weaker p q es f parts.1) refl

-- ---- which regions close

serve_closes : (k : Key) (reasons : Why → Bool) (e : Entry) → serves k reasons e ≡ true → closes_nothing e ≡ true
serve_closes k reasons (entry.Closing r) e = absurd cc
serve_closes k reasons x e = refl

pub serving_closes_nothing : (k : Key) (reasons : Why → Bool) (es : List Entry) → list_all (serves k reasons) es ≡ true → list_all closes_nothing es ≡ true
serving_closes_nothing k reasons es e = list_weaker (serves k reasons) closes_nothing es (serve_closes k reasons) e

pub serving_closes : (laws : Laws) {J : Type 0} (noted : J → History Entry → Type 0) (k : Key) (reasons : Why → Bool) (es : List Entry) (old new : StripeSeen J) → IsAtRest old.core → Went 0 noted es old new → list_all (serves k reasons) es ≡ true → ClosesSame old.core new.core
serving_closes laws noted k reasons es old new rest w pass = closes_same laws noted es old new rest w (serving_closes_nothing k reasons es pass)

-- ---- a fault that is raised

raises_pages : (k : Key) (why : Why) (c d : Core) → Raises k why c d → d.pages ≡ c.pages
raises_pages k why c d w = elim w [ inl new ↦ ap (λ (x : Core). x.pages) new.1 | inr as_before ↦ ap (λ (x : Core). x.pages) as_before.1 ]

pub raises_events : (k : Key) (why : Why) (c d : Core) → Raises k why c d → d.events ≤ c.events + 1
raises_events k why c d w = elim w [
  | inl new ↦ let n : d.events ≡ c.events + 1 = ap (λ (x : Core). x.events) new.1 in omega (arith, n)
  | inr as_before ↦ let n : d.events ≡ c.events = ap (λ (x : Core). x.events) as_before.1 in omega (arith, n)
]

-- ---- the loop

-- the turns that an access of page k took from `old` to `new`
pub record Turned {J : Type 0} (has_noted : J → History Entry → Type 0) (stores : Bool) (reasons : Why → Bool) (k : Key) (old new : StripeSeen J) : Type 0 where
  pub rest : IsAtRest new.core
  pub went : WentBy 0 has_noted (serves k reasons) old new
  pub fewer : new.core.events + 3 * turns_left stores new.core k ≤ old.core.events + 3 * turns_left stores old.core k

module _ {J : Type 0} (noted : J → History Entry → Type 0) (stores : Bool) (reasons : Why → Bool) (k : Key) where
  pub turned_none : (a : StripeSeen J) → IsAtRest a.core → Turned noted stores reasons k a a
  turned_none a rest = record { rest = rest; went = by_none noted (serves k reasons) a; fewer = omega arith }

  -- what an access has raised and not yet been served
  pub record Asked (why : Why) (a b : StripeSeen J) : Type 0 where
    pub rest : IsAtRest b.core
    pub went : WentBy 0 noted (serves k reasons) a b
    pub raises : Raises k why a.core b.core
    pub missed : misses stores (page_in b.core.pages k) ≡ true
    pub right : own stores (page_in b.core.pages k) (Some (record { key = k; why = why })) ≡ 0

  asked_turns : (why : Why) (a b : StripeSeen J) → Asked why a b → turns_left stores b.core k ≤ turns_left stores a.core k
  asked_turns why a b q =
      let pages : page_in b.core.pages k ≡ page_in a.core.pages k = ap (λ rs. page_in rs k) (raises_pages k why a.core b.core q.raises) in
      raises_no_more stores k why a.core b.core q.raises (subst (λ o. misses stores o ≡ true) pages q.missed) (subst (λ o. own stores o (Some (record { key = k; why = why })) ≡ 0) pages q.right)

  -- the page's region is open still
  pub turned_open : (laws : Laws) (o a : StripeSeen J) → IsAtRest o.core → Turned noted stores reasons k o a → is_closing o.core k.region ≡ false → is_closing a.core k.region ≡ false
  turned_open laws o a rest t open_ = serving_closes laws noted k reasons t.went.entries o a rest t.went.went t.went.pass k.region ∙ open_

  -- a whole turn
  pub record Turn (o a c : StripeSeen J) : Type 0 where
    pub turned : Turned noted stores reasons k o c
    pub less : turns_left stores c.core k < turns_left stores a.core k

  pub turn : (laws : Laws) (why : Why) (o a b c : StripeSeen J) → IsAtRest o.core → Turned noted stores reasons k o a → Asked why a b → is_closing o.core k.region ≡ false
      → IsAtRest c.core → WentBy 0 noted (serves k reasons) b c → Serves k b.core c.core → c.core.events ≤ b.core.events + 2 → Turn o a c
  turn laws why o a b c first t q open_ rest went w two = record {
    turned = record {
      rest = rest;
      went = by_twice noted (serves k reasons) o a c t.went (by_twice noted (serves k reasons) a b c q.went went);
      fewer = omega (arith, less, most, one, two, t.fewer);
    };
    less = omega (arith, less, most);
  }
    where
      still : is_closing b.core k.region ≡ false
      still = serving_closes laws noted k reasons q.went.entries a b t.rest q.went.went q.went.pass k.region ∙ turned_open laws o a first t open_

      less : turns_left stores c.core k < turns_left stores b.core k
      less = serves_fewer laws stores k b.core c.core q.rest still w q.missed

      most : turns_left stores b.core k ≤ turns_left stores a.core k
      most = asked_turns why a b q

      one : b.core.events ≤ a.core.events + 1
      one = raises_events k why a.core b.core q.raises

  pub turned_few : (laws : Laws) (o a : StripeSeen J) → IsAtRest o.core → Turned noted stores reasons k o a → a.core.events + 4 ≤ o.core.events + 65536
  turned_few laws o a rest t =
      let most = few_turns laws stores o.core k rest in
      let sofar = t.fewer in
      omega (arith, most, sofar)

  -- ---- its end

  ended_closes : (laws : Laws) (last : Entry) (o c : StripeSeen J) → IsAtRest o.core → closes_nothing last ≡ true → WentTo 0 noted (serves k reasons) last o c → ClosesSame o.core c.core
  ended_closes laws last o c rest opens w = closes_same laws noted (last ∷ w.before) o c rest w.went (and_from (closes_nothing last) (list_all closes_nothing w.before) opens (serving_closes_nothing k reasons w.before w.pass))

  -- with this entry
  pub record Ends (last : Entry) (o c : StripeSeen J) : Type 0 where
    pub setup : c.core.setup ≡ o.core.setup
    pub few : c.core.events ≤ o.core.events + 65536
    pub closes : ClosesSame o.core c.core
    pub ok : WentTo 0 noted (serves k reasons) last o c

  pub ends : (laws : Laws) (last : Entry) (o a c : StripeSeen J) → IsAtRest o.core → closes_nothing last ≡ true → Turned noted stores reasons k o a → Went 0 noted (last ∷ []) a c → Ends last o c
  ends laws last o a c rest opens t w =
      let went = to_after noted (serves k reasons) last o a c t.went (to_these noted (serves k reasons) last [] a c w refl) in
      let sofar = turned_few laws o a rest t in
      let one = w.events in
      record { setup = went.went.setup; few = omega (arith, sofar, one); closes = ended_closes laws last o c rest opens went; ok = went }

  -- or with a failed call of the store
  pub record Fails (o c : StripeSeen J) (f : PageFault) : Type 0 where
    pub setup : c.core.setup ≡ o.core.setup
    pub few : c.core.events ≤ o.core.events + 65536
    pub closes : ClosesSame o.core c.core
    pub err : AccessFails 0 noted k reasons o c f

  pub fails : (laws : Laws) (why : Why) (o a b c : StripeSeen J) (f : PageFault) → IsAtRest o.core → Turned noted stores reasons k o a → Asked why a b → c.core.events ≤ b.core.events + 2
      → AccessFails 0 noted k reasons b c f → Fails o c f
  fails laws why o a b c f rest t q two w = elim w [
    | inl read ↦ let went = after (entry.ReadFailed f.key f.faults) read.went in record { setup = went.went.setup; few = few; closes = ended_closes laws (entry.ReadFailed f.key f.faults) o c rest refl went; err = inl (record { key = read.key; went = went }) }
    | inr write ↦ let went = after (entry.WriteFailed f.key f.faults) write in record { setup = went.went.setup; few = few; closes = ended_closes laws (entry.WriteFailed f.key f.faults) o c rest refl went; err = inr went }
  ]
    where
      few : c.core.events ≤ o.core.events + 65536
      few = let one = raises_events k why a.core b.core q.raises in let sofar = turned_few laws o a rest t in omega (arith, one, two, sofar)

      after : (last : Entry) → WentTo 0 noted (serves k reasons) last b c → WentTo 0 noted (serves k reasons) last o c
      after last went = to_after noted (serves k reasons) last o b c (by_twice noted (serves k reasons) o a b t.went q.went) went

-- ---- what is asked

module _ {J : Type 0} (noted : J → History Entry → Type 0) (k : Key) (a b : StripeSeen J) where
  pub asks_load : IsAtRest b.core → WentBy 0 noted (serves k is_read) a b → Raises k Read a.core b.core → is_present b.core k ≡ false → Asked noted false is_read k Read a b
  asks_load rest went raises gone =
      let none : page_in b.core.pages k ≡ None = absent_page b.core k gone in
      record {
        rest = rest;
        went = went;
        raises = raises;
        missed = ap (misses false) none;
        right = ap (λ o. own false o (Some (record { key = k; why = Read }))) none;
      }

  pub asks_store : IsAtRest b.core → WentBy 0 noted (serves k is_for_store) a b → Raises k (why_shut a.core k) a.core b.core → is_shut b.core k ≡ true → Asked noted true is_for_store k (why_shut a.core k) a b
  asks_store rest went raises shut =
      record {
        rest = rest;
        went = went;
        raises = raises;
        missed = miss (page_in b.core.pages k) shut;
        right = right (page_in b.core.pages k) (ap is_some (ap (λ rs. page_in rs k) (raises_pages k (why_shut a.core k) a.core b.core raises)));
      }
    where
      miss : (o : Option Resident) → (not (is_some o) || protects o) ≡ true → misses true o ≡ true
      miss None e = refl
      miss (Some r) e = e

      wrong : (x : Bool) → x ≡ false → is_write (cond x Protected Write) ≡ true
      wrong true e = absurd cc
      wrong false e = refl

      right : (o : Option Resident) → is_some o ≡ is_present a.core k → own true o (Some (record { key = k; why = why_shut a.core k })) ≡ 0
      right None e = ap (λ x. cond x 0 1) (wrong (is_present a.core k) (sym e))
      right (Some r) e = refl
