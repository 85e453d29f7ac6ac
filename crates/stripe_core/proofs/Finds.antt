-- What a search through the resident pages finds.
use Rattle.std.proofs.Common.{Bool, IfSome, List, None, Option, Some, [], ap, arith, cond, false, get_or, inl, inr, is_some, length, map, not, refl, slice_get, subst, suc, sym, true, zero, ℕ, ◌&&◌, ◌<◌, ◌∙◌, ◌∷◌, ◌≡◌, ◌||◌}
use Rattle.std.proofs.lemmas.Bool.{cases_lt}
use Rattle.std.proofs.lemmas.List.{get_or_past}
use Rattle.std.proofs.lemmas.Option.{slice_get-map}
use Rattle.std.specs.List.{Contains, find}
use Rattle.std.specs.Option.{option_map}
use Rattle.page_base.specs.Pages.{same}
use Rattle.page_base.specs.declared.keys.Key.{Key}
use Rattle.soft_mmu.specs.declared.entry.PageEntry.{PageEntry}
use Rattle.soft_mmu.specs.declared.entry.PageEntry.TheVariants.{Absent}
use Rattle.soft_mmu.specs.Entries.{table_entry, region_entries, is_present, HasPage}
use Rattle.page_buffer.specs.Buffers.{BufferSeen}
use Rattle.page_model.specs.Core.{Core, Resident, page_at, pick_of, can_leave, dirties, is_dirty, is_home, is_writing}
use Rattle.page_model.specs.Core as core
use Rattle.page_model.specs.Residents.{is_in}
use Rattle.stripe_core.specs.InsideFrameStates.{leaves, pick_at}
use Rattle.stripe_core.specs.Parts.{Table, page_seen, pages_seen}
use Rattle.stripe_core.proofs.Keys.{same_self}
use Rattle.stripe_core.proofs.Looks.{found, page_key}

-- the keys of the pages that are seen are the buffer's
pub keys_seen : (t : Table) (b : BufferSeen) (ks : List Key) → map (λ (r : Resident). r.key) (map (page_seen t b) ks) ≡ ks
keys_seen t b [] = refl
keys_seen t b (k ∷ ks) = let here = page_key b k (table_entry t k) in let rest = keys_seen t b ks in cc (here, rest)

either : (b : Bool) → (b || true) ≡ true
either true = refl
either false = refl

-- a test of resident pages that goes by the key
pub picks : (c : Core) (test : Resident → Bool) (by_key : Key → Bool) (f : Key → Resident) (ks : List Key) → ((k : Key) → page_at c k ≡ Some (f k) → test (f k) ≡ by_key k)
    → ((k : Key) → is_in k ks ≡ true → page_at c k ≡ Some (f k)) → ((k : Key) → (f k).key ≡ k)
    → option_map pick_of (find test (map f ks)) ≡ option_map (pick_at c) (find by_key ks)
picks c test by_key f [] agree there key = refl
picks c test by_key f (k ∷ ks) agree there key =
    let here : page_at c k ≡ Some (f k) = there k (ap (λ b. b || is_in k ks) (same_self k)) in
    let bit : is_dirty c k ≡ (f k).dirty = ap dirties here in
    let made : pick_of (f k) ≡ pick_at c k = λ i. record { key = key k i; dirty = sym bit i } in
    let rest = picks c test by_key f ks agree (λ j m. there j (ap (λ b. same k j || b) m ∙ either (same k j))) key in
    let P : Bool → Type 0 = λ b. option_map pick_of (cond b (Some (f k)) (find test (map f ks))) ≡ option_map (pick_at c) (cond (by_key k) (Some k) (find by_key ks)) in
    subst P (sym (agree k here)) (go (by_key k) rest made)
  where
    go : (b : Bool) → option_map pick_of (find test (map f ks)) ≡ option_map (pick_at c) (find by_key ks) → pick_of (f k) ≡ pick_at c k
        → option_map pick_of (cond b (Some (f k)) (find test (map f ks))) ≡ option_map (pick_at c) (cond b (Some k) (find by_key ks))
    go true rest made = ap Some made
    go false rest made = rest

pub leaves_agree : (c : Core) (f : Key → Resident) → ((k : Key) → (f k).key ≡ k) → (k : Key) → page_at c k ≡ Some (f k) → can_leave c (f k) ≡ leaves c k
leaves_agree c f key k here =
    let test : Key → Bool → Bool = λ i d. not (is_writing c i) && (not d || is_home c i.region) in
    ap (λ i. test i (f k).dirty) (key k) ∙ ap (test k) (sym (ap dirties here))

-- what was found is among them
pub found_in : (p : Key → Bool) (ks : List Key) (k : Key) → find p ks ≡ Some k → is_in k ks ≡ true
found_in p [] k e = absurd cc
found_in p (j ∷ js) k e = go (p j) (found_in p js k) e
  where
    go : (b : Bool) → (find p js ≡ Some k → is_in k js ≡ true) → cond b (Some j) (find p js) ≡ Some k → (same j k || is_in k js) ≡ true
    go true ih e = let jk : j ≡ k = cc in let s : same j k ≡ true = rw jk (same_self k) in ap (λ b. b || is_in k js) s
    go false ih e = ap (λ b. same j k || b) (ih e) ∙ either (same j k)

-- a page that is present is one of the table's
pub present_has : (t : Table) (k : Key) → is_present (table_entry t k) ≡ true → HasPage t k
present_has t k e = record {
  region = elim (cases_lt k.region (length t)) [
    | inl lt ↦ lt
    | inr past ↦ let none : table_entry t k ≡ Absent = ap (λ (row : List PageEntry). get_or row k.page Absent) (get_or_past t k.region [] past) in let out : is_present (table_entry t k) ≡ false = ap is_present none in absurd cc
  ];
  page = elim (cases_lt k.page (length (region_entries t k.region))) [
    | inl lt ↦ lt
    | inr past ↦ let none : table_entry t k ≡ Absent = get_or_past (region_entries t k.region) k.page Absent past in let out : is_present (table_entry t k) ≡ false = ap is_present none in absurd cc
  ];
}

-- ---- pages that are among the buffer's

pub contained : (ks : List Key) (k : Key) → Contains ks k → is_in k ks ≡ true
contained ks k con = go ks con.0 con.1 con.2
  where
    go : (xs : List Key) (i : ℕ) → i < length xs → get_or xs i k ≡ k → is_in k xs ≡ true
    go [] i lt e = absurd (omega arith)
    go (x ∷ xs) zero lt e = let s : same x k ≡ true = rw e (same_self k) in ap (λ b. b || is_in k xs) s
    go (x ∷ xs) (suc i) lt e = ap (λ b. same x k || b) (go xs i (omega arith) e) ∙ either (same x k)

-- a page among them is present, as it is seen
pub held_seen : (c : Core) (t : Table) (b : BufferSeen) (k : Key) → pages_seen t b ≡ c.pages → is_in k b.residents ≡ true → page_at c k ≡ Some (page_seen t b k)
held_seen c t b k pages m = ap (find (λ (r : Resident). same r.key k)) (sym pages) ∙ (found t b k b.residents ∙ ap (λ x. cond x (Some (page_seen t b k)) None) m)

pub held_present : (c : Core) (t : Table) (b : BufferSeen) (k : Key) → pages_seen t b ≡ c.pages → is_in k b.residents ≡ true → core.is_present c k ≡ true
held_present c t b k pages m = ap is_some (held_seen c t b k pages m)

pub found_present : (c : Core) (t : Table) (b : BufferSeen) (p : Key → Bool) (o : Option Key) → pages_seen t b ≡ c.pages → o ≡ find p b.residents → IfSome o (λ k. core.is_present c k ≡ true)
found_present c t b p None pages e = tt
found_present c t b p (Some k) pages e = held_present c t b k pages (found_in p b.residents k (sym e))

-- the picks of the pages that are seen, by their keys
pub picks_seen : (c : Core) (t : Table) (b : BufferSeen) (test : Resident → Bool) (by_key : Key → Bool) (o : Option Key) → pages_seen t b ≡ c.pages
    → ((k : Key) → page_at c k ≡ Some (page_seen t b k) → test (page_seen t b k) ≡ by_key k) → o ≡ find by_key b.residents
    → option_map (pick_at c) o ≡ option_map pick_of (find test c.pages)
picks_seen c t b test by_key o pages agree e =
    let all = picks c test by_key (page_seen t b) b.residents agree (λ k m. held_seen c t b k pages m) (λ k. page_key b k (table_entry t k)) in
    ap (option_map (pick_at c)) e ∙ (sym all ∙ ap (λ ps. option_map pick_of (find test ps)) pages)

-- ---- the page at a place in the order

pub got_in : (ks : List Key) (i : ℕ) (k : Key) → slice_get ks i ≡ Some k → is_in k ks ≡ true
got_in [] i k e = absurd cc
got_in (j ∷ js) zero k e = let jk : j ≡ k = cc in let s : same j k ≡ true = rw jk (same_self k) in ap (λ b. b || is_in k js) s
got_in (j ∷ js) (suc i) k e = ap (λ b. same j k || b) (got_in js i k e) ∙ either (same j k)

pub got_pick : (c : Core) (t : Table) (b : BufferSeen) (i : ℕ) (k : Key) → pages_seen t b ≡ c.pages → slice_get b.residents i ≡ Some k → option_map pick_of (slice_get c.pages i) ≡ Some (pick_at c k)
got_pick c t b i k pages e =
    let there = held_seen c t b k pages (got_in b.residents i k e) in
    let bit : is_dirty c k ≡ (page_seen t b k).dirty = ap dirties there in
    let made : pick_of (page_seen t b k) ≡ pick_at c k = λ j. record { key = page_key b k (table_entry t k) j; dirty = sym bit j } in
    ap (λ ps. option_map pick_of (slice_get ps i)) (sym pages) ∙ (ap (option_map pick_of) (slice_get-map (page_seen t b) b.residents i) ∙ (ap (λ x. option_map pick_of (option_map (page_seen t b) x)) e ∙ ap (λ p. Some p) made))

pub got_none : (c : Core) (t : Table) (b : BufferSeen) (i : ℕ) → pages_seen t b ≡ c.pages → slice_get b.residents i ≡ None → None ≡ option_map pick_of (slice_get c.pages i)
got_none c t b i pages e =
    sym (ap (λ ps. option_map pick_of (slice_get ps i)) (sym pages) ∙ (ap (option_map pick_of) (slice_get-map (page_seen t b) b.residents i) ∙ ap (λ x. option_map pick_of (option_map (page_seen t b) x)) e))
