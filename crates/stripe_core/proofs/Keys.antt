-- Keys that are the same, and look-ups by key in table, frames and lists.
use Rattle.std.proofs.Common.{List, None, Some, [], ap, false, get_or, get_or-set_other, get_or-set_same, set, inl, inr, length, refl, sym, true, zero, suc, ℕ, ◌<◌, ◌≤◌, ◌==◌, ◌∙◌, ◌∷◌, ◌≡◌}
use Rattle.std.proofs.lemmas.Bool.{and_from, and_parts, cases_eq, cases_lt, eq-eqb, eqb-true, false_from_ne_true}
use Rattle.std.proofs.lemmas.List.{get_or_past}
use Rattle.page_base.specs.Pages.{same}
use Rattle.page_base.specs.declared.keys.Key.{Key}
use Rattle.soft_mmu.specs.declared.entry.PageEntry.{PageEntry}
use Rattle.soft_mmu.specs.declared.entry.PageEntry.TheVariants.{Absent}
use Rattle.soft_mmu.specs.Entries.{table_entry, region_entries, with_entry, HasPage}
use Rattle.page_buffer.specs.Frames.{FrameSeen, Free, resident_key}
use Rattle.page_buffer.specs.Buffers.{BufferSeen, frame_of, with_frame}
use Rattle.stripe_core.specs.Parts.{Table}
use Rattle.stripe_core.specs.InsideTied.{reserved_key}

pub same-true : (a b : Key) → same a b ≡ true → a ≡ b
same-true a b e =
    let parts = and_parts (a.page == b.page) (a.region == b.region) e in
    let p : a.page ≡ b.page = eqb-true a.page b.page parts.0 in
    let r : a.region ≡ b.region = eqb-true a.region b.region parts.1 in
    λ i. record { region = r i; page = p i }

pub same_self : (a : Key) → same a a ≡ true
same_self a = and_from (a.page == a.page) (a.region == a.region) (eq-eqb a.page a.page refl) (eq-eqb a.region a.region refl)

pub not_same : (a b : Key) → (a ≡ b → ⊥) → same a b ≡ false
not_same a b n = false_from_ne_true (same a b) (λ e. n (same-true a b e))

-- ---- entries

row_same : (t : Table) (j : Key) (e : PageEntry) → HasPage t j → region_entries (with_entry t j e) j.region ≡ set (region_entries t j.region) j.page e
row_same t j e h = get_or-set_same t j.region (set (region_entries t j.region) j.page e) [] h.region

pub entry_set : (t : Table) (j : Key) (e : PageEntry) → HasPage t j → table_entry (with_entry t j e) j ≡ e
entry_set t j e h = ap (λ (row : List PageEntry). get_or row j.page Absent) (row_same t j e h) ∙ get_or-set_same (region_entries t j.region) j.page e Absent h.page

pub entry_kept : (t : Table) (j k : Key) (e : PageEntry) → HasPage t j → (j ≡ k → ⊥) → table_entry (with_entry t j e) k ≡ table_entry t k
entry_kept t j k e h n = elim (cases_eq k.region j.region) [
  | inl r ↦
      let p : k.page ≡ j.page → ⊥ = λ p. n (λ i. record { region = sym r i; page = sym p i }) in
      let row : region_entries (with_entry t j e) k.region ≡ set (region_entries t k.region) j.page e = rw r (row_same t j e h) in
      ap (λ (xs : List PageEntry). get_or xs k.page Absent) row ∙ get_or-set_other (region_entries t k.region) j.page k.page e Absent p
  | inr o ↦ ap (λ (row : List PageEntry). get_or row k.page Absent) (get_or-set_other t j.region k.region (set (region_entries t j.region) j.page e) [] o)
]

length-set' : {A : Type 0} (xs : List A) (i : ℕ) (x : A) → length (set xs i x) ≡ length xs
length-set' [] i x = refl
length-set' (y ∷ ys) zero x = refl
length-set' (y ∷ ys) (suc i) x = ap suc (length-set' ys i x)

-- a change of one entry keeps which pages the table has
pub page_kept : (t : Table) (j k : Key) (e : PageEntry) → HasPage t j → HasPage t k → HasPage (with_entry t j e) k
page_kept t j k e h there = record {
  region = rw (length-set' t j.region (set (region_entries t j.region) j.page e)) there.region;
  page = elim (cases_eq k.region j.region) [
    | inl r ↦
        let row : region_entries (with_entry t j e) k.region ≡ set (region_entries t k.region) j.page e = rw r (row_same t j e h) in
        rw (row, length-set' (region_entries t k.region) j.page e) there.page
    | inr o ↦
        let row : region_entries (with_entry t j e) k.region ≡ region_entries t k.region = get_or-set_other t j.region k.region (set (region_entries t j.region) j.page e) [] o in
        rw row there.page
  ];
}

-- ---- frames

pub frame_set : (b : BufferSeen) (f : ℕ) (x : FrameSeen) → f < length b.frames → frame_of (with_frame b f x) f ≡ x
frame_set b f x h = get_or-set_same b.frames f x Free h

pub frame_kept : (b : BufferSeen) (f g : ℕ) (x : FrameSeen) → (g ≡ f → ⊥) → frame_of (with_frame b f x) g ≡ frame_of b g
frame_kept b f g x n = get_or-set_other b.frames f g x Free n

frame_past : (b : BufferSeen) (f : ℕ) → length b.frames ≤ f → frame_of b f ≡ Free
frame_past b f h = get_or_past b.frames f Free h

-- a frame with a page in it is one of the buffer's
pub resident_within : (b : BufferSeen) (f : ℕ) (k : Key) → resident_key (frame_of b f) ≡ Some k → f < length b.frames
resident_within b f k e = elim (cases_lt f (length b.frames)) [ inl lt ↦ lt | inr past ↦ let none : resident_key (frame_of b f) ≡ None = ap resident_key (frame_past b f past) in absurd cc ]

pub reserved_within : (b : BufferSeen) (f : ℕ) (k : Key) → reserved_key (frame_of b f) ≡ Some k → f < length b.frames
reserved_within b f k e = elim (cases_lt f (length b.frames)) [ inl lt ↦ lt | inr past ↦ let none : reserved_key (frame_of b f) ≡ None = ap reserved_key (frame_past b f past) in absurd cc ]
