-- What a change of one page's entry makes of the pages that are seen, where the page keeps its frame.
use Rattle.std.proofs.Common.{ap, arith, Bool, false, get_or-set_same, get_or-set_other, inl, inr, is_some, length-set, List, not, Option, refl, Some, subst, sym, true, ℕ, ◌&&◌, ◌∙◌, ◌≡◌}
use Rattle.stripe_core.specs.InsideParts.{ReadOut}
use Rattle.std.proofs.lemmas.Bool.{cases_Bool}
use Rattle.page_base.specs.Pages.{same}
use Rattle.page_base.specs.declared.keys.Key.{Key}
use Rattle.soft_mmu.specs.declared.entry.PageEntry.{PageEntry}
use Rattle.soft_mmu.specs.declared.entry.PageEntry.TheVariants.{Absent, Present}
use Rattle.soft_mmu.specs.Entries.{table_entry, with_entry, HasPage, is_present, is_protected, opened, closed, cleaned, bits_of}
use Rattle.page_buffer.specs.Buffers.{BufferSeen, marked, is_clean}
use Rattle.page_model.specs.Core.{Resident, protects, dirties}
use Rattle.page_model.specs.Steps.{on_page}
use Rattle.stripe_core.specs.Parts.{Table, page_in, page_seen, pages_seen}
use Rattle.stripe_core.specs.InsideTied.{Tied, dirt, frame_in}
use Rattle.stripe_core.proofs.Keys.{entry_set, entry_kept, same-true, same_self, resident_within}
use Rattle.stripe_core.proofs.Looks.{at_entry}
use Rattle.stripe_core.proofs.Ties.{SameFrames, frames_apart, pages_changed, one_changes}

other_key : (k j : Key) → same k j ≡ false → k ≡ j → ⊥
other_key k j n kj = let s : same k j ≡ true = rw (sym kj) (same_self k) in cc

-- the page keeps its frame
kept_frames : (t : Table) (k : Key) (e : PageEntry) → HasPage t k → frame_in e ≡ frame_in (table_entry t k) → (j : Key) → frame_in (table_entry (with_entry t k e) j) ≡ frame_in (table_entry t j)
kept_frames t k e has is j = elim (cases_Bool (same k j)) [
  | inl s ↦
      let kj : k ≡ j = same-true k j s in
      let P : Key → Type 0 = λ i. frame_in (table_entry (with_entry t k e) i) ≡ frame_in (table_entry t i) in
      subst P kj (ap frame_in (entry_set t k e has) ∙ is)
  | inr n ↦ ap frame_in (entry_kept t k j e has (other_key k j n))
]

-- the page keeps its frame and its dirty bit
pub entry_same : (t : Table) (b : BufferSeen) (k : Key) (e : PageEntry) → HasPage t k → frame_in e ≡ frame_in (table_entry t k) → dirt e ≡ dirt (table_entry t k) → SameFrames t (with_entry t k e) b b
entry_same t b k e has is same_dirt = record {
  residents = refl;
  entries = kept_frames t k e has is;
  held = λ g. refl;
  kept = λ g. refl;
  counted = refl;
  sizes = λ old. old;
  marks = λ old j f here. old j f (sym (kept_frames t k e has is j) ∙ here) ∙ ap not (sym (bit j));
}
  where
    bit : (j : Key) → dirt (table_entry (with_entry t k e) j) ≡ dirt (table_entry t j)
    bit j = elim (cases_Bool (same k j)) [
      | inl s ↦
          let kj : k ≡ j = same-true k j s in
          let P : Key → Type 0 = λ i. dirt (table_entry (with_entry t k e) i) ≡ dirt (table_entry t i) in
          subst P kj (ap dirt (entry_set t k e has) ∙ same_dirt)
      | inr n ↦ ap dirt (entry_kept t k j e has (other_key k j n))
    ]

-- the page keeps its frame, and its mark goes with its dirty bit
pub entry_marked : (t : Table) (b : BufferSeen) (outs : List (Option ReadOut)) (k : Key) (e : PageEntry) (f : ℕ) (m : Bool) → Tied t b outs → HasPage t k → frame_in e ≡ frame_in (table_entry t k) → frame_in (table_entry t k) ≡ Some f → m ≡ not (dirt e)
    → SameFrames t (with_entry t k e) b (marked b f m)
entry_marked t b outs k e f m tied has is at mark = record {
  residents = refl;
  entries = kept_frames t k e has is;
  held = λ g. refl;
  kept = λ g. refl;
  counted = refl;
  sizes = λ old. length-set b.clean f m ∙ old;
  marks = λ old j g here. elim (cases_Bool (same k j)) [
    | inl s ↦
        let kj : k ≡ j = same-true k j s in
        let now : frame_in (table_entry t j) ≡ Some g = sym (kept_frames t k e has is j) ∙ here in
        let at_j : frame_in (table_entry t j) ≡ Some f = ap (λ i. frame_in (table_entry t i)) (sym kj) ∙ at in
        let fg : f ≡ g = cc (now, at_j) in
        let held = resident_within b f k (tied.entries k f at) in
        let size = tied.sizes in
        let set : is_clean (marked b f m) f ≡ m = get_or-set_same b.clean f m false (omega arith) in
        let bit : dirt (table_entry (with_entry t k e) j) ≡ dirt e = ap (λ i. dirt (table_entry (with_entry t k e) i)) (sym kj) ∙ ap dirt (entry_set t k e has) in
        ap (is_clean (marked b f m)) (sym fg) ∙ (set ∙ (mark ∙ ap not (sym bit)))
    | inr n ↦
        let was : frame_in (table_entry t j) ≡ Some g = sym (kept_frames t k e has is j) ∙ here in
        let apart : g ≡ f → ⊥ = frames_apart t b outs j k f g tied was (tied.entries k f at) (λ jk. other_key k j n (sym jk)) in
        get_or-set_other b.clean f g m false apart ∙ (old j g was ∙ ap (λ x. not (dirt x)) (sym (entry_kept t k j e has (other_key k j n))))
  ];
}

-- the page changes as the core says
pub entry_changes : (t : Table) (b : BufferSeen) (k : Key) (e : PageEntry) (change : Resident → Resident) → HasPage t k
    → page_in b k e ≡ change (page_in b k (table_entry t k)) → pages_seen (with_entry t k e) b ≡ on_page k change (pages_seen t b)
entry_changes t b k e change has is =
    let new : Table = with_entry t k e in
    let here : page_seen new b k ≡ change (page_seen t b k) = ap (page_in b k) (entry_set t k e has) ∙ is in
    pages_changed k change (page_seen t b) (page_seen new b) b.residents
    (λ j. one_changes t new b b k change j here (λ n. ap (page_in b j) (entry_kept t k j e has n)))

-- ---- an entry that is opened, protected or cleaned

pub opened_frame : (e : PageEntry) → frame_in (opened e) ≡ frame_in e
opened_frame Absent = refl
opened_frame (Present p d f) = refl

pub closed_frame : (e : PageEntry) → frame_in (closed e) ≡ frame_in e
closed_frame Absent = refl
closed_frame (Present p d f) = refl

pub cleaned_frame : (e : PageEntry) → frame_in (cleaned e) ≡ frame_in e
cleaned_frame Absent = refl
cleaned_frame (Present p d f) = refl

pub opened_page : (b : BufferSeen) (k : Key) (e : PageEntry) → is_present e ≡ true → page_in b k (opened e) ≡ record (page_in b k e) { protected = false; dirty = true }
opened_page b k Absent h = absurd cc
opened_page b k (Present p d f) h = refl

pub closed_page : (b : BufferSeen) (k : Key) (e : PageEntry) → is_present e ≡ true → page_in b k (closed e) ≡ record (page_in b k e) { protected = true }
closed_page b k Absent h = absurd cc
closed_page b k (Present p d f) h = refl

pub cleaned_page : (b : BufferSeen) (k : Key) (e : PageEntry) → is_protected e ≡ true → page_in b k (cleaned e) ≡ record (page_in b k e) { dirty = (page_in b k e).dirty && not (page_in b k e).protected }
cleaned_page b k Absent h = absurd cc
cleaned_page b k (Present true true f) h = refl
cleaned_page b k (Present true false f) h = refl
cleaned_page b k (Present false d f) h = absurd cc

-- ---- what the core's tests of a page say of its entry

pub present_is : (b : BufferSeen) (k : Key) (e : PageEntry) → is_some (at_entry b k e) ≡ true → is_present e ≡ true
present_is b k Absent h = absurd cc
present_is b k (Present p d f) h = refl

pub guarded_is : (b : BufferSeen) (k : Key) (e : PageEntry) → protects (at_entry b k e) ≡ true → (is_present e ≡ true) × (is_protected e ≡ true)
guarded_is b k Absent h = absurd cc
guarded_is b k (Present p d f) h = (refl, h)

pub protected_is : (e : PageEntry) → (bits_of e).protected ≡ true → (is_present e ≡ true) × (is_protected e ≡ true)
protected_is Absent h = absurd cc
protected_is (Present p d f) h = (refl, h)

pub dirty_present : (b : BufferSeen) (k : Key) (e : PageEntry) → dirties (at_entry b k e) ≡ true → is_some (at_entry b k e) ≡ true
dirty_present b k Absent h = absurd cc
dirty_present b k (Present p d f) h = refl

-- a page that is open stays as it is
pub open_stays : (t : Table) (b : BufferSeen) (k : Key) → (bits_of (table_entry t k)).protected ≡ false → pages_seen t b ≡ on_page k (λ (r : Resident). record r { dirty = r.dirty && not r.protected }) (pages_seen t b)
open_stays t b k calm =
    let change : Resident → Resident = λ r. record r { dirty = r.dirty && not r.protected } in
    pages_changed k change (page_seen t b) (page_seen t b) b.residents
    (λ j. one_changes t t b b k change j (here (table_entry t k) calm) (λ n. refl))
  where
    here : (e : PageEntry) → (bits_of e).protected ≡ false → page_in b k e ≡ record (page_in b k e) { dirty = (page_in b k e).dirty && not (page_in b k e).protected }
    here Absent h = refl
    here (Present true d f) h = absurd cc
    here (Present false true f) h = refl
    here (Present false false f) h = refl

pub closed_dirt : (e : PageEntry) → dirt (closed e) ≡ dirt e
closed_dirt Absent = refl
closed_dirt (Present p d f) = refl

pub opened_dirt : (e : PageEntry) (f : ℕ) → frame_in e ≡ Some f → false ≡ not (dirt (opened e))
opened_dirt Absent f is = absurd cc
opened_dirt (Present p d g) f is = refl

pub cleaned_dirt : (e : PageEntry) (f : ℕ) → frame_in e ≡ Some f → true ≡ not (dirt (cleaned e))
cleaned_dirt Absent f is = absurd cc
cleaned_dirt (Present p d g) f is = refl
