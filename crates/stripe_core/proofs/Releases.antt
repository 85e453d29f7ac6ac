-- That an eviction keeps table, frames and reads tied, and that the page alone leaves.
use Rattle.std.proofs.Common.{Bool, List, None, Option, Some, [], ap, arith, cond, false, inl, inr, length-set, map, not, refl, subst, sym, true, ℕ, ◌∙◌, ◌∷◌, ◌≡◌, ◌||◌}
use Rattle.std.proofs.lemmas.Bool.{cases_Bool, cases_eq}
use Rattle.std.specs.Option.{is_some}
use Rattle.page_base.specs.Pages.{same}
use Rattle.page_base.specs.declared.keys.Key.{Key}
use Rattle.soft_mmu.specs.declared.entry.PageEntry.TheVariants.{Absent}
use Rattle.soft_mmu.specs.Entries.{table_entry, with_entry, HasPage}
use Rattle.page_buffer.specs.Frames.{FrameSeen, Free, Reserved, resident_key, is_reserved, page_of}
use Rattle.page_buffer.specs.Frames as frame
use Rattle.page_buffer.specs.Buffers.{BufferSeen, frame_of, with_frame, released, without}
use Rattle.page_model.specs.Core.{Resident}
use Rattle.page_model.specs.Residents.{is_in}
use Rattle.page_model.specs.Steps.{without_page}
use Rattle.stripe_core.specs.Parts.{Table, page_in, page_seen, pages_seen}
use Rattle.stripe_core.specs.InsideParts.{ReadOut}
use Rattle.stripe_core.specs.InsideTied.{Tied, dirt, frame_in, reserved_key}
use Rattle.stripe_core.proofs.Counted.{count_set, one_if}
use Rattle.stripe_core.proofs.Keys.{same-true, same_self, entry_set, entry_kept, frame_set, frame_kept, resident_within}
use Rattle.stripe_core.proofs.Looks.{page_key}
use Rattle.stripe_core.proofs.Ties.{page_as, frames_apart}

-- ---- the order without one page

pub gone : (k : Key) (ks : List Key) → is_in k (without k ks) ≡ false
gone k [] = refl
gone k (j ∷ js) = go (same j k) refl (gone k js)
  where
    go : (x : Bool) → same j k ≡ x → is_in k (without k js) ≡ false → is_in k (cond (not x) (j ∷ without k js) (without k js)) ≡ false
    go true s ih = ih
    go false s ih = rw (s, ih) refl

pub others_stay : (j k : Key) (ks : List Key) → same k j ≡ false → is_in j (without k ks) ≡ is_in j ks
others_stay j k [] n = refl
others_stay j k (i ∷ is) n = go (same i k) refl (others_stay j k is n)
  where
    go : (x : Bool) → same i k ≡ x → is_in j (without k is) ≡ is_in j is → is_in j (cond (not x) (i ∷ without k is) (without k is)) ≡ (same i j || is_in j is)
    go true s ih = let ik : i ≡ k = same-true i k s in let out : same i j ≡ false = rw ik n in rw out ih
    go false s ih = ap (λ y. same i j || y) ih

pub others_seen : (k : Key) (new old : Key → Resident) → ((j : Key) → (old j).key ≡ j) → ((j : Key) → (k ≡ j → ⊥) → new j ≡ old j) → (ks : List Key) → map new (without k ks) ≡ without_page k (map old ks)
others_seen k new old key same_one [] = refl
others_seen k new old key same_one (j ∷ js) =
    let P : Key → Type 0 = λ i. map new (without k (j ∷ js)) ≡ cond (not (same i k)) (old j ∷ without_page k (map old js)) (without_page k (map old js)) in
    subst P (sym (key j)) (go (same j k) refl (others_seen k new old key same_one js))
  where
    go : (x : Bool) → same j k ≡ x → map new (without k js) ≡ without_page k (map old js) → map new (cond (not x) (j ∷ without k js) (without k js)) ≡ cond (not x) (old j ∷ without_page k (map old js)) (without_page k (map old js))
    go true s ih = ih
    go false s ih = let one = same_one j (λ kj. let t : same j k ≡ true = rw kj (same_self j) in cc) in cc (one, ih)

-- ---- the frame

holds : (x : FrameSeen) (k : Key) → resident_key x ≡ Some k → (page_of x ≡ k) × (is_reserved x ≡ false) × (reserved_key x ≡ None)
holds Free k e = absurd cc
holds (Reserved j) k e = absurd cc
holds (frame.Resident j bytes) k e = (cc, refl, refl)

pub release_tied : (t : Table) (b : BufferSeen) (outs : List (Option ReadOut)) (k : Key) (f : ℕ) → Tied t b outs → HasPage t k → frame_in (table_entry t k) ≡ Some f → Tied (with_entry t k Absent) (released b f) outs
release_tied t b outs k f tied has is =
    let held : resident_key (frame_of b f) ≡ Some k = tied.entries k f is in
    let within = resident_within b f k held in
    let here : frame_of (with_frame b f Free) f ≡ Free = frame_set b f Free within in
    let what = holds (frame_of b f) k held in
    let apart : (j : Key) → same k j ≡ false → k ≡ j → ⊥ = λ j n kj. let s : same k j ≡ true = rw (← kj) (same_self k) in cc in
    record {
      residents = λ j. rw what.0 (elim (cases_Bool (same k j)) [
        | inl s ↦
            let kj : k ≡ j = same-true k j s in
            let none : frame_in (table_entry (with_entry t k Absent) k) ≡ None = ap frame_in (entry_set t k Absent has) in
            let P : Key → Type 0 = λ i. is_in i (without k b.residents) ≡ is_some (frame_in (table_entry (with_entry t k Absent) i)) in
            subst P kj (gone k b.residents ∙ sym (ap is_some none))
        | inr n ↦ others_stay j k b.residents n ∙ (tied.residents j ∙ sym (ap (λ y. is_some (frame_in y)) (entry_kept t k j Absent has (apart j n))))
      ]);
      entries = λ j g e. elim (cases_Bool (same k j)) [
        | inl s ↦
            let kj : k ≡ j = same-true k j s in
            let none : frame_in (table_entry (with_entry t k Absent) j) ≡ None = rw (← kj) (ap frame_in (entry_set t k Absent has)) in
            absurd cc
        | inr n ↦
            let was : frame_in (table_entry t j) ≡ Some g = sym (ap frame_in (entry_kept t k j Absent has (apart j n))) ∙ e in
            ap resident_key (frame_kept b f g Free (frames_apart t b outs j k f g tied was held (λ jk. apart j n (sym jk)))) ∙ tied.entries j g was
      ];
      frames = λ g j e. elim (cases_eq g f) [
        | inl gf ↦ let none : resident_key (frame_of (with_frame b f Free) g) ≡ None = rw gf (ap resident_key here) in absurd cc
        | inr n ↦
            let was : frame_in (table_entry t j) ≡ Some g = tied.frames g j (sym (ap resident_key (frame_kept b f g Free n)) ∙ e) in
            let other : k ≡ j → ⊥ = λ kj. let again : frame_in (table_entry t j) ≡ Some f = rw (← kj) is in n (cc) in
            ap frame_in (entry_kept t k j Absent has other) ∙ was
      ];
      kept = λ g j e. elim (cases_eq g f) [
        | inl gf ↦ let none : reserved_key (frame_of (with_frame b f Free) g) ≡ None = rw gf (ap reserved_key here) in absurd cc
        | inr n ↦ tied.kept g j (sym (ap reserved_key (frame_kept b f g Free n)) ∙ e)
      ];
      reads = λ r o e.
          let was = tied.reads r o e in
          let other : o.frame ≡ f → ⊥ = λ of_. let none : reserved_key (frame_of b o.frame) ≡ None = rw of_ what.2 in cc in
          (was.0, ap reserved_key (frame_kept b f o.frame Free other) ∙ was.1);
      counted =
          let all = count_set is_reserved b.frames f Free Free within in
          let bits : one_if (is_reserved (frame_of b f)) ≡ 0 = ap one_if what.1 in
          omega (arith, all, bits, tied.counted);
      sizes = tied.sizes ∙ sym (length-set b.frames f Free);
      marks = λ j g e. elim (cases_Bool (same k j)) [
        | inl s ↦
            let kj : k ≡ j = same-true k j s in
            let none : frame_in (table_entry (with_entry t k Absent) j) ≡ None = rw (← kj) (ap frame_in (entry_set t k Absent has)) in
            absurd cc
        | inr n ↦
            let now : table_entry (with_entry t k Absent) j ≡ table_entry t j = entry_kept t k j Absent has (apart j n) in
            tied.marks j g (sym (ap frame_in now) ∙ e) ∙ ap (λ y. not (dirt y)) (sym now)
      ];
    }

pub pages_released : (t : Table) (b : BufferSeen) (outs : List (Option ReadOut)) (k : Key) (f : ℕ) → Tied t b outs → HasPage t k → frame_in (table_entry t k) ≡ Some f
    → pages_seen (with_entry t k Absent) (released b f) ≡ without_page k (pages_seen t b)
pages_released t b outs k f tied has is =
    let held : resident_key (frame_of b f) ≡ Some k = tied.entries k f is in
    let page : page_of (frame_of b f) ≡ k = (holds (frame_of b f) k held).0 in
    rw page (others_seen k (page_seen (with_entry t k Absent) (released b f)) (page_seen t b) (λ j. page_key b j (table_entry t j))
    (λ j n. ap (page_in (released b f) j) (entry_kept t k j Absent has n) ∙ page_as b (released b f) j (table_entry t j)
    (λ g e. frame_kept b f g Free (frames_apart t b outs j k f g tied e held (λ jk. n (sym jk))))) b.residents)
