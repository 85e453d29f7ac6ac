-- That a read's start and its ends keep table, frames and reads tied.
use Rattle.std.proofs.Common.{Bool, List, None, Option, Some, [], ap, arith, false, get_or-set_other, get_or-set_same, inl, inr, length, length-set, map, not, refl, set, subst, sym, true, ℕ, ◌++◌, ◌<◌, ◌∙◌, ◌∷◌, ◌≡◌, ◌||◌}
use Rattle.std.proofs.lemmas.Bool.{cases_Bool, cases_eq, cases_lt, or_parts}
use Rattle.std.proofs.lemmas.List.{get_or_past, map-append}
use Rattle.std.proofs.lemmas.List.Folds.{list_any-append}
use Rattle.std.specs.List.{count_by}
use Rattle.std.specs.Option.{is_some}
use Rattle.page_base.specs.Pages.{same}
use Rattle.page_base.specs.declared.keys.Key.{Key}
use Rattle.soft_mmu.specs.declared.entry.PageEntry.{PageEntry}
use Rattle.soft_mmu.specs.declared.entry.PageEntry.TheVariants.{Absent, Present}
use Rattle.soft_mmu.specs.Entries.{table_entry, with_entry, HasPage}
use Rattle.page_buffer.specs.Frames.{FrameSeen, Free, Reserved, resident_key, is_reserved, bytes_of, page_of}
use Rattle.page_buffer.specs.Frames as frame
use Rattle.page_buffer.specs.Buffers.{BufferSeen, frame_of, with_frame, filled, reserved_frames}
use Rattle.page_model.specs.Core.{Resident}
use Rattle.page_model.specs.Residents.{is_in}
use Rattle.stripe_core.specs.Parts.{Table, page_in, page_seen, pages_seen}
use Rattle.stripe_core.specs.InsideParts.{ReadOut}
use Rattle.stripe_core.specs.InsideTied.{Tied, dirt, frame_in, reserved_key, read_at}
use Rattle.stripe_core.proofs.Counted.{count_set, one_if}
use Rattle.stripe_core.proofs.Keys.{same-true, same_self, entry_set, entry_kept, frame_set, frame_kept, reserved_within}
use Rattle.stripe_core.proofs.Ties.{page_as}

-- ---- reads by region

read_set : (outs : List (Option ReadOut)) (r : ℕ) (x : Option ReadOut) → r < length outs → read_at (set outs r x) r ≡ x
read_set outs r x within = get_or-set_same outs r x None within

read_kept : (outs : List (Option ReadOut)) (r q : ℕ) (x : Option ReadOut) → (q ≡ r → ⊥) → read_at (set outs r x) q ≡ read_at outs q
read_kept outs r q x n = get_or-set_other outs r q x None n

read_within : (outs : List (Option ReadOut)) (r : ℕ) (o : ReadOut) → read_at outs r ≡ Some o → r < length outs
read_within outs r o e = elim (cases_lt r (length outs)) [ inl lt ↦ lt | inr past ↦ let none : read_at outs r ≡ None = get_or_past outs r None past in absurd cc ]

reserved_apart : (b : BufferSeen) (f g : ℕ) (j k : Key) → reserved_key (frame_of b f) ≡ Some k → reserved_key (frame_of b g) ≡ Some j → (j ≡ k → ⊥) → g ≡ f → ⊥
reserved_apart b f g j k e is n gf = let here : reserved_key (frame_of b f) ≡ Some j = rw (← gf) is in n (cc)

pub is_kept : (x : FrameSeen) (k : Key) → reserved_key x ≡ Some k → (x ≡ Reserved k) × (resident_key x ≡ None) × (is_reserved x ≡ true)
is_kept Free k e = absurd cc
is_kept (Reserved j) k e = let jk : j ≡ k = cc in (ap Reserved jk, refl, refl)
is_kept (frame.Resident j bytes) k e = absurd cc

holds_none : (b : BufferSeen) (f g : ℕ) (j : Key) → resident_key (frame_of b f) ≡ None → resident_key (frame_of b g) ≡ Some j → g ≡ f → ⊥
holds_none b f g j none e gf = let here : resident_key (frame_of b f) ≡ Some j = rw (← gf) e in cc

-- ---- a read starts: a free frame is kept for its page

pub start_tied : (t : Table) (b : BufferSeen) (outs : List (Option ReadOut)) (k : Key) (f : ℕ) → Tied t b outs → f < length b.frames → frame_of b f ≡ Free → k.region < length outs → read_at outs k.region ≡ None
    → Tied t (with_frame b f (Reserved k)) (set outs k.region (Some (record { key = k; frame = f })))
start_tied t b outs k f tied within is_free region home =
    let x : FrameSeen = Reserved k in
    let o : ReadOut = record { key = k; frame = f } in
    let here : frame_of (with_frame b f x) f ≡ x = frame_set b f x within in
    let none : resident_key (frame_of b f) ≡ None = ap resident_key is_free in
    record {
      residents = tied.residents;
      entries = λ j g e. let held = tied.entries j g e in ap resident_key (frame_kept b f g x (holds_none b f g j none held)) ∙ held;
      frames = λ g j e. elim (cases_eq g f) [
        | inl gf ↦ let there : resident_key (frame_of (with_frame b f x) g) ≡ None = rw gf (ap resident_key here) in absurd cc
        | inr n ↦ tied.frames g j (sym (ap resident_key (frame_kept b f g x n)) ∙ e)
      ];
      kept = λ g j e. elim (cases_eq g f) [
        | inl gf ↦
            let there : reserved_key (frame_of (with_frame b f x) g) ≡ Some k = rw gf (ap reserved_key here) in
            let kj : k ≡ j = cc in
            let P : Key → Type 0 = λ i. read_at (set outs k.region (Some o)) i.region ≡ Some (record { key = i; frame = g }) in
            subst P kj (read_set outs k.region (Some o) region ∙ ap (λ i. Some (record { key = k; frame = i })) (sym gf))
        | inr n ↦
            let was = tied.kept g j (sym (ap reserved_key (frame_kept b f g x n)) ∙ e) in
            read_kept outs k.region j.region (Some o) (λ r. let again : read_at outs j.region ≡ None = rw r home in cc) ∙ was
      ];
      reads = λ r p e. elim (cases_eq r k.region) [
        | inl rk ↦
            let there : read_at (set outs k.region (Some o)) r ≡ Some o = rw rk (read_set outs k.region (Some o) region) in
            let op : o ≡ p = cc in
            let P : ReadOut → Type 0 = λ i. (i.key.region ≡ r) × (reserved_key (frame_of (with_frame b f x) i.frame) ≡ Some i.key) in
            subst P op (sym rk, ap reserved_key here)
        | inr n ↦
            let was = tied.reads r p (sym (read_kept outs k.region r (Some o) n) ∙ e) in
            (was.0, ap reserved_key (frame_kept b f p.frame x (λ pf. let free_too : reserved_key (frame_of b p.frame) ≡ None = rw pf (ap reserved_key is_free) in cc)) ∙ was.1)
      ];
      counted =
          let frames = count_set is_reserved b.frames f x Free within in
          let before : one_if (is_reserved (frame_of b f)) ≡ 0 = ap (λ y. one_if (is_reserved y)) is_free in
          let reads = count_set is_some outs k.region (Some o) None region in
          let none_out : one_if (is_some (read_at outs k.region)) ≡ 0 = ap (λ y. one_if (is_some y)) home in
          let was = tied.counted in
          omega (arith, frames, before, reads, none_out, was);
      sizes = tied.sizes ∙ sym (length-set b.frames f x);
      marks = tied.marks;
    }

-- ---- a read ends: its frame is kept no more

-- the frame of the read that is out
pub record KeptFor (b : BufferSeen) (outs : List (Option ReadOut)) (k : Key) (f : ℕ) : Type 0 where
  pub frame : reserved_key (frame_of b f) ≡ Some k
  pub read : read_at outs k.region ≡ Some (record { key = k; frame = f })

ended_kept : (t : Table) (b : BufferSeen) (outs : List (Option ReadOut)) (k : Key) (f : ℕ) (x : FrameSeen) → Tied t b outs → KeptFor b outs k f → reserved_key x ≡ None
    → (g : ℕ) (j : Key) → reserved_key (frame_of (with_frame b f x) g) ≡ Some j → read_at (set outs k.region None) j.region ≡ Some (record { key = j; frame = g })
ended_kept t b outs k f x tied kept none g j e = elim (cases_eq g f) [
  | inl gf ↦ let there : reserved_key (frame_of (with_frame b f x) g) ≡ None = rw gf (ap reserved_key (frame_set b f x (reserved_within b f k kept.frame)) ∙ none) in absurd cc
  | inr n ↦
      let was = tied.kept g j (sym (ap reserved_key (frame_kept b f g x n)) ∙ e) in
      read_kept outs k.region j.region None (λ r. let again : read_at outs j.region ≡ Some (record { key = k; frame = f }) = rw r kept.read in let mine : ReadOut = record { key = j; frame = g } in let other : ReadOut = record { key = k; frame = f } in let same_read : mine ≡ other = cc in n (ap (λ (i : ReadOut). i.frame) same_read)) ∙ was
]

ended_reads : (t : Table) (b : BufferSeen) (outs : List (Option ReadOut)) (k : Key) (f : ℕ) (x : FrameSeen) → Tied t b outs → KeptFor b outs k f
    → (r : ℕ) (p : ReadOut) → read_at (set outs k.region None) r ≡ Some p → (p.key.region ≡ r) × (reserved_key (frame_of (with_frame b f x) p.frame) ≡ Some p.key)
ended_reads t b outs k f x tied kept r p e = elim (cases_eq r k.region) [
  | inl rk ↦ let there : read_at (set outs k.region None) r ≡ None = rw rk (read_set outs k.region None (read_within outs k.region (record { key = k; frame = f }) kept.read)) in absurd cc
  | inr n ↦
      let was = tied.reads r p (sym (read_kept outs k.region r None n) ∙ e) in
      let apart : p.frame ≡ f → ⊥ = λ pf. let again : reserved_key (frame_of b p.frame) ≡ Some k = rw pf kept.frame in let pk : p.key ≡ k = cc in n (sym was.0 ∙ ap (λ (i : Key). i.region) pk) in
      (was.0, ap reserved_key (frame_kept b f p.frame x apart) ∙ was.1)
]

ended_counted : (t : Table) (b : BufferSeen) (outs : List (Option ReadOut)) (k : Key) (f : ℕ) (x : FrameSeen) → Tied t b outs → KeptFor b outs k f → is_reserved x ≡ false
    → reserved_frames (with_frame b f x) ≡ count_by is_some (set outs k.region None)
ended_counted t b outs k f x tied kept none =
    let frames = count_set is_reserved b.frames f x Free (reserved_within b f k kept.frame) in
    let before : one_if (is_reserved (frame_of b f)) ≡ 1 = ap one_if (is_kept (frame_of b f) k kept.frame).2 in
    let after : one_if (is_reserved x) ≡ 0 = ap one_if none in
    let reads = count_set is_some outs k.region None None (read_within outs k.region (record { key = k; frame = f }) kept.read) in
    let one_out : one_if (is_some (read_at outs k.region)) ≡ 1 = ap (λ y. one_if (is_some y)) kept.read in
    let was = tied.counted in
    omega (arith, frames, before, after, reads, one_out, was)

-- the read failed
pub fail_tied : (t : Table) (b : BufferSeen) (outs : List (Option ReadOut)) (k : Key) (f : ℕ) → Tied t b outs → KeptFor b outs k f → Tied t (with_frame b f Free) (set outs k.region None)
fail_tied t b outs k f tied kept =
    let none : resident_key (frame_of b f) ≡ None = (is_kept (frame_of b f) k kept.frame).1 in
    record {
      residents = tied.residents;
      entries = λ j g e. let held = tied.entries j g e in ap resident_key (frame_kept b f g Free (holds_none b f g j none held)) ∙ held;
      frames = λ g j e. elim (cases_eq g f) [
        | inl gf ↦ let there : resident_key (frame_of (with_frame b f Free) g) ≡ None = rw gf (ap resident_key (frame_set b f Free (reserved_within b f k kept.frame))) in absurd cc
        | inr n ↦ tied.frames g j (sym (ap resident_key (frame_kept b f g Free n)) ∙ e)
      ];
      kept = ended_kept t b outs k f Free tied kept refl;
      reads = ended_reads t b outs k f Free tied kept;
      counted = ended_counted t b outs k f Free tied kept refl;
      sizes = tied.sizes ∙ sym (length-set b.frames f Free);
      marks = tied.marks;
    }

-- the buffer with page k resident in a frame, the newest
abbrev pub filled_with : BufferSeen → ℕ → Key → List ℕ → Bool → BufferSeen
filled_with b f k bytes clean =
    record b { frames = set b.frames f (frame.Resident k bytes); order = b.order ++ f ∷ []; residents = b.residents ++ k ∷ []; clean = set b.clean f clean }

pub filled_is : (b : BufferSeen) (f : ℕ) (k : Key) (bytes : List ℕ) (clean : Bool) → frame_of b f ≡ Reserved k → filled b f bytes clean ≡ filled_with b f k bytes clean
filled_is b f k bytes clean is = ap (λ x. filled_with b f (page_of x) bytes clean) is

-- the page is read in
pub fill_tied : (t : Table) (b : BufferSeen) (outs : List (Option ReadOut)) (k : Key) (f : ℕ) (p d : Bool) (bytes : List ℕ) → Tied t b outs → KeptFor b outs k f → HasPage t k → table_entry t k ≡ Absent
    → Tied (with_entry t k (Present p d f)) (filled_with b f k bytes (not d)) (set outs k.region None)
fill_tied t b outs k f p d bytes tied kept has absent =
    let x : FrameSeen = frame.Resident k bytes in
    let e : PageEntry = Present p d f in
    let none : resident_key (frame_of b f) ≡ None = (is_kept (frame_of b f) k kept.frame).1 in
    let here : frame_of (with_frame b f x) f ≡ x = frame_set b f x (reserved_within b f k kept.frame) in
    record {
      residents = λ j. list_any-append (λ i. same i j) b.residents (k ∷ []) ∙ elim (cases_Bool (same k j)) [
        | inl s ↦
            let kj : k ≡ j = same-true k j s in
            let now : is_some (frame_in (table_entry (with_entry t k e) j)) ≡ true = rw (← kj) (ap (λ y. is_some (frame_in y)) (entry_set t k e has)) in
            rw (s, now) (either (is_in j b.residents))
        | inr n ↦
            let now : table_entry (with_entry t k e) j ≡ table_entry t j = entry_kept t k j e has (λ kj. let s : same k j ≡ true = rw (← kj) (same_self k) in cc) in
            rw (n, now) (alone (is_in j b.residents) ∙ tied.residents j)
      ];
      entries = λ j g i. elim (cases_Bool (same k j)) [
        | inl s ↦
            let kj : k ≡ j = same-true k j s in
            let now : frame_in (table_entry (with_entry t k e) j) ≡ Some f = rw (← kj) (ap frame_in (entry_set t k e has)) in
            let fg : f ≡ g = cc in
            rw (← fg) (ap resident_key here ∙ ap (λ y. Some y) kj)
        | inr n ↦
            let now : table_entry (with_entry t k e) j ≡ table_entry t j = entry_kept t k j e has (λ kj. let s : same k j ≡ true = rw (← kj) (same_self k) in cc) in
            let held = tied.entries j g (sym (ap frame_in now) ∙ i) in
            ap resident_key (frame_kept b f g x (holds_none b f g j none held)) ∙ held
      ];
      frames = λ g j i. elim (cases_eq g f) [
        | inl gf ↦
            let there : resident_key (frame_of (with_frame b f x) g) ≡ Some k = rw gf (ap resident_key here) in
            let kj : k ≡ j = cc in
            rw (← kj) (ap frame_in (entry_set t k e has) ∙ ap (λ y. Some y) (sym gf))
        | inr n ↦
            let was = tied.frames g j (sym (ap resident_key (frame_kept b f g x n)) ∙ i) in
            ap frame_in (entry_kept t k j e has (λ kj. let gone : frame_in (table_entry t j) ≡ None = rw (← kj) (ap frame_in absent) in cc)) ∙ was
      ];
      kept = ended_kept t b outs k f x tied kept refl;
      reads = ended_reads t b outs k f x tied kept;
      counted = ended_counted t b outs k f x tied kept refl;
      sizes = length-set b.clean f (not d) ∙ (tied.sizes ∙ sym (length-set b.frames f x));
      marks = λ j g i. elim (cases_Bool (same k j)) [
        | inl s ↦
            let kj : k ≡ j = same-true k j s in
            let now : table_entry (with_entry t k e) j ≡ e = rw (← kj) (entry_set t k e has) in
            let there : frame_in (table_entry (with_entry t k e) j) ≡ Some f = ap frame_in now in
            let fg : f ≡ g = cc (there, i) in
            let within = reserved_within b f k kept.frame in
            let size = tied.sizes in
            rw (← fg, now) (get_or-set_same b.clean f (not d) false (omega arith))
        | inr n ↦
            let now : table_entry (with_entry t k e) j ≡ table_entry t j = entry_kept t k j e has (λ kj. let s : same k j ≡ true = rw (← kj) (same_self k) in cc) in
            let was : frame_in (table_entry t j) ≡ Some g = sym (ap frame_in now) ∙ i in
            get_or-set_other b.clean f g (not d) false (holds_none b f g j none (tied.entries j g was)) ∙ (tied.marks j g was ∙ ap (λ y. not (dirt y)) (sym now))
      ];
    }
  where
    either : (y : Bool) → (y || (true || false)) ≡ true
    either true = refl
    either false = refl

    alone : (y : Bool) → (y || (false || false)) ≡ y
    alone true = refl
    alone false = refl

-- ---- the pages that are seen

-- a frame without a page changes, to one without a page
pub pages_kept : (t : Table) (b : BufferSeen) (outs : List (Option ReadOut)) (f : ℕ) (x : FrameSeen) → Tied t b outs → resident_key (frame_of b f) ≡ None → pages_seen t (with_frame b f x) ≡ pages_seen t b
pages_kept t b outs f x tied none = each b.residents
  where
    each : (ks : List Key) → map (page_seen t (with_frame b f x)) ks ≡ map (page_seen t b) ks
    each [] = refl
    each (j ∷ js) =
        let here : page_seen t (with_frame b f x) j ≡ page_seen t b j = page_as b (with_frame b f x) j (table_entry t j) (λ g e. frame_kept b f g x (holds_none b f g j none (tied.entries j g e))) in
        let rest = each js in cc (here, rest)

-- the page that is read in is the newest
pub pages_filled : (t : Table) (b : BufferSeen) (outs : List (Option ReadOut)) (k : Key) (f : ℕ) (p d : Bool) (bytes : List ℕ) → Tied t b outs → KeptFor b outs k f → HasPage t k → table_entry t k ≡ Absent
    → pages_seen (with_entry t k (Present p d f)) (filled_with b f k bytes (not d)) ≡ pages_seen t b ++ record { key = k; protected = p; dirty = d; bytes = bytes } ∷ []
pages_filled t b outs k f p d bytes tied kept has absent =
    let x : FrameSeen = frame.Resident k bytes in
    let e : PageEntry = Present p d f in
    let none : resident_key (frame_of b f) ≡ None = (is_kept (frame_of b f) k kept.frame).1 in
    let out : is_in k b.residents ≡ false = tied.residents k ∙ ap (λ y. is_some (frame_in y)) absent in
    let other : (j : Key) → (k ≡ j → ⊥) → page_seen (with_entry t k e) (with_frame b f x) j ≡ page_seen t b j =
    λ j n. ap (page_in (with_frame b f x) j) (entry_kept t k j e has n) ∙ page_as b (with_frame b f x) j (table_entry t j) (λ g i. frame_kept b f g x (holds_none b f g j none (tied.entries j g i))) in
    let new : page_seen (with_entry t k e) (with_frame b f x) k ≡ record { key = k; protected = p; dirty = d; bytes = bytes } =
    ap (page_in (with_frame b f x) k) (entry_set t k e has) ∙ ap (λ y. record { key = k; protected = p; dirty = d; bytes = bytes_of y }) (frame_set b f x (reserved_within b f k kept.frame)) in
    map-append (page_seen (with_entry t k e) (with_frame b f x)) b.residents (k ∷ [])
    ∙ (ap (λ ps. ps ++ page_seen (with_entry t k e) (with_frame b f x) k ∷ []) (each (page_seen (with_entry t k e) (with_frame b f x)) (page_seen t b) other b.residents out)
    ∙ ap (λ y. map (page_seen t b) b.residents ++ y ∷ []) new)
  where
    each : (new old : Key → Resident) → ((j : Key) → (k ≡ j → ⊥) → new j ≡ old j) → (ks : List Key) → is_in k ks ≡ false → map new ks ≡ map old ks
    each new old same_one [] out = refl
    each new old same_one (j ∷ js) out =
        let parts = or_parts (same j k) (is_in k js) out in
        let here = same_one j (λ kj. let s : same j k ≡ true = rw (← kj) (same_self k) in cc) in
        let rest = each new old same_one js parts.1 in cc (here, rest)
