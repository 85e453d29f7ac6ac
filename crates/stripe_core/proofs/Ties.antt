-- That a change of bits or bytes keeps table, frames and reads tied, and what it makes of the pages that are seen.
use Rattle.std.proofs.Common.{Bool, List, not, length-set, None, Option, Some, [], ap, arith, cond, drop, false, inl, inr, length, length-append, length-drop, length-take, map, refl, subst, sym, take, true, ℕ, ◌+◌, ◌++◌, ◌-◌, ◌<◌, ◌∙◌, ◌∷◌, ◌≡◌, ◌≤◌}
use Rattle.std.proofs.lemmas.Bool.{cases_eq}
use Rattle.std.proofs.lemmas.Grind.{common_steps}
use Rattle.std.proofs.lemmas.List.{drop-drop}
use Rattle.std.specs.Option.{is_some}
use Rattle.page_base.specs.ListSeen.{spliced}
use Rattle.page_base.specs.Pages.{same}
use Rattle.page_base.specs.declared.keys.Key.{Key}
use Rattle.soft_mmu.specs.declared.entry.PageEntry.{PageEntry}
use Rattle.soft_mmu.specs.declared.entry.PageEntry.TheVariants.{Absent, Present}
use Rattle.soft_mmu.specs.Entries.{table_entry}
use Rattle.page_buffer.specs.Frames.{FrameSeen, Free, Reserved, resident_key, is_reserved, bytes_of, with_bytes, refilled}
use Rattle.page_buffer.specs.Frames as frame
use Rattle.page_buffer.specs.Buffers.{BufferSeen, frame_of, with_frame, with_page, is_clean, reserved_frames}
use Rattle.page_model.specs.Core.{Resident}
use Rattle.page_model.specs.Residents.{is_in}
use Rattle.page_model.specs.Steps.{on_page}
use Rattle.stripe_core.specs.Parts.{Table, page_in, page_seen, pages_seen}
use Rattle.stripe_core.specs.InsideParts.{ReadOut}
use Rattle.stripe_core.specs.InsideTied.{Tied, dirt, frame_in, reserved_key}
use Rattle.stripe_core.proofs.Counted.{count_set, one_if}
use Rattle.stripe_core.proofs.Keys.{same-true, same_self, frame_set, frame_kept, resident_within}
use Rattle.stripe_core.proofs.Looks.{page_key, holds_page}

-- ---- what a change leaves tied

-- the same pages in the same frames
pub record SameFrames (t new : Table) (b after : BufferSeen) : Type 0 where
  pub residents : after.residents ≡ b.residents
  pub entries : (k : Key) → frame_in (table_entry new k) ≡ frame_in (table_entry t k)
  pub held : (f : ℕ) → resident_key (frame_of after f) ≡ resident_key (frame_of b f)
  pub kept : (f : ℕ) → reserved_key (frame_of after f) ≡ reserved_key (frame_of b f)
  pub counted : reserved_frames after ≡ reserved_frames b
  pub sizes : length b.clean ≡ length b.frames → length after.clean ≡ length after.frames
  pub marks : ((k : Key) (f : ℕ) → frame_in (table_entry t k) ≡ Some f → is_clean b f ≡ not (dirt (table_entry t k)))
      → (k : Key) (f : ℕ) → frame_in (table_entry new k) ≡ Some f → is_clean after f ≡ not (dirt (table_entry new k))

pub still_tied : (t new : Table) (b after : BufferSeen) (outs : List (Option ReadOut)) → SameFrames t new b after → Tied t b outs → Tied new after outs
still_tied t new b after outs same_frames tied = record {
  residents = λ k. ap (is_in k) same_frames.residents ∙ (tied.residents k ∙ ap is_some (sym (same_frames.entries k)));
  entries = λ k f e. same_frames.held f ∙ tied.entries k f (sym (same_frames.entries k) ∙ e);
  frames = λ f k e. same_frames.entries k ∙ tied.frames f k (sym (same_frames.held f) ∙ e);
  kept = λ f k e. tied.kept f k (sym (same_frames.kept f) ∙ e);
  reads = λ r o e. let was = tied.reads r o e in (was.0, same_frames.kept o.frame ∙ was.1);
  counted = same_frames.counted ∙ tied.counted;
  sizes = same_frames.sizes tied.sizes;
  marks = same_frames.marks tied.marks;
}

count_same : (b : BufferSeen) (f : ℕ) (x : FrameSeen) → f < length b.frames → is_reserved x ≡ is_reserved (frame_of b f) → reserved_frames (with_frame b f x) ≡ reserved_frames b
count_same b f x within e = let all = count_set is_reserved b.frames f x Free within in let bits : one_if (is_reserved x) ≡ one_if (is_reserved (frame_of b f)) = ap one_if e in omega (arith, all, bits)

not_reserved : (x : FrameSeen) (k : Key) → resident_key x ≡ Some k → (is_reserved x ≡ false) × (reserved_key x ≡ None)
not_reserved Free k e = absurd cc
not_reserved (Reserved j) k e = absurd cc
not_reserved (frame.Resident j bytes) k e = (refl, refl)

-- a page's bytes
pub bytes_same : (t : Table) (b : BufferSeen) (k : Key) (f : ℕ) (bytes : List ℕ) → resident_key (frame_of b f) ≡ Some k → SameFrames t t b (with_frame b f (frame.Resident k bytes))
bytes_same t b k f bytes is =
    let within = resident_within b f k is in
    let x : FrameSeen = frame.Resident k bytes in
    let none = not_reserved (frame_of b f) k is in
    record {
      residents = refl;
      entries = λ j. refl;
      held = λ g. elim (cases_eq g f) [
        | inl gf ↦ let P : ℕ → Type 0 = λ i. resident_key (frame_of (with_frame b f x) i) ≡ resident_key (frame_of b i) in subst P (sym gf) (ap resident_key (frame_set b f x within) ∙ sym is)
        | inr n ↦ ap resident_key (frame_kept b f g x n)
      ];
      kept = λ g. elim (cases_eq g f) [
        | inl gf ↦ let P : ℕ → Type 0 = λ i. reserved_key (frame_of (with_frame b f x) i) ≡ reserved_key (frame_of b i) in subst P (sym gf) (ap reserved_key (frame_set b f x within) ∙ sym none.1)
        | inr n ↦ ap reserved_key (frame_kept b f g x n)
      ];
      counted = count_same b f x within (sym none.0);
      sizes = λ old. old ∙ sym (length-set b.frames f x);
      marks = λ old. old;
    }

-- ---- what a change makes of the pages that are seen

-- two pages lie in two frames
pub frames_apart : (t : Table) (b : BufferSeen) (outs : List (Option ReadOut)) (j k : Key) (f g : ℕ) → Tied t b outs → frame_in (table_entry t j) ≡ Some g → resident_key (frame_of b f) ≡ Some k → (j ≡ k → ⊥) → g ≡ f → ⊥
frames_apart t b outs j k f g tied e is n gf =
    let held : resident_key (frame_of b g) ≡ Some j = tied.entries j g e in
    let same_frame : resident_key (frame_of b g) ≡ Some k = rw gf is in
    n (cc)

pub page_as : (b after : BufferSeen) (k : Key) (e : PageEntry) → ((f : ℕ) → frame_in e ≡ Some f → frame_of after f ≡ frame_of b f) → page_in after k e ≡ page_in b k e
page_as b after k Absent same_frame = refl
page_as b after k (Present p d f) same_frame = ap (λ x. record { key = k; protected = p; dirty = d; bytes = bytes_of x }) (same_frame f refl)

pub pages_changed : (k : Key) (change : Resident → Resident) (old new : Key → Resident) (ks : List Key) → ((j : Key) → new j ≡ cond (same (old j).key k) (change (old j)) (old j)) → map new ks ≡ on_page k change (map old ks)
pages_changed k change old new [] e = refl
pages_changed k change old new (j ∷ js) e = let here = e j in let rest = pages_changed k change old new js e in cc (here, rest)

-- one page changes, where the others keep entry and frame
pub one_changes : (t new : Table) (b after : BufferSeen) (k : Key) (change : Resident → Resident) (j : Key)
    → page_seen new after k ≡ change (page_seen t b k) → ((k ≡ j → ⊥) → page_seen new after j ≡ page_seen t b j)
    → page_seen new after j ≡ cond (same (page_seen t b j).key k) (change (page_seen t b j)) (page_seen t b j)
one_changes t new b after k change j here other = let key : (page_seen t b j).key ≡ j = page_key b j (table_entry t j) in rw key (go (same j k) refl)
  where
    go : (x : Bool) → same j k ≡ x → page_seen new after j ≡ cond x (change (page_seen t b j)) (page_seen t b j)
    go true s = let P : Key → Type 0 = λ i. page_seen new after i ≡ change (page_seen t b i) in subst P (sym (same-true j k s)) here
    go false s = other (λ kj. let t' : same j k ≡ true = rw kj (same_self j) in cc)

refilled_is : (old new : List ℕ) → length new ≡ length old → refilled old new ≡ new
refilled_is old new e = grind (arith, common_steps)

-- bytes are written over a page
pub page_written : (t : Table) (b : BufferSeen) (outs : List (Option ReadOut)) (k : Key) (p d : Bool) (f place : ℕ) (bytes : List ℕ) → Tied t b outs → table_entry t k ≡ Present p d f
    → pages_seen t (with_frame b f (frame.Resident k (spliced (bytes_of (frame_of b f)) place bytes))) ≡ on_page k (λ r. record r { bytes = spliced r.bytes place bytes }) (pages_seen t b)
page_written t b outs k p d f place bytes tied is =
    let change : Resident → Resident = λ r. record r { bytes = spliced r.bytes place bytes } in
    let x : FrameSeen = frame.Resident k (spliced (bytes_of (frame_of b f)) place bytes) in
    let held = holds_page t b outs k p d f tied is in
    let within = resident_within b f k held in
    let here : page_seen t (with_frame b f x) k ≡ change (page_seen t b k) = rw is (ap (λ y. record { key = k; protected = p; dirty = d; bytes = bytes_of y }) (frame_set b f x within)) in
    pages_changed k change (page_seen t b) (page_seen t (with_frame b f x)) b.residents
    (λ j. one_changes t t b (with_frame b f x) k change j here (λ n. page_as b (with_frame b f x) j (table_entry t j) (λ g e. frame_kept b f g x (frames_apart t b outs j k f g tied e held (λ jk. n (sym jk))))))

spliced_length : (old : List ℕ) (place : ℕ) (bytes : List ℕ) → place + length bytes ≤ length old → length (spliced old place bytes) ≡ length old
spliced_length old place bytes fits = simp (length-append, length-take, length-drop) (omega arith)

rebytes : (x : FrameSeen) (k : Key) (place : ℕ) (bytes w : List ℕ) → resident_key x ≡ Some k → place + length bytes ≤ length (bytes_of x) → w ≡ spliced (bytes_of x) place bytes → with_bytes x w ≡ frame.Resident k (spliced (bytes_of x) place bytes)
rebytes Free k place bytes w e fits is = absurd cc
rebytes (Reserved j) k place bytes w e fits is = absurd cc
rebytes (frame.Resident j old) k place bytes w e fits is =
    let whole : refilled old w ≡ w = refilled_is old w (ap length is ∙ spliced_length old place bytes fits) in
    let jk : j ≡ k = cc in
    cc (whole, is, jk)

-- what is left behind a lent page whose part was written over
pub page_rewritten : (b : BufferSeen) (f : ℕ) (k : Key) (place : ℕ) (bytes page new : List ℕ) → resident_key (frame_of b f) ≡ Some k → place + length bytes ≤ length page
    → page ≡ bytes_of (frame_of b f) → new ≡ bytes
    → with_page b f (take place page ++ (new ++ drop (place + length bytes - place) (drop place page))) ≡ with_frame b f (frame.Resident k (spliced (bytes_of (frame_of b f)) place bytes))
page_rewritten b f k place bytes page new held fits is same_bytes =
    let end : place + length bytes - place ≡ length bytes = omega arith in
    let w : take place page ++ (new ++ drop (place + length bytes - place) (drop place page)) ≡ spliced (bytes_of (frame_of b f)) place bytes = rw (end, drop-drop (length bytes) place page, same_bytes, is) refl in
    ap (with_frame b f) (rebytes (frame_of b f) k place bytes _ held (let size = ap length is in omega (arith, size)) w)
