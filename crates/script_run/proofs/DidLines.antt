-- What the lines of a serial run made, as what they did.
use Rattle.std.proofs.Common.{◌≡◌, ◌⊎◌, inl, inr, ℕ, ◌+◌, ◌≤◌, Bool, true, false, cond, List, [], ◌∷◌, ◌++◌, length, take, drop, reverse, filter, refl, sym, ap, ap₂, subst, ◌∙◌, arith, rules, append-nil}
use Rattle.std.specs.List.{list_all}
use Rattle.std.proofs.lemmas.Bool.{and_from}
use Rattle.std.proofs.lemmas.List.{places, same_lists, take_all, drop-take}
use Rattle.std.proofs.lemmas.List.Elements.{filter-append}
use Rattle.std.proofs.lemmas.List.Sums.{sum_by-cons}
use Rattle.histories.specs.Histories.{by, calls_of}
use Rattle.histories.specs.Relations.{CallsOfOne}
use Rattle.page_base.specs.declared.keys.Key.{Key}
use Rattle.page_base.specs.declared.keys.Piece.{Piece}
use Rattle.page_model.specs.declared.entry.Entry.{Entry}
use Rattle.page_model.specs.declared.entry.Entry.TheVariants as entry
use Rattle.page_model.specs.declared.entry.Entry.TheVariants.{Save, ReadFailed, StartWrite, Written, WriteFailed}
use Rattle.page_model.specs.Entries.{key_of, is_access, is_fault, lies_in, of_stripe}
use Rattle.page_model.specs.Owned.{is_owners, OneOwner, joined_accesses}
use Rattle.page_model.specs.Pieces.{bytes_in, saves}
use Rattle.region_table.specs.Covers.{PiecesCover}
use Rattle.region_table.specs.Pieces.{pieces_of}
use Rattle.workload_text.specs.Line.{Line, load_line, store_line, flush_line, unmap_line}
use Rattle.flat_lines.specs.Spreads.{Spread, stripe_in}
use Rattle.flat_lines.specs.Lines.{is_other, LineDid, more_made, AllDid}
use Rattle.flat_lines.specs.Flat.{OwnersAreFlat}
use Rattle.script_run.specs.Replies.{Reply, loaded, ok, unmapped, fault}
use Rattle.script_run.specs.LineEntries.{LoadsBefore, SavesBefore, Accesses, Failure, Makes, AllMake}
use Rattle.script_run.specs.FlatJournals.{IsPartOf, ArePartsOf, JournalsAreFlat}

saves_cut : (ps : List Piece) (bytes : List ℕ) (n : ℕ) → bytes_in ps ≡ n → saves ps bytes ≡ saves ps (take n bytes)
saves_cut [] bytes n is = refl
saves_cut (p ∷ ps) bytes n is =
    let total : n ≡ p.len + bytes_in ps = sym is ∙ sum_by-cons (λ (q : Piece). q.len) p ps in
    subst (λ m. saves (p ∷ ps) bytes ≡ saves (p ∷ ps) (take m bytes)) (sym total)
    (ap₂ (λ (xs : List ℕ) (es : List Entry). Save p.key p.place xs ∷ es) (sym (front p.len (bytes_in ps)))
    (saves_cut ps (drop p.len bytes) (bytes_in ps) refl ∙ ap (saves ps) (sym (drop-take p.len (bytes_in ps) bytes))))
  where
    front : (a b : ℕ) → take a (take (a + b) bytes) ≡ take a bytes
    front a b = same_lists _ _ (search (rules, places)) (λ k d h. grind (arith, places))

-- ---- what one line did

record DidOne (t : Spread) (l : Line) (a : Reply) (es : List Entry) : Type 0 where
  part : List ℕ
  is : IsPartOf l a part
  did : LineDid t.page_size l part es

-- a line that ended at a piece
record LoadedPart (t : Spread) (r off len done : ℕ) (es : List Entry) : Type 0 where
  part : List ℕ
  is : length part ≡ done
  did : LineDid t.page_size (load_line r off len) part es

loads_part : (t : Spread) (r off len done : ℕ) (es : List Entry) → LoadsBefore t.page_size r off len done es → LoadedPart t r off len done es
loads_part t r off len done es acc = record { part = acc.1; is = acc.3; did = (acc.0, (acc.2.next ∷ acc.2.rest, acc.2.all_are), acc.3 ∙ sym acc.2.bytes, acc.4) }

saved_part : (t : Spread) (r off : ℕ) (bytes : List ℕ) (done : ℕ) (es : List Entry) → SavesBefore t.page_size r off bytes done es → LineDid t.page_size (store_line r off bytes) (take done bytes) es
saved_part t r off bytes done es acc = (acc.0, (acc.1.next ∷ acc.1.rest, acc.1.all_are), ap (λ n. take n bytes) (sym acc.1.bytes), acc.2 ∙ saves_cut acc.0 bytes done acc.1.bytes)

did_one : PiecesCover → (t : Spread) (l : Line) (a : Reply) (es : List Entry) → 1 ≤ t.page_size → Accesses t.page_size l a es → DidOne t l a es
did_one cover t (load_line r off len) (loaded bytes) es some acc = record {
  part = bytes;
  is = (refl, acc.0);
  did = (pieces_of t.page_size r off len, ([], sym (append-nil (pieces_of t.page_size r off len))), acc.0 ∙ sym (cover t.page_size r off len some).lengths, acc.1);
}
did_one cover t (load_line r off len) (unmapped done) es some acc = let x = loads_part t r off len done es acc in record { part = x.part; is = x.is; did = x.did }
did_one cover t (load_line r off len) (fault k count done) es some acc = let x = loads_part t r off len done es acc in record { part = x.part; is = x.is; did = x.did }
did_one cover t (load_line r off len) a es some acc = record { part = []; is = refl; did = ([], (pieces_of t.page_size r off len, refl), refl, acc) }
did_one cover t (store_line r off bytes) ok es some acc =
    let covers = cover t.page_size r off (length bytes) some in
    record {
      part = bytes;
      is = refl;
      did = (pieces_of t.page_size r off (length bytes), ([], sym (append-nil (pieces_of t.page_size r off (length bytes)))), sym (take_all (bytes_in (pieces_of t.page_size r off (length bytes))) bytes (omega (arith, covers.lengths))), acc);
    }
did_one cover t (store_line r off bytes) (unmapped done) es some acc = record { part = take done bytes; is = refl; did = saved_part t r off bytes done es acc }
did_one cover t (store_line r off bytes) (fault k count done) es some acc = record { part = take done bytes; is = refl; did = saved_part t r off bytes done es acc }
did_one cover t (store_line r off bytes) a es some acc = record { part = []; is = refl; did = ([], (pieces_of t.page_size r off (length bytes), refl), refl, acc) }
did_one cover t l a es some acc = record { part = []; is = refl; did = ap (list_all is_other) acc }

-- ---- what was made, as accesses

abbrev accesses_in : (ℕ → List Entry) → ℕ → List Entry
accesses_in es s = filter is_access (es s)

-- a line's failure is nothing, or one entry
abbrev pub IsFailure : List Entry → Type 0
IsFailure es = (es ≡ []) ⊎ ((e : Entry) × (es ≡ e ∷ []) × (is_fault e ≡ true))

pub failure_is : (t : Spread) (l : Line) (a : Reply) (es : List Entry) → Failure t.page_size l a es → IsFailure es
failure_is t (load_line r off len) (fault k count done) es f = inr (f.0, f.1, elim f.2 [ inl x ↦ ap is_fault x.1 | inr x ↦ ap is_fault x ])
failure_is t (store_line r off bytes) (fault k count done) es f = inr (f.0, f.1, elim f.2 [ inl x ↦ ap is_fault x.1 | inr x ↦ ap is_fault x ])
failure_is t flush_line (fault k count done) es f = inr (WriteFailed k count, f, refl)
failure_is t (unmap_line r) (fault k count done) es f = inr (WriteFailed k count, f, refl)
failure_is t l a es f = inl f

-- a failure is no access
no_access : (stripe : Key → ℕ) (es : List Entry) (s : ℕ) → IsFailure es → filter is_access (of_stripe stripe s es) ≡ []
no_access stripe es s (inl none) = ap (λ xs. filter is_access (of_stripe stripe s xs)) none
no_access stripe es s (inr x) = ap (λ xs. filter is_access (of_stripe stripe s xs)) x.1 ∙ one x.0 (lies_in stripe s (key_of x.0)) x.2
  where
    one : (e : Entry) (b : Bool) → is_fault e ≡ true → filter is_access (cond b (e ∷ []) []) ≡ []
    one (ReadFailed k n) true f = refl
    one (WriteFailed k n) true f = refl
    one e false f = refl
    one e b f = absurd cc

made_accesses : (t : Spread) (l : Line) (a : Reply) (made behind : ℕ → List Entry) (m : Makes t l a behind made) (s : ℕ) → filter is_access (made s ++ behind s) ≡ more_made t m.accesses (accesses_in behind) s
made_accesses t l a made behind m s =
    filter-append is_access (made s) (behind s)
    ∙ ap (λ xs. xs ++ filter is_access (behind s))
    (ap (filter is_access) (m.in_order.made_are s) ∙ filter-append is_access (of_stripe (stripe_in t) s m.failure) (m.in_order.served s) ∙ ap (λ xs. xs ++ filter is_access (m.in_order.served s)) (no_access (stripe_in t) m.failure s (failure_is t l a m.failure m.failure_is)) ∙ m.in_order.in_order s)

did_behind : (t : Spread) (ls : List Line) (parts : List (List ℕ)) (mid behind all : ℕ → List Entry) → ((s : ℕ) → mid s ≡ behind s) → AllDid t ls parts mid all → AllDid t ls parts behind all
did_behind t [] [] mid behind all same h = λ s. h s ∙ same s
did_behind t [] (p ∷ ps) mid behind all same h = absurd h
did_behind t (l ∷ ls) [] mid behind all same h = absurd h
did_behind t (l ∷ ls) (p ∷ ps) mid behind all same h = (h.0, h.1, did_behind t ls ps (more_made t h.0 mid) (more_made t h.0 behind) all (λ s. ap (λ (es : List Entry). reverse (of_stripe (stripe_in t) s h.0) ++ es) (same s)) h.2)

-- what all lines did, where the stripes have `top` in the end
record DidAll (t : Spread) (lines : List Line) (replies : List Reply) (behind top : ℕ → List Entry) : Type 0 where
  parts : List (List ℕ)
  are : ArePartsOf lines replies parts
  did : AllDid t lines parts behind top

did_all : PiecesCover → (t : Spread) (lines : List Line) (replies : List Reply) (behind all top : ℕ → List Entry) → 1 ≤ t.page_size → ((s : ℕ) → top s ≡ filter is_access (all s)) → AllMake t lines replies behind all → DidAll t lines replies (accesses_in behind) top
did_all cover t [] [] behind all top some same m = record { parts = []; are = tt; did = λ s. same s ∙ ap (filter is_access) (m s) }
did_all cover t [] (a ∷ more) behind all top some same m = absurd m
did_all cover t (l ∷ ls) [] behind all top some same m = absurd m
did_all cover t (l ∷ ls) (a ∷ more) behind all top some same m =
    let first = did_one cover t l a m.1.accesses some m.1.accesses_are in
    let rest = did_all cover t ls more (λ s. m.0 s ++ behind s) all top some same m.2 in
    record {
      parts = first.part ∷ rest.parts;
      are = (first.is, rest.are);
      did = (m.1.accesses, first.did, did_behind t ls rest.parts (accesses_in (λ s. m.0 s ++ behind s)) (more_made t m.1.accesses (accesses_in behind)) top (λ s. made_accesses t l a m.0 behind m.1 s) rest.did);
    }

-- ---- one owner

own_one : (es : List Entry) → OneOwner (λ k. 0) (by 0 es)
own_one [] = refl
own_one (e ∷ es) = and_from (is_owners (λ k. 0) (0, e)) (list_all (is_owners (λ k. 0)) (by 0 es)) (one e) (own_one es)
  where
    one : (e : Entry) → is_owners (λ k. 0) (0, e) ≡ true
    one (entry.Load k place bytes) = refl
    one (entry.Save k place bytes) = refl
    one e = refl

-- all accesses are the lines'
all_theirs : CallsOfOne Entry → (last lines : List Entry) → filter is_access last ≡ [] → joined_accesses (by 0 (last ++ lines)) (0 ∷ []) ≡ filter is_access lines
all_theirs calls last lines none =
    append-nil (filter is_access (calls_of 0 (by 0 (last ++ lines))))
    ∙ ap (filter is_access) (calls.own 0 (last ++ lines))
    ∙ filter-append is_access last lines
    ∙ ap (λ xs. xs ++ filter is_access lines) none

pub journals_are_flat : PiecesCover → CallsOfOne Entry → OwnersAreFlat → JournalsAreFlat
journals_are_flat cover calls law w lines replies by_lines last regions fine inside make none legal start =
    let d = did_all cover w.spread lines replies (λ s. []) by_lines (λ s. joined_accesses (by 0 (last s ++ by_lines s)) (0 ∷ [])) fine.some_byte (λ s. all_theirs calls (last s) (by_lines s) (none s)) make in
    let flat = law w (λ s. by 0 (last s ++ by_lines s)) (λ s k. 0) (λ s. 0 ∷ []) lines d.parts regions fine inside
    (λ s lt. record { legal = legal s lt; one = own_one (last s ++ by_lines s); apart = (refl, tt) }) d.did start in
    record { parts = d.parts; parts_are = d.are; flat = flat.0; hold = flat.1 }
