-- Loops over items of a workload, each of which is some lines.
use Rattle.std.proofs.Common.{◌≡◌, ℕ, ◌+◌, ◌*◌, ◌<◌, ◌||◌, Bool, true, false, List, [], ◌∷◌, ◌++◌, length, take, drop, map, get_or, slice_get, refl, sym, ap, subst, ◌∙◌, arith, append_assoc, append-nil}
use Rattle.std.specs.List.{flat_map}
use Rattle.std.proofs.lemmas.Bool.{and_parts, and_from}
use Rattle.std.proofs.lemmas.List.{take-append-drop, drop_more, take_more}
use Rattle.std.proofs.lemmas.List.Concat.{flat_map-append}
use Rattle.histories.specs.Histories.{History}
use Rattle.page_base.specs.declared.keys.RegionShape.{RegionShape}
use Rattle.page_model.specs.declared.entry.Entry.{Entry}
use Rattle.page_model.specs.Setups.{pages_of}
use Rattle.serial_pager.specs.Pagers.{PagerSeen}
use Rattle.workload_text.specs.Line.{Line}
use Rattle.workload_text.specs.Grammar.{Region}
use Rattle.workload_text.specs.Accepted.{AllFit}
use Rattle.workload_text.specs.Built.{is_built, is_built_line}
use Rattle.workload_text.specs.View.{region_line}
use Rattle.workload_text.specs.declared.workload.MapLine.{MapLine}
use Rattle.script_run.specs.Replies.{nothing}
use Rattle.flat_lines.specs.Spreads.{Spread}
use Rattle.script_run.specs.InsideRanges.{pages_at}
use Rattle.script_run.specs.InsideRunning.{IsShaped, StaysMade, MayRun, Ran}
use Rattle.script_run.specs.declared.replies.Replies.{Replies}
use Rattle.script_run.proofs.RanLines.{ran_none, ran_more, ran_one, did_nothing, rooms-append, bytes-append, commands-append}

AllFit-split : (gs : List Region) (xs ys : List Line) → AllFit gs (xs ++ ys) → AllFit gs xs × AllFit gs ys
AllFit-split gs [] ys h = (tt, h)
AllFit-split gs (x ∷ xs) ys h = let s = AllFit-split gs xs ys h.1 in ((h.0, s.0), s.1)

built-split : (xs ys : List Line) → is_built (xs ++ ys) ≡ true → (is_built xs ≡ true) × (is_built ys ≡ true)
built-split [] ys h = (refl, h)
built-split (x ∷ xs) ys h =
    let p = and_parts (is_built_line x) (is_built (xs ++ ys)) h in
    let s = built-split xs ys p.1 in
    (and_from (is_built_line x) (is_built xs) p.0 s.0, s.1)

module _ {J : Type 0} (t : Spread) (gs : List Region) where
  pub shaped_same : (p q : PagerSeen J) → IsShaped t gs p → StaysMade p q → IsShaped t gs q
  shaped_same p q h s = record {
    some = h.some;
    some_stripe = h.some_stripe;
    page_size = s.page_size ∙ h.page_size;
    stripes = s.stripes ∙ h.stripes;
    groups = h.groups;
    shapes = s.shapes ∙ h.shapes;
    whole = λ r below. h.whole r below ∙ ap (λ (ss : List RegionShape). pages_of (slice_get ss r) * p.page_size) (sym s.shapes) ∙ ap (λ z. pages_at q r * z) (sym s.page_size);
    small = h.small;
    known = λ n u e. h.known n u (sym (s.setups n) ∙ e);
  }

  pub may_first : (xs ys : List Line) (r : Replies) (p : PagerSeen J) → MayRun t gs (xs ++ ys) r p → MayRun t gs xs r p
  may_first xs ys r p m = record {
    built = (built-split xs ys m.built).0;
    fit = (AllFit-split gs xs ys m.fit).0;
    shaped = m.shaped;
    room = omega (arith, m.room, rooms-append gs xs ys);
    few = omega (arith, m.few, bytes-append xs ys);
    pieces = omega (arith, m.pieces, commands-append xs ys);
  }

module _ {J : Type 0} (has_noted : J → History Entry → Type 0) (t : Spread) (gs : List Region) where
  pub may_rest : (xs ys : List Line) (r0 r1 : Replies) (p q : PagerSeen J) → MayRun t gs (xs ++ ys) r0 p → Ran has_noted t gs xs r0 r1 p q → MayRun t gs ys r1 q
  may_rest xs ys r0 r1 p q m ran = record {
    built = (built-split xs ys m.built).1;
    fit = (AllFit-split gs xs ys m.fit).1;
    shaped = shaped_same t gs p q m.shaped ran.did.same;
    room = omega (arith, m.room, ran.spare, rooms-append gs xs ys);
    few = omega (arith, m.few, ran.loaded, ran.within, bytes-append xs ys);
    pieces = omega (arith, m.pieces, ran.pieces, commands-append xs ys);
  }

  module _ {X : Type 0} (pre : List Line) (f : X → List Line) (items : List X) (i : ℕ) (x : X) (below : i < length items) (is : x ≡ get_or items i x) where
    parts : pre ++ flat_map f items ≡ (pre ++ flat_map f (take i items)) ++ (f x ++ flat_map f (drop (i + 1) items))
    parts =
        ap (λ (ls : List Line). pre ++ ls)
        (ap (flat_map f) (sym (take-append-drop i items))
        ∙ flat_map-append f (take i items) (drop i items)
        ∙ ap (λ (xs : List X). flat_map f (take i items) ++ flat_map f xs) (drop_more items i x below ∙ ap (λ (y : X). y ∷ drop (i + 1) items) (sym is)))
        ∙ sym (append_assoc pre (flat_map f (take i items)) (f x ++ flat_map f (drop (i + 1) items)))

    pub may_item : (r0 r1 : Replies) (p q : PagerSeen J) → MayRun t gs (pre ++ flat_map f items) r0 p → Ran has_noted t gs (pre ++ flat_map f (take i items)) r0 r1 p q → MayRun t gs (f x) r1 q
    may_item r0 r1 p q m ran =
        may_first t gs (f x) (flat_map f (drop (i + 1) items)) r1 q
        (may_rest (pre ++ flat_map f (take i items)) (f x ++ flat_map f (drop (i + 1) items)) r0 r1 p q (subst (λ (ls : List Line). MayRun t gs ls r0 p) parts m) ran)

    pub ran_item : (r0 r1 r2 : Replies) (p q z : PagerSeen J) → Ran has_noted t gs (pre ++ flat_map f (take i items)) r0 r1 p q → Ran has_noted t gs (f x) r1 r2 q z → Ran has_noted t gs (pre ++ flat_map f (take (i + 1) items)) r0 r2 p z
    ran_item r0 r1 r2 p q z a b =
        subst (λ (ls : List Line). Ran has_noted t gs ls r0 r2 p z)
        (append_assoc pre (flat_map f (take i items)) (f x)
        ∙ ap (λ (ls : List Line). pre ++ ls)
        (ap (λ (ls : List Line). flat_map f (take i items) ++ ls) (sym (append-nil (f x)))
        ∙ sym (flat_map-append f (take i items) (x ∷ []))
        ∙ ap (flat_map f) (ap (λ (y : X). take i items ++ y ∷ []) is ∙ sym (take_more items i x below))))
        (ran_more has_noted t gs (pre ++ flat_map f (take i items)) (f x) r0 r1 r2 p q z a b)

  -- `map` lines say nothing
  ran_map : (m : MapLine) (r : Replies) (p : PagerSeen J) → Ran has_noted t gs (region_line m ∷ []) r r p p
  ran_map m r p =
      ran_one has_noted t gs (region_line m) nothing r r p p (sym (append-nil r.text.items)) (omega arith) (omega arith) (omega arith) (omega arith) (or_none r.faulted)
      (omega arith) (did_nothing has_noted t (region_line m) nothing p refl refl (λ older. tt))
    where
      or_none : (x : Bool) → x ≡ (x || false)
      or_none true = refl
      or_none false = refl

  pub ran_maps : (ms : List MapLine) (r : Replies) (p : PagerSeen J) → Ran has_noted t gs (map region_line ms) r r p p
  ran_maps [] r p = ran_none has_noted t gs r p
  ran_maps (m ∷ ms) r p = ran_more has_noted t gs (region_line m ∷ []) (map region_line ms) r r r p p p (ran_map m r p) (ran_maps ms r p)
