-- Replies that name no fault are those of the serial meaning.
use Rattle.std.proofs.Common.{◌≡◌, inl, inr, ℕ, ◌+◌, ◌/◌, ◌<◌, ◌==◌, ◌||◌, max, nat_lt, Bool, true, false, cond, List, [], ◌∷◌, ◌++◌, length, take, drop, codes, slice_set, refl, sym, ap, subst, ◌∙◌, arith}
use Rattle.std.specs.List.{list_any}
use Rattle.std.proofs.lemmas.Bool.{or_parts, or_left, and_from, and_left, and_right, cases_Bool, cases_eq, cases_lt, eq-eqb, ne_eqb, lt-ltb, le-ltb, cond-true, cond-false}
use Rattle.std.proofs.lemmas.List.{take-append-drop, set-get_or}
use Rattle.std.proofs.lemmas.Nat.{mod_below}
use Rattle.page_base.specs.ListSeen.{spliced}
use Rattle.page_base.specs.declared.keys.Key.{Key}
use Rattle.workload_text.specs.Line.{Line, map_line, script_line, load_line, store_line, flush_line, unmap_line}
use Rattle.workload_text.specs.Grammar.{Region}
use Rattle.workload_text.specs.Accepted.{regions_of}
use Rattle.flat_lines.specs.FlatRegions.{bytes_at, stored}
use Rattle.flat_lines.specs.Spreads.{Spread, stripe_in, piece_key}
use Rattle.script_run.specs.Serial.{SerialState, all_mapped, was_unmapped, finds_unmapped, unmapped_or, reply, load_reply, serial_after, text_from, end_from}
use Rattle.script_run.specs.Contents.{contents_of}
use Rattle.script_run.specs.Replies.{Reply, nothing, begun, loaded, ok, unmapped, fault, reply_text, replies_text, is_fault_reply}
use Rattle.script_run.specs.FitsSerial.{RunState, all_open, is_closed_at, AreOpen, EndsShut, MayAnswer, AllAnswer, left, left_by, region_is_told}
use Rattle.script_run.specs.FitsLaws.{WithoutFaults}

-- no bytes written over a region leave all as they were
stored_nothing : (regions : List (List ℕ)) (r off : ℕ) → stored regions (store_line r off []) ≡ regions
stored_nothing regions r off =
    let at : off + 0 ≡ off = omega arith in
    let whole : spliced (bytes_at regions r) off [] ≡ bytes_at regions r = ap (λ n. take off (bytes_at regions r) ++ drop n (bytes_at regions r)) at ∙ take-append-drop off (bytes_at regions r) in
    ap (slice_set regions r) whole ∙ set-get_or regions r []

module _ (gs : List Region) (t : Spread) (some_stripe : 0 < t.stripes) (told : ℕ → Bool) (all : (r : ℕ) → told r ≡ true) where
  -- a run without faults has each region open in all stripes, or closed in all and unmapped
  record Follows (x : RunState) (s : SerialState) : Type 0 where
    regions_are : x.regions ≡ s.regions
    gone_is : (r : ℕ) → x.gone r ≡ was_unmapped s r
    closed_is : (r : ℕ) → x.closed r ≡ cond (x.gone r) t.stripes 0

  shut_is : (x : RunState) (s : SerialState) → Follows x s → (r at : ℕ) → is_closed_at t x r at ≡ was_unmapped s r
  shut_is x s f r at =
      let k : Key = piece_key t.page_size r at in
      let below : stripe_in t k < t.stripes = mod_below (k.region + k.page / t.group_of k.region) t.stripes some_stripe in
      elim (cases_Bool (x.gone r)) [
        | inl gone ↦ lt-ltb (stripe_in t k) (x.closed r) (omega (arith, below, f.closed_is r ∙ ap (λ b. cond b t.stripes 0) gone)) ∙ sym gone ∙ f.gone_is r
        | inr mapped ↦ le-ltb (stripe_in t k) (x.closed r) (omega (arith, f.closed_is r ∙ ap (λ b. cond b t.stripes 0) mapped)) ∙ sym mapped ∙ f.gone_is r
      ]

  -- an access that was done found its region mapped
  finds_none : (x : RunState) (s : SerialState) → Follows x s → (r off len : ℕ) → AreOpen t x r off len → finds_unmapped s r len ≡ false
  finds_none x s f r off len open_ = elim (cases_lt 0 len) [
    | inl some ↦ and_left (was_unmapped s r) (nat_lt 0 len) (sym (shut_is x s f r (off + 0)) ∙ open_ 0 some)
    | inr none ↦ and_right (was_unmapped s r) (nat_lt 0 len) (le-ltb 0 len none)
  ]

  -- one that wasn't found it unmapped, and did nothing
  record Unmapped (s : SerialState) (r len done : ℕ) : Type 0 where
    finds : finds_unmapped s r len ≡ true
    nothing_done : done ≡ 0

  finds_it : (x : RunState) (s : SerialState) → Follows x s → (r off len done : ℕ) → EndsShut t x r off len done → Unmapped s r len done
  finds_it x s f r off len done e =
      let gone : was_unmapped s r ≡ true = sym (shut_is x s f r (off + done)) ∙ e.shut in
      record {
        finds = and_from (was_unmapped s r) (nat_lt 0 len) gone (lt-ltb 0 len (omega (arith, e.at.short)));
        nothing_done = elim (cases_lt 0 done) [
          | inl some ↦ absurd (let no : true ≡ false = sym gone ∙ sym (shut_is x s f r (off + 0)) ∙ e.before 0 some in cc)
          | inr none ↦ omega (arith, none)
        ];
      }

  record One (x : RunState) (s : SerialState) (l : Line) (a : Reply) : Type 0 where
    text_is : reply_text gs a ≡ reply s l
    follows : Follows (left t x l a) (serial_after s l)

  one : (lines : List Line) (x : RunState) (s : SerialState) (l : Line) (a : Reply) → Follows x s → MayAnswer t told lines x l a → is_fault_reply a ≡ false → One x s l a
  one lines x s (map_line name backing size writable) nothing f m clear = record { text_is = refl; follows = f }
  one lines x s (script_line name) (begun said) f m clear = record { text_is = ap (λ n. reply s (script_line n)) m; follows = f }
  one lines x s (load_line r off len) (loaded bytes) f m clear = record {
    text_is = ap load_reply (m.2 (all r) ∙ ap (λ b. take len (drop off (bytes_at b r))) f.regions_are) ∙ sym (ap (λ b. unmapped_or b (load_reply (take len (drop off (bytes_at s.regions r))))) (finds_none x s f r off len m.0));
    follows = f;
  }
  one lines x s (load_line r off len) (unmapped done) f m clear = record {
    text_is = sym (ap (λ b. unmapped_or b (load_reply (take len (drop off (bytes_at s.regions r))))) (finds_it x s f r off len done m).finds);
    follows = f;
  }
  one lines x s (store_line r off bytes) ok f m clear =
      let none = finds_none x s f r off (length bytes) m in
      record {
        text_is = sym (ap (λ b. unmapped_or b (codes "ok\n")) none);
        follows = subst (λ b. Follows (left t x (store_line r off bytes) ok) (cond b s (record { regions = stored s.regions (store_line r off bytes); gone = s.gone }))) (sym none)
            (record { regions_are = ap (λ b. stored b (store_line r off bytes)) f.regions_are; gone_is = f.gone_is; closed_is = f.closed_is });
      }
  one lines x s (store_line r off bytes) (unmapped done) f m clear =
      let u = finds_it x s f r off (length bytes) done m in
      record {
        text_is = sym (ap (λ b. unmapped_or b (codes "ok\n")) u.finds);
        follows = subst (λ b. Follows (left t x (store_line r off bytes) (unmapped done)) (cond b s (record { regions = stored s.regions (store_line r off bytes); gone = s.gone }))) (sym u.finds)
            (record { regions_are = ap (λ n. stored x.regions (store_line r off (take n bytes))) u.nothing_done ∙ stored_nothing x.regions r off ∙ f.regions_are; gone_is = f.gone_is; closed_is = f.closed_is });
      }
  one lines x s flush_line ok f m clear = record { text_is = refl; follows = f }
  one lines x s (unmap_line r) ok f m clear = record {
    text_is = sym (ap (λ b. unmapped_or b (codes "ok\n")) (sym (f.gone_is r) ∙ m));
    follows = record {
      regions_are = f.regions_are;
      gone_is = λ q. elim (cases_eq q r) [
        | inl e ↦ cond-true (q == r) true (x.gone q) (eq-eqb q r e) ∙ sym (or_left (r == q) (was_unmapped s q) (eq-eqb r q (sym e)))
        | inr other ↦ cond-false (q == r) true (x.gone q) (ne_eqb q r other) ∙ f.gone_is q ∙ ap (λ b. b || was_unmapped s q) (sym (ne_eqb r q (λ e. other (sym e))))
      ];
      closed_is = λ q. elim (cases_eq q r) [
        | inl e ↦
            let none : x.closed q ≡ 0 = f.closed_is q ∙ ap (λ b. cond b t.stripes 0) (ap x.gone e ∙ m) in
            cond-true (q == r) (max (x.closed q) t.stripes) (x.closed q) (eq-eqb q r e) ∙ ap (λ n. max n t.stripes) none ∙ top ∙ ap (λ b. cond b t.stripes 0) (sym (cond-true (q == r) true (x.gone q) (eq-eqb q r e)))
        | inr other ↦ cond-false (q == r) (max (x.closed q) t.stripes) (x.closed q) (ne_eqb q r other) ∙ f.closed_is q ∙ ap (λ b. cond b t.stripes 0) (sym (cond-false (q == r) true (x.gone q) (ne_eqb q r other)))
      ];
    };
  }
    where
      top : max 0 t.stripes ≡ t.stripes
      top = omega arith
  one lines x s (unmap_line r) (unmapped done) f m clear =
      let gone : was_unmapped s r ≡ true = sym (f.gone_is r) ∙ m in
      record {
        text_is = sym (ap (λ b. unmapped_or b (codes "ok\n")) gone);
        follows = record {
          regions_are = f.regions_are;
          gone_is = λ q. elim (cases_eq q r) [
            | inl e ↦ f.gone_is q ∙ ap (was_unmapped s) e ∙ gone ∙ sym (or_left (r == q) (was_unmapped s q) (eq-eqb r q (sym e)))
            | inr other ↦ f.gone_is q ∙ ap (λ b. b || was_unmapped s q) (sym (ne_eqb r q (λ e. other (sym e))))
          ];
          closed_is = f.closed_is;
        };
      }
  one lines x s l (fault k count done) f m clear = absurd (cc)
  one lines x s l a f m clear = absurd m

  record All (x : RunState) (s : SerialState) (lines : List Line) (replies : List Reply) : Type 0 where
    text_is : replies_text gs replies ≡ text_from s lines
    regions_are : (left_by t x lines replies).regions ≡ (end_from s lines).regions

  all_serial : (before : List Line) (x : RunState) (s : SerialState) (lines : List Line) (replies : List Reply) → Follows x s → AllAnswer t told before x lines replies → list_any is_fault_reply replies ≡ false → All x s lines replies
  all_serial before x s [] [] f m clear = record { text_is = refl; regions_are = f.regions_are }
  all_serial before x s [] (a ∷ more) f m clear = absurd m
  all_serial before x s (l ∷ ls) [] f m clear = absurd m
  all_serial before x s (l ∷ ls) (a ∷ more) f m clear =
      let calm = or_parts (is_fault_reply a) (list_any is_fault_reply more) clear in
      let first = one (l ∷ before) x s l a f m.0 calm.0 in
      let rest = all_serial (l ∷ before) (left t x l a) (serial_after s l) ls more first.follows m.1 calm.1 in
      record {
        text_is = ap (λ y. y ++ replies_text gs more) first.text_is ∙ ap (λ y. reply s l ++ y) rest.text_is;
        regions_are = rest.regions_are;
      }

pub without_faults : WithoutFaults
without_faults t lines rows ends e some_stripe f all clear =
    let calm = or_parts (list_any is_fault_reply f.replies) f.failed (sym f.flag ∙ clear) in
    let same = all_serial (regions_of lines) t some_stripe (region_is_told rows) all [] (all_open (contents_of rows)) (all_mapped (contents_of rows)) lines f.replies (record { regions_are = refl; gone_is = λ r. refl; closed_is = λ r. refl }) f.answered calm.0 in
    record {
      text_is = f.text_is ∙ same.text_is;
      contents = λ r below. f.whole calm.1 r below (all r) ∙ ap (λ b. bytes_at b r) same.regions_are;
    }
