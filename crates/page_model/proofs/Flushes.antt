-- What a flush needs.
use Rattle.std.proofs.Common.{List, [], ap, append_assoc, arith, false, inl, inr, length, nat_lt, not, refl, subst, sym, true, ℕ, ◌&&◌, ◌++◌, ◌||◌, ◌∙◌, ◌∷◌, ◌≡◌, ◌≤◌, ◌⊎◌}
use Rattle.std.proofs.lemmas.Bool.{and_from, and_parts, cases_Bool, lt-ltb, or_cases, or_left, or_right}
use Rattle.histories.specs.Histories.{History, GoesOn}
use Rattle.page_base.specs.Pages.{same}
use Rattle.page_base.specs.declared.keys.Key.{Key}
use Rattle.page_model.specs.declared.entry.Entry.{Entry}
use Rattle.page_model.specs.declared.entry.Entry.TheVariants.{Save, Written}
use Rattle.page_model.specs.Bits.{is_dirty, written_since}
use Rattle.page_model.specs.Core as core
use Rattle.page_model.specs.Core.{Core}
use Rattle.page_model.specs.Flushed.{is_covered, is_page_covered}
use Rattle.page_model.specs.Laws.{FlushLaws, IsHeld}
use Rattle.page_model.specs.Legal.{IsLegal}
use Rattle.page_model.specs.Residents.{is_resident}
use Rattle.page_model.specs.Setups.{Setup}
use Rattle.page_model.specs.Stands.{StandsFor}
use Rattle.page_model.proofs.Agreements.{dirty_is}
use Rattle.page_model.proofs.Kept.{absent_clean}
use Rattle.page_model.proofs.Keys.{same-true, same_self}
use Rattle.page_model.proofs.Saves.{stores_held}

-- a write stays written
written_more : (e : ℕ × Entry) (h : History Entry) (k : Key) (p : ℕ) → written_since h k p ≡ true → written_since (e ∷ h) k p ≡ true
written_more (o, Written j at bytes) h k p w = or_right (same j k && nat_lt p at) (written_since h k p) w
written_more e h k p w = w

written_stays : (later g : History Entry) (k : Key) (p : ℕ) → written_since g k p ≡ true → written_since (later ++ g) k p ≡ true
written_stays [] g k p w = w
written_stays (e ∷ later) g k p w = written_more e (later ++ g) k p (written_stays later g k p w)

covered_stays : (later g seen : History Entry) (k : Key) → is_page_covered g k seen ≡ true → is_page_covered (later ++ g) k seen ≡ true
covered_stays later g [] k c = refl
covered_stays later g ((o, Save j place bytes) ∷ before) k c =
    let q = and_parts (not (same j k) || written_since g k (length before)) (is_page_covered g k before) c in
    and_from (not (same j k) || written_since (later ++ g) k (length before)) (is_page_covered (later ++ g) k before) (elim (or_cases (not (same j k)) (written_since g k (length before)) q.0) [
      | inl n ↦ or_left (not (same j k)) (written_since (later ++ g) k (length before)) n
      | inr w ↦ or_right (not (same j k)) (written_since (later ++ g) k (length before)) (written_stays later g k (length before) w)
    ]) (covered_stays later g before k q.1)
covered_stays later g (e ∷ before) k c = covered_stays later g before k c

-- the place of the Save, in the whole
one_on : (later before : History Entry) (e : ℕ × Entry) (h : History Entry) → later ++ (e ∷ before) ≡ h → (later ++ e ∷ []) ++ before ≡ h
one_on later before e h is = append_assoc later (e ∷ []) before ∙ is

clean_covered : (s : Setup) (later seen h : History Entry) (k : Key) → later ++ seen ≡ h → IsLegal s h → is_dirty h k ≡ false → is_page_covered h k seen ≡ true
clean_covered s later [] h k is l d = refl
clean_covered s later ((o, Save j place bytes) ∷ before) h k is l d =
    and_from (not (same j k) || written_since h k (length before)) (is_page_covered h k before) (elim (cases_Bool (same j k)) [
      | inl t ↦
          let jk : j ≡ k = same-true j k t in
          let P : History Entry → Key → Type 0 = λ w x. (written_since w x (length before) ≡ true) ⊎ IsHeld w later x in
          let here : P (later ++ (o, Save j place bytes) ∷ before) j = stores_held s later before o place j bytes (subst (λ (w : History Entry). IsLegal s w) (sym is) l) in
          let there : P h k = subst (λ (x : Key). P h x) jk (subst (λ (w : History Entry). P w j) is here) in
          elim there [
            | inl w ↦ or_right (not (same j k)) (written_since h k (length before)) w
            | inr held ↦ let dirty : is_dirty h k ≡ true = held.dirty in absurd cc
          ]
      | inr n ↦ or_left (not (same j k)) (written_since h k (length before)) (ap not n)
    ]) (clean_covered s (later ++ (o, Save j place bytes) ∷ []) before h k (one_on later before (o, Save j place bytes) h is) l d)
clean_covered s later (e ∷ before) h k is l d = clean_covered s (later ++ e ∷ []) before h k (one_on later before e h is) l d

covers_all : (h seen : History Entry) → ((k : Key) → is_page_covered h k seen ≡ true) → is_covered h seen ≡ true
covers_all h [] c = refl
covers_all h ((o, Save j place bytes) ∷ before) c =
    let mine = and_parts (not (same j j) || written_since h j (length before)) (is_page_covered h j before) (c j) in
    and_from (written_since h j (length before)) (is_covered h before) (elim (or_cases (not (same j j)) (written_since h j (length before)) mine.0) [
      | inl n ↦ let y : same j j ≡ true = same_self j in let z : not (same j j) ≡ false = ap not y in absurd cc
      | inr w ↦ w
    ]) (covers_all h before (λ k. (and_parts (not (same j k) || written_since h k (length before)) (is_page_covered h k before) (c k)).1))
covers_all h (e ∷ before) c = covers_all h before c

-- what a core shows as not dirty is clean, or isn't resident
not_dirty : (h seen : History Entry) (c : Core) (k : Key) → GoesOn seen h → StandsFor h c → core.is_dirty c k ≡ false → is_page_covered h k seen ≡ true
not_dirty h seen c k on st e = clean_covered c.setup on.0 seen h k (sym on.1) st.legal (elim (cases_Bool (is_resident h k)) [
  | inl t ↦ subst (λ b. (b && is_dirty h k) ≡ false) t (sym (dirty_is h c k st) ∙ e)
  | inr n ↦ absent_clean c.setup h k st.legal n
])

written_covered : (h seen : History Entry) (o at : ℕ) (k : Key) (bytes : List ℕ) → length seen ≤ at → is_page_covered ((o, Written k at bytes) ∷ h) k seen ≡ true
written_covered h [] o at k bytes le = refl
written_covered h ((p, Save j place b) ∷ before) o at k bytes le =
    let behind : (same k k && nat_lt (length before) at) ≡ true = and_from (same k k) (nat_lt (length before) at) (same_self k) (lt-ltb (length before) at (omega (arith, le))) in
    and_from (not (same j k) || written_since ((o, Written k at bytes) ∷ h) k (length before)) (is_page_covered ((o, Written k at bytes) ∷ h) k before)
    (or_right (not (same j k)) (written_since ((o, Written k at bytes) ∷ h) k (length before)) (or_left (same k k && nat_lt (length before) at) (written_since h k (length before)) behind))
    (written_covered h before o at k bytes (omega (arith, le)))
written_covered h (e ∷ before) o at k bytes le = written_covered h before o at k bytes (omega (arith, le))

pub flush_laws : FlushLaws
flush_laws = record {
  clean_is_covered = λ s h seen k c l d. clean_covered s c.0 seen h k (sym c.1) l d;
  stays_covered = λ g h seen k c w. subst (λ (x : History Entry). is_page_covered x k seen ≡ true) (sym c.1) (covered_stays c.0 g seen k w);
  not_dirty_is_covered = not_dirty;
  written_is_covered = written_covered;
  covered_is_flushed = covers_all;
}
