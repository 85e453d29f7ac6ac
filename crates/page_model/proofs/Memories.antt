-- What a Save does to flat memory is what a store does to a frame.
use Rattle.std.proofs.Common.{Bool, List, ap, arith, cond, drop, false, get_or, inl, inr, length, length-append, map, nat_le, nat_lt, slice_index, sym, take, true, ℕ, ◌&&◌, ◌++◌, ◌+◌, ◌-◌, ◌<◌, ◌∙◌, ◌∷◌, ◌≡◌, ◌≤◌}
use mathlib.Core.Path.{fun_ext}
use Rattle.std.proofs.lemmas.Bool.{and_from, and_left, and_right, cases_lt, cond-false, cond-true, le-leb, le-ltb, lt-leb, lt-ltb}
use Rattle.std.proofs.lemmas.List.{get_or-append-add, get_or-drop, get_or-take, get_or_append_left, length-drop, length-take-le}
use Rattle.std.proofs.lemmas.List.FromFn.{fill_by_all, get_or-map-range_with_len, length-map-range_with_len}
use Rattle.std.specs.List.{range_with_len}
use Rattle.histories.specs.Histories.{History}
use Rattle.page_base.specs.ListSeen.{spliced}
use Rattle.page_base.specs.Pages.{same}
use Rattle.page_base.specs.declared.keys.Key.{Key}
use Rattle.page_model.specs.declared.entry.Entry.{Entry}
use Rattle.page_model.specs.declared.entry.Entry.TheVariants.{Save}
use Rattle.page_model.specs.Memory.{byte, covers, flat}
use Rattle.page_model.specs.Setups.{Setup}
use Rattle.page_model.proofs.Keys.{same_self}

spliced_at : (d s : List ℕ) (at i : ℕ) → at + length s ≤ length d → get_or (spliced d at s) i 0 ≡ cond (nat_le at i && nat_lt i (at + length s)) (get_or s (i - at) 0) (get_or d i 0)
spliced_at d s at i fits =
    let front : length (take at d) ≡ at = length-take-le at d (omega arith) in
    elim (cases_lt i at) [
      | inl lt ↦
          let out : (nat_le at i && nat_lt i (at + length s)) ≡ false = and_left (nat_le at i) (nat_lt i (at + length s)) (lt-leb at i lt) in
          get_or_append_left (take at d) (s ++ drop (at + length s) d) 0 i (omega arith) ∙ (get_or-take at d i 0 lt ∙ sym (cond-false (nat_le at i && nat_lt i (at + length s)) (get_or s (i - at) 0) (get_or d i 0) out))
      | inr ge ↦
          let j_is : length (take at d) + (i - at) ≡ i = omega arith in
          let past : get_or (take at d ++ (s ++ drop (at + length s) d)) i 0 ≡ get_or (s ++ drop (at + length s) d) (i - at) 0 = ap (λ n. get_or (take at d ++ (s ++ drop (at + length s) d)) n 0) (sym j_is) ∙ get_or-append-add (take at d) (s ++ drop (at + length s) d) (i - at) 0 in
          past ∙ elim (cases_lt i (at + length s)) [
            | inl lt ↦
                let in_it : (nat_le at i && nat_lt i (at + length s)) ≡ true = and_from (nat_le at i) (nat_lt i (at + length s)) (le-leb at i ge) (lt-ltb i (at + length s) lt) in
                get_or_append_left s (drop (at + length s) d) 0 (i - at) (omega arith) ∙ sym (cond-true (nat_le at i && nat_lt i (at + length s)) (get_or s (i - at) 0) (get_or d i 0) in_it)
            | inr far ↦
                let out : (nat_le at i && nat_lt i (at + length s)) ≡ false = and_right (nat_le at i) (nat_lt i (at + length s)) (le-ltb i (at + length s) far) in
                let m_is : length s + (i - at - length s) ≡ i - at = omega arith in
                let n_is : at + length s + (i - at - length s) ≡ i = omega arith in
                ap (λ n. get_or (s ++ drop (at + length s) d) n 0) (sym m_is) ∙ (get_or-append-add s (drop (at + length s) d) (i - at - length s) 0 ∙ (get_or-drop (at + length s) d (i - at - length s) 0 ∙ (ap (λ n. get_or d n 0) n_is ∙ sym (cond-false (nat_le at i && nat_lt i (at + length s)) (get_or s (i - at) 0) (get_or d i 0) out))))
          ]
    ]

length-spliced : (d s : List ℕ) (at : ℕ) → at + length s ≤ length d → length (spliced d at s) ≡ length d
length-spliced d s at fits =
    let front : length (take at d) ≡ at = length-take-le at d (omega arith) in
    let back : length (drop (at + length s) d) ≡ length d - (at + length s) = length-drop (at + length s) d in
    let inner : length (s ++ drop (at + length s) d) ≡ length s + length (drop (at + length s) d) = length-append s (drop (at + length s) d) in
    omega (arith, length-append (take at d) (s ++ drop (at + length s) d))

flat_length : (s : Setup) (h : History Entry) (k : Key) → length (flat s h k) ≡ s.page_size
flat_length s h k = length-map-range_with_len (byte s h k) 0 s.page_size

flat_at : (s : Setup) (h : History Entry) (k : Key) (i : ℕ) → i < s.page_size → get_or (flat s h k) i 0 ≡ byte s h k i
flat_at s h k i lt = get_or-map-range_with_len (byte s h k) 0 s.page_size i i 0 lt (omega arith)

pub flat_saved : (s : Setup) (h : History Entry) (o : ℕ) (k : Key) (place : ℕ) (bytes : List ℕ) → place + length bytes ≤ s.page_size → flat s ((o, Save k place bytes) ∷ h) k ≡ spliced (flat s h k) place bytes
flat_saved s h o k place bytes fits =
    let old = flat s h k in
    let n : length old ≡ s.page_size = flat_length s h k in
    let size : length (spliced old place bytes) ≡ s.page_size = length-spliced old bytes place (omega arith) ∙ n in
    sym (fill_by_all (byte s ((o, Save k place bytes) ∷ h) k) (spliced old place bytes) s.page_size 0 size (λ i lt.
    spliced_at old bytes place i (omega arith) ∙ (ap (λ b. cond (nat_le place i && nat_lt i (place + length bytes)) (slice_index bytes (i - place)) b) (flat_at s h k i lt)
    ∙ ap (λ (b : Bool). cond (b && covers place bytes i) (slice_index bytes (i - place)) (byte s h k i)) (sym (same_self k)))))

pub flat_other : (s : Setup) (h : History Entry) (o : ℕ) (j k : Key) (place : ℕ) (bytes : List ℕ) → same j k ≡ false → flat s ((o, Save j place bytes) ∷ h) k ≡ flat s h k
flat_other s h o j k place bytes other = ap (λ (b : ℕ → ℕ). map b (range_with_len 0 s.page_size)) (fun_ext (λ i. ap (λ (b : Bool). cond (b && covers place bytes i) (slice_index bytes (i - place)) (byte s h k i)) other))
