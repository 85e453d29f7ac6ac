-- The first pieces of a range, loaded or stored one by one.
use Rattle.std.proofs.Common.{◌≡◌, ◌⊎◌, inl, inr, ℕ, ◌+◌, ◌-◌, ◌<◌, ◌≤◌, ◌==◌, not, true, false, List, [], ◌∷◌, ◌++◌, length, take, drop, get_or, refl, sym, ap, subst, ◌∙◌, arith, rules, length-drop}
use Rattle.std.specs.List.{list_all}
use Rattle.std.proofs.lemmas.Bool.{cases_lt, cases_Bool, and_from, and_parts, eqb-true}
use Rattle.std.proofs.lemmas.List.{places, same_lists, take-append-drop, length-take-le, get_or-take, get_or-drop}
use Rattle.std.proofs.lemmas.List.Sums.{sum_by-append, sum_by-cons}
use Rattle.page_base.specs.ListSeen.{spliced}
use Rattle.page_base.specs.Laws.{SameIsEqual}
use Rattle.page_base.specs.declared.keys.Piece.{Piece}
use Rattle.page_model.specs.declared.entry.Entry.{Entry}
use Rattle.page_model.specs.declared.entry.Entry.TheVariants.{Load, Save}
use Rattle.page_model.specs.Owned.{LoadsFollow}
use Rattle.page_model.specs.Pieces.{bytes_in, loads, saves}
use Rattle.region_table.specs.Covers.{AreConsecutive, PiecesCover}
use Rattle.region_table.specs.Pieces.{pieces_of}
use Rattle.flat_lines.specs.Spreads.{piece_key}
use Rattle.flat_lines.specs.Worlds.{World, IsWorld, was_told, HoldsBytes}
use Rattle.flat_lines.specs.Lines.{IsFront, is_other, more_made}
use Rattle.flat_lines.proofs.Bytes.{made_cons, Follows, follow_behind, spares, holds_same, holds_other, piece_loaded, piece_stored}

store_joined : (part b : List ℕ) (off n : ℕ) → n ≤ length part → off + length part ≤ length b → spliced (spliced b off (take n part)) (off + n) (drop n part) ≡ spliced b off part
store_joined part b off n few inside = same_lists _ _ (search (rules, places)) (λ k d h. grind (arith, places))

nothing : (xs : List ℕ) → length xs ≡ 0 → xs ≡ []
nothing [] e = refl
nothing (x ∷ xs) e = absurd (omega (arith, e))

spliced_nothing : (b : List ℕ) (off : ℕ) → spliced b off [] ≡ b
spliced_nothing b off = ap (λ n. take off b ++ drop n b) (let e : off + 0 ≡ off = omega arith in e) ∙ take-append-drop off b

-- one piece's share of the bytes
pub record Share (p : Piece) (ps : List Piece) (part : List ℕ) : Type 0 where
  pub total : bytes_in (p ∷ ps) ≡ p.len + bytes_in ps
  pub front : length (take p.len part) ≡ p.len
  pub back : length (drop p.len part) ≡ bytes_in ps

share : (p : Piece) (ps : List Piece) (part : List ℕ) → length part ≡ bytes_in (p ∷ ps) → Share p ps part
share p ps part long =
    let total : bytes_in (p ∷ ps) ≡ p.len + bytes_in ps = sum_by-cons (λ (q : Piece). q.len) p ps in
    record { total = total; front = length-take-le p.len part (omega (arith, long, total)); back = omega (arith, length-drop p.len part, long, total) }

module _ (w : World) (fine : IsWorld w) (same_is : SameIsEqual) where
  abbrev z : ℕ
  z = w.spread.page_size

  pub range_loaded : (r off : ℕ) (ps : List Piece) (part : List ℕ) (behind : ℕ → List Entry) (b : List ℕ) → AreConsecutive w.spread.page_size r off ps → off + bytes_in ps ≤ length b → length part ≡ bytes_in ps
      → Follows w (more_made w.spread (loads ps part) behind) → HoldsBytes w behind r b
      → (i : ℕ) → i < length part → was_told w (piece_key w.spread.page_size r (off + i)) ≡ true → get_or part i 0 ≡ get_or b (off + i) 0
  range_loaded r off [] part behind b joined inside long follow h i below told = let none : length part ≡ 0 = long in absurd (omega (arith, none, below))
  range_loaded r off (p ∷ ps) part behind b joined inside long follow h i below told =
      let its = share p ps part long in
      let e : Entry = Load p.key p.place (take p.len part) in
      let mid = more_made w.spread (e ∷ []) behind in
      let later : Follows w (more_made w.spread (loads ps (drop p.len part)) mid) = λ s lt. subst (LoadsFollow (w.setups s)) (made_cons w.spread e (loads ps (drop p.len part)) behind s) (follow s lt) in
      let now : Follows w mid = λ s lt. follow_behind w.spread (w.setups s) (loads ps (drop p.len part)) mid s (later s lt) in
      elim (cases_lt i p.len) [
        | inl lt ↦
            sym (get_or-take p.len part i 0 lt)
            ∙ piece_loaded w fine same_is p (take p.len part) behind r off i b joined.0 its.front (omega (arith, inside, its.total)) now h lt told
        | inr ge ↦
            let j : ℕ = i - p.len in
            let is : p.len + j ≡ i = omega (arith, ge) in
            let at : off + p.len + j ≡ off + i = omega (arith, ge) in
            ap (λ n. get_or part n 0) (sym is) ∙ sym (get_or-drop p.len part j 0)
            ∙ range_loaded r (off + p.len) ps (drop p.len part) mid b joined.1 (omega (arith, inside, its.total)) its.back later (holds_other w fine same_is e behind r b refl h)
            j (omega (arith, ge, below, its.back, long, its.total)) (ap (λ n. was_told w (piece_key z r n)) at ∙ told)
            ∙ ap (λ n. get_or b n 0) at
      ]

  pub range_stored : (r off : ℕ) (ps : List Piece) (part : List ℕ) (behind : ℕ → List Entry) (b : List ℕ) → AreConsecutive w.spread.page_size r off ps → off + bytes_in ps ≤ length b → length part ≡ bytes_in ps
      → HoldsBytes w behind r b → HoldsBytes w (more_made w.spread (saves ps part) behind) r (spliced b off part)
  range_stored r off [] part behind b joined inside long h = subst (HoldsBytes w behind r) (sym (ap (λ xs. spliced b off xs) (nothing part long) ∙ spliced_nothing b off)) h
  range_stored r off (p ∷ ps) part behind b joined inside long h =
      let its = share p ps part long in
      let e : Entry = Save p.key p.place (take p.len part) in
      let mid = more_made w.spread (e ∷ []) behind in
      let one : HoldsBytes w mid r (spliced b off (take p.len part)) = piece_stored w fine same_is p (take p.len part) behind r off b joined.0 its.front (omega (arith, inside, its.total)) h in
      let rest = range_stored r (off + p.len) ps (drop p.len part) mid (spliced b off (take p.len part)) joined.1 (omega (arith, inside, its.total, one.whole, h.whole)) its.back one in
      holds_same w fine same_is (more_made w.spread (saves ps (drop p.len part)) mid) (more_made w.spread (e ∷ saves ps (drop p.len part)) behind) r (spliced b off part)
      (λ s. made_cons w.spread e (saves ps (drop p.len part)) behind s)
      (subst (HoldsBytes w (more_made w.spread (saves ps (drop p.len part)) mid) r) (store_joined part b off p.len (omega (arith, long, its.total)) (omega (arith, long, inside))) rest)

  -- ---- accesses that leave a region alone

  pub holds_spared : (r : ℕ) (es : List Entry) (behind : ℕ → List Entry) (b : List ℕ) → list_all (spares r) es ≡ true → HoldsBytes w behind r b → HoldsBytes w (more_made w.spread es behind) r b
  holds_spared r [] behind b all h = h
  holds_spared r (e ∷ es) behind b all h =
      let both = and_parts (spares r e) (list_all (spares r) es) all in
      holds_same w fine same_is (more_made w.spread es (more_made w.spread (e ∷ []) behind)) (more_made w.spread (e ∷ es) behind) r b (λ s. made_cons w.spread e es behind s)
      (holds_spared r es (more_made w.spread (e ∷ []) behind) b both.1 (holds_other w fine same_is e behind r b both.0 h))

pub loads_spare : (r : ℕ) (ps : List Piece) (part : List ℕ) → list_all (spares r) (loads ps part) ≡ true
loads_spare r [] part = refl
loads_spare r (p ∷ ps) part = loads_spare r ps (drop p.len part)

other_spares : (r : ℕ) (e : Entry) → is_other e ≡ true → spares r e ≡ true
other_spares r (Save j place bytes) o = absurd cc
other_spares r e o = refl

pub others_spare : (r : ℕ) (es : List Entry) → list_all is_other es ≡ true → list_all (spares r) es ≡ true
others_spare r [] all = refl
others_spare r (e ∷ es) all = let both = and_parts (is_other e) (list_all is_other es) all in and_from (spares r e) (list_all (spares r) es) (other_spares r e both.0) (others_spare r es both.1)

pub saves_spare : (z q r off : ℕ) (ps : List Piece) (part : List ℕ) → (q ≡ r → ⊥) → AreConsecutive z r off ps → list_all (spares q) (saves ps part) ≡ true
saves_spare z q r off [] part other joined = refl
saves_spare z q r off (p ∷ ps) part other joined =
    and_from (not (p.key.region == q)) (list_all (spares q) (saves ps (drop p.len part))) (ap not (apart (cases_Bool (p.key.region == q)))) (saves_spare z q r (off + p.len) ps (drop p.len part) other joined.1)
  where
    apart : ((p.key.region == q) ≡ true) ⊎ ((p.key.region == q) ≡ false) → (p.key.region == q) ≡ false
    apart (inl y) = absurd (other (sym (eqb-true p.key.region q y) ∙ joined.0.of_region))
    apart (inr n) = n

-- ---- the first pieces of a range

consecutive_front : (z r off : ℕ) (ps rest : List Piece) → AreConsecutive z r off (ps ++ rest) → AreConsecutive z r off ps
consecutive_front z r off [] rest j = tt
consecutive_front z r off (p ∷ ps) rest j = (j.0, consecutive_front z r (off + p.len) ps rest j.1)

pub record Fronts (z r off len : ℕ) (ps : List Piece) : Type 0 where
  pub joined : AreConsecutive z r off ps
  pub few : bytes_in ps ≤ len

pub front_of : PiecesCover → (z r off len : ℕ) (ps : List Piece) → 1 ≤ z → IsFront (pieces_of z r off len) ps → Fronts z r off len ps
front_of cover z r off len ps some front =
    let covers = cover z r off len some in
    record {
      joined = consecutive_front z r off ps front.0 (subst (AreConsecutive z r off) front.1 covers.joined);
      few = omega (arith, sym covers.lengths ∙ ap bytes_in front.1 ∙ sum_by-append (λ (p : Piece). p.len) ps front.0);
    }
