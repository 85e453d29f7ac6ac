-- One access more, in a byte of a region.
use Rattle.std.proofs.Common.{◌≡◌, ◌⊎◌, inl, inr, ℕ, ◌+◌, ◌*◌, ◌-◌, ◌/◌, ◌%◌, ◌<◌, ◌≤◌, ◌==◌, ◌&&◌, not, nat_le, nat_lt, Bool, true, false, cond, List, [], ◌∷◌, ◌++◌, length, reverse, get_or, slice_range, Some, refl, sym, ap, subst, ◌∙◌, arith, append_assoc}
use Rattle.std.proofs.lemmas.Bool.{cases_Bool, cases_lt, and_from, and_left, and_right, cond-true, cond-false, le-leb, lt-ltb, lt-leb, le-ltb, eq-eqb, not-true, OnTrue_at}
use Rattle.std.proofs.lemmas.Nat.{div-mul-add, mod-mul-add, div-add-mod', mod_below}
use Rattle.std.proofs.lemmas.List.{places, reverse-append}
use Rattle.std.proofs.lemmas.List.FromFn.{get_or-map-range_with_len, length-map-range_with_len}
use Rattle.histories.specs.Histories.{History, by}
use Rattle.page_base.specs.ListSeen.{spliced}
use Rattle.page_base.specs.Laws.{SameIsEqual}
use Rattle.page_base.specs.Pages.{same}
use Rattle.page_base.specs.declared.keys.Key.{Key}
use Rattle.page_base.specs.declared.keys.Piece.{Piece}
use Rattle.page_model.specs.declared.entry.Entry.{Entry}
use Rattle.page_model.specs.declared.entry.Entry.TheVariants.{Load, Save}
use Rattle.page_model.specs.Entries.{key_of, lies_in, of_stripe}
use Rattle.page_model.specs.Memory.{byte, covers, flat}
use Rattle.page_model.specs.Owned.{LoadsFollow}
use Rattle.page_model.specs.Setups.{Setup}
use Rattle.region_table.specs.Covers.{IsPieceAt}
use Rattle.flat_lines.specs.Spreads.{Spread, stripe_in, range_key, piece_key}
use Rattle.flat_lines.specs.Worlds.{World, IsWorld, was_told, flat_byte, HoldsBytes}
use Rattle.flat_lines.specs.Lines.{more_made}

-- ---- accesses one by one

reverse_cons : {A : Type 0} (x : A) (xs : List A) → reverse (x ∷ xs) ≡ reverse xs ++ x ∷ []
reverse_cons x xs = reverse-append (x ∷ []) xs

-- the first of some accesses, and then the others
pub made_cons : (t : Spread) (e : Entry) (es : List Entry) (behind : ℕ → List Entry) (s : ℕ) → more_made t (e ∷ es) behind s ≡ more_made t es (more_made t (e ∷ []) behind) s
made_cons t e es behind s = go (lies_in (stripe_in t) s (key_of e))
  where
    go : (b : Bool) → reverse (cond b (e ∷ of_stripe (stripe_in t) s es) (of_stripe (stripe_in t) s es)) ++ behind s ≡ reverse (of_stripe (stripe_in t) s es) ++ (reverse (cond b (e ∷ []) []) ++ behind s)
    go true = ap (λ xs. xs ++ behind s) (reverse_cons e (of_stripe (stripe_in t) s es)) ∙ append_assoc (reverse (of_stripe (stripe_in t) s es)) (e ∷ []) (behind s)
    go false = refl

-- the loads of each stripe follow
abbrev pub Follows : World → (ℕ → List Entry) → Type 0
Follows w es = (s : ℕ) → s < w.spread.stripes → LoadsFollow (w.setups s) (es s)

follow_tail : (s : Setup) (xs ys : List Entry) → LoadsFollow s (xs ++ ys) → LoadsFollow s ys
follow_tail s [] ys l = l
follow_tail s (Load k place bytes ∷ xs) ys l = follow_tail s xs ys l.1
follow_tail s (e ∷ xs) ys l = follow_tail s xs ys l

pub follow_behind : (t : Spread) (u : Setup) (es : List Entry) (behind : ℕ → List Entry) (s : ℕ) → LoadsFollow u (more_made t es behind s) → LoadsFollow u (behind s)
follow_behind t u es behind s l = follow_tail u (reverse (of_stripe (stripe_in t) s es)) (behind s) l

-- the access in its page's stripe
here : (t : Spread) (e : Entry) (k : Key) (behind : ℕ → List Entry) → key_of e ≡ Some k → more_made t (e ∷ []) behind (stripe_in t k) ≡ e ∷ behind (stripe_in t k)
here t e k behind is =
    let b : lies_in (stripe_in t) (stripe_in t k) (key_of e) ≡ true = ap (λ o. lies_in (stripe_in t) (stripe_in t k) o) is ∙ eq-eqb (stripe_in t k) (stripe_in t k) refl in
    ap (λ c. reverse (cond c (e ∷ []) []) ++ behind (stripe_in t k)) b

-- ---- an access that leaves a byte alone

-- the entry stores nothing to byte i of page k
abbrev pub passes : Key → ℕ → Entry → Bool
passes k i (Save j place bytes) = not (same j k && covers place bytes i)
passes k i e = true

byte_passed : (s : Setup) (h : History Entry) (o : ℕ) (e : Entry) (k : Key) (i : ℕ) → passes k i e ≡ true → byte s ((o, e) ∷ h) k i ≡ byte s h k i
byte_passed s h o (Save j place bytes) k i n = cond-false (same j k && covers place bytes i) (get_or bytes (i - place) 0) (byte s h k i) (not-true (same j k && covers place bytes i) n)
byte_passed s h o e k i n = refl

-- the entry stores nothing to the region
abbrev pub spares : ℕ → Entry → Bool
spares r (Save j place bytes) = not (j.region == r)
spares r e = true

pub spared_passes : (k : Key) (i : ℕ) (e : Entry) → spares k.region e ≡ true → passes k i e ≡ true
spared_passes k i (Save j place bytes) n =
    ap not (and_left (same j k) (covers place bytes i) (and_right (j.page == k.page) (j.region == k.region) (not-true (j.region == k.region) n)))
spared_passes k i e n = refl

-- ---- lists

spliced_at : (b new : List ℕ) (off i : ℕ) → off + length new ≤ length b → off ≤ i → i < off + length new → get_or (spliced b off new) i 0 ≡ get_or new (i - off) 0
spliced_at b new off i fits from below = grind (arith, places)

spliced_before : (b new : List ℕ) (off i : ℕ) → off + length new ≤ length b → i < off → get_or (spliced b off new) i 0 ≡ get_or b i 0
spliced_before b new off i fits before = grind (arith, places)

spliced_behind : (b new : List ℕ) (off i : ℕ) → off + length new ≤ length b → off + length new ≤ i → i < length b → get_or (spliced b off new) i 0 ≡ get_or b i 0
spliced_behind b new off i fits past below = grind (arith, places)

pub length-spliced : (b new : List ℕ) (off : ℕ) → off + length new ≤ length b → length (spliced b off new) ≡ length b
length-spliced b new off fits = grind (arith, places)

pub slice_at : (xs : List ℕ) (place n j : ℕ) → place + n ≤ length xs → j < n → get_or (slice_range xs place (place + n)) j 0 ≡ get_or xs (place + j) 0
slice_at xs place n j fits below = grind (arith, places)

pub flat_length : (s : Setup) (h : History Entry) (k : Key) → length (flat s h k) ≡ s.page_size
flat_length s h k = length-map-range_with_len (byte s h k) 0 s.page_size

pub flat_at : (s : Setup) (h : History Entry) (k : Key) (i : ℕ) → i < s.page_size → get_or (flat s h k) i 0 ≡ byte s h k i
flat_at s h k i lt = get_or-map-range_with_len (byte s h k) 0 s.page_size i i 0 lt (omega arith)

module _ (w : World) (fine : IsWorld w) (same_is : SameIsEqual) where
  abbrev z : ℕ
  z = w.spread.page_size

  pub made_passed : (e : Entry) (behind : ℕ → List Entry) (r i : ℕ) → passes (piece_key w.spread.page_size r i) (i % w.spread.page_size) e ≡ true → flat_byte w (more_made w.spread (e ∷ []) behind) r i ≡ flat_byte w behind r i
  made_passed e behind r i n = go (lies_in (stripe_in w.spread) (stripe_in w.spread (piece_key w.spread.page_size r i)) (key_of e))
    where
      go : (b : Bool) → byte (w.setups (stripe_in w.spread (piece_key w.spread.page_size r i))) (by 0 (reverse (cond b (e ∷ []) []) ++ behind (stripe_in w.spread (piece_key w.spread.page_size r i)))) (piece_key w.spread.page_size r i) (i % w.spread.page_size) ≡ flat_byte w behind r i
      go true = byte_passed (w.setups (stripe_in w.spread (piece_key w.spread.page_size r i))) (by 0 (behind (stripe_in w.spread (piece_key w.spread.page_size r i)))) 0 e (piece_key w.spread.page_size r i) (i % w.spread.page_size) n
      go false = refl

  pub holds_same : (es fs : ℕ → List Entry) (r : ℕ) (b : List ℕ) → ((s : ℕ) → fs s ≡ es s) → HoldsBytes w es r b → HoldsBytes w fs r b
  holds_same es fs r b same h = record {
    whole = h.whole;
    each = λ i lt told. ap (λ x. byte (w.setups (stripe_in w.spread (piece_key z r i))) (by 0 x) (piece_key z r i) (i % z)) (same (stripe_in w.spread (piece_key z r i))) ∙ h.each i lt told;
  }

  -- an access that stores nothing to the region
  pub holds_other : (e : Entry) (behind : ℕ → List Entry) (r : ℕ) (b : List ℕ) → spares r e ≡ true → HoldsBytes w behind r b → HoldsBytes w (more_made w.spread (e ∷ []) behind) r b
  holds_other e behind r b n h = record { whole = h.whole; each = λ i lt told. made_passed e behind r i (spared_passes (piece_key z r i) (i % z) e n) ∙ h.each i lt told }

  -- ---- one piece

  -- byte i of the region lies in this piece
  record IsIn (p : Piece) (r off i : ℕ) : Type 0 where
    pub key : p.key ≡ piece_key w.spread.page_size r i
    pub place : i % w.spread.page_size ≡ p.place + (i - off)

  is_in : (p : Piece) (r off i : ℕ) → IsPieceAt w.spread.page_size r off p → off ≤ i → i < off + p.len → IsIn p r off i
  is_in p r off i at from below =
      let room : p.place + (i - off) < z = omega (arith, at.within, from, below) in
      let is : p.key.page * z + (p.place + (i - off)) ≡ i = omega (arith, at.begins, from) in
      let page : p.key.page ≡ i / z = sym (div-mul-add p.key.page z (p.place + (i - off)) room) ∙ ap (λ n. n / z) is in
      record {
        key = ap (λ q. range_key q p.key.page) at.of_region ∙ ap (λ n. range_key r n) page;
        place = sym (ap (λ n. n % z) is) ∙ mod-mul-add p.key.page z (p.place + (i - off)) room;
      }

  -- a piece stored shows where it lies
  stored_in : (p : Piece) (new : List ℕ) (behind : ℕ → List Entry) (r off i : ℕ) → IsPieceAt w.spread.page_size r off p → length new ≡ p.len → off ≤ i → i < off + p.len
      → flat_byte w (more_made w.spread (Save p.key p.place new ∷ []) behind) r i ≡ get_or new (i - off) 0
  stored_in p new behind r off i at long from below =
      let there = is_in p r off i at from below in
      let k : Key = piece_key z r i in
      let m : ℕ = i % z in
      let u : Setup = w.setups (stripe_in w.spread k) in
      let h : History Entry = by 0 (behind (stripe_in w.spread k)) in
      let shift : m - p.place ≡ i - off = omega (arith, there.place) in
      let covered : (same k k && covers p.place new m) ≡ true = and_from (same k k) (covers p.place new m) (same_is.self_ k) (and_from (nat_le p.place m) (nat_lt m (p.place + length new)) (le-leb p.place m (omega (arith, there.place))) (lt-ltb m (p.place + length new) (omega (arith, there.place, long, from, below)))) in
      ap (λ j. flat_byte w (more_made w.spread (Save j p.place new ∷ []) behind) r i) there.key
      ∙ ap (λ (es : List Entry). byte u (by 0 es) k m) (here w.spread (Save k p.place new) k behind refl)
      ∙ cond-true (same k k && covers p.place new m) (get_or new (m - p.place) 0) (byte u h k m) covered
      ∙ ap (λ n. get_or new n 0) shift

  -- and nowhere else
  stored_out : (p : Piece) (new : List ℕ) (r off i : ℕ) → IsPieceAt w.spread.page_size r off p → length new ≡ p.len → (i < off) ⊎ (off + p.len ≤ i)
      → passes (piece_key w.spread.page_size r i) (i % w.spread.page_size) (Save p.key p.place new) ≡ true
  stored_out p new r off i at long out =
      let none : (same p.key (piece_key w.spread.page_size r i) && covers p.place new (i % w.spread.page_size)) ≡ false = elim (cases_Bool (same p.key (piece_key w.spread.page_size r i))) [
        | inl t ↦ and_right (same p.key (piece_key w.spread.page_size r i)) (covers p.place new (i % w.spread.page_size)) (past (begins t) out)
        | inr n ↦ and_left (same p.key (piece_key w.spread.page_size r i)) (covers p.place new (i % w.spread.page_size)) n
      ] in
      ap not none
    where
      begins : same p.key (piece_key w.spread.page_size r i) ≡ true → i + p.place ≡ off + i % w.spread.page_size
      begins t =
          let page : p.key.page * w.spread.page_size ≡ i / w.spread.page_size * w.spread.page_size = ap (λ (j : Key). j.page * w.spread.page_size) (same_is.equal p.key (piece_key w.spread.page_size r i) t) in
          omega (arith, page, div-add-mod' i w.spread.page_size, at.begins)

      past : i + p.place ≡ off + i % w.spread.page_size → (i < off) ⊎ (off + p.len ≤ i) → covers p.place new (i % w.spread.page_size) ≡ false
      past is (inl lt) = and_left (nat_le p.place (i % w.spread.page_size)) (nat_lt (i % w.spread.page_size) (p.place + length new)) (lt-leb p.place (i % w.spread.page_size) (omega (arith, is, lt)))
      past is (inr ge) = and_right (nat_le p.place (i % w.spread.page_size)) (nat_lt (i % w.spread.page_size) (p.place + length new)) (le-ltb (i % w.spread.page_size) (p.place + length new) (omega (arith, is, ge, long)))

  -- a piece stored is that part of its region
  pub piece_stored : (p : Piece) (new : List ℕ) (behind : ℕ → List Entry) (r off : ℕ) (b : List ℕ) → IsPieceAt w.spread.page_size r off p → length new ≡ p.len → off + p.len ≤ length b
      → HoldsBytes w behind r b → HoldsBytes w (more_made w.spread (Save p.key p.place new ∷ []) behind) r (spliced b off new)
  piece_stored p new behind r off b at long fits h = record {
    whole = length-spliced b new off (omega (arith, fits, long)) ∙ h.whole;
    each = λ i lt told.
        let under : i < length b = omega (arith, lt, length-spliced b new off (omega (arith, fits, long))) in
        let other : (i < off) ⊎ (off + p.len ≤ i) → flat_byte w (more_made w.spread (Save p.key p.place new ∷ []) behind) r i ≡ get_or b i 0 = λ out. made_passed (Save p.key p.place new) behind r i (stored_out p new r off i at long out) ∙ h.each i under told in
        elim (cases_lt i off) [
          | inl before ↦ other (inl before) ∙ sym (spliced_before b new off i (omega (arith, fits, long)) before)
          | inr from ↦ elim (cases_lt i (off + p.len)) [
            | inl below ↦ stored_in p new behind r off i at long from below ∙ sym (spliced_at b new off i (omega (arith, fits, long)) from (omega (arith, below, long)))
            | inr past ↦ other (inr past) ∙ sym (spliced_behind b new off i (omega (arith, fits, long)) (omega (arith, past, long)) under)
          ]
        ];
  }

  -- a piece loaded is that part of its region
  pub piece_loaded : (p : Piece) (bytes : List ℕ) (behind : ℕ → List Entry) (r off i : ℕ) (b : List ℕ) → IsPieceAt w.spread.page_size r off p → length bytes ≡ p.len → off + p.len ≤ length b
      → Follows w (more_made w.spread (Load p.key p.place bytes ∷ []) behind) → HoldsBytes w behind r b
      → i < p.len → was_told w (piece_key w.spread.page_size r (off + i)) ≡ true → get_or bytes i 0 ≡ get_or b (off + i) 0
  piece_loaded p bytes behind r off i b at long fits follow h below told =
      let there = is_in p r off (off + i) at (omega arith) (omega (arith, below)) in
      let k : Key = piece_key z r (off + i) in
      let n : ℕ = stripe_in w.spread k in
      let u : Setup = w.setups n in
      let page : List ℕ = flat u (by 0 (behind n)) k in
      let its : Follows w (more_made w.spread (Load k p.place bytes ∷ []) behind) = subst (λ j. Follows w (more_made w.spread (Load j p.place bytes ∷ []) behind)) there.key follow in
      let l : LoadsFollow u (Load k p.place bytes ∷ behind n) = subst (LoadsFollow u) (here w.spread (Load k p.place bytes) k behind refl) (its n (mod_below (r + k.page / w.spread.group_of r) w.spread.stripes fine.some_stripe)) in
      let given : bytes ≡ slice_range page p.place (p.place + length bytes) = OnTrue_at told l.0 in
      let sized : length page ≡ z = flat_length u (by 0 (behind n)) k ∙ fine.sized n in
      let small : p.place + i < z = omega (arith, below, at.within) in
      let shift : p.place + i ≡ (off + i) % z = omega (arith, there.place) in
      ap (λ xs. get_or xs i 0) given
      ∙ slice_at page p.place (length bytes) i (omega (arith, sized, long, at.within)) (omega (arith, below, long))
      ∙ flat_at u (by 0 (behind n)) k (p.place + i) (subst (λ m. p.place + i < m) (sym (fine.sized n)) small)
      ∙ ap (λ m. byte u (by 0 (behind n)) k m) shift
      ∙ h.each (off + i) (omega (arith, fits, below)) told
