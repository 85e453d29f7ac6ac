-- The worked case.
use Rattle.std.proofs.Common.{◌≡◌, ℕ, zero, suc, ◌+◌, ◌<◌, ◌≤◌, List, [], ◌∷◌, length, take, drop, replicate, slice_index, refl, ap, ◌∙◌, arith}
use Rattle.page_model.specs.Pieces.{loads, saves}
use Rattle.region_table.specs.Pieces.{pieces_of}
use Rattle.workload_text.specs.Line.{Line, load_line, store_line}
use Rattle.flat_lines.specs.Worlds.{World, IsWorld, flat_byte, AllHold}
use Rattle.flat_lines.specs.FlatRegions.{stored_part}
use Rattle.flat_lines.specs.Lines.{AllDid, AllInside}
use Rattle.flat_lines.specs.Flat.{IsFlat, AreFlat, WereTold, LinesAreFlat, BytesByPages}
use Rattle.flat_lines.specs.Worked.{two_stripes, stored_and_loaded, FollowsStore, LoadsWhatWasStored}

fine : IsWorld two_stripes
fine =
    let byte : 1 ≤ 2 = omega arith in
    let stripe : 0 < 2 = omega arith in
    record { some_byte = byte; some_stripe = stripe; sized = λ s. refl }

told : WereTold two_stripes 0
told zero below = refl
told (suc zero) below = refl
told (suc (suc zero)) below = refl
told (suc (suc (suc zero))) below = refl
told (suc (suc (suc (suc n)))) below = absurd (omega (arith, below))

zeros : (i : ℕ) → i < 8 → flat_byte two_stripes (λ s. []) 0 i ≡ slice_index (replicate 8 0) i
zeros zero below = refl
zeros (suc zero) below = refl
zeros (suc (suc zero)) below = refl
zeros (suc (suc (suc zero))) below = refl
zeros (suc (suc (suc (suc zero)))) below = refl
zeros (suc (suc (suc (suc (suc zero))))) below = refl
zeros (suc (suc (suc (suc (suc (suc zero)))))) below = refl
zeros (suc (suc (suc (suc (suc (suc (suc zero))))))) below = refl
zeros (suc (suc (suc (suc (suc (suc (suc (suc i)))))))) below = absurd (omega (arith, below))

start : AllHold two_stripes (λ s. []) (replicate 8 0 ∷ [])
start zero below its = record { whole = refl; each = λ i lt t. zeros i lt }
start (suc r) below its = absurd (omega (arith, below))

may : FollowsStore (0 ∷ 7 ∷ 8 ∷ 9 ∷ [])
may zero below = (refl, tt)
may (suc zero) below = (refl, tt)
may (suc (suc s)) below = absurd (omega (arith, below))

inside : AllInside two_stripes 1 (store_line 0 3 (7 ∷ 8 ∷ 9 ∷ []) ∷ load_line 0 2 4 ∷ [])
inside =
    let there : 0 < 1 = omega arith in
    let six : 6 ≤ 8 = omega arith in
    ((there, six), ((there, six), tt))

did : (bytes : List ℕ) → length bytes ≡ 4 → AllDid two_stripes.spread (store_line 0 3 (7 ∷ 8 ∷ 9 ∷ []) ∷ load_line 0 2 4 ∷ []) ((7 ∷ 8 ∷ 9 ∷ []) ∷ bytes ∷ []) (λ s. []) (stored_and_loaded bytes)
did bytes four = (
  saves (pieces_of 2 0 3 3) (7 ∷ 8 ∷ 9 ∷ []),
  (pieces_of 2 0 3 3, ([], refl), refl, refl),
  (loads (pieces_of 2 0 2 4) bytes, (pieces_of 2 0 2 4, ([], refl), four, refl), λ s. refl),
)

second : (w : World) (regions : List (List ℕ)) (l m : Line) (p q : List ℕ) → AreFlat w regions (l ∷ m ∷ []) (p ∷ q ∷ []) → IsFlat w (stored_part regions l p) m q
second w regions l m p q (a, (b, c)) = b

pub what_was_stored : LinesAreFlat → BytesByPages → LoadsWhatWasStored
what_was_stored law whole = record {
  may = may;
  must = λ bytes four follow.
      let new : List ℕ = 7 ∷ 8 ∷ 9 ∷ [] in
      let old : List (List ℕ) = replicate 8 0 ∷ [] in
      let its : List ℕ = 0 ∷ 0 ∷ 0 ∷ 7 ∷ 8 ∷ 9 ∷ 0 ∷ 0 ∷ [] in
      let flat = law two_stripes (store_line 0 3 new ∷ load_line 0 2 4 ∷ []) (new ∷ bytes ∷ []) (λ s. []) (stored_and_loaded bytes) old fine inside (did bytes four) follow start in
      let near : 2 + length bytes ≤ 8 = omega (arith, four) in
      whole.load two_stripes (its ∷ []) 0 2 4 bytes fine (second two_stripes old (store_line 0 3 new) (load_line 0 2 4) new bytes flat.0) refl told near near
      ∙ ap (λ n. take n (drop 2 its)) four;
}
