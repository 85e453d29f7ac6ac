-- Where a page lies in its lane.
use Rattle.std.proofs.Common.{◌≡◌, ◌<◌, ◌≤◌, ◌*◌, ◌∷◌, ◌++◌, [], length, slice_get, None, ◌/◌, ◌∙◌, ℕ, List, Option, Some, true, refl, sym, ap, subst, arith}
use Rattle.std.proofs.lemmas.List.{length-append}
use Rattle.std.proofs.Math.Nat.{mul-div_cancel, mul-le-mul}
use Rattle.page_base.specs.Lanes.{Origin, LaneSeen, has_page, told_at}
use Rattle.page_model.specs.Trips.{HoldsPage, WithPage, OtherPages}
use Rattle.std.specs.Option.{IfSome, is_some}
use Rattle.store_trait.specs.Memory.{memory_origin}
use Rattle.store_trait.specs.Lanes.{IsPlace, IsPageOf, ChangesOnly, retold}

pub back : (page n size : ℕ) → 0 < n → n ≡ size → page * n / size ≡ page
back page n size some same = subst (λ m. page * n / m ≡ page) same (mul-div_cancel page some)

pub is_place : (o : Origin) (page n : ℕ) → 0 < n → n ≡ o.page_size → has_page o page ≡ true → IsPlace o n (page * n)
is_place o page n some same its =
    let there : page * n / o.page_size ≡ page = back page n o.page_size some same in
    record {
      some = subst (λ x. 0 < x) same some;
      one_page = same;
      whole = rw there (ap (λ x. page * x) same);
      of_lane = rw there its;
    }

pub holds : (lane taken : LaneSeen) (page off size : ℕ) (bytes : List ℕ) → lane ≡ taken → off / size ≡ page → IsPageOf lane.told (off / size) bytes → HoldsPage taken page bytes
holds lane taken page off size bytes same there is =
    let one : (kept : List ℕ) → told_at lane.told (off / size) ≡ Some kept → bytes ≡ kept = λ kept e. subst (λ t. IfSome t (λ k. bytes ≡ k)) e is in
    let two : HoldsPage lane page bytes = subst (λ p. HoldsPage lane p bytes) there one in
    subst (λ t. HoldsPage t page bytes) same two

pub bounded : (page n : ℕ) → page ≤ 4294967295 → n ≤ 1048576 → page * n ≤ 4503599626321920
bounded page n low small = mul-le-mul low small

told : (old : Option (List ℕ)) (bytes : List ℕ) → is_some old ≡ true → retold old bytes ≡ Some bytes
told None bytes e = absurd cc
told (Some kept) bytes e = refl

-- the lane after this page was written to it
pub wrote : (lane taken new : LaneSeen) (page p : ℕ) (bytes : List ℕ) → lane ≡ taken → p ≡ page → told_at new.told p ≡ retold (told_at lane.told p) bytes
    → ChangesOnly p lane.told new.told → new.origin ≡ lane.origin → lane.count ≤ new.count → WithPage page bytes taken new
wrote lane taken new page p bytes same there w only origin count =
    let one : WithPage p bytes lane new = record { origin = origin; page = λ e. w ∙ told (told_at lane.told p) bytes e; others = only.others; count = count } in
    subst (λ t. WithPage page bytes t new) same (subst (λ q. WithPage q bytes lane new) there one)

-- the lane after a write of this page failed
pub missed : (lane taken new : LaneSeen) (page p : ℕ) → lane ≡ taken → p ≡ page
    → ChangesOnly p lane.told new.told → new.origin ≡ lane.origin → lane.count ≤ new.count → OtherPages page taken new
missed lane taken new page p same there only origin count =
    let one : OtherPages p lane new = record { origin = origin; page = λ e. only.stays_told ∙ e; others = only.others; count = count } in
    subst (λ t. OtherPages page t new) same (subst (λ q. OtherPages q lane new) there one)

pub whole : (pages size n : ℕ) → 0 < size → n ≡ pages * size → n ≡ n / size * size
whole pages size n some is = is ∙ ap (λ x. x * size) (sym (ap (λ x. x / size) is ∙ mul-div_cancel pages some))

pub only : {X : Type 0} (xs ys : List X) (x : X) → xs ≡ ys ++ x ∷ [] → length xs ≡ 1 → slice_get xs 0 ≡ Some x
only xs [] x e n = ap (λ zs. slice_get zs 0) e
only xs (y ∷ ys) x e n = let one : length ((y ∷ ys) ++ x ∷ []) ≡ 1 = sym (ap length e) ∙ n in absurd (omega (arith, one, length-append (y ∷ ys) (x ∷ [])))

pub alike : (r p q n m s t : ℕ) → p ≡ q → n ≡ m → s ≡ t → memory_origin r p n s 0 ≡ memory_origin r q m t 0
alike r p q n m s t a b c = cc (a, b, c)
