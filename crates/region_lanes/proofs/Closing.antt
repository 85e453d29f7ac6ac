-- Lanes closed one by one.
use Rattle.std.proofs.Common.{◌≡◌, ◌≢◌, ◌⊎◌, inl, inr, ℕ, ◌+◌, ◌*◌, ◌-◌, ◌<◌, ◌≤◌, Bool, true, false, cond, List, [], ◌∷◌, ◌++◌, map, length, take, drop, Option, Some, None, refl, sym, ap, subst, ◌∙◌, arith, rules}
use Rattle.std.specs.Option.{IfSome}
use Rattle.std.specs.Prelude.{◌||◌, ◌==◌, nat_lt, slice_index_or}
use Rattle.std.specs.List.{remove}
use Rattle.std.proofs.lemmas.Bool.{cases_Bool, ltb-true, eqb-true}
use Rattle.page_base.specs.Backings.{Backing, in_memory, in_file, in_files}
use Rattle.page_base.specs.Lanes.{LaneSeen, Rose}
use Rattle.file_store.specs.Parts.{PartName, PartSeen, WhereTold}
use Rattle.file_store.specs.Shelves.{Shelf}
use Rattle.file_store.specs.FileLanes.{part_of}
use Rattle.region_lanes.specs.Closings.{IsOut, ClosesIn, ClosesLane, out_behind, out_without, AllOut, ClosesAll, any_fault}

pub none_closed : (t : Option Shelf) → WhereTold (ClosesAll []) t t
none_closed None = tt
none_closed (Some s) = refl

pub one_more : (l : LaneSeen) (ls : List LaneSeen) (old mid new : Option Shelf) → WhereTold (ClosesLane l) old mid → WhereTold (ClosesAll ls) mid new → WhereTold (ClosesAll (l ∷ ls)) old new
one_more l ls None None None one rest = tt
one_more l ls None None (Some c) one rest = absurd rest
one_more l ls None (Some b) new one rest = absurd one
one_more l ls (Some a) None new one rest = absurd one
one_more l ls (Some a) (Some b) None one rest = absurd rest
one_more l ls (Some a) (Some b) (Some c) one rest = (b, one, rest)

out_is : (b : Backing) (part : PartSeen) (old new : Shelf) → ClosesIn b part old new → new.out ≡ out_without b part.name old.out
out_is in_memory part old new closes = ap (λ (s : Shelf). s.out) closes
out_is (in_file path) part old new closes = closes.out
out_is (in_files path file) part old new closes = absurd closes

pub still_out : (l : LaneSeen) (ls : List LaneSeen) (old mid : Option Shelf) → IfSome old (λ s. AllOut (l ∷ ls) s.out) → WhereTold (ClosesLane l) old mid → IfSome mid (λ s. AllOut ls s.out)
still_out l ls None None out one = tt
still_out l ls None (Some b) out one = absurd one
still_out l ls (Some a) None out one = absurd one
still_out l ls (Some a) (Some b) out one = subst (AllOut ls) (sym (out_is l.origin.backing (part_of l) a b one)) out.1

pub first_out : (l : LaneSeen) (ls : List LaneSeen) (old : Option Shelf) → IfSome old (λ s. AllOut (l ∷ ls) s.out) → IfSome old (λ s. IsOut l s.out)
first_out l ls None out = tt
first_out l ls (Some a) out = out.0

pub unroll : {X : Type 0} (xs ys : List X) (x : X) → 0 < length xs → x ≡ slice_index_or xs 0 x → ys ≡ remove xs 0 → xs ≡ x ∷ ys
unroll [] ys x some first rest = absurd (omega arith)
unroll (z ∷ zs) ys x some first rest = ap (λ y. y ∷ zs) (sym first) ∙ ap (λ (t : List _). x ∷ t) (sym rest)

-- what a closed lane adds to the folder's count
pub faults_on : (l : LaneSeen) (ls : List LaneSeen) (first before after : ℕ) → before ≤ after → (0 < l.count → Rose before after) → first ≤ before → Rose first before ⊎ (any_fault (l ∷ ls) ≡ true) → Rose first after ⊎ (any_fault ls ≡ true)
faults_on l ls first before after later rose began (inl so_far) = inl (omega arith)
faults_on l ls first before after later rose began (inr here) = elim (cases_Bool (nat_lt 0 l.count)) [
  | inl some ↦ inl (omega (arith, rose (ltb-true 0 l.count some)))
  | inr none ↦ inr (subst (λ (b : Bool). (b || any_fault ls) ≡ true) none here)
]

pub some_left : {X : Type 0} (xs : List X) → (length xs == 0) ≡ false → 0 < length xs
some_left [] is = absurd (cc)
some_left (x ∷ xs) is = omega arith

pub none_left : {X : Type 0} (xs : List X) → (length xs == 0) ≡ true → xs ≡ []
none_left [] is = refl
none_left (x ∷ xs) is = absurd (apart (eqb-true (length (x ∷ xs)) 0 is))
  where
    apart : length (x ∷ xs) ≡ 0 → ⊥
    apart e = omega arith

pub no_fault : (P : Type 0) → P ⊎ (any_fault [] ≡ true) → P
no_fault P (inl p) = p
no_fault P (inr e) = absurd (cc)

-- ---- rows

out_all : (ls more : List LaneSeen) (old new : Shelf) → ClosesAll ls old new → AllOut (ls ++ more) old.out → AllOut more new.out
out_all [] more old new closes out = subst (λ (s : Shelf). AllOut more s.out) (sym closes) out
out_all (l ∷ ls) more old new closes out = out_all ls more closes.0 new closes.2 (subst (AllOut (ls ++ more)) (sym (out_is l.origin.backing (part_of l) old closes.0 closes.1)) out.1)

front_out_of : (ls more : List LaneSeen) (out : List PartName) → AllOut (ls ++ more) out → AllOut ls out
front_out_of [] more out all = tt
front_out_of (l ∷ ls) more out all = (all.0, front_out_of ls more (out_behind l out) all.1)

pub row_out : (ls more : List LaneSeen) (old : Option Shelf) → IfSome old (λ s. AllOut (ls ++ more) s.out) → IfSome old (λ s. AllOut ls s.out)
row_out ls more None out = tt
row_out ls more (Some a) out = front_out_of ls more a.out out

pub rest_out : (ls more : List LaneSeen) (old mid : Option Shelf) → IfSome old (λ s. AllOut (ls ++ more) s.out) → WhereTold (ClosesAll ls) old mid → IfSome mid (λ s. AllOut more s.out)
rest_out ls more None None out one = tt
rest_out ls more None (Some b) out one = absurd one
rest_out ls more (Some a) None out one = absurd one
rest_out ls more (Some a) (Some b) out one = out_all ls more a b one out

joined : (ls more : List LaneSeen) (old mid new : Shelf) → ClosesAll ls old mid → ClosesAll more mid new → ClosesAll (ls ++ more) old new
joined [] more old mid new one two = subst (λ (s : Shelf). ClosesAll more s new) one two
joined (l ∷ ls) more old mid new one two = (one.0, one.1, joined ls more one.0 mid new one.2 two)

pub one_row_more : (ls more : List LaneSeen) (old mid new : Option Shelf) → WhereTold (ClosesAll ls) old mid → WhereTold (ClosesAll more) mid new → WhereTold (ClosesAll (ls ++ more)) old new
one_row_more ls more None None None one rest = tt
one_row_more ls more None None (Some c) one rest = absurd rest
one_row_more ls more None (Some b) new one rest = absurd one
one_row_more ls more (Some a) None new one rest = absurd one
one_row_more ls more (Some a) (Some b) None one rest = absurd rest
one_row_more ls more (Some a) (Some b) (Some c) one rest = joined ls more a b c one rest

any_in : (ls more : List LaneSeen) → any_fault (ls ++ more) ≡ true → (any_fault ls ≡ true) ⊎ (any_fault more ≡ true)
any_in [] more any = inr any
any_in (l ∷ ls) more any = elim (cases_Bool (nat_lt 0 l.count)) [
  | inl some ↦ inl (ap (λ (b : Bool). b || any_fault ls) some)
  | inr none ↦ elim (any_in ls more (subst (λ (b : Bool). (b || any_fault (ls ++ more)) ≡ true) none any)) [
    | inl here ↦ inl (ap (λ (b : Bool). b || any_fault ls) none ∙ here)
    | inr there ↦ inr there
  ]
]

pub row_faults : (ls more : List LaneSeen) (first before after : ℕ) → before ≤ after → (any_fault ls ≡ true → Rose before after) → first ≤ before → Rose first before ⊎ (any_fault (ls ++ more) ≡ true) → Rose first after ⊎ (any_fault more ≡ true)
row_faults ls more first before after later rose began (inl so_far) = inl (omega arith)
row_faults ls more first before after later rose began (inr here) = elim (any_in ls more here) [
  | inl some ↦ inl (omega (arith, rose some))
  | inr there ↦ inr there
]
