use Rattle.std.proofs.Common.{rules, ◌≡◌, ℕ, ◌<◌, ◌*◌, ◌/◌, ◌++◌, ◌∷◌, ◌∙◌, List, [], Some, length, length-append, slice_get, sym, ap, arith}
use Rattle.std.proofs.Math.Nat.{mul-div_cancel}
use Rattle.page_base.specs.Lanes.{LaneSeen}
use Rattle.store_trait.specs.Memory.{memory_origin}
use Rattle.case_tools.proofs.lanes.filled_lane.Goals as goal

-- pages of this size, as many as the bytes have
whole : (pages size n : ℕ) → 0 < size → n ≡ pages * size → n ≡ n / size * size
whole pages size n some is = is ∙ ap (λ x. x * size) (sym (ap (λ x. x / size) is ∙ mul-div_cancel pages some))

-- the only item of a list is what was popped from it
only : {X : Type 0} (xs ys : List X) (x : X) → xs ≡ ys ++ x ∷ [] → length xs ≡ 1 → slice_get xs 0 ≡ Some x
only xs [] x e n = ap (λ zs. slice_get zs 0) e
only xs (y ∷ ys) x e n = let one : length ((y ∷ ys) ++ x ∷ []) ≡ 1 = sym (ap length e) ∙ n in absurd (omega (arith, one, length-append (y ∷ ys) (x ∷ [])))

alike : (p q n m s t : ℕ) → p ≡ q → n ≡ m → s ≡ t → memory_origin 0 p n s 0 ≡ memory_origin 0 q m t 0
alike p q n m s t a b c = cc (a, b, c)

pub new-store-requires-clause-whole : goal.new-store-requires-clause-whole
new-store-requires-clause-whole c =
    let long : length c.from_vec.result.items ≡ c.args.pages * c.page_size-2.result = search rules in
    let some : 0 < c.page_size-2.result = search rules in
    whole c.args.pages c.page_size-2.result _ some long

pub returns : goal.returns
returns c =
    let lanes = c.in-Ok.ensures.lanes in
    let at = only c.in-Ok.lanes.items c.pop.new.self.items c.in-Some.lane (sym c.into_vec.ensures ∙ c.in-Some.ensures.items) (lanes.count ∙ c.requires.one_stripe) in
    let origin = ap (λ (l : LaneSeen). l.origin) (lanes.each 0 c.in-Some.lane at) in
    let long : length c.from_vec.result.items ≡ c.args.pages * c.page_size-2.result = search rules in
    let some : 0 < c.page_size-2.result = search rules in
    let pages : length c.from_vec.result.items / c.page_size-2.result ≡ c.args.pages = ap (λ n. n / c.page_size-2.result) long ∙ mul-div_cancel c.args.pages some in
    let size = c.new-store.ensures.page_size ∙ c.page_size-2.ensures in
    let count : length c.new-store.result.contents.items / c.new-store.result.page_size ≡ c.args.pages = rw (c.new-store.ensures.contents, c.new-store.ensures.page_size) pages in
    origin ∙ alike _ _ _ _ _ _ count size c.requires.one_stripe
