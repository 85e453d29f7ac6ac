-- Numbers in their ranges that go together are a layout.
use Rattle.std.proofs.Common.{◌≡◌, ◌∙◌, ℕ, ◌+◌, ◌*◌, ◌≤◌, Bool, true, false, cond, not, ◌||◌, ◌&&◌, ◌==◌, eqb, Option, Some, None, IfSome, nat_lt, refl, ap, arith, lit<}
use Rattle.std.specs.Prelude.{unwrap_or}
use Rattle.std.specs.Int.RustNames.{count_ones}
use Rattle.std.proofs.lemmas.Bool.{le-ltb, ne_eqb}
use Rattle.std.proofs.lemmas.Nat.{ones_cat}
use Rattle.page_base.specs.Layouts.{is_page_size, layout_fault}
use Rattle.page_base.specs.declared.faults.LayoutFault.{LayoutFault}
use Rattle.page_base.specs.declared.faults.LayoutFault.TheVariants.{BadPageSize, NoFrames, TooManyFrames, NoStripes, TooManyStripes}

few_ones : count_ones 1 + count_ones 0 ≡ 1
unfolding count_ones
few_ones = refl

one_bit : count_ones 4096 ≡ 1
one_bit = ones_cat 12 1 0 (lit< tt) ∙ few_ones

default_page : is_page_size 4096 ≡ true
default_page = ap (λ (n : ℕ). eqb n 1 && true) one_bit

pub page_or : (o : Option ℕ) → IfSome o (λ n. is_page_size n ≡ true) → is_page_size (unwrap_or o 4096) ≡ true
page_or None h = default_page
page_or (Some n) h = h

pub number_or : (least most default : ℕ) (o : Option ℕ) → IfSome o (λ n. (least ≤ n) × (n ≤ most)) → least ≤ default → default ≤ most
    → (least ≤ unwrap_or o default) × (unwrap_or o default ≤ most)
number_or least most default None h low high = (low, high)
number_or least most default (Some n) h low high = h

abbrev first_fault : (page none many large no_stripe more beyond : Bool) → Option LayoutFault
first_fault page none many large no_stripe more beyond =
    cond (not page) (Some BadPageSize) (cond none (Some NoFrames) (cond (many || large) (Some TooManyFrames)
    (cond no_stripe (Some NoStripes) (cond (more || beyond) (Some TooManyStripes) None))))

pub no_fault : (p s f : ℕ) → is_page_size p ≡ true → 1 ≤ f → f ≤ 1048576 → f * p ≤ 1073741824 → 1 ≤ s → s ≤ 64 → s ≤ f → layout_fault p s f ≡ None
no_fault p s f page some few bytes stripe stripes shared =
    ap (λ (b : Bool). first_fault b (f == 0) (nat_lt 1048576 f) (nat_lt 1073741824 (f * p)) (s == 0) (nat_lt 64 s) (nat_lt f s)) page
    ∙ (ap (λ (b : Bool). first_fault true b (nat_lt 1048576 f) (nat_lt 1073741824 (f * p)) (s == 0) (nat_lt 64 s) (nat_lt f s)) (ne_eqb f 0 (λ e. absurd (omega (arith, e, some))))
    ∙ (ap (λ (b : Bool). first_fault true false b (nat_lt 1073741824 (f * p)) (s == 0) (nat_lt 64 s) (nat_lt f s)) (le-ltb 1048576 f few)
    ∙ (ap (λ (b : Bool). first_fault true false false b (s == 0) (nat_lt 64 s) (nat_lt f s)) (le-ltb 1073741824 (f * p) bytes)
    ∙ (ap (λ (b : Bool). first_fault true false false false b (nat_lt 64 s) (nat_lt f s)) (ne_eqb s 0 (λ e. absurd (omega (arith, e, stripe))))
    ∙ (ap (λ (b : Bool). first_fault true false false false false b (nat_lt f s)) (le-ltb 64 s stripes)
    ∙ ap (λ (b : Bool). first_fault true false false false false false b) (le-ltb f s shared))))))
