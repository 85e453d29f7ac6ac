-- The order of keys: by region, and in one region by page.
use Rattle.std.proofs.Common.{true, false, ◌≡◌, arith}
use Rattle.std.proofs.lemmas.Bool.Decides.{nat_tests}
use Rattle.page_base.specs.KeyOrder.{is_below}
use Rattle.page_base.specs.declared.keys.Key.{Key}

pub below-apart : (a b : Key) → is_below a b ≡ true → is_below b a ≡ false
below-apart a b e = grind (arith, nat_tests)

pub below-through : (a b c : Key) → is_below a b ≡ true → is_below b c ≡ true → is_below a c ≡ true
below-through a b c e f = grind (arith, nat_tests)

regions-one : (a b : Key) → is_below a b ≡ false → is_below b a ≡ false → a.region ≡ b.region
regions-one a b e f = grind (arith, nat_tests)

pages-one : (a b : Key) → is_below a b ≡ false → is_below b a ≡ false → a.page ≡ b.page
pages-one a b e f = let r = regions-one a b e f in grind (arith, nat_tests)

pub below-one : (a b : Key) → is_below a b ≡ false → is_below b a ≡ false → a ≡ b
below-one a b e f =
    let r = regions-one a b e f in
    let p = pages-one a b e f in
    λ i. record { region = r i; page = p i }
