use Rattle.std.proofs.Common.{◌≡◌, ◌==◌, ◌⊎◌, ◌∙◌, ◌<◌, ◌≤◌, ◌+◌, ◌-◌, ◌/◌, ◌%◌, ℕ, ap, arith, inl, inr, refl}
use Rattle.stripe_core.proofs.Shares.{turned}
use Rattle.stripe_core.proofs.read_faults.Share.of.Goals as goal
use Rattle.stripe_core.proofs.read_faults.Share.of.Goals.{then-number-ahead, else-number-ahead}

pub returns : goal.returns
returns c =
    let k = c.args.layout.now.stripes in
    let n = c.args.number in
    let y : ℕ = c.args.region % k in
    let first = c.if-number-ahead.first in
    let stripes = c.stripes-stripes.ensures in
    let ahead : c.from.result % c.stripes-stripes.result ≡ y = rw (c.from.ensures, stripes) refl in
    let first_is : ((n < y) × (first ≡ k - y + n)) ⊎ ((y ≤ n) × (first ≡ n - y)) =
    elim c.if-number-ahead.branch [
      | then-number-ahead w ↦ let test = w.if-number-ahead.true in let is = w.first-is in inl (omega (arith, test, ahead), omega (arith, is, ahead, stripes))
      | else-number-ahead w ↦ let test = w.if-number-ahead.false in let is = w.first-is in inr (omega (arith, test, ahead), omega (arith, is, ahead, stripes))
    ] in
    record { own = λ page. ap (λ (m : ℕ). (page / c.args.group % m) == first) stripes ∙ turned k n c.args.region (page / c.args.group) first c.requires.number first_is }
