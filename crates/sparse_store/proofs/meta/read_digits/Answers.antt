use Rattle.std.proofs.Common.{◌≡◌, ℕ, inl, inr, length, get_or, subst, sym, arith}
use Rattle.std.specs.Int.{IsInRange}
use Rattle.std.proofs.lemmas.Bool.{cases_lt}
use Rattle.sparse_store.proofs.Spellings.{digits_up_to, value_more}
use Rattle.sparse_store.proofs.meta.read_digits.Goals as goal

pub returns-then-value-clause-all : goal.returns-then-value-clause-all
returns-then-value-clause-all c = digits_up_to c.args.bytes.now c.loop-count.count (omega arith) c.loop-count.invariant.each

pub loop-count-preserved : goal.loop-count-preserved
loop-count-preserved c =
    let f = c.args.bytes.now in
    let i = c.loop-count.count in
    record {
      each = λ k below. elim (cases_lt k i) [
        | inl less ↦ c.loop-count.invariant.each k less
        | inr more ↦ let same : k ≡ i = omega (arith, below, more) in subst (λ (n : ℕ). IsInRange 48 57 (get_or f n 0)) (sym same) (omega arith, omega arith)
      ];
      value = omega (arith, value_more f i c.loop-count.value (omega arith) c.loop-count.invariant.value (omega arith, omega arith), c.from.ensures);
      most = omega (arith, c.from.ensures);
    }

pub returns-clause-all : goal.returns-clause-all
returns-clause-all c = digits_up_to c.args.bytes.now (length c.args.bytes.now) (omega arith) (λ k below. c.loop-count.invariant.each k (omega (arith, below)))
