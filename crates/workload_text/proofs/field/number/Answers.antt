use Rattle.std.proofs.Common.{refl, arith, sym}
use Rattle.workload_text.proofs.Numbers.{number_of-decimal, number_of-none, plain_is, spelling_is}
use Rattle.workload_text.proofs.field.number.Goals as goal
use Rattle.workload_text.proofs.field.number.Goals.{then-n-least-via-then-n-least, then-n-least-via-else-n-least+then-n-most}

pub returns-then-not-is_plain-clause-value : goal.returns-then-not-is_plain-clause-value
returns-then-not-is_plain-clause-value c =
    sym (number_of-none c.args.least c.args.most c.args.field.now (λ n low high e.
    let p = spelling_is c.args.field.now n (omega arith) e in
    let its = c.if-not-is_plain.ensures.1 p.0 in absurd (cc its)))

pub returns-in_default-clause-value : goal.returns-in_default-clause-value
returns-in_default-clause-value c =
    sym (number_of-none c.args.least c.args.most c.args.field.now (λ n low high e.
    let p = spelling_is c.args.field.now n (omega arith) e in
    let past = c.in_default.ensures.none p.1 in
    omega (arith, past, p.2, high)))

pub returns-then-n-least-clause-value : goal.returns-then-n-least-clause-value
returns-then-n-least-clause-value c =
    sym (number_of-none c.args.least c.args.most c.args.field.now (λ n low high e.
    let p = spelling_is c.args.field.now n (omega arith) e in
    let value = c.in-Some.ensures.some.1 in
    elim c.then-n-least.branch [
      | then-n-least-via-then-n-least w ↦ omega (arith, value, p.2)
      | then-n-least-via-else-n-least+then-n-most w ↦ omega (arith, value, p.2)
    ]))

pub returns-clause-value : goal.returns-clause-value
returns-clause-value c =
    let some = c.in-Some.ensures.some in
    sym (number_of-decimal c.args.least c.args.most c.in-Some.n c.args.field.now (omega arith) (omega arith) (omega arith) (plain_is c.args.field.now c.in-Some.n (c.if-not-is_plain.ensures.0 refl) some.0 some.1 (omega arith)))
