use Rattle.std.proofs.Common.{◌≡◌, ℕ, ◌+◌, inl, inr, get_or, subst, sym, ◌∙◌, ap, arith}
use Rattle.std.specs.Int.{IsInRange}
use Rattle.std.proofs.lemmas.Bool.{cases_lt}
use Rattle.std.proofs.lemmas.List.{take_all}
use Rattle.std.specs.Str.Parse.{digits_value}
use Rattle.workload_text.proofs.Numbers.{no_digits, all_digits, value_more, value_up}
use Rattle.workload_text.proofs.field.digits.Goals as goal
use Rattle.workload_text.proofs.field.digits.Goals.{then-c-lt48-via-then-c-lt48, then-c-lt48-via-else-c-lt48+then-c-gt57}

pub returns-then-c-lt48-clause-none : goal.returns-then-c-lt48-clause-none
returns-then-c-lt48-clause-none c = λ d.
    absurd (no_digits c.args.field.now c.loop-c.c-index (omega arith) (elim c.then-c-lt48.branch [
      | then-c-lt48-via-then-c-lt48 w ↦ inl (omega arith)
      | then-c-lt48-via-else-c-lt48+then-c-gt57 w ↦ inr (omega arith)
    ]) d)

pub returns-in_default-clause-none : goal.returns-in_default-clause-none
returns-in_default-clause-none c = λ d.
    let f = c.args.field.now in
    let i = c.loop-c.c-index in
    value_up f (i + 1) _ (omega (arith, value_more f i c.loop-c.value (omega arith) c.loop-c.invariant.value (omega arith, omega arith), c.in_default.ensures))

pub returns-in_default-checked_add-clause-none : goal.returns-in_default-checked_add-clause-none
returns-in_default-checked_add-clause-none c = λ d.
    let f = c.args.field.now in
    let i = c.loop-c.c-index in
    value_up f (i + 1) _ (omega (arith, value_more f i c.loop-c.value (omega arith) c.loop-c.invariant.value (omega arith, omega arith), c.in-Some.ensures, c.from.ensures, c.in_default-checked_add.ensures))

pub loop-c-preserved : goal.loop-c-preserved
loop-c-preserved c =
    let f = c.args.field.now in
    let i = c.loop-c.c-index in
    record {
      each = λ k below. elim (cases_lt k i) [
        | inl less ↦ c.loop-c.invariant.each k less
        | inr more ↦ let same : k ≡ i = omega (arith, below, more) in subst (λ (n : ℕ). IsInRange 48 57 (get_or f n 0)) (sym same) (omega arith, omega arith)
      ];
      value = omega (arith, value_more f i c.loop-c.value (omega arith) c.loop-c.invariant.value (omega arith, omega arith), c.in-Some.ensures, c.from.ensures, c.in-Some-checked_add.ensures);
    }

pub returns-clause-some : goal.returns-clause-some
returns-clause-some c =
    let f = c.args.field.now in
    let i = c.loop-c.c-index in
    (all_digits f (λ k below. c.loop-c.invariant.each k (omega (arith, below))), c.loop-c.invariant.value ∙ ap (digits_value 10) (take_all i f (omega arith)))
