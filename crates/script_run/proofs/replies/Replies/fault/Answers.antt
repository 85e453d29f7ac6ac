use Rattle.std.proofs.Common.{◌≤◌, ◌++◌, ◌∷◌, [], ℕ, List, length, ap, ◌∙◌, arith}
use Rattle.std.proofs.lemmas.Fmt.{length-decimal-le}
use Rattle.std.specs.Fmt.{decimal}
use Rattle.script_run.specs.Replies.{fault_reply}
use Rattle.script_run.proofs.Texts.{fault_text}
use Rattle.script_run.proofs.replies.Replies.fault.Goals as goal

pub put_decimal-requires : goal.put_decimal-requires
put_decimal-requires c =
    let n : length (decimal c.from.result) ≤ 10 = length-decimal-le 10 c.from.result (omega arith) (omega (arith, c.from.ensures, c.ranges.page.fits)) (omega (arith, c.from.ensures, c.ranges.page.fits)) in
    record { room = omega (arith, n, c.requires, c.put_all.ensures.spare, c.put_all-2.ensures.spare, c.put.ensures.spare) }

pub put-requires-2 : goal.put-requires-2
put-requires-2 c =
    let n : length (decimal c.from.result) ≤ 10 = length-decimal-le 10 c.from.result (omega arith) (omega (arith, c.from.ensures, c.ranges.page.fits)) (omega (arith, c.from.ensures, c.ranges.page.fits)) in
    omega (arith, n, c.requires, c.put_all.ensures.spare, c.put_all-2.ensures.spare, c.put.ensures.spare, c.put_decimal.ensures.spare)

pub put_decimal-requires-2 : goal.put_decimal-requires-2
put_decimal-requires-2 c =
    let n : length (decimal c.from.result) ≤ 10 = length-decimal-le 10 c.from.result (omega arith) (omega (arith, c.from.ensures, c.ranges.page.fits)) (omega (arith, c.from.ensures, c.ranges.page.fits)) in
    let m : length (decimal c.args.count) ≤ 20 = length-decimal-le 20 c.args.count (omega arith) (omega (arith, c.ranges.count.fits)) (omega (arith, c.ranges.count.fits)) in
    record { room = omega (arith, n, m, c.requires, c.put_all.ensures.spare, c.put_all-2.ensures.spare, c.put.ensures.spare, c.put_decimal.ensures.spare, c.put-2.ensures.spare) }

pub put-requires-3 : goal.put-requires-3
put-requires-3 c =
    let n : length (decimal c.from.result) ≤ 10 = length-decimal-le 10 c.from.result (omega arith) (omega (arith, c.from.ensures, c.ranges.page.fits)) (omega (arith, c.from.ensures, c.ranges.page.fits)) in
    let m : length (decimal c.args.count) ≤ 20 = length-decimal-le 20 c.args.count (omega arith) (omega (arith, c.ranges.count.fits)) (omega (arith, c.ranges.count.fits)) in
    omega (arith, n, m, c.requires, c.put_all.ensures.spare, c.put_all-2.ensures.spare, c.put.ensures.spare, c.put_decimal.ensures.spare, c.put-2.ensures.spare, c.put_decimal-2.ensures.spare)

pub returns-clause-spare : goal.returns-clause-spare
returns-clause-spare c =
    let n : length (decimal c.from.result) ≤ 10 = length-decimal-le 10 c.from.result (omega arith) (omega (arith, c.from.ensures, c.ranges.page.fits)) (omega (arith, c.from.ensures, c.ranges.page.fits)) in
    let m : length (decimal c.args.count) ≤ 20 = length-decimal-le 20 c.args.count (omega arith) (omega (arith, c.ranges.count.fits)) (omega (arith, c.ranges.count.fits)) in
    omega (arith, n, m, c.put_all.ensures.spare, c.put_all-2.ensures.spare, c.put.ensures.spare, c.put_decimal.ensures.spare, c.put-2.ensures.spare, c.put_decimal-2.ensures.spare, c.put-3.ensures.spare)

pub returns-clause-text : goal.returns-clause-text
returns-clause-text c =
    c.put-3.ensures.items
    ∙ ap (λ (t : List ℕ). t ++ 10 ∷ []) (c.put_decimal-2.ensures.items
    ∙ ap (λ (t : List ℕ). t ++ decimal c.args.count) (c.put-2.ensures.items
    ∙ ap (λ (t : List ℕ). t ++ 32 ∷ []) (c.put_decimal.ensures.items
    ∙ ap (λ (t : List ℕ). t ++ decimal c.from.result) (c.put.ensures.items
    ∙ ap (λ (t : List ℕ). t ++ 32 ∷ []) (c.put_all-2.ensures.items
    ∙ ap (λ (t : List ℕ). t ++ c.args.name.now) c.put_all.ensures.items)))))
    ∙ fault_text c.args.self.now.text.items _ c.args.name.now (decimal c.from.result) (decimal c.args.count)
    ∙ ap (λ n. c.args.self.now.text.items ++ fault_reply c.args.name.now n c.args.count) c.from.ensures
