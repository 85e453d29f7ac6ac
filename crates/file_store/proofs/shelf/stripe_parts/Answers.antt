use Rattle.std.proofs.Common.{◌+◌, ℕ, List, length, sym, ap, ◌∙◌, arith, inl, inr, length-append}
use Rattle.file_store.specs.InsideFolders.{stripe_seen}
use Rattle.file_store.specs.InsideMemSeen.{mem_seen}
use Rattle.file_store.specs.FailingCalls.{failing_in}
use Rattle.file_store.proofs.shelf.stripe_parts.Goals as goal

pub loop-stripe-preserved : goal.loop-stripe-preserved
loop-stripe-preserved c =
    let i = c.loop-stripe.invariant in
    let cut = c.args.cut.now in
    record {
      room = omega arith;
      count = ap length c.put.ensures.items ∙ length-append c.loop-stripe.parts.items _ ∙ ap (λ (n : ℕ). n + 1) i.count;
      each = λ s part got. elim (c.lists_by_place.ensures.grown c.loop-stripe.parts.items _ part s (rw c.put.ensures.items at got)) [
        | inl old ↦ i.each s part old
        | inr last ↦ ap mem_seen last.1 ∙ c.new.ensures.seen ∙ ap (λ (p : List ℕ). stripe_seen p cut c.loop-stripe.stripe c.in_ok-own.own.items) c.in_ok-own_path.ensures.items ∙ ap (λ (b : List ℕ). stripe_seen c.args.path.now cut c.loop-stripe.stripe b) c.in_ok-own.ensures.items ∙ ap (λ (k : ℕ). stripe_seen c.args.path.now cut k c.args.bytes.now) (sym (last.0 ∙ i.count))
      ];
      lists = λ s part got. elim (c.lists_by_place.ensures.grown c.loop-stripe.parts.items _ part s (rw c.put.ensures.items at got)) [
        | inl old ↦ i.lists s part old
        | inr last ↦ ap failing_in last.1 ∙ c.new.ensures.lists ∙ c.in_ok-own_failing.ensures
      ];
    }
