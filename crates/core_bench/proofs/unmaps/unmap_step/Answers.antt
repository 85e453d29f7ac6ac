use Rattle.std.proofs.Common.{◌≡◌, ◌∙◌, Some, refl, sym, ap, subst, true}
use Rattle.page_model.specs.declared.entry.Cause.TheVariants.{Unmap}
use Rattle.page_model.specs.declared.entry.Entry.TheVariants as entry
use Rattle.page_model.specs.Core as core
use Rattle.core_bench.proofs.Going.{entry_goes}
use Rattle.core_bench.proofs.Resting.{idle}
use Rattle.core_bench.proofs.unmaps.unmap_step.Goals as goal

pub evict-requires-clause-page : goal.evict-requires-clause-page
evict-requires-clause-page g c =
    let s = c.requires.stands in
    (c.picks_know.ensures.oldest s.history c.args.stripe.now c.args.region c.in-Some.oldest s.is (sym c.oldest_of.ensures.exact ∙ c.in-Some.is)).page

pub evict-requires-clause-can : goal.evict-requires-clause-can
evict-requires-clause-can g c =
    let s = c.requires.stands in
    let held = c.picks_know.ensures.oldest s.history c.args.stripe.now c.args.region c.in-Some.oldest s.is (sym c.oldest_of.ensures.exact ∙ c.in-Some.is) in
    let closing : core.is_closing c.args.stripe.now c.args.region ≡ true = sym c.is_closing.ensures.exact ∙ c.if-not-is_closing.false in
    let home : core.is_home c.args.stripe.now c.args.region ≡ true = cc in
    record {
      present = held.present;
      clean = held.dirty ∙ c.if-oldest.false;
      not_writing = idle c.args.stripe.now c.in-Some.oldest.key c.args.region held.region home;
      fits = subst (λ r. core.is_closing c.args.stripe.now r ≡ true) (sym held.region) closing;
    }

pub returns-in-Some-2-clause-on : goal.returns-in-Some-2-clause-on
returns-in-Some-2-clause-on g c = entry_goes c.args.stripe.now c.evict.new.self (entry.Evicted c.in-Some.oldest.key Unmap) c.evict.ensures.fixed c.evict.ensures.stands (λ h r. refl)
