use Rattle.std.proofs.Common.{[], ◌∷◌, ◌∙◌}
use Rattle.page_model.specs.declared.entry.Cause.TheVariants.{Unmap}
use Rattle.page_model.specs.declared.entry.Entry.TheVariants as entry
use Rattle.serial_pager.specs.Unmappings.{leaves_region}
use Rattle.serial_pager.proofs.Clearing.{failed_queue, readied, write_leaves}
use Rattle.serial_pager.proofs.Goes.{by_none, by_these}
use Rattle.serial_pager.proofs.Results.{if_err, on_ok}
use Rattle.serial_pager.proofs.stripe.SerialStripe.make_clean.Goals as goal

pub returns-then-not-dirty-clause-went : goal.returns-then-not-dirty-clause-went
returns-then-not-dirty-clause-went g c = by_none g.J.Journal.has_noted (leaves_region c.args.key.region) c.args.self.now

pub write_out-requires-clause-page : goal.write_out-requires-clause-page
write_out-requires-clause-page g c = c.model_laws.ensures.knows.present c.requires.rest.history c.args.self.now.core c.args.key c.requires.rest.stands c.requires.present

pub write_out-requires-clause-can : goal.write_out-requires-clause-can
write_out-requires-clause-can g c = record {
  dirty = c.requires.dirty ∙ c.if-not-dirty.false;
  home = c.requires.rest.home c.args.key.region (c.model_laws.ensures.pages.region c.args.self.now.core.setup c.args.key (write_out-requires-clause-page g c));
  fits = c.requires.closing;
}

pub returns-clause-queue : goal.returns-clause-queue
returns-clause-queue g c = failed_queue c.args.self.now.core c.write_out.new.self.core c.args.key c.write_out.result c.write_out.ensures.steps c.write_out.ensures.fault

pub returns-clause-went : goal.returns-clause-went
returns-clause-went g c = on_ok c.write_out.result c.write_out.ensures.went (λ w. by_these g.J.Journal.has_noted (leaves_region c.args.key.region) (entry.Written c.args.key w.0 w.1 ∷ entry.StartWrite c.args.key Unmap ∷ []) c.args.self.now c.write_out.new.self w.2 (write_leaves c.args.key w.0 w.1))

pub returns-clause-ready : goal.returns-clause-ready
returns-clause-ready g c = on_ok c.write_out.result c.write_out.ensures.steps (λ w. readied c.args.self.now.core c.write_out.new.self.core c.args.key c.requires.present w)

pub returns-clause-key : goal.returns-clause-key
returns-clause-key g c = if_err c.write_out.result c.write_out.ensures.fault (λ f w. w.key)
