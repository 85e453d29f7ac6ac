use Rattle.std.proofs.Common.{[], ◌∷◌, ap, arith, ◌+◌, ◌∙◌, ◌≡◌}
use Rattle.page_model.specs.Core.{Core}
use Rattle.page_model.specs.declared.entry.Cause.TheVariants.{Unmap}
use Rattle.page_model.specs.declared.entry.Entry.TheVariants as entry
use Rattle.serial_pager.specs.Unmappings.{leaves_region}
use Rattle.serial_pager.proofs.Clearing.{evict_leaves, evicted_fewer, leaving_closes}
use Rattle.serial_pager.proofs.Goes.{by_these, by_twice}
use Rattle.serial_pager.proofs.Rooms.{idle_page}
use Rattle.serial_pager.proofs.stripe.SerialStripe.let_leave.Goals as goal

pub evict-requires-clause-page : goal.evict-requires-clause-page
evict-requires-clause-page g c = let rest = c.make_clean.ensures.rest in c.model_laws.ensures.knows.present rest.history c.make_clean.new.self.core c.args.key rest.stands c.in-Ok.ensures.ready.present

pub evict-requires-clause-can : goal.evict-requires-clause-can
evict-requires-clause-can g c =
    let rest = c.make_clean.ensures.rest in
    let ready = c.in-Ok.ensures.ready in
    record {
      present = ready.present;
      clean = ready.clean;
      not_writing = idle_page c.model_laws.ensures c.make_clean.new.self.core rest c.args.key (evict-requires-clause-page g c);
      fits = leaving_closes c.model_laws.ensures g.J.Journal.has_noted c.args.key.region c.args.self.now c.make_clean.new.self c.requires.rest c.in-Ok.ensures.went c.args.key.region ∙ c.requires.closing;
    }

pub returns-clause-queue : goal.returns-clause-queue
returns-clause-queue g c = ap (λ (x : Core). x.queue) c.evict.ensures.step ∙ c.make_clean.ensures.queue

pub returns-clause-few : goal.returns-clause-few
returns-clause-few g c =
    let n : c.evict.new.self.core.events ≡ c.make_clean.new.self.core.events + 1 = ap (λ (x : Core). x.events) c.evict.ensures.step in
    omega (arith, n, c.make_clean.ensures.few)

pub returns-clause-went : goal.returns-clause-went
returns-clause-went g c =
    by_twice g.J.Journal.has_noted (leaves_region c.args.key.region) c.args.self.now c.make_clean.new.self c.evict.new.self c.in-Ok.ensures.went
    (by_these g.J.Journal.has_noted (leaves_region c.args.key.region) (entry.Evicted c.args.key Unmap ∷ []) c.make_clean.new.self c.evict.new.self c.evict.ensures.went (evict_leaves c.args.key))

pub returns-clause-fewer : goal.returns-clause-fewer
returns-clause-fewer g c =
    let ready = c.in-Ok.ensures.ready in
    let less = evicted_fewer c.make_clean.new.self.core c.evict.new.self.core c.args.key ready.present c.evict.ensures.step in
    omega (arith, less, ready.as_many)
