use Rattle.std.proofs.Common.{rules, ◌≡◌, ◌∷◌, ◌++◌, ℕ, [], sym, ap, ◌∙◌, subst, refl}
use Rattle.histories.specs.Histories.{History}
use Rattle.page_base.specs.declared.keys.Key.{Key}
use Rattle.page_model.specs.declared.entry.Entry.{Entry}
use Rattle.page_model.specs.declared.entry.Entry.TheVariants as entry
use Rattle.page_model.specs.declared.entry.Cause.TheVariants.{Pressure}
use Rattle.page_model.specs.declared.seen.Next.TheVariants as serve
use Rattle.stripe_core.specs.Trips.{TripSeen}
use Rattle.locked_stripe.specs.declared.answers.Served.TheVariants as served
use Rattle.locked_stripe.specs.declared.answers.Back.TheVariants as back
use Rattle.locked_stripe.specs.Terms.{locked_setup}
use Rattle.locked_stripe.proofs.Holdings.{room_once, room_twice}
use Rattle.locked_stripe.proofs.serves.make_room_in.Goals as goal

pub returns-in-Err-clause-made : goal.returns-in-Err-clause-made
returns-in-Err-clause-made g c =
    let d = c.in-Err.ensures.done in
    room_once c.pager_laws.ensures (locked_setup c.args.lock.now) c.args.pass.now c.begin_write.new.pass c.in-Err.back d.1.0 d.1.1 d.0 d.1.2

pub returns-in-Ok-write_page-clause-made : goal.returns-in-Ok-write_page-clause-made
returns-in-Ok-write_page-clause-made g c =
    let k : c.key-key.result ≡ c.in-Ok.trip.start.key = c.key-key.ensures in
    rw k (room_twice c.pager_laws.ensures (locked_setup c.args.lock.now) c.args.pass.now c.begin_write.new.pass c.wrote.new.pass (back.Written c.in-Ok.trip.start.key) c.in-Ok.ensures.begun.0 c.wrote.ensures.held.0 (entry.StartWrite c.in-Ok.trip.start.key Pressure ∷ []) (entry.Written c.in-Ok.trip.start.key c.in-Ok.trip.start.at c.begin_write.new.scratch ∷ []) c.in-Ok.trip.start.at c.begin_write.new.scratch c.in-Ok.ensures.begun.1 (rw (sym (ap (λ t. t.key) c.in-Ok-write_page.ensures.start), sym (ap (λ t. t.at) c.in-Ok-write_page.ensures.start)) c.wrote.ensures.held.1) refl refl c.in-Ok.ensures.begun.2)

pub returns-in-Err-write_page-clause-made : goal.returns-in-Err-write_page-clause-made
returns-in-Err-write_page-clause-made g c =
    let k : c.key-key.result ≡ c.in-Ok.trip.start.key = c.key-key.ensures in
    rw k (room_twice c.pager_laws.ensures (locked_setup c.args.lock.now) c.args.pass.now c.begin_write.new.pass c.wrote_badly-faults.new.pass (back.WriteFailed c.in-Ok.trip.start.key c.wrote_badly-faults.result) c.in-Ok.ensures.begun.0 c.wrote_badly-faults.ensures.held.0 (entry.StartWrite c.in-Ok.trip.start.key Pressure ∷ []) (entry.WriteFailed c.in-Ok.trip.start.key c.wrote_badly-faults.result ∷ []) 0 [] c.in-Ok.ensures.begun.1 (rw (sym (ap (λ t. t.key) c.in-Err-write_page.ensures.start)) c.wrote_badly-faults.ensures.held.1) refl refl c.in-Ok.ensures.begun.2)
