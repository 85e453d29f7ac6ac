use Rattle.std.proofs.Common.{rules, ◌≡◌, ◌∷◌, ◌++◌, ℕ, [], sym, ap, ◌∙◌, subst, refl}
use Rattle.histories.specs.Histories.{History}
use Rattle.page_base.specs.declared.keys.Key.{Key}
use Rattle.page_model.specs.declared.entry.Entry.{Entry}
use Rattle.page_model.specs.declared.entry.Entry.TheVariants as entry
use Rattle.page_model.specs.declared.entry.Cause.TheVariants.{Pressure}
use Rattle.page_model.specs.declared.seen.Next.TheVariants as serve
use Rattle.page_model.specs.Faults.{last_why}
use Rattle.stripe_core.specs.Trips.{TripSeen}
use Rattle.turn_lock.specs.Seen.{PassSeen}
use Rattle.locked_stripe.specs.InsideHolds.{OneHold}
use Rattle.locked_stripe.specs.declared.answers.Served.TheVariants as served
use Rattle.locked_stripe.specs.declared.answers.Back.TheVariants as back
use Rattle.locked_stripe.specs.Terms.{locked_setup}
use Rattle.locked_stripe.proofs.Holdings.{none_filled, served_once, served_twice}
use Rattle.locked_stripe.proofs.serves.serve_in.Goals as goal

pub returns-in-Err-clause-served : goal.returns-in-Err-clause-served
returns-in-Err-clause-served g c =
    let d = c.in-Err.ensures.done in
    served_once c.pager_laws.ensures (locked_setup c.args.lock.now) c.args.pass.now c.begin.new.pass c.in-Err.served d.1.0 d.1.1 d.0 d.1.2 (none_filled c.begin.new.pass.seen c.in-Err.served d.0)

pub returns-in-Ok-read_page-clause-served : goal.returns-in-Ok-read_page-clause-served
returns-in-Ok-read_page-clause-served g c =
    let k : c.key-key.result ≡ c.in-Ok.trip.start.key = c.key-key.ensures in
    let out = c.in-Ok.ensures.begun in
    let key = c.in-Ok.trip.start.key in
    let same : c.read_page.new.trip.start.key ≡ key = ap (λ t. t.key) c.in-Ok-read_page.ensures.start in
    let why = c.fill-why.result in
    let h = c.fill-why.ensures.held.0 in
    let held : OneHold c.begin.new.pass c.fill-why.new.pass h (entry.Filled key ∷ []) = rw (sym same) c.fill-why.ensures.held.1 in
    let raised : why ≡ last_why h key = rw (sym same) c.fill-why.ensures.held.2 in
    let told : why ≡ last_why c.fill-why.new.pass.seen key = raised ∙ ap (λ (z : History Entry). last_why z key) (sym (ap (λ (p : PassSeen _ Entry). p.seen) held.after)) in
    rw k (served_twice c.pager_laws.ensures (locked_setup c.args.lock.now) c.args.pass.now c.begin.new.pass c.fill-why.new.pass (served.Filled key why) out.0 h (entry.StartRead key ∷ []) (entry.Filled key ∷ []) out.1 held refl refl out.2 told)

pub returns-in-Err-read_page-clause-served : goal.returns-in-Err-read_page-clause-served
returns-in-Err-read_page-clause-served g c =
    let k : c.key-key.result ≡ c.in-Ok.trip.start.key = c.key-key.ensures in
    rw k (served_twice c.pager_laws.ensures (locked_setup c.args.lock.now) c.args.pass.now c.begin.new.pass c.miss-faults.new.pass (served.ReadFailed c.in-Ok.trip.start.key c.miss-faults.result) c.in-Ok.ensures.begun.0 c.miss-faults.ensures.held.0 (entry.StartRead c.in-Ok.trip.start.key ∷ []) (entry.ReadFailed c.in-Ok.trip.start.key c.miss-faults.result ∷ []) c.in-Ok.ensures.begun.1 (rw (sym (ap (λ t. t.key) c.in-Err-read_page.ensures.start)) c.miss-faults.ensures.held.1) refl refl c.in-Ok.ensures.begun.2 tt)
