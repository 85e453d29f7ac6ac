use Rattle.std.proofs.Common.{arith, false, refl, ◌∙◌}
use Rattle.page_base.specs.declared.keys.Why.TheVariants.{Read}
use Rattle.page_model.specs.declared.entry.Entry.TheVariants as entry
use Rattle.serial_pager.specs.Accesses.{is_read}
use Rattle.serial_pager.proofs.Loops.{asks_load, ends, fails, raises_events, turn, turned_few, turned_none, turned_open}
use Rattle.serial_pager.proofs.stripe.SerialStripe.load.Goals as goal

pub loop-key-init : goal.loop-key-init
loop-key-init g c = record { turned = turned_none g.J.Journal.has_noted false is_read c.args.key c.args.self.now c.requires.rest; made = refl }

pub try_load-requires-clause-few : goal.try_load-requires-clause-few
try_load-requires-clause-few g c =
    let few = turned_few g.J.Journal.has_noted false is_read c.args.key c.model_laws.ensures c.args.self.now c.loop-key.self c.requires.rest c.loop-key.invariant.turned in
    omega (arith, few, c.requires.few)

pub try_load-requires-clause-not_closing : goal.try_load-requires-clause-not_closing
try_load-requires-clause-not_closing g c = turned_open g.J.Journal.has_noted false is_read c.args.key c.model_laws.ensures c.args.self.now c.loop-key.self c.requires.rest c.loop-key.invariant.turned c.requires.not_closing

pub serve-requires-clause-few : goal.serve-requires-clause-few
serve-requires-clause-few g c =
    let few = turned_few g.J.Journal.has_noted false is_read c.args.key c.model_laws.ensures c.args.self.now c.loop-key.self c.requires.rest c.loop-key.invariant.turned in
    let one = raises_events c.args.key Read c.loop-key.self.core c.try_load.new.self.core (c.try_load.ensures.raises c.loop-key-test.true) in
    omega (arith, few, one, c.requires.few)

pub loop-key-smaller : goal.loop-key-smaller
loop-key-smaller g c =
    let no = c.loop-key-test.true in
    let asked = asks_load g.J.Journal.has_noted c.args.key c.loop-key.self c.try_load.new.self c.try_load.ensures.rest (c.try_load.ensures.before no) (c.try_load.ensures.raises no) (c.try_load.ensures.missed no) in
    (turn g.J.Journal.has_noted false is_read c.args.key c.model_laws.ensures Read c.args.self.now c.loop-key.self c.try_load.new.self c.serve.new.self c.requires.rest c.loop-key.invariant.turned asked c.requires.not_closing c.serve.ensures.rest (c.in-Ok.ensures.went is_read) c.in-Ok.ensures.steps c.serve.ensures.few).less

pub loop-key-preserved : goal.loop-key-preserved
loop-key-preserved g c =
    let no = c.loop-key-test.true in
    let asked = asks_load g.J.Journal.has_noted c.args.key c.loop-key.self c.try_load.new.self c.try_load.ensures.rest (c.try_load.ensures.before no) (c.try_load.ensures.raises no) (c.try_load.ensures.missed no) in
    record {
      turned = (turn g.J.Journal.has_noted false is_read c.args.key c.model_laws.ensures Read c.args.self.now c.loop-key.self c.try_load.new.self c.serve.new.self c.requires.rest c.loop-key.invariant.turned asked c.requires.not_closing c.serve.ensures.rest (c.in-Ok.ensures.went is_read) c.in-Ok.ensures.steps c.serve.ensures.few).turned;
      made = c.serve.ensures.made ∙ (c.try_load.ensures.made ∙ c.loop-key.invariant.made);
    }

pub returns-in-Err : goal.returns-in-Err
returns-in-Err g c =
    let no = c.loop-key-test.true in
    let asked = asks_load g.J.Journal.has_noted c.args.key c.loop-key.self c.try_load.new.self c.try_load.ensures.rest (c.try_load.ensures.before no) (c.try_load.ensures.raises no) (c.try_load.ensures.missed no) in
    let e = fails g.J.Journal.has_noted false is_read c.args.key c.model_laws.ensures Read c.args.self.now c.loop-key.self c.try_load.new.self c.serve.new.self c.in-Err.fault c.requires.rest c.loop-key.invariant.turned asked c.serve.ensures.few (c.in-Err.ensures.ends is_read) in
    let made = c.serve.ensures.made ∙ (c.try_load.ensures.made ∙ c.loop-key.invariant.made) in
    record { rest = c.serve.ensures.rest; fixed = λ i. record { setup = e.setup i; journal = made i }; few = e.few; closes = e.closes; ok = tt; err = e.err }

pub returns : goal.returns
returns g c =
    let e = ends g.J.Journal.has_noted false is_read c.args.key c.model_laws.ensures (entry.Load c.args.key c.args.place c.try_load.new.buf) c.args.self.now c.loop-key.self c.try_load.new.self c.requires.rest refl c.loop-key.invariant.turned (c.try_load.ensures.went c.loop-key-test.false) in
    let made = c.try_load.ensures.made ∙ c.loop-key.invariant.made in
    record { rest = c.try_load.ensures.rest; fixed = λ i. record { setup = e.setup i; journal = made i }; few = e.few; closes = e.closes; ok = e.ok; err = tt }
