use Rattle.std.proofs.Common.{◌≡◌, ◌∙◌, ◌++◌, ◌∷◌, [], ap, arith, length, length-append}
use Rattle.std.specs.Prelude.{vec_len, option_to_list}
use Rattle.std.proofs.lemmas.Grind.{common_steps}
use Rattle.std.proofs.Common.{rules}
use Rattle.stripe_core.proofs.Making.{made_none, made_more, made_all}
use Rattle.stripe_core.proofs.room.regions_of.Goals as goal

pub loop-lane-init : goal.loop-lane-init
loop-lane-init g c =
    let none = ap length c.requires.empty in
    record {
      so_far = made_none c.args.lanes.items c.args.faults.items c.args.room.items c.requires.empty c.requires.one_each;
      room = omega (arith, none, c.args.lanes.ok.0, c.args.room.ok.0, c.requires.fits);
      home = c.args.lanes.ok.1;
    }

pub unwrap-read_faults-requires : goal.unwrap-read_faults-requires
unwrap-read_faults-requires g c =
    let n = c.loop-lane.invariant.so_far.one_each in
    let fewer = ap length c.in-Some.ensures.items ∙ length-append c.pop.new.self.items (c.in-Some.lane ∷ []) in
    c.pop-in-Some.ensures.variant.1 (omega (arith, n, fewer, c.loop-lane.faults.ok.0, c.loop-lane.lanes.ok.0))

pub push_reserved-requires : goal.push_reserved-requires
push_reserved-requires g c = omega (arith, c.loop-lane.invariant.room, c.in-Some.ensures.cases)

pub loop-lane-preserved : goal.loop-lane-preserved
loop-lane-preserved g c =
    let left = c.pop-in-Some.ensures.items ∙ ap (λ o. c.pop-in-Some.new.self.items ++ option_to_list o) c.unwrap-read_faults.ensures in
    let so_far = made_more c.args.lanes.items c.loop-lane.lanes.items c.pop.new.self.items c.args.faults.items c.loop-lane.faults.items c.pop-in-Some.new.self.items c.loop-lane.regions.items c.in-Some.lane c.unwrap-read_faults.result c.loop-lane.invariant.so_far c.in-Some.ensures.items left in
    record {
      so_far = rw c.push_reserved.ensures.items so_far;
      room = omega (arith, c.loop-lane.invariant.room, c.in-Some.ensures.cases, c.push_reserved.ensures.len, c.push_reserved.ensures.capacity);
      home = omega (arith, c.loop-lane.invariant.home, c.in-Some.ensures.capacity);
    }

pub returns-clause-made : goal.returns-clause-made
returns-clause-made g c =
    let none : vec_len c.loop-lane.lanes ≡ 0 = first_of (search rules, grind (arith, common_steps)) in
    let empty : length c.loop-lane.lanes.items ≡ 0 = omega (arith, none, c.loop-lane.lanes.ok.0) in
    rw c.reverse.ensures.items (made_all c.args.lanes.items c.loop-lane.lanes.items c.args.faults.items c.loop-lane.faults.items c.loop-lane.regions.items c.loop-lane.invariant.so_far empty)
