use Rattle.std.proofs.Common.{◌≡◌, ◌∙◌, ◌<◌, Some, length, sym, arith, refl, length-set}
use Rattle.std.specs.List.{slice_get}
use Rattle.std.proofs.lemmas.List.{map-set}
use Rattle.index_lists.specs.Lists.{list_at}
use Rattle.index_lists.specs.declared.place.Place.{Place}
use Rattle.index_lists.specs.InsideOrders.{groups_in, marks_in}
use Rattle.index_lists.proofs.Parts.{count_got}
use Rattle.index_lists.proofs.Dealt.{set_as, map_got, few_once, dealt_on, end_reached, once_in, below_in}
use Rattle.index_lists.proofs.Rising.{rising_dealt, below_dealt}
use Rattle.index_lists.proofs.grouped.restamp.Goals as goal

pub returns-in_default-clause-rising : goal.returns-in_default-clause-rising
returns-in_default-clause-rising c =
    let order = list_at c.args.order.now 0 in
    let i = c.loop-stamp.invariant in
    let end = end_reached order c.loop-stamp.stamp (sym i.here ∙ c.in_default.is) in
    rising_dealt c.loop-stamp.places.items order 0 (λ k lt. (let was = i.dealt k (omega arith) lt in omega arith))

pub returns-in_default-clause-below : goal.returns-in_default-clause-below
returns-in_default-clause-below c =
    let order = list_at c.args.order.now 0 in
    let i = c.loop-stamp.invariant in
    let end = end_reached order c.loop-stamp.stamp (sym i.here ∙ c.in_default.is) in
    let before = c.loop-stamp-test.true in
    below_dealt c.loop-stamp.places.items order c.len-end.result (omega arith) (λ k lt. i.dealt k (omega arith) lt)

pub loop-stamp-preserved : goal.loop-stamp-preserved
loop-stamp-preserved c =
    let order = list_at c.args.order.now 0 in
    let i = c.loop-stamp.invariant in
    let places = c.loop-stamp.places.items in
    let n = c.in-Some.number in
    let here : slice_get order c.loop-stamp.stamp ≡ Some n = sym i.here ∙ c.in-Some.is in
    let once = once_in c.args.order.now c.requires.one c.sound.ensures.sound in
    let n_in = below_in c.args.order.now c.requires.one c.sound.ensures.sound n (count_got n order c.loop-stamp.stamp here) in
    let numbers = c.requires.numbers in
    let many = i.many in
    let within : n < length places = omega arith in
    let old = c.index_mut.ensures.value in
    record {
      here = c.next-at.ensures.exact 0 c.loop-stamp.stamp here;
      within = c.next-at.ensures.within;
      groups = map-set (λ (p : Place). p.group) places n _ ∙ (set_as (groups_in places) n _ (map_got (λ (p : Place). p.group) places n c.index_mut.result.now within old) ∙ i.groups);
      marks = map-set (λ (p : Place). p.marked) places n _ ∙ (set_as (marks_in places) n _ (map_got (λ (p : Place). p.marked) places n c.index_mut.result.now within old) ∙ i.marks);
      many = length-set places n _ ∙ i.many;
      end_is = i.end_is;
      dealt = dealt_on places order n c.loop-stamp.stamp _ once here within refl i.dealt;
    }

pub returns-clause-rising : goal.returns-clause-rising
returns-clause-rising c =
    let order = list_at c.args.order.now 0 in
    let i = c.loop-stamp.invariant in
    let few = few_once order c.args.order.now.numbers (once_in c.args.order.now c.requires.one c.sound.ensures.sound) (below_in c.args.order.now c.requires.one c.sound.ensures.sound) in
    let end = i.end_is in
    let numbers = c.requires.numbers in
    rising_dealt c.loop-stamp.places.items order 0 (λ k lt. (let was = i.dealt k (omega arith) lt in omega arith))

pub returns-clause-below : goal.returns-clause-below
returns-clause-below c =
    let order = list_at c.args.order.now 0 in
    let i = c.loop-stamp.invariant in
    let few = few_once order c.args.order.now.numbers (once_in c.args.order.now c.requires.one c.sound.ensures.sound) (below_in c.args.order.now c.requires.one c.sound.ensures.sound) in
    let end = i.end_is in
    let numbers = c.requires.numbers in
    below_dealt c.loop-stamp.places.items order c.len-end.result (omega arith) (λ k lt. i.dealt k (omega arith) lt)
