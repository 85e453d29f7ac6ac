use Rattle.std.proofs.Common.{rules, ◌≡◌, ◌<◌, ◌*◌, ◌/◌, ◌∙◌, length, sym, ap}
use Rattle.std.proofs.Math.Nat.{mul-div_cancel}
use Rattle.page_base.specs.Lanes.{LaneSeen}
use Rattle.core_bench.proofs.Places.{whole, only, alike}
use Rattle.core_bench.proofs.memory.zeros.Goals as goal

pub new-store-requires-clause-whole : goal.new-store-requires-clause-whole
new-store-requires-clause-whole c =
    let long : length c.from_vec.result.items ≡ c.args.pages * c.page_size-2.result = search rules in
    let some : 0 < c.page_size-2.result = search rules in
    whole c.args.pages c.page_size-2.result _ some long

pub returns : goal.returns
returns c =
    let lanes = c.in-Ok.ensures.lanes in
    let one = lanes.count ∙ c.requires.one_stripe in
    let at = only c.in-Ok.lanes.items c.pop.new.self.items c.in-Some.lane (sym c.into_vec.ensures ∙ c.in-Some.ensures.items) one in
    let origin = ap (λ (l : LaneSeen). l.origin) (lanes.each 0 c.in-Some.lane at) in
    let long : length c.from_vec.result.items ≡ c.args.pages * c.page_size-2.result = search rules in
    let some : 0 < c.page_size-2.result = search rules in
    let pages : length c.from_vec.result.items / c.page_size-2.result ≡ c.args.pages = ap (λ n. n / c.page_size-2.result) long ∙ mul-div_cancel c.args.pages some in
    let size = c.new-store.ensures.page_size ∙ c.page_size-2.ensures in
    let count : length c.new-store.result.contents.items / c.new-store.result.page_size ≡ c.args.pages = rw (c.new-store.ensures.contents, c.new-store.ensures.page_size) pages in
    origin ∙ alike _ _ _ _ _ _ _ count size c.requires.one_stripe
