use Rattle.std.proofs.Common.{◌≡◌, ℕ, ◌+◌, ◌%◌, length, get_or, slice_get, Some, sym, subst, arith}
use Rattle.std.specs.Prelude.{slice_set}
use Rattle.sparse_store.proofs.PartLists.{got_at, none_left}
use Rattle.sparse_store.proofs.Splitting.{DealsSome, deals_end, next_below, next_room, deals_more}
use Rattle.sparse_store.proofs.split.deal.Goals as goal

pub put_part-requires : goal.put_part-requires
put_part-requires g c =
    let shares = c.parts.shares in
    let n = length c.args.shares.now in
    let k = c.parts.number in
    let d = c.index-shares-stripe.result in
    let below = next_below c.args.region c.args.parts.items c.args.shares.now k c.parts.parts.items c.pop.new.self.items c.in-Some.part shares c.in-Some.ensures.items c.requires.some c.parts.invariant in
    let here : slice_get shares ((c.args.region + k) % n) ≡ Some (get_or shares ((c.from.result + k) % n) d) =
    subst (λ (r : ℕ). slice_get shares ((c.args.region + k) % n) ≡ Some (get_or shares ((r + k) % n) d)) (sym c.from.ensures) (got_at shares ((c.args.region + k) % n) d below) in
    record { room = next_room c.args.region c.args.parts.items c.args.shares.now k c.parts.parts.items c.pop.new.self.items c.in-Some.part shares c.in-Some.ensures.items c.requires.some c.parts.invariant (get_or shares ((c.from.result + k) % n) d) here }

pub parts-preserved : goal.parts-preserved
parts-preserved g c =
    let shares = c.parts.shares in
    let n = length c.args.shares.now in
    let k = c.parts.number in
    let d = c.index-shares-stripe.result in
    let below = next_below c.args.region c.args.parts.items c.args.shares.now k c.parts.parts.items c.pop.new.self.items c.in-Some.part shares c.in-Some.ensures.items c.requires.some c.parts.invariant in
    let here : slice_get shares ((c.args.region + k) % n) ≡ Some (get_or shares ((c.from.result + k) % n) d) =
    subst (λ (r : ℕ). slice_get shares ((c.args.region + k) % n) ≡ Some (get_or shares ((r + k) % n) d)) (sym c.from.ensures) (got_at shares ((c.args.region + k) % n) d below) in
    subst (λ (r : ℕ). DealsSome c.args.region (k + 1) c.args.parts.items c.pop.new.self.items c.args.shares.now (slice_set shares ((r + k) % n) c.put_part.new.share)) (sym c.from.ensures)
    (deals_more c.args.region c.args.parts.items c.args.shares.now k c.parts.parts.items c.pop.new.self.items c.in-Some.part shares c.in-Some.ensures.items c.requires.some c.parts.invariant
    (get_or shares ((c.from.result + k) % n) d) here c.put_part.new.share c.put_part.ensures.dir c.put_part.ensures.first c.put_part.ensures.items c.put_part.ensures.spare)

pub returns : goal.returns
returns g c =
    let none = none_left c.parts.parts.items (omega (arith, c.in_default.ensures.cases.0, c.parts.parts.ok.0)) in
    deals_end c.args.region c.args.parts.items c.args.shares.now c.parts.number c.parts.parts.items c.parts.shares none c.parts.invariant
