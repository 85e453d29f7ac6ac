use Rattle.std.proofs.Common.{◌∙◌, ap, arith, slice_set}
use Rattle.stripe_core.specs.InsideReadFaults.{ReadFaultsSeen, spread}
use Rattle.stripe_core.proofs.Shares.{place_within, spread_set}
use Rattle.stripe_core.proofs.read_faults.ReadFaults.set.Goals as goal

pub index_mut-requires : goal.index_mut-requires
index_mut-requires c =
    let s = c.self.inside in
    let within = (place_within s.share s.own.items s.pages.value c.args.page c.self.invariant (rw (← c.self.view_is) at c.requires.own) (rw (← c.self.view_is) at c.requires.within)).0 in
    omega (arith, within, c.place-place.ensures.exact, s.own.ok.0)

pub returns-clause-numbers : goal.returns-clause-numbers
returns-clause-numbers c =
    let s = c.self.inside in
    let own = s.own.items in
    let n = c.args.number in
    let mine = rw (← c.self.view_is) at c.requires.own in
    let within = place_within s.share own s.pages.value c.args.page c.self.invariant mine (rw (← c.self.view_is) at c.requires.within) in
    let seen = ap (λ (f : ReadFaultsSeen). slice_set f.numbers c.args.page n) c.self.view_is in
    ap (λ i. spread s.share (slice_set own i n) s.pages.value) c.place-place.ensures.exact ∙ (spread_set s.share own s.pages.value c.args.page n mine within.0 ∙ seen)
