use Rattle.std.proofs.Common.{◌<◌, ◌∙◌, ap, arith, get_or, length, sym}
use Rattle.std.specs.Prelude.{slice_index}
use Rattle.std.proofs.lemmas.List.{get_or_default}
use Rattle.stripe_core.specs.InsideReadFaults.{ReadFaultsSeen}
use Rattle.stripe_core.proofs.Shares.{place_within, spread_at}
use Rattle.stripe_core.proofs.read_faults.ReadFaults.get.Goals as goal

pub index-requires : goal.index-requires
index-requires c =
    let s = c.self.inside in
    let within = (place_within s.share s.own.items s.pages.value c.args.page c.self.invariant (rw (← c.self.view_is) at c.requires.own) (rw (← c.self.view_is) at c.requires.within)).0 in
    omega (arith, within, c.place.ensures.exact, s.own.ok.0)

pub returns : goal.returns
returns c =
    let s = c.self.inside in
    let own = s.own.items in
    let mine = rw (← c.self.view_is) at c.requires.own in
    let within = place_within s.share own s.pages.value c.args.page c.self.invariant mine (rw (← c.self.view_is) at c.requires.within) in
    let inside : c.place.result < length own = omega (arith, within.0, c.place.ensures.exact) in
    let seen = ap (λ (f : ReadFaultsSeen). slice_index f.numbers c.args.page) c.self.view_is in
    record { exact = c.index.ensures ∙ (get_or_default own c.place.result c.index.result.now 0 inside ∙ (ap (λ i. get_or own i 0) c.place.ensures.exact ∙ (sym (spread_at s.share own s.pages.value c.args.page mine within.1) ∙ seen))) }
