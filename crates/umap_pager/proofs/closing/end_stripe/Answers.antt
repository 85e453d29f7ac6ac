use Rattle.std.proofs.Common.{◌≡◌, ℕ, true, Some, map, sym, ap, subst, ◌∙◌}
use Rattle.std.specs.List.{slice_get}
use Rattle.histories.specs.Histories.{calls_of}
use Rattle.page_model.specs.declared.entry.Entry.{Entry}
use Rattle.turn_lock.specs.declared.view.Ended.{Ended}
use Rattle.page_model.specs.Legal.{IsLegal}
use Rattle.page_model.specs.Stands.{StandsFor}
use Rattle.umap_pager.specs.Ended.{AreAtHome}
use Rattle.locked_stripe.specs.Calls.{AllHome}
use Rattle.locked_stripe.specs.Terms.{locked_setup}
use Rattle.locked_stripe.specs.WholeTrips.{trips_are_whole}
use Rattle.umap_pager.proofs.Leaving.{all_home, are_at_home}
use Rattle.umap_pager.proofs.Trips.{closed_home}
use Rattle.umap_pager.proofs.closing.end_stripe.Goals as goal

pub into_lanes-requires : goal.into_lanes-requires
into_lanes-requires g c =
    let e = c.close-kept.ensures in
    let stands = subst (λ k. StandsFor c.close-kept.result.1.history k) (sym c.into_parts-stripe.ensures.stripe) e.stands.0 in
    let mine : trips_are_whole (calls_of 0 c.close-kept.result.1.history) ≡ true = ap trips_are_whole e.mine ∙ c.requires.may.whole.mine in
    let its : (i : ℕ) (x : Ended Entry) → slice_get c.close-kept.result.1.ended i ≡ Some x → trips_are_whole x.mine ≡ true = λ i x at. c.requires.may.whole.ended i x (sym (ap (λ xs. slice_get xs i) e.ended) ∙ at) in
    let home : AllHome c.close-kept.result.1.history = closed_home c.whole_trips.ensures c.close-kept.result.1.history c.close-kept.result.1.ended mine its e.calls e.owners in
    record { home = all_home c.readers_agree.ensures c.close-kept.result.1.history c.into_parts-stripe.result.0 stands home }

pub returns-clause-ended : goal.returns-clause-ended
returns-clause-ended g c =
    let e = c.close-kept.ensures in
    let stripe = c.into_parts-stripe.ensures.stripe in
    let stands = subst (λ k. StandsFor c.close-kept.result.1.history k) (sym stripe) e.stands.0 in
    let same = ap (λ k. k.setup) stripe ∙ ap (λ t. t.setup) e.fixed in
    let home = are_at_home g.S.Store.seen (locked_setup c.args.lock) c.close-kept.result.1.history c.into_parts-stripe.result.0 c.into_lanes.result.items same stands c.into_lanes.ensures.lanes c.into_lanes.ensures.stands in
    record {
      lanes = subst (λ h. AreAtHome (locked_setup c.args.lock) h (map g.S.Store.seen c.into_lanes.result.items)) e.history home;
      noted = subst (λ h. g.J.Journal.has_noted c.into_parts-stripe.result.1 h) e.history (subst (λ j. g.J.Journal.has_noted j c.close-kept.result.1.history) (sym c.into_parts-stripe.ensures.journal) e.stands.1);
      made = ap g.J.Journal.made_with c.into_parts-stripe.ensures.journal ∙ ap (λ t. t.made) e.fixed;
      legal = subst (λ u. IsLegal u c.args.pass.seen) same (subst (λ h. IsLegal c.into_parts-stripe.result.0.setup h) e.history stands.legal);
      history = e.history;
      ended = e.ended;
      holds = e.holds;
      mine = e.mine;
      calls = e.calls;
      parts = e.parts;
      most = e.made;
      numbers = e.numbers;
      owners = e.owners;
      few = e.few;
    }

pub returns-clause-counts : goal.returns-clause-counts
returns-clause-counts g c =
    let e = c.close-kept.ensures in
    let stands = subst (λ k. StandsFor c.close-kept.result.1.history k) (sym c.into_parts-stripe.ensures.stripe) e.stands.0 in
    c.counts-tally.ensures.exact ∙ stands.counts
