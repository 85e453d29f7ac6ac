use Rattle.std.proofs.Common.{None, Some, ap, sym, ◌≡◌, ◌∙◌, find, arith}
use Rattle.soft_mmu.specs.Entries.{table_entry}
use Rattle.page_model.specs.Core.{Core, can_leave}
use Rattle.stripe_core.specs.InsideFrameStates.{leaves}
use Rattle.stripe_core.specs.InsideOldest.{may_go}
use Rattle.stripe_core.specs.InsideParts.{reads_of}
use Rattle.stripe_core.specs.Parts.{page_seen}
use Rattle.stripe_core.proofs.Finds.{found_present, picks_seen, leaves_agree}
use Rattle.stripe_core.proofs.Leaving.{found_holds, found_within, keys_found, go_leaves}
use Rattle.stripe_core.proofs.Looks.{page_key}
use Rattle.stripe_core.proofs.stripe.Stripe.first_leaving.Goals as goal

pub oldest_leaving-requires : goal.oldest_leaving-requires
oldest_leaving-requires g c = let regions = c.self.invariant.1.regions in let few = c.self.invariant.1.few in record { few = omega arith }

pub returns-in_err-oldest_leaving-clause-picks : goal.returns-in_err-oldest_leaving-clause-picks
returns-in_err-oldest_leaving-clause-picks g c =
    let s = c.self.inside in
    let v = c.args.self.now in
    let pages = ap (λ (x : Core). x.pages) c.self.view_is in
    let rows = c.self.invariant.1.rows ∙ sym c.self.invariant.1.regions in
    let goes = go_leaves g.S.Store.seen v s.table s.buffer s.regions.items (reads_of s.regions.items) c.self.invariant.0 rows pages (ap (λ (x : Core). x.regions) c.self.view_is) in
    let found : None ≡ find (leaves v) s.buffer.residents = keys_found s.buffer (leaves v) (may_go g.S.Store.seen s.buffer s.regions.items) None c.ordered.ensures.ordered goes c.in_err-oldest_leaving.ensures.exact in
    let agree = leaves_agree v (page_seen s.table s.buffer) (λ k. page_key s.buffer k (table_entry s.table k)) in
    picks_seen v s.table s.buffer (can_leave v) (leaves v) c.from_residual.result pages agree (c.from_residual.ensures ∙ found)

pub at-requires : goal.at-requires
at-requires g c =
    let s = c.self.inside in
    record { within = found_within s.buffer (may_go g.S.Store.seen s.buffer s.regions.items) (Some c.in_ok-oldest_leaving.field-0) c.ordered.ensures.ordered c.in_ok-oldest_leaving.ensures.exact }

found_key : (g : _) (c : goal.After-at g) → c.at.result ≡ find (leaves c.args.self.now) c.self.inside.buffer.residents
found_key g c =
    let s = c.self.inside in
    let v = c.args.self.now in
    let pages = ap (λ (x : Core). x.pages) c.self.view_is in
    let rows = c.self.invariant.1.rows ∙ sym c.self.invariant.1.regions in
    let goes = go_leaves g.S.Store.seen v s.table s.buffer s.regions.items (reads_of s.regions.items) c.self.invariant.0 rows pages (ap (λ (x : Core). x.regions) c.self.view_is) in
    let f = c.in_ok-oldest_leaving.field-0 in
    let q = may_go g.S.Store.seen s.buffer s.regions.items in
    c.at.ensures.exact ∙ (found_holds s.buffer q f c.ordered.ensures.ordered c.in_ok-oldest_leaving.ensures.exact ∙ keys_found s.buffer (leaves v) q (Some f) c.ordered.ensures.ordered goes c.in_ok-oldest_leaving.ensures.exact)

pub returns-clause-picks : goal.returns-clause-picks
returns-clause-picks g c =
    let s = c.self.inside in
    let v = c.args.self.now in
    let pages = ap (λ (x : Core). x.pages) c.self.view_is in
    let agree = leaves_agree v (page_seen s.table s.buffer) (λ k. page_key s.buffer k (table_entry s.table k)) in
    picks_seen v s.table s.buffer (can_leave v) (leaves v) c.at.result pages agree (found_key g c)

pub returns-clause-present : goal.returns-clause-present
returns-clause-present g c = found_present c.args.self.now c.self.inside.table c.self.inside.buffer (leaves c.args.self.now) c.at.result (ap (λ (x : Core). x.pages) c.self.view_is) (found_key g c)
