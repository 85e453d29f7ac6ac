use Rattle.std.proofs.Common.{None, Some, ap, find, refl, sym, ◌==◌, ◌≡◌, ◌∙◌}
use Rattle.page_base.specs.declared.keys.Key.{Key}
use Rattle.soft_mmu.specs.Entries.{table_entry}
use Rattle.page_buffer.specs.Buffers.{is_of_region}
use Rattle.page_model.specs.Core.{Core, Resident}
use Rattle.stripe_core.specs.InsideFrameStates.{keys_of}
use Rattle.stripe_core.proofs.Finds.{keys_seen, found_present, picks_seen}
use Rattle.stripe_core.proofs.Leaving.{found_holds, found_within, keys_found}
use Rattle.stripe_core.proofs.Looks.{page_key}
use Rattle.stripe_core.proofs.stripe.Stripe.first_of.Goals as goal

none_found : (g : _) (c : goal.After-from_residual g) → c.from_residual.result ≡ find (λ (k : Key). k.region == c.args.region) c.self.inside.buffer.residents
none_found g c =
    let b = c.self.inside.buffer in
    c.from_residual.ensures ∙ keys_found b (λ (k : Key). k.region == c.args.region) (is_of_region b c.args.region) None c.ordered.ensures.ordered (λ f held. refl) c.in_err-oldest_of.ensures.exact

pub returns-in_err-oldest_of-clause-picks : goal.returns-in_err-oldest_of-clause-picks
returns-in_err-oldest_of-clause-picks g c =
    let s = c.self.inside in
    picks_seen c.args.self.now s.table s.buffer (λ (r : Resident). r.key.region == c.args.region) (λ (k : Key). k.region == c.args.region) c.from_residual.result (ap (λ (v : Core). v.pages) c.self.view_is)
    (λ k e. ap (λ (i : Key). i.region == c.args.region) (page_key s.buffer k (table_entry s.table k))) (none_found g c)

pub returns-in_err-oldest_of-clause-exact : goal.returns-in_err-oldest_of-clause-exact
returns-in_err-oldest_of-clause-exact g c =
    let s = c.self.inside in
    let keys = sym (keys_seen s.table s.buffer s.buffer.residents) ∙ ap keys_of c.self.view_is in
    none_found g c ∙ ap (find (λ (k : Key). k.region == c.args.region)) keys

pub at-requires : goal.at-requires
at-requires g c =
    let b = c.self.inside.buffer in
    record { within = found_within b (is_of_region b c.args.region) (Some c.in_ok-oldest_of.field-0) c.ordered.ensures.ordered c.in_ok-oldest_of.ensures.exact }

found_key : (g : _) (c : goal.After-at g) → c.at.result ≡ find (λ (k : Key). k.region == c.args.region) c.self.inside.buffer.residents
found_key g c =
    let b = c.self.inside.buffer in
    let f = c.in_ok-oldest_of.field-0 in
    let q = is_of_region b c.args.region in
    c.at.ensures.exact ∙ (found_holds b q f c.ordered.ensures.ordered c.in_ok-oldest_of.ensures.exact ∙ keys_found b (λ (k : Key). k.region == c.args.region) q (Some f) c.ordered.ensures.ordered (λ f held. refl) c.in_ok-oldest_of.ensures.exact)

pub returns-clause-picks : goal.returns-clause-picks
returns-clause-picks g c =
    let s = c.self.inside in
    picks_seen c.args.self.now s.table s.buffer (λ (r : Resident). r.key.region == c.args.region) (λ (k : Key). k.region == c.args.region) c.at.result (ap (λ (v : Core). v.pages) c.self.view_is)
    (λ k e. ap (λ (i : Key). i.region == c.args.region) (page_key s.buffer k (table_entry s.table k))) (found_key g c)

pub returns-clause-present : goal.returns-clause-present
returns-clause-present g c = found_present c.args.self.now c.self.inside.table c.self.inside.buffer (λ (k : Key). k.region == c.args.region) c.at.result (ap (λ (v : Core). v.pages) c.self.view_is) (found_key g c)

pub returns-clause-exact : goal.returns-clause-exact
returns-clause-exact g c =
    let s = c.self.inside in
    let keys = sym (keys_seen s.table s.buffer s.buffer.residents) ∙ ap keys_of c.self.view_is in
    found_key g c ∙ ap (find (λ (k : Key). k.region == c.args.region)) keys
