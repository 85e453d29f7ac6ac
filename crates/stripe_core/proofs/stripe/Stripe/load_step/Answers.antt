use Rattle.std.proofs.Common.{◌≡◌, false, subst}
use Rattle.soft_mmu.specs.declared.entry.Wants.TheVariants as wants
use Rattle.soft_mmu.specs.Entries.{table_entry}
use Rattle.page_model.specs.Core.{Core, page_at, is_closing}
use Rattle.stripe_core.proofs.Looks.{at_entry, page_is, hit_held, missing_absent, holds_page, is_held, load_hit, load_miss, load_gives}
use Rattle.stripe_core.proofs.stripe.Stripe.load_step.Goals as goal

pub bytes-bytes-requires : goal.bytes-bytes-requires
bytes-bytes-requires g c =
    let s = c.self.inside in
    let h = hit_held (table_entry s.table c.args.key) wants.Read c.in-Hit.frame c.in-Hit.ensures.exact in
    record { resident = is_held _ c.args.key (holds_page s.table s.buffer _ c.args.key h.protected h.dirty c.in-Hit.frame c.self.invariant.0 h.is) }

pub returns-in-Hit-clause-answer : goal.returns-in-Hit-clause-answer
returns-in-Hit-clause-answer g c =
    let s = c.self.inside in
    let h = hit_held (table_entry s.table c.args.key) wants.Read c.in-Hit.frame c.in-Hit.ensures.exact in
    let P : Core → Type 0 = λ v. page_at v c.args.key ≡ at_entry s.buffer c.args.key (table_entry s.table c.args.key) in
    let at = subst P c.self.view_is (page_is s.table s.buffer _ c.args.key c.self.invariant.0) in
    let calm : is_closing c.args.self.now c.args.key.region ≡ false = cc (c.is_closing.ensures.exact, c.if-is_closing.false) in
    load_hit c.args.self.now s.buffer c.args.key (table_entry s.table c.args.key) c.in-Hit.frame calm at h

pub returns-in-Hit-clause-bytes : goal.returns-in-Hit-clause-bytes
returns-in-Hit-clause-bytes g c =
    λ _.
    let s = c.self.inside in
    let h = hit_held (table_entry s.table c.args.key) wants.Read c.in-Hit.frame c.in-Hit.ensures.exact in
    let P : Core → Type 0 = λ v. page_at v c.args.key ≡ at_entry s.buffer c.args.key (table_entry s.table c.args.key) in
    let at = subst P c.self.view_is (page_is s.table s.buffer _ c.args.key c.self.invariant.0) in
    load_gives c.args.self.now s.buffer c.args.key (table_entry s.table c.args.key) c.in-Hit.frame c.args.place c.copy_from_slice.new.self at h (cc (c.copy_from_slice.ensures.after, c.copy_from_slice.ensures.len, c.bytes-bytes.ensures.bytes))

pub returns-in-Missing-clause-answer : goal.returns-in-Missing-clause-answer
returns-in-Missing-clause-answer g c =
    let s = c.self.inside in
    let P : Core → Type 0 = λ v. page_at v c.args.key ≡ at_entry s.buffer c.args.key (table_entry s.table c.args.key) in
    let at = subst P c.self.view_is (page_is s.table s.buffer _ c.args.key c.self.invariant.0) in
    let calm : is_closing c.args.self.now c.args.key.region ≡ false = cc (c.is_closing.ensures.exact, c.if-is_closing.false) in
    load_miss c.args.self.now s.buffer c.args.key (table_entry s.table c.args.key) calm at (missing_absent (table_entry s.table c.args.key) wants.Read c.in-Missing.ensures.exact)
