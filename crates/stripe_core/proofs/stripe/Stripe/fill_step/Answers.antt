use Rattle.std.proofs.Common.{nat_le, ◌||◌, length-append, ◌≡◌, ◌∙◌, ◌≤◌, ◌+◌, ◌∷◌, [], ◌++◌, ap, arith, refl, sym, not, length, map, slice_set, length-set}
use Rattle.std.specs.Prelude.{vec_capacity}
use Rattle.std.proofs.lemmas.List.{length-map}
use Rattle.page_base.specs.Pages.{on_mark}
use Rattle.soft_mmu.specs.declared.entry.PageEntry.TheVariants.{Present}
use Rattle.soft_mmu.specs.Entries.{table_entry, with_entry}
use Rattle.page_base.specs.declared.keys.Key.{Key}
use Rattle.page_buffer.specs.Frames.{page_of}
use Rattle.page_buffer.specs.Frames as frame
use Rattle.page_buffer.specs.Buffers.{frame_of}
use Rattle.page_model.specs.Core.{Core, Home, is_reading}
use Rattle.page_model.specs.Core as core
use Rattle.page_model.specs.Setups.{has_page}
use Rattle.page_model.specs.Steps.{placed}
use Rattle.page_model.specs.Steps as step
use Rattle.page_model.specs.Core.{why_out, frames_held}
use Rattle.page_buffer.specs.Buffers.{BufferSeen}
use Rattle.stripe_core.specs.Configs.{setup_of}
use Rattle.stripe_core.specs.Parts.{core_of, pages_seen}
use Rattle.stripe_core.proofs.Cores.{core_fill, page_made, why_of_read}
use Rattle.stripe_core.specs.declared.region.Lane.TheVariants as lane
use Rattle.stripe_core.specs.Parts.{place_of, page_seen}
use Rattle.stripe_core.specs.InsideParts.{reads_of}
use Rattle.stripe_core.specs.InsideTied.{Tied, CountsWithin}
use Rattle.stripe_core.proofs.Lanes.{passing, changed_seen, reads_changed}
use Rattle.stripe_core.proofs.Looks.{at_now, absent_entry}
use Rattle.stripe_core.proofs.ReadTies.{is_kept, fill_tied, pages_filled, filled_with, filled_is}
use Rattle.stripe_core.proofs.Ended.{ended, region_within}
use Rattle.stripe_core.proofs.Sizes.{resized, retabled, rezoned, framed}
use Rattle.stripe_core.proofs.Lost.{still_within, absent_guards}
use Rattle.stripe_core.proofs.stripe.Stripe.fill_step.Goals as goal

pub into_read-read-requires : goal.into_read-read-requires
into_read-read-requires g c =
    let s = c.self.inside in
    let out = passing g.S.Store.seen s.regions.items c.args.key.region (λ p. core.reads p c.args.key) (ap (λ (v : Core). is_reading v c.args.key) c.self.view_is ∙ c.requires.reading) in
    record { reads = ap (λ l. core.reads (place_of g.S.Store.seen l) c.args.key) (c.swap_lane.ensures.lane out.region out.is) ∙ out.passes }

pub fill-requires-clause-reserved : goal.fill-requires-clause-reserved
fill-requires-clause-reserved g c =
    let s = c.self.inside in
    let out = passing g.S.Store.seen s.regions.items c.args.key.region (λ p. core.reads p c.args.key) (ap (λ (v : Core). is_reading v c.args.key) c.self.view_is ∙ c.requires.reading) in
    let kept = ended s.table s.buffer s.regions.items c.args.key out.region c.into_read-read.ensures.is.0 c.into_read-read.result.why c.into_read-read.result.frame c.self.invariant.0 out.is (sym (c.swap_lane.ensures.lane out.region out.is) ∙ c.into_read-read.ensures.is.1) in
    (is_kept (frame_of s.buffer c.into_read-read.result.frame) c.args.key kept.frame).2

pub fill-requires-clause-region : goal.fill-requires-clause-region
fill-requires-clause-region g c =
    let s = c.self.inside in
    let out = passing g.S.Store.seen s.regions.items c.args.key.region (λ p. core.reads p c.args.key) (ap (λ (v : Core). is_reading v c.args.key) c.self.view_is ∙ c.requires.reading) in
    let kept = ended s.table s.buffer s.regions.items c.args.key out.region c.into_read-read.ensures.is.0 c.into_read-read.result.why c.into_read-read.result.frame c.self.invariant.0 out.is (sym (c.swap_lane.ensures.lane out.region out.is) ∙ c.into_read-read.ensures.is.1) in
    let is : page_of (frame_of s.buffer c.into_read-read.result.frame) ≡ c.args.key = ap page_of (is_kept (frame_of s.buffer c.into_read-read.result.frame) c.args.key kept.frame).0 in
    let below = region_within (setup_of s.config.value (map g.S.Store.seen s.lanes.value.items)) c.args.key (ap (λ (v : Core). has_page v.setup c.args.key) c.self.view_is ∙ c.requires.page) in
    let groups = c.self.invariant.1.groups in
    let region : (page_of (frame_of s.buffer c.into_read-read.result.frame)).region ≡ c.args.key.region = ap (λ (k : Key). k.region) is in
    omega arith

pub install-requires-clause-absent : goal.install-requires-clause-absent
install-requires-clause-absent g c =
    let s = c.self.inside in
    absent_entry c.args.self.now s.buffer c.args.key (table_entry s.table c.args.key) (at_now c.args.self.now s.table s.buffer _ c.args.key c.self.invariant.0 (ap (λ (v : Core). v.pages) c.self.view_is)) c.requires.absent

pub invariant_of-self : goal.invariant_of-self
invariant_of-self g c =
    let s = c.self.inside in
    let r = c.args.key.region in
    let f = c.into_read-read.result.frame in
    let w = c.is_write-writes.result in
    let out = passing g.S.Store.seen s.regions.items r (λ p. core.reads p c.args.key) (ap (λ (v : Core). is_reading v c.args.key) c.self.view_is ∙ c.requires.reading) in
    let kept = ended s.table s.buffer s.regions.items c.args.key out.region c.into_read-read.ensures.is.0 c.into_read-read.result.why f c.self.invariant.0 out.is (sym (c.swap_lane.ensures.lane out.region out.is) ∙ c.into_read-read.ensures.is.1) in
    let has = c.self.invariant.1.table c.args.key (ap (λ (v : Core). has_page v.setup c.args.key) c.self.view_is ∙ c.requires.page) in
    let absent = absent_entry c.args.self.now s.buffer c.args.key (table_entry s.table c.args.key) (at_now c.args.self.now s.table s.buffer _ c.args.key c.self.invariant.0 (ap (λ (v : Core). v.pages) c.self.view_is)) c.requires.absent in
    let new = record out.region { lane = lane.Home c.args.lane } in
    let filled_in = fill_tied s.table s.buffer (reads_of s.regions.items) c.args.key f (not w) w c.args.bytes.now c.self.invariant.0 kept has absent in
    let tied : Tied (with_entry s.table c.args.key (Present (not w) w f)) (filled_with s.buffer f c.args.key c.args.bytes.now (not w)) (reads_of (slice_set s.regions.items r new)) = rw (reads_changed s.regions.items r new) filled_in in
    let sized = rezoned r out.region new out.is refl (retabled c.args.key (Present (not w) w f) has (still_within s.table c.args.key (Present (not w) w f) has s.queue (absent_guards (table_entry s.table c.args.key) (Present (not w) w f) absent) c.self.invariant.1.lost) (resized (filled_with s.buffer f c.args.key c.args.bytes.now (not w)) refl refl (framed s.buffer f (frame.Resident c.args.key c.args.bytes.now)) c.self.invariant.1)) in
    let room : length (slice_set s.regions.items r new) ≤ vec_capacity s.home = let n = length-set s.regions.items r new in omega (arith, n, c.self.invariant.3) in
    let counts : CountsWithin (record s.counts { fills = s.counts.fills + 1 }) (s.events + 1) = omega (arith, c.self.invariant.4) in
    let is_reserved = (is_kept (frame_of s.buffer f) c.args.key kept.frame).0 in
    rw (c.install.ensures.entry, c.fill.ensures.filled, filled_is s.buffer f c.args.key c.args.bytes.now (not w) is_reserved, c.swap_lane.ensures.regions out.region out.is) (tied, sized, c.self.invariant.2, room, counts)

pub returns : goal.returns
returns g c =
    let s = c.self.inside in
    let r = c.args.key.region in
    let f = c.into_read-read.result.frame in
    let w = c.is_write-writes.result in
    let out = passing g.S.Store.seen s.regions.items r (λ p. core.reads p c.args.key) (ap (λ (v : Core). is_reading v c.args.key) c.self.view_is ∙ c.requires.reading) in
    let was = sym (c.swap_lane.ensures.lane out.region out.is) ∙ c.into_read-read.ensures.is.1 in
    let kept = ended s.table s.buffer s.regions.items c.args.key out.region c.into_read-read.ensures.is.0 c.into_read-read.result.why f c.self.invariant.0 out.is was in
    let has = c.self.invariant.1.table c.args.key (ap (λ (v : Core). has_page v.setup c.args.key) c.self.view_is ∙ c.requires.page) in
    let absent = absent_entry c.args.self.now s.buffer c.args.key (table_entry s.table c.args.key) (at_now c.args.self.now s.table s.buffer _ c.args.key c.self.invariant.0 (ap (λ (v : Core). v.pages) c.self.view_is)) c.requires.absent in
    let new = record out.region { lane = lane.Home c.args.lane } in
    let pages = pages_filled s.table s.buffer (reads_of s.regions.items) c.args.key f (not w) w c.args.bytes.now c.self.invariant.0 kept has absent in
    let regions = changed_seen g.S.Store.seen s.regions.items r out.region new (placed (Home (g.S.Store.seen c.args.lane))) out.is refl in
    let is_reserved = (is_kept (frame_of s.buffer f) c.args.key kept.frame).0 in
    let setup = setup_of s.config.value (map g.S.Store.seen s.lanes.value.items) in
    let v = core_of g.S.Store.seen setup s.table s.buffer s.queue.raises s.regions.items s.evicting s.counts s.events in
    let why : why_out v c.args.key ≡ c.into_read-read.result.why = why_of_read g.S.Store.seen s.regions.items r out.region c.args.key c.into_read-read.ensures.is.0 c.into_read-read.result.why f out.is was in
    let page = page_made c.args.key w (why_out v c.args.key) c.into_read-read.result.why c.args.bytes.now c.is_write-writes.ensures.exact why in
    let pages' = pages ∙ ap (λ x. pages_seen s.table s.buffer ++ x ∷ []) page in
    let residents : c.resident.result ≡ length (s.buffer.residents ++ c.args.key ∷ []) = c.resident.ensures.exact ∙ ap (λ (b : BufferSeen). length b.residents) (c.fill.ensures.filled ∙ filled_is s.buffer f c.args.key c.args.bytes.now (not w) is_reserved) in
    let one_more = length-append s.buffer.residents (c.args.key ∷ []) in
    let as_many = length-map s.buffer.residents (page_seen s.table s.buffer) in
    let count : c.resident.result ≡ length (pages_seen s.table s.buffer) + 1 = omega (arith, residents, one_more, as_many) in
    let mark : c.evicts-self-inside.result ≡ (nat_le (on_mark (frames_held v) setup.high) (length (pages_seen s.table s.buffer) + 1) || s.evicting) =
    c.evicts-self-inside.ensures.exact ∙ (ap (λ n. nat_le n c.resident.result || s.evicting) c.self.invariant.1.on ∙ ap (λ n. nat_le (on_mark (frames_held v) setup.high) n || s.evicting) count) in
    let eq = core_fill g.S.Store.seen setup s.table (with_entry s.table c.args.key (Present (not w) w f)) s.buffer (filled_with s.buffer f c.args.key c.args.bytes.now (not w)) s.queue.raises s.regions.items (slice_set s.regions.items r new) s.evicting c.evicts-self-inside.result s.counts s.events c.args.key c.args.bytes.now (g.S.Store.seen c.args.lane) pages' regions mark in
    let now_filled = c.fill.ensures.filled ∙ filled_is s.buffer f c.args.key c.args.bytes.now (not w) is_reserved in
    record {
      step = rw (c.install.ensures.entry, now_filled, c.swap_lane.ensures.regions out.region out.is) (eq ∙ ap (λ (x : Core). step.filled x c.args.key c.args.bytes.now (g.S.Store.seen c.args.lane)) c.self.view_is);
      why = sym why ∙ ap (λ (x : Core). why_out x c.args.key) c.self.view_is;
    }
