use Rattle.std.proofs.Common.{◌≡◌, ◌∙◌, Some, None, sym, ap, arith}
use Rattle.std.specs.List.{slice_get}
use Rattle.std.proofs.lemmas.List.{length-map}
use Rattle.page_base.specs.declared.keys.Key.{Key}
use Rattle.page_buffer.specs.Insides.{frame_seen, frames_seen}
use Rattle.page_buffer.proofs.Walks.{at_place, past_end}
use Rattle.page_buffer.proofs.buffer.PageBuffer.nth.Goals as goal

pub next-at-requires : goal.next-at-requires
next-at-requires c =
    let seen = frames_seen c.self.inside.frames.items in
    let at = at_place seen c.self.inside.order.order c.loop.counter c.in_ok-at.field-0 c.self.invariant.0.pages (sym c.loop.invariant.here ∙ c.in_ok-at.was) in
    let within = at.within in
    let many = length-map c.self.inside.frames.items frame_seen in
    let numbers = c.self.invariant.0.linked.numbers in
    record { within = omega arith }

pub returns-in_err-at-2 : goal.returns-in_err-at-2
returns-in_err-at-2 c =
    let all : c.loop.counter ≡ c.args.place = omega arith in
    let here : slice_get c.self.inside.order.order c.args.place ≡ None = ap (slice_get c.self.inside.order.order) (sym all) ∙ (sym c.loop.invariant.here ∙ c.in_err-at-2.was) in
    record { exact = rw (← c.self.view_is) (c.from_residual-in_err-at-2.ensures ∙ sym (past_end (frames_seen c.self.inside.frames.items) c.self.inside.order.order c.args.place here)) }

pub resident_in-requires : goal.resident_in-requires
resident_in-requires c =
    let all : c.loop.counter ≡ c.args.place = omega arith in
    let here : slice_get c.self.inside.order.order c.args.place ≡ Some c.in_ok-at-2.field-0 = ap (slice_get c.self.inside.order.order) (sym all) ∙ (sym c.loop.invariant.here ∙ c.in_ok-at-2.was) in
    record { resident = rw (← c.self.view_is) (at_place (frames_seen c.self.inside.frames.items) c.self.inside.order.order c.args.place c.in_ok-at-2.field-0 c.self.invariant.0.pages here).resident }

pub returns : goal.returns
returns c =
    let all : c.loop.counter ≡ c.args.place = omega arith in
    let here : slice_get c.self.inside.order.order c.args.place ≡ Some c.in_ok-at-2.field-0 = ap (slice_get c.self.inside.order.order) (sym all) ∙ (sym c.loop.invariant.here ∙ c.in_ok-at-2.was) in
    let at = at_place (frames_seen c.self.inside.frames.items) c.self.inside.order.order c.args.place c.in_ok-at-2.field-0 c.self.invariant.0.pages here in
    let page = rw (← c.self.view_is) at c.resident_in.ensures.page in
    record { exact = rw (← c.self.view_is) (ap (λ (k : Key). Some k) page ∙ sym at.page) }
