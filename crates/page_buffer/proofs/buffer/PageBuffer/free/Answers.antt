use Rattle.std.proofs.Common.{arith}
use Rattle.std.proofs.lemmas.List.{length-map}
use Rattle.page_buffer.specs.Insides.{frames_seen, key_in}
use Rattle.page_buffer.proofs.Rooms.{frames-together}
use Rattle.page_buffer.proofs.buffer.PageBuffer.free.Goals as goal

pub returns-clause-together : goal.returns-clause-together
returns-clause-together c =
    let seen = frames_seen c.self.inside.frames.items in
    let all = frames-together seen in
    let frees = c.self.invariant.0.list.frees in
    let residents = c.self.invariant.0.pages.residents in
    let many = length-map c.self.inside.order.order (key_in seen) in
    rw (← c.self.view_is) (omega arith)
