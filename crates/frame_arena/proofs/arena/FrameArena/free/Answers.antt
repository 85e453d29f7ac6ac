use Rattle.std.proofs.Common.{◌≡◌, ◌+◌, ◌*◌, [], ◌∷◌, ◌++◌, Some, Option, length, sym, ap, subst, ◌∙◌, arith, option_to_list, length-append, ℕ}
use denote.RawPtr.{block_ptr, ◌+ₚ◌}
use Rattle.frame_arena.specs.Frames.{ArenaId, ArenaFrame, ArenaSeen, held}
use Rattle.frame_arena.specs.InsideArenas.{IsShelf}
use Rattle.frame_arena.proofs.Shelved.{shelf_full, popped, last_held}
use Rattle.frame_arena.proofs.arena.FrameArena.free.Goals as goal

more : (size k : ℕ) → size + k * size ≡ (k + 1) * size
more size k = omega arith

pub unwrap-requires-2 : goal.unwrap-requires-2
unwrap-requires-2 c =
    let id = c.args.self.arena in
    let view = c.self.view_is in
    let all = ap (λ (s : ArenaSeen). held s.slots) view ∙ c.requires.all ∙ sym (ap (λ (s : ArenaSeen). s.frames) view) ∙ sym c.self.invariant.many in
    let full = shelf_full id 0 c.self.inside.slots.items (subst (λ (a : ArenaId). IsShelf a 0 c.self.inside.slots.items) (ap (λ (s : ArenaSeen). s.arena) view) c.self.invariant.shelf) all in
    last_held id c.self.inside.slots.items c.pop.new.self.items c.unwrap.result full (c.pop.ensures.items ∙ ap (λ (r : Option (Option ArenaFrame)). c.pop.new.self.items ++ option_to_list r) c.unwrap.ensures)

pub loop-init : goal.loop-init
loop-init c =
    let id = c.args.self.arena in
    let f = c.unwrap-2.result in
    let view = c.self.view_is in
    let all = ap (λ (s : ArenaSeen). held s.slots) view ∙ c.requires.all ∙ sym (ap (λ (s : ArenaSeen). s.frames) view) ∙ sym c.self.invariant.many in
    let full = shelf_full id 0 c.self.inside.slots.items (subst (λ (a : ArenaId). IsShelf a 0 c.self.inside.slots.items) (ap (λ (s : ArenaSeen). s.arena) view) c.self.invariant.shelf) all in
    let items = c.pop.ensures.items ∙ ap (λ (r : Option (Option ArenaFrame)). c.pop.new.self.items ++ option_to_list r) (c.unwrap.ensures ∙ ap (λ (o : Option ArenaFrame). Some o) c.unwrap-2.ensures) in
    let p = popped id c.self.inside.slots.items c.pop.new.self.items f full items in
    record {
      full = p.0;
      size = let one = sym c.self.invariant.many ∙ ap length items ∙ length-append c.pop.new.self.items (Some f ∷ []) in omega (arith, one);
      place = c.into_piece-bytes.ensures.place ∙ (λ i. block_ptr (p.1.1 i).block ((p.1.1 i).start + p.1.0 i * (p.1.1 i).page_size));
      many = let size = c.into_piece-bytes.ensures.size ∙ ap (λ (a : ArenaId). a.page_size) p.1.1 in omega (arith, size);
    }

pub unwrap-requires-in-loop-2 : goal.unwrap-requires-in-loop-2
unwrap-requires-in-loop-2 c =
    last_held c.args.self.arena c.loop.slots.items c.pop-in-loop.new.self.items c.unwrap-in-loop.result c.loop.invariant.full (c.pop-in-loop.ensures.items ∙ ap (λ (r : Option (Option ArenaFrame)). c.pop-in-loop.new.self.items ++ option_to_list r) c.unwrap-in-loop.ensures)

pub join-bytes-requires : goal.join-bytes-requires
join-bytes-requires c =
    let id = c.args.self.arena in
    let f = c.unwrap-in-loop-2.result in
    let rest = c.pop-in-loop.new.self.items in
    let items = c.pop-in-loop.ensures.items ∙ ap (λ (r : Option (Option ArenaFrame)). rest ++ option_to_list r) (c.unwrap-in-loop.ensures ∙ ap (λ (o : Option ArenaFrame). Some o) c.unwrap-in-loop-2.ensures) in
    let p = popped id c.loop.slots.items rest f c.loop.invariant.full items in
    let place : c.into_piece.result.place ≡ block_ptr id.block (id.start + length rest * id.page_size) = c.into_piece.ensures.place ∙ (λ i. block_ptr (p.1.1 i).block ((p.1.1 i).start + p.1.0 i * (p.1.1 i).page_size)) in
    let size = c.into_piece.ensures.size ∙ ap (λ (a : ArenaId). a.page_size) p.1.1 in
    let one : length c.loop.slots.items ≡ length rest + 1 = ap length items ∙ length-append rest (Some f ∷ []) in
    let meet : id.start + (length rest + 1) * id.page_size ≡ id.start + length rest * id.page_size + id.page_size = omega arith in
    c.loop.invariant.place ∙ ap (λ n. block_ptr id.block (id.start + n * id.page_size)) one ∙ ap (λ n. block_ptr id.block n) meet
    ∙ sym ((λ i. place i +ₚ size i))

pub loop-preserved : goal.loop-preserved
loop-preserved c =
    let id = c.args.self.arena in
    let f = c.unwrap-in-loop-2.result in
    let rest = c.pop-in-loop.new.self.items in
    let items = c.pop-in-loop.ensures.items ∙ ap (λ (r : Option (Option ArenaFrame)). rest ++ option_to_list r) (c.unwrap-in-loop.ensures ∙ ap (λ (o : Option ArenaFrame). Some o) c.unwrap-in-loop-2.ensures) in
    let p = popped id c.loop.slots.items rest f c.loop.invariant.full items in
    let size = c.into_piece.ensures.size ∙ ap (λ (a : ArenaId). a.page_size) p.1.1 in
    let one : length c.loop.slots.items ≡ length rest + 1 = ap length items ∙ length-append rest (Some f ∷ []) in
    record {
      full = p.0;
      size = let all = c.loop.invariant.size in omega (arith, one, all);
      place = c.join-bytes.ensures.0 ∙ c.into_piece.ensures.place ∙ (λ i. block_ptr (p.1.1 i).block ((p.1.1 i).start + p.1.0 i * (p.1.1 i).page_size));
      many = ap length c.join-bytes.ensures.1 ∙ length-append c.into_piece.result.bytes c.loop.bytes.bytes ∙ (λ i. size i + c.loop.invariant.many i) ∙ more id.page_size c.loop.counter;
    }
