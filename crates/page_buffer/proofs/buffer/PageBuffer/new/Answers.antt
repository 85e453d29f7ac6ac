use Rattle.std.proofs.Common.{◌≡◌, ◌∙◌, ◌<◌, ℕ, length, replicate, refl, sym, ap, arith, rules, length-append, below_more, subst}
use Rattle.std.specs.Prelude.{slice_index_or}
use Rattle.std.proofs.lemmas.List.{get_or_append_left, get_or_push, map-append, replicate_more}
use Rattle.page_buffer.specs.Frames.{Free}
use Rattle.page_buffer.specs.Insides.{frame_seen, frames_seen, HasAll}
use Rattle.page_buffer.proofs.New.{AreFirst, are_first-push, sound_new}
use Rattle.page_buffer.proofs.buffer.PageBuffer.new.Goals as goal

pub loop-frame-init : goal.loop-frame-init
loop-frame-init c =
    let home = c.in-Ok.ensures.home in
    record {
      all = c.in-Ok.ensures.size.0;
      size = c.in-Ok.ensures.size.1;
      home = omega (arith, home);
      taken = search rules;
      mine = λ k d lt. (let none : length c.in_ok-frames.frames.items ≡ 0 = search rules in absurd (omega arith));
      seen = search rules;
      list = record { many = search rules; named = λ i d lt. absurd (omega arith) };
      room = search rules;
      free_room = search rules;
    }

pub loop-frame-preserved : goal.loop-frame-preserved
loop-frame-preserved c =
    let i = c.loop-frame.invariant in
    let taken = rw c.unwrap-page.ensures at c.take.ensures.taken in
    let fewer = rw c.unwrap-page.ensures at c.take.ensures.home in
    let mine = rw c.unwrap-page.ensures at c.take.ensures.arena in
    let arena = ap (λ a. a.arena) taken in
    let old = c.loop-frame.frames.items in
    record {
      all = ap (λ a. a.frames) taken ∙ i.all;
      size = ap (λ a. a.page_size) arena ∙ i.size;
      home = let was = i.home in omega (arith, fewer);
      taken = search rules;
      mine =
          λ k d lt.
          below_more (λ (j : ℕ). (slice_index_or c.push_reserved.new.self.items j d).page.arena ≡ c.take.new.self.arena) (length old)
          (λ j below. rw (c.push_reserved.ensures.items, get_or_append_left old _ d j below) (i.mine j d below ∙ sym arena))
          (rw (c.push_reserved.ensures.items, get_or_push old _ d (length old) refl) (mine ∙ sym arena))
          k (rw (c.push_reserved.ensures.items, length-append old) at lt);
      seen = rw (c.push_reserved.ensures.items, map-append frame_seen old) (rw i.seen (replicate_more c.loop-frame.frame Free));
      list = rw c.push_reserved-in-loop-frame.ensures.items (are_first-push c.loop-frame.free.items c.loop-frame.frame i.list);
      room = search rules;
      free_room = search rules;
    }

pub invariant_of-result : goal.invariant_of-result
invariant_of-result c =
    let i = c.loop-frame.invariant in
    let end : c.loop-frame.frame ≡ c.args.quota = omega arith in
    let seen = subst (λ (n : ℕ). frames_seen c.loop-frame.frames.items ≡ replicate n Free) end i.seen in
    let list = subst (AreFirst c.loop-frame.free.items) end i.list in
    let home = i.home in
    let all : HasAll c.loop-frame.arena c.loop-frame.frames.items = record { out = omega arith; many = i.taken ∙ (end ∙ sym i.all); mine = i.mine } in
    let few : c.args.quota < 4294967296 = search rules in
    (rw c.in_ok-order.ensures.empty (sound_new c.loop-frame.arena c.loop-frame.frames.items c.loop-frame.free.items c.args.quota c.args.regions few all seen list), search rules)
