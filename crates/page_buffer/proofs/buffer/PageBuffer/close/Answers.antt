use Rattle.std.proofs.Common.{◌≡◌, ◌∙◌, ◌++◌, ◌∷◌, [], sym, ap, arith, length, List, length-append}
use Rattle.std.specs.Prelude.{slice_index_or}
use Rattle.std.proofs.lemmas.List.{get_or_append_left}
use Rattle.page_buffer.specs.declared.frame.Frame.{Frame}
use Rattle.page_buffer.proofs.buffer.PageBuffer.close.Goals as goal

pub loop-preserved : goal.loop-preserved
loop-preserved c =
    let left = c.pop.new.self.items in
    let list : c.loop.frames.items ≡ left ++ c.unwrap-page.result ∷ [] = rw c.unwrap-page.ensures at c.pop.ensures.items in
    let long = ap length list ∙ length-append left (c.unwrap-page.result ∷ []) in
    let frames = ap (λ a. a.frames) c.put.ensures.put in
    let arena = ap (λ a. a.arena) c.put.ensures.put in
    let home = c.put.ensures.home in
    let counted = c.loop.invariant.counted in
    let all = c.loop.invariant.home in
    record {
      home = omega arith;
      counted = omega arith;
      mine =
          λ k d lt.
          let here = c.loop.invariant.mine k d (omega arith) in
          let same = ap (λ (fs : List Frame). slice_index_or fs k d) list ∙ get_or_append_left left (c.unwrap-page.result ∷ []) d k lt in
          ap (λ (f : Frame). f.page.arena) (sym same) ∙ (here ∙ sym arena);
    }
