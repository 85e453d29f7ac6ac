use Rattle.std.proofs.Common.{◌+◌, ◌∷◌, [], ℕ, length, ap, ◌∙◌, arith, inl, inr, length-append}
use Rattle.file_store.proofs.dir_folder.DirFolderFolder.open_striped.Goals as goal

pub loop-stripe-preserved : goal.loop-stripe-preserved
loop-stripe-preserved g c =
    let i = c.loop-stripe.invariant in
    let it = c.in_ok-part.field-0 in
    let new = c.in_ok-part.ensures.part in
    record {
      room = omega arith;
      count = ap length c.put.ensures.items ∙ length-append c.loop-stripe.parts.items (it ∷ []) ∙ ap (λ (n : ℕ). n + 1) i.count;
      each = λ s part got. elim (c.lists_by_place.ensures.grown c.loop-stripe.parts.items it part s (rw c.put.ensures.items at got)) [
        | inl old ↦ i.each s part old
        | inr last ↦ rw (last.0, last.1, i.count) (record { path_is = new.path_is ∙ c.in-Ok.ensures.same; shape_is = new.shape_is; made_is = new.made_is; unfailed = new.unfailed })
      ];
    }
