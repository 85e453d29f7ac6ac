use Rattle.std.proofs.Common.{[], ◌∷◌, ◌++◌, List, Some, refl, sym, ap, subst, ◌∙◌}
use Rattle.file_store.specs.declared.files.MemFile.{MemFile}
use Rattle.file_store.specs.Shelves.{file_at}
use Rattle.file_store.specs.MemFiles.{files_in}
use Rattle.file_store.specs.InsideMemFolders.{out_in}
use Rattle.file_store.proofs.FileLemmas.{push_here, push_other, push_grows, at_its_path, not_at_other, fit_kept, Grows}
use Rattle.file_store.proofs.mem_folder.MemFolderFolder.write_new.Goals as goal

pub invariant_of-self-2-clause-fit : goal.invariant_of-self-2-clause-fit
invariant_of-self-2-clause-fit c =
    let s = c.args.self.now in
    let old = s.files.items in
    let path = c.args.path.now.items in
    let g : MemFile = record { path = c.in-Ok.own_path; bytes = c.in-Ok-from_slice.own } in
    let e = c.push_reserved.ensures.items ∙ ap (λ (fs : List MemFile). fs ++ g ∷ []) c.reserve_exact.ensures.items in
    fit_kept (files_in old) _ (out_in s.out.items) s.fit (λ q. subst (λ (fs : List MemFile). Grows (file_at (files_in old) q) (file_at (files_in fs) q)) (sym e) (push_grows old g path (c.in-Ok.ensures.items ∙ c.as_slice-2.ensures) c.requires.absent q))

pub returns-clause-written : goal.returns-clause-written
returns-clause-written c =
    let old = c.args.self.now.files.items in
    let path = c.args.path.now.items in
    let g : MemFile = record { path = c.in-Ok.own_path; bytes = c.in-Ok-from_slice.own } in
    let e = c.push_reserved.ensures.items ∙ ap (λ (fs : List MemFile). fs ++ g ∷ []) c.reserve_exact.ensures.items in
    ap (λ (fs : List MemFile). file_at (files_in fs) path) e ∙ push_here old path g (at_its_path path g (c.in-Ok.ensures.items ∙ c.as_slice-2.ensures)) c.requires.absent ∙ ap Some c.in-Ok-from_slice.ensures.items

pub returns-clause-others : goal.returns-clause-others
returns-clause-others c =
    let old = c.args.self.now.files.items in
    let path = c.args.path.now.items in
    let g : MemFile = record { path = c.in-Ok.own_path; bytes = c.in-Ok-from_slice.own } in
    let e = c.push_reserved.ensures.items ∙ ap (λ (fs : List MemFile). fs ++ g ∷ []) c.reserve_exact.ensures.items in
    record {
      elsewhere = λ q apart. ap (λ (fs : List MemFile). file_at (files_in fs) q) e ∙ push_other old q g (not_at_other path q g (c.in-Ok.ensures.items ∙ c.as_slice-2.ensures) apart);
      out = refl;
    }
