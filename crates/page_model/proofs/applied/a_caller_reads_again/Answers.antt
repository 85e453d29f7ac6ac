use Rattle.std.proofs.Common.{[], ◌∷◌, append-nil, refl, reverse, sym}
use Rattle.page_base.specs.declared.keys.Why.TheVariants.{Read}
use Rattle.page_model.specs.declared.entry.Entry.TheVariants.{Raised, ReadFailed, StartRead}
use Rattle.page_model.specs.Examples.{history_of, page, a_failed_read, reads_fail_twice}
use Rattle.page_model.proofs.applied.a_caller_reads_again.Goals as goal

pub returns : goal.returns
returns c =
    let old = history_of (a_failed_read 1) in
    let new = history_of reads_fail_twice in
    let grew = c.growing_adds_up.ensures.after_others 1 old old (reverse (a_failed_read 2)) (record { later = []; is = refl; none = refl }) in
    let newest = c.grown_knows.ensures.newest 1 old new (ReadFailed (page 0) 2) (StartRead (page 0) ∷ Raised (page 0) Read ∷ []) grew in
    record {
      grew = grew;
      newest = newest;
      newer = c.new_stays.ensures (1, ReadFailed (page 0) 2) [] old new new (old, sym (append-nil old)) ([], refl) newest;
    }
