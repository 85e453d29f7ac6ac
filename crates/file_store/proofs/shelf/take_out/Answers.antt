use Rattle.std.proofs.Common.{rules, ap, ◌∙◌}
use Rattle.std.proofs.Common.{not}
use Rattle.std.proofs.lemmas.Fn.{filter_same}
use Rattle.file_store.specs.Shelves.{same_part}
use Rattle.file_store.specs.InsideMemParts.{name_of}
use Rattle.file_store.specs.InsideMemFolders.{out_name, out_in}
use Rattle.file_store.proofs.FileLemmas.{filter-map}
use Rattle.file_store.proofs.shelf.take_out.Goals as goal

pub returns-clause-names : goal.returns-clause-names
returns-clause-names c =
    ap out_in (filter_same _ (λ x. not (same_part (out_name x) (name_of c.args.path.now c.args.shape))) _ (λ x b f' k. search rules) _ _ c.retain.ensures.filtered)
    ∙ filter-map out_name (λ x. not (same_part x (name_of c.args.path.now c.args.shape))) c.args.outs.now.items
