use Rattle.std.proofs.Common.{ℕ, [], ◌∷◌, ◌++◌, List, map, sym, ap, ◌∙◌, arith}
use Rattle.std.specs.List.{range_with_len}
use Rattle.std.proofs.lemmas.List.{map-append}
use Rattle.std.proofs.lemmas.List.FromFn.{map-range_with_len_more}
use Rattle.file_store.specs.Parts.{PartName}
use Rattle.file_store.specs.Folders.{stripe_name}
use Rattle.file_store.specs.InsideMemFolders.{out_name, out_in}
use Rattle.file_store.proofs.shelf.stripe_outs.Goals as goal

pub loop-stripe-preserved : goal.loop-stripe-preserved
loop-stripe-preserved c =
    let path = c.args.path.now in
    let cut = c.args.cut.now in
    let k = c.loop-stripe.stripe in
    record {
      room = omega arith;
      names =
          ap out_in c.put.ensures.items
          ∙ map-append out_name c.loop-stripe.outs.items (_ ∷ [])
          ∙ ap (λ (names : List PartName). names ++ stripe_name c.in_ok-path.path.items cut k ∷ []) c.loop-stripe.invariant.names
          ∙ ap (λ (p : List ℕ). map (stripe_name path cut) (range_with_len 0 k) ++ stripe_name p cut k ∷ []) c.in_ok-path.ensures.items
          ∙ sym (map-range_with_len_more (stripe_name path cut) 0 k k (omega arith));
    }
