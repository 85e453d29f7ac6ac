use Rattle.std.proofs.Common.{◌≤◌, ℕ, length, ap, ◌∙◌, arith}
use Rattle.std.specs.Fmt.{decimal}
use Rattle.std.proofs.lemmas.Fmt.{length-decimal-le}
use Rattle.sparse_store.specs.declared.meta.TheConstants.{MOST_META_NUMBER}
use Rattle.sparse_store.proofs.meta.write_meta.Goals as goal

short : (v : ℕ) → v ≤ MOST_META_NUMBER → length (decimal v) ≤ 13
short v most = length-decimal-le 13 v (omega arith) (omega (arith, most)) (omega (arith, most))

pub put-end-requires-4 : goal.put-end-requires-4
put-end-requires-4 c = record { room = omega (arith, ap length c.as_slice.ensures, ap length c.as_slice-2.ensures, ap length (c.as_bytes.ensures.value ∙ c.format.ensures.text), short c.args.meta.size c.requires.meta.most_size, ap length (c.as_bytes-2.ensures.value ∙ c.format-2.ensures.text), short c.args.meta.file c.requires.meta.most_file) }

pub put-requires : goal.put-requires
put-requires c = record { room = omega (arith, ap length c.as_slice.ensures, ap length c.as_slice-2.ensures, ap length c.as_slice-3.ensures, ap length (c.as_bytes.ensures.value ∙ c.format.ensures.text), short c.args.meta.size c.requires.meta.most_size, ap length (c.as_bytes-2.ensures.value ∙ c.format-2.ensures.text), short c.args.meta.file c.requires.meta.most_file) }
