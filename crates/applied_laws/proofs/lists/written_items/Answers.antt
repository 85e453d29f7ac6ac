use Rattle.std.proofs.Common.{◌∙◌, slice_set}
use Rattle.applied_laws.proofs.lists.written_items.Goals as goal

pub returns : goal.returns
returns c = record {
  second = λ xs i a b old e. c.set_is_read.ensures.here (slice_set xs i a) i a b (c.set_is_read.ensures.here xs i old a e);
  as_long = λ xs i j a b. c.set_is_read.ensures.length_ (slice_set xs i a) j b ∙ c.set_is_read.ensures.length_ xs i a;
}
