use Rattle.std.proofs.Common.{◌∙◌, ◌++◌, ◌+◌, ◌*◌, ◌≤◌, arith, length-append}
use Rattle.applied_laws.proofs.lists.pages_behind_one_another.Goals as goal

pub returns : goal.returns
returns c = record {
  first = λ size n before one two b o.
      c.pages_append.ensures.earlier size n (before ++ one) two (omega (arith, b, o, length-append before one))
      ∙ c.pages_append.ensures.last size n before one b o;
  apart = λ size n. c.pages_lie_apart.ensures n (n + 1) size (omega arith);
}
