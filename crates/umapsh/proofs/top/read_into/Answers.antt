use Rattle.std.proofs.Common.{◌≡◌, ℕ, List, ◌++◌, length, take, ap, subst, ◌∙◌, arith, rules, append-nil, length-append, length-take}
use Rattle.std.specs.Io.KnownBytes.{Consumes}
use Rattle.umapsh.proofs.Inputs.{consumes_none, consumes_kept, consumes_more}
use Rattle.umapsh.proofs.top.read_into.Goals as goal

pub reading-init : goal.reading-init
reading-init g c = record {
  taken = rw c.new-all.ensures.items (consumes_none (g.S.Source.left c.args.source.now));
  later = omega arith;
  few = omega (arith, ap length c.new-all.ensures.items);
}

pub returns-in-Err-clause-few : goal.returns-in-Err-clause-few
returns-in-Err-clause-few g c = (c.reading.all.items, consumes_kept _ _ _ c.reading.all.items c.reading.invariant.taken c.in-Err.ensures.bytes, c.reading.invariant.few)

pub returns-then-count-eq0-clause-all : goal.returns-then-count-eq0-clause-all
returns-then-count-eq0-clause-all g c =
    let i = c.reading.invariant in
    let none : c.reading.all.items ++ take c.in-Ok.count c.read.new.buf ≡ c.reading.all.items = ap (λ (n : ℕ). c.reading.all.items ++ take n c.read.new.buf) c.if-count-eq0.true ∙ append-nil c.reading.all.items in
    record {
      taken = subst (λ (xs : List ℕ). Consumes (g.S.Source.left c.args.source.now) (g.S.Source.left c.read.new.self) xs) none (consumes_more _ _ _ c.reading.all.items _ i.taken c.in-Ok.ensures.bytes.0);
      few = i.few;
      whole = λ _. c.in-Ok.ensures.bytes.1 c.if-count-eq0.true (omega (arith, c.read.auto.buf, length-take c.min-want.result c.reading.buf, c.reading.auto.buf));
    }

pub returns-then-count-eq0-clause-few : goal.returns-then-count-eq0-clause-few
returns-then-count-eq0-clause-few g c =
    let i = c.reading.invariant in (
      c.reading.all.items ++ take c.in-Ok.count c.read.new.buf,
      consumes_more _ _ _ c.reading.all.items _ i.taken c.in-Ok.ensures.bytes.0,
      omega (arith, length-append c.reading.all.items (take c.in-Ok.count c.read.new.buf), length-take c.in-Ok.count c.read.new.buf, c.read.auto.buf, length-take c.min-want.result c.reading.buf),
    )

pub returns-then-is_err-clause-few : goal.returns-then-is_err-clause-few
returns-then-is_err-clause-few g c =
    let i = c.reading.invariant in (
      c.reading.all.items ++ take c.in-Ok.count c.read.new.buf,
      consumes_more _ _ _ c.reading.all.items _ i.taken c.in-Ok.ensures.bytes.0,
      omega (arith, length-append c.reading.all.items (take c.in-Ok.count c.read.new.buf), length-take c.in-Ok.count c.read.new.buf, c.read.auto.buf, length-take c.min-want.result c.reading.buf),
    )

pub reading-preserved : goal.reading-preserved
reading-preserved g c =
    let i = c.reading.invariant in
    let part = take c.in-Ok.count c.read.new.buf in
    let items : c.extend_from_slice.new.self.items ≡ c.reading.all.items ++ part = search rules in
    record {
      taken = rw items (consumes_more _ _ _ c.reading.all.items _ i.taken c.in-Ok.ensures.bytes.0);
      later = omega (arith, c.in-Ok.ensures.cause.later);
      few = omega (arith, ap length items, length-append c.reading.all.items part, length-take c.in-Ok.count c.read.new.buf, c.read.auto.buf, length-take c.min-want.result c.reading.buf);
    }

pub returns-clause-all : goal.returns-clause-all
returns-clause-all g c = record {
  taken = c.reading.invariant.taken;
  few = c.reading.invariant.few;
  whole = λ short. absurd (omega arith);
}

pub returns-clause-few : goal.returns-clause-few
returns-clause-few g c = (c.reading.all.items, c.reading.invariant.taken, c.reading.invariant.few)
