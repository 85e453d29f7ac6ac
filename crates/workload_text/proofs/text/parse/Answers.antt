use Rattle.std.proofs.Common.{◌≡◌, ◌<◌, ℕ, [], length, refl, arith, sym, ap, ◌∙◌}
use Rattle.std.proofs.lemmas.List.{nil_from_length}
use Rattle.std.proofs.lemmas.Bool.Decides.{nat_tests}
use Rattle.page_base.specs.ListSeen.{ListSeen}
use Rattle.workload_text.proofs.Lines.{begins, took_step, took_sound}
use Rattle.workload_text.proofs.Runnable.{runnable}
use Rattle.workload_text.proofs.Ends.{text_taken, text_long, line_stops, line_unended}
use Rattle.workload_text.proofs.text.parse.Goals as goal

pub returns-then-bytes-gt-MOST_TEXT_BYTES-clause-refused : goal.returns-then-bytes-gt-MOST_TEXT_BYTES-clause-refused
returns-then-bytes-gt-MOST_TEXT_BYTES-clause-refused c = text_long c.args.bytes.now (omega arith)

pub loop-rest-init : goal.loop-rest-init
loop-rest-init c = record {
  read = begins c.args.bytes.now c.new-reading.result c.new-reading.ensures.lines c.new-reading.ensures.said c.new-reading.ensures.numbers;
  sound = c.new-reading.ensures.sound;
  few = omega arith;
}

pub returns-in_default-clause-refused : goal.returns-in_default-clause-refused
returns-in_default-clause-refused c =
    let some : 0 < length c.loop-rest.rest.now = grind (arith, nat_tests) in
    line_unended c.args.bytes.now c.loop-rest.rest.now c.loop-rest.reading c.loop-rest.number (omega arith) some c.in_default.ensures.parts c.loop-rest.invariant.read

pub loop-rest-preserved : goal.loop-rest-preserved
loop-rest-preserved c = record {
  read = took_step c.loop-rest.reading c.take.new.self c.loop-rest.number _ c.in-Some.line.now c.in-Some.behind.now c.loop-rest.rest.now _ refl c.in-Some.ensures.parts c.in-Ok.ensures c.loop-rest.invariant.read;
  sound = took_sound c.loop-rest.reading c.take.new.self c.loop-rest.number _ c.in-Ok.ensures;
  few = omega (arith, c.in-Some.ensures.shorter);
}

pub returns-in-Err-clause-refused : goal.returns-in-Err-clause-refused
returns-in-Err-clause-refused c =
    rw c.at.ensures (line_stops c.args.bytes.now c.in-Some.line.now c.in-Some.behind.now c.loop-rest.rest.now c.in-Err.fault c.loop-rest.reading c.take.new.self c.loop-rest.number (omega arith) c.in-Err.ensures c.in-Some.ensures.parts c.loop-rest.invariant.read)

pub returns-clause-spelt : goal.returns-clause-spelt
returns-clause-spelt c =
    let i = c.loop-rest.invariant.read in
    let none : c.loop-rest.rest.now ≡ [] = nil_from_length c.loop-rest.rest.now (grind (arith, nat_tests)) in
    record {
      texts = i.texts;
      text = text_taken c.args.bytes.now c.loop-rest.rest.now c.loop-rest.reading c.loop-rest.number (omega arith) none i;
      lines_are = i.lines_are ∙ sym c.in_ok-parsed.ensures.lines;
    }

pub returns-clause-runnable : goal.returns-clause-runnable
returns-clause-runnable c = runnable c.args.bytes.now _ (returns-clause-spelt c)

pub returns-clause-numbered : goal.returns-clause-numbered
returns-clause-numbered c =
    let i = c.loop-rest.invariant.read in
    let none : c.loop-rest.rest.now ≡ [] = nil_from_length c.loop-rest.rest.now (grind (arith, nat_tests)) in
    record {
      texts = i.texts;
      text = text_taken c.args.bytes.now c.loop-rest.rest.now c.loop-rest.reading c.loop-rest.number (omega arith) none i;
      numbers_are = ap (λ (l : ListSeen ℕ). l.items) c.in_ok-parsed.ensures.numbers ∙ sym i.numbers;
    }
