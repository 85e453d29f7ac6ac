use Rattle.std.proofs.Common.{◌+◌, ◌-◌, ◌≤◌, ◌++◌, ℕ, List, length, take, drop, subst, ap, ◌∙◌, arith, length-drop, length-take}
use Rattle.std.proofs.lemmas.List.{take_rest}
use Rattle.std.specs.Io.KnownBytes.{Appends}
use Rattle.file_store.proofs.Streaming.{appends_more, take_take_drop}
use Rattle.file_store.proofs.sink.StdSinkSink.write_all.Goals as goal

pub loop-at-preserved : goal.loop-at-preserved
loop-at-preserved g c =
    let bytes = c.args.bytes.now in
    let at = c.loop-at.at in
    let n = c.write_some-taken.result in
    let within : at + n ≤ length bytes = omega (arith, length-drop at bytes, length-take (length bytes - at) (drop at bytes), c.write_some-taken.ensures.within) in
    let P : List ℕ → Type 0 = λ (xs : List ℕ). Appends (g.W.Write.contents c.args.self.now.inner) (g.W.Write.contents c.write_some-taken.new.writer) xs in
    record {
      within = within;
      faults = c.loop-at.invariant.faults;
      taken = subst P (ap (λ (xs : List ℕ). take at bytes ++ take n xs) (take_rest bytes at) ∙ take_take_drop at n bytes within)
          (appends_more _ _ _ _ _ c.loop-at.invariant.taken c.write_some-taken.ensures.bytes);
    }
