use Rattle.std.proofs.Common.{◌≡◌, ◌≤◌, ◌-◌, ◌+◌, ℕ, List, length, drop, take, sym, ap, ◌∙◌, arith, length-drop, length-take}
use Rattle.std.proofs.lemmas.List.{drop_all, take_rest}
use Rattle.file_store.specs.Streams.{SourceSeen}
use Rattle.file_store.proofs.Streaming.{read_front}
use Rattle.file_store.proofs.source.MemSourceSource.read.Goals as goal

pub returns-clause-bytes : goal.returns-clause-bytes
returns-clause-bytes c =
    let s = c.self.inside in
    let same : length c.as_slice-2.result.now ≡ length s.contents.items = ap length c.as_slice-2.ensures in
    let count : c.min-count.result ≤ length s.contents.items - s.at = omega (arith, length-drop s.at c.as_slice-2.result.now, length-take (length c.as_slice-2.result.now - s.at) (drop s.at c.as_slice-2.result.now)) in
    let after : c.copy_from_slice.new.self ≡ take c.min-count.result (drop s.at s.contents.items) =
    c.copy_from_slice.ensures.after
    ∙ ap (λ (xs : List ℕ). take c.min-count.result (take (length xs - s.at) (drop s.at xs))) c.as_slice-2.ensures
    ∙ ap (λ (xs : List ℕ). take c.min-count.result xs) (take_rest s.contents.items s.at) in (
      sym (ap (λ (x : SourceSeen). x.left) c.self.view_is) ∙ read_front s.contents.items c.args.buf.now c.copy_from_slice.new.self s.at c.min-count.result count after,
      λ none room. drop_all (s.at + c.min-count.result) s.contents.items (omega (arith, c.requires.room, length-drop s.at c.as_slice-2.result.now, length-take (length c.as_slice-2.result.now - s.at) (drop s.at c.as_slice-2.result.now))),
    )
