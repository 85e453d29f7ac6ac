use Rattle.std.proofs.Common.{◌∙◌, ℕ, sym, arith}
use Rattle.std.proofs.lemmas.Option.{none-some}
use Rattle.call_words.proofs.Layouts.{no_fault, number_or, page_or}
use Rattle.call_words.proofs.settings.settled.Goals as goal

pub unreachable-requires : goal.unreachable-requires
unreachable-requires c =
    let a = c.args.asked.now in
    let p : ℕ = c.unwrap_or-page_size.result in
    let f : ℕ = c.unwrap_or-frames.result in
    let s : ℕ = c.unwrap_or-stripes.result in
    let page = page_or a.page_size c.requires.page_size in
    let frames = number_or 1 1048576 1024 a.frames c.requires.frames (omega arith) (omega arith) in
    let stripes = number_or 1 64 c.min.result a.stripes c.requires.stripes (omega (arith, c.min.ensures, c.unwrap_or-frames.ensures, frames.0)) (omega (arith, c.min.ensures)) in
    none-some _ (sym (no_fault p s f (rw c.unwrap_or-page_size.ensures page) (omega (arith, c.unwrap_or-frames.ensures, frames.0)) (omega (arith, c.unwrap_or-frames.ensures, frames.1))
    (rw (c.from.ensures, c.from-2.ensures) at c.if-from-gt-MOST_BUFFER_BYTES.false) (omega (arith, c.unwrap_or-stripes.ensures, stripes.0)) (omega (arith, c.unwrap_or-stripes.ensures, stripes.1)) c.if-stripes-frames.false) ∙ c.in-Err.ensures.refused)
