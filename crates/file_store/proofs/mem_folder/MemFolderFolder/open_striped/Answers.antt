use Rattle.std.proofs.Common.{◌≡◌, ◌*◌, ℕ, List, take, ap, ◌∙◌}
use Rattle.file_store.specs.MemFiles.{files_in}
use Rattle.file_store.specs.InsideMemFolders.{out_in}
use Rattle.file_store.specs.Parts.{PartSeen}
use Rattle.file_store.specs.InsideFolders.{stripe_seen}
use Rattle.file_store.specs.InsideMemSeen.{mem_seen}
use Rattle.file_store.proofs.FileLemmas.{stripes_fit, stripe_opened}
use Rattle.file_store.proofs.mem_folder.MemFolderFolder.open_striped.Goals as goal

pub invariant_of-self-2-clause-fit : goal.invariant_of-self-2-clause-fit
invariant_of-self-2-clause-fit c =
    let s = c.args.self.now in
    let need : c.from.result * c.from-2.result ≡ c.args.cut.now.pages * c.args.cut.now.layout.page_size = ap (λ (x : ℕ). x * c.from-2.result) c.from.ensures ∙ ap (λ (y : ℕ). c.args.cut.now.pages * y) (c.from-2.ensures ∙ c.page_size.ensures) in
    let there = rw (c.as_slice-2.ensures.value, c.as_slice-3.ensures) at c.in-Some.ensures.some in
    rw (c.reserve_exact-2.ensures.items, c.put_outs.ensures, c.reserve_exact.ensures.items, c.in-Ok-stripe_outs.ensures, c.as_slice-5.ensures)
    (stripes_fit (files_in s.files.items) (out_in s.out.items) c.args.path.now.items c.args.cut.now c.in-Some.bytes.now s.fit there (rw need at c.if-have-need.false))

pub returns-clause-parts : goal.returns-clause-parts
returns-clause-parts c = λ s part got.
    let need : c.from.result * c.from-2.result ≡ c.args.cut.now.pages * c.args.cut.now.layout.page_size = ap (λ (x : ℕ). x * c.from-2.result) c.from.ensures ∙ ap (λ (y : ℕ). c.args.cut.now.pages * y) (c.from-2.ensures ∙ c.page_size.ensures) in
    let there = rw (c.as_slice-2.ensures.value, c.as_slice-3.ensures) at c.in-Some.ensures.some in
    let bytes = c.in-Some.bytes.now in
    let front : List ℕ = take (c.from.result * c.from-2.result) bytes in
    stripe_opened (record { files = files_in c.args.self.now.files.items; out = out_in c.args.self.now.out.items }) c.args.path.now.items c.args.cut.now s bytes front (mem_seen part)
    (c.in-Ok.ensures.parts s part got ∙ ap (λ (p : List ℕ). stripe_seen p c.args.cut.now s front) c.as_slice-4.ensures) there (ap (λ (n : ℕ). take n bytes) need)

pub returns-clause-made : goal.returns-clause-made
returns-clause-made c = λ s part got. ap (λ (x : PartSeen). x.made) (c.in-Ok.ensures.parts s part got)
