use Rattle.std.proofs.Common.{◌≤◌, ◌+◌, ◌*◌, ℕ, [], length, sym, subst, ◌∙◌, arith}
use Rattle.store_trait.specs.Memory.{page_bytes, told_by}
use Rattle.store_trait.specs.WholePages.{length-page_of}
use Rattle.file_store.specs.Shelves.{own_told}
use Rattle.file_store.specs.Folders.{stripe_origin}
use Rattle.file_store.proofs.PutPages.{PutsUpTo, put_own, put_other, put_all, own_page, other_page}
use Rattle.file_store.proofs.shelf.put_pages.Goals as goal
use Rattle.file_store.proofs.Rows.{rows_apart}
use Rattle.file_store.proofs.shelf.put_pages.Goals.{then-stripe_of-stripe, else-stripe_of-stripe}

pub loop-page-preserved : goal.loop-page-preserved
loop-page-preserved c =
    let n = c.args.cut.now.layout.page_size in
    let o = stripe_origin [] c.args.cut.now c.args.stripe in
    let told = told_by o (page_bytes n c.args.bytes.now) in
    let k = c.loop-page.page in
    let old = c.args.file.now.items in
    let now = c.loop-page.file.items in
    let bytes = c.args.bytes.now in
    let row : k * n + n ≤ c.args.cut.now.pages * n = rows_apart k c.args.cut.now.pages n c.loop-page-test.true in
    let far : k * n + n ≤ length old = omega (arith, row, c.requires.file) in
    let near : k * n + n ≤ length bytes = omega (arith, row, c.requires.bytes) in
    elim c.if-stripe_of-stripe.branch [
      | then-stripe_of-stripe w ↦ rw (w.file-is, w.write_at.ensures.items, c.page_size-size.ensures) (put_own n k (own_told o told) old now c.loop-page.invariant (page_bytes n bytes k) (own_page o bytes k c.loop-page-test.true (sym c.stripe_of.ensures.stripe ∙ w.if-stripe_of-stripe.true)) (length-page_of n k bytes near) far)
      | else-stripe_of-stripe w ↦ rw w.file-is (put_other n k (own_told o told) old now c.loop-page.invariant (other_page o told k (λ e. w.if-stripe_of-stripe.false (c.stripe_of.ensures.stripe ∙ e))))
    ]

pub returns : goal.returns
returns c = λ path.
    let n = c.args.cut.now.layout.page_size in
    let o = stripe_origin [] c.args.cut.now c.args.stripe in
    let told = told_by o (page_bytes n c.args.bytes.now) in
    let all = put_all o told c.args.file.now.items c.loop-page.file.items (subst (λ (k : ℕ). PutsUpTo n (own_told o told) k c.args.file.now.items c.loop-page.file.items) (omega arith) c.loop-page.invariant) in
    record { size = all.size; each = all.each; behind = all.behind }
