use Rattle.std.proofs.Common.{◌≡◌, ◌≤◌, ◌<◌, inl, inr, ℕ, List, ◌++◌, length, ap, ◌∙◌, sym, false, nat_eq, arith, subst, codes}
use Rattle.std.proofs.lemmas.Bool.{eqb-false}
use Rattle.sparse_store.specs.Metas.{IsBadMeta}
use Rattle.sparse_store.specs.InsideMetas.{StopsAt, LabelledNumber, NoLabelledNumber}
use Rattle.sparse_store.proofs.Metas.{wrong_size, wrong_file, wrong_end, too_long, line_length, few_digits}
use Rattle.sparse_store.proofs.meta.read_meta.Goals as goal

labelled : (bytes spelt : List ℕ) (value : ℕ) (rest label : List ℕ) → label ≡ spelt → LabelledNumber bytes label value rest → LabelledNumber bytes spelt value rest
labelled bytes spelt value rest label e l = subst (λ h. LabelledNumber bytes h value rest) e l

unlabelled : (bytes spelt : List ℕ) (n : ℕ) (label : List ℕ) → label ≡ spelt → NoLabelledNumber bytes label n → NoLabelledNumber bytes spelt n
unlabelled bytes spelt n label e l = subst (λ h. NoLabelledNumber bytes h n) e l

some : (n : ℕ) → nat_eq n 0 ≡ false → 0 < n
some n e = let other = eqb-false n 0 e in omega (arith, other)

few : (rest label : List ℕ) (n : ℕ) → NoLabelledNumber rest label n → n ≤ length label
few rest label n (inl s) = let short = s.short in omega (arith, short)
few rest label n (inr s) = omega (arith, s.3)

pub returns-in-Err-clause-bad : goal.returns-in-Err-clause-bad
returns-in-Err-clause-bad c = subst (IsBadMeta c.args.bytes.now) (omega arith) (wrong_size c.args.bytes.now c.in-Err.n (unlabelled c.args.bytes.now (codes "umap-sparse 1\nsize ") c.in-Err.n c.as_slice.result.now c.as_slice.ensures c.in-Err.ensures.err))

pub bad-requires-in-Err-read_labelled-clause-small : goal.bad-requires-in-Err-read_labelled-clause-small
bad-requires-in-Err-read_labelled-clause-small c =
    let bytes = c.args.bytes.now in
    let s = c.in-Ok.size in
    let size = labelled bytes (codes "umap-sparse 1\nsize ") s.value s.rest.now c.as_slice.result.now c.as_slice.ensures c.in-Ok.ensures.ok in
    let n = c.in-Err-read_labelled.n in
    let none = unlabelled s.rest.now (codes "\nfile ") n c.as_slice-2.result.now c.as_slice-2.ensures c.in-Err-read_labelled.ensures.err in
    omega (arith, line_length bytes (codes "umap-sparse 1\nsize ") s.value s.rest.now size, few_digits bytes (codes "umap-sparse 1\nsize ") s.value s.rest.now size, few s.rest.now (codes "\nfile ") n none)

pub returns-in-Err-read_labelled-clause-bad : goal.returns-in-Err-read_labelled-clause-bad
returns-in-Err-read_labelled-clause-bad c =
    let bytes = c.args.bytes.now in
    let s = c.in-Ok.size in
    let size = labelled bytes (codes "umap-sparse 1\nsize ") s.value s.rest.now c.as_slice.result.now c.as_slice.ensures c.in-Ok.ensures.ok in
    let n = c.in-Err-read_labelled.n in
    let none = unlabelled s.rest.now (codes "\nfile ") n c.as_slice-2.result.now c.as_slice-2.ensures c.in-Err-read_labelled.ensures.err in
    subst (IsBadMeta bytes) (omega (arith, line_length bytes (codes "umap-sparse 1\nsize ") s.value s.rest.now size)) (wrong_file bytes s.value s.rest.now size n none)

pub bad-requires-in-Err-behind-clause-small : goal.bad-requires-in-Err-behind-clause-small
bad-requires-in-Err-behind-clause-small c =
    let bytes = c.args.bytes.now in
    let s = c.in-Ok.size in
    let f = c.in-Ok-read_labelled.file in
    let size = labelled bytes (codes "umap-sparse 1\nsize ") s.value s.rest.now c.as_slice.result.now c.as_slice.ensures c.in-Ok.ensures.ok in
    let file = labelled s.rest.now (codes "\nfile ") f.value f.rest.now c.as_slice-2.result.now c.as_slice-2.ensures c.in-Ok-read_labelled.ensures.ok in
    let short = c.in-Err-behind.ensures.err.short in
    omega (arith, line_length bytes (codes "umap-sparse 1\nsize ") s.value s.rest.now size, few_digits bytes (codes "umap-sparse 1\nsize ") s.value s.rest.now size, line_length s.rest.now (codes "\nfile ") f.value f.rest.now file, few_digits s.rest.now (codes "\nfile ") f.value f.rest.now file, short, ap length c.as_slice-3.ensures)

pub returns-in-Err-behind-clause-bad : goal.returns-in-Err-behind-clause-bad
returns-in-Err-behind-clause-bad c =
    let bytes = c.args.bytes.now in
    let s = c.in-Ok.size in
    let f = c.in-Ok-read_labelled.file in
    let n = c.in-Err-behind.n in
    let size = labelled bytes (codes "umap-sparse 1\nsize ") s.value s.rest.now c.as_slice.result.now c.as_slice.ensures c.in-Ok.ensures.ok in
    let file = labelled s.rest.now (codes "\nfile ") f.value f.rest.now c.as_slice-2.result.now c.as_slice-2.ensures c.in-Ok-read_labelled.ensures.ok in
    let stops : StopsAt f.rest.now (codes "\n") n = subst (λ h. StopsAt f.rest.now h n) c.as_slice-3.ensures c.in-Err-behind.ensures.err in
    subst (IsBadMeta bytes) (omega (arith, line_length bytes (codes "umap-sparse 1\nsize ") s.value s.rest.now size, line_length s.rest.now (codes "\nfile ") f.value f.rest.now file))
    (wrong_end bytes s.value s.rest.now size f.value f.rest.now file n stops)

pub bad-requires-then-not-is_empty-clause-small : goal.bad-requires-then-not-is_empty-clause-small
bad-requires-then-not-is_empty-clause-small c =
    let bytes = c.args.bytes.now in
    let s = c.in-Ok.size in
    let f = c.in-Ok-read_labelled.file in
    let rest = c.in-Ok-behind.rest.now in
    let size = labelled bytes (codes "umap-sparse 1\nsize ") s.value s.rest.now c.as_slice.result.now c.as_slice.ensures c.in-Ok.ensures.ok in
    let file = labelled s.rest.now (codes "\nfile ") f.value f.rest.now c.as_slice-2.result.now c.as_slice-2.ensures c.in-Ok-read_labelled.ensures.ok in
    let feed : f.rest.now ≡ codes "\n" ++ rest = c.in-Ok-behind.ensures.ok ∙ ap (λ l. l ++ rest) c.as_slice-3.ensures in
    omega (arith, line_length bytes (codes "umap-sparse 1\nsize ") s.value s.rest.now size, few_digits bytes (codes "umap-sparse 1\nsize ") s.value s.rest.now size, line_length s.rest.now (codes "\nfile ") f.value f.rest.now file, few_digits s.rest.now (codes "\nfile ") f.value f.rest.now file, ap length feed)

pub returns-then-not-is_empty-clause-bad : goal.returns-then-not-is_empty-clause-bad
returns-then-not-is_empty-clause-bad c =
    let bytes = c.args.bytes.now in
    let s = c.in-Ok.size in
    let f = c.in-Ok-read_labelled.file in
    let rest = c.in-Ok-behind.rest.now in
    let size = labelled bytes (codes "umap-sparse 1\nsize ") s.value s.rest.now c.as_slice.result.now c.as_slice.ensures c.in-Ok.ensures.ok in
    let file = labelled s.rest.now (codes "\nfile ") f.value f.rest.now c.as_slice-2.result.now c.as_slice-2.ensures c.in-Ok-read_labelled.ensures.ok in
    let feed : f.rest.now ≡ codes "\n" ++ rest = c.in-Ok-behind.ensures.ok ∙ ap (λ l. l ++ rest) c.as_slice-3.ensures in
    subst (IsBadMeta bytes) (omega (arith, line_length bytes (codes "umap-sparse 1\nsize ") s.value s.rest.now size, line_length s.rest.now (codes "\nfile ") f.value f.rest.now file, ap length feed))
    (too_long bytes s.value s.rest.now size f.value f.rest.now file rest feed (some (length rest) (sym c.is_empty.ensures ∙ c.if-not-is_empty.true)))
