use Rattle.std.proofs.Common.{◌≡◌, ℕ, ◌+◌, true, not, ◌&&◌, cond, eqb, Option, Some, None, refl, subst, ◌∙◌, lit<}
use Rattle.std.specs.Int.RustNames.{count_ones}
use Rattle.std.proofs.lemmas.Nat.{ones_cat}
use Rattle.std.proofs.lemmas.Option.{none-some}
use Rattle.page_base.specs.declared.faults.LayoutFault.{LayoutFault}
use Rattle.page_base.specs.declared.faults.LayoutFault.TheVariants.{BadPageSize}
use Rattle.script_run.proofs.settings.Settings.defaults.Goals as goal

few_ones : count_ones 1 + count_ones 0 ≡ 1
unfolding count_ones
few_ones = refl

one_bit : count_ones 4096 ≡ 1
one_bit = ones_cat 12 1 0 (lit< tt) ∙ few_ones

pub unreachable-requires : goal.unreachable-requires
unreachable-requires c =
    let fault : LayoutFault = c.in-Err.field-0 in
    let P : ℕ → Type 0 = λ n. ◌≡◌ {A = Option LayoutFault} (cond (not (eqb n 1 && true)) (Some BadPageSize) None) (Some fault) in
    none-some fault (subst P one_bit c.in-Err.ensures.refused)
