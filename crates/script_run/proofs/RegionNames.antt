-- The names of a workload's regions.
use Rattle.std.proofs.Common.{◌≡◌, ℕ, zero, suc, ◌<◌, ◌≤◌, List, [], ◌∷◌, length, map, get_or, sym, ap, arith}
use Rattle.workload_text.specs.Grammar.{Region, name_at}
use Rattle.workload_text.specs.declared.workload.MapLine.{MapLine}
use Rattle.script_run.specs.InsideRooms.{longest_name}
use Rattle.workload_text.specs.View.{region}

pub name_is : (ms : List MapLine) (r : ℕ) (m : MapLine) → r < length ms → m ≡ get_or ms r m → name_at (map region ms) r ≡ m.name.items
name_is [] r m below is = absurd (omega (arith, below))
name_is (x ∷ ms) zero m below is = ap (λ (y : MapLine). y.name.items) (sym is)
name_is (x ∷ ms) (suc r) m below is = name_is ms r m (omega (arith, below)) is

pub name_short : (gs : List Region) (r : ℕ) → length (name_at gs r) ≤ longest_name gs
name_short [] r = omega arith
name_short (g ∷ gs) zero = omega arith
name_short (g ∷ gs) (suc r) = omega (arith, name_short gs r)
