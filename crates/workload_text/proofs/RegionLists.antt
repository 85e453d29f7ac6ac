use Rattle.std.proofs.Common.{◌≡◌, ℕ, zero, suc, ◌<◌, List, [], ◌∷◌, length, map, get_or, refl, arith}
use Rattle.workload_text.specs.declared.workload.MapLine.{MapLine}
use Rattle.workload_text.specs.Grammar.{size_at, writable_at}
use Rattle.workload_text.specs.View.{region}

pub size_at-read : (ms : List MapLine) (i : ℕ) (d : MapLine) → i < length ms → (get_or ms i d).length ≡ size_at (map region ms) i
size_at-read [] i d h = absurd (omega arith)
size_at-read (x ∷ ms) zero d h = refl
size_at-read (x ∷ ms) (suc i) d h = size_at-read ms i d (omega arith)

pub writable_at-read : (ms : List MapLine) (i : ℕ) (d : MapLine) → i < length ms → (get_or ms i d).writable ≡ writable_at (map region ms) i
writable_at-read [] i d h = absurd (omega arith)
writable_at-read (x ∷ ms) zero d h = refl
writable_at-read (x ∷ ms) (suc i) d h = writable_at-read ms i d (omega arith)
