-- What is built of a workload, part by part.
use Rattle.std.proofs.Common.{◌≡◌, ◌&&◌, Bool, true, false, List, [], ◌∷◌, ◌++◌, map, refl, ap, ◌∙◌}
use Rattle.std.specs.List.{list_all, flat_map}
use Rattle.workload_text.specs.Line.{Line}
use Rattle.workload_text.specs.View.{region_line, command_line, script_lines}
use Rattle.workload_text.specs.Built.{is_built_line, is_built, is_memory_line, is_in_memory}
use Rattle.workload_text.specs.declared.workload.MapLine.{MapLine}
use Rattle.workload_text.specs.declared.workload.Script.{Script}
use Rattle.workload_text.specs.declared.workload.Command.{Command}
use Rattle.workload_text.specs.declared.workload.Command.TheVariants.{Load, Store, Prefetch, Flush, Unmap}

and_twice : (a b c : Bool) → a && (b && c) ≡ (a && b) && c
and_twice true b c = refl
and_twice false b c = refl

all_mapped : {X : Type 0} (f : X → Line) (xs : List X) → list_all is_built_line (map f xs) ≡ list_all (λ x. is_built_line (f x)) xs
all_mapped f [] = refl
all_mapped f (x ∷ xs) = ap (λ b. is_built_line (f x) && b) (all_mapped f xs)

all_joined : (a b : List Line) → is_built (a ++ b) ≡ is_built a && is_built b
all_joined [] b = refl
all_joined (l ∷ a) b = ap (λ t. is_built_line l && t) (all_joined a b) ∙ and_twice (is_built_line l) (is_built a) (is_built b)

abbrev pub regions_built : List MapLine → Bool
regions_built ms = list_all (λ (m : MapLine). is_built_line (region_line m)) ms

abbrev pub scripts_built : List Script → Bool
scripts_built ss = list_all (λ (s : Script). list_all (λ (c : Command). is_built_line (command_line c)) s.commands.items) ss

scripts_are : (ss : List Script) → is_built (flat_map script_lines ss) ≡ scripts_built ss
scripts_are [] = refl
scripts_are (s ∷ ss) =
    all_joined (map command_line s.commands.items) (flat_map script_lines ss)
    ∙ ap (λ b. b && is_built (flat_map script_lines ss)) (all_mapped command_line s.commands.items)
    ∙ ap (λ b. list_all (λ (c : Command). is_built_line (command_line c)) s.commands.items && b) (scripts_are ss)

pub workload_built : (ms : List MapLine) (ss : List Script) → is_built (map region_line ms ++ flat_map script_lines ss) ≡ regions_built ms && scripts_built ss
workload_built ms ss =
    all_joined (map region_line ms) (flat_map script_lines ss)
    ∙ ap (λ b. b && is_built (flat_map script_lines ss)) (all_mapped region_line ms)
    ∙ ap (λ b. regions_built ms && b) (scripts_are ss)

-- ---- regions in memory

abbrev pub regions_in_memory : List MapLine → Bool
regions_in_memory ms = list_all (λ (m : MapLine). is_memory_line (region_line m)) ms

commands_in_memory : (cs : List Command) (ls : List Line) → is_in_memory (map command_line cs ++ ls) ≡ is_in_memory ls
commands_in_memory [] ls = refl
commands_in_memory (Load r off len ∷ cs) ls = commands_in_memory cs ls
commands_in_memory (Store r off bytes ∷ cs) ls = commands_in_memory cs ls
commands_in_memory (Prefetch r off len ∷ cs) ls = commands_in_memory cs ls
commands_in_memory (Flush ∷ cs) ls = commands_in_memory cs ls
commands_in_memory (Unmap r ∷ cs) ls = commands_in_memory cs ls

scripts_in_memory : (ss : List Script) → is_in_memory (flat_map script_lines ss) ≡ true
scripts_in_memory [] = refl
scripts_in_memory (s ∷ ss) = commands_in_memory s.commands.items (flat_map script_lines ss) ∙ scripts_in_memory ss

pub workload_in_memory : (ms : List MapLine) (ss : List Script) → is_in_memory (map region_line ms ++ flat_map script_lines ss) ≡ regions_in_memory ms
workload_in_memory [] ss = scripts_in_memory ss
workload_in_memory (m ∷ ms) ss = ap (λ b. is_memory_line (region_line m) && b) (workload_in_memory ms ss)
