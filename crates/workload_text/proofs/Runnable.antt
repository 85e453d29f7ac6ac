-- The lines of an accepted text can be run.
use Rattle.std.proofs.Common.{◌≡◌, ℕ, zero, suc, true, ◌&&◌, nat_le, ◌<◌, ◌≤◌, ◌+◌, List, [], ◌∷◌, ◌++◌, length, refl, sym, ap, subst, ◌∙◌, arith, append_assoc, length-append}
use Rattle.std.proofs.lemmas.Bool.{leb-true, and_parts}
use Rattle.std.specs.List.{list_all}
use Rattle.workload_text.specs.Line.{Line, TextLine, says, silent, map_line, script_line, load_line, store_line, prefetch_line, flush_line, unmap_line}
use Rattle.workload_text.specs.Grammar.{Said, Region, nothing, after_text, name_at, size_at, writable_at, is_name, is_name_byte, MayReach, MayStoreBytes, MayName, AllAllowed, lines_in, Spells}
use Rattle.workload_text.proofs.Names.{region_of-below}
use Rattle.workload_text.specs.Accepted.{regions_of, script_count, command_count, loaded_bytes, LiesInside, HintsInside, StoresInside, AllFit, IsRunnable}

-- ---- regions that more may follow

size_at-front : (gs more : List Region) (r : ℕ) → r < length gs → size_at (gs ++ more) r ≡ size_at gs r
size_at-front [] more r h = absurd (omega arith)
size_at-front (g ∷ gs) more zero h = refl
size_at-front (g ∷ gs) more (suc r) h = size_at-front gs more r (omega arith)

writable_at-front : (gs more : List Region) (r : ℕ) → r < length gs → writable_at (gs ++ more) r ≡ writable_at gs r
writable_at-front [] more r h = absurd (omega arith)
writable_at-front (g ∷ gs) more zero h = refl
writable_at-front (g ∷ gs) more (suc r) h = writable_at-front gs more r (omega arith)

-- ---- each line

reach_there : (s : Said) (more gs : List Region) (r off len : ℕ) → gs ≡ s.regions ++ more → MayReach s r off len → HintsInside gs r off len
reach_there s more gs r off len e h =
    let there = region_of-below s (name_at s.regions r) r h.first in
    let size = ap (λ g. size_at g r) e ∙ size_at-front s.regions more r (omega (arith, there)) in
    record {
      known = let n = ap length e ∙ length-append s.regions more in omega (arith, there, n);
      inside = let i = h.inside in omega (arith, size, i);
    }

reach_fits : (s : Said) (more gs : List Region) (r off len : ℕ) → gs ≡ s.regions ++ more → MayReach s r off len → len ≤ 65536 → LiesInside gs r off len
reach_fits s more gs r off len e h short =
    let k = reach_there s more gs r off len e h in
    record { known = k.known; inside = k.inside; short = short }

store_fits : (s : Said) (more gs : List Region) (r off : ℕ) (bytes : List ℕ) → gs ≡ s.regions ++ more → MayStoreBytes s r off bytes → StoresInside gs r off bytes
store_fits s more gs r off bytes e h =
    let there = region_of-below s (name_at s.regions r) r h.reach.first in
    record {
      range = reach_fits s more gs r off (length bytes) e h.reach h.short;
      writable = ap (λ g. writable_at g r) e ∙ writable_at-front s.regions more r (omega (arith, there)) ∙ h.writable;
      some = h.some;
      bytes_all = h.bytes_all;
    }

unmap_fits : (s : Said) (more gs : List Region) (r : ℕ) → gs ≡ s.regions ++ more → MayName s r → r < length gs
unmap_fits s more gs r e h =
    let there = region_of-below s (name_at s.regions r) r h in
    let n = ap length e ∙ length-append s.regions more in
    omega (arith, there, n)

name_fits : (name : List ℕ) → is_name name ≡ true → length name ≤ 32
name_fits name named = leb-true (length name) 32 (and_parts (nat_le (length name) 32) (list_all is_name_byte name) (and_parts (nat_le 1 (length name)) (nat_le (length name) 32 && list_all is_name_byte name) named).1).0

all_fit : (s : Said) (ts : List TextLine) (gs : List Region) → gs ≡ s.regions ++ regions_of (lines_in ts) → AllAllowed s ts → AllFit gs (lines_in ts)
all_fit s [] gs e h = tt
all_fit s (silent text ∷ ts) gs e h = all_fit s ts gs e h.1
all_fit s (says (map_line name backing size w) ∷ ts) gs e h =
    let g : Region = record { name = name; size = size; writable = w } in
    (record { least = h.0.least; most = h.0.most }, all_fit (after_text s (says (map_line name backing size w))) ts gs (e ∙ sym (append_assoc s.regions (g ∷ []) (regions_of (lines_in ts)))) h.1)
all_fit s (says (script_line name) ∷ ts) gs e h = (name_fits name h.0.named, all_fit (after_text s (says (script_line name))) ts gs e h.1)
all_fit s (says (load_line r off len) ∷ ts) gs e h = (reach_fits s (regions_of (lines_in ts)) gs r off len e h.0.reach h.0.short, all_fit (after_text s (says (load_line r off len))) ts gs e h.1)
all_fit s (says (store_line r off bytes) ∷ ts) gs e h = (store_fits s (regions_of (lines_in ts)) gs r off bytes e h.0, all_fit (after_text s (says (store_line r off bytes))) ts gs e h.1)
all_fit s (says (prefetch_line r off len) ∷ ts) gs e h = (reach_there s (regions_of (lines_in ts)) gs r off len e h.0.reach, all_fit (after_text s (says (prefetch_line r off len))) ts gs e h.1)
all_fit s (says flush_line ∷ ts) gs e h = (tt, all_fit (after_text s (says flush_line)) ts gs e h.1)
all_fit s (says (unmap_line r) ∷ ts) gs e h = (unmap_fits s (regions_of (lines_in ts)) gs r e h.0.first, all_fit (after_text s (says (unmap_line r))) ts gs e h.1)

-- ---- the limits

record Limits (regions scripts commands loaded : ℕ) : Type 0 where
  few_regions : regions ≤ 64
  few_scripts : scripts ≤ 64
  few_commands : commands ≤ 262144
  few_bytes : loaded ≤ 33554432

abbrev LimitsOf : Said → Type 0
LimitsOf s = Limits (length s.regions) (length s.scripts) s.commands s.loaded

abbrev LimitsWith : Said → List TextLine → Type 0
LimitsWith s ts = Limits (length s.regions + length (regions_of (lines_in ts))) (length s.scripts + script_count (lines_in ts)) (s.commands + command_count (lines_in ts)) (s.loaded + loaded_bytes (lines_in ts))

-- one command more, and what it loads
one_more : (s : Said) (loads : ℕ) → LimitsOf s → s.commands < 262144 → s.loaded + loads ≤ 33554432 → Limits (length s.regions) (length s.scripts) (s.commands + 1) (s.loaded + loads)
one_more s loads m few room = record { few_regions = m.few_regions; few_scripts = m.few_scripts; few_commands = omega (arith, few); few_bytes = room }

none_more : (s : Said) → LimitsOf s → s.commands < 262144 → Limits (length s.regions) (length s.scripts) (s.commands + 1) s.loaded
none_more s m few = record { few_regions = m.few_regions; few_scripts = m.few_scripts; few_commands = omega (arith, few); few_bytes = m.few_bytes }

with_one : (s : Said) (regions scripts commands loaded loads : ℕ) → Limits regions scripts (s.commands + 1 + commands) (s.loaded + loads + loaded) → Limits regions scripts (s.commands + (1 + commands)) (s.loaded + (loads + loaded))
with_one s regions scripts commands loaded loads k = record { few_regions = k.few_regions; few_scripts = k.few_scripts; few_commands = omega (arith, k); few_bytes = omega (arith, k) }

with_none : (s : Said) (regions scripts commands loaded : ℕ) → Limits regions scripts (s.commands + 1 + commands) (s.loaded + loaded) → Limits regions scripts (s.commands + (1 + commands)) (s.loaded + loaded)
with_none s regions scripts commands loaded k = record { few_regions = k.few_regions; few_scripts = k.few_scripts; few_commands = omega (arith, k); few_bytes = k.few_bytes }

limits_hold : (s : Said) (ts : List TextLine) → LimitsOf s → AllAllowed s ts → LimitsWith s ts
limits_hold s [] m h = record { few_regions = omega arith; few_scripts = omega arith; few_commands = omega arith; few_bytes = omega arith }
limits_hold s (silent text ∷ ts) m h = limits_hold s ts m h.1
limits_hold s (says (map_line name backing size w) ∷ ts) m h =
    let few = h.0.few in
    let g : Region = record { name = name; size = size; writable = w } in
    let n = length-append s.regions (g ∷ []) in
    let k = limits_hold (after_text s (says (map_line name backing size w))) ts (record { few_regions = omega (arith, few, n); few_scripts = m.few_scripts; few_commands = m.few_commands; few_bytes = m.few_bytes }) h.1 in
    record { few_regions = omega (arith, k, n); few_scripts = k.few_scripts; few_commands = k.few_commands; few_bytes = k.few_bytes }
limits_hold s (says (script_line name) ∷ ts) m h =
    let few = h.0.few in
    let n = length-append s.scripts (name ∷ []) in
    let k = limits_hold (after_text s (says (script_line name))) ts (record { few_regions = m.few_regions; few_scripts = omega (arith, few, n); few_commands = m.few_commands; few_bytes = m.few_bytes }) h.1 in
    record { few_regions = k.few_regions; few_scripts = omega (arith, k, n); few_commands = k.few_commands; few_bytes = k.few_bytes }
limits_hold s (says (load_line r off len) ∷ ts) m h =
    with_one s _ _ (command_count (lines_in ts)) (loaded_bytes (lines_in ts)) len (limits_hold (after_text s (says (load_line r off len))) ts (one_more s len m h.0.reach.command.few h.0.room) h.1)
limits_hold s (says (store_line r off bytes) ∷ ts) m h =
    with_none s _ _ (command_count (lines_in ts)) (loaded_bytes (lines_in ts)) (limits_hold (after_text s (says (store_line r off bytes))) ts (none_more s m h.0.reach.command.few) h.1)
limits_hold s (says (prefetch_line r off len) ∷ ts) m h =
    with_none s _ _ (command_count (lines_in ts)) (loaded_bytes (lines_in ts)) (limits_hold (after_text s (says (prefetch_line r off len))) ts (none_more s m h.0.reach.command.few) h.1)
limits_hold s (says flush_line ∷ ts) m h =
    with_none s _ _ (command_count (lines_in ts)) (loaded_bytes (lines_in ts)) (limits_hold (after_text s (says flush_line)) ts (none_more s m h.0.few) h.1)
limits_hold s (says (unmap_line r) ∷ ts) m h =
    with_none s _ _ (command_count (lines_in ts)) (loaded_bytes (lines_in ts)) (limits_hold (after_text s (says (unmap_line r))) ts (none_more s m h.0.command.few) h.1)

text_runnable : (ts : List TextLine) → AllAllowed nothing ts → IsRunnable (lines_in ts)
text_runnable ts h =
    let k = limits_hold nothing ts (record { few_regions = omega arith; few_scripts = omega arith; few_commands = omega arith; few_bytes = omega arith }) h in
    record {
      fit = all_fit nothing ts (regions_of (lines_in ts)) refl h;
      regions = omega (arith, k);
      scripts = omega (arith, k);
      commands = omega (arith, k);
      loaded = omega (arith, k);
    }

pub runnable : (bytes : List ℕ) (lines : List Line) → Spells bytes lines → IsRunnable lines
runnable bytes lines h = subst IsRunnable h.lines_are (text_runnable h.texts h.text.allowed)
