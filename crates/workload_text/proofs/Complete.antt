-- What is spelt and allowed is read: one form of line at a time, then all lines.
use Rattle.std.proofs.Common.{◌≡◌, ◌≢◌, ℕ, ◌<◌, ◌+◌, ◌^◌, Bool, true, false, ◌&&◌, ◌==◌, nat_le, List, [], ◌∷◌, ◌++◌, length, get_or, Some, Result, Ok, refl, sym, ap, ◌∙◌, arith}
use Rattle.std.specs.List.{list_all, join_with_byte, slice_split}
use Rattle.std.specs.Fmt.{decimal}
use Rattle.hex.specs.Hex.{encode_lower}
use Rattle.std.proofs.lemmas.Bool.{and_parts, and_from, leb-true, le-leb, lt-ltb, ne_eqb}
use Rattle.std.proofs.lemmas.Fmt.{decimal_nonempty}
use Rattle.page_base.specs.Backings.{in_memory, in_file, in_files}
use Rattle.workload_text.specs.Line.{Line, TextLine, says, silent, map_line, script_line, load_line, store_line, prefetch_line, flush_line, unmap_line}
use Rattle.workload_text.specs.Grammar.{Said, nothing, after_text, is_name, is_name_byte, is_silent, name_at, size_at, mode_text, fields, line_text, shown, spelled, MayMap, MayBegin, MayCommand, MayReach, MayLoad, MayStoreBytes, MayPrefetch, MayUnmapRegion, Allowed, AllowedText, AllAllowed, IsText}
use Rattle.workload_text.specs.Reading.{mode_of, is_empty, read_memory, read_file, read_sparse, read_map, read_script, read_load, read_store, read_prefetch, read_flush, read_unmap, read_word, read_fields, read_line, read_text_line, is_space, is_line_feed, is_hex_digit, ◌>>=◌}
use Rattle.workload_text.specs.Refusals.{RefusedAt, read_texts, read_text, before_all}
use Rattle.workload_text.specs.declared.refusal.TextKind.{TextKind}
use Rattle.workload_text.proofs.Numbers.{number_of-decimal}
use Rattle.workload_text.proofs.Hex.{bytes_of-encode_lower, length-encode_lower, digits-encode_lower}
use Rattle.workload_text.proofs.Plain.{Plain, AllPlain, plain_name, plain_decimal, plain_field, plain_path, path_some, slice_split-fields, slice_split-line, slice_split-silent}
use Rattle.workload_text.proofs.Names.{AllNamed, region_named, still_named, among_false}
use Rattle.workload_text.proofs.Sound.{ok_same}
use Rattle.workload_text.proofs.Lines.{read_texts-Ok, parts_some, read_text-short}

is_empty-false : {A : Type 0} (xs : List A) → 0 < length xs → is_empty xs ≡ false
is_empty-false xs h = ne_eqb (length xs) 0 (λ e. omega (arith, e, h))

some_length : {A : Type 0} (xs : List A) → xs ≢ [] → 0 < length xs
some_length [] h = absurd (h refl)
some_length (x ∷ xs) h = omega arith

name_some : (name : List ℕ) → is_name name ≡ true → is_empty name ≡ false
name_some name h = is_empty-false name (leb-true 1 (length name) (and_parts (nat_le 1 (length name)) (nat_le (length name) 32 && list_all is_name_byte name) h).0)

decimal_some : (n : ℕ) → n < 2 ^ 64 → is_empty (decimal n) ≡ false
decimal_some n small = is_empty-false (decimal n) (decimal_nonempty n small)

pub mode_of-mode_text : (w : Bool) → mode_of (mode_text w) ≡ Some w
unfolding mode_of
mode_of-mode_text true = refl
mode_of-mode_text false = refl

mode_some : (w : Bool) → is_empty (mode_text w) ≡ false
mode_some true = refl
mode_some false = refl

plain_mode : (w : Bool) → Plain (mode_text w)
plain_mode true = refl
plain_mode false = refl

-- ---- the forms

memory_complete : (s : Said) (name : List ℕ) (size : ℕ) (w : Bool) → MayMap s name in_memory size → read_memory s name (decimal size) (mode_text w) ≡ Ok (map_line name in_memory size w)
unfolding read_memory
memory_complete s name size w h =
    let above : is_empty s.scripts ≡ true = ap is_empty h.above in
    let few = lt-ltb (length s.regions) 64 h.few in
    let number = number_of-decimal 1 16777216 size (decimal size) (let m = h.most in omega arith) h.least h.most refl in
    rw (above, h.named, number, mode_of-mode_text w, few) refl

file_complete : (s : Said) (name path : List ℕ) (size : ℕ) (w : Bool) → MayMap s name (in_file path) size → read_file s name path (decimal size) (mode_text w) ≡ Ok (map_line name (in_file path) size w)
unfolding read_file
file_complete s name path size w h =
    let above : is_empty s.scripts ≡ true = ap is_empty h.above in
    let few = lt-ltb (length s.regions) 64 h.few in
    let number = number_of-decimal 1 1099511627776 size (decimal size) (let m = h.most in omega arith) h.least h.most refl in
    rw (above, h.named, h.place, number, mode_of-mode_text w, few) refl

sparse_complete : (s : Said) (name path : List ℕ) (size file : ℕ) (w : Bool) → MayMap s name (in_files path file) size → read_sparse s name path (decimal size) (decimal file) (mode_text w) ≡ Ok (map_line name (in_files path file) size w)
unfolding read_sparse
sparse_complete s name path size file w h =
    let above : is_empty s.scripts ≡ true = ap is_empty h.above in
    let few = lt-ltb (length s.regions) 64 h.few in
    let number = number_of-decimal 1 1099511627776 size (decimal size) (let m = h.most in omega arith) h.least h.most refl in
    let length_of_file = number_of-decimal 1 1099511627776 file (decimal file) (let m = h.place.2 in omega arith) h.place.1 h.place.2 refl in
    let path_is = h.place.0 in
    rw (above, h.named, path_is, number, length_of_file, mode_of-mode_text w, few) refl

script_complete : (s : Said) (name : List ℕ) → MayBegin s name → read_script s name ≡ Ok (script_line name)
unfolding read_script
script_complete s name h =
    let few = lt-ltb (length s.scripts) 64 h.few in
    let fresh = among_false name s.scripts h.fresh in
    rw (h.named, fresh, few) refl

load_complete : (s : Said) (r off len : ℕ) → is_name (name_at s.regions r) ≡ true → MayLoad s r off len → read_load s (name_at s.regions r) (decimal off) (decimal len) ≡ Ok (load_line r off len)
unfolding read_load
load_complete s r off len name h =
    let begun = is_empty-false s.scripts (some_length s.scripts h.reach.command.begun) in
    let place = number_of-decimal 0 1099511627776 off (decimal off) (let m = h.reach.place in omega arith) (omega arith) h.reach.place refl in
    let count = number_of-decimal 0 65536 len (decimal len) (let m = h.short in omega arith) (omega arith) h.short refl in
    let inside = le-leb (off + len) (size_at s.regions r) h.reach.inside in
    let limits = and_from _ _ (lt-ltb s.commands 262144 h.reach.command.few) (le-leb (s.loaded + len) 33554432 h.room) in
    rw (begun, name, place, count, h.reach.first, inside, limits) refl

store_complete : (s : Said) (r off : ℕ) (bytes : List ℕ) → is_name (name_at s.regions r) ≡ true → MayStoreBytes s r off bytes → read_store s (name_at s.regions r) (decimal off) (encode_lower bytes) ≡ Ok (store_line r off bytes)
unfolding read_store
store_complete s r off bytes name h =
    let begun = is_empty-false s.scripts (some_length s.scripts h.reach.command.begun) in
    let place = number_of-decimal 0 1099511627776 off (decimal off) (let m = h.reach.place in omega arith) (omega arith) h.reach.place refl in
    let stored = bytes_of-encode_lower bytes h.some h.short h.bytes_all in
    let inside = le-leb (off + length bytes) (size_at s.regions r) h.reach.inside in
    let few = lt-ltb s.commands 262144 h.reach.command.few in
    rw (begun, name, place, stored, h.reach.first, inside, h.writable, few) refl

prefetch_complete : (s : Said) (r off len : ℕ) → is_name (name_at s.regions r) ≡ true → MayPrefetch s r off len → read_prefetch s (name_at s.regions r) (decimal off) (decimal len) ≡ Ok (prefetch_line r off len)
unfolding read_prefetch
prefetch_complete s r off len name h =
    let begun = is_empty-false s.scripts (some_length s.scripts h.reach.command.begun) in
    let place = number_of-decimal 0 1099511627776 off (decimal off) (let m = h.reach.place in omega arith) (omega arith) h.reach.place refl in
    let count = number_of-decimal 0 1099511627776 len (decimal len) (let m = h.short in omega arith) (omega arith) h.short refl in
    let inside = le-leb (off + len) (size_at s.regions r) h.reach.inside in
    let few = lt-ltb s.commands 262144 h.reach.command.few in
    rw (begun, name, place, count, h.reach.first, inside, few) refl

flush_complete : (s : Said) → MayCommand s → read_flush s ≡ Ok flush_line
unfolding read_flush
flush_complete s h =
    let begun = is_empty-false s.scripts (some_length s.scripts h.begun) in
    let few = lt-ltb s.commands 262144 h.few in
    rw (begun, few) refl

unmap_complete : (s : Said) (r : ℕ) → is_name (name_at s.regions r) ≡ true → MayUnmapRegion s r → read_unmap s (name_at s.regions r) ≡ Ok (unmap_line r)
unfolding read_unmap
unmap_complete s r name h =
    let begun = is_empty-false s.scripts (some_length s.scripts h.command.begun) in
    let few = lt-ltb s.commands 262144 h.command.few in
    rw (begun, name, h.first, few) refl

-- ---- one line

-- the fields of a range
range_plain : (s : Said) (r off len : ℕ) → AllNamed s.regions → MayReach s r off len → Plain (name_at s.regions r) × Plain (decimal off)
range_plain s r off len n h = (plain_name (name_at s.regions r) (region_named s r n h.first), plain_decimal off (let m = h.place in omega arith))

-- its fields are plain, and they are read as the line
fields_plain : (s : Said) (l : Line) → AllNamed s.regions → Allowed s l → AllPlain (fields s l)
fields_plain s (map_line name in_memory size w) n h = (refl, (plain_name name h.named, (refl, (plain_decimal size (let m = h.most in omega arith), (plain_mode w, tt)))))
fields_plain s (map_line name (in_file p) size w) n h = (refl, (plain_name name h.named, (refl, (plain_path p h.place, (plain_decimal size (let m = h.most in omega arith), (plain_mode w, tt))))))
fields_plain s (map_line name (in_files p f) size w) n h =
    (refl, (plain_name name h.named, (refl, (plain_path p h.place.0, (plain_decimal size (let m = h.most in omega arith), (plain_decimal f (let m = h.place.2 in omega arith), (plain_mode w, tt)))))))
fields_plain s (script_line name) n h = (refl, (plain_name name h.named, tt))
fields_plain s (load_line r off len) n h = let p = range_plain s r off len n h.reach in (refl, (p.0, (p.1, (plain_decimal len (let m = h.short in omega arith), tt))))
fields_plain s (store_line r off bytes) n h = let p = range_plain s r off (length bytes) n h.reach in (refl, (p.0, (p.1, (plain_field is_hex_digit refl refl (encode_lower bytes) (digits-encode_lower bytes h.bytes_all), tt))))
fields_plain s (prefetch_line r off len) n h = let p = range_plain s r off len n h.reach in (refl, (p.0, (p.1, (plain_decimal len (let m = h.short in omega arith), tt))))
fields_plain s flush_line n h = (refl, tt)
fields_plain s (unmap_line r) n h = (refl, (plain_name (name_at s.regions r) (region_named s r n h.first), tt))

fields_read : (s : Said) (l : Line) → AllNamed s.regions → Allowed s l → read_fields s (fields s l) ≡ Ok l
unfolding read_word read_map
fields_read s (map_line name in_memory size w) n h =
    rw (name_some name h.named, decimal_some size (let m = h.most in omega arith), mode_some w) (memory_complete s name size w h)
fields_read s (map_line name (in_file p) size w) n h =
    rw (name_some name h.named, is_empty-false p (path_some p h.place), decimal_some size (let m = h.most in omega arith), mode_some w) (file_complete s name p size w h)
fields_read s (map_line name (in_files p f) size w) n h =
    rw (name_some name h.named, is_empty-false p (path_some p h.place.0), decimal_some size (let m = h.most in omega arith), decimal_some f (let m = h.place.2 in omega arith), mode_some w) (sparse_complete s name p size f w h)
fields_read s (script_line name) n h = rw (name_some name h.named) (script_complete s name h)
fields_read s (load_line r off len) n h =
    let named = region_named s r n h.reach.first in
    rw (name_some (name_at s.regions r) named, decimal_some off (let m = h.reach.place in omega arith), decimal_some len (let m = h.short in omega arith)) (load_complete s r off len named h)
fields_read s (store_line r off bytes) n h =
    let named = region_named s r n h.reach.first in
    let hex_some : is_empty (encode_lower bytes) ≡ false = is_empty-false (encode_lower bytes) (let e = length-encode_lower bytes in let m = h.some in omega (arith, e, m)) in
    rw (name_some (name_at s.regions r) named, decimal_some off (let m = h.reach.place in omega arith), hex_some) (store_complete s r off bytes named h)
fields_read s (prefetch_line r off len) n h =
    let named = region_named s r n h.reach.first in
    rw (name_some (name_at s.regions r) named, decimal_some off (let m = h.reach.place in omega arith), decimal_some len (let m = h.short in omega arith)) (prefetch_complete s r off len named h)
fields_read s flush_line n h = flush_complete s h
fields_read s (unmap_line r) n h =
    let named = region_named s r n h.first in
    rw (name_some (name_at s.regions r) named) (unmap_complete s r named h)

-- a line has a field
cut_again : (fs : List (List ℕ)) → 0 < length fs → AllPlain fs → slice_split is_space (join_with_byte 32 fs) ≡ fs
cut_again [] some h = absurd (omega arith)
cut_again (f ∷ fs) some h = slice_split-fields f fs h

fields_some : (s : Said) (l : Line) → 0 < length (fields s l)
fields_some s (map_line name in_memory size w) = omega arith
fields_some s (map_line name (in_file p) size w) = omega arith
fields_some s (map_line name (in_files p f) size w) = omega arith
fields_some s (script_line name) = omega arith
fields_some s (load_line r off len) = omega arith
fields_some s (store_line r off bytes) = omega arith
fields_some s (prefetch_line r off len) = omega arith
fields_some s flush_line = omega arith
fields_some s (unmap_line r) = omega arith

-- and it says something: its first byte is a letter
begins_with : (text : List ℕ) (c : ℕ) → 0 < length text → get_or text 0 0 ≡ c → (c == 35) ≡ false → is_silent text ≡ false
begins_with text c some e other = rw (is_empty-false text some, e) other

not_silent : (s : Said) (l : Line) → is_silent (line_text s l) ≡ false
not_silent s (map_line name in_memory size w) = begins_with (line_text s (map_line name in_memory size w)) 109 (omega arith) refl refl
not_silent s (map_line name (in_file p) size w) = begins_with (line_text s (map_line name (in_file p) size w)) 109 (omega arith) refl refl
not_silent s (map_line name (in_files p f) size w) = begins_with (line_text s (map_line name (in_files p f) size w)) 109 (omega arith) refl refl
not_silent s (script_line name) = begins_with (line_text s (script_line name)) 115 (omega arith) refl refl
not_silent s (load_line r off len) = begins_with (line_text s (load_line r off len)) 108 (omega arith) refl refl
not_silent s (store_line r off bytes) = begins_with (line_text s (store_line r off bytes)) 115 (omega arith) refl refl
not_silent s (prefetch_line r off len) = begins_with (line_text s (prefetch_line r off len)) 112 (omega arith) refl refl
not_silent s flush_line = begins_with (line_text s flush_line) 102 (omega arith) refl refl
not_silent s (unmap_line r) = begins_with (line_text s (unmap_line r)) 117 (omega arith) refl refl

line_complete : (s : Said) (l : Line) → AllNamed s.regions → Allowed s l → read_line s (line_text s l) ≡ Ok l
line_complete s l n h = ap (read_fields s) (cut_again (fields s l) (fields_some s l) (fields_plain s l n h)) ∙ fields_read s l n h

pub text_line_complete : (s : Said) (t : TextLine) → AllNamed s.regions → AllowedText s t → read_text_line s (shown s t) ≡ Ok t
unfolding read_text_line
text_line_complete s (silent text) n h = rw h.marked refl
text_line_complete s (says l) n h = rw (not_silent s l) (ap (λ (r : Result Line TextKind). r >>= (λ x. Ok (says x))) (line_complete s l n h))

pub line_cut : (s : Said) (t : TextLine) (behind : List ℕ) → AllNamed s.regions → AllowedText s t → slice_split is_line_feed (shown s t ++ 10 ∷ behind) ≡ shown s t ∷ slice_split is_line_feed behind
line_cut s (silent text) behind n h = slice_split-silent text behind h.one_line
line_cut s (says l) behind n h = slice_split-line (fields s l) behind (fields_plain s l n h)

-- ---- all lines

texts_complete : (n : ℕ) (s : Said) (ts : List TextLine) → AllNamed s.regions → AllAllowed s ts → read_texts n s (slice_split is_line_feed (spelled s ts)) ≡ Ok ts
texts_complete n s [] names h = refl
texts_complete n s (t ∷ ts) names h =
    ap (read_texts n s) (line_cut s t (spelled (after_text s t) ts) names h.0)
    ∙ read_texts-Ok n s (shown s t) (slice_split is_line_feed (spelled (after_text s t) ts)) t (parts_some (spelled (after_text s t) ts)) (text_line_complete s t names h.0)
    ∙ ap (before_all t) (texts_complete (n + 1) (after_text s t) ts (still_named s t names h.0) h.1)

pub text_complete : (bytes : List ℕ) (ts : List TextLine) → IsText bytes ts → read_text bytes ≡ Ok ts
text_complete bytes ts h =
    read_text-short bytes h.short ∙ ap (λ b. read_texts 1 nothing (slice_split is_line_feed b)) h.spelt ∙ texts_complete 1 nothing ts tt h.allowed

-- so a text has one reading
pub one_reading : (bytes : List ℕ) (some other : List TextLine) → IsText bytes some → IsText bytes other → some ≡ other
one_reading bytes some other h k = ok_same {E = RefusedAt} some other (sym (text_complete bytes some h) ∙ text_complete bytes other k)
