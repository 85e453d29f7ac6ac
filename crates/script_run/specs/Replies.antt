-- What a line of a run is answered, where a store may fail, and how that is written.
use Rattle.std.specs.Prelude.{ℕ, Bool, true, false, List, [], ◌++◌, codes}
use Rattle.std.specs.List.{flat_map}
use Rattle.std.specs.Fmt.{decimal}
use Rattle.page_base.specs.declared.keys.Key.{Key}
use Rattle.workload_text.specs.Grammar.{Region, name_at}
use Rattle.script_run.specs.Serial.{load_reply}

-- The answers of both kinds of run; a serial run has no pass that could be spent. Of a load or a store, `done` is how many
-- bytes of the range were done before the piece that found its region closing, or that the fault ends; the text doesn't show it
pub data Reply : Type 0 where
  nothing : Reply
  begun : (name : List ℕ) → Reply
  loaded : (bytes : List ℕ) → Reply
  ok : Reply
  unmapped : (done : ℕ) → Reply
  fault : (key : Key) (count done : ℕ) → Reply
  spent : Reply

-- a fault names its page by the region's name and the page's number
abbrev pub fault_reply : (name : List ℕ) → (page count : ℕ) → List ℕ
fault_reply name page count = codes "fault " ++ (name ++ (codes " " ++ (decimal page ++ (codes " " ++ (decimal count ++ codes "\n")))))

abbrev pub reply_text : List Region → Reply → List ℕ
reply_text regions nothing = []
reply_text regions (begun name) = codes "script " ++ (name ++ codes "\n")
reply_text regions (loaded bytes) = load_reply bytes
reply_text regions ok = codes "ok\n"
reply_text regions (unmapped done) = codes "unmapped\n"
reply_text regions (fault key count done) = fault_reply (name_at regions key.region) key.page count
reply_text regions spent = codes "spent\n"

abbrev pub replies_text : List Region → List Reply → List ℕ
replies_text regions replies = flat_map (reply_text regions) replies

abbrev pub is_fault_reply : Reply → Bool
is_fault_reply (fault key count done) = true
is_fault_reply reply = false

-- the bytes that a reply shows as loaded
abbrev pub bytes_shown : Reply → List ℕ
bytes_shown (loaded bytes) = bytes
bytes_shown reply = []
