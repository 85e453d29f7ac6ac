-- The number and the text of a status.
use Rattle.std.specs.Prelude.{ℕ, List, [], ◌++◌, codes}
use Rattle.std.specs.Fmt.{decimal}
use Rattle.workload_text.specs.declared.refusal.TextKind.{TextKind}
use Rattle.workload_text.specs.declared.refusal.TextKind.TheVariants as kind
use Rattle.file_store.specs.declared.folder.FolderFault.{FolderFault}
use Rattle.file_store.specs.declared.folder.FolderFault.TheVariants.{Missing, TooShort, Failed, OutOfMemory}
use Rattle.call_words.specs.Calls.{option_text, setting_text}
use Rattle.call_words.specs.declared.fault.WordsFault.{WordsFault}
use Rattle.call_words.specs.declared.fault.WordsFault.TheVariants.{NoCommand, UnknownCommand, BadOption, BadSetting, Words as WordsRefused}
use Rattle.script_run.specs.declared.regions.RegionKind.{RegionKind}
use Rattle.script_run.specs.declared.regions.RegionKind.TheVariants as rule
use Rattle.umapsh.specs.declared.refusal.Refusal.{Refusal}
use Rattle.umapsh.specs.declared.refusal.Refusal.TheVariants as why
use Rattle.umapsh.specs.declared.status.Status.{Status}
use Rattle.umapsh.specs.declared.status.Status.TheVariants.{Done, StoreFault, Refused, Words, Folder, Memory, SinkFault, SourceFault}

abbrev pub status_code : Status → ℕ
status_code Done = 0
status_code StoreFault = 1
status_code (Refused line k) = 2
status_code (Words fault) = 3
status_code (Folder region fault) = 4
status_code Memory = 5
status_code (SinkFault faults) = 6
status_code (SourceFault faults) = 7

abbrev pub kind_text : TextKind → List ℕ
kind_text kind.Long = codes "long"
kind_text kind.Unended = codes "unended"
kind_text kind.Line = codes "line"
kind_text kind.Kind = codes "kind"
kind_text kind.Order = codes "order"
kind_text kind.Name = codes "name"
kind_text kind.Path = codes "path"
kind_text kind.Number = codes "number"
kind_text kind.Hex = codes "hex"
kind_text kind.Mode = codes "mode"
kind_text kind.Unknown = codes "unknown"
kind_text kind.Double = codes "double"
kind_text kind.Range = codes "range"
kind_text kind.ReadOnly = codes "readonly"
kind_text kind.Many = codes "many"

abbrev pub rule_text : RegionKind → List ℕ
rule_text rule.SameName = codes "same name"
rule_text rule.SameStore = codes "same store"
rule_text rule.BadLength = codes "bad length"
rule_text rule.TooManyPages = codes "too many pages"

abbrev pub refusal_text : Refusal → List ℕ
refusal_text (why.Text k) = kind_text k
refusal_text (why.Region k) = rule_text k
refusal_text why.Unbuilt = codes "unbuilt"

-- why words and variables are refused
abbrev pub words_text : WordsFault → List ℕ
words_text NoCommand = codes "words"
words_text UnknownCommand = codes "words"
words_text WordsRefused = codes "words"
words_text (BadOption name) = codes "option --" ++ option_text name
words_text (BadSetting name) = codes "setting " ++ setting_text name

-- why a region couldn't be opened; want of memory has a status of its own
abbrev pub stop_text : FolderFault → List ℕ
stop_text Missing = codes "missing"
stop_text (TooShort have need) = codes "too short " ++ (decimal have ++ (codes " " ++ decimal need))
stop_text (Failed faults) = codes "failed " ++ decimal faults
stop_text OutOfMemory = codes "out of memory"

-- with its line feed; a run that went well says nothing
abbrev pub status_text : Status → List ℕ
status_text Done = []
status_text StoreFault = codes "umapsh: store fault\n"
status_text (Refused line k) = codes "umapsh: line " ++ (decimal line ++ (codes ": " ++ (refusal_text k ++ codes "\n")))
status_text (Words fault) = codes "umapsh: " ++ (words_text fault ++ codes " refused\n")
status_text (Folder region fault) = codes "umapsh: region " ++ (decimal region ++ (codes ": " ++ (stop_text fault ++ codes "\n")))
status_text Memory = codes "umapsh: out of memory\n"
status_text (SinkFault faults) = codes "umapsh: output failed\n"
status_text (SourceFault faults) = codes "umapsh: input failed\n"
