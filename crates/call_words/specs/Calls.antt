-- What the words and the variables of a call give: the settings of a run, or the first refusal.
use Rattle.std.specs.Prelude.{◌≡◌, ℕ, ◌+◌, ◌-◌, ◌*◌, min, nat_lt, nat_le, true, false, if◌then◌else◌, List, [], ◌∷◌, codes, Option, Some, None, option_and_then, Result, Ok, Err}
use Rattle.std.specs.Int.{is_power_of_two}
use Rattle.std.specs.List.{list_any}
use Rattle.std.specs.Str.{bytes_eq}
use Rattle.page_base.specs.declared.limits.TheConstants.{LEAST_PAGE_SIZE, MOST_PAGE_SIZE, MOST_FRAMES, MOST_BUFFER_BYTES, MOST_STRIPES, MOST_FAULTS}
use Rattle.script_run.specs.declared.settings.TheConstants.{DEFAULT_PAGE_SIZE, DEFAULT_STRIPES, DEFAULT_FRAMES, DEFAULT_FILLERS, DEFAULT_EVICTORS, DEFAULT_HIGH, DEFAULT_LOW, DEFAULT_AHEAD, DEFAULT_FAULTS}
use Rattle.script_run.specs.declared.settings.Settings.{Settings}
use Rattle.workload_text.specs.Reading.{number_of}
use Rattle.call_words.specs.declared.limits.TheConstants.{MOST_FILLERS, MOST_EVICTORS, MOST_HIGH, MOST_LOW, MOST_AHEAD}
use Rattle.call_words.specs.declared.fault.OptionName.{OptionName}
use Rattle.call_words.specs.declared.fault.OptionName.TheVariants.{Stripes, Faults}
use Rattle.call_words.specs.declared.fault.SettingName.{SettingName}
use Rattle.call_words.specs.declared.fault.SettingName.TheVariants.{PageSize, BufSize, PageFillers, PageEvictors, HighWater, LowWater, ReadAhead}
use Rattle.call_words.specs.declared.fault.WordsFault.{WordsFault}
use Rattle.call_words.specs.declared.fault.WordsFault.TheVariants.{NoCommand, UnknownCommand, Words, BadOption, BadSetting}
use Rattle.call_words.specs.declared.fault.CallFault.{CallFault}
use Rattle.call_words.specs.declared.fault.CallFault.TheVariants.{Refused, OutOfMemory}
use Rattle.call_words.specs.declared.settings.Asked.{Asked}
use Rattle.call_words.specs.declared.call.Call.{Call}
use Rattle.call_words.specs.Uses.{Text, serial_names, is_barred, takes_call, value_in}
use Rattle.call_words.specs.Variables.{first_value_of}

-- the settings of a run, as numbers
pub record SettingsSeen : Type 0 where
  pub page_size : ℕ
  pub frames : ℕ
  pub stripes : ℕ
  pub faults : ℕ
  pub fillers : ℕ
  pub evictors : ℕ
  pub high : ℕ
  pub low : ℕ
  pub ahead : ℕ

abbrev pub settings_seen : Settings → SettingsSeen
settings_seen s = record {
  page_size = s.layout.page_size;
  frames = s.layout.frames;
  stripes = s.layout.stripes;
  faults = s.faults;
  fillers = s.fillers;
  evictors = s.evictors;
  high = s.high;
  low = s.low;
  ahead = s.ahead;
}

abbrev pub option_text : OptionName → Text
option_text Stripes = codes "stripes"
option_text Faults = codes "faults"

abbrev pub setting_text : SettingName → Text
setting_text PageSize = codes "UMAP_PAGESIZE"
setting_text BufSize = codes "UMAP_BUFSIZE"
setting_text PageFillers = codes "UMAP_PAGE_FILLERS"
setting_text PageEvictors = codes "UMAP_PAGE_EVICTORS"
setting_text HighWater = codes "UMAP_EVICT_HIGH_WATER_THRESHOLD"
setting_text LowWater = codes "UMAP_EVICT_LOW_WATER_THRESHOLD"
setting_text ReadAhead = codes "UMAP_READ_AHEAD"

-- ---- one option, one setting

abbrev pub only_powers : ℕ → Option ℕ
only_powers n = if is_power_of_two n then Some n else None

-- the number that a value gives to an option, where it spells one in its range
abbrev pub option_number : OptionName → Text → Option ℕ
option_number Stripes value = number_of 1 MOST_STRIPES value
option_number Faults value = number_of 1 MOST_FAULTS value

-- the number that a value gives to a setting, where it spells one in its range
abbrev pub setting_number : SettingName → Text → Option ℕ
setting_number PageSize value = option_and_then only_powers (number_of LEAST_PAGE_SIZE MOST_PAGE_SIZE value)
setting_number BufSize value = number_of 1 MOST_FRAMES value
setting_number PageFillers value = number_of 1 MOST_FILLERS value
setting_number PageEvictors value = number_of 1 MOST_EVICTORS value
setting_number HighWater value = number_of 1 MOST_HIGH value
setting_number LowWater value = number_of 0 MOST_LOW value
setting_number ReadAhead value = number_of 0 MOST_AHEAD value

-- a value that was read is what is asked for, and one that can't be read is refused
abbrev pub as_read : WordsFault → Option ℕ → Result (Option ℕ) WordsFault
as_read fault None = Err fault
as_read fault (Some n) = Ok (Some n)

-- what a value asks for: nothing where there is none
abbrev pub asked_by : WordsFault → (number : Text → Option ℕ) → (value : Option Text) → Result (Option ℕ) WordsFault
asked_by fault number None = Ok None
asked_by fault number (Some value) = as_read fault (number value)

abbrev pub option_asked : OptionName → (value : Option Text) → Result (Option ℕ) WordsFault
option_asked name value = asked_by (BadOption name) (option_number name) value

abbrev pub setting_asked : SettingName → (vars : List Text) → Result (Option ℕ) WordsFault
setting_asked name vars = asked_by (BadSetting name) (setting_number name) (first_value_of (setting_text name) vars)

-- ---- all of them, in the order of refusal

infixl 10 ◌>>=◌
abbrev pub ◌>>=◌ : {A B : Type 0} → Result A WordsFault → (A → Result B WordsFault) → Result B WordsFault
Ok x >>= f = f x
Err fault >>= f = Err fault

unfoldable pub all_asked : (stripes faults : Option Text) → (vars : List Text) → Result Asked WordsFault
all_asked stripes faults vars = do
  stripes_asked ← option_asked Stripes stripes
  faults_asked ← option_asked Faults faults
  page_size_asked ← setting_asked PageSize vars
  frames_asked ← setting_asked BufSize vars
  fillers_asked ← setting_asked PageFillers vars
  evictors_asked ← setting_asked PageEvictors vars
  high_asked ← setting_asked HighWater vars
  low_asked ← setting_asked LowWater vars
  ahead_asked ← setting_asked ReadAhead vars
  Ok (record {
    stripes = stripes_asked;
    faults = faults_asked;
    page_size = page_size_asked;
    frames = frames_asked;
    fillers = fillers_asked;
    evictors = evictors_asked;
    high = high_asked;
    low = low_asked;
    ahead = ahead_asked;
  })

-- ---- what isn't asked for

abbrev pub or_else : Option ℕ → ℕ → ℕ
or_else (Some n) default = n
or_else None default = default

-- the high watermark: a missing one makes room above the low one
abbrev pub high_of : (high low : Option ℕ) → ℕ
high_of (Some high) low = high
high_of None None = DEFAULT_HIGH
high_of None (Some low) = if nat_lt low DEFAULT_HIGH then DEFAULT_HIGH else low + 1

-- the low watermark: a missing one makes room below the high one
abbrev pub low_of : (high low : Option ℕ) → ℕ
low_of high (Some low) = low
low_of None None = DEFAULT_LOW
low_of (Some high) None = if nat_lt DEFAULT_LOW high then DEFAULT_LOW else high - 1

-- a missing number of stripes is no more than the frames
abbrev pub stripes_of : (stripes : Option ℕ) → (frames : ℕ) → ℕ
stripes_of stripes frames = or_else stripes (min DEFAULT_STRIPES frames)

abbrev pub settings_of : Asked → SettingsSeen
settings_of a = record {
  page_size = or_else a.page_size DEFAULT_PAGE_SIZE;
  frames = or_else a.frames DEFAULT_FRAMES;
  stripes = stripes_of a.stripes (or_else a.frames DEFAULT_FRAMES);
  faults = or_else a.faults DEFAULT_FAULTS;
  fillers = or_else a.fillers DEFAULT_FILLERS;
  evictors = or_else a.evictors DEFAULT_EVICTORS;
  high = high_of a.high a.low;
  low = low_of a.high a.low;
  ahead = or_else a.ahead DEFAULT_AHEAD;
}

-- the settings, where they go together: the low watermark is below the high one, the buffer's bytes are few, and each stripe
-- has a frame
abbrev pub that_go_together : SettingsSeen → Result SettingsSeen WordsFault
that_go_together s =
    if nat_le s.high s.low then Err (BadSetting LowWater)
    else if nat_lt MOST_BUFFER_BYTES (s.frames * s.page_size) then Err (BadSetting BufSize)
    else if nat_lt s.frames s.stripes then Err (BadOption Stripes)
    else Ok s

abbrev pub reads_settings : (stripes faults : Option Text) → (vars : List Text) → Result SettingsSeen WordsFault
reads_settings stripes faults vars = all_asked stripes faults vars >>= (λ a. that_go_together (settings_of a))

-- ---- the call

-- `serial` is the one command that is built
abbrev pub reads_call : (words vars : List Text) → Result SettingsSeen WordsFault
reads_call [] vars = Err NoCommand
reads_call (word ∷ words) vars =
    if bytes_eq word (codes "serial")
    then (if takes_call serial_names words
    then reads_settings (value_in serial_names (option_text Stripes) None words) (value_in serial_names (option_text Faults) None words) vars
    else Err Words)
    else Err UnknownCommand

abbrev pub reads_of : Call → Result SettingsSeen WordsFault
reads_of call = reads_call call.words.items call.vars.items

-- an error is the refusal that reading gives, or want of memory
abbrev pub RefusedBy : {A : Type 0} → Result A WordsFault → CallFault → Type 0
RefusedBy reads (Refused fault) = reads ≡ Err fault
RefusedBy reads OutOfMemory = Unit {0}

-- want of memory may come only where the first word is `serial` and no word behind it is barred
abbrev pub MayWantMemory : (words : List Text) → CallFault → Type 0
MayWantMemory words (Refused fault) = Unit {0}
MayWantMemory [] OutOfMemory = ⊥
MayWantMemory (word ∷ words) OutOfMemory = (bytes_eq word (codes "serial") ≡ true) × (list_any is_barred words ≡ false)

-- what is read of the system is no call: a word is no text, or there was no memory
abbrev pub IsNoCall : CallFault → Type 0
IsNoCall (Refused fault) = fault ≡ Words
IsNoCall OutOfMemory = Unit {0}
