-- What the parts of reading a call know of each other's answers.
use Rattle.std.specs.Prelude.{◌≡◌, ℕ, ◌≤◌, Bool, true, false, List, IfSome, Option, None, option_map, Result, Ok, Err, MatchResult}
use Rattle.std.specs.List.{list_any}
use Rattle.page_base.specs.Layouts.{is_page_size}
use Rattle.page_base.specs.declared.limits.TheConstants.{MOST_FRAMES, MOST_STRIPES, MOST_FAULTS}
use Rattle.script_run.specs.declared.settings.Settings.{Settings}
use Rattle.call_words.specs.declared.limits.TheConstants.{MOST_FILLERS, MOST_EVICTORS, MOST_HIGH, MOST_LOW, MOST_AHEAD}
use Rattle.call_words.specs.declared.fault.OptionName.{OptionName}
use Rattle.call_words.specs.declared.fault.OptionName.TheVariants.{Stripes, Faults}
use Rattle.call_words.specs.declared.fault.SettingName.{SettingName}
use Rattle.call_words.specs.declared.fault.SettingName.TheVariants.{PageSize, BufSize, PageFillers, PageEvictors, HighWater, LowWater, ReadAhead}
use Rattle.call_words.specs.declared.fault.WordsFault.{WordsFault}
use Rattle.call_words.specs.declared.fault.WordsFault.TheVariants.{Words}
use Rattle.call_words.specs.declared.fault.CallFault.{CallFault}
use Rattle.call_words.specs.declared.fault.CallFault.TheVariants.{Refused, OutOfMemory}
use Rattle.call_words.specs.declared.options.SerialOptions.{SerialOptions}
use Rattle.call_words.specs.declared.settings.Asked.{Asked}
use Rattle.call_words.specs.Uses.{Text, serial_names, is_barred, takes_call, value_in}
use Rattle.call_words.specs.Calls.{SettingsSeen, option_text, settings_seen}

-- the texts of the options' values
abbrev pub stripes_in : SerialOptions → Option Text
stripes_in o = option_map (λ v. v.now) o.stripes

abbrev pub faults_in : SerialOptions → Option Text
faults_in o = option_map (λ v. v.now) o.faults

-- the words are taken, and give the options these values
pub record GivesOptions (words : List Text) (o : SerialOptions) : Type 0 where
  pub taken : takes_call serial_names words ≡ true
  pub stripes : stripes_in o ≡ value_in serial_names (option_text Stripes) None words
  pub faults : faults_in o ≡ value_in serial_names (option_text Faults) None words

-- why the words behind a command give no options
abbrev pub IsStopped : (takes : Bool) → CallFault → Type 0
IsStopped takes (Refused fault) = (fault ≡ Words) × (takes ≡ false)
IsStopped takes OutOfMemory = Unit {0}

-- want of memory comes only where no word is barred
abbrev pub WantsBehindTest : (words : List Text) → CallFault → Type 0
WantsBehindTest words (Refused fault) = Unit {0}
WantsBehindTest words OutOfMemory = list_any is_barred words ≡ false

-- the ranges of options and settings
abbrev pub option_in : OptionName → ℕ → Type 0
option_in Stripes n = (1 ≤ n) × (n ≤ MOST_STRIPES)
option_in Faults n = (1 ≤ n) × (n ≤ MOST_FAULTS)

abbrev pub setting_in : SettingName → ℕ → Type 0
setting_in PageSize n = is_page_size n ≡ true
setting_in BufSize n = (1 ≤ n) × (n ≤ MOST_FRAMES)
setting_in PageFillers n = (1 ≤ n) × (n ≤ MOST_FILLERS)
setting_in PageEvictors n = (1 ≤ n) × (n ≤ MOST_EVICTORS)
setting_in HighWater n = (1 ≤ n) × (n ≤ MOST_HIGH)
setting_in LowWater n = n ≤ MOST_LOW
setting_in ReadAhead n = n ≤ MOST_AHEAD

-- each number is in its range, where it is asked for
pub record InRange (a : Asked) : Type 0 where
  pub stripes : IfSome a.stripes (option_in Stripes)
  pub faults : IfSome a.faults (option_in Faults)
  pub page_size : IfSome a.page_size (setting_in PageSize)
  pub frames : IfSome a.frames (setting_in BufSize)
  pub high : IfSome a.high (setting_in HighWater)
  pub low : IfSome a.low (setting_in LowWater)

-- the result is what reading gives: settings, or the refusal
abbrev pub IsRead : Result SettingsSeen WordsFault → Result Settings WordsFault → Type 0
IsRead reads result = MatchResult result (λ s. reads ≡ Ok (settings_seen s)) (λ fault. reads ≡ Err fault)
