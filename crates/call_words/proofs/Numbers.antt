-- The numbers that values give are in their ranges.
use Rattle.std.proofs.Common.{◌≡◌, ℕ, ◌≤◌, true, ◌&&◌, Option, Some, None, nat_le, refl, subst}
use Rattle.std.specs.Fmt.{decimal}
use Rattle.std.specs.Prelude.{option_and_then}
use Rattle.std.specs.Int.{is_power_of_two}
use Rattle.std.specs.Str.{bytes_eq}
use Rattle.std.specs.Str.Parse.{digits_value}
use Rattle.std.proofs.lemmas.Bool.{and_parts, and_from, leb-true, le-leb}
use Rattle.std.proofs.lemmas.Option.{cond_some}
use Rattle.page_base.specs.Layouts.{is_page_size}
use Rattle.workload_text.specs.Reading.{number_of}
use Rattle.call_words.specs.declared.fault.OptionName.{OptionName}
use Rattle.call_words.specs.declared.fault.OptionName.TheVariants.{Stripes, Faults}
use Rattle.call_words.specs.declared.fault.SettingName.{SettingName}
use Rattle.call_words.specs.declared.fault.SettingName.TheVariants.{PageSize, BufSize, PageFillers, PageEvictors, HighWater, LowWater, ReadAhead}
use Rattle.call_words.specs.Uses.{Text}
use Rattle.call_words.specs.Calls.{only_powers, option_number, setting_number}
use Rattle.call_words.specs.InsideAsked.{option_in, setting_in}

-- a number that is read is in the range that it is read for
within : (least most n : ℕ) (v : Text) → number_of least most v ≡ Some n → (least ≤ n) × (n ≤ most)
unfolding number_of
within least most n v h =
    let d : ℕ = digits_value 10 v in
    let p = cond_some (bytes_eq v (decimal d) && (nat_le least d && nat_le d most)) d n h in
    let q = and_parts (bytes_eq v (decimal d)) (nat_le least d && nat_le d most) p.0 in
    let r = and_parts (nat_le least d) (nat_le d most) q.1 in
    (subst (λ (k : ℕ). least ≤ k) p.1 (leb-true _ _ r.0), subst (λ (k : ℕ). k ≤ most) p.1 (leb-true _ _ r.1))

page_within : (o : Option ℕ) (n : ℕ) (v : Text) → number_of 64 1048576 v ≡ o → option_and_then only_powers o ≡ Some n → is_page_size n ≡ true
page_within None n v e h = absurd (cc h)
page_within (Some m) n v e h =
    let p = cond_some (is_power_of_two m) m n h in
    let r = within 64 1048576 m v e in
    subst (λ (k : ℕ). is_page_size k ≡ true) p.1 (and_from _ _ p.0 (and_from _ _ (le-leb 64 m r.0) (le-leb m 1048576 r.1)))

pub option_within : (name : OptionName) (v : Text) (n : ℕ) → option_number name v ≡ Some n → option_in name n
option_within Stripes v n h = within _ _ n v h
option_within Faults v n h = within _ _ n v h

pub setting_within : (name : SettingName) (v : Text) (n : ℕ) → setting_number name v ≡ Some n → setting_in name n
setting_within PageSize v n h = page_within (number_of 64 1048576 v) n v refl h
setting_within BufSize v n h = within _ _ n v h
setting_within PageFillers v n h = within _ _ n v h
setting_within PageEvictors v n h = within _ _ n v h
setting_within HighWater v n h = within _ _ n v h
setting_within LowWater v n h = (within _ _ n v h).1
setting_within ReadAhead v n h = (within _ _ n v h).1
