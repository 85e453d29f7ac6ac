use Rattle.std.proofs.Common.{◌∙◌, ◌&&◌, Bool, false, not, map, string_bytes, sym, ap, ap₂, refl, List, []}
use Rattle.call_words.specs.Uses.{Text, takes_words, serial_names}
use Rattle.call_words.proofs.Commands.{any_map}
use Rattle.call_words.proofs.options.serial_options.Goals as goal

pub returns-then-has_barred-clause-stop : goal.returns-then-has_barred-clause-stop
returns-then-has_barred-clause-stop c =
    let texts : List Text = map string_bytes c.args.words.now in
    (refl, ap (λ (b : Bool). not b && takes_words serial_names [] false texts) (any_map c.args.words.now ∙ (sym c.has_barred.ensures ∙ c.if-has_barred.true)))

pub returns-in-Ok-clause-taken : goal.returns-in-Ok-clause-taken
returns-in-Ok-clause-taken c = record {
  taken = ap₂ (λ (a b : Bool). not a && b) (any_map c.args.words.now ∙ (sym c.has_barred.ensures ∙ c.if-has_barred.false)) c.in-Ok.ensures.taken;
  stripes = c.get_str.ensures ∙ c.in-Ok.ensures.stripes;
  faults = c.get_str-in-Ok.ensures ∙ c.in-Ok.ensures.faults;
}

pub returns-in-OutOfMemory-clause-memory : goal.returns-in-OutOfMemory-clause-memory
returns-in-OutOfMemory-clause-memory c = any_map c.args.words.now ∙ (sym c.has_barred.ensures ∙ c.if-has_barred.false)
