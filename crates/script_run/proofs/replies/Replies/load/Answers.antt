use Rattle.std.proofs.Common.{◌≡◌, ◌<◌, ◌∷◌, [], length, codes, sym, ap, ◌++◌, ◌∙◌, arith, ℕ, List}
use Rattle.std.proofs.lemmas.Bool.{eqb-false}
use Rattle.hex.specs.Hex.{encode_lower}
use Rattle.script_run.proofs.Texts.{three, load_reply_some}
use Rattle.script_run.proofs.replies.Replies.load.Goals as goal

pub returns-clause-text : goal.returns-clause-text
returns-clause-text c =
    let ne : length c.args.bytes.now ≡ 0 → ⊥ = eqb-false (length c.args.bytes.now) 0 (sym c.is_empty.ensures ∙ c.if-is_empty.false) in
    let some : 0 < length c.args.bytes.now = omega arith in
    three c.args.self.now.text.items c.put_all-2.new.self.items c.put_hex.new.text.items c.put.new.self.items (codes "load ") (encode_lower c.args.bytes.now) (10 ∷ []) c.put_all-2.ensures.items c.put_hex.ensures.items c.put.ensures.items
    ∙ ap (λ (t : List ℕ). c.args.self.now.text.items ++ t) (sym (load_reply_some c.args.bytes.now some))
