use Rattle.std.proofs.Common.{inl, inr, refl, sym, ◌∙◌}
use Rattle.page_model.specs.declared.entry.Entry.TheVariants.{ReadFailed, WriteFailed}
use Rattle.script_run.proofs.access.load_piece.Goals as goal

pub returns-in-Err-clause-ended : goal.returns-in-Err-clause-ended
returns-in-Err-clause-ended g c =
    let e = c.in-Err.ensures in
    let f = c.in-Err.fault in
    let open_ = sym c.is_closing.ensures.exact ∙ c.if-is_closing.false in
    elim e.err [
      | inl r ↦ record { same = e.same; spent = e.spent; open_ = open_; page = e.fault.page; stripe = e.fault.stripe; failure = ReadFailed f.key f.faults; fails = inl (r.0, refl); went = r.1 }
      | inr w ↦ record { same = e.same; spent = e.spent; open_ = open_; page = e.fault.page; stripe = e.fault.stripe; failure = WriteFailed f.key f.faults; fails = inr refl; went = w }
    ]
