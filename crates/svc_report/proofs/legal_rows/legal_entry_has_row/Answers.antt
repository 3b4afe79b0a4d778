-- The entry's type keeps each range but that of the local turns, and legality keeps that one.
use Rattle.std.proofs.Common.{rules}
use Rattle.svc_report.proofs.LegalRows.{few_turns}
use Rattle.svc_report.proofs.legal_rows.legal_entry_has_row.Goals as goal

pub returns : goal.returns
returns c = λ img config s legal.
    record {
      unit = search rules;
      arg = search rules;
      local = few_turns img config s c.args.entry legal;
      addr = search rules;
      word = search rules;
      from = search rules;
      first = search rules;
      squashed = search rules;
    }
