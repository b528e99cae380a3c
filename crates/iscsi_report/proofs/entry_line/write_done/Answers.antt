use Rattle.std.proofs.Common.{refl}
use Rattle.iscsi_report.proofs.DecimalLemmas.{put_both}
use Rattle.iscsi_report.proofs.EntryLemmas.{put_others}
use Rattle.iscsi_report.proofs.entry_line.write_done.Goals as goal

pub returns-clause-written : goal.returns-clause-written
returns-clause-written c =
    let others = put_others c.args.numbers c.write_response-count.result.0 c.args.effects.now _ _ _ c.write_response-count.ensures.written
    c.write_effects.ensures.written in
    put_both c.write_effects.new.line c.write_completion-ticket_end.new.line c.args.line.now _ _ _ c.args.at c.write_completion-ticket_end.result.1
    c.write_effects.result others c.write_completion-ticket_end.ensures.written refl
