use Rattle.std.proofs.Common.{length, ap, ◌∙◌, arith}
use Rattle.iscsi_ffi_steps.specs.Walk.{Doing}
use Rattle.iscsi_ffi_desk.proofs.DropLemmas.{functions_outbox, functions_step}
use Rattle.iscsi_ffi_desk.proofs.desk.Desk.drop_functions.Goals as goal

pub loop-conn-preserved : goal.loop-conn-preserved
loop-conn-preserved c =
    let links = ap (λ (d : Doing). length d.state.outbox.links) c.self.view_is in
    record {
      state = functions_step c.loop-conn.conn c.loop-conn.self c.drop_functions_on.new.self c.args.self.now.state.outbox.links (omega (arith, links, c.loop-conn-test.true, c.conns-conn-end.ensures.count, c.conns-conn-end.ensures.links)) c.drop_functions_on.ensures ∙ c.loop-conn.invariant.state;
      outbox = ap (λ (d : Doing). d.state.outbox) c.drop_functions_on.ensures ∙ functions_outbox c.loop-conn.conn c.loop-conn.self ∙ c.loop-conn.invariant.outbox;
    }
