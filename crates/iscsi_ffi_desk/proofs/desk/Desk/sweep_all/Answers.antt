use Rattle.std.proofs.Common.{length, ap, ◌∙◌, [], ◌∷◌, arith}
use Rattle.iscsi_ffi_steps.specs.Walk.{Doing}
use Rattle.iscsi_ffi_desk.proofs.DropLemmas.{sweep_outbox, sweep_step}
use Rattle.iscsi_ffi_desk.proofs.desk.Desk.sweep_all.Goals as goal

pub loop-conn-preserved : goal.loop-conn-preserved
loop-conn-preserved c =
    let links = ap (λ (d : Doing). length d.state.outbox.links) c.self.view_is in
    record {
      state = sweep_step c.loop-conn.conn c.loop-conn.self c.sweep_one.new.self c.args.self.now.state.outbox.links (omega (arith, links, c.loop-conn-test.true, c.conns-conn-end.ensures.count, c.conns-conn-end.ensures.links)) c.sweep_one.ensures ∙ c.loop-conn.invariant.state;
      outbox = ap (λ (d : Doing). d.state.outbox) c.sweep_one.ensures ∙ sweep_outbox (c.loop-conn.conn ∷ []) c.loop-conn.self ∙ c.loop-conn.invariant.outbox;
    }
