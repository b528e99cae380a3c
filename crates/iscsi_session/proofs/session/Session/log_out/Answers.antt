use Rattle.std.proofs.Common.{append_assoc, ◌∙◌, subst}
use Rattle.iscsi_session.proofs.session.Session.log_out.Goals as goal

pub returns-clause-done : goal.returns-clause-done
returns-clause-done over c =
    let left = c.leave_all.ensures.done in
    let emptied = c.empty_all.ensures.done in
    let answer = c.answer.ensures.done in
    let close = c.close.ensures.done in
    let told = c.announce_all.ensures.done in
    record {
      core = rw (told.core, close.core, answer.core, c.drop_waiting.ensures.session, emptied.core, left.core);
      effects = λ text es was. subst (over.S.EffectSink.has c.announce_all.new.out text) (rw (close.core, answer.core, c.drop_waiting.ensures.session, emptied.core, left.core) (simp append_assoc))
          (told.effects text _ (close.effects text _ (answer.effects text _ (emptied.effects text _ (left.effects text es was)))));
      room = told.room ∙ close.room ∙ answer.room ∙ emptied.room ∙ left.room;
    }
