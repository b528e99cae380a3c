use Rattle.std.proofs.Common.{ℕ, List, Some, map, subst}
use Rattle.clap.specs.Words.{matches_of}
use Rattle.iscsi_settings.specs.Command.{replay_app, SettingsAre}
use Rattle.iscsi_replay.specs.promises.Told.{IsReplayAsTold}
use Rattle.iscsi_replay.proofs.ToldLemmas.{Replays, nothing_said, replays_as_told}
use Rattle.iscsi_replay.proofs.program.replay_as_told.Goals.{then-threads, else-threads}
use Rattle.iscsi_replay.proofs.program.replay_as_told.Goals as goal

pub returns-in-Err-clause-told : goal.returns-in-Err-clause-told
returns-in-Err-clause-told g c =
    let words : List (List ℕ) = map (λ w. w.now) c.args.words.now in
    let are : SettingsAre (matches_of replay_app words) (Some (c.in-Some.settings, c.in-Some.threads)) =
    subst (SettingsAre (matches_of replay_app words)) c.in-Some.is c.in_ok-settings.ensures.ok in
    let given = g.R.Source.remaining c.args.reader.now in
    let left = g.R.Source.remaining c.if-threads.reader in
    let old = g.W.Sink.contents c.args.writer.now in
    let new = g.W.Sink.contents c.if-threads.writer in
    let replays : Replays c.in-Some.threads c.in-Some.settings c.if-threads.replayed given left old new =
    elim c.if-threads.branch [
      | then-threads w ↦ rw (w.if-threads.true, w.replayed-is, w.reader-is, w.writer-is) (record {
        bad = w.replay_threads-replayed.ensures.bad.0;
        report = w.replay_threads-replayed.ensures.ok;
        promises = nothing_said _ _;
        fault = w.replay_threads-replayed.ensures.fault;
        front = w.replay_threads-replayed.ensures.front;
        order = w.replay_threads-replayed.ensures.order;
      })
      | else-threads w ↦ rw (w.if-threads.false, w.replayed-is, w.reader-is, w.writer-is) (record {
        bad = w.replay-replayed.ensures.bad.0;
        report = w.replay-replayed.ensures.ok;
        promises = w.replay-replayed.ensures.promises;
        fault = w.replay-replayed.ensures.fault;
        front = w.replay-replayed.ensures.front;
        order = w.replay-replayed.ensures.order;
      })
    ] in
    subst (λ answer. IsReplayAsTold words answer given left old new) c.in-Err.is
    (replays_as_told words _ _ _ _ _ _ _ c.in_ok-settings.ensures.kinds are replays)

pub returns-in-Ok-clause-told : goal.returns-in-Ok-clause-told
returns-in-Ok-clause-told g c =
    let words : List (List ℕ) = map (λ w. w.now) c.args.words.now in
    let are : SettingsAre (matches_of replay_app words) (Some (c.in-Some.settings, c.in-Some.threads)) =
    subst (SettingsAre (matches_of replay_app words)) c.in-Some.is c.in_ok-settings.ensures.ok in
    let given = g.R.Source.remaining c.args.reader.now in
    let left = g.R.Source.remaining c.if-threads.reader in
    let old = g.W.Sink.contents c.args.writer.now in
    let new = g.W.Sink.contents c.if-threads.writer in
    let replays : Replays c.in-Some.threads c.in-Some.settings c.if-threads.replayed given left old new =
    elim c.if-threads.branch [
      | then-threads w ↦ rw (w.if-threads.true, w.replayed-is, w.reader-is, w.writer-is) (record {
        bad = w.replay_threads-replayed.ensures.bad.0;
        report = w.replay_threads-replayed.ensures.ok;
        promises = nothing_said _ _;
        fault = w.replay_threads-replayed.ensures.fault;
        front = w.replay_threads-replayed.ensures.front;
        order = w.replay_threads-replayed.ensures.order;
      })
      | else-threads w ↦ rw (w.if-threads.false, w.replayed-is, w.reader-is, w.writer-is) (record {
        bad = w.replay-replayed.ensures.bad.0;
        report = w.replay-replayed.ensures.ok;
        promises = w.replay-replayed.ensures.promises;
        fault = w.replay-replayed.ensures.fault;
        front = w.replay-replayed.ensures.front;
        order = w.replay-replayed.ensures.order;
      })
    ] in
    subst (λ answer. IsReplayAsTold words answer given left old new) c.in-Ok.is
    (replays_as_told words _ _ _ _ _ _ _ c.in_ok-settings.ensures.kinds are replays)
