use Rattle.std.proofs.Common.{◌≡◌, ℕ, List, map, subst, rules, ap}
use Rattle.std.specs.Prelude.{Err}
use Rattle.iscsi_replay.specs.promises.Threaded.{headers, IsJournalOf, ComesOfThreads}
use Rattle.iscsi_threads.specs.rules.Journal.{cids_in, parts}
use Rattle.iscsi_recording.specs.Recorded.{Recorded}
use Rattle.iscsi_replay.proofs.ThreadLemmas.{ran_of, filled_of, stopped_for}
use Rattle.iscsi_replay.proofs.threading.run_threads.Goals as goal

pub returns-in-Ok-serve_unlogged-clause-ok : goal.returns-in-Ok-serve_unlogged-clause-ok
returns-in-Ok-serve_unlogged-clause-ok g c =
    let served = c.in-Ok-serve_unlogged.ensures.served in
    let e = c.in-Ok-serve_unlogged.ended in
    let given : Recorded = record { conns = c.into_list-conns.result.items; events = c.args.recording.events } in
    let journal : Recorded = record { conns = c.in-Ok-to_vec.kept.items; events = e.journal.items } in
    let of : IsJournalOf c.args.settings.now given journal = record {
      conns = search rules;
      few = served.few;
      sources = e.from.items;
      ran = ran_of c.args.settings.now given c.in-Ok.lists.items e.journal.items e.from.items e.left.items e.untaken.items e.unread.items
          (subst (λ conns. map headers c.in-Ok.lists.items ≡ parts (cids_in conns) c.args.recording.events) c.deref.ensures.value c.in-Ok.ensures) served;
    } in
    subst (λ (conns : List (ℕ × ℕ)). IsJournalOf c.args.settings.now (record { conns = conns; events = c.args.recording.events }) journal) c.into_list-conns.ensures of

pub returns-in-Err-clause-err : goal.returns-in-Err-clause-err
returns-in-Err-clause-err g c =
    let given : Recorded = record { conns = c.into_list-conns.result.items; events = c.args.recording.events } in
    let lists = c.in-Ok.lists.items in
    let listed : map headers lists ≡ parts (cids_in given.conns) given.events = subst (λ conns. map headers lists ≡ parts (cids_in conns) c.args.recording.events) c.deref.ensures.value c.in-Ok.ensures in
    let e = c.fault_of.result in
    let why : ComesOfThreads c.args.settings.now given e =
    stopped_for c.args.settings.now given c.in-Err.fault e c.fault_of.ensures (λ full. filled_of c.args.settings.now given lists listed (c.in-Err.ensures.full (ap Err full)))
    in
    subst (λ (conns : List (ℕ × ℕ)). ComesOfThreads c.args.settings.now (record { conns = conns; events = c.args.recording.events }) e) c.into_list-conns.ensures why
