use Rattle.std.proofs.Common.{◌<◌, length, rules}
use Rattle.iscsi_replay.specs.promises.Threaded.{headers}
use Rattle.iscsi_threads.proofs.Lists.{map_grown}
use Rattle.iscsi_replay.proofs.threading.push_at.Goals as goal

pub returns-in-Ok : goal.returns-in-Ok
returns-in-Ok c =
    let lists = c.args.lists.now.items in
    let lt : c.args.at < length lists = search rules in
    map_grown headers lists c.args.at c.index_mut.result.now c.push.new.self c.args.header c.index_mut.ensures.value lt c.in-Ok.ensures.items
