use Rattle.iscsi_replay.specs.promises.Replayed.{setting_with}
use Rattle.iscsi_replay.proofs.RefusalLemmas.{memory_alone, options_taken}
use Rattle.iscsi_replay.proofs.replaying.open.Goals as goal

pub fault_of-requires : goal.fault_of-requires
fault_of-requires c =
    let taken = options_taken (setting_with c.args.most c.args.settings.now c.args.conns.items) c.requires in
    memory_alone _ _ _ taken c.in-Err.is c.open.ensures.refused
