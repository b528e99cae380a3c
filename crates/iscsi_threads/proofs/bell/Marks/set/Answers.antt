use Rattle.std.proofs.Common.{◌≡◌, length, rules}
use Rattle.iscsi_threads.proofs.MarkLemmas.{marked}
use Rattle.iscsi_threads.proofs.bell.Marks.set.Goals as goal

pub returns : goal.returns
returns c =
    let long : length c.args.self.now.words ≡ 5 = search rules in
    marked c.args.self.now.words c.args.number long c.requires
