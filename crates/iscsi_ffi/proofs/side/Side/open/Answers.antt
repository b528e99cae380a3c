use Rattle.std.proofs.Common.{sym, ◌∙◌}
use Rattle.iscsi_session.specs.promises.Settings.{setting_of}
use Rattle.iscsi_ffi.proofs.OpenLemmas.{desk-valid, session-valid, stands-opened}
use Rattle.iscsi_ffi.proofs.side.Side.open.Goals as goal

pub open_host-requires : goal.open_host-requires
open_host-requires c =
    session-valid c.args.options.now c.args.cids.now (setting_of c.in-Some.session_options) c.in-Some.ensures (sym c.are_valid.ensures ∙ c.if-not-are_valid.false)

pub open_desk-requires : goal.open_desk-requires
open_desk-requires c =
    desk-valid c.args.options.now c.args.cids.now c.in-Some-of_desk.desk_options c.in-Some-of_desk.ensures (sym c.are_valid.ensures ∙ c.if-not-are_valid.false)

pub returns-clause-follows : goal.returns-clause-follows
returns-clause-follows c =
    stands-opened c.args.options.now c.args.cids.now c.in-Some-of_desk.desk_options (setting_of c.in-Some.session_options) c.in-Ok.host c.in-Ok-open_desk.desk c.kept_back.result
    c.in-Some.ensures c.in-Ok.ensures.serves c.in-Some-of_desk.ensures c.in-Ok-open_desk.ensures.state c.kept_back.ensures
