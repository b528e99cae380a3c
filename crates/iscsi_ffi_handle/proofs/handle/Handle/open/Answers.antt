use Rattle.std.proofs.Common.{◌≡◌, ◌∙◌, None, sym}
use Rattle.iscsi_ffi_handle.specs.Inside.{inside}
use Rattle.iscsi_ffi_handle.proofs.OpenLemmas.{is_closed, is_opened, not_opened}
use Rattle.iscsi_ffi_handle.proofs.handle.Handle.open.Goals as goal

pub returns-in-Ok : goal.returns-in-Ok
returns-in-Ok c =
    let none : inside c.args.self.now ≡ None = is_closed (inside c.args.self.now) (sym c.args.self.now.sound ∙ c.if-self.false) in
    is_opened c.args.options.now c.args.cids.now (inside c.args.self.now) (inside c.put_back.new.self) c.in-Ok.side.value c.in-Ok.side none c.in-Ok.ensures.follows c.in-Ok.ensures.nothing c.in-Ok.ensures.refused c.put_back.ensures.side

pub returns-in-Err : goal.returns-in-Err
returns-in-Err c =
    let none : inside c.args.self.now ≡ None = is_closed (inside c.args.self.now) (sym c.args.self.now.sound ∙ c.if-self.false) in
    not_opened _ c.args.options.now c.args.cids.now (inside c.args.self.now) c.in-Err.answer none c.in-Err.ensures.refused
