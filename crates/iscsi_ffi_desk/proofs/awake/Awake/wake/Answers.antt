use Rattle.std.proofs.Common.{◌≡◌, ◌<◌, Bool, List, length, get_or, false, sym, subst, arith}
use Rattle.iscsi_ffi_desk.proofs.AwakeLemmas.{one_woken}
use Rattle.iscsi_ffi_desk.proofs.awake.Awake.wake.Goals as goal

pub overflow_sub-self : goal.overflow_sub-self
overflow_sub-self c =
    let xs = c.self.inside.told.items in
    let within : c.args.conn < length xs = subst (λ (ys : List Bool). c.args.conn < length ys) (sym c.self.view_is) c.requires.within in
    let sleeps : get_or xs c.args.conn false ≡ false = subst (λ (ys : List Bool). get_or ys c.args.conn false ≡ false) (sym c.self.view_is) c.requires.sleeps in
    let e = one_woken xs c.args.conn within sleeps in
    let is = c.self.invariant in
    omega (arith, e, is)

pub invariant_of-self : goal.invariant_of-self
invariant_of-self c =
    let xs = c.self.inside.told.items in
    let within : c.args.conn < length xs = subst (λ (ys : List Bool). c.args.conn < length ys) (sym c.self.view_is) c.requires.within in
    let sleeps : get_or xs c.args.conn false ≡ false = subst (λ (ys : List Bool). get_or ys c.args.conn false ≡ false) (sym c.self.view_is) c.requires.sleeps in
    let e = one_woken xs c.args.conn within sleeps in
    let is = c.self.invariant in
    omega (arith, e, is)
