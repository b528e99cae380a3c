use Rattle.std.proofs.Common.{◌≡◌, ◌<◌, Bool, List, length, get_or, true, false, sym, subst, arith, ◌∙◌}
use Rattle.std.proofs.lemmas.List.{get_or_read}
use Rattle.iscsi_ffi_desk.proofs.AwakeLemmas.{few_asleep, one_slept}
use Rattle.iscsi_ffi_desk.proofs.awake.Awake.put_to_sleep.Goals as goal

pub overflow_add-self : goal.overflow_add-self
overflow_add-self c =
    let few = few_asleep c.self.inside.told.items in
    let is = c.self.invariant in
    let len = c.self.inside.told.ok.0 in
    omega (arith, few, is, len)

pub invariant_of-self : goal.invariant_of-self
invariant_of-self c =
    let xs = c.self.inside.told.items in
    let within : c.args.conn < length xs = subst (λ (ys : List Bool). c.args.conn < length ys) (sym c.self.view_is) c.requires in
    let read : get_or xs c.args.conn false ≡ true = sym (get_or_read xs c.args.conn c.index.result.now within c.index.ensures false) ∙ c.if-index.true in
    let e = one_slept xs c.args.conn within read in
    let is = c.self.invariant in
    omega (arith, e, is)
