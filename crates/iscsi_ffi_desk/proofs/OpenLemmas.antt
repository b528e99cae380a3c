-- What valid options come to.
use Rattle.std.proofs.Common.{◌≡◌, ◌≤◌, ℕ, ◌+◌, ◌*◌, ◌&&◌, nat_le, Bool, true, false, length, refl, arith}
use Rattle.std.proofs.Math.Nat.{mul-le-mul}
use Rattle.std.proofs.lemmas.Bool.{leb-true}
use Rattle.iscsi_outbox.specs.promises.Options.{is_valid as is_valid_outbox, is_within}
use Rattle.iscsi_outbox.proofs.OpenLemmas.{Valid, valid}
use Rattle.iscsi_ffi_desk.specs.declared.desk.opening.DeskOptions.{DeskOptions}
use Rattle.iscsi_ffi_desk.specs.Options.{is_valid}
use Rattle.iscsi_ffi_desk.specs.Rooms.{AreFew}

both : (a b : Bool) → (a && b) ≡ true → (a ≡ true) × (b ≡ true)
both true b e = (refl, e)
both false b e = cc

pub valid_box : (o : DeskOptions) → is_valid o ≡ true → Valid o.outbox
valid_box o e = valid o.outbox (both (is_valid_outbox o.outbox) (is_within o.unwritten 1024) e).0

pub few_unwritten : (o : DeskOptions) → is_valid o ≡ true → o.unwritten ≤ 1024
few_unwritten o e = leb-true o.unwritten 1024 (both (nat_le 1 o.unwritten) (nat_le o.unwritten 1024) (both (is_valid_outbox o.outbox) (is_within o.unwritten 1024) e).1).1

pub are_few : (o : DeskOptions) (conns : ℕ) → is_valid o ≡ true → conns ≡ length o.outbox.conns.items → AreFew (record {
  conns = conns;
  requests = 7 * (o.outbox.window + 12 * conns) + (o.outbox.own + o.unwritten) * conns;
  replies = 3 * (o.outbox.window + 12 * conns);
  own = o.outbox.own * conns;
  unwritten = o.unwritten * conns;
  actions = 3 * (7 * (o.outbox.window + 12 * conns) + (o.outbox.own + o.unwritten) * conns) + 2 * conns;
})
are_few o conns e count =
    let v = valid_box o e in
    let some : o.unwritten ≤ 1024 = few_unwritten o e in
    let most : conns ≤ 64 = omega (arith, count, v.conns) in
    let both_few : o.outbox.own + o.unwritten ≤ 2048 = omega (arith, some, v.own) in
    let all : (o.outbox.own + o.unwritten) * conns ≤ 2048 * 64 = mul-le-mul both_few most in
    let own : o.outbox.own * conns ≤ 1024 * 64 = mul-le-mul v.own most in
    let unwritten : o.unwritten * conns ≤ 1024 * 64 = mul-le-mul some most in
    let window = v.window in
    record {
      conns = most;
      requests = (let z : 7 * (o.outbox.window + 12 * conns) + (o.outbox.own + o.unwritten) * conns ≤ 1000000 = grind (arith, all, most, window) in z);
      replies = (let z : 3 * (o.outbox.window + 12 * conns) ≤ 1000000 = omega (arith, most, window) in z);
      own = (let z : o.outbox.own * conns ≤ 1000000 = omega (arith, own) in z);
      unwritten = (let z : o.unwritten * conns ≤ 1000000 = omega (arith, unwritten) in z);
    }
