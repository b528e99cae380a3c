-- What the calls premise of the state of the steps: room to tell, a free place, and no more uses than are counted.
use Rattle.std.proofs.Common.{◌≡◌, ℕ, ◌+◌, ◌*◌, ◌≤◌, ◌<◌, true, [], length, count_by, Some, is_some, ap, arith, mul-le-mul, add-mul}
use Rattle.std.proofs.lemmas.List.{length-map}
use Rattle.iscsi_outbox_rules.specs.rules.Words.{replies_waiting}
use Rattle.iscsi_requests.specs.Conns.{count_all}
use Rattle.iscsi_requests.specs.Cookies.{next_place, uses_at}
use Rattle.iscsi_ffi_rules.specs.rules.Calls.{Interface}
use Rattle.iscsi_ffi_rules.specs.rules.Run.{cids}
use Rattle.iscsi_ffi_rules.specs.rules.Sides.{Side}
use Rattle.iscsi_ffi_steps.specs.Steps.{Side as StepsSide}
use Rattle.iscsi_ffi_law.specs.Arrived.{IsPlaced}
use Rattle.iscsi_ffi_law.specs.Sides.{IsOpening}
use Rattle.iscsi_ffi_law.specs.Stands.{Stands}
use Rattle.iscsi_ffi_law.specs.Uses.{is_used}
use Rattle.iscsi_ffi_law.proofs.completions.DoneRoom.{all_few}
use Rattle.iscsi_ffi_law.proofs.premises.FitFacts.{AreLimits, limits}
use Rattle.iscsi_ffi_law.proofs.side_invariants.FitFree.{place_free, requests_few, somes, uses_most}
use Rattle.iscsi_ffi_law.proofs.session_invariants.FitHeld.{held_few}
use Rattle.iscsi_ffi_law.proofs.side_invariants.FitHolds.{Holds}
use Rattle.iscsi_ffi_law.proofs.side_invariants.FitPlaced.{last_there}
use Rattle.iscsi_ffi_law.proofs.outbox_invariants.FitReached.{fits_reached}
use Rattle.iscsi_ffi_law.proofs.side_invariants.FitSized.{AreSized}
use Rattle.iscsi_ffi_law.proofs.side_invariants.FitSizes.{few_commands}
use Rattle.iscsi_ffi_law.proofs.side_invariants.FitUsed.{used_few}

module _ (i : Interface) (opening : IsOpening i) (n : ℕ) (s : StepsSide) (r : Side) (st : Stands i s r) (z : AreSized i s.state) (h : Holds i n r) where
  abbrev conns : ℕ
  conns = length i.outbox.session.conns

  abbrev window : ℕ
  window = i.outbox.session.window

  -- all uses that are kept
  abbrev kept : ℕ
  kept = length (somes s.state.held.places) + count_all s.state.functions.waiting + count_by (is_used s.state.outbox) s.state.commands.items + count_all s.state.replies.waiting + count_all s.state.noted.handed + count_all s.state.unwritten.handed

  as_many : length (cids i) ≡ conns
  as_many = length-map i.outbox.session.conns (λ (c : ℕ × ℕ). c.0)

  own_few : count_all s.state.noted.handed ≤ i.outbox.own * conns
  own_few = let few = z.noted in let is = st.sizes.noted_room in let same = ap (λ m. i.outbox.own * m) as_many in omega (arith, few, is, same)

  unwritten_few : count_all s.state.unwritten.handed ≤ i.unwritten * conns
  unwritten_few = let few = z.unwritten in let is = st.sizes.unwritten_room in let same = ap (λ m. i.unwritten * m) as_many in omega (arith, few, is, same)

  replies_few : count_all s.state.replies.waiting ≤ replies_waiting r.both.box
  replies_few = all_few i st.names st.notes (λ place. 0) (λ p. []) s.state r st.requests st.outbox st.sizes

  used_most : count_by (is_used s.state.outbox) s.state.commands.items ≤ 3 * (window + 12 * conns)
  used_most =
      let few = used_few i opening n s r st h in
      let most = (fits_reached i.outbox (limits i opening).distinct r.both h.good.reached).tasks in
      omega (arith, few, most, as_many)

  replies_most : replies_waiting r.both.box ≤ 3 * (window + 12 * conns)
  replies_most = let most = (fits_reached i.outbox (limits i opening).distinct r.both h.good.reached).replies in omega (arith, most, as_many)

  functions_few : count_all s.state.functions.waiting ≤ 4 * conns
  functions_few = let few = z.functions in let is = z.functions_room in omega (arith, few, is)

  -- so many places there are
  room_is : s.state.cookies.room ≡ 7 * (window + 12 * conns) + (i.outbox.own * conns + i.unwritten * conns)
  room_is =
      let is = z.room in
      let same = ap (λ m. 7 * (window + 12 * m) + (i.outbox.own + i.unwritten) * m) as_many in
      let parts : (i.outbox.own + i.unwritten) * conns ≡ i.outbox.own * conns + i.unwritten * conns = add-mul i.outbox.own i.unwritten conns in
      omega (arith, is, same, parts)

  requests_most : length s.state.cookies.requests ≤ kept
  requests_most = requests_few s.state st.requests.counted z.places (λ p. let same = st.requests.uses p in omega (arith, same))

  -- no request has more uses than a word of 32 bits counts
  pub uses_few : (place : ℕ) → uses_at place s.state.cookies < 4294967295
  uses_few place =
      let same = st.requests.uses place in
      let most = uses_most s.state place in
      let l : AreLimits i.outbox.session = limits i opening in
      let held = held_few i opening n s r st h in
      let wide = l.window in
      let many = l.conns in
      let own : i.outbox.own * conns ≤ 1024 * 64 = mul-le-mul opening.own many in
      let unwritten : i.unwritten * conns ≤ 1024 * 64 = mul-le-mul opening.unwritten many in
      omega (arith, same, most, held, wide, many, own, unwritten, own_few, unwritten_few, replies_few, replies_most, used_most, functions_few)

  -- there is room to tell of all commands
  pub room_to_tell : length s.state.commands.items + 2 * length (cids i) ≤ s.state.room
  room_to_tell =
      let few = few_commands s.state.commands z.commands in
      let is = z.commands_room in
      let room = st.sizes.room in
      omega (arith, few, is, room)

  -- a free place is one of those that there are
  pub placed : (place : ℕ) → next_place s.state.cookies ≡ Some place → IsPlaced s.state place
  placed place is =
      let there = last_there s.state.cookies.free place is in
      let low = z.places.low place (omega (arith, there)) in
      let high = z.places.high place (omega (arith, there)) in
      let room = z.room in
      let same = z.commands_room in
      record { low = low; high = omega (arith, high, room, same) }

  -- a place is free
  pub free : is_some (next_place s.state.cookies) ≡ true
  free =
      let held = held_few i opening n s r st h in
      let some = (limits i opening).some in
      place_free s.state.cookies z.places (omega (arith, requests_most, room_is, held, some, own_few, unwritten_few, replies_few, replies_most, used_most, functions_few))
