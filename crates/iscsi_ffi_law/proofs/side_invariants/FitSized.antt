-- So each state of the steps has its sizes.
use Rattle.std.proofs.Common.{◌≡◌, ℕ, ◌-◌, ◌+◌, ◌*◌, ◌≤◌, length, Option, is_some, refl, arith}
use Rattle.std.proofs.lemmas.Bool.{cond_both, ltb-true}
use Rattle.std.proofs.lemmas.List.{length-map}
use Rattle.iscsi_ffi_commands.specs.Commands.{forgotten}
use Rattle.iscsi_ffi_commands.specs.Commands as commands
use Rattle.iscsi_ffi_rules.specs.rules.Calls.{Call, Interface}
use Rattle.iscsi_ffi_steps.specs.State.{State, opened, requests_room}
use Rattle.iscsi_ffi_steps.specs.Steps.{Side as StepsSide, after, called, ended}
use Rattle.iscsi_outbox_steps.specs.State.{limits_of}
use Rattle.iscsi_requests.specs.Conns.{count_all, of_conn}
use Rattle.iscsi_requests.specs.Cookies.{Cookies, is_used_on, last_cookie, removed, used_less, uses_at, with_uses}
use Rattle.iscsi_requests.specs.Functions.{without_number}
use Rattle.iscsi_requests.specs.declared.functions.WaitingFunction.{WaitingFunction}
use Rattle.iscsi_requests.specs.declared.replies.WaitingReply.{WaitingReply}
use Rattle.iscsi_ffi_law.proofs.side_invariants.FitPlaced.{ArePlaces, places_entered, places_less, places_opened, places_uses}
use Rattle.iscsi_ffi_law.proofs.side_invariants.FitSizes.{AreOfPlaces, commands_entered, commands_forgotten, commands_staged, count_none, count_popped, count_pushed, count_room, count_set, fewer_numbers, fewer_taken, room_same}
use Rattle.iscsi_ffi_law.proofs.side_invariants.FitStepCalls.{on_step}
use Rattle.iscsi_ffi_law.proofs.side_invariants.FitSteps.{StateWalk}

pub record AreSized (i : Interface) (s : State) : Type 0 where
  pub places : ArePlaces s.cookies
  pub room : s.cookies.room ≡ requests_room i.unwritten (limits_of i.outbox)
  pub commands : AreOfPlaces s.commands
  pub commands_room : s.commands.room ≡ requests_room i.unwritten (limits_of i.outbox)
  pub functions : count_all s.functions.waiting ≤ s.functions.room
  pub functions_room : s.functions.room ≡ 4 * length i.outbox.session.conns
  pub replies : count_all s.replies.waiting ≤ s.replies.room
  pub noted : count_all s.noted.handed ≤ s.noted.room
  pub unwritten : count_all s.unwritten.handed ≤ s.unwritten.room

module _ (i : Interface) where
  sized_walk : StateWalk (AreSized i)
  sized_walk = record {
    outbox = λ s x h. record { places = h.places; room = h.room; commands = h.commands; commands_room = h.commands_room; functions = h.functions; functions_room = h.functions_room; replies = h.replies; noted = h.noted; unwritten = h.unwritten };
    aside = λ s withheld awake over h. record { places = h.places; room = h.room; commands = h.commands; commands_room = h.commands_room; functions = h.functions; functions_room = h.functions_room; replies = h.replies; noted = h.noted; unwritten = h.unwritten };
    enters = λ s cookie place is h. record { places = places_entered cookie place s.cookies is h.places; room = h.room; commands = h.commands; commands_room = h.commands_room; functions = h.functions; functions_room = h.functions_room; replies = h.replies; noted = h.noted; unwritten = h.unwritten };
    used = λ s place h. record { places = places_uses (uses_at place s.cookies + 1) place s.cookies h.places; room = h.room; commands = h.commands; commands_room = h.commands_room; functions = h.functions; functions_room = h.functions_room; replies = h.replies; noted = h.noted; unwritten = h.unwritten };
    released = λ s request is h. record {
      places = places_less request s.cookies is h.places;
      room = less_room request s h.room;
      commands = cond_both (is_some (last_cookie request s.cookies)) (forgotten request s.commands) s.commands AreOfPlaces (λ gone. commands_forgotten request s.commands h.commands) (λ kept. h.commands);
      commands_room = cond_both (is_some (last_cookie request s.cookies)) (forgotten request s.commands) s.commands (λ (v : commands.Commands). v.room ≡ requests_room i.unwritten (limits_of i.outbox)) (λ gone. h.commands_room) (λ kept. h.commands_room);
      functions = h.functions;
      functions_room = h.functions_room;
      replies = h.replies;
      noted = h.noted;
      unwritten = h.unwritten;
    };
    held = λ s number x h. record { places = h.places; room = h.room; commands = h.commands; commands_room = h.commands_room; functions = h.functions; functions_room = h.functions_room; replies = h.replies; noted = h.noted; unwritten = h.unwritten };
    function_pushed = λ s conn f is h. record {
      places = h.places;
      room = h.room;
      commands = h.commands;
      commands_room = h.commands_room;
      functions = (let lt = ltb-true (count_all s.functions.waiting) s.functions.room is in omega (arith, lt, count_pushed s.functions.waiting conn f));
      functions_room = h.functions_room;
      replies = h.replies;
      noted = h.noted;
      unwritten = h.unwritten;
    };
    function_taken = λ s conn number h. record {
      places = h.places;
      room = h.room;
      commands = h.commands;
      commands_room = h.commands_room;
      functions = (let few = h.functions in omega (arith, few, count_set s.functions.waiting conn (without_number number (of_conn conn s.functions.waiting)), fewer_numbers number (of_conn conn s.functions.waiting)));
      functions_room = h.functions_room;
      replies = h.replies;
      noted = h.noted;
      unwritten = h.unwritten;
    };
    function_popped = λ s conn h. record { places = h.places; room = h.room; commands = h.commands; commands_room = h.commands_room; functions = (let few = h.functions in omega (arith, few, count_popped s.functions.waiting conn)); functions_room = h.functions_room; replies = h.replies; noted = h.noted; unwritten = h.unwritten };
    command_entered = λ s c may h. record { places = h.places; room = h.room; commands = commands_entered c s.commands may h.commands; commands_room = h.commands_room; functions = h.functions; functions_room = h.functions_room; replies = h.replies; noted = h.noted; unwritten = h.unwritten };
    staged = λ s stage ticket h. record { places = h.places; room = h.room; commands = commands_staged stage ticket s.commands h.commands; commands_room = h.commands_room; functions = h.functions; functions_room = h.functions_room; replies = h.replies; noted = h.noted; unwritten = h.unwritten };
    reply_pushed = λ s conn x is h. record {
      places = h.places;
      room = h.room;
      commands = h.commands;
      commands_room = h.commands_room;
      functions = h.functions;
      functions_room = h.functions_room;
      replies = (let lt = ltb-true (count_all s.replies.waiting) s.replies.room is in omega (arith, lt, count_pushed s.replies.waiting conn x));
      noted = h.noted;
      unwritten = h.unwritten;
    };
    reply_popped = λ s conn h. record { places = h.places; room = h.room; commands = h.commands; commands_room = h.commands_room; functions = h.functions; functions_room = h.functions_room; replies = (let few = h.replies in omega (arith, few, count_popped s.replies.waiting conn)); noted = h.noted; unwritten = h.unwritten };
    reply_taken = λ s place h. record { places = h.places; room = h.room; commands = h.commands; commands_room = h.commands_room; functions = h.functions; functions_room = h.functions_room; replies = (let few = h.replies in omega (arith, few, fewer_taken place s.replies.waiting)); noted = h.noted; unwritten = h.unwritten };
    noted_pushed = λ s conn x h. record { places = h.places; room = h.room; commands = h.commands; commands_room = h.commands_room; functions = h.functions; functions_room = h.functions_room; replies = h.replies; noted = (let few = count_room conn x s.noted h.noted in let same = room_same conn x s.noted in omega (arith, few, same)); unwritten = h.unwritten };
    noted_popped = λ s conn h. record { places = h.places; room = h.room; commands = h.commands; commands_room = h.commands_room; functions = h.functions; functions_room = h.functions_room; replies = h.replies; noted = (let few = h.noted in omega (arith, few, count_popped s.noted.handed conn)); unwritten = h.unwritten };
    unwritten_pushed = λ s conn x h. record { places = h.places; room = h.room; commands = h.commands; commands_room = h.commands_room; functions = h.functions; functions_room = h.functions_room; replies = h.replies; noted = h.noted; unwritten = (let few = count_room conn x s.unwritten h.unwritten in let same = room_same conn x s.unwritten in omega (arith, few, same)) };
    unwritten_popped = λ s conn h. record { places = h.places; room = h.room; commands = h.commands; commands_room = h.commands_room; functions = h.functions; functions_room = h.functions_room; replies = h.replies; noted = h.noted; unwritten = (let few = h.unwritten in omega (arith, few, count_popped s.unwritten.handed conn)) };
  }
    where
      less_room : (request : ℕ) (s : State) → s.cookies.room ≡ requests_room i.unwritten (limits_of i.outbox) → (used_less request s.cookies).room ≡ requests_room i.unwritten (limits_of i.outbox)
      less_room request s same = cond_both (is_used_on request s.cookies) (with_uses (uses_at request s.cookies - 1) request s.cookies) (removed request s.cookies) (λ (v : Cookies). v.room ≡ requests_room i.unwritten (limits_of i.outbox)) (λ more. same) (λ last. same)

  pub sized_begun : AreSized i (opened i)
  sized_begun = record {
    places = places_opened (requests_room i.unwritten (limits_of i.outbox));
    room = refl;
    commands = record { once = λ p. omega arith; within = tt };
    commands_room = refl;
    functions = omega (arith, count_none WaitingFunction (length (limits_of i.outbox).cids));
    functions_room = (let e = length-map i.outbox.session.conns (λ (c : ℕ × ℕ). c.0) in omega (arith, e));
    replies = omega (arith, count_none WaitingReply (length (limits_of i.outbox).cids));
    noted = omega (arith, count_none (Option ℕ) (length (limits_of i.outbox).cids));
    unwritten = omega (arith, count_none (Option ℕ) (length (limits_of i.outbox).cids));
  }

  pub sized_step : (s : StepsSide) (c : Call) → AreSized i s.state → AreSized i (after (ended (called i c s).going)).state
  sized_step s c h = on_step (AreSized i) sized_walk i s c h
