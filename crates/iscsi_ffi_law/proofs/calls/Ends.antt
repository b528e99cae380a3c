-- A call that takes off one use at the most, and then ends.
use Rattle.std.proofs.Common.{◌≡◌, ℕ, ◌*◌, ◌<◌, ◌≤◌, List, [], length, Option, None, refl, ◌∙◌, arith, true}
use Rattle.iscsi_outbox_law.specs.private.Stands.{Stands as OutboxStands}
use Rattle.iscsi_outbox_rules.specs.rules.Boxes.{Box}
use Rattle.iscsi_outbox_steps.specs.State.{State as OutboxState}
use Rattle.iscsi_outbox_steps.specs.Steps.{is_running_ticket}
use Rattle.iscsi_ffi_rules.specs.declared.action.Action.{Action}
use Rattle.iscsi_ffi_rules.specs.rules.Calls.{Interface}
use Rattle.iscsi_ffi_rules.specs.rules.Run as rules
use Rattle.iscsi_ffi_rules.specs.rules.Run.{cids}
use Rattle.iscsi_ffi_rules.specs.rules.Sides.{Side}
use Rattle.iscsi_ffi_steps.specs.State.{State}
use Rattle.iscsi_ffi_steps.specs.Steps.{Going, Side as StepsSide, after, ended, told, Answered}
use Rattle.iscsi_ffi_steps.specs.Walk.{release_if}
use Rattle.iscsi_ffi_law.specs.Alike.{TellAlike, said}
use Rattle.iscsi_ffi_law.specs.Fit.{IsFit}
use Rattle.iscsi_ffi_law.specs.Names.{Name, Note}
use Rattle.iscsi_ffi_law.specs.Stands.{Stands}
use Rattle.iscsi_ffi_law.proofs.calls.Finish.{IsAtEnd, stands_ended, tells_alike}
use Rattle.iscsi_ffi_law.proofs.calls.Moved.{IsMoved, commands_known, requests_moved, with_box, with_outbox}
use Rattle.iscsi_ffi_law.proofs.requests.Releasing.{Released, ending, released_if}
use Rattle.iscsi_rules.specs.rules.Settings.{are_distinct}
use Rattle.iscsi_outbox_law.specs.private.Sound.{IsSound}
use Rattle.iscsi_outbox_law.specs.rules.Room.{AreFew}
use Rattle.iscsi_ffi_law.proofs.requests.Releases.{all_released, endings, releases}

pub record EndsAlike (i : Interface) (g : Going) (r : Side) (acts : List Action) : Type 0 where
  pub tells : TellAlike (told (ended g)) (rules.ended i (record { side = r; actions = acts })).actions
  pub stands : Stands i (after (ended g)) (rules.ended i (record { side = r; actions = acts })).side

-- what the steps answer and tell, and what the rules do
pub record GoesTo (i : Interface) (by_steps : Answered) (by_rules : rules.Answered) : Type 0 where
  pub answer : by_steps.answer ≡ said by_rules.answer
  pub tells : TellAlike (told (ended by_steps.going)) (rules.ended i by_rules.told).actions
  pub stands : Stands i (after (ended by_steps.going)) (rules.ended i by_rules.told).side

pub ends_alike : (i : Interface) (names : List Name) (notes : List Note) (gone : ℕ → List (Option ℕ)) (x : Option ℕ) (s : State) (r : Side) → IsAtEnd i names notes (ending x) gone s r → 0 < length (cids i)
    → (g : Going) → g.doing ≡ release_if x (record { state = s; actions = []; forgets = [] }) → g.event ≡ r.both.event → g.trace ≡ r.both.trace → EndsAlike i g r []
ends_alike i names notes gone x s r e some g doing event trace =
    let room : 2 * length (cids i) ≤ s.room = omega (arith, e.sizes.room) in
    let rel : Released s [] (release_if x (record { state = s; actions = []; forgets = [] }))
    = released_if s [] e.requests.counted (commands_known names notes (ending x) gone s r e.requests) x (omega (arith, room, some)) e.requests.uses in
    record {
      tells = tells_alike i names notes (ending x) gone s r e rel.cookies rel.forgets [] rel.released (omega (arith, room)) g (doing ∙ rel.is) event trace;
      stands = stands_ended i names notes (ending x) gone s r e rel.cookies rel.forgets [] rel.released (omega (arith, room)) g (doing ∙ rel.is) event trace;
    }

-- of the box that a call leaves
pub record IsLeft (i : Interface) (b : Box) : Type 0 where
  pub distinct : are_distinct i.outbox.session.conns ≡ true
  pub some : 0 < length (cids i)
  pub sound : IsSound i.outbox b
  pub few : AreFew b

pub left_fit : (i : Interface) (found b : Box) → IsFit i found b → IsLeft i b
left_fit i found b fit = record { distinct = fit.distinct; some = fit.some; sound = fit.sound_after; few = fit.short.handed }

pub found_fit : (i : Interface) (b left : Box) → IsFit i b left → IsLeft i b
found_fit i b left fit = record { distinct = fit.distinct; some = fit.some; sound = fit.sound; few = fit.few }

-- only the outbox is another one
pub moved_ends : (i : Interface) (s : StepsSide) (r : Side) (h : Stands i s r) (o : OutboxState) (b : Box) → IsLeft i b → OutboxStands i.outbox o b → o.tracked.last ≤ length b.tasks
    → ((ticket : ℕ) → is_running_ticket ticket o ≡ is_running_ticket ticket s.state.outbox) → IsMoved h.names s.state r b
    → EndsAlike i (record { event = s.event; trace = s.trace; doing = record { state = with_outbox s.state o; actions = []; forgets = [] } }) (with_box r b) []
moved_ends i s r h o b fit stands tracked runs moved =
    ends_alike i h.names h.notes (λ p. []) None (with_outbox s.state o) (with_box r b) (record {
      outbox = stands;
      sound = fit.sound;
      few = fit.few;
      distinct = fit.distinct;
      sizes = record { room = h.sizes.room; functions = h.sizes.functions; replies = h.sizes.replies; noted = h.sizes.noted; unwritten = h.sizes.unwritten; noted_room = h.sizes.noted_room; unwritten_room = h.sizes.unwritten_room; replies_room = h.sizes.replies_room; slots = h.sizes.slots; few = h.sizes.few };
      flags = record { awake = h.flags.awake; over = h.flags.over };
      requests = requests_moved h.names h.notes (λ place. 0) (λ p. []) s.state r h.requests o b runs moved;
      counts = record { units = h.counts.units; last = h.counts.last; tracked = tracked };
      withheld = h.withheld;
      calm = h.calm;
      slots = h.slots;
      functions = h.functions;
    }) fit.some (record { event = s.event; trace = s.trace; doing = record { state = with_outbox s.state o; actions = []; forgets = [] } }) refl h.event h.trace

-- several uses have ended
pub all_end : (i : Interface) (names : List Name) (notes : List Note) (gone : ℕ → List (Option ℕ)) (xs : List (Option ℕ)) (s : State) (r : Side) → IsAtEnd i names notes (endings xs) gone s r → length xs ≤ s.room
    → (g : Going) → g.doing ≡ releases xs (record { state = s; actions = []; forgets = [] }) → g.event ≡ r.both.event → g.trace ≡ r.both.trace → EndsAlike i g r []
all_end i names notes gone xs s r e room g doing event trace =
    let enough : 2 * length (cids i) ≤ s.room = omega (arith, e.sizes.room) in
    let rel : Released s [] (releases xs (record { state = s; actions = []; forgets = [] }))
    = all_released s [] e.requests.counted (commands_known names notes (endings xs) gone s r e.requests) xs room e.requests.uses in
    record {
      tells = tells_alike i names notes (endings xs) gone s r e rel.cookies rel.forgets [] rel.released (omega (arith, enough)) g (doing ∙ rel.is) event trace;
      stands = stands_ended i names notes (endings xs) gone s r e rel.cookies rel.forgets [] rel.released (omega (arith, enough)) g (doing ∙ rel.is) event trace;
    }
