-- The end of a call that told something, and in which several uses have ended; what is told where there is room.
use Rattle.std.proofs.Common.{◌≡◌, ℕ, ◌+◌, ◌*◌, ◌≤◌, cond, List, [], ◌∷◌, ◌++◌, length, Option, Some, None, refl, ap, sym, ◌∙◌, arith, append_assoc, length-append, lt-ltb}
use Rattle.std.proofs.lemmas.Bool.{cond_both}
use Rattle.std.proofs.lemmas.List.{append-nil}
use Rattle.iscsi_outbox_steps.specs.State.{State as OutboxState}
use Rattle.iscsi_requests.specs.Cookies.{has_place}
use Rattle.iscsi_ffi_rules.specs.declared.action.Action.{Action}
use Rattle.iscsi_ffi_rules.specs.rules.Calls.{Interface}
use Rattle.iscsi_ffi_rules.specs.rules.Run.{cids}
use Rattle.iscsi_ffi_rules.specs.rules.Sides.{Side}
use Rattle.iscsi_ffi_steps.specs.State.{State}
use Rattle.iscsi_ffi_steps.specs.Steps.{Going}
use Rattle.iscsi_ffi_steps.specs.Walk.{Doing, in_state, release_if, release_one, tell_all}
use Rattle.iscsi_ffi_law.specs.Names.{Name, Note}
use Rattle.iscsi_ffi_law.proofs.calls.Ends.{EndsAlike}
use Rattle.iscsi_ffi_law.proofs.calls.Finish.{IsAtEnd, stands_ended, tells_alike}
use Rattle.iscsi_ffi_law.proofs.calls.Moved.{commands_known}
use Rattle.iscsi_ffi_law.proofs.requests.Releases.{all_released, endings, releases}
use Rattle.iscsi_ffi_law.proofs.requests.Releasing.{Released}

-- ---- the end of a call that told something, and in which several uses have ended

pub ends_with : (i : Interface) (names : List Name) (notes : List Note) (gone : ℕ → List (Option ℕ)) (xs : List (Option ℕ)) (acts : List Action) (s : State) (r : Side) → IsAtEnd i names notes (endings xs) gone s r → length xs ≤ s.room → length acts + 2 * length (cids i) ≤ s.room
    → (g : Going) → g.doing ≡ releases xs (record { state = s; actions = acts; forgets = [] }) → g.event ≡ r.both.event → g.trace ≡ r.both.trace → EndsAlike i g r acts
ends_with i names notes gone xs acts s r e room short g doing event trace =
    let rel : Released s acts (releases xs (record { state = s; actions = acts; forgets = [] }))
    = all_released s acts e.requests.counted (commands_known names notes (endings xs) gone s r e.requests) xs room e.requests.uses in
    record {
      tells = tells_alike i names notes (endings xs) gone s r e rel.cookies rel.forgets acts rel.released short g (doing ∙ rel.is) event trace;
      stands = stands_ended i names notes (endings xs) gone s r e rel.cookies rel.forgets acts rel.released short g (doing ∙ rel.is) event trace;
    }

-- what has room is told
pub told_all : (acts : List Action) (d : Doing) → length d.actions + length acts ≤ d.state.room → tell_all acts d ≡ record d { actions = d.actions ++ acts }
told_all [] d room = ap (λ xs. record d { actions = xs }) (sym (append-nil d.actions))
told_all (a ∷ acts) d room =
    ap (λ v. tell_all acts (record d { actions = cond v (d.actions ++ a ∷ []) d.actions })) (lt-ltb (length d.actions) d.state.room (omega (arith, room)))
    ∙ told_all acts (record d { actions = d.actions ++ a ∷ [] }) (let more = length-append d.actions (a ∷ []) in omega (arith, room, more))
    ∙ ap (λ xs. record d { actions = xs }) (append_assoc d.actions (a ∷ []) acts)

-- a use that ends has nothing to do with the outbox
pub released_out : (x : Option ℕ) (o : OutboxState) (d : Doing) → in_state (λ s. record s { outbox = o }) (release_if x d) ≡ release_if x (in_state (λ s. record s { outbox = o }) d)
released_out None o d = refl
released_out (Some place) o d =
    cond_both (has_place place d.state.cookies) (release_one place d) d (λ (e : Doing). in_state (λ s. record s { outbox = o }) e ≡ release_if (Some place) (in_state (λ s. record s { outbox = o }) d))
    (λ has. sym (ap (λ v. cond v (release_one place (in_state (λ s. record s { outbox = o }) d)) (in_state (λ s. record s { outbox = o }) d)) has))
    (λ none. sym (ap (λ v. cond v (release_one place (in_state (λ s. record s { outbox = o }) d)) (in_state (λ s. record s { outbox = o }) d)) none))

released_same : (x : Option ℕ) (d : Doing) → (release_if x d).state.outbox ≡ d.state.outbox
released_same None d = refl
released_same (Some k) d = cond_both (has_place k d.state.cookies) (release_one k d) d (λ (e : Doing). e.state.outbox ≡ d.state.outbox) (λ has. refl) (λ isnt. refl)

released_held : (x : Option ℕ) (d : Doing) → (release_if x d).state.withheld ≡ d.state.withheld
released_held None d = refl
released_held (Some k) d = cond_both (has_place k d.state.cookies) (release_one k d) d (λ (e : Doing). e.state.withheld ≡ d.state.withheld) (λ has. refl) (λ isnt. refl)

pub all_released_out : (xs : List (Option ℕ)) (o : OutboxState) (d : Doing) → in_state (λ s. record s { outbox = o }) (releases xs d) ≡ releases xs (in_state (λ s. record s { outbox = o }) d)
all_released_out [] o d = refl
all_released_out (x ∷ xs) o d = all_released_out xs o (release_if x d) ∙ ap (releases xs) (released_out x o d)

pub all_released_same : (xs : List (Option ℕ)) (d : Doing) → (releases xs d).state.outbox ≡ d.state.outbox
all_released_same [] d = refl
all_released_same (x ∷ xs) d = all_released_same xs (release_if x d) ∙ released_same x d

pub all_released_held : (xs : List (Option ℕ)) (d : Doing) → (releases xs d).state.withheld ≡ d.state.withheld
all_released_held [] d = refl
all_released_held (x ∷ xs) d = all_released_held xs (release_if x d) ∙ released_held x d
