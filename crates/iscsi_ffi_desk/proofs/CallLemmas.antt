-- Calls of a desk by which nothing changes in one of its parts.
use Rattle.std.proofs.Common.{◌≡◌, ℕ, List, Option, Some, None, sym, ap, ◌∙◌}
use Rattle.iscsi_requests.specs.Conns.{of_conn, oldest}
use Rattle.iscsi_requests.specs.Replies.{WaitingReplies, taken}
use Rattle.iscsi_requests.specs.Unwritten.{Unwritten, popped}
use Rattle.iscsi_ffi_steps.specs.Walk.{Doing, in_state, release_if}
use Rattle.iscsi_ffi_steps.specs.Steps.{write_on}
use Rattle.iscsi_ffi_desk.proofs.DropLemmas.{none_goes}

-- nothing was handed out there: nothing is written
pub nothing_written : (conn : ℕ) (d : Doing) (u : Unwritten) → u ≡ popped conn d.state.unwritten → oldest (of_conn conn d.state.unwritten.handed) ≡ None
    → in_state (λ s. record s { unwritten = u }) d ≡ write_on conn d
nothing_written conn d u is none =
    ap (λ (v : Unwritten). in_state (λ s. record s { unwritten = v }) d)
    (is ∙ ap (λ (lists : List (List (Option ℕ))). record d.state.unwritten { handed = lists }) (none_goes conn d.state.unwritten.handed none))
    ∙ sym (ap (λ (o : Option (Option ℕ)). elim o as (λ (q : Option (Option ℕ)). Doing) [
      | Some request ↦ release_if request (in_state (λ s. record s { unwritten = popped conn s.unwritten }) d)
      | None ↦ d
    ]) none)

-- the replies that wait are the same without one that isn't there
pub stays_replied : (d : Doing) (log_place : ℕ) → d.state.replies ≡ taken log_place d.state.replies → d ≡ in_state (λ s. record s { replies = taken log_place s.replies }) d
stays_replied d log_place e = ap (λ (v : WaitingReplies). in_state (λ s. record s { replies = v }) d) e
