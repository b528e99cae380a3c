-- What holds of a desk holds of it with another state of its outbox.
use Rattle.std.proofs.Common.{◌≡◌, ℕ, ◌∙◌, ◌<◌, ◌≤◌, length, refl, sym, ap, subst, length-set}
use Rattle.iscsi_outbox_steps.specs.State.{Limits, State as OutboxState}
use Rattle.iscsi_requests.specs.Conns.{behind_oldest, of_conn}
use Rattle.iscsi_requests.specs.Unwritten.{Unwritten, popped}
use Rattle.iscsi_ffi_steps.specs.State.{State}
use Rattle.iscsi_ffi_steps.specs.Walk.{Doing}
use Rattle.iscsi_ffi_desk.specs.Kept.{IsDesk}

pub desk_over : (s : State) (o : OutboxState) {a f w : ℕ} → o.limits ≡ s.outbox.limits → IsDesk s a f w → IsDesk (record s { outbox = o }) a f w
desk_over s o {a = a} {f = f} {w = w} same k =
    let cids : length s.outbox.limits.cids ≡ length o.limits.cids = ap (λ (l : Limits). length l.cids) (sym same) in
    let P : ℕ → Type 0 = λ n. n ≤ 64 in
    record {
      few = subst P cids k.few;
      functions = k.functions ∙ cids;
      replies = k.replies ∙ cids;
      noted = k.noted ∙ cids;
      unwritten = k.unwritten ∙ cids;
      awake = k.awake ∙ cids;
      over = k.over ∙ cids;
      units = k.units ∙ ap (λ (l : Limits). l.units) (sym same);
      actions = k.actions;
      forgets = k.forgets;
      withheld = k.withheld;
    }

-- ---- the sizes of what is kept are the same

pub record SameSizes (s s' : State) : Type 0 where
  pub limits : s'.outbox.limits ≡ s.outbox.limits
  pub functions : length s'.functions.waiting ≡ length s.functions.waiting
  pub replies : length s'.replies.waiting ≡ length s.replies.waiting
  pub noted : length s'.noted.handed ≡ length s.noted.handed
  pub unwritten : length s'.unwritten.handed ≡ length s.unwritten.handed
  pub awake : length s'.awake ≡ length s.awake
  pub over : length s'.over ≡ length s.over
  pub units : s'.commands.units ≡ s.commands.units
  pub room : s'.room ≡ s.room

pub desk_as : (s s' : State) {a f w : ℕ} → SameSizes s s' → IsDesk s a f w → IsDesk s' a f w
desk_as s s' {a = a} {f = f} {w = w} same k =
    let cids : length s.outbox.limits.cids ≡ length s'.outbox.limits.cids = ap (λ (l : Limits). length l.cids) (sym same.limits) in
    let P : ℕ → Type 0 = λ n. n ≤ 64 in
    let A : ℕ → Type 0 = λ n. n ≤ a in
    let F : ℕ → Type 0 = λ n. n ≤ f in
    let W : ℕ → Type 0 = λ n. n ≤ w in
    record {
      few = subst P cids k.few;
      functions = same.functions ∙ k.functions ∙ cids;
      replies = same.replies ∙ k.replies ∙ cids;
      noted = same.noted ∙ k.noted ∙ cids;
      unwritten = same.unwritten ∙ k.unwritten ∙ cids;
      awake = same.awake ∙ k.awake ∙ cids;
      over = same.over ∙ k.over ∙ cids;
      units = same.units ∙ k.units ∙ ap (λ (l : Limits). l.units) (sym same.limits);
      actions = subst A (sym same.room) k.actions;
      forgets = subst F (sym same.room) k.forgets;
      withheld = subst W (sym same.room) k.withheld;
    }

-- an outbox goes on, and what was handed out first on a connection is written
pub desk_written : (s : State) (o : OutboxState) (u : Unwritten) (conn : ℕ) {a f w : ℕ} → o.limits ≡ s.outbox.limits → u ≡ popped conn s.unwritten
    → IsDesk s a f w → IsDesk (record s { outbox = o; unwritten = u }) a f w
desk_written s o u conn limits popped_is k = desk_as s (record s { outbox = o; unwritten = u }) (record {
  limits = limits;
  functions = refl;
  replies = refl;
  noted = refl;
  unwritten = ap (λ (v : Unwritten). length v.handed) popped_is ∙ length-set s.unwritten.handed conn (behind_oldest (of_conn conn s.unwritten.handed));
  awake = refl;
  over = refl;
  units = refl;
  room = refl;
}) k

-- a connection is one of the session's still
pub within_limits : (conn : ℕ) (d : Doing) (o : OutboxState) → o.limits ≡ d.state.outbox.limits → conn < length d.state.outbox.limits.cids → conn < length o.limits.cids
within_limits conn d o same within = let P : Limits → Type 0 = λ l. conn < length l.cids in subst P (sym same) within
