-- A command that ran is stopped: what stands for the commands then.
use Rattle.std.proofs.Common.{◌≡◌, ℕ, ◌&&◌, ◌||◌, inl, inr, not, cond, Bool, true, false, List, [], ◌∷◌, map, filter, refl, ap, sym, subst, ◌∙◌}
use Rattle.std.proofs.lemmas.Bool.{false≢true, true≢false}
use Rattle.iscsi_outbox_rules.specs.rules.Calls.{Opening}
use Rattle.iscsi_outbox_rules.specs.rules.Boxes.{Phase, Dormant, Fresh, Started, Completed, Running, Gone, Task, Box}
use Rattle.iscsi_outbox_rules.specs.rules.Words.{is_left_phase, is_live_phase, is_running_phase}
use Rattle.iscsi_outbox_state.specs.declared.lane.Left.{Left}
use Rattle.iscsi_outbox_state.specs.declared.lane.Aim.{Aim}
use Rattle.iscsi_outbox_state.specs.declared.lane.Aim.TheVariants.{Tag, Unit as OfUnit, Conn, Session, Nothing}
use Rattle.iscsi_outbox_state.specs.Lane.{aims_at, not_running, not_under_way, owes}
use Rattle.iscsi_outbox_steps.specs.State.{State}
use Rattle.iscsi_outbox_steps.specs.Steps.{is_live}
use Rattle.iscsi_tracked.specs.declared.command.Command.{Command}
use Rattle.iscsi_tracked.specs.declared.command.Phase.{Phase as KeptPhase}
use Rattle.iscsi_tracked.specs.declared.command.Phase.TheVariants.{Dormant as KeptDormant, Fresh as KeptFresh, Started as KeptStarted, Running as KeptRunning, Gone as KeptGone}
use Rattle.iscsi_tracked.specs.Tracked.{is_out}
use Rattle.iscsi_outbox_law.specs.private.Pairs.{PairsOf}
use Rattle.iscsi_outbox_law.specs.private.Commands.{IsCommand, is_kept, link_in}
use Rattle.iscsi_outbox_law.specs.private.Lanes.{left_of}
use Rattle.iscsi_outbox_law.specs.private.Stands.{StandsWith}
use Rattle.iscsi_outbox_law.proofs.general.Members.{In, in_filter, pair_of}
use Rattle.iscsi_outbox_law.proofs.queues.Waiting.{live_as}
use Rattle.iscsi_outbox_law.proofs.commands.LeftOut.{out_under}
use Rattle.iscsi_outbox_law.proofs.queues.Dues.{running_as}
use Rattle.iscsi_outbox_law.proofs.commands.Lessening.{KeepsAims}

-- ---- lists

pub filter_turn : {A : Type 0} (p : A → Bool) (g : A → A) (xs : List A) → ((x : A) → In x xs → p (g x) ≡ p x) → filter p (map g xs) ≡ map g (filter p xs)
filter_turn p g [] same = refl
filter_turn p g (x ∷ xs) same =
    let rest = filter_turn p g xs (λ y at. same y (inr at)) in
    ap (λ (v : Bool). cond v (g x ∷ filter p (map g xs)) (filter p (map g xs))) (same x (inl refl))
    ∙ elim (p x) as (λ v. cond v (g x ∷ filter p (map g xs)) (filter p (map g xs)) ≡ map g (cond v (x ∷ filter p xs) (filter p xs))) [ true ↦ ap (λ ys. g x ∷ ys) rest | false ↦ rest ]

-- all but those that pass q stay as they are, and those pass no more
pub filter_drop : {A : Type 0} (p q : A → Bool) (g : A → A) (xs : List A) → ((x : A) → In x xs → q x ≡ false → g x ≡ x) → ((x : A) → In x xs → q x ≡ true → p (g x) ≡ false) → filter p (map g xs) ≡ filter (λ x. not (q x)) (filter p xs)
filter_drop p q g [] same none = refl
filter_drop p q g (x ∷ xs) same none =
    let rest = filter_drop p q g xs (λ y at. same y (inr at)) (λ y at. none y (inr at)) in
    let dropped : q x ≡ true → filter p (map g (x ∷ xs)) ≡ filter (λ y. not (q y)) (filter p xs) = λ is. ap (λ (v : Bool). cond v (g x ∷ filter p (map g xs)) (filter p (map g xs))) (none x (inl refl) is) ∙ rest in
    let stays : q x ≡ false → filter p (map g (x ∷ xs)) ≡ cond (p x) (x ∷ filter p (map g xs)) (filter p (map g xs)) = λ isnt. ap (λ y. cond (p y) (y ∷ filter p (map g xs)) (filter p (map g xs))) (same x (inl refl) isnt) in
    elim (q x) as (λ v. q x ≡ v → filter p (map g (x ∷ xs)) ≡ filter (λ y. not (q y)) (cond (p x) (x ∷ filter p xs) (filter p xs))) [
      | true ↦ λ is. dropped is
          ∙ elim (p x) as (λ w. filter (λ y. not (q y)) (filter p xs) ≡ filter (λ y. not (q y)) (cond w (x ∷ filter p xs) (filter p xs))) [
            | true ↦ sym (ap (λ (u : Bool). cond (not u) (x ∷ filter (λ y. not (q y)) (filter p xs)) (filter (λ y. not (q y)) (filter p xs))) is)
            | false ↦ refl
          ]
      | false ↦ λ isnt. stays isnt
          ∙ elim (p x) as (λ w. cond w (x ∷ filter p (map g xs)) (filter p (map g xs)) ≡ filter (λ y. not (q y)) (cond w (x ∷ filter p xs) (filter p xs))) [
            | true ↦ ap (λ ys. x ∷ ys) rest ∙ sym (ap (λ (u : Bool). cond (not u) (x ∷ filter (λ y. not (q y)) (filter p xs)) (filter (λ y. not (q y)) (filter p xs))) isnt)
            | false ↦ rest
          ]
    ] refl

module _ {A B : Type 0} where
  pub pairs_turn_both : (R S : A → B → Type 0) (f : A → A) (g : B → B) (xs : List A) (ys : List B) → ((x : A) (y : B) → In x xs → In y ys → R x y → S (f x) (g y)) → PairsOf R xs ys → PairsOf S (map f xs) (map g ys)
  pairs_turn_both R S f g [] [] k h = tt
  pairs_turn_both R S f g (x ∷ xs) (y ∷ ys) k h = (k x y (inl refl) (inl refl) h.0, pairs_turn_both R S f g xs ys (λ v w at for. k v w (inr at) (inr for)) h.1)
  pairs_turn_both R S f g [] (y ∷ ys) k h = absurd h
  pairs_turn_both R S f g (x ∷ xs) [] k h = absurd h

  pub pairs_filter_in : (R : A → B → Type 0) (p : A → Bool) (q : B → Bool) (xs : List A) (ys : List B) → ((x : A) (y : B) → In x xs → In y ys → R x y → p x ≡ q y) → PairsOf R xs ys → PairsOf R (filter p xs) (filter q ys)
  pairs_filter_in R p q [] [] f h = tt
  pairs_filter_in R p q (x ∷ xs) (y ∷ ys) f h =
      let rest : PairsOf R (filter p xs) (filter q ys) = pairs_filter_in R p q xs ys (λ v w at for. f v w (inr at) (inr for)) h.1 in
      subst (λ (v : Bool). PairsOf R (cond v (x ∷ filter p xs) (filter p xs)) (cond (q y) (y ∷ filter q ys) (filter q ys))) (sym (f x y (inl refl) (inl refl) h.0))
      (elim (q y) as (λ v. PairsOf R (cond v (x ∷ filter p xs) (filter p xs)) (cond v (y ∷ filter q ys) (filter q ys))) [ true ↦ (h.0, rest) | false ↦ rest ])
  pairs_filter_in R p q [] (y ∷ ys) f h = absurd h
  pairs_filter_in R p q (x ∷ xs) [] f h = absurd h

-- ---- phases

pub runs : (p : KeptPhase) → (elim p as (λ (q : KeptPhase). Bool) [ KeptRunning ↦ true | KeptDormant ↦ false | KeptFresh ↦ false | KeptStarted ↦ false | KeptGone ↦ false ]) ≡ true → p ≡ KeptRunning
runs KeptDormant is = absurd (false≢true is)
runs KeptFresh is = absurd (false≢true is)
runs KeptStarted is = absurd (false≢true is)
runs KeptRunning is = refl
runs KeptGone is = absurd (false≢true is)

-- a command that left owes
pub dead_owes : (under : ℕ → Bool) (o : Opening) (s : State) (b : Box) → StandsWith under o s b → (d : Command) → In d s.tracked.commands → is_live d ≡ false → owes (left_of d) ≡ true
dead_owes under o s b h d at dead =
    let k : (t : Task) × In t (filter (is_kept under) b.tasks) × IsCommand under s.limits.cids b.links d t =
    pair_of (IsCommand under s.limits.cids b.links) s.tracked.commands (filter (is_kept under) b.tasks) d at h.commands in
    let f = in_filter (is_kept under) b.tasks k.0 k.1 in
    ap (λ (v : Bool). v || is_out d) (running_as d k.0 k.2.phase)
    ∙ ap (λ (v : Bool). is_running_phase k.0.phase || v) (out_under under d.ticket (link_in b.links d.conn) (d.last_out) k.2.out ∙ ap under k.2.ticket)
    ∙ owing_phase k.0.phase (under k.0.ticket) f.1 (sym (live_as d k.0 k.2.phase) ∙ dead)
  where
    owing_phase : (p : Phase) (u : Bool) → (is_live_phase p || (is_running_phase p || (is_left_phase p && u))) ≡ true → is_live_phase p ≡ false → (is_running_phase p || u) ≡ true
    owing_phase Dormant u kept gone = absurd (true≢false gone)
    owing_phase Fresh u kept gone = absurd (true≢false gone)
    owing_phase Started u kept gone = absurd (true≢false gone)
    owing_phase Completed u kept gone = absurd (false≢true kept)
    owing_phase Running u kept gone = refl
    owing_phase Gone u kept gone = kept

aims_same : (aim : Aim) (d : Left) → aims_at aim (not_running d) ≡ aims_at aim d
aims_same (Tag tag) d = refl
aims_same (OfUnit unit) d = refl
aims_same (Conn conn) d = refl
aims_same Session d = refl
aims_same Nothing d = refl

pub keeps_not_running : KeepsAims not_running
keeps_not_running = record { command = λ d. refl; aims = aims_same }

aims_same_out : (aim : Aim) (d : Left) → aims_at aim (not_under_way d) ≡ aims_at aim d
aims_same_out (Tag tag) d = refl
aims_same_out (OfUnit unit) d = refl
aims_same_out (Conn conn) d = refl
aims_same_out Session d = refl
aims_same_out Nothing d = refl

pub keeps_not_under_way : KeepsAims not_under_way
keeps_not_under_way = record { command = λ d. refl; aims = aims_same_out }
