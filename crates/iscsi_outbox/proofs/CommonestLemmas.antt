-- The commonest events, whole.
use Rattle.std.proofs.Common.{◌≡◌, ◌<◌, ◌≤◌, ◌∙◌, ◌||◌, ℕ, Bool, true, false, not, cond, List, [], ◌∷◌, length, get_or, Option, Some, None, refl, sym, ap, arith, eq-eqb}
use Rattle.iscsi_tracked.specs.declared.command.Command.{Command}
use Rattle.iscsi_tracked.specs.declared.command.Phase.{Phase}
use Rattle.iscsi_tracked.specs.declared.command.Phase.TheVariants.{Dormant, Fresh, Started, Running, Gone}
use Rattle.iscsi_tracked.specs.Tracked.{find_ticket, in_phase, is_at, to_phase, with_command}
use Rattle.iscsi_outbox_state.specs.Lane.{Lane, count_in, is_left}
use Rattle.iscsi_outbox_law.proofs.commands.TrackedChanges.{keeps_phase}
use Rattle.iscsi_outbox_law.proofs.commands.TrackedLemmas.{at_place, ticket_changed}
use Rattle.iscsi_outbox_steps.specs.State.{State}
use Rattle.iscsi_outbox_steps.specs.Steps.{in_phase_if, is_dormant, is_fresh, settle, settled}
use Rattle.iscsi_outbox.specs.private.Walks.{is_in, is_same_phase}

-- the phase from which a command is enabled
dormant_is : (p : Phase) → is_same_phase p Dormant ≡ (elim p as (λ (q : Phase). Bool) [ Dormant ↦ true | Fresh ↦ false | Started ↦ false | Running ↦ false | Gone ↦ false ])
dormant_is Dormant = refl
dormant_is Fresh = refl
dormant_is Started = refl
dormant_is Running = refl
dormant_is Gone = refl

pub fresh_if : (ticket : ℕ) (s : State) → in_phase_if (is_in Dormant) Fresh ticket s ≡ in_phase_if is_dormant Fresh ticket s
fresh_if ticket s = ap (λ (test : Command → Bool). in_phase_if test Fresh ticket s) (λ i c. dormant_is c.phase i)

pub or_none : (b : Bool) → (b || false) ≡ b
or_none true = refl
or_none false = refl

-- .. and the one from which it is started
fresh_is : (p : Phase) → is_same_phase p Fresh ≡ (elim p as (λ (q : Phase). Bool) [ Fresh ↦ true | Dormant ↦ false | Started ↦ false | Running ↦ false | Gone ↦ false ])
fresh_is Dormant = refl
fresh_is Fresh = refl
fresh_is Started = refl
fresh_is Running = refl
fresh_is Gone = refl

pub started_if : (ticket : ℕ) (s : State) → in_phase_if (is_in Fresh) Started ticket s ≡ in_phase_if is_fresh Started ticket s
started_if ticket s = ap (λ (test : Command → Bool). in_phase_if test Started ticket s) (λ i c. fresh_is c.phase i)

module _ {A : Type 0} where
  pub two_of : (d e : A) (xs : List A) (a b : A) → 2 ≤ length xs → length xs < 3 → get_or xs 0 d ≡ a → get_or xs 1 e ≡ b → xs ≡ a ∷ b ∷ []
  two_of d e [] a b low high p q = absurd (omega (arith, low))
  two_of d e (x ∷ []) a b low high p q = absurd (omega (arith, low))
  two_of d e (x ∷ y ∷ []) a b low high p q = ap (λ z. z ∷ y ∷ []) p ∙ ap (λ z. a ∷ z ∷ []) q
  two_of d e (x ∷ y ∷ z ∷ zs) a b low high p q = absurd (omega (arith, high))

  pub three_of : (d e f : A) (xs : List A) (a b c : A) → 3 ≤ length xs → length xs < 4 → get_or xs 0 d ≡ a → get_or xs 1 e ≡ b → get_or xs 2 f ≡ c → xs ≡ a ∷ b ∷ c ∷ []
  three_of d e f [] a b c low high p q r = absurd (omega (arith, low))
  three_of d e f (x ∷ xs) a b c low high p q r =
      let less : 2 ≤ length xs = omega (arith, low) in
      let few : length xs < 3 = omega (arith, high) in
      ap (λ z. z ∷ xs) p ∙ ap (λ zs. a ∷ zs) (two_of e f xs b c less few q r)

-- ---- a command is enabled and started at once

no_left : (a b : Bool) → (a || b) ≡ false → a ≡ false
no_left true b e = e
no_left false b e = refl

no_right : (a b : Bool) → (a || b) ≡ false → b ≡ false
no_right true b e = cc
no_right false b e = e

twice_in : (place : ℕ) (cs : List Command) → with_command (to_phase Started) place (with_command (to_phase Fresh) place cs) ≡ with_command (to_phase Started) place cs
twice_in place [] = refl
twice_in place (c ∷ cs) =
    ap (λ (d : Command). d ∷ with_command (to_phase Started) place (with_command (to_phase Fresh) place cs)) first
    ∙ ap (λ (ds : List Command). cond (is_at place c) (to_phase Started c) c ∷ ds) (twice_in place cs)
  where
    first : at_place (to_phase Started) place (at_place (to_phase Fresh) place c) ≡ at_place (to_phase Started) place c
    first = elim (is_at place c) as (λ v. is_at place c ≡ v → at_place (to_phase Started) place (cond v (to_phase Fresh c) c) ≡ at_place (to_phase Started) place c) [
      | true ↦ λ is. ap (λ b. cond b (to_phase Started c) (to_phase Fresh c)) is ∙ sym (ap (λ b. cond b (to_phase Started c) c) is)
      | false ↦ λ isnt. refl
    ] refl

module _ (ticket : ℕ) (s : State) where
  abbrev by_found : (Command → Bool) → Phase → State → Option Command → State
  by_found test phase t o = elim o as (λ (q : Option Command). State) [ Some c ↦ cond (test c) (record t { tracked = in_phase phase c.place t.tracked }) t | None ↦ t ]

  abbrev both : State
  both = in_phase_if is_fresh Started ticket (in_phase_if is_dormant Fresh ticket s)

  pub none_starts : find_ticket ticket s.tracked ≡ None → both ≡ s
  none_starts none = ap (in_phase_if is_fresh Started ticket) (ap (by_found is_dormant Fresh s) none) ∙ ap (by_found is_fresh Started s) none

  module _ (c : Command) (found : find_ticket ticket s.tracked ≡ Some c) where
    abbrev once : State
    once = record s { tracked = in_phase Fresh c.place s.tracked }

    abbrev started : State
    started = record s { tracked = in_phase Started c.place s.tracked }

    found_again : find_ticket ticket once.tracked ≡ Some (to_phase Fresh c)
    found_again =
        ticket_changed (to_phase Fresh) (keeps_phase Fresh) c.place ticket s.tracked.commands
        ∙ ap (λ (x : Option Command). elim x as (λ (y : Option Command). Option Command) [ Some d ↦ Some (at_place (to_phase Fresh) c.place d) | None ↦ None ]) found
        ∙ ap (λ (w : Bool). Some (cond w (to_phase Fresh c) c)) (eq-eqb c.place c.place refl)

    dormant_starts : is_dormant c ≡ true → both ≡ started
    dormant_starts is =
        ap (in_phase_if is_fresh Started ticket) (ap (by_found is_dormant Fresh s) found ∙ ap (λ b. cond b once s) is)
        ∙ ap (by_found is_fresh Started once) found_again
        ∙ ap (λ (cs : List Command). record s { tracked = record s.tracked { commands = cs } }) (twice_in c.place s.tracked.commands)

    rests : is_dormant c ≡ false → in_phase_if is_dormant Fresh ticket s ≡ s
    rests isnt = ap (by_found is_dormant Fresh s) found ∙ ap (λ b. cond b once s) isnt

    fresh_starts : is_dormant c ≡ false → is_fresh c ≡ true → both ≡ started
    fresh_starts isnt is = ap (in_phase_if is_fresh Started ticket) (rests isnt) ∙ ap (by_found is_fresh Started s) found ∙ ap (λ b. cond b started s) is

    pub one_starts : (is_dormant c || is_fresh c) ≡ true → both ≡ started
    one_starts = elim (is_dormant c) as (λ v. is_dormant c ≡ v → (v || is_fresh c) ≡ true → both ≡ started) [
      | true ↦ λ is either. dormant_starts is
      | false ↦ λ isnt either. fresh_starts isnt either
    ] refl

    pub none_is_started : (is_dormant c || is_fresh c) ≡ false → both ≡ s
    none_is_started neither =
        ap (in_phase_if is_fresh Started ticket) (rests (no_left (is_dormant c) (is_fresh c) neither))
        ∙ ap (by_found is_fresh Started s) found ∙ ap (λ b. cond b started s) (no_right (is_dormant c) (is_fresh c) neither)

  lane_same : (in_phase_if is_dormant Fresh ticket s).lane ≡ s.lane
  lane_same = by_found_lane (find_ticket ticket s.tracked)
    where
      by_test : (c : Command) (b : Bool) → (cond b (record s { tracked = in_phase Fresh c.place s.tracked }) s).lane ≡ s.lane
      by_test c true = refl
      by_test c false = refl

      by_found_lane : (o : Option Command) → (by_found is_dormant Fresh s o).lane ≡ s.lane
      by_found_lane (Some c) = by_test c (is_dormant c)
      by_found_lane None = refl

  -- where no answer waits, none becomes due
  pub none_due : count_in (λ x. not (is_left x)) s.lane ≡ 0 → settle (in_phase_if is_dormant Fresh ticket s) ≡ in_phase_if is_dormant Fresh ticket s
  none_due none = ap (λ n. settled n (in_phase_if is_dormant Fresh ticket s)) (ap (λ (v : Lane). count_in (λ x. not (is_left x)) v) lane_same ∙ none)
