-- The commands that never start are completed, one after the other.
use Rattle.std.proofs.Common.{◌≡◌, ◌∙◌, ℕ, zero, suc, List, [], ◌∷◌, Option, Some, None, refl, sym, ap, subst}
use Rattle.iscsi_rules.specs.declared.event.Event.TheVariants.{Done}
use Rattle.iscsi_ffi_rules.specs.rules.Calls.{Interface}
use Rattle.iscsi_ffi_steps.specs.Walk.{Doing, in_state}
use Rattle.iscsi_ffi_steps.specs.Steps.{Going, changed, happening, status_of, withholding}
use Rattle.iscsi_ffi_desk.specs.Calls.{behind_first, first_of_withheld, first_withheld, popped_withheld}
use Rattle.iscsi_ffi.specs.Standing.{Begun, Sided}
use Rattle.iscsi_ffi.proofs.StandLemmas.{set_desk}

-- so many are to be completed at most, and that comes to the same as all of them did
pub record IsWithholding (i : Interface) (left all : ℕ) (v : Sided) (first : Going) : Type 0 where
  pub now : Going
  pub begun : Begun i v now
  pub same : withholding i left now ≡ withholding i all first

abbrev pair_of : Option (ℕ × ℕ) → ℕ × ℕ
pair_of (Some p) = p
pair_of None = (0, 0)

step : (i : Interface) (k : ℕ) (g : Going) (ticket status : ℕ) → first_withheld g.doing.state ≡ Some (ticket, status)
    → withholding i (suc k) g ≡ withholding i k (happening i None (Done ticket status) (record g { doing = popped_withheld g.doing }))
step i k g ticket status first = by_list g.doing.state.withheld refl first
  where
    by_list : (ws : List ℕ) → g.doing.state.withheld ≡ ws → first_of_withheld g.doing.state ws ≡ Some (ticket, status)
        → withholding i (suc k) g ≡ withholding i k (happening i None (Done ticket status) (record g { doing = popped_withheld g.doing }))
    by_list [] e f = cc
    by_list (w ∷ ws) e f =
        ap (λ (xs : List ℕ). elim xs as (λ (ys : List ℕ). Going) [
          | [] ↦ g
          | t ∷ ts ↦ withholding i k (happening i None (Done t (status_of g.doing.state t)) (changed (in_state (λ s. record s { withheld = ts })) g))
        ]) e
        ∙ ap (λ (p : ℕ × ℕ). withholding i k (happening i None (Done (p.0) (p.1)) (changed (in_state (λ s. record s { withheld = ws })) g))) (ap pair_of f)
        ∙ ap (λ (xs : List ℕ). withholding i k (happening i None (Done ticket status) (changed (in_state (λ s. record s { withheld = behind_first xs })) g))) (sym e)

-- there is none
pub stop : (i : Interface) (k : ℕ) (g : Going) → first_withheld g.doing.state ≡ None → withholding i k g ≡ g
stop i zero g none = refl
stop i (suc k) g none = by_list g.doing.state.withheld refl none
  where
    by_list : (ws : List ℕ) → g.doing.state.withheld ≡ ws → first_of_withheld g.doing.state ws ≡ None → withholding i (suc k) g ≡ g
    by_list [] e f =
        ap (λ (xs : List ℕ). elim xs as (λ (ys : List ℕ). Going) [
          | [] ↦ g
          | t ∷ ts ↦ withholding i k (happening i None (Done t (status_of g.doing.state t)) (changed (in_state (λ s. record s { withheld = ts })) g))
        ]) e
    by_list (w ∷ ws) e f = cc

-- none is left
all_completed : (i : Interface) (left all : ℕ) (v : Sided) (first : Going) → IsWithholding i left all v first → first_withheld v.desk.state ≡ None → Begun i v (withholding i all first)
all_completed i left all v first w none =
    let P : Going → Type 0 = λ x. Begun i v x in
    let here : first_withheld w.now.doing.state ≡ None = ap (λ (d : Doing). first_withheld d.state) (sym w.begun.stands.doing) ∙ none in
    subst P (sym (stop i left w.now here) ∙ w.same) w.begun

pub none_left : (i : Interface) (left all : ℕ) (v : Sided) (first : Going) → IsWithholding i left all v first → left ≡ 0 → Begun i v (withholding i all first)
none_left i left all v first w is =
    let P : Going → Type 0 = λ x. Begun i v x in
    subst P (ap (λ n. withholding i n w.now) (sym is) ∙ w.same) w.begun

-- one is taken, and will be completed
pub one_popped : (i : Interface) (left all : ℕ) (v : Sided) (first : Going) (d : Doing) → (w : IsWithholding i left all v first) → d ≡ popped_withheld v.desk
    → Begun i (record v { desk = d }) (record w.now { doing = popped_withheld w.now.doing })
one_popped i left all v first d w is = set_desk i v w.now d (popped_withheld w.now.doing) w.begun (is ∙ ap popped_withheld w.begun.stands.doing) refl

-- .. and it is
pub one_completed : (i : Interface) (left less all ticket status : ℕ) (v v' : Sided) (first : Going) → (w : IsWithholding i left all v first) → left ≡ suc less → first_withheld v.desk.state ≡ Some (ticket, status)
    → Begun i v' (happening i None (Done ticket status) (record w.now { doing = popped_withheld w.now.doing }))
    → IsWithholding i less all v' first
one_completed i left less all ticket status v v' first w one taken happened = record {
  now = happening i None (Done ticket status) (record w.now { doing = popped_withheld w.now.doing });
  begun = happened;
  same =
      sym (step i less w.now ticket status (ap (λ (d : Doing). first_withheld d.state) (sym w.begun.stands.doing) ∙ taken))
      ∙ ap (λ n. withholding i n w.now) (sym one) ∙ w.same;
}

popped_none : (d : Doing) → first_withheld d.state ≡ None → popped_withheld d ≡ d
popped_none d none = by_list d.state.withheld refl none
  where
    by_list : (ws : List ℕ) → d.state.withheld ≡ ws → first_of_withheld d.state ws ≡ None → popped_withheld d ≡ d
    by_list [] e f = ap (λ (xs : List ℕ). in_state (λ s. record s { withheld = behind_first xs }) d) e ∙ ap (λ (xs : List ℕ). in_state (λ s. record s { withheld = xs }) d) (sym e)
    by_list (w ∷ ws) e f = cc

-- none is left, and nothing was taken
pub all_completed_at : (i : Interface) (left all : ℕ) (v : Sided) (first : Going) (d : Doing) → IsWithholding i left all v first → first_withheld v.desk.state ≡ None → d ≡ popped_withheld v.desk
    → Begun i (record v { desk = d }) (withholding i all first)
all_completed_at i left all v first d w none is =
    let P : Doing → Type 0 = λ x. Begun i (record v { desk = x }) (withholding i all first) in
    subst P (sym (is ∙ popped_none v.desk none)) (all_completed i left all v first w none)
