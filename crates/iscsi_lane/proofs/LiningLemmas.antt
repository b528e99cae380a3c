-- Lines that follow the log, as one comes and as a command owes less; and of which answers they don't tell.
use Rattle.std.proofs.Common.{◌≡◌, ℕ, ◌+◌, ◌<◌, ◌≤◌, cond, true, false, List, [], ◌∷◌, ◌++◌, length, map, set, filter, refl, ap, sym, subst, ◌∙◌, arith, ⊎_elim}
use Rattle.std.proofs.lemmas.Bool.{cases_Bool, cases_eq}
use Rattle.std.proofs.lemmas.List.{get_or-set_same, get_or-set_other}
use Rattle.iscsi_slots.specs.Slots.{times}
use Rattle.iscsi_lists.specs.Lists.{AreApart, Listed, linked_in, with_last, without}
use Rattle.iscsi_lists.proofs.WithoutLemmas.{without_none}
use Rattle.iscsi_outbox_state.specs.declared.lane.Aim.TheVariants.{Tag, Unit as AtUnit}
use Rattle.iscsi_outbox_state.specs.declared.lane.Left.{Left}
use Rattle.iscsi_outbox_state.specs.declared.lane.Standing.{Standing}
use Rattle.iscsi_outbox_state.specs.declared.lane.Standing.TheVariants.{Left as IsLeft}
use Rattle.iscsi_outbox_state.specs.Lane.{owes}
use Rattle.iscsi_scopes.specs.Scopes.{slots_of}
use Rattle.iscsi_lane.specs.declared.lines.Lines.{Lines}
use Rattle.iscsi_lane.specs.Standings.{NOBODY, at, slots_at}
use Rattle.iscsi_lane.specs.Scoping.{Mirrors, is_untold, told, untold_at}
use Rattle.iscsi_lane.specs.Times.{AllUnder, IsUp}
use Rattle.iscsi_lane.specs.Lining.{IsLined, IsNew}
use Rattle.iscsi_lane.proofs.FollowLemmas.{due_without, filter_without}
use Rattle.iscsi_lane.proofs.LaneLemmas.{moved_here, moved_other, moved_room, moved_values}
use Rattle.iscsi_lane.proofs.StampLemmas.{under_goes, up_goes, within_at}
use Rattle.iscsi_lane.proofs.TurnLemmas.{filter_push, same_filter}

-- ---- the answers of which the lines don't tell

-- where one changes, and they tell of it as before
pub untold_set : (xs : List Standing) (s : ℕ) (x : Standing) (order : List ℕ) → s < length xs → is_untold x ≡ is_untold (at xs s) → filter (untold_at (set xs s x)) order ≡ filter (untold_at xs) order
untold_set xs s x order l same = same_filter (untold_at (set xs s x)) (untold_at xs) order (λ u there. ⊎_elim
    (λ (here : u ≡ s). ap (λ k. is_untold (at (set xs s x) k)) here ∙ ap is_untold (get_or-set_same xs s x NOBODY l) ∙ same ∙ ap (λ k. is_untold (at xs k)) (sym here))
    (λ other. ap is_untold (get_or-set_other xs s u x NOBODY other))
    (cases_eq u s))

pub untold_goes : (log t : Listed Standing) (s : ℕ) → t ≡ record log { lists = with_last 1 s (map (without s) log.lists) }
    → filter (untold_at t.values) (slots_at t 2) ≡ without s (filter (untold_at log.values) (slots_at log 2))
untold_goes log t s is =
    ap (λ v. filter (untold_at v) (slots_at t 2)) (moved_values log t 1 s is)
    ∙ ap (filter (untold_at log.values)) (moved_other log t 1 s is 2 (λ e. omega (arith, e))) ∙ filter_without (untold_at log.values) s (slots_at log 2)

-- a command owes less: what stands in the log then
module _ (log t : Listed Standing) (left : Left) (r : ℕ)
    (kept : owes left ≡ true → (r ≡ 0) × (t ≡ record log { values = set log.values left.command (IsLeft left) }))
    (gone : owes left ≡ false → (r ≡ 1) × (t ≡ record log { lists = with_last 0 left.command (map (without left.command) log.lists) })) where
  pub less_room : t.room ≡ log.room
  less_room = ⊎_elim
      (λ on. ap (λ (u : Listed Standing). u.room) (kept on).1)
      (λ off. moved_room log t 0 left.command (gone off).1)
      (cases_Bool (owes left))

  pub less_up : (ts : List ℕ) → IsUp ts (slots_at log 2) → IsUp ts (slots_at t 2)
  less_up ts up = ⊎_elim
      (λ on. subst (IsUp ts) (sym (ap (λ (u : Listed Standing). slots_at u 2) (kept on).1)) up)
      (λ off. subst (IsUp ts) (sym (moved_other log t 0 left.command (gone off).1 2 (λ e. omega (arith, e)))) (up_goes ts left.command (slots_at log 2) up))
      (cases_Bool (owes left))

  pub less_under : (ts : List ℕ) (n : ℕ) → AllUnder ts n (slots_at log 2) → AllUnder ts n (slots_at t 2)
  less_under ts n under = ⊎_elim
      (λ on. subst (AllUnder ts n) (sym (ap (λ (u : Listed Standing). slots_at u 2) (kept on).1)) under)
      (λ off. subst (AllUnder ts n) (sym (moved_other log t 0 left.command (gone off).1 2 (λ e. omega (arith, e)))) (under_goes ts left.command n (slots_at log 2) under))
      (cases_Bool (owes left))

  module _ (before : Left) (known : AreApart (linked_in log)) (long : length log.values ≡ log.room + 1) (there : 1 ≤ times left.command (slots_at log 2)) (is : at log.values left.command ≡ IsLeft before) where
    pub less_untold : filter (untold_at t.values) (slots_at t 2) ≡ filter (untold_at log.values) (slots_at log 2)
    less_untold = ⊎_elim
        (λ on.
        ap (λ (u : Listed Standing). filter (untold_at u.values) (slots_at u 2)) (kept on).1
        ∙ untold_set log.values left.command (IsLeft left) (slots_at log 2) (let a = within_at log known 2 left.command there in omega (arith, a, long)) (sym (ap is_untold is)))
        (λ off.
        ap (λ v. filter (untold_at v) (slots_at t 2)) (moved_values log t 0 left.command (gone off).1)
        ∙ ap (filter (untold_at log.values)) (moved_other log t 0 left.command (gone off).1 2 (λ e. omega (arith, e)))
        ∙ sym (due_without (untold_at log.values) (slots_at log 2) (filter (untold_at log.values) (slots_at log 2)) refl left.command (ap is_untold is)))
        (cases_Bool (owes left))

-- one comes
module _ (log p t : Listed Standing) (slot : ℕ) (x : Standing) (is_p : p ≡ record log { lists = with_last 2 slot (map (without slot) log.lists) }) (is_t : t ≡ record p { values = set p.values slot x }) (lists : length log.lists ≡ 3) (none : times slot (slots_at log 2) ≡ 0) where
  pub joined_room : t.room ≡ log.room
  joined_room = ap (λ (u : Listed Standing). u.room) is_t ∙ moved_room log p 2 slot is_p

  pub joined_order : slots_at t 2 ≡ slots_at log 2 ++ slot ∷ []
  joined_order =
      ap (λ (u : Listed Standing). slots_at u 2) is_t ∙ moved_here log p 2 slot is_p (omega (arith, lists))
      ∙ ap (λ q. q ++ slot ∷ []) (without_none slot (slots_at log 2) none)

  pub joined_untold : slot < length log.values → filter (untold_at t.values) (slots_at t 2) ≡ filter (untold_at log.values) (slots_at log 2) ++ cond (is_untold x) (slot ∷ []) []
  joined_untold l =
      let values : t.values ≡ set log.values slot x = ap (λ (u : Listed Standing). u.values) is_t ∙ ap (λ v. set v slot x) (moved_values log p 2 slot is_p) in
      ap (λ v. filter (untold_at v) (slots_at t 2)) values ∙ ap (filter (untold_at (set log.values slot x))) joined_order
      ∙ filter_push (untold_at (set log.values slot x)) (slots_at log 2) slot
      ∙ ap (λ r. r ++ filter (untold_at (set log.values slot x)) (slot ∷ []))
      (same_filter (untold_at (set log.values slot x)) (untold_at log.values) (slots_at log 2)
      (λ u there. ap is_untold (get_or-set_other log.values slot u x NOBODY (λ e. let a = ap (λ k. times k (slots_at log 2)) e in omega (arith, a, there, none)))))
      ∙ ap (λ b. filter (untold_at log.values) (slots_at log 2) ++ cond b (slot ∷ []) []) (ap is_untold (get_or-set_same log.values slot x NOBODY l))

-- nothing stands there yet
pub new_lined : (l : Lines) (log : Listed Standing) (room : ℕ) → IsNew l room → log.room ≡ room → slots_at log 2 ≡ [] → IsLined l log
new_lined l log room new same none = record {
  following = record {
    follows = record {
      of_units = subst (Mirrors AtUnit l.units log.values) (sym none) (record { lines = λ k. ap (slots_of k) new.units; items = λ k. tt });
      of_tags = subst (Mirrors Tag l.tags log.values) (sym none) (record { lines = λ k. ap (slots_of k) new.tags; items = λ k. tt });
      is_due = new.due ∙ ap (filter (told l.units l.tags log.values)) (sym none);
    };
    units_room = new.units_room ∙ sym same;
    tags_room = new.tags_room ∙ sym same;
    due_room = let a = new.due_room in omega (arith, a, same);
  };
  up = subst (IsUp l.stamps.items) (sym none) tt;
  under = subst (AllUnder l.stamps.items l.next) (sym none) tt;
  long = new.long ∙ ap (λ n. n + 1) (sym same);
  of_untold = new.untold ∙ sym (ap (filter (untold_at log.values)) none);
  untold_room = let a = new.untold_room in omega (arith, a, same);
  holders = new.holders ∙ ap (λ n. n + 1) (sym same);
  hints = λ t among. let a = ap (times t) new.untold in absurd (omega (arith, a, among));
}
