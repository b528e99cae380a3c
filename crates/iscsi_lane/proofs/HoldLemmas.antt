-- What holds back the answers of which the lines don't tell; and that the lines tell what is due where these are held back.
use Rattle.std.proofs.Common.{◌≡◌, ℕ, ◌<◌, ◌≤◌, ◌&&◌, not, true, false, List, [], ◌∷◌, ◌++◌, length, filter, Option, Some, None, refl, ap, sym, subst, ◌∙◌, arith, ⊎_elim}
use Rattle.std.specs.List.{list_any}
use Rattle.std.proofs.lemmas.Bool.{cases_Bool, cases_eq, cases_lt, or_parts}
use Rattle.std.proofs.lemmas.List.{append-nil}
use Rattle.iscsi_slots.specs.Slots.{times}
use Rattle.iscsi_slots.proofs.SlotLemmas.{times_append}
use Rattle.iscsi_lists.specs.Lists.{AreApart, Listed, linked_in}
use Rattle.iscsi_lists.proofs.WithoutLemmas.{append_one, times_other}
use Rattle.iscsi_lines.proofs.MoveLemmas.{stands_in as listed_in}
use Rattle.iscsi_outbox_state.specs.declared.lane.Undue.{Undue}
use Rattle.iscsi_outbox_state.specs.declared.lane.Standing.{Standing}
use Rattle.iscsi_outbox_state.specs.declared.lane.Standing.TheVariants.{Left as IsLeft, Undue as IsUndue}
use Rattle.iscsi_outbox_state.specs.Lane.{holds_back, is_of_logout}
use Rattle.iscsi_scopes.specs.Scopes.{Scoped}
use Rattle.iscsi_lane.specs.Standings.{at, slots_at, standings}
use Rattle.iscsi_lane.specs.Scoping.{is_untold, told, told_of, untold_at}
use Rattle.iscsi_lane.specs.Times.{AllAfter, IsUp, time_of}
use Rattle.iscsi_lane.specs.Following.{FollowsLog}
use Rattle.iscsi_lane.specs.Walking.{IsHeld, IsHeldAt, IsWalk, before_slot}
use Rattle.iscsi_lane.proofs.DropLemmas.{alone, stands}
use Rattle.iscsi_lane.proofs.DueLemmas.{AllTold, Tells}
use Rattle.iscsi_lane.proofs.FollowLemmas.{and_none, no_line_of}
use Rattle.iscsi_lane.proofs.OrderLemmas.{back_after, stands_in, times_filter}
use Rattle.iscsi_lane.proofs.StampLemmas.{once_at}
use Rattle.iscsi_lane.proofs.ToldLemmas.{tells}
use Rattle.iscsi_lane.proofs.WalkLemmas.{any_at, before_it}

-- a slot whose list is told, where none is free
pub listed_there : (log : Listed Standing) → log.free ≡ [] → AreApart (linked_in log) → (slot list told : ℕ) → 1 ≤ slot → slot ≤ log.room
    → ((k : ℕ) → k < length log.lists → 1 ≤ times slot (slots_at log k) → told ≡ k) → told ≡ list → 1 ≤ times slot (slots_at log list)
listed_there log free known slot list told low high tells_it is =
    let one = known.once slot low high in let a = ap (times slot) free in
    let p = listed_in slot log.lists (omega (arith, one, a)) in
    let e : p.list ≡ list = sym (tells_it p.list p.within p.there) ∙ is in
    subst (λ k. 1 ≤ times slot (slots_at log k)) e p.there

after_there : (ts : List ℕ) (n s : ℕ) (slots : List ℕ) → AllAfter ts n slots → 1 ≤ times s slots → n < time_of ts s
after_there ts n s [] all there = absurd (omega (arith, there))
after_there ts n s (y ∷ ys) all there = ⊎_elim
    (λ (same : y ≡ s). subst (λ k. n < time_of ts k) same all.0)
    (λ other. let a = times_other s y ys other in after_there ts n s ys all.1 (omega (arith, a, there)))
    (cases_eq y s)

-- what came before an answer, and holds it back
pub holds_any : (ts order : List ℕ) (xs : List Standing) (a : Undue) (slot before : ℕ) → IsUp ts order → times slot order ≤ 1 → 1 ≤ times slot order → 1 ≤ times before order → time_of ts before < time_of ts slot
    → holds_back a (at xs before) ≡ true → list_any (holds_back a) (standings xs (before_slot slot order)) ≡ true
holds_any ts order xs a slot before up once there there_before earlier on =
    let p = stands_in slot order there in
    let after = back_after ts slot p.front p.back (subst (IsUp ts) p.at_it up) in
    let in_front : 1 ≤ times before p.front = ⊎_elim
    (λ some. some)
    (λ none.
    let e = ap (times before) p.at_it in let b = times_append before p.front (slot ∷ p.back) in
    ⊎_elim
    (λ (same : slot ≡ before). let d = ap (time_of ts) same in absurd (omega (arith, d, earlier)))
    (λ other.
    let d = times_other before slot p.back other in
    let late = after_there ts (time_of ts slot) before p.back after (omega (arith, e, b, d, none, there_before)) in absurd (omega (arith, late, earlier)))
    (cases_eq slot before))
    (cases_lt 0 (times before p.front)) in
    let q = stands_in before p.front in_front in
    ap (λ r. list_any (holds_back a) (standings xs r))
    (ap (before_slot slot) p.at_it ∙ before_it slot p.front p.back (alone order p.front slot p.back p.at_it once).0 ∙ q.at_it)
    ∙ any_at (holds_back a) xs q.front before q.back on

-- a walk from a slot on
pub starts : (order : List ℕ) (o : Option ℕ) → ((s : ℕ) → o ≡ Some s → 1 ≤ times s order) → IsWalk order (λ front back. Unit {0}) o
starts order None there = record { front = order; back = []; parts = sym (append-nil order); first = refl; holds = tt }
starts order (Some s) there =
    let p = stands_in s order (there s refl) in record { front = p.front; back = s ∷ p.back; parts = p.at_it; first = refl; holds = tt }

-- ---- where they are held back, the lines tell

module _ (log : Listed Standing) (units tags : Scoped) (due : List ℕ) (capacity : ℕ) (f : FollowsLog log units tags due capacity) (known : AreApart (linked_in log))
    (held : (t : ℕ) → 1 ≤ times t (filter (untold_at log.values) (slots_at log 2)) → IsHeldAt log t) where
  abbrev order : List ℕ
  order = slots_at log 2

  once : (t : ℕ) → times t order ≤ 1
  once t = once_at log known 2 t

  tells_at : (s : ℕ) (front back : List ℕ) (x : Standing) → order ≡ front ++ s ∷ back → at log.values s ≡ x → Tells log.values (told units tags log.values) front s x
  tells_at s front back (IsLeft c) at_it is = ap (told_of units tags s) is
  tells_at s front back (IsUndue a) at_it is = ⊎_elim
      (λ (on : is_untold (IsUndue a) ≡ true).
      let before = ap (before_slot s) at_it ∙ before_it s front back (alone order front s back at_it (once s)).0 in
      let there = stands order front s back at_it in
      let few = times_filter s (untold_at log.values) order (ap is_untold is ∙ on) in
      let h = subst (IsHeld (standings log.values front)) is (subst (λ q. IsHeld (standings log.values q) (at log.values s)) before (held s (omega (arith, few, there)))) in
      ap (told_of units tags s) is ∙ ap (λ b. not a.uncleared && b) (no_line_of units tags s a.aim h.0).not_due ∙ and_none (not a.uncleared)
      ∙ sym (ap (λ b. not a.uncleared && not b) h.1 ∙ and_none (not a.uncleared)))
      (λ (off : is_untold (IsUndue a) ≡ false).
      tells units tags log.values order f.follows.of_units f.follows.of_tags once s front back (IsUndue a) at_it is (or_parts (is_of_logout a.aim) a.ends off))
      (cases_Bool (is_untold (IsUndue a)))

  told_behind : (front back : List ℕ) → order ≡ front ++ back → AllTold log.values (told units tags log.values) front back
  told_behind front [] at_it = tt
  told_behind front (s ∷ back) at_it = (tells_at s front back (at log.values s) at_it refl, told_behind (front ++ s ∷ []) back (at_it ∙ append_one front back s))

  pub all_told : AllTold log.values (told units tags log.values) [] order
  all_told = told_behind [] order refl
