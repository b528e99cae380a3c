-- What waits, as all that is of a command is dropped or released, slot by slot.
use Rattle.std.proofs.Common.{◌≡◌, ◌≢◌, ℕ, ◌-◌, ◌<◌, ◌≤◌, ◌==◌, cond, not, Bool, true, false, List, [], ◌∷◌, length, map, filter, drop, get_or, Option, Some, None, unwrap_or, refl, ap, sym, subst, ◌∙◌, arith, ⊎_elim, eq-eqb}
use Rattle.std.proofs.lemmas.Bool.{cases_eq, eqb-true, false_from_ne_true, false≢true}
use Rattle.std.proofs.lemmas.List.{get_or-set_same, get_or-set_other, length-set, set-set}
use Rattle.iscsi_slots.specs.Slots.{times}
use Rattle.iscsi_lists.specs.Lists.{Listed, first_of, times_in, without, with_last}
use Rattle.iscsi_lists.proofs.WithoutLemmas.{length_without, times_same, without_same, without_other}
use Rattle.iscsi_outbox_state.specs.Waits.{Entry, Waits, dropped_of, dropped_on, entry, is_of, of_none, popped, queue_at, released, released_of}
use Rattle.iscsi_waiting.specs.Kept.{AreKept, BLANK, GoesTo, Leaves, LetsGo, entry_at, kept_at, let_go, place_in, waits_of}
use Rattle.iscsi_waiting.specs.Marks.{slots_at}
use Rattle.iscsi_waiting.specs.declared.slots.Kept.{Kept}
use Rattle.iscsi_waiting.specs.declared.slots.Slots.{Slots}
use Rattle.iscsi_waiting.proofs.EnterLemmas.{waits_same}
use Rattle.iscsi_waiting.proofs.MarkLemmas.{moved_other, stands_by, waits_by}
use Rattle.iscsi_waiting.proofs.ShownLemmas.{first_there, none_first, shown}

-- ---- of a command

of_place : (command : ℕ) (o : Option ℕ) → 1 ≤ command → unwrap_or o 0 ≡ command → (elim o as (λ x. Bool) [ Some c ↦ c == command | None ↦ false ]) ≡ true
of_place command None low is = absurd (omega (arith, low, is))
of_place command (Some c) low is = eq-eqb c command is

place_of_it : (command : ℕ) (o : Option ℕ) → (elim o as (λ x. Bool) [ Some c ↦ c == command | None ↦ false ]) ≡ true → unwrap_or o 0 ≡ command
place_of_it command None is = absurd (false≢true is)
place_of_it command (Some c) is = eqb-true c command is

module _ (command : ℕ) where
  abbrev others : List Entry → List Entry
  others q = filter (λ (e : Entry). not (is_of command e)) q

  -- without one of them, the others are the same
  others_out : (g : ℕ → Entry) (slot : ℕ) → is_of command (g slot) ≡ true → (slots : List ℕ) → others (map g (without slot slots)) ≡ others (map g slots)
  others_out g slot is [] = refl
  others_out g slot is (s ∷ slots) =
      let rest : others (map g (without slot slots)) ≡ others (map g slots) = others_out g slot is slots in
      ⊎_elim
      (λ (same : s ≡ slot).
      ap (λ (xs : List ℕ). others (map g xs)) (without_same slot s slots same) ∙ rest
      ∙ sym (ap (λ (v : Bool). cond (not v) (g s ∷ others (map g slots)) (others (map g slots))) (ap (λ n. is_of command (g n)) same ∙ is)))
      (λ other.
      ap (λ (xs : List ℕ). others (map g xs)) (without_other slot s slots other)
      ∙ ap (λ (es : List Entry). cond (not (is_of command (g s))) (g s ∷ es) es) rest)
      (cases_eq s slot)

  all_out : (g : ℕ → Entry) (slot : ℕ) → is_of command (g slot) ≡ true → (lists : List (List ℕ)) → map others (shown g (map (without slot) lists)) ≡ map others (shown g lists)
  all_out g slot is [] = refl
  all_out g slot is (xs ∷ lists) =
      ap (λ (q : List Entry). q ∷ map others (shown g (map (without slot) lists))) (others_out g slot is xs)
      ∙ ap (λ (qs : List (List Entry)). others (map g xs) ∷ qs) (all_out g slot is lists)

  -- where there is none, the others are all
  others_all : (g : ℕ → Entry) (slots : List ℕ) → ((s : ℕ) → 1 ≤ times s slots → is_of command (g s) ≡ false) → others (map g slots) ≡ map g slots
  others_all g [] none = refl
  others_all g (s ∷ slots) none =
      let first : 1 ≤ times s (s ∷ slots) = (let a = times_same s s slots refl in omega (arith, a)) in
      ap (λ (v : Bool). cond (not v) (g s ∷ others (map g slots)) (others (map g slots))) (none s first)
      ∙ ap (λ (es : List Entry). g s ∷ es) (others_all g slots (λ t there. none t (omega (arith, there))))

  all_others : (g : ℕ → Entry) (lists : List (List ℕ)) → ((s : ℕ) → 1 ≤ times_in s lists → is_of command (g s) ≡ false) → map others (shown g lists) ≡ shown g lists
  all_others g [] none = refl
  all_others g (xs ∷ lists) none =
      ap (λ (q : List Entry). q ∷ map others (shown g lists)) (others_all g xs (λ s there. none s (omega (arith, there))))
      ∙ ap (λ (qs : List (List Entry)). map g xs ∷ qs) (all_others g lists (λ s there. none s (omega (arith, there))))

  -- ---- released

  abbrev free : List Entry → List Entry
  free q = map (released command) q

  free_same : (g h : ℕ → Entry) → ((s : ℕ) → released command (h s) ≡ released command (g s)) → (slots : List ℕ) → free (map h slots) ≡ free (map g slots)
  free_same g h same [] = refl
  free_same g h same (s ∷ slots) = ap (λ (e : Entry). e ∷ free (map h slots)) (same s) ∙ ap (λ (es : List Entry). released command (g s) ∷ es) (free_same g h same slots)

  all_free_same : (g h : ℕ → Entry) → ((s : ℕ) → released command (h s) ≡ released command (g s)) → (lists : List (List ℕ)) → map free (shown h lists) ≡ map free (shown g lists)
  all_free_same g h same [] = refl
  all_free_same g h same (xs ∷ lists) =
      ap (λ (q : List Entry). q ∷ map free (shown h lists)) (free_same g h same xs) ∙ ap (λ (qs : List (List Entry)). free (map g xs) ∷ qs) (all_free_same g h same lists)

  free_all : (g : ℕ → Entry) (slots : List ℕ) → ((s : ℕ) → 1 ≤ times s slots → is_of command (g s) ≡ false) → free (map g slots) ≡ map g slots
  free_all g [] none = refl
  free_all g (s ∷ slots) none =
      let first : 1 ≤ times s (s ∷ slots) = (let a = times_same s s slots refl in omega (arith, a)) in
      ap (λ (v : Bool). cond v (entry (g s).time (of_none (g s).item)) (g s) ∷ free (map g slots)) (none s first)
      ∙ ap (λ (es : List Entry). g s ∷ es) (free_all g slots (λ t there. none t (omega (arith, there))))

  all_free : (g : ℕ → Entry) (lists : List (List ℕ)) → ((s : ℕ) → 1 ≤ times_in s lists → is_of command (g s) ≡ false) → map free (shown g lists) ≡ shown g lists
  all_free g [] none = refl
  all_free g (xs ∷ lists) none =
      ap (λ (q : List Entry). q ∷ map free (shown g lists)) (free_all g xs (λ s there. none s (omega (arith, there))))
      ∙ ap (λ (qs : List (List Entry)). map g xs ∷ qs) (all_free g lists (λ s there. none s (omega (arith, there))))

-- ---- while some of it waits

module _ (command : ℕ) (now : Slots) (kept : AreKept now) (low : 1 ≤ command) (slot : ℕ) (first : first_of (slots_at now.owned command) ≡ Some slot) where
  by_mark : (1 ≤ times_in slot now.waiting.lists) × (place_in (kept_at now.waiting slot) ≡ command)
  by_mark = waits_by BLANK place_in now.waiting now.owned kept.commands command slot low (first_there slot (slots_at now.owned command) first)

  pub it_waits : 1 ≤ times_in slot now.waiting.lists
  it_waits = by_mark.0

  is_of_it : is_of command (entry_at now.waiting slot) ≡ true
  is_of_it = of_place command ((kept_at now.waiting slot).item.command) low by_mark.1

  module _ (next : Slots) (goes : GoesTo now.owned next.owned 0 slot) where
    abbrev moved : Listed ℕ
    moved = record now.owned { lists = with_last 0 slot (map (without slot) now.owned.lists) }

    pub lists_long : length next.owned.lists ≡ length now.owned.lists
    lists_long = goes.long

    pub shorter : length (slots_at next.owned command) < length (slots_at now.owned command)
    shorter =
        let a : length (slots_at next.owned command) ≡ length (without slot (slots_at now.owned command)) =
        ap (λ (xs : List ℕ). length xs) (goes.lists command low ∙ moved_other now.owned moved 0 slot refl command (λ e. omega (arith, e, low))) in
        let b = length_without slot (slots_at now.owned command) in
        let c = first_there slot (slots_at now.owned command) first in omega (arith, a, b, c)

  pub drop_more : (next : Slots) → Leaves now next slot → dropped_of command (waits_of next) ≡ dropped_of command (waits_of now)
  drop_more next left =
      let v = now.waiting in
      waits_same (dropped_of command (waits_of next)) (dropped_of command (waits_of now))
      (ap (λ (ls : List (List ℕ)). map (others command) (map (λ (slots : List ℕ). map (entry_at next.waiting) slots) ls)) left.lists
      ∙ ap (λ (xs : List Kept). map (others command) (map (λ (slots : List ℕ). map (λ s. let k = get_or xs s BLANK in entry k.time k.item) slots) (map (without slot) v.lists))) left.values
      ∙ all_out command (entry_at v) slot is_of_it v.lists)
      left.time (ap (λ n. n - 1) (lists_long next left.owned)) left.room

  -- what is released gives the same as before
  module _ (next : Slots) (gone : LetsGo now next slot) (within : slot < length now.waiting.values) where
    released_at : (s : ℕ) → released command (entry_at next.waiting s) ≡ released command (entry_at now.waiting s)
    released_at s = ⊎_elim
        (λ (same : s ≡ slot).
        subst (λ n. released command (entry_at next.waiting n) ≡ released command (entry_at now.waiting n)) (sym same)
        (ap (λ (k : Kept). released command (entry k.time k.item)) let_here
        ∙ sym (ap (λ (v : Bool). cond v (entry (kept_at now.waiting slot).time (of_none (kept_at now.waiting slot).item)) (entry_at now.waiting slot)) is_of_it)))
        (λ other. ap (λ (k : Kept). released command (entry k.time k.item)) (let_other s other))
        (cases_eq s slot)
      where
        let_here : kept_at next.waiting slot ≡ let_go (kept_at now.waiting slot)
        let_here = ap (λ (xs : List Kept). get_or xs slot BLANK) gone.values ∙ get_or-set_same now.waiting.values slot (let_go (kept_at now.waiting slot)) BLANK within

        let_other : (s : ℕ) → s ≢ slot → kept_at next.waiting s ≡ kept_at now.waiting s
        let_other s other = ap (λ (xs : List Kept). get_or xs s BLANK) gone.values ∙ get_or-set_other now.waiting.values slot s (let_go (kept_at now.waiting slot)) BLANK other

    pub release_more : released_of command (waits_of next) ≡ released_of command (waits_of now)
    release_more =
        waits_same (released_of command (waits_of next)) (released_of command (waits_of now))
        (ap (λ (ls : List (List ℕ)). map (free command) (map (λ (slots : List ℕ). map (entry_at next.waiting) slots) ls)) gone.lists
        ∙ all_free_same command (entry_at now.waiting) (entry_at next.waiting) released_at now.waiting.lists)
        gone.time (ap (λ n. n - 1) (lists_long next gone.owned)) gone.room

-- ---- where none of it waits

module _ (command : ℕ) (now : Slots) (kept : AreKept now) (low : 1 ≤ command) (none : first_of (slots_at now.owned command) ≡ None) where
  of_none_of_it : (s : ℕ) → 1 ≤ times_in s now.waiting.lists → is_of command (entry_at now.waiting s) ≡ false
  of_none_of_it s there = false_from_ne_true (is_of command (entry_at now.waiting s)) (λ is.
      let at = stands_by BLANK place_in now.waiting now.owned kept.commands command s low (place_of_it command ((kept_at now.waiting s).item.command) is) there in
      let a = ap (times s) (none_first (slots_at now.owned command) none) in omega (arith, at, a))

  pub drop_done : waits_of now ≡ dropped_of command (waits_of now)
  drop_done = ap (λ (qs : List (List Entry)). record (waits_of now) { queues = qs }) (sym (all_others command (entry_at now.waiting) now.waiting.lists of_none_of_it))

  pub release_done : waits_of now ≡ released_of command (waits_of now)
  release_done = ap (λ (qs : List (List Entry)). record (waits_of now) { queues = qs }) (sym (all_free command (entry_at now.waiting) now.waiting.lists of_none_of_it))

-- ---- all that waits on a connection is dropped, one by one

module _ (v w : Waits) (conn : ℕ) (is : w ≡ popped conn v) where
  pub on_within : length w.queues ≡ length v.queues
  on_within = ap (λ (u : Waits). length u.queues) is ∙ length-set v.queues conn (drop 1 (queue_at v conn))

  pub on_more : dropped_on conn w ≡ dropped_on conn v
  on_more = ap (dropped_on conn) is ∙ ap (λ (qs : List (List Entry)). record v { queues = qs }) (set-set v.queues conn (drop 1 (queue_at v conn)) [])
