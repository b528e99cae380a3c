-- Replies by their slots: each of them, the one with a log place, and tickets that go up.
use Rattle.std.proofs.Common.{◌≡◌, ℕ, zero, suc, ◌+◌, ◌<◌, ◌≤◌, ◌==◌, not, cond, Bool, true, false, List, [], ◌∷◌, ◌++◌, map, filter, find, get_or, Some, None, refl, ap, sym, subst, ◌∙◌, arith, ⊎_elim, eq-eqb, ne_eqb}
use Rattle.std.specs.List.{AllPairs}
use Rattle.std.proofs.lemmas.Bool.{cases_Bool, cases_eq, eqb-true}
use Rattle.std.proofs.lemmas.List.{map-append}
use Rattle.std.proofs.lemmas.List.Kept.{AllPairs-filter}
use Rattle.iscsi_slots.specs.Slots.{times, values}
use Rattle.iscsi_slots.proofs.SlotLemmas.{times_append}
use Rattle.iscsi_lists.specs.Lists.{Listed, times_in, without}
use Rattle.iscsi_lists.proofs.WithoutLemmas.{times_other, times_same}
use Rattle.iscsi_tickets.specs.Tickets.{value_of, without_ticket}
use Rattle.iscsi_requests.specs.declared.replies.WaitingReply.{WaitingReply}
use Rattle.iscsi_requests.specs.Replies.{IsAbove, all_of, has_log_place, without_log_place}
use Rattle.iscsi_requests.specs.Kept.{AllKept, IsKept, NO_REPLY, log_place_of, reply_at, ticket_of, values_in}
use Rattle.iscsi_requests.proofs.EntryLemmas.{Pair, of_ticket, same_some, value_first, value_later}
use Rattle.iscsi_requests.proofs.ValueLemmas.{times_there}

pub same_reply : (r s : WaitingReply) → Some r ≡ Some s → r ≡ s
same_reply r s e = cc

-- ---- log places and tickets

pub last_known : (n last : ℕ) → log_place_of n ≡ Some last → n ≡ last + 1
last_known zero last e = absurd (cc)
last_known (suc n) last e = let a = same_some n last e in omega (arith, a)

pub none_last : (n : ℕ) → log_place_of n ≡ None → n ≡ 0
none_last zero e = refl
none_last (suc n) e = absurd (cc)

pub above_last : (n log_place : ℕ) → IsAbove log_place (log_place_of n) → n < log_place + 1
above_last zero log_place above = omega arith
above_last (suc n) log_place above = let a = above n refl in omega (arith, a)

pub one_above : (log_place : ℕ) → log_place_of (log_place + 1) ≡ Some log_place
one_above log_place = let e : log_place + 1 ≡ suc log_place = omega arith in ap log_place_of e

-- ---- each of them

pub each_weaken : (kept more : Listed WaitingReply) (entries : List Pair) → ((e : Pair) → IsKept kept e → IsKept more e) → AllKept kept entries → AllKept more entries
each_weaken kept more [] change all = tt
each_weaken kept more (e ∷ entries) change all = (change e all.0, each_weaken kept more entries change all.1)

pub each_push : (kept : Listed WaitingReply) (entries : List Pair) (e : Pair) → AllKept kept entries → IsKept kept e → AllKept kept (entries ++ e ∷ [])
each_push kept [] e all last = (last, tt)
each_push kept (x ∷ entries) e all last = (all.0, each_push kept entries e all.1 last)

pub each_without : (kept more : Listed WaitingReply) (ticket : ℕ) (entries : List Pair) → ((e : Pair) → of_ticket ticket e ≡ false → IsKept kept e → IsKept more e) → AllKept kept entries
    → AllKept more (without_ticket ticket entries)
each_without kept more ticket [] change all = tt
each_without kept more ticket (e ∷ entries) change all =
    let rest = each_without kept more ticket entries change all.1 in
    elim (of_ticket ticket e) as (λ b. of_ticket ticket e ≡ b → AllKept more (cond (not b) (e ∷ without_ticket ticket entries) (without_ticket ticket entries))) [
      | true ↦ λ is. rest
      | false ↦ λ is. (change e is all.0, rest)
    ] refl

pub found_kept : (kept : Listed WaitingReply) (ticket slot : ℕ) (entries : List Pair) → AllKept kept entries → value_of ticket entries ≡ Some slot → IsKept kept (ticket, slot)
found_kept kept ticket slot [] all is = absurd (let no : None ≡ Some slot = is in cc)
found_kept kept ticket slot (e ∷ entries) all is = ⊎_elim
    (λ here.
    let same : e.1 ≡ slot = same_some e.1 slot (sym (value_first ticket e entries here) ∙ is) in
    record {
      ticket = ap (ticket_of kept.values) (sym same) ∙ all.0.ticket ∙ eqb-true e.0 ticket here;
      there = subst (λ n. 1 ≤ times_in n kept.lists) same all.0.there;
    })
    (λ later. found_kept kept ticket slot entries all.1 (sym (value_later ticket e entries later) ∙ is))
    (cases_Bool (of_ticket ticket e))

-- ---- the slots of all lists, one list behind the other

pub flat : List (List ℕ) → List ℕ
flat [] = []
flat (slots ∷ lists) = slots ++ flat lists

pub flat_times : (s : ℕ) (lists : List (List ℕ)) → times s (flat lists) ≡ times_in s lists
unfolding flat
flat_times s [] = refl
flat_times s (slots ∷ lists) = let a = times_append s slots (flat lists) in let b = flat_times s lists in omega (arith, a, b)

pub flat_values : (xs : List WaitingReply) (lists : List (List ℕ)) → all_of (values_in NO_REPLY xs lists) ≡ values NO_REPLY xs (flat lists)
unfolding flat
flat_values xs [] = refl
flat_values xs (slots ∷ lists) =
    ap (λ rs. values NO_REPLY xs slots ++ rs) (flat_values xs lists) ∙ sym (map-append (λ s. get_or xs s NO_REPLY) slots (flat lists))

module _ (xs : List WaitingReply) (log_place : ℕ) where
  abbrev is_it : ℕ → Bool
  is_it s = has_log_place log_place (reply_at xs s)

  pub find_it : (slot : ℕ) (slots : List ℕ) → ((s : ℕ) → 1 ≤ times s slots → is_it s ≡ (s == slot)) → 1 ≤ times slot slots → find (has_log_place log_place) (values NO_REPLY xs slots) ≡ Some (reply_at xs slot)
  find_it slot [] told there = absurd (omega (arith, there))
  find_it slot (s ∷ slots) told there =
      let here = told s (let a = times_same s s slots refl in omega (arith, a)) in
      let rest = values NO_REPLY xs slots in ⊎_elim
      (λ same. ap (λ b. cond b (Some (reply_at xs s)) (find (has_log_place log_place) rest)) (here ∙ eq-eqb s slot same) ∙ ap (λ n. Some (reply_at xs n)) same)
      (λ other.
      ap (λ b. cond b (Some (reply_at xs s)) (find (has_log_place log_place) rest)) (here ∙ ne_eqb s slot other)
      ∙ find_it slot slots (λ t some. told t (let a = more t in omega (arith, a, some))) (let a = times_other slot s slots other in omega (arith, a, there)))
      (cases_eq s slot)
    where
      more : (t : ℕ) → times t slots ≤ times t (s ∷ slots)
      more t = omega arith

  pub find_none : (slots : List ℕ) → ((s : ℕ) → 1 ≤ times s slots → is_it s ≡ false) → find (has_log_place log_place) (values NO_REPLY xs slots) ≡ None
  find_none [] none = refl
  find_none (s ∷ slots) none =
      ap (λ b. cond b (Some (reply_at xs s)) (find (has_log_place log_place) (values NO_REPLY xs slots))) (none s (let a = times_same s s slots refl in omega (arith, a)))
      ∙ find_none slots (λ t some. none t (omega (arith, some)))

  drop_it : (slot : ℕ) (slots : List ℕ) → ((s : ℕ) → 1 ≤ times s slots → is_it s ≡ (s == slot)) → values NO_REPLY xs (without slot slots) ≡ without_log_place log_place (values NO_REPLY xs slots)
  drop_it slot [] told = refl
  drop_it slot (s ∷ slots) told =
      let here = told s (let a = times_same s s slots refl in omega (arith, a)) in
      let rest = drop_it slot slots (λ t some. told t (omega (arith, some))) in
      let others = without_log_place log_place (values NO_REPLY xs slots) in
      elim (s == slot) as (λ b. values NO_REPLY xs (cond b (without slot slots) (s ∷ without slot slots)) ≡ cond (not b) (reply_at xs s ∷ others) others) [
        | true ↦ rest
        | false ↦ ap (λ rs. reply_at xs s ∷ rs) rest
      ]
      ∙ sym (ap (λ b. cond (not b) (reply_at xs s ∷ others) others) here)

  pub drop_all : (slot : ℕ) (lists : List (List ℕ)) → ((s : ℕ) → 1 ≤ times_in s lists → is_it s ≡ (s == slot))
      → values_in NO_REPLY xs (map (without slot) lists) ≡ map (without_log_place log_place) (values_in NO_REPLY xs lists)
  drop_all slot [] told = refl
  drop_all slot (slots ∷ lists) told =
      ap (λ r. r ∷ values_in NO_REPLY xs (map (without slot) lists)) (drop_it slot slots (λ s some. told s (omega (arith, some))))
      ∙ ap (λ ls. without_log_place log_place (values NO_REPLY xs slots) ∷ ls) (drop_all slot lists (λ s some. told s (omega (arith, some))))

  keep_it : (slots : List ℕ) → ((s : ℕ) → 1 ≤ times s slots → is_it s ≡ false) → without_log_place log_place (values NO_REPLY xs slots) ≡ values NO_REPLY xs slots
  keep_it [] none = refl
  keep_it (s ∷ slots) none =
      let others = without_log_place log_place (values NO_REPLY xs slots) in
      ap (λ b. cond (not b) (reply_at xs s ∷ others) others) (none s (let a = times_same s s slots refl in omega (arith, a)))
      ∙ ap (λ rs. reply_at xs s ∷ rs) (keep_it slots (λ t some. none t (omega (arith, some))))

  pub keep_all : (lists : List (List ℕ)) → ((s : ℕ) → 1 ≤ times_in s lists → is_it s ≡ false) → map (without_log_place log_place) (values_in NO_REPLY xs lists) ≡ values_in NO_REPLY xs lists
  keep_all [] none = refl
  keep_all (slots ∷ lists) none =
      ap (λ r. r ∷ map (without_log_place log_place) (values_in NO_REPLY xs lists)) (keep_it slots (λ s some. none s (omega (arith, some))))
      ∙ ap (λ ls. values NO_REPLY xs slots ∷ ls) (keep_all lists (λ s some. none s (omega (arith, some))))

-- ---- tickets that go up

pub up_same : (f g : ℕ → ℕ) (slots : List ℕ) → ((s : ℕ) → 1 ≤ times s slots → g s ≡ f s) → AllPairs (λ (s t : ℕ). f s < f t) slots → AllPairs (λ (s t : ℕ). g s < g t) slots
up_same f g slots same up i j d lt l =
    let a = same (get_or slots i d) (times_there slots i d (omega (arith, lt, l))) in
    let b = same (get_or slots j d) (times_there slots j d l) in
    let c = up i j d lt l in omega (arith, a, b, c)

without_filter : (s : ℕ) (slots : List ℕ) → without s slots ≡ filter (λ t. not (t == s)) slots
without_filter s [] = refl
without_filter s (t ∷ slots) =
    let rest = filter (λ u. not (u == s)) slots in
    elim (t == s) as (λ b. cond b (without s slots) (t ∷ without s slots) ≡ cond (not b) (t ∷ rest) rest) [
      | true ↦ without_filter s slots
      | false ↦ ap (λ r. t ∷ r) (without_filter s slots)
    ]

pub up_without : (f : ℕ → ℕ) (s : ℕ) (slots : List ℕ) → AllPairs (λ (x y : ℕ). f x < f y) slots → AllPairs (λ (x y : ℕ). f x < f y) (without s slots)
up_without f s slots up = subst (AllPairs (λ (x y : ℕ). f x < f y)) (sym (without_filter s slots)) (AllPairs-filter (λ (x y : ℕ). f x < f y) (λ t. not (t == s)) slots up)
