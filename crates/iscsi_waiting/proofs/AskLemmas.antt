-- What waits, as callers ask.
use Rattle.std.proofs.Common.{◌≡◌, ℕ, ◌-◌, ◌<◌, ◌≤◌, ◌&&◌, Bool, true, false, List, [], ◌∷◌, length, map, get_or, nat_lt, Some, None, refl, ap, sym, subst, ◌∙◌, arith, ⊎_elim, lt-ltb, le-ltb}
use Rattle.std.specs.List.{AllByRecursion, list_any}
use Rattle.std.proofs.lemmas.Bool.{and_from, and_left, and_right, cases_Bool, cases_eq, cases_lt, or_from, or_left, or_right}
use Rattle.iscsi_slots.specs.Slots.{times}
use Rattle.iscsi_lists.specs.Lists.{Listed, AreApart, first_of, linked_in, times_in, total}
use Rattle.iscsi_lists.proofs.WithoutLemmas.{times_same, times_other}
use Rattle.iscsi_outbox_state.specs.declared.waiting.Front.{Front}
use Rattle.iscsi_outbox_state.specs.Waits.{Entry, any_in, count_in, front_of, is_any, is_fenced_before, is_taking_before}
use Rattle.iscsi_waiting.specs.Kept.{AreKept, BLANK, IsBehind, IsBehindNone, entry_at, kept_at, kind_in, moments_of, queue_of, queues_of, waits_of}
use Rattle.iscsi_waiting.specs.Known.{AreWaiting, Ascend, IsFit}
use Rattle.iscsi_waiting.specs.Marks.{slots_at}
use Rattle.iscsi_waiting.specs.declared.slots.Kept.{Kept}
use Rattle.iscsi_waiting.specs.declared.slots.Slots.{Slots}
use Rattle.iscsi_waiting.proofs.AscendLemmas.{first_least}
use Rattle.iscsi_waiting.proofs.CountLemmas.{total_all}
use Rattle.iscsi_waiting.proofs.EnterLemmas.{kind_by}
use Rattle.iscsi_waiting.proofs.MarkLemmas.{stands_by, times_any, waits_by}
use Rattle.iscsi_waiting.proofs.ShownLemmas.{first_there, none_first, shown, shown_at}

-- ---- what holds of all

each_of : (P : Entry → Type 0) (g : ℕ → Entry) (slots : List ℕ) → ((s : ℕ) → 1 ≤ times s slots → P (g s)) → AllByRecursion P (map g slots)
each_of P g [] holds = tt
each_of P g (s ∷ slots) holds =
    let first : 1 ≤ times s (s ∷ slots) = (let a = times_same s s slots refl in omega (arith, a)) in
    (holds s first, each_of P g slots (λ t there. holds t (omega (arith, there))))

times_shown : (v : Listed Kept) (slots : List ℕ) → map (λ (e : Entry). e.time) (queue_of v slots) ≡ moments_of v slots
times_shown v [] = refl
times_shown v (s ∷ slots) = ap (λ (ms : List ℕ). (kept_at v s).time ∷ ms) (times_shown v slots)

pub all_waiting : (s : Slots) → AreKept s → AreApart (linked_in s.waiting) → AreWaiting (waits_of s)
all_waiting s kept known =
    let v = s.waiting in
    record {
      each = λ conn.
          subst (AllByRecursion (IsFit s.time (length s.owned.lists - 1))) (sym (shown_at (entry_at v) conn v.lists))
          (each_of (IsFit s.time (length s.owned.lists - 1)) (entry_at v) (slots_at v conn) (λ slot there. kept.fit slot (let a = times_any slot conn v.lists in omega (arith, a, there))));
      ascend = λ conn.
          subst (λ (q : List Entry). Ascend (map (λ (e : Entry). e.time) q)) (sym (shown_at (entry_at v) conn v.lists))
          (subst Ascend (sym (times_shown v (slots_at v conn))) (kept.ascend conn));
      room = let a = total_all (entry_at v) v.lists in let b = known.all in omega (arith, a, b);
    }

-- ---- how much room there is

module _ (v : Listed Kept) (known : AreApart (linked_in v)) where
  abbrev waiting : ℕ
  waiting = count_in is_any (record { queues = queues_of v; time = 0; commands = 0; room = 0 })

  pub all_taken : v.free ≡ [] → waiting ≡ v.room
  all_taken none = let a = total_all (entry_at v) v.lists in let b = known.all in let c = ap (λ (xs : List ℕ). length xs) none in omega (arith, a, b, c)

  pub some_left : 1 ≤ length v.free → waiting < v.room
  some_left some = let a = total_all (entry_at v) v.lists in let b = known.all in omega (arith, a, b, some)

  pub some_free : waiting < v.room → 1 ≤ length v.free
  some_free less = let a = total_all (entry_at v) v.lists in let b = known.all in omega (arith, a, b, less)

  pub few : total v.lists ≤ v.room
  few = let b = known.all in omega (arith, b)

-- ---- one connection

no_entries : (g : ℕ → Entry) (slots : List ℕ) → map g slots ≡ [] → slots ≡ []
no_entries g [] none = refl
no_entries g (s ∷ slots) none = let a = ap (λ (es : List Entry). length es) none in absurd (omega (arith, a))

pub queue_empty : (v : Listed Kept) (conn : ℕ) → slots_at v conn ≡ [] → get_or (queues_of v) conn [] ≡ []
queue_empty v conn none = shown_at (entry_at v) conn v.lists ∙ ap (queue_of v) none

pub slots_empty : (v : Listed Kept) (conn : ℕ) → get_or (queues_of v) conn [] ≡ [] → slots_at v conn ≡ []
slots_empty v conn none = no_entries (entry_at v) (slots_at v conn) (sym (shown_at (entry_at v) conn v.lists) ∙ none)

abbrev front_at : Kept → Front
front_at k = record { time = k.time; takes = k.item.takes; fenced = k.item.fenced }

front_in : (v : Listed Kept) (slots : List ℕ) (slot : ℕ) → first_of slots ≡ Some slot → Some (front_at (kept_at v slot)) ≡ front_of (queue_of v slots)
front_in v [] slot first = absurd (cc)
front_in v (s ∷ slots) slot first = let same : slot ≡ s = cc in ap (λ n. Some (front_at (kept_at v n))) same

pub front_is : (v : Listed Kept) (conn slot : ℕ) → first_of (slots_at v conn) ≡ Some slot → Some (front_at (kept_at v slot)) ≡ front_of (get_or (queues_of v) conn [])
front_is v conn slot first = front_in v (slots_at v conn) slot first ∙ ap front_of (sym (shown_at (entry_at v) conn v.lists))

pub front_none : (v : Listed Kept) (conn : ℕ) → first_of (slots_at v conn) ≡ None → None ≡ front_of (get_or (queues_of v) conn [])
front_none v conn none = sym (ap front_of (queue_empty v conn (none_first (slots_at v conn) none)))

-- ---- what entered before a time

module _ (s : Slots) (kept : AreKept s) (kind time : ℕ) (low : 1 ≤ kind) where
  pub behind_some : (slot : ℕ) → first_of (slots_at s.fence kind) ≡ Some slot → (kept_at s.waiting slot).time < time → IsBehind s.waiting kind time
  behind_some slot first lt =
      let at = waits_by BLANK kind_in s.waiting s.fence kept.fences kind slot low (first_there slot (slots_at s.fence kind) first) in
      record { slot = slot; waits = at.0; of_kind = at.1; before = lt }

  pub behind_none : (slot : ℕ) → first_of (slots_at s.fence kind) ≡ Some slot → time ≤ (kept_at s.waiting slot).time → IsBehindNone s.waiting kind time
  behind_none slot first le other waits of_kind =
      let least = first_least (λ n. (kept_at s.waiting n).time) slot (slots_at s.fence kind) first (kept.kinds_ascend kind low) other
      (stands_by BLANK kind_in s.waiting s.fence kept.fences kind other low of_kind waits) in omega (arith, least, le)

  pub behind_empty : first_of (slots_at s.fence kind) ≡ None → IsBehindNone s.waiting kind time
  behind_empty none other waits of_kind =
      let at = stands_by BLANK kind_in s.waiting s.fence kept.fences kind other low of_kind waits in
      let a = ap (times other) (none_first (slots_at s.fence kind) none) in absurd (omega (arith, at, a))

module _ (test : Entry → Bool) (g : ℕ → Entry) where
  any_at : (slot : ℕ) (slots : List ℕ) → 1 ≤ times slot slots → test (g slot) ≡ true → list_any test (map g slots) ≡ true
  any_at slot [] there is = absurd (omega (arith, there))
  any_at slot (s ∷ slots) there is = ⊎_elim
      (λ (same : s ≡ slot). or_left (test (g s)) (list_any test (map g slots)) (ap (λ n. test (g n)) same ∙ is))
      (λ other. or_right (test (g s)) (list_any test (map g slots)) (any_at slot slots (let a = times_other slot s slots other in omega (arith, a, there)) is))
      (cases_eq s slot)

  any_in_all : (slot : ℕ) (lists : List (List ℕ)) → 1 ≤ times_in slot lists → test (g slot) ≡ true → list_any (λ (q : List Entry). list_any test q) (shown g lists) ≡ true
  any_in_all slot [] there is = absurd (omega (arith, there))
  any_in_all slot (xs ∷ lists) there is = ⊎_elim
      (λ here. or_left (list_any test (map g xs)) (list_any (λ (q : List Entry). list_any test q) (shown g lists)) (any_at slot xs here is))
      (λ none. or_right (list_any test (map g xs)) (list_any (λ (q : List Entry). list_any test q) (shown g lists)) (any_in_all slot lists (omega (arith, none, there)) is))
      (cases_lt 0 (times slot xs))

  none_at : (slots : List ℕ) → ((s : ℕ) → 1 ≤ times s slots → test (g s) ≡ false) → list_any test (map g slots) ≡ false
  none_at [] isnt = refl
  none_at (s ∷ slots) isnt =
      let first : 1 ≤ times s (s ∷ slots) = (let a = times_same s s slots refl in omega (arith, a)) in
      or_from (test (g s)) (list_any test (map g slots)) (isnt s first) (none_at slots (λ t there. isnt t (omega (arith, there))))

  none_in_all : (lists : List (List ℕ)) → ((s : ℕ) → 1 ≤ times_in s lists → test (g s) ≡ false) → list_any (λ (q : List Entry). list_any test q) (shown g lists) ≡ false
  none_in_all [] isnt = refl
  none_in_all (xs ∷ lists) isnt =
      or_from (list_any test (map g xs)) (list_any (λ (q : List Entry). list_any test q) (shown g lists))
      (none_at xs (λ s there. isnt s (omega (arith, there)))) (none_in_all lists (λ s there. isnt s (omega (arith, there))))

fenced_is : (f t : Bool) → kind_by f t ≡ 1 → f ≡ true
fenced_is true t is = refl
fenced_is false true is = absurd (omega (arith, is))
fenced_is false false is = absurd (omega (arith, is))

takes_is : (f t : Bool) → kind_by f t ≡ 2 → t ≡ true
takes_is true t is = absurd (omega (arith, is))
takes_is false true is = refl
takes_is false false is = absurd (omega (arith, is))

takes_kind : (f t : Bool) → f ≡ false → t ≡ true → kind_by f t ≡ 2
takes_kind f t isnt is = ap (λ (v : Bool). kind_by v t) isnt ∙ ap (kind_by false) is

-- a test that something passes, which nothing at or after a time does
before_only : (v : Bool) (moment time : ℕ) → (v ≡ true → time ≤ moment) → (v && nat_lt moment time) ≡ false
before_only v moment time past = ⊎_elim
    (λ is. and_right v (nat_lt moment time) (le-ltb moment time (past is)))
    (λ isnt. and_left v (nat_lt moment time) isnt)
    (cases_Bool v)

pub behind_fence : (s : Slots) (time : ℕ) (answer : Bool) → (answer ≡ true → IsBehind s.waiting 1 time) → (answer ≡ false → IsBehindNone s.waiting 1 time) → answer ≡ any_in (is_fenced_before time) (waits_of s)
behind_fence s time true found unfound =
    let it = found refl in let k = kept_at s.waiting it.slot in
    sym (any_in_all (is_fenced_before time) (entry_at s.waiting) it.slot s.waiting.lists it.waits
    (and_from k.item.fenced (nat_lt k.time time) (fenced_is k.item.fenced k.item.takes it.of_kind) (lt-ltb k.time time it.before)))
behind_fence s time false found unfound =
    sym (none_in_all (is_fenced_before time) (entry_at s.waiting) s.waiting.lists (λ n there.
    let k = kept_at s.waiting n in
    before_only k.item.fenced k.time time (λ is. unfound refl n there (ap (λ (v : Bool). kind_by v k.item.takes) is))))

module _ (s : Slots) (time : ℕ) (kept : AreKept s) where
  pub behind_first : (answer : Bool) → answer ≡ true → IsBehind s.waiting 1 time → answer ≡ any_in (is_taking_before time) (waits_of s)
  behind_first answer is it =
      let k = kept_at s.waiting it.slot in
      is ∙ sym (any_in_all (is_taking_before time) (entry_at s.waiting) it.slot s.waiting.lists it.waits
      (and_from k.item.takes (nat_lt k.time time) ((kept.fit it.slot it.waits).fence (fenced_is k.item.fenced k.item.takes it.of_kind)) (lt-ltb k.time time it.before)))

  pub behind_second : (answer : Bool) → IsBehindNone s.waiting 1 time → (answer ≡ true → IsBehind s.waiting 2 time) → (answer ≡ false → IsBehindNone s.waiting 2 time) → answer ≡ any_in (is_taking_before time) (waits_of s)
  behind_second true unfenced found unfound =
      let it = found refl in let k = kept_at s.waiting it.slot in
      sym (any_in_all (is_taking_before time) (entry_at s.waiting) it.slot s.waiting.lists it.waits
      (and_from k.item.takes (nat_lt k.time time) (takes_is k.item.fenced k.item.takes it.of_kind) (lt-ltb k.time time it.before)))
  behind_second false unfenced found unfound =
      sym (none_in_all (is_taking_before time) (entry_at s.waiting) s.waiting.lists (λ n there.
      let k = kept_at s.waiting n in
      before_only k.item.takes k.time time (λ is. ⊎_elim
      (λ fenced. unfenced n there (ap (λ (v : Bool). kind_by v k.item.takes) fenced))
      (λ isnt. unfound refl n there (takes_kind k.item.fenced k.item.takes isnt is))
      (cases_Bool k.item.fenced))))
